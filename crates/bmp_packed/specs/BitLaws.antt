-- The numbers 0 and 1 are a field. The law that `BitField` cites, with its proof.
--   bit_laws     the values of `BitField`, which are 0 and 1, keep the laws of a field
use Rattle.std.proofs.Common.{◌≡◌, ◌≢◌, ℕ, ◌*◌, ◌%◌, ◌<◌, arith}
use Rattle.bmp_field.specs.FieldLaws.{FieldLaws}
use Rattle.bmp_packed.specs.declared.bit_field.BitField.{BitField}

is_one : (n : ℕ) → n < 2 → n ≢ 0 → (n * 1) % 2 ≡ 1
is_one n below other = omega arith

pub bit_laws : FieldLaws (λ (f : BitField). 2) (λ (f : BitField) (a : ℕ). a < 2) (λ f a. a)
bit_laws = record {
  at_least_two = λ f. omega arith;
  at_most_256 = λ f. omega arith;
  below_size = λ f a h. h;
  same_number = λ f a b _ _ e. e;
  each_number = λ f n h. (n, h, λ _. n);
  inverse = λ f n below other. (1, omega arith, is_one n below other);
}
