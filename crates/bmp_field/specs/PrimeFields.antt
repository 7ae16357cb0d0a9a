-- What is seen of a prime field.
--   size_of f     how many elements it has
use Rattle.std.specs.Prelude.{ℕ}
use Rattle.bmp_field.specs.declared.prime.PrimeField.{PrimeField}

abbrev pub size_of : PrimeField → ℕ
size_of f = f.prime
