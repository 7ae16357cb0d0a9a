-- What the laws of a field say of its size.
use Rattle.std.proofs.Common.{ℕ}
use Rattle.bmp_field.specs.FieldLaws.{FieldLaws}
use Rattle.bmp_elim.specs.Laws.{HasInverses}

pub field_inverses : {F E : Type 0} {size : F → ℕ} {is_value : F → E → Type 0} {num : F → E → ℕ} →
    FieldLaws size is_value num → (f : F) → HasInverses (size f)
field_inverses laws f = record { at_least_two = laws.at_least_two f; inverse = laws.inverse f }
