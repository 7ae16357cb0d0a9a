-- One step of a reduction by a linear form c with its leading variable at place l, and one of a product.
--   IsMultipleAdded p w r d c s f a b    b is a with s times the linear form times the monomial f added
--   IsTermReplaced p w r d c l e a b     the multiple of e divided by the leading variable is added
--                                        which takes e away
--   IsShiftAdded p w r d s m b a c       c is a with s times the monomial m times b added
use Rattle.std.specs.Prelude.{ℕ, ◌+◌, ◌*◌, List}
use Rattle.bmp_math.specs.Congruences.{SameMod}
use Rattle.bmp_poly.specs.Exponents.{IsMonomial}
use Rattle.bmp_poly.specs.Forms.{Form, SameForm, times_label, unit_form, lowered}
use Rattle.bmp_poly.specs.Shifts.{shift}

abbrev pub IsMultipleAdded : ℕ → ℕ → ℕ → ℕ → (ℕ → ℕ) → ℕ → List ℕ → Form → Form → Type 0
IsMultipleAdded p w r d c s f a b =
    (m : List ℕ) → IsMonomial w r d m → SameMod p (b m) (a m + s * times_label r c (unit_form r f) m)

pub record IsTermReplaced (p w r d : ℕ) (c : ℕ → ℕ) (l : ℕ) (e : List ℕ) (a b : Form) : Type 0 where
  pub factor : ℕ
  pub cleared : SameMod p (a e + factor * c l) 0
  pub added : IsMultipleAdded p w r d c factor (lowered l e) a b

abbrev pub IsShiftAdded : ℕ → ℕ → ℕ → ℕ → ℕ → List ℕ → Form → Form → Form → Type 0
IsShiftAdded p w r d s m b a c = SameForm p w r d c (λ h. a h + s * shift m b h)
