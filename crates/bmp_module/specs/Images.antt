-- Images of the generators of a free module.
--   AreImages is_element degree gs es     one element for each of the degrees gs, of that degree
--   image_coordinates coordinate es h     the coordinates of the h-th element, and 0 past the last
use Rattle.std.specs.Prelude.{◌≡◌, ℕ, zero, suc, ◌<◌, List, [], ◌∷◌, length, All, slice_index}
use Rattle.std.specs.List.{slice_index_or}

pub record AreImages {E : Type 0} (is_element : E → Type 0) (degree : E → ℕ) (gs : List ℕ) (es : List E) : Type 0 where
  pub counted : length es ≡ length gs
  pub elements : All is_element es
  pub degrees : (h : ℕ) (e : E) → h < length es → degree (slice_index_or es h e) ≡ slice_index gs h

unfoldable pub image_coordinates : {E : Type 0} → (E → ℕ → ℕ) → List E → ℕ → ℕ → ℕ
image_coordinates coordinate [] h = λ j. 0
image_coordinates coordinate (e ∷ es) zero = coordinate e
image_coordinates coordinate (e ∷ es) (suc h) = image_coordinates coordinate es h
