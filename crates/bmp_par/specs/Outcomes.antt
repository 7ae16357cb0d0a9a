-- What tasks and pieces come to, whoever ran them.
--   AllGiven gives outs           each result is one that the task of its number may give
--   AllLeft leaves before after   as many pieces as before, and each is as its work may leave it
use Rattle.std.specs.Prelude.{◌≡◌, ◌<◌, ℕ, List, length, slice_index_or}

abbrev pub AllGiven : {A : Type 0} → (ℕ → A → Type 0) → List A → Type 0
AllGiven {A = A} gives outs = (i : ℕ) (d : A) → i < length outs → gives i (slice_index_or outs i d)

abbrev pub AllLeft : {A : Type 0} → (A → A → Type 0) → List A → List A → Type 0
AllLeft {A = A} leaves before after =
    (length after ≡ length before)
    × ((i : ℕ) (d : A) → i < length before → leaves (slice_index_or before i d) (slice_index_or after i d))
