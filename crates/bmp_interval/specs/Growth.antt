-- How a list of elements grows.
--   IsAdded old new x            x is there already, or it goes last
--   IsTimes x s e                e is the product of x and s
--   IsGrowing s n old new        the products of the first n members with s were added
use Rattle.std.specs.Prelude.{◌≡◌, ℕ, ◌<◌, ◌⊎◌, List, [], ◌∷◌, ◌++◌, length, slice_index_or}
use Rattle.bmp_math.specs.Lists.{Member, HasEachOnce}
use Rattle.bmp_roots.specs.RootPairs.{CartanMatrix, HasCartanForm}
use Rattle.bmp_weyl.specs.Elements.{IsProduct}
use Rattle.bmp_weyl.specs.declared.elem.Elem.{Elem}

-- x is in the list already, which stays, or it is new and goes last
abbrev pub IsAdded : {X : Type 0} → List X → List X → X → Type 0
IsAdded old new x = (Member x old × (new ≡ old)) ⊎ ((Member x old → ⊥) × (new ≡ old ++ x ∷ []))

-- for all words of x and s
abbrev pub IsTimes : Elem → Elem → Elem → Type 0
IsTimes x s e = (m : CartanMatrix) (u w : List ℕ) → HasCartanForm m
    → IsProduct m u x → IsProduct m w s → IsProduct m (u ++ w) e

pub record IsGrowing (s : Elem) (n : ℕ) (old new : List Elem) : Type 0 where
  pub once : HasEachOnce old → HasEachOnce new
  pub kept_old : (e : Elem) → Member e old → Member e new
  pub place_kept : (i : ℕ) (d : Elem) → i < length old
      → slice_index_or new i d ≡ slice_index_or old i d
  pub longer : (i : ℕ) → i < length old → i < length new
  pub each : (e : Elem) → Member e new → Member e old ⊎ ((x : Elem) × Member x old × IsTimes x s e)
  pub done : (i : ℕ) (d : Elem) → i < n → i < length old
      → (e : Elem) × Member e new × IsTimes (slice_index_or old i d) s e
