-- Members of a list, of any type.
--   Member x xs         x is one of the members
--   HasEachOnce xs      no member stands twice
use Rattle.std.specs.Prelude.{◌≡◌, ◌⊎◌, List, [], ◌∷◌}

abbrev pub Member : {X : Type 0} → X → List X → Type 0
Member x [] = ⊥
Member x (y ∷ ys) = (x ≡ y) ⊎ Member x ys

abbrev pub HasEachOnce : {X : Type 0} → List X → Type 0
HasEachOnce [] = Unit {0}
HasEachOnce (x ∷ xs) = (Member x xs → ⊥) × HasEachOnce xs
