-- Values with several owners, in lists.
use Rattle.std.proofs.Common.{◌≡◌, ℕ, ◌<◌, List, length, map, get_or, sym, ap, subst, ◌∙◌, arith}
use Rattle.std.specs.List.{All}
use Rattle.std.specs.Arc.{arc_value}
use Rattle.std.specs.declared.sync.Arc.{Arc}
use Rattle.std.proofs.lemmas.List.{get_or-map, length-map}

module _ {X Z : Type 0} (xs : List (Arc X Z)) (k : ℕ) (x : Arc X Z) (inside : k < length xs) (read : x ≡ get_or xs k x)
  where
    pub value_read : (d : X) → arc_value x ≡ get_or (map arc_value xs) k d
    value_read d = ap arc_value read ∙ sym (get_or-map arc_value xs k x d inside)

    pub value_of_all : (P : X → Type 0) → All P (map arc_value xs) → P (arc_value x)
    value_of_all P all =
        subst P (sym (value_read (arc_value x))) (all k (arc_value x) (omega (arith, inside, length-map xs arc_value)))
