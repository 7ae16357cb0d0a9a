-- The machine's pairs as root pairs, and what a refusal says.
--   coordinates v              the vector with the numbers of the list v, and 0 past them
--   root_pair root coroot      the pair with these coordinates
--   pair_of p, pairs_of ps     a pair, and a list of pairs, of the machine
--   positives_of rank ps       the pairs of the list whose root is positive
--   Fails kind list q          the first test that q fails after the list is the one of this kind
--   IsRefused m kind q         q is the first result that a limit forbids, and the kind is the first test that it fails
use Rattle.std.specs.Prelude.{◌≡◌, ℕ, List, map, filter, not, length, ℤ, pos, slice_index_or}
use Rattle.bmp_roots.specs.RootPairs.{CartanMatrix, Vector, RootPair, IsSmall, HasOneSign}
use Rattle.bmp_roots.specs.PositiveRoots.{has_negative}
use Rattle.bmp_roots.specs.Closing.{IsGrown, IsNext}
use Rattle.bmp_roots.specs.declared.root_pair.Pair.{Pair}
use Rattle.bmp_roots.specs.declared.refusal.FiniteKind.{FiniteKind}
use Rattle.bmp_roots.specs.declared.refusal.FiniteKind.TheVariants.{Pairs, Coordinate, Sign}

abbrev pub coordinates : List ℤ → Vector
coordinates v j = slice_index_or v j (pos 0)

abbrev pub root_pair : List ℤ → List ℤ → RootPair
root_pair root coroot = record { root = coordinates root; coroot = coordinates coroot }

abbrev pub pair_of : Pair → RootPair
pair_of p = root_pair p.root p.coroot

abbrev pub pairs_of : List Pair → List RootPair
pairs_of ps = map pair_of ps

-- the pairs with a positive root, in their order
abbrev pub positives_of : ℕ → List Pair → List Pair
positives_of rank ps = filter (λ p. not (has_negative rank (coordinates p.root))) ps

-- the tests come in the order Coordinate, Sign, Pairs
abbrev pub Fails : FiniteKind → List RootPair → RootPair → Type 0
Fails Coordinate list q = IsSmall q → ⊥
Fails Sign list q = IsSmall q × (HasOneSign q → ⊥)
Fails Pairs list q = IsSmall q × HasOneSign q × (length list ≡ 72)

-- q is the first result that the list has not, and the kind is the first test that it fails
abbrev pub IsRefused : CartanMatrix → FiniteKind → RootPair → Type 0
IsRefused m kind q = (list : List RootPair) × IsGrown m list × IsNext m list q × Fails kind list q
