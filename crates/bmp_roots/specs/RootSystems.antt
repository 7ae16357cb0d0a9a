-- What a `Roots` is seen as.
--   matrix_of roots          the Cartan matrix
--   list_of roots            the root pairs, in the order of the closure
--   positives roots          the pairs of the machine with a positive root, in that order: pair number i stands at
--                            place i
--   positive_roots_of roots  the positive roots, by their numbers
use Rattle.std.specs.Prelude.{List, map}
use Rattle.bmp_roots.specs.RootPairs.{CartanMatrix, Vector, RootPair}
use Rattle.bmp_roots.specs.Pairs.{coordinates, pairs_of}
use Rattle.bmp_roots.specs.declared.root_pair.Pair.{Pair}
use Rattle.bmp_roots.specs.declared.root_system.Roots.{Roots}

abbrev pub matrix_of : Roots → CartanMatrix
matrix_of roots = roots.cartan

abbrev pub list_of : Roots → List RootPair
list_of roots = pairs_of roots.pairs

abbrev pub positives : Roots → List Pair
positives roots = roots.positive

abbrev pub positive_roots_of : Roots → List Vector
positive_roots_of roots = map (λ p. coordinates p.root) (positives roots)
