use Rattle.std.proofs.Common.{◌≡◌, ◌<◌, ℕ, take, slice_index}
use Rattle.bmp_roots.specs.RootSystems.{matrix_of}
use Rattle.bmp_weyl.specs.Elements.{IsProduct, word_of, IsLetter}
use Rattle.bmp_weyl.proofs.word.product.Given as goal

abbrev pub invariant-loop-place : goal.invariant-loop-place
invariant-loop-place l =
    IsProduct (matrix_of l.roots) (word_of (take l.place l.word)) l.product
    × ((i : ℕ) → i < l.place → IsLetter (matrix_of l.roots).rank (slice_index l.word i)) ×
    (l.rank ≡ (matrix_of l.roots).rank)
