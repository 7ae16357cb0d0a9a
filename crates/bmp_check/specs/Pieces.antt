-- What workers have for themselves.
--   HaveRoom s ps             each piece has room for any block
--   EachKeeps s workers ps    each keeps the first of its own blocks that is refused
use Rattle.std.specs.Prelude.{ℕ, ◌<◌, List, All, length, slice_index_or}
use Rattle.bmp_check.specs.declared.pieces.Piece.{Piece}
use Rattle.bmp_check.specs.declared.shaped.Shaped.{Shaped}
use Rattle.bmp_check.specs.FirstRefusals.{IsOwn, KeepsFirst}
use Rattle.bmp_check.specs.Shaped.{IsRoomFor}
use Rattle.bmp_check.specs.ShapedViews.{graph_in, method_at, cert_in}

abbrev pub HaveRoom : Shaped → List Piece → Type 0
HaveRoom s ps = All (λ p. IsRoomFor (graph_in s) (method_at s) (cert_in s) p.scratch) ps

abbrev pub EachKeeps : Shaped → ℕ → List Piece → Type 0
EachKeeps s workers ps =
    (k : ℕ) (d : Piece) → k < length ps → KeepsFirst s (IsOwn s workers k) (slice_index_or ps k d).kept
