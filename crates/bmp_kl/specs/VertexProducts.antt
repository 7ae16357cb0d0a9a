-- The products of the vertices with simple reflections, by numbers. Simple reflections count from 0.
--   IsProductAt m word list x k p    the product of vertex x with k is vertex number p, or no vertex where p is none
--   partner products k x             the entry of a table of six for each vertex
use Rattle.std.specs.Prelude.{◌≡◌, ℕ, ◌+◌, ◌*◌, ◌<◌, List, length, Option, Some, None, slice_index_or}
use Rattle.bmp_roots.specs.RootPairs.{CartanMatrix}
use Rattle.bmp_weyl.specs.SimpleProducts.{times_simple}
use Rattle.bmp_weyl.specs.declared.elem.Elem.{Elem}
use Rattle.bmp_interval.specs.Vertices.{IsVertex}
use Rattle.bmp_kl.specs.IntervalBars.{vertex_at}

abbrev pub IsProductAt : CartanMatrix → List ℕ → List Elem → ℕ → ℕ → Option ℕ → Type 0
IsProductAt m word list x k (Some p) = (p < length list) × (vertex_at m list p ≡ times_simple m (vertex_at m list x) k)
IsProductAt m word list x k None = k < m.rank → IsVertex m word (times_simple m (vertex_at m list x) k) → ⊥

abbrev pub partner : List (Option ℕ) → ℕ → ℕ → Option ℕ
partner products k x = slice_index_or products (x * 6 + k) None
