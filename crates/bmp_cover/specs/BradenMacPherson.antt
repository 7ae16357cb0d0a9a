-- Braden-MacPherson sheaves up to a degree (Braden-MacPherson 2001; Fiebig-Williamson).
--   IsTopVertex G top                    the vertex is the only one of the greatest length
--   IsBradenMacPherson G F most top      the stalk at the top has one generator, of degree 0, and at each other
--                                        vertex the three conditions hold in each degree up to most
--   HasGeneratorsUpTo G F most           no generator has a degree above most: beside the conditions up to most, which
--                                        speak of no generator above
use Rattle.std.specs.Prelude.{◌≡◌, ◌≢◌, ℕ, ◌<◌, ◌≤◌, [], ◌∷◌, length, slice_index}
use Rattle.bmp_graph.specs.Graph.{Graph, vertex_count, length_at}
use Rattle.bmp_sheaf.specs.Sheaves.{SheafData}
use Rattle.bmp_sections.specs.Sections.{IsReached, IsLifted, IsMinimal}

pub record IsTopVertex (G : Graph) (top : ℕ) : Type 0 where
  pub vertex : top < vertex_count G
  pub longest : (x : ℕ) → x < vertex_count G → x ≢ top → length_at G x < length_at G top

pub record IsBradenMacPherson (G : Graph) (F : SheafData) (most top : ℕ) : Type 0 where
  pub is_top : IsTopVertex G top
  pub top_stalk : F.degrees top ≡ 0 ∷ []
  pub reached : (x d : ℕ) → x < vertex_count G → x ≢ top → d ≤ most → IsReached G F x d
  pub lifted : (x d : ℕ) → x < vertex_count G → x ≢ top → d ≤ most → IsLifted G F x d
  pub minimal : (x d : ℕ) → x < vertex_count G → x ≢ top → d ≤ most → IsMinimal G F x d

abbrev pub HasGeneratorsUpTo : Graph → SheafData → ℕ → Type 0
HasGeneratorsUpTo G F most = (x g : ℕ) → x < vertex_count G → g < length (F.degrees x) →
    slice_index (F.degrees x) g ≤ most
