-- A block of parts whose sizes pass, by whole spaces, beside their sheaf in memory.
use Rattle.std.proofs.Common.{◌≡◌, ℕ, ◌≤◌, refl, ap, ◌∙◌}
use Rattle.bmp_graph.specs.Graph.{Graph}
use Rattle.bmp_sheaf.specs.Sheaves.{SheafData}
use Rattle.bmp_sheaf.specs.States.{SheafState, sheaf_of}
use Rattle.bmp_sections.specs.Positions.{position_count}
use Rattle.bmp_sections.specs.Numbers.{is_above, equation_matrix}
use Rattle.bmp_cert.specs.Counts.{Written}
use Rattle.bmp_check.specs.declared.given.Given.{Given}
use Rattle.bmp_check.specs.declared.method.Method.{Method}
use Rattle.bmp_check.specs.declared.method.Method.TheVariants.{Spaces}
use Rattle.bmp_check.specs.declared.sizes.BlockSizes.{BlockSizes}
use Rattle.bmp_check.specs.BlockData.{matrix_at}
use Rattle.bmp_check.specs.Shaped.{HasWidth}
use Rattle.bmp_check.specs.ShapedViews.{method_in, written_in}
use Rattle.bmp_check.specs.Sizes.{counts_at}
use Rattle.bmp_check.proofs.InputLemmas.{IsAtBlock, to_memory, equations_are, kernel_room}

-- the sizes as they are read
pub sizes_read :
    (G H : Graph) (own g : Given) → H ≡ G → g ≡ own → method_in own ≡ Spaces → (x d : ℕ) (n : BlockSizes) →
    n ≡ counts_at H (method_in g) (written_in g) x d → n ≡ counts_at G Spaces (written_in own) x d
sizes_read G H own g graph given method x d n is =
    is ∙ ap (λ (K : Graph). counts_at K (method_in g) (written_in g) x d) graph
    ∙ ap (λ (e : Given). counts_at G (method_in e) (written_in e) x d) given
    ∙ ap (λ (m : Method). counts_at G m (written_in own) x d) method

module _ {G : Graph} {c : Written} {F : Type 0} {s : SheafState F} {x d : ℕ} (at : IsAtBlock G Spaces c s x d) where
  equations : equation_matrix s.graph (sheaf_of s) x d ≡ matrix_at G Spaces c x d
  equations = equations_are at refl

  -- there are as many columns as positions
  pub positions_are : (n : BlockSizes) → n ≡ counts_at G Spaces c x d →
      n.columns ≡ position_count s.graph (sheaf_of s) (is_above s.graph x) d
  positions_are n is =
      to_memory at (λ (H : Graph) (S : SheafData). n.columns ≡ position_count H S (is_above H x) d)
      (ap (λ (k : BlockSizes). k.columns) is)

  pub positions_within : (n : ℕ) → HasWidth G Spaces c n →
      position_count s.graph (sheaf_of s) (is_above s.graph x) d ≤ n
  positions_within n width = kernel_room at equations refl n width
