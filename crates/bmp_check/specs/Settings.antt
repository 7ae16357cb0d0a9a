-- What all blocks of shaped parts share. In the order to read:
--   no_family                   a family of no members at no vertex
--   HoldsFamilies G c d f       the first members of f are, over each level, the family of degree d over that level
--   AreFamilies G c n fs        the list has such a family for each degree below n
--   shaped_in s                 the parts
--   IsSet s                     their sizes all pass, and by levels there is a family for each degree
use Rattle.std.specs.Prelude.{◌≡◌, ℕ, ◌+◌, ◌<◌, ◌≤◌, List, [], length, slice_index_or}
use Rattle.bmp_graph.specs.Graph.{Graph, length_at}
use Rattle.bmp_sections.specs.TupleLists.{TupleList}
use Rattle.bmp_levels.specs.Levels.{level_vertices}
use Rattle.bmp_levels.specs.Lists.{first_members, SameList}
use Rattle.bmp_levels.specs.Families.{family}
use Rattle.bmp_levels.specs.Runs.{FamilyTable, list_of}
use Rattle.bmp_cert.specs.Counts.{Written}
use Rattle.bmp_check.specs.declared.method.Method.TheVariants.{Levels}
use Rattle.bmp_check.specs.declared.setting.Setting.{Setting}
use Rattle.bmp_check.specs.declared.shaped.Shaped.{Shaped}
use Rattle.bmp_check.specs.BlockData.{block_of, top_vertex}
use Rattle.bmp_check.specs.PartsSheaf.{parts_sheaf}
use Rattle.bmp_check.specs.ShapedViews.{graph_in, method_at, cert_in, IsWhole}

abbrev pub no_family : FamilyTable
no_family = record { vertices = 0; count = 0; runs = [] }

module _ (G : Graph) (c : Written) where
  -- over the vertices of length at least k
  abbrev pub family_from : ℕ → ℕ → TupleList
  family_from d k = family G (parts_sheaf G c) d (top_vertex G) (λ y. block_of c y d) k

  abbrev pub HoldsFamilies : ℕ → FamilyTable → Type 0
  HoldsFamilies d f =
      (k : ℕ) → k ≤ length_at G (top_vertex G) →
      ((family_from d k).count ≤ f.count)
      × SameList (level_vertices G k) (first_members (family_from d k).count (list_of f)) (family_from d k)

  pub record AreFamilies (n : ℕ) (fs : List FamilyTable) : Type 0 where
    pub sized : length fs ≡ n
    pub each : (d : ℕ) → d < n → HoldsFamilies d (slice_index_or fs d no_family)

abbrev pub shaped_in : Setting → Shaped
shaped_in s = s.shaped

pub record IsSet (s : Setting) : Type 0 where
  pub whole : IsWhole (shaped_in s)
  pub families :
      method_at (shaped_in s) ≡ Levels →
      AreFamilies (graph_in (shaped_in s)) (cert_in (shaped_in s)) ((cert_in (shaped_in s)).degree + 1) s.families.items
