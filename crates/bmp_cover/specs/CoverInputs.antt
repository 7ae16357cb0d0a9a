-- What the check of covers at the vertex x in degree d is given, of a sheaf in memory. In the order to read:
--   HasStalks s x d            the stalks at x and above it are there, and the coordinates at x are fewer than 2^32
--   HasValues s d list y       the tuples have values at y: elements of the stalk, of degree d, by numbers below the
--                              prime
--   HasTuples s x d list       they have values at the vertices above x
--   CoverFits s x d count e    the evidence has a cover for each of `count` tuples, a source and a form for each
--                              generator of degree d, and is in range
use Rattle.std.specs.Prelude.{◌≡◌, ℕ, ◌^◌, ◌<◌, ◌≤◌, IsTrue, All, length}
use Rattle.bmp_linear.specs.declared.evidence.CoverEvidence.{CoverEvidence}
use Rattle.bmp_linear.specs.SparseVectors.{FitsBelow, ValuesBelow}
use Rattle.bmp_sheaf.specs.Coordinates.{stalk_count, boundary_count}
use Rattle.bmp_sheaf.specs.States.{SheafState, IsThere, sheaf_of}
use Rattle.bmp_sections.specs.Numbers.{is_above}
use Rattle.bmp_sections.specs.TupleLists.{TupleList}
use Rattle.bmp_sections.specs.Indexes.{AboveIsThere}
use Rattle.bmp_cover.specs.Counts.{generators_in}

pub record HasStalks {A : Type 0} (s : SheafState A) (x d : ℕ) : Type 0 where
  pub there : IsThere s x
  pub above : AboveIsThere s x
  pub degree : d ≤ s.degree
  pub few : stalk_count s.graph.rank ((sheaf_of s).degrees x) d < 2 ^ 32
  pub few_on_boundary : boundary_count s.graph (sheaf_of s) x d < 2 ^ 32

pub record HasValues {A : Type 0} (s : SheafState A) (d : ℕ) (list : TupleList) (y : ℕ) : Type 0 where
  pub has : IsTrue (list.has y)
  pub size : list.size y ≡ stalk_count s.graph.rank ((sheaf_of s).degrees y) d
  pub below : (j c : ℕ) → j < list.count → c < list.size y → list.value j y c < s.graph.prime

abbrev pub HasTuples : {A : Type 0} → SheafState A → ℕ → ℕ → TupleList → Type 0
HasTuples s x d list = (y : ℕ) → IsTrue (is_above s.graph x y) → HasValues s d list y

pub record CoverFits {A : Type 0} (s : SheafState A) (x d count : ℕ) (e : CoverEvidence) : Type 0 where
  pub covers : length e.covers ≡ count
  pub sources : length e.sources ≡ generators_in (sheaf_of s) x d
  pub duals : length e.duals ≡ generators_in (sheaf_of s) x d
  pub covers_fit : All (λ v. FitsBelow v (stalk_count s.graph.rank ((sheaf_of s).degrees x) d)) e.covers
  pub sources_fit : All (λ v. FitsBelow v count) e.sources
  pub duals_fit : All (λ v. FitsBelow v (boundary_count s.graph (sheaf_of s) x d)) e.duals
  pub covers_below : All (λ v. ValuesBelow v s.graph.prime) e.covers
  pub sources_below : All (λ v. ValuesBelow v s.graph.prime) e.sources
  pub duals_below : All (λ v. ValuesBelow v s.graph.prime) e.duals
