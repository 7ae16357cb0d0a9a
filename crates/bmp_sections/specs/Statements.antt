-- Laws of the definitions, as statements.
--   HasLabels p G            each label has a leading coordinate with an inverse modulo the prime p, in at most 6
--                            variables
--   EquationsDecide          a tuple is a section exactly where all values of its edge equations are 0
--   EquationNumbersDecide    a tuple is a section exactly where the numbers of all its edge equations are 0
--   AboveIsTested            the test of what is above a vertex is true of that, and of nothing else
use Rattle.std.specs.Prelude.{◌≡◌, ◌↔◌, ℕ, suc, ◌+◌, ◌<◌, ◌≤◌, Bool, IsTrue, List, slice_index}
use Rattle.bmp_poly.specs.Exponents.{IsMonomial}
use Rattle.bmp_poly.specs.Forms.{IsLabel}
use Rattle.bmp_graph.specs.Graph.{Graph, IsGraph, edge_count, lower, upper, label}
use Rattle.bmp_sheaf.specs.Fields.{IsOverField}
use Rattle.bmp_sheaf.specs.Elements.{HasComponent}
use Rattle.bmp_sheaf.specs.Sheaves.{SheafData, Tuple}
use Rattle.bmp_sheaf.specs.Coordinates.{leading, edge_place}
use Rattle.bmp_sections.specs.Sections.{IsSection}
use Rattle.bmp_sections.specs.Positions.{TestsAbove, equation_start, equation_count, AreEquationValues}
use Rattle.bmp_sections.specs.Numbers.{is_above, equation_number}

pub record HasLabels (p : ℕ) (G : Graph) : Type 0 where
  pub prime : G.prime ≡ p
  pub wide : G.rank ≤ 6
  pub labels : (e : ℕ) → e < edge_count G → IsLabel p G.rank (label G e) (leading G e)

-- the equations of e: one for each generator of its upper end and each monomial without the leading variable
abbrev pub VanishOn : Graph → SheafData → (ℕ → Bool) → ℕ → (ℕ → ℕ) → ℕ → Type 0
VanishOn G F U d values e =
    (g t : ℕ) (m : List ℕ) → HasComponent (F.degrees (upper G e)) d g t → IsMonomial 6 G.rank t m →
    slice_index m (leading G e) ≡ 0 →
    values (equation_start G F U d e + edge_place G.rank (leading G e) (F.degrees (upper G e)) d g m) ≡ 0

abbrev pub EquationsDecide : Type 0
EquationsDecide =
    (q d : ℕ) (G : Graph) (F : SheafData) (U : ℕ → Bool) (s : Tuple) (values : ℕ → ℕ) → HasLabels (suc q) G →
    AreEquationValues G F U d s values →
    IsSection G F (λ y. IsTrue (U y)) d s
    ↔ ((e : ℕ) → e < edge_count G → IsTrue (U (lower G e)) → IsTrue (U (upper G e)) → VanishOn G F U d values e)

abbrev pub AboveIsTested : Type 0
AboveIsTested = (G : Graph) → IsGraph G → (x : ℕ) → TestsAbove G x (is_above G x)

abbrev pub EquationNumbersDecide : Type 0
EquationNumbersDecide =
    (G : Graph) (F : SheafData) (U : ℕ → Bool) (d : ℕ) (s : Tuple) → IsOverField G →
    IsSection G F (λ y. IsTrue (U y)) d s ↔ ((k : ℕ) → k < equation_count G F U d → equation_number G F U d s k ≡ 0)
