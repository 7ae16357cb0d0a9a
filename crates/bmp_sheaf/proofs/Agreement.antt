-- What is said of an edge rests on the stalks at its two ends and on its own lifts: sheaves that agree there have the
-- same numbers.
use Rattle.std.proofs.Common.{◌≡◌, ℕ, ◌+◌, ◌-◌, ◌*◌, List, [], length, ap, ◌∙◌}
use Rattle.std.specs.Prelude.{slice_index, slice_index_or}
use Rattle.bmp_math.specs.Matrices.{Matrix}
use Rattle.bmp_linear.specs.declared.vector.Entry.{Entry}
use Rattle.bmp_linear.specs.SparseVectors.{number_at}
use Rattle.bmp_graph.specs.Graph.{Graph, lower, upper, label}
use Rattle.bmp_sheaf.specs.Elements.{Element, extension}
use Rattle.bmp_sheaf.specs.Sheaves.{SheafData}
use Rattle.bmp_sheaf.specs.Coordinates.{leading, stalk_count, element_of}
use Rattle.bmp_sheaf.specs.Numbers.{edge_number, unit_at, lower_matrix}
use Rattle.bmp_sheaf.specs.Written.{first_edge, written_sheaf}

pub record AgreeOnEdge (G : Graph) (F F' : SheafData) (e : ℕ) : Type 0 where
  pub degrees_below : F.degrees (lower G e) ≡ F'.degrees (lower G e)
  pub degrees_above : F.degrees (upper G e) ≡ F'.degrees (upper G e)
  pub lifts : F.lift e ≡ F'.lift e

-- sheaves that are written down agree where their degrees at the ends and their lifts at the lower end do
pub written_agree : (G : Graph) (degrees degrees' : ℕ → List ℕ) (lifts lifts' : ℕ → List (List Entry)) (e : ℕ) →
    degrees (lower G e) ≡ degrees' (lower G e) → degrees (upper G e) ≡ degrees' (upper G e) →
    lifts (lower G e) ≡ lifts' (lower G e) →
    AgreeOnEdge G (written_sheaf G degrees lifts) (written_sheaf G degrees' lifts') e
written_agree G degrees degrees' lifts lifts' e below above written =
    let lift : List ℕ → List ℕ → List (List Entry) → ℕ → Element =
    λ b a w g. element_of G.rank a (slice_index b g)
    (number_at (slice_index_or w ((e - first_edge G (lower G e)) * length b + g) [])) in
    record {
      degrees_below = below;
      degrees_above = above;
      lifts = ap (λ b. lift b (degrees (upper G e)) (lifts (lower G e))) below
          ∙ ap (λ a. lift (degrees' (lower G e)) a (lifts (lower G e))) above
          ∙ ap (lift (degrees' (lower G e)) (degrees' (upper G e))) written;
    }

module _ (G : Graph) (F F' : SheafData) (d e : ℕ) (agree : AgreeOnEdge G F F' e) where
  -- what is made of the degrees at the lower end, those at the upper end, and the lifts
  made : {X : Type 0} (f : List ℕ → List ℕ → (ℕ → Element) → X) →
      f (F.degrees (lower G e)) (F.degrees (upper G e)) (F.lift e) ≡ f (F'.degrees (lower G e)) (F'.degrees (upper G e))
      (F'.lift e)
  made f =
      ap (λ b. f b (F.degrees (upper G e)) (F.lift e)) agree.degrees_below
      ∙ ap (λ a. f (F'.degrees (lower G e)) a (F.lift e)) agree.degrees_above
      ∙ ap (f (F'.degrees (lower G e)) (F'.degrees (upper G e))) agree.lifts

  pub lower_matrix_agrees : lower_matrix G F d e ≡ lower_matrix G F' d e
  lower_matrix_agrees =
      let matrix : List ℕ → List ℕ → (ℕ → Element) → Matrix =
      λ b a images. record {
        rows = stalk_count (G.rank - 1) a d;
        cols = stalk_count G.rank b d;
        entry = λ i j. edge_number G.prime G.rank (label G e) (leading G e) a d
            (extension G.rank b images d (unit_at G.rank b d j)) i;
      } in
      made matrix
