-- The values of families are below the prime where those of the blocks are; so what has their values are tuples to
-- compare with.
use Rattle.std.proofs.Common.{◌≡◌, ℕ, zero, suc, ◌-◌, ◌<◌, ◌≤◌, Bool, true, false, refl, List, [], length, get_or}
use Rattle.std.proofs.Common.{cond, eqb, leb, subst, sym, ◌∙◌, inl, inr, arith}
use Rattle.std.specs.Prelude.{All}
use Rattle.std.proofs.lemmas.Bool.{cases_eq, cases_lt}
use Rattle.bmp_math.specs.Vectors.{unit}
use Rattle.bmp_graph.specs.Graph.{Graph, IsGraph, vertex_count, length_at}
use Rattle.bmp_graph.specs.Laws.{IsHigher}
use Rattle.bmp_graph.proofs.GraphLemmas.{IsAbove-higher}
use Rattle.bmp_linear.specs.declared.vector.Entry.{Entry}
use Rattle.bmp_linear.specs.declared.blocks.DegreeBlock.{DegreeBlock}
use Rattle.bmp_linear.specs.SparseVectors.{ValuesBelow}
use Rattle.bmp_linear.specs.Evidence.{vector_at}
use Rattle.bmp_linear.proofs.SparseLemmas.{number_at-below}
use Rattle.bmp_sheaf.specs.Sheaves.{SheafData}
use Rattle.bmp_sheaf.specs.States.{SheafState, sheaf_of}
use Rattle.bmp_sections.specs.TupleLists.{TupleList}
use Rattle.bmp_sections.proofs.AboveLemmas.{above_from_test}
use Rattle.bmp_cover.specs.CoverInputs.{HasTuples}
use Rattle.bmp_levels.specs.Levels.{level_vertices}
use Rattle.bmp_levels.specs.Lists.{SameList}
use Rattle.bmp_levels.specs.Families.{new_start, extended_value, family_down, family}
use Rattle.bmp_levels.specs.Statements.{BlocksAreBelow, FamiliesAreBelow}
use Rattle.bmp_levels.proofs.MemberValues.{vector_past, at_level, off_level}
use Rattle.bmp_levels.proofs.Families.{family_size}

vector_below : (vs : List (List Entry)) (p i c : ℕ) → 0 < p → All (λ v. ValuesBelow v p) vs → vector_at vs i c < p
vector_below vs p i c some below = elim (cases_lt i (length vs)) [
  | inl inside ↦ number_at-below (get_or vs i []) p c some (below i [] inside)
  | inr past ↦ subst (λ n. n < p) (sym (vector_past vs i c past)) some
]

-- one of two rows, both below
either_below : (b : Bool) (f g : ℕ → ℕ) (p c : ℕ) → (b ≡ true → f c < p) → (b ≡ false → g c < p) → cond b f g c < p
either_below true f g p c first second = first refl
either_below false f g p c first second = second refl

unit_below : (p i j : ℕ) → 2 ≤ p → unit i j < p
unit_below p i j two = one_or_none (eqb i j)
  where
    one_or_none : (b : Bool) → cond b 1 0 < p
    one_or_none true = omega arith
    one_or_none false = omega arith

module _ {G : Graph} {top : ℕ} {block : ℕ → DegreeBlock} (two : 2 ≤ G.prime)
    (below : BlocksAreBelow G top block) where
  -- an extension
  extended_below :
      (k : ℕ) (list : TupleList) → k < length_at G top →
      ((j y c : ℕ) → y < vertex_count G → list.value j y c < G.prime) →
      (j y c : ℕ) → y < vertex_count G → extended_value G k block list j y c < G.prime
  extended_below k list short old j y c inside = elim (cases_eq (length_at G y) k) [
    | inl here ↦
        subst (λ (v : ℕ → ℕ). v c < G.prime) (sym (at_level G k block list j y here))
        (either_below (leb list.count j) (cond (leb (new_start G k block y) (j - list.count))
        (vector_at (block y).kernel.basis (j - list.count - new_start G k block y)) (λ i. 0))
        (vector_at (block y).cover.covers j) G.prime c
        (λ new. either_below (leb (new_start G k block y) (j - list.count))
        (vector_at (block y).kernel.basis (j - list.count - new_start G k block y)) (λ i. 0) G.prime c
        (λ from. vector_below (block y).kernel.basis G.prime (j - list.count - new_start G k block y) c
        (omega (arith, two)) (below.basis y inside (omega (arith, here, short))))
        (λ before. omega (arith, two)))
        (λ is_old. vector_below (block y).cover.covers G.prime j c (omega (arith, two))
        (below.covers y inside (omega (arith, here, short)))))
    | inr other ↦
        subst (λ (v : ℕ → ℕ). v c < G.prime) (sym (off_level G k block list j y other))
        (either_below (leb list.count j) (λ i. 0) (list.value j y) G.prime c (λ new. omega (arith, two))
        (λ is_old. old j y c inside))
  ]

  module _ (F : SheafData) (d : ℕ) where
    down_below :
        (n : ℕ) → n ≤ length_at G top → (j y c : ℕ) → y < vertex_count G →
        (family_down G F d top block n).value j y c < G.prime
    unfolding family_down
    down_below zero within j y c inside = unit_below G.prime j c two
    down_below (suc n) within j y c inside =
        extended_below (length_at G top - suc n) (family_down G F d top block n) (omega arith)
        (down_below n (omega arith)) j y c inside

pub families_are_below : FamiliesAreBelow
families_are_below G F d top block two below k j y c inside =
    down_below two below F d (length_at G top - k) (omega arith) j y c inside

-- what has the values of the family over the longer vertices
pub has_tuples :
    {A : Type 0} {s : SheafState A} (x : ℕ) {d top : ℕ} {block : ℕ → DegreeBlock} {list : TupleList} → IsGraph s.graph →
    2 ≤ s.graph.prime → BlocksAreBelow s.graph top block →
    SameList (level_vertices s.graph (suc (length_at s.graph x))) list
    (family s.graph (sheaf_of s) d top block (suc (length_at s.graph x))) → HasTuples s x d list
has_tuples {s = s} x {d = d} {top = top} {block = block} {list = list} is two below same y test =
    let high : IsHigher s.graph y x = IsAbove-higher s.graph is y x (above_from_test s.graph x y test) in
    let k = suc (length_at s.graph x) in
    let inside : level_vertices s.graph (suc (length_at s.graph x)) y = (high.is_vertex, omega (arith, high.longer)) in
    record {
      has = same.has y inside;
      size = same.size y inside ∙ family_size s.graph (sheaf_of s) d top block k y;
      below = λ j c is_member coordinate.
          subst (λ n. n < s.graph.prime)
          (sym (same.value j y c (omega (arith, is_member, same.count)) inside
          (subst (λ n. c < n) (same.size y inside) coordinate)))
          (families_are_below s.graph (sheaf_of s) d top block two below k j y c inside.0);
    }
