-- The first family in memory.
use Rattle.std.proofs.Common.{◌≡◌, ℕ, zero, suc, ◌+◌, ◌-◌, ◌<◌, List, [], ◌∷◌, ◌++◌, length, get_or}
use Rattle.std.proofs.Common.{refl, sym, ap, subst, ◌∙◌, inl, inr, arith, length-append}
use Rattle.std.specs.Prelude.{All}
use Rattle.std.proofs.lemmas.Bool.{cases_eq}
use Rattle.std.proofs.lemmas.List.{get_or_push, get_or_append_left, get_or_default}
use Rattle.bmp_math.specs.Vectors.{unit}
use Rattle.bmp_poly.specs.Exponents.{count}
use Rattle.bmp_graph.specs.Graph.{vertex_count, length_at}
use Rattle.bmp_linear.specs.declared.vector.Entry.{Entry}
use Rattle.bmp_linear.specs.SparseVectors.{FitsBelow, number_at}
use Rattle.bmp_linear.specs.Evidence.{vector_at}
use Rattle.bmp_sheaf.specs.States.{SheafState, sheaf_of}
use Rattle.bmp_levels.specs.Levels.{level_vertices}
use Rattle.bmp_levels.specs.Lists.{SameList}
use Rattle.bmp_levels.specs.Families.{stalk_size, top_family}
use Rattle.bmp_levels.specs.Runs.{RunTable, run_value, FamilyTable, run_at, list_of, IsRunAdded, AreUnits}
use Rattle.bmp_levels.specs.Extensions.{HasTop, HoldsLevel}
use Rattle.bmp_levels.proofs.TopFamilies.{only_top, top_count}
use Rattle.bmp_levels.proofs.RunLemmas.{joined_basis}
use Rattle.bmp_levels.proofs.FamilyRuns.{has_from, one_run_more, run_next}

pub units_more :
    (n : ℕ) (vs : List (List Entry)) → AreUnits n vs →
    AreUnits (n + 1) (vs ++ (record { place = n; value = 1 } ∷ []) ∷ [])
units_more n vs h = record {
  count =
      (let more : length (vs ++ (record { place = n; value = 1 } ∷ []) ∷ []) ≡ length vs + 1 =
      simp length-append refl in
      omega (arith, more, h.count));
  each = λ i below. elim (cases_eq i n) [
    | inl last ↦
        get_or_push vs (record { place = n; value = 1 } ∷ []) [] i (omega (arith, last, h.count))
        ∙ ap (λ m. record { place = m; value = 1 } ∷ []) (sym last)
    | inr other ↦
        get_or_append_left vs ((record { place = n; value = 1 } ∷ []) ∷ []) [] i (omega (arith, below, other, h.count))
        ∙ h.each i (omega arith)
  ];
}

unit_fits : (n i : ℕ) → i < n → FitsBelow (record { place = i; value = 1 } ∷ []) n
unit_fits n i below zero e inside = below
unit_fits n i below (suc t) e inside = absurd (omega (arith, inside))

pub units_fit : (n : ℕ) (vs : List (List Entry)) → AreUnits n vs → All (λ v. FitsBelow v n) vs
units_fit n vs h i v below =
    let same : get_or vs i v ≡ (record { place = i; value = 1 } ∷ []) = get_or_default vs i v [] below
    ∙ h.each i (omega (arith, below, h.count)) in
    subst (λ w. FitsBelow w n) (sym same) (unit_fits n i (omega (arith, below, h.count)))

pub unit_vector : (n : ℕ) (vs : List (List Entry)) → AreUnits n vs → (i c : ℕ) → i < n → vector_at vs i c ≡ unit i c
unit_vector n vs h i c below = ap (λ v. number_at v c) (h.each i below)

-- the family without a vertex, to which the top was added with the units as its basis
pub record IsTopMade {A : Type 0} (s : SheafState A) (d coordinates : ℕ) (units : List (List Entry))
    (none new : FamilyTable) : Type 0 where
  pub has : HasTop s
  pub size_is : coordinates ≡ count s.graph.rank d
  pub are : AreUnits coordinates units
  pub empty : length none.runs ≡ 0
  pub vertices : none.vertices ≡ vertex_count s.graph
  pub counted : none.count ≡ 0
  pub added : IsRunAdded coordinates [] units none new

module _ {A : Type 0} {s : SheafState A} {d size : ℕ} {units : List (List Entry)} {none new : FamilyTable}
    (made : IsTopMade s d size units none new) where
  abbrev top : ℕ
  top = vertex_count s.graph - 1

  some : 0 < vertex_count s.graph
  some = omega (arith, made.has.is_top.vertex)

  run_top : run_at new top ≡ made.added.run
  run_top = run_next made.added top (omega (arith, some, made.empty, made.vertices))

  one_run : length new.runs ≡ 1
  one_run = omega (arith, one_run_more made.added, made.empty)

  size_top : stalk_size s.graph (sheaf_of s) d top ≡ count s.graph.rank d
  size_top = top_count s.graph.rank d ((sheaf_of s).degrees top) made.has.one

  is_only : (y : ℕ) → level_vertices s.graph (length_at s.graph top) y → y ≡ top
  is_only y inside = only_top s.graph top y made.has.is_top inside.0 inside.1

  run_size :
      (y : ℕ) → level_vertices s.graph (length_at s.graph top) y →
      (run_at new y).size ≡ stalk_size s.graph (sheaf_of s) d y
  run_size y inside =
      ap (λ z. (run_at new z).size) (is_only y inside) ∙ ap (λ (r : RunTable). r.size) run_top ∙ made.added.is_run.size
      ∙ made.size_is ∙ sym size_top ∙ ap (stalk_size s.graph (sheaf_of s) d) (sym (is_only y inside))

  pub top_holds : HoldsLevel s (length_at s.graph top) d new
  top_holds = record {
    vertices = made.added.vertices ∙ made.vertices;
    has = λ y inside. (let same = is_only y inside in omega (arith, same, one_run, some));
    only = λ y below there.
        (let same : y ≡ top = omega (arith, there, one_run, below) in
        let moved : length_at s.graph y ≡ length_at s.graph top = ap (length_at s.graph) same in omega (arith, moved));
    sizes = run_size;
  }

  pub top_same :
      SameList (level_vertices s.graph (length_at s.graph top)) (list_of new)
      (top_family s.graph (sheaf_of s) d top)
  top_same = record {
    count = omega (arith, made.added.count, made.counted, made.are.count, made.size_is);
    has = λ y inside.
        (let same = is_only y inside in
        has_from new y (omega (arith, inside.0, made.added.vertices, made.vertices))
        (omega (arith, same, some, one_run, made.added.vertices, made.vertices)));
    size = run_size;
    value = λ j y c is_member inside coordinate.
        ap (λ z. run_value (run_at new z) j c) (is_only y inside) ∙ ap (λ r. run_value r j c) run_top
        ∙ made.added.is_run.value j c ∙ joined_basis none.count [] units j c (omega (arith, made.counted))
        ∙ (let rest : j - none.count ≡ j = omega (arith, made.counted) in ap (λ n. vector_at units n c) rest)
        ∙ unit_vector size units made.are j c (omega (arith, is_member, made.size_is));
  }
