-- A stalk that grows in memory grows as a sheaf, and what was built stays built.
use Rattle.std.proofs.Common.{◌≡◌, ℕ, zero, suc, ◌+◌, ◌-◌, ◌%◌, ◌<◌, ◌≤◌, List, [], length, inl, inr, sym, ap, ap₂, subst, ◌∙◌, arith}
use Rattle.std.specs.Prelude.{slice_index, All}
use Rattle.std.specs.List.Sorted.{IsStrictlyIncreasing}
use Rattle.std.proofs.lemmas.Bool.{cases_eq, cases_lt}
use Rattle.std.proofs.lemmas.List.{get_or_default}
use Rattle.bmp_math.specs.Matrices.{SameMatrix}
use Rattle.bmp_linear.specs.declared.vector.Entry.{Entry}
use Rattle.bmp_linear.specs.declared.blocks.DegreeBlock.{DegreeBlock}
use Rattle.bmp_linear.specs.SparseVectors.{FitsBelow, number_at}
use Rattle.bmp_elim.specs.KeptColumns.{kept_columns}
use Rattle.bmp_graph.specs.Graph.{edge_count, lower, upper}
use Rattle.bmp_graph.proofs.GraphLemmas.{edge_rises}
use Rattle.bmp_sheaf.specs.Elements.{Element, SameElement}
use Rattle.bmp_sheaf.specs.Coordinates.{stalk_count, element_of, boundary_count}
use Rattle.bmp_sheaf.specs.Numbers.{boundary_matrix}
use Rattle.bmp_sheaf.specs.Written.{first_edge}
use Rattle.bmp_sheaf.specs.States.{Stalk, SheafState, stalk_of, with_stalk}
use Rattle.bmp_sheaf.proofs.NewStalks.{stalk_new, degrees_kept}
use Rattle.bmp_sheaf.proofs.EdgeMaps.{element_respects}
use Rattle.bmp_sections.specs.TupleLists.{TupleList, tuples_in}
use Rattle.bmp_cover.specs.Counts.{generators_in}
use Rattle.bmp_cover.specs.CoverInputs.{CoverFits}
use Rattle.bmp_stalk.specs.Blocks.{one_at, AreChosenTuples, AreGrown, IsGrown, IsJoinedBoundary, HasKeptBoundary}
use Rattle.bmp_stalk.specs.Drafts.{lift_in, with_draft, IsLonger, GrowsBy, IsBuiltDegree, IsNext}
use Rattle.bmp_stalk.specs.BuiltParts.{IsBuiltBlock}
use Rattle.bmp_stalk.proofs.ChoiceLemmas.{chosen_columns_pass}
use Rattle.bmp_stalk.proofs.GrowthLemmas.{grown_stalks, generators_grown}
use Rattle.bmp_stalk.proofs.KernelLemmas.{fits_equal, passes_on_equal}

-- numbers that rise are at least their places
places_rise : (ns : List ℕ) → IsStrictlyIncreasing ns → (i : ℕ) → i < length ns → i ≤ slice_index ns i
places_rise ns rise zero inside = omega arith
places_rise ns rise (suc i) inside =
    let next : i + 1 ≡ suc i = omega arith in
    let more : slice_index ns i < slice_index ns (suc i) =
    subst (λ k. slice_index ns i < slice_index ns k) next (rise i (omega arith)) in
    omega (arith, places_rise ns rise i (omega arith), more)

-- so at most n of them are below n
rising_few : (ns : List ℕ) (n : ℕ) → IsStrictlyIncreasing ns → ((i : ℕ) → i < length ns → slice_index ns i < n) →
    length ns ≤ n
rising_few ns n rise below = elim (cases_eq (length ns) 0) [
  | inl none ↦ omega (arith, none)
  | inr some ↦
      let last : length ns - 1 < length ns = omega (arith, some) in
      omega (arith, places_rise ns rise (length ns - 1) last, below (length ns - 1) last)
]

-- what holds of the one entry of a source
source_entry : {chosen : List ℕ} {sources : List (List Entry)} (P : Entry → Type 0) → AreChosenTuples chosen sources →
    ((i : ℕ) → i < length chosen → P (record { place = slice_index chosen i; value = 1 })) → All (All P) sources
source_entry {chosen} {sources} P are one i none inside =
    let within : i < length chosen = omega (arith, inside, are.one_for_each) in
    subst (All P) (sym (get_or_default sources i none [] inside ∙ are.each i within)) first
  where
    first : All P (one_at (slice_index chosen i))
    first zero e l = one i (omega (arith, inside, are.one_for_each))
    first (suc k) e l = absurd (omega arith)

module _ {F : Type 0} {s : SheafState F} {x : ℕ} (at : IsNext s x) where
  here : (t : Stalk) → stalk_of (with_stalk s t) x ≡ t
  here t = stalk_new s t at.left x at.next

  -- the stalk at an edge's upper end is as it was
  up_degrees : (t : Stalk) (e : ℕ) → e < edge_count s.graph → lower s.graph e ≡ x →
      (stalk_of (with_stalk s t) (upper s.graph e)).degrees ≡ (stalk_of s (upper s.graph e)).degrees
  up_degrees t e is_edge starts =
      degrees_kept s t at.left (upper s.graph e)
      (omega (arith, edge_rises s.graph at.state.over.is_graph e is_edge, starts, at.next))
      (at.state.over.is_graph.ends e is_edge).1

  -- the lift of the generator g in the sheaf with the stalk t
  abbrev lifted : ℕ → List ℕ → Stalk → ℕ → Element
  lifted e up t g =
      element_of s.graph.rank up (slice_index t.degrees g) (number_at (lift_in t (e - first_edge s.graph x) g))

  lift_is : (t : Stalk) (e g : ℕ) → lower s.graph e ≡ x →
      (with_draft s t).lift e g ≡ lifted e ((with_draft s t).degrees (upper s.graph e)) t g
  lift_is t e g starts =
      let made : Stalk → ℕ → Element = λ (u : Stalk) first.
      element_of s.graph.rank ((with_draft s t).degrees (upper s.graph e)) (slice_index u.degrees g)
      (number_at (lift_in u (e - first) g)) in
      ap₂ made (ap (stalk_of (with_stalk s t)) starts ∙ here t) (ap (first_edge s.graph) starts)

  module _ {d : ℕ} {list : TupleList} {chosen : List ℕ} {from to : Stalk} (h : GrowsBy s x d list chosen from to) where
    pub is_grown : IsGrown s.graph x d list chosen (with_draft s from) (with_draft s to)
    is_grown = record {
      degrees =
          subst (λ a. AreGrown d (length chosen) a ((with_draft s to).degrees x))
          (sym (ap (λ (u : Stalk). u.degrees) (here from)))
          (subst (λ b. AreGrown d (length chosen) from.degrees b) (sym (ap (λ (u : Stalk). u.degrees) (here to)))
          h.degrees);
      above = λ e is_edge starts. up_degrees from e is_edge starts ∙ sym (up_degrees to e is_edge starts);
      kept_lifts = λ e g is_edge starts inside.
          let old : g < length from.degrees = subst (λ (u : Stalk). g < length u.degrees) (here from) inside in
          let degree : slice_index to.degrees g ≡ slice_index from.degrees g = h.degrees.kept g old in
          let up : (with_draft s to).degrees (upper s.graph e) ≡ (with_draft s from).degrees (upper s.graph e) =
          up_degrees to e is_edge starts ∙ sym (up_degrees from e is_edge starts) in
          lift_is to e g starts
          ∙ ap (λ b. lifted e b to g) up
          ∙ ap₂ (λ a v. element_of s.graph.rank ((with_draft s from).degrees (upper s.graph e)) a (number_at v)) degree
          (h.lifts e g is_edge starts old)
          ∙ sym (lift_is from e g starts);
      new_lifts = λ e i is_edge starts inside.
          let up : List ℕ = (with_draft s to).degrees (upper s.graph e) in
          let g : ℕ = length from.degrees + i in
          let count : length ((with_draft s from).degrees x) ≡ length from.degrees =
          ap (λ (u : Stalk). length u.degrees) (here from) in
          let value : ℕ → ℕ = number_at (lift_in to (e - first_edge s.graph x) (length from.degrees + i)) in
          let is : (with_draft s to).lift e (length ((with_draft s from).degrees x) + i)
          ≡ element_of s.graph.rank up d value =
          ap (λ n. (with_draft s to).lift e (n + i)) count
          ∙ lift_is to e g starts
          ∙ ap (λ a. element_of s.graph.rank up a value) (h.degrees.new i inside) in
          subst (λ a. SameElement s.graph.prime s.graph.rank up d a
          (tuples_in s.graph (with_draft s to) d list (slice_index chosen i) (upper s.graph e))) (sym is)
          (element_respects s.graph.prime s.graph.rank up d value (list.value (slice_index chosen i) (upper s.graph e))
          at.state.wide
          (λ c below. ap (λ z. z % s.graph.prime)
          (h.new e i c is_edge starts inside
          (subst (λ b. c < stalk_count s.graph.rank b d) (up_degrees to e is_edge starts) below))));
    }

    -- further generators of greater degree
    pub grows_on : (more : Stalk) → IsLonger s.graph x d to more → GrowsBy s x d list chosen from more
    grows_on more m = record {
      degrees = record {
        lower = h.degrees.lower;
        longer = omega (arith, h.degrees.longer, m.longer);
        kept = λ g inside. m.kept g (omega (arith, inside, h.degrees.longer)) ∙ h.degrees.kept g inside;
        new = λ i inside.
            m.kept (length from.degrees + i) (omega (arith, inside, h.degrees.longer)) ∙ h.degrees.new i inside;
        later = λ g past inside. elim (cases_lt g (length to.degrees)) [
          | inl early ↦ subst (λ z. d < z) (sym (m.kept g early)) (h.degrees.later g past early)
          | inr late ↦ m.later g late inside
        ];
      };
      lifts = λ e g is_edge starts inside.
          m.lifts e g is_edge starts (omega (arith, inside, h.degrees.longer)) ∙ h.lifts e g is_edge starts inside;
      new = λ e i c is_edge starts inside below.
          ap (λ v. number_at v c)
          (m.lifts e (length from.degrees + i) is_edge starts (omega (arith, inside, h.degrees.longer)))
          ∙ h.new e i c is_edge starts inside below;
    }

  module _ {d : ℕ} {list : TupleList} {b : DegreeBlock} {t : Stalk} (h : IsBuiltDegree s x d list b t) where
    abbrev split : ℕ
    split = stalk_count s.graph.rank ((with_draft s h.from).degrees x) d

    still : IsJoinedBoundary s.graph (with_draft s t) x d list split h.made.o
        × HasKeptBoundary s.graph (with_draft s t) x d split h.made.o h.chosen
    still =
        grown_stalks s.graph (with_draft s h.from) (with_draft s t) x d list h.made.o h.chosen at.state.over
        at.state.wide h.made.read.columns h.made.so_far (is_grown h.grows)

    same : SameMatrix (kept_columns split h.chosen h.made.o) (boundary_matrix s.graph (with_draft s t) x d)
    same = still.1.boundary

    boundaries : h.made.o.rows ≡ boundary_count s.graph (with_draft s t) x d
    boundaries = still.0.rows

    in_list : (i : ℕ) → i < length h.chosen → slice_index h.chosen i < list.count
    in_list i inside = omega (arith, h.made.read.columns.below i inside, h.made.so_far.joined.cols)

    counted : generators_in (with_draft s t) x d ≡ length h.chosen
    counted = generators_grown (with_draft s t) x (is_grown h.grows).degrees

    fits : CoverFits (with_stalk s t) x d list.count b.cover
    fits = record {
      covers = omega (arith, h.made.read.covers.one_for_each, h.made.so_far.joined.cols);
      sources = h.made.read.sources.one_for_each ∙ sym counted;
      duals = h.made.read.duals.one_for_each ∙ sym counted;
      covers_fit = subst (λ n. All (λ v. FitsBelow v n) b.cover.covers) same.cols h.made.read.covers.fit;
      sources_fit = source_entry (λ e. e.place < list.count) h.made.read.sources in_list;
      duals_fit = subst (λ n. All (λ v. FitsBelow v n) b.cover.duals) boundaries h.made.read.duals.fit;
      covers_below = h.made.read.covers.below;
      sources_below = source_entry (λ e. e.value < s.graph.prime) h.made.read.sources
          (λ i inside. omega (arith, at.state.over.two));
      duals_below = h.made.read.duals.below;
    }

    pub built_degree_passes : IsBuiltBlock (with_stalk s t) x d list b
    built_degree_passes = record {
      kernel_fits = fits_equal same h.made.kernel.fits;
      kernel_below = h.made.kernel.below;
      kernel = passes_on_equal same h.made.kernel.fits s.graph.prime h.made.kernel.passes;
      cover_fits = fits;
      cover = chosen_columns_pass s.graph (with_draft s t) x d list split h.made.o h.chosen b.cover at.state.over
          still.0 still.1 h.made.read;
      few =
          let most : length h.chosen ≤ list.count =
          rising_few h.chosen list.count h.made.read.columns.rise in_list in
          omega (arith, most, same.cols, h.few.on_stalk);
      few_on_boundary = omega (arith, boundaries, h.made.so_far.joined.rows, h.few.on_boundary);
    }

    pub built_degree_stays : (more : Stalk) → IsLonger s.graph x d t more → IsBuiltDegree s x d list b more
    built_degree_stays more m = record {
      from = h.from;
      chosen = h.chosen;
      few = h.few;
      made = h.made;
      grows = grows_on h.grows more m;
    }
