-- The greatest vertex alone: the first families, and the state that the way down begins with.
use Rattle.std.proofs.Common.{◌≡◌, ℕ, ◌+◌, ◌-◌, ◌<◌, ◌≤◌, cond, eqb, List, [], ◌∷◌, ◌++◌, length, get_or, refl, sym, ap, ap₂, subst, ◌∙◌, inl, inr, arith, length-append, ne_eqb}
use Rattle.std.proofs.lemmas.Bool.{cases_eq, cond-false}
use Rattle.std.proofs.lemmas.List.{get_or_append_left, get_or_push}
use Rattle.bmp_math.proofs.SumLemmas.{sum_below_same, sum_below-zeros}
use Rattle.bmp_graph.specs.Graph.{Graph, IsGraph, vertex_count, edge_count, length_at, lower, upper}
use Rattle.bmp_graph.proofs.GraphLemmas.{edge_rises}
use Rattle.bmp_sheaf.specs.Coordinates.{stalk_count}
use Rattle.bmp_sheaf.specs.States.{Stalk, no_stalk, SheafState, next_vertex, sheaf_of}
use Rattle.bmp_sheaf.specs.StalkFaults.{IsStalk}
use Rattle.bmp_sheaf.specs.Written.{up_count}
use Rattle.bmp_cover.specs.BradenMacPherson.{IsTopVertex}
use Rattle.bmp_levels.specs.Extensions.{HoldsLevel, HasTop}
use Rattle.bmp_levels.specs.Families.{top_family, stalk_size}
use Rattle.bmp_levels.specs.Levels.{level_vertices}
use Rattle.bmp_levels.specs.Lists.{SameList}
use Rattle.bmp_levels.specs.Runs.{FamilyTable, list_of}
use Rattle.bmp_levels.proofs.Families.{family_top}
use Rattle.bmp_check.specs.Accepted.{IsCheckableGraph}
use Rattle.bmp_check.specs.BlockData.{block_of, top_vertex}
use Rattle.bmp_check.specs.PartsSheaf.{parts_sheaf}
use Rattle.bmp_stalk.specs.BuiltParts.{no_family}
use Rattle.bmp_build.specs.BuiltGraphs.{top_part}
use Rattle.bmp_build.specs.Building.{HoldsFamily, IsBuiltDown, IsBegun, IsTopFamily, HasEach}
use Rattle.bmp_build.proofs.Downward.{stalk_in}

-- ---- families one behind the other

pub each_none : (P : ℕ → FamilyTable → Type 0) → HasEach P 0 []
each_none P = record { sized = refl; each = λ d below. absurd (omega (arith, below)) }

pub each_more : {P : ℕ → FamilyTable → Type 0} {n : ℕ} {fs all : List FamilyTable} (f : FamilyTable) → HasEach P n fs →
    all ≡ fs ++ f ∷ [] → P n f → HasEach P (n + 1) all
each_more {P = P} {n = n} {fs = fs} f made pushed own = subst (HasEach P (n + 1)) (sym pushed) (record {
  sized = omega (arith, length-append fs (f ∷ []), made.sized);
  each = λ d below. elim (cases_eq d n) [
    | inl last ↦
        subst (P d) (sym (get_or_push fs f no_family d (omega (arith, last, made.sized))))
        (subst (λ e. P e f) (sym last) own)
    | inr other ↦
        subst (P d) (sym (get_or_append_left fs (f ∷ []) no_family d (omega (arith, below, other, made.sized))))
        (made.each d (omega (arith, below, other)))
  ];
})

-- ---- the stalk of the greatest vertex

-- no edge goes up from it
no_edges_up : (G : Graph) → IsGraph G → up_count G (top_vertex G) ≡ 0
no_edges_up G is =
    sum_below_same (λ e. cond (eqb (lower G e) (top_vertex G)) 1 0) (λ e. 0) (edge_count G)
    (λ e below.
    let rises : lower G e < upper G e = edge_rises G is e below in
    let within : upper G e < vertex_count G = (is.ends e below).1 in
    cond-false {A = ℕ} (eqb (lower G e) (top_vertex G)) 1 0
    (ne_eqb (lower G e) (top_vertex G) (λ same. omega (arith, same, rises, within))))
    ∙ sum_below-zeros (edge_count G)

pub top_is_stalk : {A : Type 0} {s : SheafState A} → IsGraph s.graph → s.stalks ≡ [] →
    IsStalk s (next_vertex s) top_part.degrees top_part.lifts
top_is_stalk {s = s} is none =
    let first : next_vertex s ≡ top_vertex s.graph = omega (arith, ap length none) in
    record {
      rising = λ i within k next. absurd (omega (arith, within, next));
      bound = λ i within.
          let zeroed : 0 ≡ i = omega (arith, within) in
          subst (λ j. get_or (0 ∷ []) j 0 ≤ s.degree) zeroed (omega arith);
      counted = omega (arith, ap (up_count s.graph) first, no_edges_up s.graph is);
      fit = λ i within. absurd (omega (arith, within));
    }

module _ {A : Type 0} {G : Graph} {D : ℕ} {s : SheafState A} (on : IsCheckableGraph G) (begun : IsBegun G D s) where
  pub has_top : HasTop s
  has_top =
      let none : vertex_count s.graph - 1 - (vertex_count s.graph - 1) ≡ 0 = omega arith in
      record {
        is_top = subst (λ (H : Graph). IsTopVertex H (top_vertex H)) (sym begun.graph) on.last_is_top;
        one = ap₂ (λ (l : List Stalk) (k : ℕ). (get_or l k no_stalk).degrees) begun.stalks none;
      }

  -- the vertices of the first level
  only_top : (y : ℕ) → y < vertex_count G → length_at G (top_vertex G) ≤ length_at G y → vertex_count G ≤ y + 1
  only_top y below long = elim (cases_eq y (top_vertex G)) [
    | inl same ↦ omega (arith, same, below)
    | inr other ↦ absurd (let short = on.last_is_top.longest y below other in omega (arith, short, long))
  ]

  first_family : (d : ℕ) (f : FamilyTable) → IsTopFamily s d f →
      HoldsFamily G D (length_at G (top_vertex G)) (top_part ∷ []) s d f
  first_family d f first =
      let on_graph : SameList (level_vertices G (length_at G (top_vertex G))) (list_of f)
      (top_family G (sheaf_of s) d (top_vertex G)) =
      subst (λ (H : Graph). SameList (level_vertices H (length_at H (top_vertex H))) (list_of f)
      (top_family H (sheaf_of s) d (top_vertex H))) begun.graph first.same in
      record {
        holds = subst (λ (H : Graph). HoldsLevel s (length_at H (top_vertex H)) d f) begun.graph first.holds;
        same = λ c more.
            let size : (y : ℕ) → level_vertices G (length_at G (top_vertex G)) y →
            stalk_size G (sheaf_of s) d y ≡ stalk_size G (parts_sheaf G c) d y =
            λ y inside. ap (λ (t : Stalk). stalk_count G.rank t.degrees d)
            (stalk_in s begun.graph begun.stalks more y inside.0 (only_top y inside.0 inside.1)) in
            subst (SameList (level_vertices G (length_at G (top_vertex G))) (list_of f))
            (sym (family_top G (parts_sheaf G c) d (top_vertex G) (λ y. block_of c y d)))
            (record {
              count = on_graph.count;
              has = on_graph.has;
              size = λ y inside. on_graph.size y inside ∙ size y inside;
              value = λ j y e is_member inside coordinate.
                  on_graph.value j y e is_member inside (subst (λ n. e < n) (sym (size y inside)) coordinate);
            });
      }

  pub first_down : {fs : List FamilyTable} → HasEach (IsTopFamily s) (D + 1) fs →
      IsBuiltDown G D (length_at G (top_vertex G)) (length_at G (top_vertex G)) s (top_part ∷ []) fs
  first_down {fs = fs} made = record {
    graph = begun.graph;
    degree = begun.degree;
    stalks = begun.stalks;
    some = omega arith;
    few = let some = on.graph.has_vertex in omega (arith, some);
    top = refl;
    there = only_top;
    only = λ y below there.
        let is : y ≡ top_vertex G = omega (arith, below, there) in
        let same : length_at G y ≡ length_at G (top_vertex G) = ap (length_at G) is in omega (arith, same);
    vertices = λ x vertex there. absurd (omega (arith, vertex, there));
    sized = made.sized;
    families = λ d within.
        first_family d (get_or fs d no_family) (made.each d (omega (arith, within)));
  }
