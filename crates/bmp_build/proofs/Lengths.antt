-- The stalks of the vertices of one length: the sheaf that the tasks share, what each is made upon, and how they are
-- taken over, from the greatest vertex down.
use Rattle.std.proofs.Common.{◌≡◌, ℕ, ◌+◌, ◌-◌, ◌<◌, ◌≤◌, List, [], ◌∷◌, ◌++◌, length, get_or, take, refl, sym, ap, ap₂, subst, ◌∙◌, inl, inr, arith}
use Rattle.std.proofs.lemmas.Bool.{cases_eq, cases_lt}
use Rattle.std.proofs.lemmas.List.{length_push, length-take-le, get_or-take, get_or_push, get_or_append_left, take_all, take-append-le}
use Rattle.bmp_graph.specs.Graph.{Graph, IsGraph, vertex_count, edge_count, length_at, lower, upper}
use Rattle.bmp_graph.proofs.GraphLemmas.{IsAbove-higher}
use Rattle.bmp_sheaf.specs.Coordinates.{stalk_count}
use Rattle.bmp_sheaf.specs.States.{Stalk, no_stalk, SheafState, stalk_of, next_vertex, with_stalk}
use Rattle.bmp_sheaf.specs.Openings.{IsOpened}
use Rattle.bmp_sheaf.proofs.NewStalks.{stalk_new, stalk_kept}
use Rattle.bmp_sections.proofs.AboveLemmas.{above_from_test}
use Rattle.bmp_levels.specs.Runs.{FamilyTable}
use Rattle.bmp_cert.specs.declared.cert.VertexPart.{VertexPart}
use Rattle.bmp_check.specs.Shaped.{cert_stalk}
use Rattle.bmp_stalk.specs.BuiltParts.{list_at, HaveMembers}
use Rattle.bmp_build.specs.BuiltGraphs.{IsHeldPart}
use Rattle.bmp_build.specs.Tasks.{Made, above_number, IsOpen, IsAtLength, IsMadeUpon, IsMadeOver, AreMadeOver, IsLengthMade, HaveMembersOver}
use Rattle.bmp_build.proofs.VertexStalks.{longer_past}

-- ---- what each task is made upon

module _ {A : Type 0} {old s : SheafState A} {k n : ℕ} (h : IsOpened old s k n) where
  same_graph : old.graph ≡ s.graph
  same_graph = ap (λ (u : SheafState A). u.graph) h.begins

  same_count : vertex_count old.graph ≡ vertex_count s.graph
  same_count = ap (λ (H : Graph). vertex_count H) same_graph

  -- without the stalks that were added it is as it was
  pub closed : {s' : SheafState A} → s' ≡ record s { stalks = take (length old.stalks) s.stalks } → s' ≡ old
  closed is = is ∙ sym h.begins

  pub is_open : {low : ℕ} → low ≡ vertex_count s.graph - length s.stalks → 1 ≤ length old.stalks → IsOpen s low n
  is_open low some = record {
    pushed = let few = h.few in omega (arith, low, few, same_count);
    within = let counted = h.counted in omega (arith, counted, some);
  }

  module _ (is : IsGraph old.graph) {low : ℕ} (opened : IsOpen s low n) (i : ℕ) (own : i < n) where
    abbrev t : SheafState A
    t = above_number s (low + i)

    vertex : low + i + 1 + length old.stalks ≤ vertex_count old.graph
    vertex = let pushed = opened.pushed in let counted = h.counted in omega (arith, own, pushed, counted, same_count)

    pushed_of : length t.stalks ≡ vertex_count s.graph - 1 - (low + i)
    pushed_of =
        let pushed = opened.pushed in
        length-take-le (vertex_count s.graph - 1 - (low + i)) s.stalks (omega (arith, pushed))

    -- the longer vertices are those that were there
    there : (y : ℕ) → y < vertex_count old.graph → k < length_at old.graph y →
        vertex_count old.graph - 1 - y < length old.stalks
    there y below long =
        let counted = h.counted in
        let some = own in
        let last = vertex_count old.graph - 1 - length old.stalks in
        let here : length_at old.graph last ≡ k =
        h.own last (omega (arith, vertex)) (omega (arith, vertex, counted, some)) in
        let past = longer_past old.graph is last y (omega (arith, vertex)) (omega (arith, here, long)) in
        omega (arith, past, below, vertex)

    pub at_length : IsAtLength k old (low + i) t
    at_length = record {
      graph = sym same_graph;
      degree = sym (ap (λ (u : SheafState A). u.degree) h.begins);
      vertex = omega (arith, vertex);
      pushed = omega (arith, pushed_of, same_count);
      long =
          let pushed = opened.pushed in
          h.own (low + i) (omega (arith, vertex)) (omega (arith, pushed, same_count));
      longer = λ y below long.
          let before = there y below long in
          get_or-take (vertex_count s.graph - 1 - (low + i)) s.stalks (vertex_count s.graph - 1 - y) no_stalk
          (omega (arith, before, vertex, same_count))
          ∙ sym (get_or-take (length old.stalks) s.stalks (vertex_count s.graph - 1 - y) no_stalk
          (omega (arith, before, same_count)))
          ∙ sym (ap₂ (λ (l : List Stalk) (m : ℕ). get_or l (m - 1 - y) no_stalk)
          (ap (λ (u : SheafState A). u.stalks) h.begins) same_count);
    }

  -- all results, with what is known of each
  pub length_is_made : {P : SheafState A → SheafState A → VertexPart → Type 0} → IsGraph old.graph → {low : ℕ} →
      IsOpen s low n → {all : List (Made A)} → length all ≡ n →
      ((i : ℕ) (d : Made A) → i < length all → IsMadeUpon P (above_number s (low + i)) (get_or all i d)) →
      IsLengthMade P k old all
  length_is_made {P} is {low} opened {all} counted made =
      let few = h.few in
      let more = h.counted in
      let pushed = opened.pushed in
      let start : low ≡ vertex_count old.graph - length old.stalks - length all =
      omega (arith, pushed, more, counted, same_count) in
      record {
        over = record {
          few = omega (arith, few, more, counted);
          each = λ i d within.
              subst (λ (m : ℕ). IsMadeOver P k old (m + i) (get_or all i d)) start
              (record {
                old = above_number s (low + i);
                at = at_length is opened i (omega (arith, within, counted));
                upon = made i d within;
              });
        };
        whole = λ next.
            let sum : length old.stalks + length all ≡ length s.stalks = omega (arith, more, counted) in
            h.all (
              omega (arith, next.0, sum, same_count),
              subst (λ (H : Graph). length_at H (vertex_count H - 1 - length s.stalks) ≡ k) same_graph
                  (subst (λ m. length_at old.graph (vertex_count old.graph - 1 - m) ≡ k) sum next.1),
            );
      }

-- ---- a task

pub upon_number : {A : Type 0} {s t : SheafState A} {low n i m : ℕ} → IsOpen s low n → i < n →
    m ≡ length s.stalks - 1 - i → t ≡ record s { stalks = take m s.stalks } → t ≡ above_number s (low + i)
upon_number {A = A} {s = s} {low = low} {i = i} {m = m} opened own number is =
    let pushed = opened.pushed in
    let same : m ≡ vertex_count s.graph - 1 - (low + i) = omega (arith, number, pushed) in
    is ∙ ap (λ k. let made : SheafState A = record s { stalks = take k s.stalks } in made) same

pub made_upon : {A : Type 0} {P : SheafState A → SheafState A → VertexPart → Type 0} {old t new : SheafState A}
    {part : VertexPart} → t ≡ old → new ≡ with_stalk t (cert_stalk part) → P t new part → IsHeldPart part →
    IsMadeUpon P old (record { sheaf = new; part = part })
made_upon {P = P} {new = new} {part = part} is stalk by held =
    subst (λ u. IsMadeUpon P u (record { sheaf = new; part = part })) is
    (record { stalk = stalk; by = by; held = held })

-- the members that it is given
pub members_at : {A : Type 0} {k x : ℕ} {s t : SheafState A} {families : List FamilyTable} {counts : List ℕ} →
    IsGraph s.graph → HaveMembersOver k s families counts → IsAtLength k s x t → HaveMembers t families counts
members_at {k = k} {x = x} {s = s} {t = t} {families = families} {counts = counts} is members at =
    let same : vertex_count t.graph ≡ vertex_count s.graph = ap (λ (H : Graph). vertex_count H) at.graph in
    let next : next_vertex t ≡ x =
    let pushed = at.pushed in let vertex = at.vertex in omega (arith, pushed, vertex, same) in
    record {
      within = λ d l. members.within d (omega (arith, l, at.degree));
      tuples = λ d l y above.
          let own : IsGraph t.graph = subst IsGraph (sym at.graph) is in
          let high = IsAbove-higher t.graph own y (next_vertex t) (above_from_test t.graph (next_vertex t) y above) in
          let below : y < vertex_count s.graph = omega (arith, high.is_vertex, same) in
          let rises : length_at s.graph x < length_at s.graph y =
          subst (λ z. length_at s.graph z < length_at s.graph y) next
          (subst (λ (H : Graph). length_at H (next_vertex t) < length_at H y) at.graph high.longer) in
          let long : k < length_at s.graph y = omega (arith, rises, at.long) in
          let list = list_at families counts d in
          let values = members.values d y (omega (arith, l, at.degree)) below long in
          record {
            has = values.has;
            size =
                values.size
                ∙ ap₂ (λ (H : Graph) (u : Stalk). stalk_count H.rank u.degrees d) (sym at.graph)
                (sym (at.longer y below long));
            below = λ j c tuple inside. subst (λ (H : Graph). list.value j y c < H.prime) (sym at.graph)
                (values.below j c tuple inside);
          };
    }

-- ---- taking over what was made

module _ {A : Type 0} {P : SheafState A → SheafState A → VertexPart → Type 0} {k : ℕ} {s : SheafState A}
    (is : IsGraph s.graph) (left : length s.stalks < vertex_count s.graph) where
  module _ {made : Made A} (over : IsMadeOver P k s (next_vertex s) made) where
    same_vertices : vertex_count over.old.graph ≡ vertex_count s.graph
    same_vertices = ap (λ (H : Graph). vertex_count H) over.at.graph

    old_pushed : length over.old.stalks ≡ length s.stalks
    old_pushed = let pushed = over.at.pushed in omega (arith, pushed, left)

    old_left : length over.old.stalks < vertex_count over.old.graph
    old_left = omega (arith, old_pushed, same_vertices, left)

    old_next : next_vertex over.old ≡ next_vertex s
    old_next = omega (arith, old_pushed, same_vertices)

    pub taken_graph : made.sheaf.graph ≡ s.graph
    taken_graph = ap (λ (u : SheafState A). u.graph) over.upon.stalk ∙ over.at.graph

    pub taken_degree : made.sheaf.degree ≡ s.degree
    taken_degree = ap (λ (u : SheafState A). u.degree) over.upon.stalk ∙ over.at.degree

    pub taken_count : length made.sheaf.stalks ≡ length s.stalks + 1
    taken_count = omega (
      arith,
      ap (λ (u : SheafState A). length u.stalks) over.upon.stalk,
      length_push over.old.stalks (cert_stalk made.part),
      old_pushed,
    )

    pub taken_above : (e : ℕ) → e < edge_count s.graph → lower s.graph e ≡ next_vertex s →
        stalk_of made.sheaf (upper s.graph e) ≡ stalk_of s (upper s.graph e)
    taken_above e is_edge here =
        let y = upper s.graph e in
        let ends = is.ends e is_edge in
        let rises : length_at s.graph (next_vertex s) < length_at s.graph y =
        subst (λ z. length_at s.graph z < length_at s.graph y) here ends.2 in
        let past = longer_past s.graph is (next_vertex s) y (omega (arith, left)) rises in
        ap (λ (u : SheafState A). stalk_of u y) over.upon.stalk
        ∙ stalk_kept over.old (cert_stalk made.part) old_left y (omega (arith, past, old_next))
        (omega (arith, ends.1, same_vertices))
        ∙ over.at.longer y ends.1 (omega (arith, rises, over.at.long))

    pub taken_stalk : stalk_of made.sheaf (next_vertex s) ≡ cert_stalk made.part
    taken_stalk =
        ap (λ (u : SheafState A). stalk_of u (next_vertex s)) over.upon.stalk
        ∙ stalk_new over.old (cert_stalk made.part) old_left (next_vertex s) (sym old_next)

    -- the others were made over the sheaf with this stalk, too
    still_over : (t : Stalk) {x : ℕ} {other : Made A} → IsMadeOver P k s x other →
        IsMadeOver P k (with_stalk s t) x other
    still_over t {x} other = record {
      old = other.old;
      at = record {
        graph = other.at.graph;
        degree = other.at.degree;
        vertex = other.at.vertex;
        pushed = other.at.pushed;
        long = other.at.long;
        longer = λ y below long.
            let here = over.at.long in
            let past = longer_past s.graph is (next_vertex s) y (omega (arith, left)) (omega (arith, here, long)) in
            other.at.longer y below long ∙ sym (stalk_kept s t left y past below);
      };
      upon = other.upon;
    }

    pub fewer_made : (t : Stalk) {all rest : List (Made A)} (last : Made A) → IsLengthMade P k s all →
        all ≡ rest ++ last ∷ [] → IsLengthMade P k (with_stalk s t) rest
    fewer_made t {all} {rest} last made popped =
        let count : length all ≡ length rest + 1 = ap length popped ∙ length_push rest last in
        let counted : length (s.stalks ++ t ∷ []) ≡ length s.stalks + 1 = length_push s.stalks t in
        let sum : length (s.stalks ++ t ∷ []) + length rest ≡ length s.stalks + length all =
        omega (arith, count, counted) in
        record {
          over = record {
            few = let few = made.over.few in omega (arith, few, sum);
            each = λ i d within.
                let start : vertex_count s.graph - length s.stalks - length all + i
                ≡ vertex_count s.graph - length (s.stalks ++ t ∷ []) - length rest + i =
                omega (arith, count, counted) in
                let same : get_or all i d ≡ get_or rest i d =
                ap (λ l. get_or l i d) popped ∙ get_or_append_left rest (last ∷ []) d i within in
                subst (λ (x : ℕ). IsMadeOver P k (with_stalk s t) x (get_or rest i d)) start
                (subst (IsMadeOver P k (with_stalk s t) (vertex_count s.graph - length s.stalks - length all + i)) same
                (still_over t (made.over.each i d (omega (arith, within, count)))));
          };
          whole = λ next.
              made.whole (
                omega (arith, next.0, sum),
                subst (λ m. length_at s.graph (vertex_count s.graph - 1 - m) ≡ k) sum next.1,
              );
        }

-- the last was made at the next vertex
pub last_over : {A : Type 0} {P : SheafState A → SheafState A → VertexPart → Type 0} {k : ℕ} {s : SheafState A}
    {all : List (Made A)} (rest : List (Made A)) {last made : Made A} → IsLengthMade P k s all →
    all ≡ rest ++ last ∷ [] → made ≡ last → (length s.stalks < vertex_count s.graph) ×
    IsMadeOver P k s (next_vertex s) made
last_over {P = P} {k = k} {s = s} {all = all} rest {last = last} {made = made} h popped seen =
    let few = h.over.few in
    let count : length all ≡ length rest + 1 = ap length popped ∙ length_push rest last in
    let own : get_or all (length all - 1) made ≡ made =
    ap (λ l. get_or l (length all - 1) made) popped ∙ get_or_push rest last made (length all - 1) (omega (arith, count))
    ∙ sym seen in
    let place : vertex_count s.graph - length s.stalks - length all + (length all - 1) ≡ next_vertex s =
    omega (arith, count, few) in (
      omega (arith, count, few),
      subst (IsMadeOver P k s (next_vertex s)) own
          (subst (λ (x : ℕ). IsMadeOver P k s x (get_or all (length all - 1) made)) place
          (h.over.each (length all - 1) made (omega (arith, count)))),
    )

-- when none is left the next vertex has another length
pub none_left : {A : Type 0} {P : SheafState A → SheafState A → VertexPart → Type 0} {k : ℕ} {s : SheafState A}
    {all : List (Made A)} → IsLengthMade P k s all → length all ≡ 0 →
    (length s.stalks < vertex_count s.graph) × (length_at s.graph (next_vertex s) ≡ k) → ⊥
none_left {k = k} {s = s} {all = all} h empty next =
    let sum : length s.stalks ≡ length s.stalks + length all = omega (arith, empty) in
    h.whole (
      omega (arith, next.0, sum),
      subst (λ m. length_at s.graph (vertex_count s.graph - 1 - m) ≡ k) sum next.1,
    )

-- where the next vertex has the length there is one
pub some_made : {A : Type 0} {P : SheafState A → SheafState A → VertexPart → Type 0} {k : ℕ} {s : SheafState A}
    {all : List (Made A)} → IsLengthMade P k s all → length s.stalks < vertex_count s.graph →
    k ≡ length_at s.graph (next_vertex s) → 0 < length all
some_made {all = all} h left is = elim (cases_eq (length all) 0) [
  | inl empty ↦ absurd (none_left h empty (left, sym is))
  | inr some ↦ omega (arith, some)
]
