-- A sheaf whose first stalks are those of parts, with others behind them at vertices of one length: what is made over
-- it, and what the sheaves that are made bring.
use Rattle.std.proofs.Common.{◌≡◌, ℕ, ◌+◌, ◌-◌, ◌<◌, ◌≤◌, List, [], ◌∷◌, ◌++◌, length, get_or, take, map, refl, sym, ap, subst, ◌∙◌, inl, inr, arith}
use Rattle.std.proofs.lemmas.Bool.{cases_lt}
use Rattle.std.proofs.lemmas.List.{length-take-le, length_push, get_or-take, get_or_push, get_or_append_left}
use Rattle.bmp_graph.specs.Graph.{Graph, IsGraph, vertex_count, edge_count, length_at, lower, upper}
use Rattle.bmp_graph.proofs.GraphLemmas.{edge_rises}
use Rattle.bmp_sheaf.specs.Openings.{IsOpened}
use Rattle.bmp_sheaf.specs.States.{Stalk, no_stalk, SheafState, stalk_of, next_vertex, with_stalk}
use Rattle.bmp_sheaf.proofs.NewStalks.{stalk_new, stalk_kept}
use Rattle.bmp_cert.specs.Counts.{Written, no_part, part_of}
use Rattle.bmp_cert.specs.declared.cert.VertexPart.{VertexPart}
use Rattle.bmp_check.specs.Accepted.{IsCheckable}
use Rattle.bmp_check.specs.Methods.{method_of}
use Rattle.bmp_check.specs.Shaped.{cert_stalk}
use Rattle.bmp_check.specs.StalkTasks.{IsSheafUpTo, IsPending, CanAdd, HasAdded, BringsStalk, BringStalks}
use Rattle.bmp_check.specs.Verdicts.{CountPasses, ShapePasses}
use Rattle.bmp_check.proofs.FitLemmas.{shapes_fit}
use Rattle.bmp_check.proofs.StalkLemmas.{IsNextPart, own_is_stalk, own_below, above_is, stalks_more, on_own}

-- ---- what is opened is pending

module _ {F : Type 0} {old s : SheafState F} {k n : ℕ} (opened : IsOpened old s k n) where
  pub same_graph : s.graph ≡ old.graph
  same_graph = sym (ap (λ (u : SheafState F). u.graph) opened.begins)

  -- some stalk is, where the next vertex has this length
  pub some_opened : length old.stalks < vertex_count old.graph → length_at old.graph (next_vertex old) ≡ k → 0 < n
  some_opened left here = elim (cases_lt 0 n) [
    | inl some ↦ some
    | inr none ↦
        let counted = opened.counted in
        let same : length s.stalks ≡ length old.stalks = omega (arith, counted, none) in
        absurd (opened.all (
          subst (λ (G : Graph). length s.stalks < vertex_count G) (sym same_graph) (omega (arith, left, same)),
          subst (λ (G : Graph). length_at G (vertex_count G - 1 - length s.stalks) ≡ k) (sym same_graph)
              (subst (λ m. length_at old.graph (vertex_count old.graph - 1 - m) ≡ k) (sym same) here),
        ))
  ]

  pub pending_from : {v : ℕ} {c : Written} → IsCheckable old.graph v c → CountPasses old.graph c →
      ShapePasses old.graph (method_of v) c →
      IsSheafUpTo old.graph c (length old.stalks) old → IsPending v c (length old.stalks) n s
  pending_from {v} {c} checkable count shape so_far = record {
    checkable = subst (λ (G : Graph). IsCheckable G v c) (sym same_graph) checkable;
    count = subst (λ (G : Graph). CountPasses G c) (sym same_graph) count;
    shape = subst (λ (G : Graph). ShapePasses G (method_of v) c) (sym same_graph) shape;
    ahead = record {
      degree = sym (ap (λ (u : SheafState F). u.degree) opened.begins) ∙ so_far.degree;
      stalks = sym (ap (λ (u : SheafState F). u.stalks) opened.begins) ∙ so_far.stalks;
      more = let counted = opened.counted in omega (arith, counted);
      few = let few = opened.few in omega (arith, few, count);
      level = k;
      own = subst (λ (G : Graph). (y : ℕ) → y + length old.stalks < vertex_count G →
          vertex_count G ≤ y + length s.stalks → length_at G y ≡ k) (sym same_graph) opened.own;
    };
    counted = opened.counted;
  }

-- ---- a task

module _ {F : Type 0} {s : SheafState F} {v : ℕ} {c : Written} {before count : ℕ}
    (h : IsPending v c before count s) where
  -- the stalks of the longer vertices are there
  upper_is : (y : ℕ) → vertex_count s.graph ≤ y + before → y < vertex_count s.graph → before < length c.parts →
      stalk_of s y ≡ cert_stalk (part_of c y)
  upper_is y there below some =
      let u : SheafState F = record s { stalks = take before s.stalks } in
      let so_far : IsSheafUpTo u.graph c before u =
      record { graph = refl; degree = h.ahead.degree; stalks = h.ahead.stalks } in
      let fewer = length-take-le before s.stalks h.ahead.more in
      sym (get_or-take before s.stalks (vertex_count s.graph - 1 - y) no_stalk (omega (arith, there, below)))
      ∙ above_is so_far some h.count y (omega (arith, fewer, there, below)) below

  module _ (number : ℕ) (from : before ≤ number) (inside : number < length s.stalks) where
    abbrev t : SheafState F
    t = record s { stalks = take number s.stalks }

    t_pushed : length t.stalks ≡ number
    t_pushed = length-take-le number s.stalks (omega (arith, inside))

    more : number < length c.parts
    more = let few = h.ahead.few in omega (arith, few, inside)

    above : (e : ℕ) → e < edge_count s.graph → lower s.graph e ≡ vertex_count s.graph - 1 - number →
        stalk_of t (upper s.graph e) ≡ cert_stalk (part_of c (upper s.graph e))
    above e is_edge starts =
        let is = h.checkable.on.graph in
        let y = upper s.graph e in
        let ends = is.ends e is_edge in
        let rises : lower s.graph e < upper s.graph e = edge_rises s.graph is e is_edge in
        let counted = h.count in
        let here : length_at s.graph (lower s.graph e) ≡ h.ahead.level =
        h.ahead.own (lower s.graph e) (omega (arith, starts, from, more, counted))
        (omega (arith, starts, inside, more, counted)) in
        let there : vertex_count s.graph ≤ y + before = elim (cases_lt (y + before) (vertex_count s.graph)) [
          | inl early ↦
              let own = h.ahead.own y early (omega (arith, rises, starts, inside, more, counted)) in
              absurd (omega (arith, own, here, ends.2))
          | inr late ↦ late
        ] in
        get_or-take number s.stalks (vertex_count s.graph - 1 - y) no_stalk (omega (arith, there, from, ends.1))
        ∙ upper_is y there ends.1 (omega (arith, from, more))

    pub next_ahead : IsNextPart t v c number
    next_ahead = record {
      checkable = h.checkable;
      counted = h.count;
      fits = shapes_fit s.graph c h.checkable.formed h.count h.shape;
      degree = h.ahead.degree;
      pushed = t_pushed;
      more = more;
      above = λ e is_edge starts. above e is_edge (omega (arith, starts, t_pushed));
    }

    pub can_add : CanAdd c s number
    can_add = record {
      there = more;
      left = let counted = h.count in omega (arith, more, counted);
      stalk = own_is_stalk next_ahead (get_or c.parts number no_part) refl;
      values = own_below next_ahead (get_or c.parts number no_part) refl;
    }

    -- with the stalk of its part it brings this
    pub brings : {u : SheafState F} → HasAdded c s number u → BringsStalk s.graph c number u
    brings {u} is =
        let part : VertexPart = get_or c.parts number no_part in
        let counted = h.count in
        let left : length t.stalks < vertex_count s.graph = omega (arith, t_pushed, more, counted) in
        let next : vertex_count s.graph - 1 - number ≡ next_vertex t = omega (arith, t_pushed) in
        subst (λ (w : SheafState F). BringsStalk s.graph c number w) (sym is) (record {
          graph = refl;
          degree = h.ahead.degree;
          pushed = length_push t.stalks (cert_stalk part) ∙ ap (λ m. m + 1) t_pushed;
          own = stalk_new t (cert_stalk part) left (vertex_count s.graph - 1 - number) next;
          above = λ e is_edge starts.
              let rises : lower s.graph e < upper s.graph e = edge_rises s.graph h.checkable.on.graph e is_edge in
              let ends = h.checkable.on.graph.ends e is_edge in
              stalk_kept t (cert_stalk part) left (upper s.graph e) (omega (arith, rises, starts, next)) ends.1
              ∙ above e is_edge starts;
        })

  -- all of them, by their numbers
  pub bring_all : {all : List (SheafState F)} → length all ≡ count →
      ((i : ℕ) (d : SheafState F) → i < length all → i < count → HasAdded c s (before + count - 1 - i) (get_or all i d))
      →
      BringStalks s.graph c before all
  bring_all {all} counted added =
      let sum = h.counted in
      let few = h.ahead.few in
      let vertices = h.count in
      record {
        few = omega (arith, counted, sum, few, vertices);
        each = λ i d within.
            let number : before + count - 1 - i ≡ before + length all - 1 - i = omega (arith, counted) in
            subst (λ n. BringsStalk s.graph c n (get_or all i d)) number
            (brings (before + count - 1 - i) (omega (arith, within, counted)) (omega (arith, within, counted, sum))
            (added i d within (omega (arith, within, counted))));
      }

-- ---- taking them over

module _ {F : Type 0} {G : Graph} {c : Written} {s : SheafState F} {all : List (SheafState F)}
    (so_far : IsSheafUpTo G c (length s.stalks) s) (bring : BringStalks G c (length s.stalks) all)
    (rest : List (SheafState F)) (one : SheafState F) (popped : all ≡ rest ++ one ∷ []) where
  pub count : length all ≡ length rest + 1
  count = ap length popped ∙ length_push rest one

  vertices : vertex_count s.graph ≡ vertex_count G
  vertices = ap (λ (H : Graph). vertex_count H) so_far.graph

  pub still_left : length s.stalks < vertex_count s.graph
  still_left = let few = bring.few in omega (arith, few, count, vertices)

  pub last_brings : BringsStalk G c (length s.stalks) one
  last_brings =
      let n = length s.stalks in
      let read : get_or all (length all - 1) one ≡ one =
      ap (λ (l : List (SheafState F)). get_or l (length all - 1) one) popped
      ∙ get_or_push rest one one (length all - 1) (omega (arith, count)) in
      let number : n + length all - 1 - (length all - 1) ≡ n = omega (arith, count) in
      subst (λ m. BringsStalk G c m one) number
      (subst (BringsStalk G c (n + length all - 1 - (length all - 1))) read
      (bring.each (length all - 1) one (omega (arith, count))))

  pub same_ends : CountPasses G c → IsGraph G → (e : ℕ) → e < edge_count s.graph →
      lower s.graph e ≡ next_vertex s → stalk_of one (upper s.graph e) ≡ stalk_of s (upper s.graph e)
  same_ends counted graph e is_edge starts =
      let H = s.graph in
      let is_graph : IsGraph H = subst IsGraph (sym so_far.graph) graph in
      let rises : lower H e < upper H e = edge_rises H is_graph e is_edge in
      let passes : CountPasses H c = subst (λ (K : Graph). CountPasses K c) (sym so_far.graph) counted in
      subst (λ (K : Graph). (d : ℕ) → d < edge_count K → lower K d ≡ vertex_count K - 1 - length s.stalks →
      stalk_of one (upper K d) ≡ cert_stalk (part_of c (upper K d))) (sym so_far.graph) last_brings.above e is_edge
      starts
      ∙ sym (above_is (on_own so_far) (omega (arith, still_left, passes)) passes (upper H e)
      (omega (arith, rises, starts)) (is_graph.ends e is_edge).1)

  module _ {new : SheafState F} (taken : new ≡ with_stalk s (stalk_of one (next_vertex s))) where
    pub longer : length new.stalks ≡ length s.stalks + 1
    longer =
        ap (λ (w : SheafState F). length w.stalks) taken
        ∙ length_push s.stalks (stalk_of one (next_vertex s))

    pub adopted : CountPasses G c → IsSheafUpTo G c (length new.stalks) new
    adopted counted =
        let n = length s.stalks in
        let own : stalk_of one (next_vertex s) ≡ cert_stalk (get_or c.parts n no_part) =
        ap (λ m. stalk_of one (m - 1 - n)) vertices ∙ last_brings.own in
        record {
          graph = ap (λ (w : SheafState F). w.graph) taken ∙ so_far.graph;
          degree = ap (λ (w : SheafState F). w.degree) taken ∙ so_far.degree;
          stalks =
              ap (λ (w : SheafState F). w.stalks) taken
              ∙ ap (λ (t : Stalk). s.stalks ++ t ∷ []) own
              ∙ stalks_more (on_own so_far) (omega (arith, still_left, vertices, counted)) (get_or c.parts n no_part)
              refl
              ∙ ap (λ m. map cert_stalk (take m c.parts)) (sym longer);
        }

    pub fewer_bring : BringStalks G c (length new.stalks) rest
    fewer_bring = record {
      few = let few = bring.few in omega (arith, few, longer, count);
      each = λ i d within.
          let number : length s.stalks + length all - 1 - i ≡ length new.stalks + length rest - 1 - i =
          omega (arith, longer, count) in
          let read : get_or all i d ≡ get_or rest i d =
          ap (λ (l : List (SheafState F)). get_or l i d) popped ∙ get_or_append_left rest (one ∷ []) d i within in
          subst (λ m. BringsStalk G c m (get_or rest i d)) number
          (subst (BringsStalk G c (length s.stalks + length all - 1 - i)) read
          (bring.each i d (omega (arith, within, count))));
    }
