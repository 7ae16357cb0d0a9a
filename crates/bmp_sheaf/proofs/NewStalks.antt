-- A sheaf with a further stalk, that of the next vertex: what was kept of the others is so still.
use Rattle.std.proofs.Common.{◌≡◌, ℕ, ◌-◌, ◌<◌, ◌≤◌, List, [], ◌∷◌, ◌++◌, length, get_or, refl, sym, ap, ap₂, subst, ◌∙◌, inl, inr, arith}
use Rattle.std.proofs.lemmas.Bool.{cases_eq}
use Rattle.std.proofs.lemmas.List.{get_or_push, get_or_append_left, map_push}
use Rattle.bmp_linear.specs.declared.vector.Entry.{Entry}
use Rattle.bmp_graph.specs.Graph.{Graph, IsGraph, vertex_count, edge_count, lower, upper}
use Rattle.bmp_graph.proofs.GraphLemmas.{edge_rises}
use Rattle.bmp_graded.proofs.CoordinateLemmas.{length_more}
use Rattle.bmp_sheaf.specs.declared.label_tables.LabelTables.{LabelTables}
use Rattle.bmp_sheaf.specs.LabelTables.{HasTables}
use Rattle.bmp_sheaf.specs.States.{Stalk, no_stalk, SheafState, IsState, stalk_of, IsThere, next_vertex, with_stalk}
use Rattle.bmp_sheaf.specs.StalkFaults.{IsStalk}
use Rattle.bmp_sheaf.specs.StalkTables.{StalkTable, no_table, IsStalkTable, AreTables, stalk_in, state_of, IsKept}
use Rattle.bmp_sheaf.specs.UpperTables.{UpperTable, AreUpperTables, AreUppers}
use Rattle.bmp_sheaf.proofs.UpperTableLemmas.{uppers_kept}
use Rattle.bmp_sheaf.proofs.SameAbove.{SameAbove, stalk_same, uppers_same, table_same, upper_ends}

module _ {F : Type 0} (s : SheafState F) (t : Stalk) (left : length s.stalks < vertex_count s.graph) where
  abbrev now : SheafState F
  now = with_stalk s t

  pub stalk_new : (x : ℕ) → x ≡ next_vertex s → stalk_of now x ≡ t
  stalk_new x next = get_or_push s.stalks t no_stalk (vertex_count s.graph - 1 - x) (omega (arith, next, left))

  pub stalk_kept : (y : ℕ) → next_vertex s < y → y < vertex_count s.graph → stalk_of now y ≡ stalk_of s y
  stalk_kept y above below =
      get_or_append_left s.stalks (t ∷ []) no_stalk (vertex_count s.graph - 1 - y) (omega (arith, above, below, left))

  pub degrees_kept : (y : ℕ) → next_vertex s < y → y < vertex_count s.graph →
      (stalk_of now y).degrees ≡ (stalk_of s y).degrees
  degrees_kept y above below = ap (λ (u : Stalk). u.degrees) (stalk_kept y above below)

  module _ (is : IsGraph s.graph) where
    above_kept : (y : ℕ) → next_vertex s ≤ y → SameAbove s s.field (s.stalks ++ t ∷ []) is y
    above_kept y at_least =
        upper_ends s s.field (s.stalks ++ t ∷ []) is y
        (λ z past below. stalk_kept z (omega (arith, past, at_least)) below)

    pub stalk_still : (y : ℕ) → next_vertex s ≤ y → (degrees : List ℕ) (lifts : List (List Entry)) →
        IsStalk s y degrees lifts → IsStalk now y degrees lifts
    stalk_still y at_least = stalk_same s s.field (s.stalks ++ t ∷ []) is y (above_kept y at_least)

    pub uppers_still : (y : ℕ) → next_vertex s ≤ y → (us : List UpperTable) → AreUppers s y us → AreUppers now y us
    uppers_still y at_least = uppers_same s s.field (s.stalks ++ t ∷ []) is y (above_kept y at_least)

    pub tables_more : (ts : List StalkTable) (u : StalkTable) → AreTables s ts → IsStalkTable now (next_vertex s) u →
        AreTables now (ts ++ u ∷ [])
    tables_more ts u h new = record {
      as_many = omega (arith, length_more ts u, length_more s.stalks t, h.as_many);
      few = omega (arith, length_more ts u, h.as_many, left);
      each = λ y there. elim (cases_eq y (next_vertex s)) [
        | inl here ↦
            let at : get_or (ts ++ u ∷ []) (vertex_count s.graph - 1 - y) no_table ≡ u =
            get_or_push ts u no_table (vertex_count s.graph - 1 - y) (omega (arith, here, h.as_many, left)) in
            subst (IsStalkTable now y) (sym at) (subst (λ z. IsStalkTable now z u) (sym here) new)
        | inr other ↦
            let above : next_vertex s < y = omega (arith, other, there.0, there.1, length_more s.stalks t) in
            let old : IsThere s y = (there.0, omega (arith, above, left)) in
            let v = get_or ts (vertex_count s.graph - 1 - y) no_table in
            let at : get_or (ts ++ u ∷ []) (vertex_count s.graph - 1 - y) no_table ≡ v =
            get_or_append_left ts (u ∷ []) no_table (vertex_count s.graph - 1 - y)
            (omega (arith, above, there.0, h.as_many, left)) in
            subst (IsStalkTable now y) (sym at)
            (table_same s s.field (s.stalks ++ t ∷ []) is y (above_kept y (omega (arith, above)))
            (stalk_kept y above there.0) v (h.each y old))
      ];
    }

-- the stalk that is kept in a table
pub stalk_is : {F : Type 0} {s : SheafState F} {x : ℕ} {t : StalkTable} → IsStalkTable s x t → stalk_of s x ≡ stalk_in t
stalk_is h = ap₂ (λ degrees lifts. record { degrees = degrees; lifts = lifts }) (sym h.degrees) (sym h.lifts)

-- the table of a sheaf that has the same stalks at the upper ends of the edges going up from the next vertex
module _ {F : Type 0} (s o : SheafState F) (left : length s.stalks < vertex_count s.graph) (is : IsGraph s.graph)
    (graph : o.graph ≡ s.graph) (t : StalkTable) (h : IsStalkTable o (next_vertex s) t) where
  pub table_taken : o.degree ≡ s.degree
      → ((e : ℕ) → e < edge_count s.graph → lower s.graph e ≡ next_vertex s →
      stalk_of o (upper s.graph e) ≡ stalk_of s (upper s.graph e))
      → IsStalkTable (with_stalk s (stalk_in t)) (next_vertex s) t
  table_taken degree above =
      let x = next_vertex s in
      let over : Graph → ℕ → SheafState F =
      λ G D. record { graph = G; field = o.field; degree = D; stalks = o.stalks } in
      let same : (z : ℕ) → stalk_of o z ≡ stalk_of (over s.graph s.degree) z =
      λ z. ap (λ G. get_or o.stalks (vertex_count G - 1 - z) no_stalk) graph in
      let ends : SameAbove (over s.graph s.degree) s.field (s.stalks ++ stalk_in t ∷ []) is x =
      λ e below starts. stalk_kept s (stalk_in t) left (upper s.graph e)
      (omega (arith, edge_rises s.graph is e below, starts)) (is.ends e below).1
      ∙ sym (above e below starts) ∙ same (upper s.graph e) in
      table_same (over s.graph s.degree) s.field (s.stalks ++ stalk_in t ∷ []) is x ends
      (stalk_new s (stalk_in t) left x refl ∙ sym (stalk_is h) ∙ same x) t
      (subst (λ D. IsStalkTable (over s.graph D) x t) degree (subst (λ G. IsStalkTable (over G o.degree) x t) graph h))

module _ {F : Type 0} (p : ℕ) (G : Graph) (f : F) (D : ℕ) (labels : LabelTables) where
  pub kept_none : p ≡ G.prime → IsState (state_of G f D []) →
      HasTables G D (edge_count G) labels.tables.items labels.numbers.items → IsKept p (state_of G f D []) labels [] []
  kept_none prime state tables = record {
    prime = prime;
    state = state;
    normal_forms = tables;
    upper_maps = λ k u below. absurd (let none : k < 0 = below in omega arith);
    stalks = record {
      as_many = refl;
      few = omega arith;
      each = λ y there. absurd (omega (arith, there.0, there.1));
    };
  }

module _ {F : Type 0} {p : ℕ} {G : Graph} {f : F} {D : ℕ} {labels : LabelTables} {us : List UpperTable}
    {ts : List StalkTable} (h : IsKept p (state_of G f D ts) labels us ts) where
  -- beside other tables of maps from upper ends
  pub kept_beside : (vs : List UpperTable) → AreUpperTables D vs → IsKept p (state_of G f D ts) labels vs ts
  kept_beside vs tables =
      record { prime = h.prime; state = h.state; normal_forms = h.normal_forms; upper_maps = tables; stalks = h.stalks }

  -- the tables of a stalk that comes are tables of maps
  pub tables_came : (s : SheafState F) (t : Stalk) (x : ℕ) (ws : List UpperTable) → state_of G f D ts ≡ s →
      AreUppers (with_stalk s t) x ws
      → AreUpperTables D ws
  tables_came s t x ws same uppers =
      let is : IsGraph s.graph = subst (λ (z : SheafState F). IsGraph z.graph) same h.state.over.is_graph in
      subst (λ (z : SheafState F). AreUpperTables z.degree ws) (sym same) (uppers_kept is uppers)

  pub kept_more : (u : StalkTable) → length ts < vertex_count G
      → IsStalkTable (with_stalk (state_of G f D ts) (stalk_in u)) (next_vertex (state_of G f D ts)) u
      → IsKept p (state_of G f D (ts ++ u ∷ [])) labels us (ts ++ u ∷ [])
  kept_more u left new =
      let s = state_of G f D ts in
      let room : length s.stalks < vertex_count G = omega (arith, left, h.stalks.as_many) in
      let pushed : with_stalk s (stalk_in u) ≡ state_of G f D (ts ++ u ∷ []) =
      ap (λ ys. record { graph = G; field = f; degree = D; stalks = ys }) (sym (map_push stalk_in ts u)) in
      record {
        prime = h.prime;
        state = record {
          over = h.state.over;
          some = h.state.some;
          wide = h.state.wide;
          few = h.state.few;
          bound = h.state.bound;
        };
        normal_forms = h.normal_forms;
        upper_maps = h.upper_maps;
        stalks = subst (λ z. AreTables z (ts ++ u ∷ [])) pushed
            (tables_more s (stalk_in u) room h.state.over.is_graph ts u h.stalks new);
      }
