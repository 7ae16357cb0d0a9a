-- A sheaf with the first of its stalks alone: what was kept of them is so still.
use Rattle.std.proofs.Common.{◌≡◌, ℕ, ◌-◌, ◌<◌, List, length, map, take, get_or, sym, ap, subst, ◌∙◌, arith}
use Rattle.std.proofs.lemmas.List.{get_or-take, length-map, length-take, take-map}
use Rattle.bmp_graph.specs.Graph.{Graph, IsGraph, vertex_count}
use Rattle.bmp_sheaf.specs.declared.label_tables.LabelTables.{LabelTables}
use Rattle.bmp_sheaf.specs.States.{no_stalk, SheafState, stalk_of, IsThere}
use Rattle.bmp_sheaf.specs.StalkTables.{StalkTable, no_table, IsStalkTable, AreTables, stalk_in, state_of, IsKept}
use Rattle.bmp_sheaf.specs.UpperTables.{UpperTable}
use Rattle.bmp_sheaf.proofs.SameAbove.{table_same, upper_ends}

module _ {F : Type 0} (G : Graph) (f : F) (D : ℕ) (ts : List StalkTable) (n : ℕ) where
  abbrev all : SheafState F
  all = state_of G f D ts

  abbrev fewer : SheafState F
  fewer = state_of G f D (take n ts)

  stalk_first : (y : ℕ) → vertex_count G - 1 - y < n → stalk_of fewer y ≡ stalk_of all y
  stalk_first y inside =
      ap (λ ys. get_or ys (vertex_count G - 1 - y) no_stalk) (sym (take-map stalk_in n ts))
      ∙ get_or-take n (map stalk_in ts) (vertex_count G - 1 - y) no_stalk inside

  first_tables : IsGraph G → AreTables all ts → AreTables fewer (take n ts)
  first_tables is h = record {
    as_many = sym (length-map (take n ts) stalk_in);
    few = omega (arith, length-take n ts, h.few);
    each = λ y there.
        let counts : length fewer.stalks ≡ length (take n ts) = length-map (take n ts) stalk_in in
        let inside : vertex_count G - 1 - y < n = omega (arith, there.0, there.1, counts, length-take n ts) in
        let old : IsThere all y = (there.0, omega (arith, there.1, counts, length-take n ts, length-map ts stalk_in)) in
        subst (IsStalkTable fewer y) (sym (get_or-take n ts (vertex_count G - 1 - y) no_table inside))
        (table_same all f fewer.stalks is y
        (upper_ends all f fewer.stalks is y (λ z past below. stalk_first z (omega (arith, past, inside))))
        (stalk_first y inside) (get_or ts (vertex_count G - 1 - y) no_table) (h.each y old));
  }

pub kept_first : {F : Type 0} {p : ℕ} {G : Graph} {f : F} {D : ℕ} {labels : LabelTables} {us : List UpperTable}
    {ts : List StalkTable} → IsKept p (state_of G f D ts) labels us ts → (n : ℕ)
    → IsKept p (state_of G f D (take n ts)) labels us (take n ts)
kept_first {G = G} {f = f} {D = D} {ts = ts} h n = record {
  prime = h.prime;
  state = record {
    over = h.state.over;
    some = h.state.some;
    wide = h.state.wide;
    few = h.state.few;
    bound = h.state.bound;
  };
  normal_forms = h.normal_forms;
  upper_maps = h.upper_maps;
  stalks = first_tables G f D ts n h.state.over.is_graph h.stalks;
}
