-- What is kept of a sheaf in memory, and what holds of it. In the order to read:
--   StalkTable               the stalk at a vertex with, by edge going up from it and then by degree, the rows of the
--                            map to the edge's module, and by edge the table of the module and of the map from the
--                            upper end
--   map_place G D e d        where the rows of the edge e in degree d stand, degrees being at most D
--   AreMapsUp s x M ts       the rows of the matrices M d e, for the edges e going up from x, by edge and then by
--                            degree d
--   IsStalkTable s x t       the table is that of the stalk at x
--   AreTables s ts           each of the tables is that of its vertex, the greatest first
--   stalk_in t               the stalk in a table
--   state_of G f D ts        the sheaf with the stalks in these tables
--   IsKept p s labels us ts  s is kept in these tables ts and in those of normal forms by its labels, over a field of p
--                            elements; us are further tables of maps from upper ends
use Rattle.std.specs.Prelude.{◌≡◌, ℕ, ◌+◌, ◌-◌, ◌*◌, ◌^◌, ◌<◌, ◌≤◌, List, [], length, map, slice_index_or}
use Rattle.std.specs.List.{All}
use Rattle.bmp_math.specs.Matrices.{Matrix, SameMatrix}
use Rattle.bmp_linear.specs.declared.vector.Entry.{Entry}
use Rattle.bmp_linear.specs.SparseVectors.{ValuesBelow}
use Rattle.bmp_linear.specs.RowTables.{EntryTable, matrix_of_entries}
use Rattle.bmp_graph.specs.Graph.{Graph, vertex_count, edge_count, lower}
use Rattle.bmp_sheaf.specs.Numbers.{lower_matrix}
use Rattle.bmp_sheaf.specs.Written.{first_edge, up_count}
use Rattle.bmp_sheaf.specs.declared.label_tables.LabelTables.{LabelTables}
use Rattle.bmp_sheaf.specs.LabelTables.{HasTables}
use Rattle.bmp_sheaf.specs.States.{Stalk, SheafState, IsState, stalk_of, IsThere, sheaf_of}
use Rattle.bmp_sheaf.specs.StalkFaults.{IsStalk}
use Rattle.bmp_sheaf.specs.UpperTables.{UpperTable, AreUpperTables, AreUppers}

pub record StalkTable : Type 0 where
  pub rank : ℕ
  pub degrees : List ℕ
  pub lifts : List (List Entry)
  pub lower : List EntryTable
  pub uppers : List UpperTable

abbrev pub no_table : StalkTable
no_table = record { rank = 0; degrees = []; lifts = []; lower = []; uppers = [] }

abbrev pub map_place : Graph → ℕ → ℕ → ℕ → ℕ
map_place G D e d = (e - first_edge G (lower G e)) * (D + 1) + d

pub record AreMapsUp {F : Type 0} (s : SheafState F) (x : ℕ) (M : ℕ → ℕ → Matrix) (ts : List EntryTable) : Type 0 where
  pub counted : length ts ≡ up_count s.graph x * (s.degree + 1)
  pub each : (e d : ℕ) (t : EntryTable) → e < edge_count s.graph → lower s.graph e ≡ x → d ≤ s.degree
      → SameMatrix (matrix_of_entries (slice_index_or ts (map_place s.graph s.degree e d) t)) (M d e)

pub record IsStalkTable {F : Type 0} (s : SheafState F) (x : ℕ) (t : StalkTable) : Type 0 where
  pub rank : t.rank ≡ s.graph.rank
  pub degrees : t.degrees ≡ (stalk_of s x).degrees
  pub lifts : t.lifts ≡ (stalk_of s x).lifts
  pub few : length t.degrees < 2 ^ 32
  pub stalk : IsStalk s x t.degrees t.lifts
  pub values : All (λ v. ValuesBelow v s.graph.prime) t.lifts
  pub lower_maps : AreMapsUp s x (lower_matrix s.graph (sheaf_of s)) t.lower
  pub uppers : AreUppers s x t.uppers

pub record AreTables {F : Type 0} (s : SheafState F) (ts : List StalkTable) : Type 0 where
  pub as_many : length ts ≡ length s.stalks
  pub few : length ts ≤ vertex_count s.graph
  pub each : (x : ℕ) → IsThere s x → IsStalkTable s x (slice_index_or ts (vertex_count s.graph - 1 - x) no_table)

abbrev pub stalk_in : StalkTable → Stalk
stalk_in t = record { degrees = t.degrees; lifts = t.lifts }

abbrev pub state_of : {F : Type 0} → Graph → F → ℕ → List StalkTable → SheafState F
state_of G f D ts = record { graph = G; field = f; degree = D; stalks = map stalk_in ts }

-- what holds of a sheaf in memory over a field of p elements, with tables of normal forms, of maps from upper ends and
-- of stalks
pub record IsKept {F : Type 0} (p : ℕ) (s : SheafState F) (labels : LabelTables) (us : List UpperTable)
    (ts : List StalkTable) : Type 0 where
  pub prime : p ≡ s.graph.prime
  pub state : IsState s
  pub normal_forms : HasTables s.graph s.degree (edge_count s.graph) labels.tables.items labels.numbers.items
  pub upper_maps : AreUpperTables s.degree us
  pub stalks : AreTables s ts
