-- The tables of normal forms for the labels of a graph. In the order to read:
--   IsBy t x                     x is the label of t
--   IsTableOf G D e t            t is by the label of the edge e, for the degrees from 0 to D
--   HasTable G D tables k e      one of the tables, the one numbered k, is that of the edge e
--   HasTables G D n tables numbers     each of the first n edges has its table, at its number
--   AreByDifferentLabels tables  no two of the tables are by one label
use Rattle.std.specs.Prelude.{◌≡◌, ℕ, ◌+◌, ◌<◌, List, length, slice_index, slice_index_or}
use Rattle.bmp_poly.specs.declared.label.Label.{Label}
use Rattle.bmp_poly.specs.Labels.{prime_of, rank_of, leading_of, coordinate_of}
use Rattle.bmp_graph.specs.Graph.{Graph, label}
use Rattle.bmp_module.specs.declared.normal_table.NormalTable.{NormalTable}
use Rattle.bmp_sheaf.specs.Coordinates.{leading}
use Rattle.bmp_module.specs.NormalTables.{label_of, degrees_of}

abbrev pub IsBy : NormalTable → Label → Type 0
IsBy t x = label_of t ≡ x

pub record IsTableOf (G : Graph) (D e : ℕ) (t : NormalTable) : Type 0 where
  pub prime : prime_of (label_of t) ≡ G.prime
  pub rank : rank_of (label_of t) ≡ G.rank
  pub leading : leading_of (label_of t) ≡ leading G e
  pub coordinates : coordinate_of (label_of t) ≡ label G e
  pub degrees : degrees_of t ≡ D + 1

pub record HasTable (G : Graph) (D : ℕ) (tables : List NormalTable) (k e : ℕ) : Type 0 where
  pub number : k < length tables
  pub is : (t : NormalTable) → IsTableOf G D e (slice_index_or tables k t)

pub record HasTables (G : Graph) (D n : ℕ) (tables : List NormalTable) (numbers : List ℕ) : Type 0 where
  pub sized : length numbers ≡ n
  pub each : (e : ℕ) → e < n → HasTable G D tables (slice_index numbers e) e

abbrev pub AreByDifferentLabels : List NormalTable → Type 0
AreByDifferentLabels tables = (i j : ℕ) (t : NormalTable) → i < j → j < length tables →
    ¬ IsBy (slice_index_or tables i t) (label_of (slice_index_or tables j t))
