-- Families in memory. In the order to read:
--   RunTable                     the values at one vertex: how many coordinates, how many members there were, and for
--                                each coordinate a run of bytes, one for each of these members
--   run_value r j                the coordinates of the value of the member j: 0 for later members
--   FamilyTable                  how many vertices and members there are, and the runs, that of the greatest vertex
--                                first
--   run_at f y                   the run of the vertex y
--   list_of f                    the list of tuples that they are
--   IsFamilyTable f              what holds of each family
--   joined_value before covers basis j
--                                the value of the member j at a vertex where `before` members have covers, and then
--                                come the basis vectors
--   IsRunOf coordinates before covers basis r
--                                the run has these values
--   IsRunAdded coordinates covers basis old new
--                                new has one vertex more than old, with such a run and a new member for each vector of
--                                the basis
--   AreUnits n vs                the vectors that are 1 at one of n places, in the order of the places
--   IsColumnWritten, AreColumnsWritten
--                                in rows of `width` bytes, one column, or n columns from `start` on, have the numbers,
--                                and the others are as they were
use Rattle.std.specs.Prelude.{◌≡◌, ◌≢◌, ℕ, ◌+◌, ◌-◌, ◌*◌, ◌<◌, ◌≤◌, ◌⊎◌, nat_le, nat_lt, ◌&&◌, if◌then◌else◌}
use Rattle.std.specs.Prelude.{List, [], ◌∷◌, ◌++◌, All, length, slice_index, slice_index_or}
use Rattle.bmp_linear.specs.declared.vector.Entry.{Entry}
use Rattle.bmp_linear.specs.Evidence.{vector_at}
use Rattle.bmp_sections.specs.TupleLists.{TupleList}

pub record RunTable : Type 0 where
  pub size : ℕ
  pub count : ℕ
  pub values : List ℕ

abbrev pub no_run : RunTable
no_run = record { size = 0; count = 0; values = [] }

abbrev pub run_value : RunTable → ℕ → ℕ → ℕ
run_value r j = if nat_lt j r.count then (λ c. slice_index r.values (c * r.count + j)) else (λ c. 0)

pub record FamilyTable : Type 0 where
  pub vertices : ℕ
  pub count : ℕ
  pub runs : List RunTable

abbrev pub run_at : FamilyTable → ℕ → RunTable
run_at f y = slice_index_or f.runs (f.vertices - 1 - y) no_run

abbrev pub list_of : FamilyTable → TupleList
list_of f = record {
  count = f.count;
  has = λ y. nat_lt y f.vertices && nat_le f.vertices (y + length f.runs);
  size = λ y. (run_at f y).size;
  value = λ j y. run_value (run_at f y) j;
}

pub record IsFamilyTable (f : FamilyTable) : Type 0 where
  pub small : f.vertices ≤ 4096
  pub few : length f.runs ≤ f.vertices
  pub counts : All (λ r. r.count ≤ f.count) f.runs

abbrev pub joined_value : ℕ → List (List Entry) → List (List Entry) → ℕ → ℕ → ℕ
joined_value before covers basis j = if nat_le before j then vector_at basis (j - before) else vector_at covers j

pub record IsRunOf (coordinates before : ℕ) (covers basis : List (List Entry)) (r : RunTable) : Type 0 where
  pub size : r.size ≡ coordinates
  pub count : r.count ≡ before + length basis
  pub value : (j c : ℕ) → run_value r j c ≡ joined_value before covers basis j c

pub record IsRunAdded (coordinates : ℕ) (covers basis : List (List Entry)) (old new : FamilyTable) : Type 0 where
  pub run : RunTable
  pub is_run : IsRunOf coordinates old.count covers basis run
  pub runs : new.runs ≡ old.runs ++ run ∷ []
  pub count : new.count ≡ old.count + length basis
  pub vertices : new.vertices ≡ old.vertices

pub record AreUnits (n : ℕ) (vs : List (List Entry)) : Type 0 where
  pub count : length vs ≡ n
  pub each : (i : ℕ) → i < n → slice_index_or vs i [] ≡ record { place = i; value = 1 } ∷ []

pub record IsColumnWritten (width column : ℕ) (number : ℕ → ℕ) (old new : List ℕ) : Type 0 where
  pub sized : length new ≡ length old
  pub own : (c : ℕ) → slice_index new (c * width + column) ≡ number c
  pub others :
      (c j : ℕ) → j < width → j ≢ column → slice_index new (c * width + j) ≡ slice_index old (c * width + j)

pub record AreColumnsWritten (width start n : ℕ) (number : ℕ → ℕ → ℕ) (old new : List ℕ) : Type 0 where
  pub sized : length new ≡ length old
  pub own : (i c : ℕ) → i < n → slice_index new (c * width + (start + i)) ≡ number i c
  pub others :
      (c j : ℕ) → j < width → (j < start) ⊎ (start + n ≤ j) →
      slice_index new (c * width + j) ≡ slice_index old (c * width + j)
