-- Lists of tuples that are compared over a set of vertices.
--   first_members n list   the first n tuples of a list
--   sized size list        a list with these numbers of coordinates
--   SameList U a b         as many tuples, over the vertices of U and with the same values there
use Rattle.std.specs.Prelude.{◌≡◌, ℕ, ◌<◌, IsTrue}
use Rattle.bmp_sections.specs.TupleLists.{TupleList}

abbrev pub first_members : ℕ → TupleList → TupleList
first_members n list = record list { count = n }

abbrev pub sized : (ℕ → ℕ) → TupleList → TupleList
sized size list = record list { size = size }

pub record SameList (U : ℕ → Type 0) (a b : TupleList) : Type 0 where
  pub count : a.count ≡ b.count
  pub has : (y : ℕ) → U y → IsTrue (a.has y)
  pub size : (y : ℕ) → U y → a.size y ≡ b.size y
  pub value : (j y c : ℕ) → j < b.count → U y → c < b.size y → a.value j y c ≡ b.value j y c
