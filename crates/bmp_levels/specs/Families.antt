-- Families of tuples by levels. Blocks are the evidence of one degree, by vertex. In the order to read:
--   falling G b                 the vertices from the greatest number down: number b, from 0
--   new_at G k block x          how many new members stand at x: one for each basis vector where x has length k
--   new_start G k block x       how many new members come before those at x, from the greatest number down
--   new_count G k block         how many there are
--   new_value G k block i x     the value at x, of length k, of the i-th new member: its basis vector, and 0 elsewhere
--   extended_value .. list j y  the value at y of the j-th member of the extension of the list by the blocks of
--                               length k
--   extended G k block list     the extension: first the old members, with the covers at the vertices of length k;
--                               then the new ones
--   stalk_size G F d y          how many coordinates the values at y have
--   top_family G F d top        one member for each monomial, over the vertices as long as the top
--   family_down .. n            the family n levels below
--   family G F d top block k    the family over level k, for k up to the length of the top
--   shorter_at G top block y    how many basis vectors stand at y, where it is shorter than the top
--   member_count G d top block k
--                               how many members it has: the monomials, and those for the basis vectors of level k
use Rattle.std.specs.Prelude.{ℕ, zero, suc, ◌+◌, ◌-◌, ◌==◌, nat_le, nat_lt, if◌then◌else◌, length}
use Rattle.bmp_math.specs.Sums.{sum_below}
use Rattle.bmp_math.specs.Vectors.{unit}
use Rattle.bmp_poly.specs.Exponents.{count}
use Rattle.bmp_graph.specs.Graph.{Graph, vertex_count, length_at}
use Rattle.bmp_linear.specs.declared.blocks.DegreeBlock.{DegreeBlock}
use Rattle.bmp_linear.specs.Evidence.{vector_at}
use Rattle.bmp_sheaf.specs.Sheaves.{SheafData}
use Rattle.bmp_sheaf.specs.Coordinates.{stalk_count}
use Rattle.bmp_sections.specs.TupleLists.{TupleList}
use Rattle.bmp_levels.specs.Levels.{at_least}

abbrev pub falling : Graph → ℕ → ℕ
falling G b = vertex_count G - 1 - b

module _ (G : Graph) (k : ℕ) (block : ℕ → DegreeBlock) where
  abbrev pub new_at : ℕ → ℕ
  new_at x = if length_at G x == k then length (block x).kernel.basis else 0

  abbrev pub new_start : ℕ → ℕ
  new_start x = sum_below (λ b. new_at (falling G b)) (falling G x)

  abbrev pub new_count : ℕ
  new_count = sum_below (λ b. new_at (falling G b)) (vertex_count G)

  -- past the last basis vector there are only zeros
  abbrev pub new_value : ℕ → ℕ → ℕ → ℕ
  new_value i x = if nat_le (new_start x) i then vector_at (block x).kernel.basis (i - new_start x) else (λ c. 0)

  abbrev pub extended_value : TupleList → ℕ → ℕ → ℕ → ℕ
  extended_value list j y =
      if length_at G y == k
      then (if nat_le list.count j then new_value (j - list.count) y else vector_at (block y).cover.covers j)
      else (if nat_le list.count j then (λ c. 0) else list.value j y)

  abbrev pub extended : TupleList → TupleList
  extended list = record {
    count = list.count + new_count;
    has = at_least G k;
    size = list.size;
    value = extended_value list;
  }

abbrev pub stalk_size : Graph → SheafData → ℕ → ℕ → ℕ
stalk_size G F d y = stalk_count G.rank (F.degrees y) d

module _ (G : Graph) (F : SheafData) (d top : ℕ) where
  abbrev pub top_family : TupleList
  top_family = record {
    count = count G.rank d;
    has = at_least G (length_at G top);
    size = stalk_size G F d;
    value = λ j y. unit j;
  }

  module _ (block : ℕ → DegreeBlock) where
    unfoldable pub family_down : ℕ → TupleList
    family_down zero = top_family
    family_down (suc n) = extended G (length_at G top - suc n) block (family_down n)

    abbrev pub family : ℕ → TupleList
    family k = family_down (length_at G top - k)

abbrev pub shorter_at : Graph → ℕ → (ℕ → DegreeBlock) → ℕ → ℕ
shorter_at G top block y = if nat_lt (length_at G y) (length_at G top) then length (block y).kernel.basis else 0

abbrev pub member_count : Graph → ℕ → ℕ → (ℕ → DegreeBlock) → ℕ → ℕ
member_count G d top block k =
    count G.rank d + sum_below (λ y. if nat_le k (length_at G y) then shorter_at G top block y else 0) (vertex_count G)
