-- Vertices with their lengths, as they are sorted.
--   measured roots e      the element e with its length
--   vertex_cmp v w        by length, by rank, and then by the entries
--   elements_of vs        the elements
--   lengths_of vs         the lengths
--   IsSortedList roots found list lengths    list is found in order, with these lengths
use Rattle.std.specs.Prelude.{◌≡◌, ℕ, List, length, map}
use Rattle.std.specs.Ordering.{ordering_then, nat_cmp, int_cmp}
use Rattle.std.specs.Cmp.Lexicographic.{slice_cmp}
use Rattle.std.specs.declared.cmp.Ordering.{Ordering}
use Rattle.std.specs.List.Sorted.{IsSortedBy}
use Rattle.bmp_math.specs.Lists.{Member, HasEachOnce}
use Rattle.bmp_roots.specs.RootPairs.{Vector}
use Rattle.bmp_weyl.specs.Elements.{element_length}
use Rattle.bmp_weyl.specs.declared.elem.Elem.{Elem}
use Rattle.bmp_interval.specs.Vertices.{comes_before}
use Rattle.bmp_interval.specs.declared.numbering.Vertex.{Vertex}

abbrev pub measured : List Vector → Elem → Vertex
measured roots e = record { length = element_length roots e; elem = e }

abbrev pub elem_cmp : Elem → Elem → Ordering
elem_cmp x y = ordering_then (nat_cmp x.rank y.rank) (slice_cmp int_cmp x.entries y.entries)

abbrev pub vertex_cmp : Vertex → Vertex → Ordering
vertex_cmp v w = ordering_then (nat_cmp v.length w.length) (elem_cmp v.elem w.elem)

abbrev pub elements_of : List Vertex → List Elem
elements_of vs = map (λ v. v.elem) vs

abbrev pub lengths_of : List Vertex → List ℕ
lengths_of vs = map (λ v. v.length) vs

-- the list has the elements that were found, each once, in order, and these are their lengths
pub record IsSortedList (roots : List Vector) (found list : List Elem) (lengths : List ℕ)
    : Type 0 where
  pub once : HasEachOnce list
  pub inside : (e : Elem) → Member e list → Member e found
  pub all : (e : Elem) → Member e found → Member e list
  pub measures : lengths ≡ map (element_length roots) list
  pub as_long : length list ≡ length found
  pub sorted : IsSortedBy (λ x y. comes_before roots x y) list
