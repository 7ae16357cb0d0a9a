-- What sorting the vertices with their lengths says of the elements alone.
use Rattle.std.proofs.Common.{◌≡◌, ℕ, zero, suc, ◌+◌, ◌<◌, arith, refl, sym, ap, ap₂, ◌∙◌, subst, List, [], ◌∷◌, length, get_or, take, map, inl, inr, ◌++◌, nat_cmp}
use Rattle.std.specs.List.{All}
use Rattle.std.specs.declared.cmp.Ordering.TheVariants.{Equal}
use Rattle.std.specs.Ordering.{ordering_then, int_cmp, is_lt}
use Rattle.std.specs.Cmp.Lexicographic.{slice_cmp}
use Rattle.std.specs.List.Sorted.{IsSorted, IsSortedBy, IsPermutation}
use Rattle.std.proofs.lemmas.Bool.Decides.{nat_tests}
use Rattle.std.proofs.lemmas.List.{length-map, length-take-le, get_or-take, take_more, take-map, map-append}
use Rattle.std.proofs.lemmas.List.Sorted.{IsPermutation-map, All-permutation, length_permutation}
use Rattle.bmp_math.specs.Lists.{Member, HasEachOnce}
use Rattle.bmp_math.proofs.ListLemmas.{member_at, place_of}
use Rattle.bmp_roots.specs.RootPairs.{Vector}
use Rattle.bmp_weyl.specs.Elements.{element_length}
use Rattle.bmp_weyl.specs.declared.elem.Elem.{Elem}
use Rattle.bmp_interval.specs.Vertices.{comes_before, vertex_order}
use Rattle.bmp_interval.specs.Numbering.{measured, vertex_cmp, elem_cmp, elements_of, lengths_of, IsSortedList}
use Rattle.bmp_interval.specs.Growth.{IsAdded}
use Rattle.bmp_interval.specs.declared.numbering.Vertex.{Vertex}
use Rattle.bmp_interval.proofs.AddedLemmas.{elem_eq, same_elem, self_same}
use Rattle.bmp_interval.proofs.CountLemmas.{once_apart, permuted_once, permuted_member, member_permuted}

element_at : (vs : List Vertex) (i : ℕ) (d : Vertex) → get_or (elements_of vs) i d.elem ≡ (get_or vs i d).elem
element_at [] i d = refl
element_at (v ∷ vs) zero d = refl
element_at (v ∷ vs) (suc i) d = element_at vs i d

measured_elements : (roots : List Vector) (list : List Elem) → elements_of (map (measured roots) list) ≡ list
measured_elements roots [] = refl
measured_elements roots (e ∷ list) = ap (λ (es : List Elem). e ∷ es) (measured_elements roots list)

all_measured : (roots : List Vector) (list : List Elem) →
    All (λ v. v.length ≡ element_length roots v.elem) (map (measured roots) list)
all_measured roots [] i d l = absurd (omega arith)
all_measured roots (e ∷ list) zero d l = refl
all_measured roots (e ∷ list) (suc i) d l = all_measured roots list i d (omega arith)

lengths_are : (roots : List Vector) (vs : List Vertex) → All (λ v. v.length ≡ element_length roots v.elem) vs →
    lengths_of vs ≡ map (element_length roots) (elements_of vs)
lengths_are roots [] h = refl
lengths_are roots (v ∷ vs) h =
    ap₂ (λ n ns. n ∷ ns) (h 0 v (omega arith)) (lengths_are roots vs (λ i d l. h (suc i) d (omega arith)))

module _ (roots : List Vector) (n : ℕ) where
  same_order : (v w : Vertex) → v.length ≡ element_length roots v.elem → w.length ≡ element_length roots w.elem →
      v.elem.rank ≡ n → w.elem.rank ≡ n
      → vertex_cmp v w ≡ vertex_order roots v.elem w.elem
  same_order v w h k r s =
      let level : nat_cmp v.elem.rank w.elem.rank ≡ Equal = grind (arith, nat_tests, r, s) in
      ap₂ (λ a b. ordering_then (nat_cmp a b) (elem_cmp v.elem w.elem)) h k
      ∙ ap (λ o. ordering_then (nat_cmp (element_length roots v.elem) (element_length roots w.elem))
      (ordering_then o (slice_cmp int_cmp v.elem.entries w.elem.entries))) level

  sorted_elements : (vs : List Vertex) → All (λ v. v.length ≡ element_length roots v.elem) vs →
      ((e : Elem) → Member e (elements_of vs) → e.rank ≡ n)
      → IsSorted vertex_cmp vs → IsSortedBy (λ x y. comes_before roots x y) (elements_of vs)
  sorted_elements vs lengths ranks sorted k d low high =
      let dv : Vertex = record { length = 0; elem = d } in
      let inside : k + 1 < length vs = omega (arith, high, length-map vs (λ (v : Vertex). v.elem)) in
      let here : k < length vs = omega arith in
      let rank : (i : ℕ) → i < length vs → (get_or vs i dv).elem.rank ≡ n = λ i l.
      ranks (get_or vs i dv).elem
      (subst (λ (e : Elem). Member e (elements_of vs)) (element_at vs i dv)
      (member_at (elements_of vs) i d (omega (arith, l, length-map vs (λ (v : Vertex). v.elem))))) in
      ap₂ (λ (x y : Elem). comes_before roots x y) (element_at vs (k + 1) dv) (element_at vs k dv)
      ∙ ap is_lt (sym (same_order (get_or vs (k + 1) dv) (get_or vs k dv) (lengths (k + 1) dv inside)
      (lengths k dv here) (rank (k + 1) inside) (rank k here)))
      ∙ sorted k dv low inside

  pub sorted_list : (found : List Elem) (vs : List Vertex) → HasEachOnce found →
      ((e : Elem) → Member e found → e.rank ≡ n)
      → IsPermutation (map (measured roots) found) vs → IsSorted vertex_cmp vs →
      IsSortedList roots found (elements_of vs) (lengths_of vs)
  sorted_list found vs once ranks moved sorted =
      let perm : IsPermutation found (elements_of vs) =
      subst (λ (es : List Elem). IsPermutation es (elements_of vs)) (measured_elements roots found)
      (IsPermutation-map (λ (v : Vertex). v.elem) (map (measured roots) found) vs moved) in
      let lengths : All (λ v. v.length ≡ element_length roots v.elem) vs =
      All-permutation (λ (v : Vertex). v.length ≡ element_length roots v.elem) (map (measured roots) found) vs moved
      (all_measured roots found) in
      let inside : (e : Elem) → Member e (elements_of vs) → Member e found =
      λ e h. member_permuted elem_eq same_elem self_same e found (elements_of vs) perm h in
      record {
        once = permuted_once elem_eq same_elem self_same found (elements_of vs) perm once;
        inside = inside;
        all = λ e h. permuted_member elem_eq same_elem self_same e found (elements_of vs) perm h;
        measures = lengths_are roots vs lengths;
        as_long = length_permutation found (elements_of vs) perm;
        sorted = sorted_elements vs lengths (λ e h. ranks e (inside e h)) sorted;
      }

-- ---- the sorted elements, put into a set one by one
not_before : (es : List Elem) → HasEachOnce es → (i : ℕ) (d : Elem) → i < length es →
    Member (get_or es i d) (take i es) → ⊥
not_before es once i d l h =
    let r : (j : ℕ) × (j < length (take i es)) × ((c : Elem) → get_or (take i es) j c ≡ get_or es i d) =
    place_of (get_or es i d) (take i es) h in
    let before : r.0 < i = omega (arith, r.1, length-take-le i es (omega arith)) in
    let same : r.0 ≡ i = once_apart es once r.0 i d (omega arith) l (sym (get_or-take i es r.0 d before) ∙ r.2 d) in
    absurd (omega arith)

pub element_added : (vs : List Vertex) → HasEachOnce (elements_of vs) → (i : ℕ) (d : Vertex) (old new : List Elem) →
    i < length vs
    → old ≡ elements_of (take i vs) → IsAdded old new (get_or vs i d).elem → new ≡ elements_of (take (i + 1) vs)
element_added vs once i d old new l before (inl stays) =
    let inside : Member (get_or (elements_of vs) i d.elem) (take i (elements_of vs)) =
    subst (λ (es : List Elem). Member (get_or (elements_of vs) i d.elem) es)
    (before ∙ sym (take-map (λ (v : Vertex). v.elem) i vs))
    (subst (λ (e : Elem). Member e old) (sym (element_at vs i d)) stays.0) in
    absurd (not_before (elements_of vs) once i d.elem (omega (arith, l, length-map vs (λ (v : Vertex). v.elem))) inside)
element_added vs once i d old new l before (inr goes) =
    goes.1 ∙ ap (λ (es : List Elem). es ++ (get_or vs i d).elem ∷ []) before
    ∙ sym (ap elements_of (take_more vs i d l) ∙ map-append (λ (v : Vertex). v.elem) (take i vs) (get_or vs i d ∷ []))
