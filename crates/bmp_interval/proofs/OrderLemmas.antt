-- The order of vertices is total, and what a sorted list says of the numbers.
use Rattle.std.proofs.Common.{◌≡◌, ◌≢◌, ℕ, ◌<◌, ◌≤◌, arith, refl, sym, ap, ap₂, ◌∙◌, inl, inr, ◌⊎◌, ℤ, List, [], ◌∷◌, length, get_or, true, false, nat_cmp}
use Rattle.std.specs.declared.cmp.Ordering.{Ordering}
use Rattle.std.specs.declared.cmp.Ordering.TheVariants.{Less, Equal, Greater}
use Rattle.std.specs.Ordering.{ordering_then, ordering_reverse, int_cmp, is_lt, is_eq}
use Rattle.std.specs.Cmp.{IsTotalOrder, IsStrictWeakOrder, then_total, on_total, nat_cmp_total, int_cmp_total}
use Rattle.std.specs.Cmp.Lexicographic.{slice_cmp, lists_total}
use Rattle.std.specs.List.Sorted.{IsSortedBy}
use Rattle.std.proofs.lemmas.Bool.Decides.{Decides-int_eq, nat_tests}
use Rattle.std.proofs.lemmas.List.Sorted.{ranks_by, sorted_far}
use Rattle.bmp_math.specs.Lists.{Member, HasEachOnce}
use Rattle.bmp_math.proofs.ListLemmas.{member_at}
use Rattle.bmp_roots.specs.RootPairs.{Vector}
use Rattle.bmp_weyl.specs.Elements.{element_length}
use Rattle.bmp_weyl.specs.declared.elem.Elem.{Elem}
use Rattle.bmp_interval.specs.Vertices.{vertex_order, comes_before, number_of}
use Rattle.bmp_interval.proofs.CountLemmas.{once_apart, count_prefix}

-- ---- lists that compare as equal
both_equal : (r s : Ordering) → ordering_then r s ≡ Equal → (r ≡ Equal) × (s ≡ Equal)
both_equal Less s h = absurd (cc)
both_equal Equal s h = (refl, h)
both_equal Greater s h = absurd (cc)

same_number : (x y : ℤ) → int_cmp x y ≡ Equal → x ≡ y
same_number x y h = (Decides-int_eq x y).0 (ap is_eq h)

same_list : (xs ys : List ℤ) → slice_cmp int_cmp xs ys ≡ Equal → xs ≡ ys
same_list [] [] h = refl
same_list [] (y ∷ ys) h = absurd (cc)
same_list (x ∷ xs) [] h = absurd (cc)
same_list (x ∷ xs) (y ∷ ys) h =
    let both : (int_cmp x y ≡ Equal) × (slice_cmp int_cmp xs ys ≡ Equal) =
    both_equal (int_cmp x y) (slice_cmp int_cmp xs ys) h in
    ap₂ (λ z zs. z ∷ zs) (same_number x y both.0) (same_list xs ys both.1)

module _ (roots : List Vector) where
  order_is_total : IsTotalOrder (vertex_order roots)
  order_is_total = then_total (on_total (element_length roots) nat_cmp_total)
      (on_total (λ (e : Elem). e.entries) (lists_total int_cmp_total))

  before_is_order : IsStrictWeakOrder (λ x y. comes_before roots x y)
  before_is_order = ranks_by order_is_total (λ x. x)

  same_vertex : (x y : Elem) → x.rank ≡ y.rank → vertex_order roots x y ≡ Equal → x ≡ y
  same_vertex x y rank h =
      let both : (nat_cmp (element_length roots x) (element_length roots y) ≡ Equal) ×
      (slice_cmp int_cmp x.entries y.entries ≡ Equal) =
      both_equal (nat_cmp (element_length roots x) (element_length roots y)) (slice_cmp int_cmp x.entries y.entries)
      h in
      ap₂ (λ (r : ℕ) (e : List ℤ). record { rank = r; entries = e }) rank (same_list x.entries y.entries both.1)

  -- of two different vertices one comes before the other
  pub before_or_same : (x y : Elem) → x.rank ≡ y.rank → x ≢ y → comes_before roots y x ≡ false →
      comes_before roots x y ≡ true
  before_or_same x y rank apart later = by (vertex_order roots y x) refl (order_is_total.antisymm x y) later
    where
      by : (r : Ordering) → vertex_order roots y x ≡ r → vertex_order roots x y ≡ ordering_reverse r → is_lt r ≡ false →
          is_lt (vertex_order roots x y) ≡ true
      by Less is turned never = absurd (cc)
      by Equal is turned never = absurd (apart (same_vertex x y rank turned))
      by Greater is turned never = ap is_lt turned

  -- the number of a vertex is its place
  pub sorted_number : (list : List Elem) (n : ℕ) → HasEachOnce list → ((e : Elem) → Member e list → e.rank ≡ n) →
      IsSortedBy (λ x y. comes_before roots x y) list
      → (i : ℕ) (d : Elem) → i < length list → number_of roots list (get_or list i d) ≡ i
  sorted_number list n once ranks sorted i d inside =
      count_prefix (λ x. comes_before roots x (get_or list i d)) list i d (omega arith)
      (λ k before.
      let k_inside : k < length list = omega arith in
      before_or_same (get_or list k d) (get_or list i d)
      (ranks (get_or list k d) (member_at list k d k_inside)
      ∙ sym (ranks (get_or list i d) (member_at list i d inside)))
      (λ e. let same : k ≡ i = once_apart list once k i d k_inside inside e in absurd (omega arith))
      (sorted_far (λ x y. comes_before roots x y) before_is_order list sorted k i d (omega arith) inside))
      (λ k after k_inside. sorted_far (λ x y. comes_before roots x y) before_is_order list sorted i k d after k_inside)

  not_shorter : (a b : ℕ) (o : Ordering) → is_lt (ordering_then (nat_cmp a b) o) ≡ false → b ≤ a
  not_shorter a b o h = by (either b a) h
    where
      either : (i n : ℕ) → (i ≤ n) ⊎ (n < i)
      either i n = grind arith

      by : (b ≤ a) ⊎ (a < b) → is_lt (ordering_then (nat_cmp a b) o) ≡ false → b ≤ a
      by (inl l) k = l
      by (inr l) k =
          let less : nat_cmp a b ≡ Less = grind (arith, nat_tests) in
          let t : is_lt (ordering_then (nat_cmp a b) o) ≡ true = ap (λ r. is_lt (ordering_then r o)) less in
          absurd (cc)

  -- lengths never fall along the numbers
  pub sorted_rises : (list : List Elem) → IsSortedBy (λ x y. comes_before roots x y) list
      → (x y : ℕ) (d : Elem) → x ≤ y → y < length list → element_length roots (get_or list x d) ≤ element_length roots
      (get_or list y d)
  sorted_rises list sorted x y d l inside =
      not_shorter (element_length roots (get_or list y d)) (element_length roots (get_or list x d))
      (slice_cmp int_cmp (get_or list y d).entries (get_or list x d).entries)
      (sorted_far (λ x y. comes_before roots x y) before_is_order list sorted x y d l inside)
