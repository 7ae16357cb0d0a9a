-- A tuple whose elements are changed in place, one after another.
use Rattle.std.proofs.Common.{◌≡◌, ℕ, ◌+◌, ◌<◌, ◌≤◌, List, length, get_or, set, take, map, sym, ap, subst, ◌∙◌, inl, inr, arith, length-set}
use Rattle.std.proofs.Math.Seq.{get_or-set_same, get_or-set_other}
use Rattle.std.proofs.lemmas.Bool.{cases_eq}
use Rattle.bmp_graded.specs.Graded.{Graded}
use Rattle.bmp_graded.specs.Modules.{direct_sum}
use Rattle.bmp_graded.specs.Tuples.{IsTuple, joined_coordinates}
use Rattle.bmp_graded.proofs.Totals.{total}
use Rattle.bmp_graded.proofs.TupleLemmas.{Located, locate, joined_at, direct_sum_dim, member}
use Rattle.bmp_module.proofs.Tupling.{get_any, ChangedBelow}

module _ {E : Type 0} {Q : ℕ → E → E → Type 0} where
  -- one more place is set
  pub changed_more : (old now : List E) (k : ℕ) (x : E) → ChangedBelow Q old now k → k < length old →
      ((a : E) → Q k (get_or old k a) x) → ChangedBelow Q old (set now k x) (k + 1)
  changed_more old now k x h inside q =
      let sizes : length now ≡ length old = h.sized in
      let within : k < length now = omega (arith, sizes, inside) in
      let same : length (set now k x) ≡ length now = simp length-set in
      record {
        sized = same ∙ sizes;
        done = λ i a b l. elim (cases_eq i k) [
          | inl here ↦
              let at : get_or (set now k x) k b ≡ x = get_or-set_same now k x b within in
              let there : get_or (set now k x) i b ≡ x = ap (λ z. get_or (set now k x) z b) here ∙ at in
              subst (Q i (get_or old i a)) (sym there) (subst (λ z. Q z (get_or old z a) x) (sym here) (q a))
          | inr other ↦ subst (Q i (get_or old i a)) (sym (get_or-set_other now k i x b other))
              (h.done i a b (omega arith))
        ];
        left = λ i a past. get_or-set_other now k i x a (λ e. absurd (omega (arith, e, past)))
            ∙ h.left i a (omega (arith, past));
      }

  -- all places are set: each element is what Q says
  pub changed_tuple : {M : Type 0} (is_element : M → E → Type 0) (degree : M → E → ℕ) (d t : ℕ) (ms : List M)
      (old now : List E) (k : ℕ) → IsTuple is_element degree d ms old → length ms ≤ k → t ≡ d →
      ChangedBelow Q old now k →
      ((i : ℕ) (a b : E) (m : M) → i < length ms → Q i a b → is_element (get_or ms i m) b ×
      (degree (get_or ms i m) b ≡ d)) → IsTuple is_element degree t ms now
  changed_tuple is_element degree d t ms old now k was past same h q = record {
    small = let few = was.small in omega (arith, few, same);
    sized = h.sized ∙ was.sized;
    each = λ i m e l. let both = q i (get_or old i e) (get_or now i e) m l (h.done i e e (omega (arith, past, l))) in
        (both.0, both.1 ∙ sym same);
  }

-- the coordinates of a tuple each of whose elements has the coordinates f of those of two others
pub joined_both : {M E : Type 0} (f : ℕ → ℕ → ℕ) (dim : M → ℕ) (coordinate : M → E → ℕ → ℕ) (ms : List M)
    (old other now : List E) → length old ≡ length ms → length other ≡ length ms → length now ≡ length ms →
    ((k j : ℕ) (m : M) (a : E) → k < length ms → j < dim (get_or ms k m) → coordinate (get_or ms k m) (get_or now k a) j
    ≡ f (coordinate (get_or ms k m) (get_or old k a) j) (coordinate (get_or ms k m) (get_or other k a) j)) →
    (i : ℕ) → i < total dim ms → joined_coordinates dim coordinate ms now i
    ≡ f (joined_coordinates dim coordinate ms old i) (joined_coordinates dim coordinate ms other i)
joined_both f dim coordinate ms old other now size_old size_other size_now each i inside =
    let at : Located dim ms i = locate dim ms i inside in
    let m = member ms at.part at.inside in
    let within : at.part < length old = let below = at.inside in omega (arith, below, size_old) in
    let e = member old at.part within in
    let news = joined_at dim coordinate ms now at.part at.place m e at.inside size_now (at.below m) in
    let olds = joined_at dim coordinate ms old at.part at.place m e at.inside size_old (at.below m) in
    let others = joined_at dim coordinate ms other at.part at.place m e at.inside size_other (at.below m) in
    rw at.is (news ∙ each at.part at.place m e at.inside (at.below m)
    ∙ ap (λ z. f z (coordinate (get_or ms at.part m) (get_or other at.part e) at.place)) (sym olds)
    ∙ ap (f (joined_coordinates dim coordinate ms old (total dim (take at.part ms) + at.place))) (sym others))

-- all places are set: the coordinates of the tuple
pub changed_coordinates : {M E : Type 0} (f : ℕ → ℕ → ℕ) {Q : ℕ → E → E → Type 0} (graded : M → Graded)
    (coordinate : M → E → ℕ → ℕ) (d s t : ℕ) (ms : List M) (old other now : List E) (k : ℕ) → length old ≡ length ms →
    length other ≡ length ms → length ms ≤ k → t ≡ d → s ≡ d → ChangedBelow Q old now k →
    ((i j : ℕ) (a b : E) (m : M) → i < length ms → j < (graded (get_or ms i m)).dim d → Q i a b →
    coordinate (get_or ms i m) b j ≡ f (coordinate (get_or ms i m) a j)
    (coordinate (get_or ms i m) (get_or other i a) j)) → (i : ℕ) → i < (direct_sum (map graded ms)).dim d →
    joined_coordinates (λ m. (graded m).dim t) coordinate ms now i
    ≡ f (joined_coordinates (λ m. (graded m).dim d) coordinate ms old i)
    (joined_coordinates (λ m. (graded m).dim s) coordinate ms other i)
changed_coordinates f graded coordinate d s t ms old other now k size_old size_other past same_t same_s h q i inside =
    rw (same_t, same_s)
    (joined_both f (λ m. (graded m).dim d) coordinate ms old other now size_old size_other (h.sized ∙ size_old)
    (λ p j m a l below. let each = q p j (get_or old p a) (get_or now p a) m l below
    (h.done p a a (omega (arith, past, l))) in
    each ∙ ap (λ z. f (coordinate (get_or ms p m) (get_or old p a) j) (coordinate (get_or ms p m) z j))
    (get_any other p (get_or old p a) a (omega (arith, l, size_other)))) i
    (rw (direct_sum_dim graded d ms) at inside))

-- the part k is changed: what was said of what the lists have there is said of the places
pub changed_part : {M E : Type 0} (is_element : M → E → Type 0) (degree : M → E → ℕ) (dim : M → ℕ → ℕ)
    (coordinate : M → E → ℕ → ℕ) (f : ℕ → ℕ → ℕ) (d : ℕ) (ms : List M) (old now other : List E) (k : ℕ) (part : M)
    (was added is : E) → IsTuple is_element degree d ms old → k < length ms → length other ≡ length ms →
    get_or now k was ≡ get_or old k was → part ≡ get_or ms k part → was ≡ get_or now k was →
    added ≡ get_or other k added → is_element part is → degree part is ≡ degree part was →
    ((i : ℕ) → i < dim part (degree part was) →
    coordinate part is i ≡ f (coordinate part was i) (coordinate part added i)) → (a : E) (m : M) (x : E) →
    is_element (get_or ms k m) is × (degree (get_or ms k m) is ≡ d) ×
    ((j : ℕ) → j < dim (get_or ms k m) d →
    coordinate (get_or ms k m) is j ≡ f (coordinate (get_or ms k m) (get_or old k a) j)
    (coordinate (get_or ms k m) (get_or other k x) j))
changed_part is_element degree dim coordinate f d ms old now other k part was added is tuple inside size_other left
    part_is was_is added_is element same each a m x =
    let size_old : length old ≡ length ms = tuple.sized in
    let at_m : get_or ms k m ≡ part = get_any ms k m part inside ∙ sym part_is in
    let at_a : get_or old k a ≡ was = get_any old k a was (omega (arith, inside, size_old)) ∙ sym left ∙ sym was_is in
    let at_x : get_or other k x ≡ added = get_any other k x added (omega (arith, inside, size_other)) ∙ sym added_is in
    let both = tuple.each k part was inside in
    let first : degree part was ≡ d = ap (λ z. degree z was) part_is ∙ ap (degree (get_or ms k part)) (was_is ∙ left)
    ∙ both.1 in
    rw (at_m, at_a, at_x) (element, same ∙ first, λ j l. each j (rw first l))
