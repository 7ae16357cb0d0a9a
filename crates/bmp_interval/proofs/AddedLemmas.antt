-- What an insertion does to the keys, where `==` decides that elements are the same.
use Rattle.std.proofs.Common.{◌≡◌, ℕ, ℤ, Bool, true, false, ◌&&◌, ◌||◌, nat_eq, List, [], ◌∷◌, ◌++◌, refl, sym, ap, ap₂, ◌∙◌, rules, inl, inr, if◌then◌else◌, ◌<◌, length, get_or, position, Some}
use Rattle.std.specs.Ordering.{int_eq}
use Rattle.std.specs.List.{list_any}
use Rattle.std.specs.Cmp.Lexicographic.{pointwise}
use Rattle.std.proofs.lemmas.List.Quantifiers.{position-Some}
use Rattle.std.proofs.lemmas.Slice.Eq.{slice_eq-Decides}
use Rattle.std.proofs.lemmas.Bool.Decides.{Decides-int_eq}
use Rattle.bmp_math.specs.Lists.{Member}
use Rattle.bmp_weyl.specs.declared.elem.Elem.{Elem}
use Rattle.bmp_interval.specs.Growth.{IsAdded}

abbrev pub elem_eq : Elem → Elem → Bool
elem_eq a b = nat_eq a.rank b.rank && pointwise int_eq a.entries b.entries

pub same_elem : (a b : Elem) → elem_eq a b ≡ true → a ≡ b
same_elem a b h =
    let rank : a.rank ≡ b.rank = search rules in
    let entries : a.entries ≡ b.entries = search (rules, slice_eq-Decides Decides-int_eq a.entries b.entries) in
    ap₂ (λ (r : ℕ) (e : List ℤ). record { rank = r; entries = e }) rank entries

pub self_same : (a : Elem) → elem_eq a a ≡ true
self_same a =
    let rank : nat_eq a.rank a.rank ≡ true = search rules in
    let entries : pointwise int_eq a.entries a.entries ≡ true =
    (slice_eq-Decides Decides-int_eq a.entries a.entries _ refl).1 refl in
    ap₂ (λ x y. x && y) rank entries

module _ {X : Type 0} (eq : X → X → Bool) (same : (a b : X) → eq a b ≡ true → a ≡ b) (self : (a : X) → eq a a ≡ true)
  where
    or_false : (a b : Bool) → (a || b) ≡ false → (a ≡ false) × (b ≡ false)
    or_false true b h = absurd (cc)
    or_false false b h = (refl, h)

    any_member : (x : X) (xs : List X) → list_any (eq x) xs ≡ true → Member x xs
    any_member x [] h = absurd (cc)
    any_member x (y ∷ xs) h = by (eq x y) refl (any_member x xs) h
      where
        by : (b : Bool) → eq x y ≡ b → (list_any (eq x) xs ≡ true → Member x xs) → (b || list_any (eq x) xs) ≡ true →
            Member x (y ∷ xs)
        by true e again h = inl (same x y e)
        by false e again h = inr (again h)

    none_member : (x : X) (xs : List X) → list_any (eq x) xs ≡ false → Member x xs → ⊥
    none_member x [] h k = absurd k
    none_member x (y ∷ xs) h (inl e) = let t : eq x y ≡ true = ap (λ z. eq x z) (sym e) ∙ self x in
        let f : eq x y ≡ false = (or_false (eq x y) (list_any (eq x) xs) h).0 in cc
    none_member x (y ∷ xs) h (inr k) = none_member x xs (or_false (eq x y) (list_any (eq x) xs) h).1 k

    pub added : (old new : List X) (x : X) → new ≡ (if list_any (eq x) old then old else (old ++ x ∷ [])) →
        IsAdded old new x
    added old new x e = by (list_any (eq x) old) refl e
      where
        by : (b : Bool) → list_any (eq x) old ≡ b → new ≡ (if b then old else (old ++ x ∷ [])) → IsAdded old new x
        by true h e = inl (any_member x old h, e)
        by false h e = inr (none_member x old h, e)

pub elem_added : (old new : List Elem) (x : Elem) → new ≡ (if list_any (elem_eq x) old then old else (old ++ x ∷ [])) →
    IsAdded old new x
elem_added = added elem_eq same_elem self_same

-- ---- the place of an element
pub place_found : (x : Elem) (xs : List Elem) (i : ℕ) → position (elem_eq x) xs ≡ Some i → (i < length xs) ×
    ((d : Elem) → get_or xs i d ≡ x)
place_found x xs i h = (
  (position-Some (elem_eq x) xs i x h).0,
  λ d. sym (same_elem x (get_or xs i d) (position-Some (elem_eq x) xs i d h).1),
)

pub place_missing : (x : Elem) (xs : List Elem) → list_any (elem_eq x) xs ≡ false → Member x xs → ⊥
place_missing = none_member elem_eq same_elem self_same
