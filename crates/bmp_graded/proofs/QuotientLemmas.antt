-- A variable that is put into a monomial, or left out of it.
use Rattle.std.proofs.Common.{◌≡◌, ℕ, zero, suc, ◌<◌, ◌≤◌, List, [], ◌∷◌, length, get_or, refl, sym, ap, ◌∙◌, arith}
use Rattle.std.specs.List.{sum}
use Rattle.bmp_poly.specs.Exponents.{IsMonomial}
use Rattle.bmp_poly.proofs.PlaceLemmas.{sum-cons}
use Rattle.bmp_graded.specs.Quotients.{insert, remove}

insert_long : (l : ℕ) (m : List ℕ) → l ≤ length m → length (insert l m) ≡ suc (length m)
unfolding insert
insert_long zero m h = refl
insert_long (suc l) [] h = absurd (let z : suc l ≤ 0 = h in omega arith)
insert_long (suc l) (x ∷ m) h = let z : suc l ≤ suc (length m) = h in ap suc (insert_long l m (omega arith))

insert_sum : (l : ℕ) (m : List ℕ) → l ≤ length m → sum (insert l m) ≡ sum m
unfolding insert
insert_sum zero m h = sum-cons 0 m ∙ omega arith
insert_sum (suc l) [] h = absurd (let z : suc l ≤ 0 = h in omega arith)
insert_sum (suc l) (x ∷ m) h = let z : suc l ≤ suc (length m) =
    h in omega (arith, sum-cons x (insert l m), sum-cons x m, insert_sum l m (omega arith))

pub insert_at : (l : ℕ) (m : List ℕ) → get_or (insert l m) l 0 ≡ 0
unfolding insert
insert_at zero m = refl
insert_at (suc l) [] = refl
insert_at (suc l) (x ∷ m) = insert_at l m

insert_past : (l r k : ℕ) (m : List ℕ) → l ≤ r → suc r ≤ k → ((j : ℕ) → r ≤ j → get_or m j 0 ≡ 0) →
    get_or (insert l m) k 0 ≡ 0
unfolding insert
insert_past l r zero m h g past = absurd (omega arith)
insert_past zero r (suc k) m h g past = past k (omega arith)
insert_past (suc l) r (suc k) [] h g past = refl
insert_past (suc l) zero (suc k) (x ∷ m) h g past = absurd (omega arith)
insert_past (suc l) (suc r) (suc k) (x ∷ m) h g past =
    insert_past l r k m (omega arith) (omega arith) (λ j le. past (suc j) (omega arith))

pub insert_monomial : (w r d l : ℕ) (m : List ℕ) → l ≤ r → r ≤ w → IsMonomial w r d m →
    IsMonomial (suc w) (suc r) d (insert l m)
insert_monomial w r d l m h g is =
    let long : length m ≡ w = is.long in
    record {
      long = insert_long l m (omega arith) ∙ ap suc long;
      size = insert_sum l m (omega arith) ∙ is.size;
      past = λ k le. insert_past l r k m h le is.past;
    }

remove_long : (l : ℕ) (e : List ℕ) → l < length e → suc (length (remove l e)) ≡ length e
unfolding remove
remove_long l [] h = absurd (let z : l < 0 = h in omega arith)
remove_long zero (x ∷ e) h = refl
remove_long (suc l) (x ∷ e) h = let z : suc l < suc (length e) = h in ap suc (remove_long l e (omega arith))

remove_sum : (l : ℕ) (e : List ℕ) → get_or e l 0 ≡ 0 → sum (remove l e) ≡ sum e
unfolding remove
remove_sum l [] h = refl
remove_sum zero (x ∷ e) h = let z : x ≡ 0 = h in omega (arith, sum-cons x e)
remove_sum (suc l) (x ∷ e) h = omega (arith, sum-cons x (remove l e), sum-cons x e, remove_sum l e h)

remove_past : (l r k : ℕ) (e : List ℕ) → l ≤ r → r ≤ k → ((j : ℕ) → suc r ≤ j → get_or e j 0 ≡ 0) →
    get_or (remove l e) k 0 ≡ 0
unfolding remove
remove_past l r k [] h g past = refl
remove_past zero r k (x ∷ e) h g past = past (suc k) (omega arith)
remove_past (suc l) r zero (x ∷ e) h g past = absurd (omega arith)
remove_past (suc l) zero (suc k) (x ∷ e) h g past = absurd (omega arith)
remove_past (suc l) (suc r) (suc k) (x ∷ e) h g past =
    remove_past l r k e (omega arith) (omega arith) (λ j le. past (suc j) (omega arith))

pub remove_monomial : (w r d l : ℕ) (e : List ℕ) → l ≤ r → r ≤ w → get_or e l 0 ≡ 0 → IsMonomial (suc w) (suc r) d e →
    IsMonomial w r d (remove l e)
remove_monomial w r d l e h g none is =
    let long : length e ≡ suc w = is.long in
    record {
      long = let z : suc (length (remove l e)) ≡ suc w = remove_long l e (omega arith) ∙ long in omega arith;
      size = remove_sum l e none ∙ is.size;
      past = λ k le. remove_past l r k e h le is.past;
    }

pub remove_insert : (l : ℕ) (m : List ℕ) → l ≤ length m → remove l (insert l m) ≡ m
unfolding insert remove
remove_insert zero m h = refl
remove_insert (suc l) [] h = absurd (let z : suc l ≤ 0 = h in omega arith)
remove_insert (suc l) (x ∷ m) h = let z : suc l ≤ suc (length m) =
    h in ap (λ (y : List ℕ). x ∷ y) (remove_insert l m (omega arith))

pub insert_remove : (l : ℕ) (e : List ℕ) → l < length e → get_or e l 0 ≡ 0 → insert l (remove l e) ≡ e
unfolding insert remove
insert_remove l [] h none = absurd (let z : l < 0 = h in omega arith)
insert_remove zero (x ∷ e) h none = ap (λ (y : ℕ). y ∷ e) (sym none)
insert_remove (suc l) (x ∷ e) h none = let z : suc l < suc (length e) =
    h in ap (λ (y : List ℕ). x ∷ y) (insert_remove l e (omega arith) none)
