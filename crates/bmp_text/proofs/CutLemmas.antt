-- Bytes cut at a separator: how a loop cuts, and what was cut off.
--   put_before front parts    a front in front of the first part
use Rattle.std.proofs.Common.{◌≡◌, ℕ, ◌+◌, ◌<◌, ◌≤◌, ◌==◌, Bool, true, false, List, [], ◌∷◌, ◌++◌, length, take, drop, get_or, Option, Some, None, refl, sym, ap, ap₂, ◌∙◌, add-one, drop-cons, append_assoc, append-nil, arith, rules}
use Rattle.std.proofs.lemmas.Bool.{eqb-true}
use Rattle.std.proofs.lemmas.List.{length-append, take_all, take_more, drop_all}
use Rattle.std.specs.List.{AllByRecursion}
use Rattle.bmp_text.specs.Words.{cut, cut_with}

abbrev pub put_before : List ℕ → List ℕ × Option (List ℕ) → List ℕ × Option (List ℕ)
put_before front parts = (front ++ parts.0, parts.1)

-- what doesn't hold the separator goes to the front
pub passed : (s b : ℕ) (front bs : List ℕ) → (b == s) ≡ false →
    put_before front (cut s (b ∷ bs)) ≡ put_before (front ++ b ∷ []) (cut s bs)
unfolding cut
passed s b front bs h = rw h (ap (λ t. (t, (cut s bs).1)) (sym (append_assoc front (b ∷ []) (cut s bs).0)))

pub found : (s b : ℕ) (bs : List ℕ) → (b == s) ≡ true → cut s (b ∷ bs) ≡ ([], Some bs)
unfolding cut
found s b bs h = rw h refl

pub cut_nothing : (s : ℕ) → cut s [] ≡ ([], None)
unfolding cut
cut_nothing s = refl

pub at_passed : (s : ℕ) (bytes : List ℕ) (i : ℕ) → i < length bytes → (get_or bytes i 0 == s) ≡ false →
    put_before (take i bytes) (cut s (drop i bytes)) ≡ cut s bytes →
    put_before (take (i + 1) bytes) (cut s (drop (i + 1) bytes)) ≡ cut s bytes
at_passed s bytes i le differs so_far =
    let front : take (i + 1) bytes ≡ take i bytes ++ get_or bytes i 0 ∷ [] = take_more bytes i 0 le in
    let back : drop i bytes ≡ get_or bytes i 0 ∷ drop (i + 1) bytes = rw add-one (drop-cons bytes i 0 le) in
    ap (λ t. put_before t (cut s (drop (i + 1) bytes))) front
    ∙ (sym (passed s (get_or bytes i 0) (take i bytes) (drop (i + 1) bytes) differs)
    ∙ (ap (λ t. put_before (take i bytes) (cut s t)) (sym back) ∙ so_far))

pub at_found : (s : ℕ) (bytes : List ℕ) (i : ℕ) → i < length bytes → (get_or bytes i 0 == s) ≡ true →
    put_before (take i bytes) (cut s (drop i bytes)) ≡ cut s bytes →
    cut s bytes ≡ (take i bytes, Some (drop (i + 1) bytes))
at_found s bytes i le same so_far =
    let back : drop i bytes ≡ get_or bytes i 0 ∷ drop (i + 1) bytes = rw add-one (drop-cons bytes i 0 le) in
    sym so_far ∙ (ap (λ t. put_before (take i bytes) (cut s t)) back
    ∙ (ap (put_before (take i bytes)) (found s (get_or bytes i 0) (drop (i + 1) bytes) same)
    ∙ ap (λ t. (t, Some (drop (i + 1) bytes))) (append-nil (take i bytes))))

pub at_end : (s : ℕ) (bytes : List ℕ) (i : ℕ) → length bytes ≤ i → put_before (take i bytes) (cut s (drop i bytes))
    ≡ cut s bytes → cut s bytes ≡ (bytes, None)
at_end s bytes i le so_far =
    let back : drop i bytes ≡ [] = drop_all i bytes le in
    sym so_far ∙ (ap (λ t. put_before (take i bytes) (cut s t)) back
    ∙ (ap (put_before (take i bytes)) (cut_nothing s)
    ∙ ap (λ t. (t, None)) (append-nil (take i bytes) ∙ take_all i bytes le)))

-- ---- what was cut off is a front, with the separator behind it; and a front is cut off again

on : (s b : ℕ) (bs : List ℕ) → (b == s) ≡ false → cut s (b ∷ bs) ≡ cut_with b (cut s bs)
unfolding cut
on s b bs h = rw h refl

pub cut_takes : (s : ℕ) (bytes front back : List ℕ) → cut s bytes ≡ (front, Some back) → bytes ≡ front ++ s ∷ back
unfolding cut
cut_takes s [] front back e = let h : None ≡ Some back = ap (λ (p : List ℕ × Option (List ℕ)). p.1) e in cc
cut_takes s (b ∷ bs) front back e = go (b == s) refl (cut_takes s bs (cut s bs).0 back)
  where
    go : (t : Bool) → (b == s) ≡ t → (cut s bs ≡ ((cut s bs).0, Some back) → bs ≡ (cut s bs).0 ++ s ∷ back) →
        (b ∷ bs) ≡ front ++ s ∷ back
    go true h more =
        let p : ([], Some bs) ≡ (front, Some back) = sym (found s b bs h) ∙ e in
        let f : [] ≡ front = ap (λ (q : List ℕ × Option (List ℕ)). q.0) p in
        let g : Some bs ≡ Some back = ap (λ (q : List ℕ × Option (List ℕ)). q.1) p in
        let i : bs ≡ back = cc in
        ap₂ (λ (x : ℕ) (y : List ℕ). x ∷ y) (eqb-true b s h) i ∙ ap (λ t. t ++ s ∷ back) f
    go false h more =
        let p : cut_with b (cut s bs) ≡ (front, Some back) = sym (on s b bs h) ∙ e in
        let f : (b ∷ (cut s bs).0) ≡ front = ap (λ (q : List ℕ × Option (List ℕ)). q.0) p in
        let g : (cut s bs).1 ≡ Some back = ap (λ (q : List ℕ × Option (List ℕ)). q.1) p in
        ap (λ t. b ∷ t) (more (ap (λ t. ((cut s bs).0, t)) g)) ∙ ap (λ t. t ++ s ∷ back) f

-- what is left behind a separator is shorter
pub cut_length : (s : ℕ) (bytes back : List ℕ) → (cut s bytes).1 ≡ Some back → length back < length bytes
cut_length s bytes back e =
    let all : bytes ≡ (cut s bytes).0 ++ s ∷ back =
    cut_takes s bytes (cut s bytes).0 back (ap (λ t. ((cut s bytes).0, t)) e) in
    omega (arith, ap length all, length-append (cut s bytes).0 (s ∷ back))

pub cut_again : (s : ℕ) (front back : List ℕ) → AllByRecursion (λ b. (b == s) ≡ false) front →
    cut s (front ++ s ∷ back) ≡ (front, Some back)
cut_again s [] back h = found s s back (search rules)
cut_again s (b ∷ front) back h = on s b (front ++ s ∷ back) h.0 ∙ ap (cut_with b) (cut_again s front back h.1)
