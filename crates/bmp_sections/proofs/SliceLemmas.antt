-- Numbers of a list of which a part was written.
use Rattle.std.proofs.Common.{◌≡◌, ℕ, ◌+◌, ◌-◌, ◌<◌, ◌≤◌, ◌++◌, List, length, get_or, take, drop, sym, ap, ◌∙◌, arith}
use Rattle.std.proofs.lemmas.List.{length-take, length-drop, length-append, get_or-take, get_or-drop, get_or_append_left, get_or-append_right}
use borrow.Rule.Slice.PartMut.{put_mid, post_of}

front_length : (a : ℕ) (xs : List ℕ) → a ≤ length xs → length (take a xs) ≡ a
front_length a xs within = omega (arith, length-take a xs)

pub part_before : (a k : ℕ) (xs ys : List ℕ) (i : ℕ) → i < a → a ≤ length xs →
    get_or (put_mid a k xs ys) i 0 ≡ get_or xs i 0
part_before a k xs ys i before within =
    get_or_append_left (take a xs) (ys ++ post_of a k xs) 0 i (omega (arith, front_length a xs within))
    ∙ get_or-take a xs i 0 before

-- behind the front stands the written part, and then the rest
behind : (a k : ℕ) (xs ys : List ℕ) (j : ℕ) → a ≤ length xs → get_or (put_mid a k xs ys) (a + j) 0
    ≡ get_or (ys ++ post_of a k xs) j 0
behind a k xs ys j within =
    let back : (a + j) - a ≡ j = omega arith in
    get_or-append_right (take a xs) (ys ++ post_of a k xs) a (a + j) 0 (front_length a xs within) (omega arith)
    ∙ ap (λ m. get_or (ys ++ post_of a k xs) m 0) back

pub part_inside : (a k : ℕ) (xs ys : List ℕ) (j : ℕ) → a ≤ length xs → j < length ys →
    get_or (put_mid a k xs ys) (a + j) 0 ≡ get_or ys j 0
part_inside a k xs ys j within inside = behind a k xs ys j within ∙ get_or_append_left ys (post_of a k xs) 0 j inside

pub part_after : (a k : ℕ) (xs ys : List ℕ) (i : ℕ) → a + k ≤ i → a ≤ length xs → length ys ≡ k →
    get_or (put_mid a k xs ys) i 0 ≡ get_or xs i 0
part_after a k xs ys i past within counted =
    let at : a + (i - a) ≡ i = omega arith in
    let rest : a + (k + ((i - a) - k)) ≡ i = omega arith in
    ap (λ m. get_or (put_mid a k xs ys) m 0) (sym at)
    ∙ behind a k xs ys (i - a) within
    ∙ get_or-append_right ys (post_of a k xs) k (i - a) 0 counted (omega arith)
    ∙ get_or-drop k (drop a xs) ((i - a) - k) 0
    ∙ get_or-drop a xs (k + ((i - a) - k)) 0
    ∙ ap (λ m. get_or xs m 0) rest

pub part_read : (a k : ℕ) (xs : List ℕ) (j : ℕ) → j < k → get_or (take k (drop a xs)) j 0 ≡ get_or xs (a + j) 0
part_read a k xs j inside = get_or-take k (drop a xs) j 0 inside ∙ get_or-drop a xs j 0

pub part_length : (a k : ℕ) (xs ys : List ℕ) → a + k ≤ length xs → length ys ≡ k →
    length (put_mid a k xs ys) ≡ length xs
part_length a k xs ys within counted =
    omega (
      arith,
      length-append (take a xs) (ys ++ post_of a k xs),
      length-append ys (post_of a k xs),
      front_length a xs (omega arith),
      length-drop k (drop a xs),
      length-drop a xs,
    )
