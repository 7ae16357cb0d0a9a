-- What a rotation of the end of six exponents leaves.
use Rattle.std.proofs.Common.{◌≡◌, ℕ, ◌-◌, ◌<◌, ◌≤◌, List, [], ◌++◌, length, get_or, take, drop, ap, ◌∙◌, arith, take_all, drop_of_length-le, length-drop, append-nil}
use borrow.Rule.Slice.PartMut.{mid_of, put_mid}
use Rattle.bmp_graded.specs.Quotients.{insert}
use Rattle.bmp_graded.proofs.PureLemmas.{rotated_right}

-- the whole end of the list from a on
mid_is : (a : ℕ) (xs : List ℕ) → a < 6 → length xs ≡ 6 → mid_of a (6 - a) xs ≡ drop a xs
mid_is a xs inside long =
    take_all (6 - a) (drop a xs) (let size : length (drop a xs) ≡ length xs - a = length-drop a xs in omega arith)

pub put_right : (a : ℕ) (xs ys : List ℕ) → a < 6 → length xs ≡ 6 → get_or xs 5 0 ≡ 0 →
    ys ≡ drop (length (mid_of a (6 - a) xs) - 1) (mid_of a (6 - a) xs) ++ take (length (mid_of a (6 - a) xs) - 1)
    (mid_of a (6 - a) xs) → put_mid a (6 - a) xs ys ≡ insert a (take 5 xs)
put_right a xs ys inside long last ys_is =
    let mid : mid_of a (6 - a) xs ≡ drop a xs = mid_is a xs inside long in
    let size : length (drop a xs) ≡ length xs - a = length-drop a xs in
    let one : length (drop a xs) - 1 ≡ 5 - a = omega arith in
    let past : length (drop a xs) ≤ 6 - a = omega arith in
    let ends : drop (6 - a) (drop a xs) ≡ [] = drop_of_length-le (drop a xs) past in
    let whole : ys ≡ drop (5 - a) (drop a xs) ++ take (5 - a) (drop a xs) =
    ys_is ∙ ap (λ z. drop (length z - 1) z ++ take (length z - 1) z) mid
    ∙ ap (λ n. drop n (drop a xs) ++ take n (drop a xs)) one in
    ap (λ z. take a xs ++ (ys ++ z)) ends ∙ ap (λ z. take a xs ++ z) (append-nil ys) ∙ ap (λ z. take a xs ++ z) whole
    ∙ rotated_right a 5 xs (omega arith) long last
