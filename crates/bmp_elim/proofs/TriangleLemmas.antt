-- A triangle in memory: where its rows begin, and a row up to the diagonal that is added.
use Rattle.std.proofs.Common.{◌≡◌, ℕ, zero, suc, ◌+◌, ◌*◌, ◌/◌, ◌<◌, ◌≤◌, ◌-◌, ◌%◌, ◌++◌, List, length, get_or, take, drop, leb, sym, ap, ap₂, ◌∙◌, inl, inr, arith}
use Rattle.std.proofs.Math.Nat.{add-mul-div_left, mod-eq_of_lt}
use Rattle.std.proofs.lemmas.Bool.{cases_eq, cases_lt, cond-true, cond-false, le-leb, lt-leb}
use Rattle.std.proofs.lemmas.List.{get_or_append_left, get_or-append_right, get_or-take, get_or-drop, length-take-le}
use Rattle.bmp_field.specs.Runs.{IsMultipleAdded}
use Rattle.bmp_linear.specs.RowChanges.{HoldsNumbers, IsRowAddedTo}
use Rattle.bmp_elim.specs.Triangles.{TriangleTable, row_start, square_of}

start_more : (k : ℕ) → row_start (k + 1) ≡ row_start k + (k + 1)
start_more k =
    let two : 0 < 2 = omega arith in
    let whole : (k + 1) * (k + 1 + 1) ≡ k * (k + 1) + 2 * (k + 1) = omega arith in
    ap (λ n. n / 2) whole ∙ add-mul-div_left (k * (k + 1)) (k + 1) two

-- a row ends within the rows
pub row_within : (n k : ℕ) → k < n → row_start k + (k + 1) ≤ row_start n
row_within zero k l = absurd (omega arith)
row_within (suc n) k l =
    let next : row_start (suc n) ≡ row_start n + (n + 1) = ap row_start (omega arith) ∙ start_more n in
    elim (cases_eq k n) [
      | inl last ↦
          let same : row_start k ≡ row_start n = ap row_start last in
          omega (arith, next, same, last)
      | inr other ↦
          let before : row_start k + (k + 1) ≤ row_start n = row_within n k (omega arith) in
          omega (arith, next, before)
    ]

-- what stands on the diagonal and before it
on_diagonal : (t : TriangleTable) (i j : ℕ) → j ≤ i → (square_of t).entry i j ≡ get_or t.numbers (row_start i + j) 0
on_diagonal t i j l = cond-true (leb j i) (get_or t.numbers (row_start i + j) 0) 0 (le-leb j i l)

behind_diagonal : (t : TriangleTable) (i j : ℕ) → i < j → (square_of t).entry i j ≡ 0
behind_diagonal t i j l = cond-false (leb j i) (get_or t.numbers (row_start i + j) 0) 0 (lt-leb j i l)

-- a row up to the diagonal that was added is the row of the square
pub triangle_row_added : {p c i : ℕ} {row old into : List ℕ} (t : TriangleTable) → HoldsNumbers p t.rows old →
    i < t.rows → length row ≡ i + 1 → ((j : ℕ) → j ≤ i → get_or row j 0 ≡ (square_of t).entry i j) →
    IsMultipleAdded p c row (take (length row) old) into →
    IsRowAddedTo p (square_of t) i c old (into ++ drop (length row) old)
triangle_row_added {p} {c} {i} {row} {old} {into} t holds within width numbers done =
    let n : ℕ = length row in
    let taken : length (take n old) ≡ n = length-take-le n old (omega (arith, holds.room, width, within)) in
    let made : length into ≡ n = done.length_is ∙ taken in
    let behind : (j : ℕ) → i < j → get_or (into ++ drop n old) j 0 ≡ get_or old j 0 = λ j l.
    let whole : n + (j - n) ≡ j = omega (arith, width, l) in
    get_or-append_right into (drop n old) n j 0 made (omega (arith, width, l))
    ∙ get_or-drop n old (j - n) 0 ∙ ap (λ k. get_or old k 0) whole in
    record {
      added = λ j l. elim (cases_lt i j) [
        | inl high ↦
            let none : get_or old j 0 + c * (square_of t).entry i j ≡ get_or old j 0 =
            ap (λ z. get_or old j 0 + c * z) (behind_diagonal t i j high) ∙ omega arith in
            behind j high ∙ sym (ap (λ z. z % p) none ∙ mod-eq_of_lt (holds.below j l))
        | inr low ↦
            let inside : j < n = omega (arith, width, low) in
            get_or_append_left into (drop n old) 0 j (rw made inside)
            ∙ done.added j (rw taken inside)
            ∙ ap₂ (λ x y. (x + c * y) % p) (get_or-take n old j 0 inside) (numbers j low)
      ];
      others = λ j l. behind j (omega (arith, within, l));
    }
