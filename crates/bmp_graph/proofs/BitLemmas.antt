-- Bits in rows of words: what setting one bit, and joining one row to another, make of them.
use Rattle.std.proofs.Common.{◌≡◌, ◌≢◌, ℕ, ◌+◌, ◌*◌, ◌/◌, ◌%◌, ◌^◌, ◌<◌, ◌↔◌, ◌⊎◌, inl, inr, List, length, get_or, set, bit_or, arith, sym, ap, ap₂, ◌∙◌, below_more, length-set}
use Rattle.std.specs.Int.{bit_at, w64}
use Rattle.std.proofs.lemmas.Nat.{mul-add-lt}
use Rattle.std.proofs.lemmas.Nat.Bits.{bit_at_or, bit_at_set_same, bit_at_set_other, bit_at-lt}
use Rattle.std.proofs.lemmas.Bool.{cases_eq}
use Rattle.std.proofs.lemmas.List.{get_or-set_same, get_or-set_other}
use Rattle.std.proofs.lemmas.Grind.{get_or-set_at}

-- places in rows of w words are equal only in one row, at one word
pub same_row : (w x q y r : ℕ) → q < w → r < w → x * w + q ≡ y * w + r → x ≡ y
same_row w x q y r hq hr e =
    let below : x < y → x * w + q < w * y = λ h. mul-add-lt x w q y h hq in
    let above : y < x → y * w + r < w * x = λ h. mul-add-lt y w r x h hr in
    grind arith

pub same_word : (w x q y r : ℕ) → q < w → r < w → x * w + q ≡ y * w + r → q ≡ r
same_word w x q y r hq hr e =
    let rows : x * w ≡ y * w = ap (λ z. z * w) (same_row w x q y r hq hr e) in
    omega arith

-- a bit of a word that took those of another
pub bit_joined : (a b k : ℕ) → (bit_at (bit_or a b) k ≡ 1) ↔ ((bit_at a k ≡ 1) ⊎ (bit_at b k ≡ 1))
bit_joined a b k =
    let joined = bit_at_or a b k in
    let first = bit_at-lt a k in
    let second = bit_at-lt b k in (
      λ h. elim (cases_eq (bit_at a k) 1) [ inl e ↦ inl e | inr n ↦ inr (omega arith) ],
      λ h. elim h [ inl e ↦ omega arith | inr e ↦ omega arith ],
    )

module _ (bits : List ℕ) (w row column x y : ℕ) (of_row : column / 64 < w) (of_x : y / 64 < w) where
  -- setting one bit sets that bit and no other
  pub bit_set : (v : ℕ) → row * w + column / 64 < length bits → v ≡ get_or bits (row * w + column / 64) 0
      → (bit_at (get_or (set bits (row * w + column / 64) (bit_or v (1 * 2 ^ (column % 64) % 2 ^ 64))) (x * w + y / 64)
      0) (y % 64) ≡ 1)
      ↔ ((bit_at (get_or bits (x * w + y / 64) 0) (y % 64) ≡ 1) ⊎ (x ≡ row) × (y ≡ column))
  bit_set v within is =
      elim (cases_eq (x * w + y / 64) (row * w + column / 64)) [
        | inr apart ↦
            let kept = get_or-set_other bits (row * w + column / 64) (x * w + y / 64)
            (bit_or v (1 * 2 ^ (column % 64) % 2 ^ 64)) 0 apart in (
              λ h. inl (sym (ap (λ z. bit_at z (y % 64)) kept) ∙ h),
              λ h. elim h [
                | inl e ↦ ap (λ z. bit_at z (y % 64)) kept ∙ e
                | inr p ↦ absurd (apart (ap (λ z. z * w + y / 64) p.0 ∙ ap (λ z. row * w + z / 64) p.1))
              ],
            )
        | inl same ↦
            let put = get_or-set_at bits (row * w + column / 64) (x * w + y / 64)
            (bit_or v (1 * 2 ^ (column % 64) % 2 ^ 64)) 0 same within in
            let there = ap (λ z. get_or bits z 0) same in
            let in_row = same_row w x (y / 64) row (column / 64) of_x of_row same in
            let in_word = same_word w x (y / 64) row (column / 64) of_x of_row same in
            elim (cases_eq (y % 64) (column % 64)) [
              | inl k ↦
                  let column_is : y ≡ column = omega arith in (
                    λ h. inr (in_row, column_is),
                    λ h. ap (λ z. bit_at z (y % 64)) put
                        ∙ ap (λ z. bit_at (bit_or v (1 * 2 ^ (column % 64) % 2 ^ 64)) z) k
                        ∙ bit_at_set_same w64 v (column % 64) (omega arith),
                  )
              | inr n ↦
                  let bit = ap (λ z. bit_at z (y % 64)) put
                  ∙ bit_at_set_other w64 v (column % 64) (omega arith) (y % 64) n
                  ∙ ap (λ z. bit_at z (y % 64)) (is ∙ sym there) in (
                    λ h. inl (sym bit ∙ h),
                    λ h. elim h [
                      | inl e ↦ bit ∙ e
                      | inr p ↦ absurd (n (ap (λ z. z % 64) p.1))
                    ],
                  )
            ]
      ]

-- the first words of a row have taken those of another
pub record IsJoined (old new : List ℕ) (w row from done : ℕ) : Type 0 where
  pub as_long : length new ≡ length old
  pub joined : (q : ℕ) → q < done → get_or new (row * w + q) 0 ≡ bit_or (get_or old (row * w + q) 0)
      (get_or old (from * w + q) 0)
  pub others : (k : ℕ) → ((q : ℕ) → q < done → k ≢ row * w + q) → get_or new k 0 ≡ get_or old k 0

-- a row that took another has the bits of both
pub bit_merged : (old new : List ℕ) (w row from x y : ℕ) → IsJoined old new w row from w → y / 64 < w
    → (bit_at (get_or new (x * w + y / 64) 0) (y % 64) ≡ 1)
    ↔ ((bit_at (get_or old (x * w + y / 64) 0) (y % 64) ≡ 1) ⊎ (x ≡ row) ×
    (bit_at (get_or old (from * w + y / 64) 0) (y % 64) ≡ 1))
bit_merged old new w row from x y all of_y =
    elim (cases_eq x row) [
      | inl same ↦
          let there = ap (λ z. get_or new (z * w + y / 64) 0) same ∙ all.joined (y / 64) of_y
          ∙ ap (λ z. bit_or (get_or old (z * w + y / 64) 0) (get_or old (from * w + y / 64) 0)) (sym same) in
          let bit = ap (λ z. bit_at z (y % 64)) there in
          let both = bit_joined (get_or old (x * w + y / 64) 0) (get_or old (from * w + y / 64) 0) (y % 64) in (
            λ h. elim (both.0 (sym bit ∙ h)) [ inl e ↦ inl e | inr e ↦ inr (same, e) ],
            λ h. bit ∙ elim h [ inl e ↦ both.1 (inl e) | inr p ↦ both.1 (inr p.1) ],
          )
      | inr apart ↦
          let kept = all.others (x * w + y / 64) (λ q h e. apart (same_row w x (y / 64) row q of_y h e)) in
          let bit = ap (λ z. bit_at z (y % 64)) kept in (
            λ h. inl (sym bit ∙ h),
            λ h. elim h [ inl e ↦ bit ∙ e | inr p ↦ absurd (apart p.0) ],
          )
    ]

-- one word more
pub IsJoined_more : (old new : List ℕ) (w row from done v : ℕ) → IsJoined old new w row from done → row ≢ from →
    done < w
    → row * w + done < length new → v ≡ bit_or (get_or new (row * w + done) 0) (get_or new (from * w + done) 0)
    → IsJoined old (set new (row * w + done) v) w row from (done + 1)
IsJoined_more old new w row from done v so_far apart below within is =
    let in_source : from * w + done ≢ row * w + done = λ e. apart (sym (same_row w from done row done below below e)) in
    let source_kept =
    so_far.others (from * w + done) (λ q h e. apart (sym (same_row w from done row q below (omega arith) e))) in
    let here_kept = so_far.others (row * w + done) (λ q h e. omega arith) in
    let value : v ≡ bit_or (get_or old (row * w + done) 0) (get_or old (from * w + done) 0) =
    is ∙ ap₂ bit_or here_kept source_kept in
    record {
      as_long = length-set new (row * w + done) v ∙ so_far.as_long;
      joined = below_more
          (λ q. get_or (set new (row * w + done) v) (row * w + q) 0 ≡ bit_or (get_or old (row * w + q) 0)
          (get_or old (from * w + q) 0)) done
          (λ q h. get_or-set_other new (row * w + done) (row * w + q) v 0 (omega arith) ∙ so_far.joined q h)
          (get_or-set_same new (row * w + done) v 0 within ∙ value);
      others = λ k out. get_or-set_other new (row * w + done) k v 0 (out done (omega arith))
          ∙ so_far.others k (λ q h. out q (omega arith));
    }
