-- The list of all numbers of generators, and its members.
use Rattle.std.proofs.Common.{◌==◌, count_by, ◌≡◌, ℕ, zero, suc, ◌+◌, ◌*◌, ◌-◌, ◌<◌, ◌≤◌, List, [], ◌∷◌, length, get_or, inl, inr, refl, ap, ◌∙◌, arith}
use Rattle.std.proofs.lemmas.Bool.{cases_lt}
use Rattle.std.proofs.lemmas.List.{length-append, get_or_append_left, get_or-append_right}
use Rattle.std.proofs.lemmas.Nat.{mul-le}
use Rattle.bmp_cert.specs.Counts.{Written, RankTable, part_of, generator_count, IsRanksOf, counts_below, all_counts}

pub place_below : (x v d g : ℕ) → x < v → d < g → x * g + d < v * g
place_below x v d g h k =
    let more : (x + 1) * g ≤ v * g = mul-le (x + 1) g v g (omega arith) (omega arith) in
    let one : (x + 1) * g ≡ x * g + g = grind arith in
    omega (arith, more, one)

pub length-counts_below : (degrees : List ℕ) (n : ℕ) → length (counts_below degrees n) ≡ n
length-counts_below degrees zero = refl
length-counts_below degrees (suc n) =
    omega (
      arith,
      length-append (counts_below degrees n) (count_by (λ e. e == n) degrees ∷ []),
      length-counts_below degrees n,
    )

pub length-all_counts : (c : Written) (n : ℕ) → length (all_counts c n) ≡ n * (c.degree + 1)
length-all_counts c zero = grind arith
length-all_counts c (suc n) =
    let g = c.degree + 1 in
    let both = length-append (all_counts c n) (counts_below (part_of c n).degrees g) in
    let front = length-all_counts c n in
    let back = length-counts_below (part_of c n).degrees g in
    let one : suc n * g ≡ n * g + g = grind arith in
    omega (arith, both, front, back, one)

get-counts_below : (degrees : List ℕ) (n d : ℕ) → d < n →
    get_or (counts_below degrees n) d 0 ≡ count_by (λ e. e == d) degrees
get-counts_below degrees zero d h = absurd (omega arith)
get-counts_below degrees (suc n) d h = elim (cases_lt d n) [
  | inl lt ↦ (let front : d < length (counts_below degrees n) = omega (arith, length-counts_below degrees n) in
      get_or_append_left (counts_below degrees n) (count_by (λ e. e == n) degrees ∷ []) 0 d front
      ∙ get-counts_below degrees n d lt)
  | inr le ↦ (let none : d - n ≡ 0 = omega arith in let is : n ≡ d = omega arith in
      get_or-append_right (counts_below degrees n) (count_by (λ e. e == n) degrees ∷ []) n d 0
      (length-counts_below degrees n) le
      ∙ (ap (λ (k : ℕ). get_or (count_by (λ e. e == n) degrees ∷ []) k 0) none
      ∙ ap (λ (k : ℕ). count_by (λ e. e == k) degrees) is))
]

get-all_counts : (c : Written) (n x d : ℕ) → x < n → d ≤ c.degree → get_or (all_counts c n) (x * (c.degree + 1) + d) 0
    ≡ generator_count c x d
get-all_counts c zero x d h k = absurd (omega arith)
get-all_counts c (suc n) x d h k =
    let g = c.degree + 1 in
    let more = counts_below (part_of c n).degrees g in
    elim (cases_lt x n) [
      | inl lt ↦ (let front : x * g + d < length (all_counts c n) = omega (
        arith,
        length-all_counts c n,
        place_below x n d g lt (omega arith),
      ) in
          get_or_append_left (all_counts c n) more 0 (x * g + d) front ∙ get-all_counts c n x d lt k)
      | inr le ↦ (let is : n ≡ x = omega arith in let same = ap (λ (y : ℕ). y * g) is in
          let past : n * g ≤ x * g + d = omega (arith, same) in let left : x * g + d - n * g ≡ d =
          omega (arith, same) in
          get_or-append_right (all_counts c n) more (n * g) (x * g + d) 0 (length-all_counts c n) past
          ∙ (ap (λ (i : ℕ). get_or more i 0) left
          ∙ (get-counts_below (part_of c n).degrees g d (omega arith) ∙ ap (λ (y : ℕ). generator_count c y d) is)))
    ]

pub ranks_of : (c : Written) (r : RankTable) → r.vertices ≡ length c.parts → r.degree ≡ c.degree →
    r.numbers ≡ all_counts c (length c.parts) → IsRanksOf c r
ranks_of c r v e n = record {
  vertices = v;
  degree = e;
  numbers = λ x d h k. ap (λ (g : ℕ). get_or r.numbers (x * (g + 1) + d) 0) e
      ∙ (ap (λ (ns : List ℕ). get_or ns (x * (c.degree + 1) + d) 0) n ∙ get-all_counts c (length c.parts) x d h k);
}
