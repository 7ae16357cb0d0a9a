-- What reduced rows with a trace say of the old rows.
use Rattle.std.proofs.Common.{◌≡◌, ◌≢◌, ℕ, zero, suc, ◌+◌, ◌*◌, ◌%◌, ◌<◌, ◌≤◌, ◌⊎◌, inl, inr, refl, sym, ap, ◌∙◌, arith, eqb, eq-eqb, ne_eqb}
use Rattle.std.proofs.lemmas.Bool.{cases_eq, cases_lt, cond-true, cond-false}
use Rattle.bmp_math.specs.Sums.{sum_below}
use Rattle.bmp_math.specs.Congruences.{SameMod}
use Rattle.bmp_math.specs.Vectors.{dot, unit, plus, scaled}
use Rattle.bmp_math.specs.Matrices.{Matrix, combination, image, IsInKernel}
use Rattle.bmp_math.proofs.CongruenceLemmas.{same_add, same_mul, same_minus, minus_same, mul_zero, zero_mul}
use Rattle.bmp_math.proofs.SumLemmas.{sum_same_mod, sum_zero_mod, sum_only_mod, sum_below-suc}
use Rattle.bmp_math.proofs.MatrixLemmas.{image-plus, image-scaled, image-combination, dot-combination}
use Rattle.bmp_linear.proofs.EntrySums.{products_turned}
use Rattle.bmp_elim.specs.Echelons.{IsReducedBelow}
use Rattle.bmp_elim.specs.Traces.{IsTrace}
use Rattle.bmp_elim.specs.Systems.{Solves, Refuses}

same_from : (p x y : ℕ) → x ≡ y → SameMod p x y
same_from p x y e = ap (λ z. z % p) e

-- a sum with two terms
sum_two_mod : (p : ℕ) (f : ℕ → ℕ) (n k l : ℕ) → k < n → l < n → k ≢ l →
    ((i : ℕ) → i < n → i ≢ k → i ≢ l → SameMod p (f i) 0) → SameMod p (sum_below f n) (f k + f l)
sum_two_mod p f zero k l a b apart h = absurd (omega arith)
sum_two_mod p f (suc n) k l a b apart h =
    same_from p (sum_below f (suc n)) (sum_below f n + f n) (sum_below-suc f n)
    ∙ elim (cases_eq k n) [
      | inl last ↦
          let early : l < n = omega arith in
          let before : SameMod p (sum_below f n) (f l) =
          sum_only_mod p f n l early (λ i m other. h i (omega arith) (omega arith) other) in
          let turned : f l + f k ≡ f k + f l = omega arith in
          same_add p (sum_below f n) (f l) (f n) (f k) before (ap (λ x. f x % p) (sym last)) ∙ ap (λ z. z % p) turned
      | inr k_other ↦ elim (cases_eq l n) [
        | inl last ↦
            let early : k < n = omega arith in
            let before : SameMod p (sum_below f n) (f k) =
            sum_only_mod p f n k early (λ i m other. h i (omega arith) other (omega arith)) in
            same_add p (sum_below f n) (f k) (f n) (f l) before (ap (λ x. f x % p) (sym last))
        | inr l_other ↦
            let none : (f k + f l) + 0 ≡ f k + f l = omega arith in
            same_add p (sum_below f n) (f k + f l) (f n) 0
            (sum_two_mod p f n k l (omega arith) (omega arith) apart (λ i m. h i (omega arith)))
            (h n (omega arith) (λ e. k_other (sym e)) (λ e. l_other (sym e)))
            ∙ ap (λ z. z % p) none
      ]
    ]

-- a place is one of the pivots or is not
pub pivot_or_free : (count : ℕ) (pivot : ℕ → ℕ) (j : ℕ) → ((k : ℕ) × (k < count) × (pivot k ≡ j)) ⊎
    ((k : ℕ) → k < count → pivot k ≢ j)
pivot_or_free zero pivot j = inr (λ k l. absurd (omega arith))
pivot_or_free (suc n) pivot j =
    elim (cases_eq (pivot n) j) [
      | inl here ↦ inl (n, omega arith, here)
      | inr other ↦ elim (pivot_or_free n pivot j) [
        | inl found ↦ inl (found.0, omega (arith, found.1), found.2)
        | inr none ↦ inr (λ k l. elim (cases_eq k n) [
          | inl last ↦ λ e. other (ap pivot (sym last) ∙ e)
          | inr before ↦ none k (omega arith)
        ])
      ]
    ]

module _ (p : ℕ) (old a t : Matrix) (h : IsTrace p old a t) where
  -- what the new rows say of v is what the trace says of what the old rows say
  pub trace_moves : (v : ℕ → ℕ) (i : ℕ) → i < old.rows → SameMod p (image a v i) (image t (image old v) i)
  trace_moves v i l =
      let row : ℕ → ℕ = combination (t.entry i) old.entry old.rows in
      ap (λ n. dot n v (a.entry i) % p) h.cols
      ∙ sum_same_mod p (λ j. v j * a.entry i j) (λ j. v j * row j) old.cols
      (λ j b. same_mul p (v j) (v j) (a.entry i j) (row j) refl (h.gives i l j b))
      ∙ same_from p (dot old.cols v row) (image t (image old v) i)
      (products_turned v row old.cols ∙ dot-combination old (t.entry i) v
      ∙ products_turned (t.entry i) (image old v) old.rows
      ∙ ap (λ n. dot n (image old v) (t.entry i)) (sym h.trace_cols))

  -- what the new rows send to 0, the old rows do
  pub kernel_back : (v : ℕ → ℕ) → IsInKernel p a v → IsInKernel p old v
  kernel_back v zeros = h.faithful (image old v) (λ i l.
      let row : i < old.rows = rw (← h.trace_rows) l in
      sym (trace_moves v i row) ∙ zeros i (rw h.rows row))

  -- what the trace says of a column of the old rows
  pub trace_column : (i c : ℕ) → i < old.rows → c < old.cols → SameMod p (image t (λ r. old.entry r c) i) (a.entry i c)
  trace_column i c l b =
      same_from p (image t (λ r. old.entry r c) i) (combination (t.entry i) old.entry old.rows c)
      (ap (λ n. dot n (λ r. old.entry r c) (t.entry i)) h.trace_cols
      ∙ products_turned (λ r. old.entry r c) (t.entry i) old.rows)
      ∙ sym (h.gives i l c b)

module _ (p : ℕ) (old a t : Matrix) (count : ℕ) (pivot : ℕ → ℕ) (h : IsTrace p old a t)
    (r : IsReducedBelow old.cols a count pivot) where
  -- a row from `count` on says 0 of each vector
  pub late_image : (v : ℕ → ℕ) (i : ℕ) → count ≤ i → i < old.rows → SameMod p (image a v i) 0
  late_image v i l m =
      sum_zero_mod p (λ j. v j * a.entry i j) a.cols
      (λ j c. mul_zero p (v j) (a.entry i j)
      (same_from p (a.entry i j) 0 (r.zero_after i j l (rw h.rows m) (rw (← h.cols) c))))

  -- at another pivot than its own a row has 0
  zero_at : (v : ℕ → ℕ) (i k j : ℕ) → i < old.rows → k < count → pivot k ≡ j → pivot i ≢ j →
      SameMod p (v j * a.entry i j) 0
  zero_at v i k j l b at other =
      let apart : i ≢ k = λ e. other (ap pivot e ∙ at) in
      mul_zero p (v j) (a.entry i j)
      (same_from p (a.entry i j) 0 (ap (a.entry i) (sym at) ∙ r.zero_elsewhere k i b (rw h.rows l) apart))

  -- the vector of a free place is sent to 0
  pub free_vector_image : (free : ℕ) (b : ℕ → ℕ) → free < old.cols → ((k : ℕ) → k < count → pivot k ≢ free) →
      b free ≡ 1 → ((k : ℕ) → k < count → SameMod p (a.entry k free + b (pivot k)) 0) →
      ((j : ℕ) → j ≢ free → ((k : ℕ) → k < count → pivot k ≢ j) → b j ≡ 0) → IsInKernel p old b
  free_vector_image free b within apart at_free at_pivots elsewhere =
      kernel_back p old a t h b (λ i l. in_reduced i (rw (← h.rows) l))
    where
      early : (i : ℕ) → i < count → i < old.rows → SameMod p (image a b i) 0
      early i l m =
          let one : b (pivot i) * a.entry i (pivot i) ≡ b (pivot i) * 1 = ap (λ z. b (pivot i) * z) (r.one i l) in
          let free_one : b free * a.entry i free ≡ 1 * a.entry i free = ap (λ z. z * a.entry i free) at_free in
          let whole : b (pivot i) * a.entry i (pivot i) + b free * a.entry i free ≡ a.entry i free + b (pivot i) =
          omega arith in
          ap (λ n. dot n b (a.entry i) % p) h.cols
          ∙ sum_two_mod p (λ j. b j * a.entry i j) old.cols (pivot i) free (r.below i l) within (apart i l)
          (λ j c other away. elim (pivot_or_free count pivot j) [
            | inl at ↦ zero_at b i at.0 j m at.1 at.2 (λ e. other (sym e))
            | inr none ↦ zero_mul p (b j) (a.entry i j) (same_from p (b j) 0 (elsewhere j away none))
          ])
          ∙ same_from p (b (pivot i) * a.entry i (pivot i) + b free * a.entry i free) (a.entry i free + b (pivot i))
          whole
          ∙ at_pivots i l

      in_reduced : (i : ℕ) → i < old.rows → SameMod p (image a b i) 0
      in_reduced i l = elim (cases_lt i count) [ inl below ↦ early i below l | inr above ↦ late_image b i above l ]

  -- a row of the trace combines the old rows to the new row
  -- at the pivots: 1 at its own, 0 at the others
  pub trace_at_pivot : (k u : ℕ) → k < count → u < count →
      SameMod p (combination (t.entry k) old.entry old.rows (pivot u)) (unit u k)
  trace_at_pivot k u l m =
      let row : k < old.rows = omega (arith, r.within, h.rows) in
      let row_a : k < a.rows = omega (arith, r.within) in
      sym (h.gives k row (pivot u) (r.below u m)) ∙ same_from p (a.entry k (pivot u)) (unit u k) (elim (cases_eq k u) [
        | inl same ↦ ap (λ x. a.entry x (pivot u)) same ∙ r.one u m
            ∙ sym (cond-true {A = ℕ} (eqb u k) 1 0 (eq-eqb u k (sym same)))
        | inr other ↦ r.zero_elsewhere u k m row_a other
            ∙ sym (cond-false {A = ℕ} (eqb u k) 1 0 (ne_eqb u k (λ e. other (sym e))))
      ])

  -- before its own pivot: 0
  pub trace_before : (k j : ℕ) → k < count → j < pivot k → SameMod p (combination (t.entry k) old.entry old.rows j) 0
  trace_before k j l b =
      let row : k < old.rows = omega (arith, r.within, h.rows) in
      let under : pivot k < old.cols = r.below k l in
      sym (h.gives k row j (omega arith)) ∙ same_from p (a.entry k j) 0 (r.zero_before k j l b)

  -- from `count` on: 0
  pub trace_late : (i j : ℕ) → count ≤ i → i < old.rows → j < old.cols →
      SameMod p (combination (t.entry i) old.entry old.rows j) 0
  trace_late i j l m c = sym (h.gives i m j c) ∙ same_from p (a.entry i j) 0 (r.zero_after i j l (rw h.rows m) c)

  -- a vector that is 0 but at the pivots is read there
  pub pivot_image : (x : ℕ → ℕ) (i : ℕ) →
      ((j : ℕ) → j < old.cols → ((k : ℕ) → k < count → pivot k ≢ j) → SameMod p (x j) 0) → i < count →
      SameMod p (image a x i) (x (pivot i))
  pivot_image x i elsewhere below =
      let row : i < old.rows = omega (arith, r.within, h.rows) in
      let one : x (pivot i) * a.entry i (pivot i) ≡ x (pivot i) * 1 = ap (λ z. x (pivot i) * z) (r.one i below) in
      let whole : x (pivot i) * a.entry i (pivot i) ≡ x (pivot i) = omega arith in
      ap (λ n. dot n x (a.entry i) % p) h.cols
      ∙ sum_only_mod p (λ j. x j * a.entry i j) old.cols (pivot i) (r.below i below)
      (λ j c other. elim (pivot_or_free count pivot j) [
        | inl at ↦ zero_at x i at.0 j row at.1 at.2 (λ e. other (sym e))
        | inr none ↦ zero_mul p (x j) (a.entry i j) (elsewhere j c none)
      ])
      ∙ same_from p (x (pivot i) * a.entry i (pivot i)) (x (pivot i)) whole

-- what the trace says the same of is the same, where p is q + 1
faithful_same : (q : ℕ) (old a t : Matrix) → IsTrace (suc q) old a t → (u v : ℕ → ℕ) →
    ((i : ℕ) → i < old.rows → SameMod (suc q) (image t u i) (image t v i)) → (k : ℕ) → k < old.rows →
    SameMod (suc q) (u k) (v k)
faithful_same q old a t h u v same k l =
    same_minus q (u k) (v k) (h.faithful (plus u (scaled q v)) (λ i b.
    same_from (suc q) (image t (plus u (scaled q v)) i) (image t u i + q * image t v i)
    (image-plus t u (scaled q v) i ∙ ap (λ z. image t u i + z) (image-scaled t q v i))
    ∙ minus_same q (image t u i) (image t v i) (same i (rw (← h.trace_rows) b))) k l)

module _ (q : ℕ) (old a t : Matrix) (count : ℕ) (pivot : ℕ → ℕ) (h : IsTrace (suc q) old a t)
    (r : IsReducedBelow old.cols a count pivot) where
  -- where the late rows of the trace say 0 of b, what its first rows say of b, put at the pivots, is a solution
  pub solution : (b x : ℕ → ℕ) → ((i : ℕ) → count ≤ i → i < old.rows → SameMod (suc q) (image t b i) 0) →
      ((k : ℕ) → k < count → SameMod (suc q) (x (pivot k)) (image t b k)) →
      ((j : ℕ) → j < old.cols → ((k : ℕ) → k < count → pivot k ≢ j) → SameMod (suc q) (x j) 0) → Solves (suc q) old b x
  solution b x late at_pivots elsewhere = faithful_same q old a t h (image old x) b (λ i l.
      sym (trace_moves (suc q) old a t h x i l)
      ∙ elim (cases_lt i count) [
        | inl below ↦ pivot_image (suc q) old a t count pivot h r x i elsewhere below ∙ at_pivots i below
        | inr above ↦ late_image (suc q) old a t count pivot h r x i above l ∙ sym (late i above l)
      ])

  -- each column of the old rows is the combination of their pivot columns by the column's reduced numbers
  pub columns_combined : (c : ℕ) → c < old.cols → (i : ℕ) → i < old.rows →
      SameMod (suc q) (old.entry i c) (combination (λ k. a.entry k c) (λ k j. old.entry j (pivot k)) count i)
  columns_combined c within =
      faithful_same q old a t h (λ j. old.entry j c)
      (combination (λ k. a.entry k c) (λ k j. old.entry j (pivot k)) count) (λ i l.
      let row : i < a.rows = rw h.rows l in
      let read : ℕ → ℕ = λ k. image t (λ j. old.entry j (pivot k)) i in
      let reads : SameMod (suc q) (sum_below (λ k. a.entry k c * read k) count)
      (sum_below (λ k. a.entry k c * a.entry i (pivot k)) count) =
      sum_same_mod (suc q) (λ k. a.entry k c * read k) (λ k. a.entry k c * a.entry i (pivot k)) count
      (λ k b. same_mul (suc q) (a.entry k c) (a.entry k c) (read k) (a.entry i (pivot k)) refl
      (trace_column (suc q) old a t h i (pivot k) l (r.below k b))) in
      let one_row : SameMod (suc q) (sum_below (λ k. a.entry k c * a.entry i (pivot k)) count) (a.entry i c) =
      elim (cases_lt i count) [
        | inl below ↦
            let one : a.entry i c * a.entry i (pivot i) ≡ a.entry i c * 1 = ap (λ z. a.entry i c * z) (r.one i below) in
            let whole : a.entry i c * a.entry i (pivot i) ≡ a.entry i c = omega arith in
            sum_only_mod (suc q) (λ k. a.entry k c * a.entry i (pivot k)) count i below
            (λ k b other. mul_zero (suc q) (a.entry k c) (a.entry i (pivot k))
            (same_from (suc q) (a.entry i (pivot k)) 0 (r.zero_elsewhere k i b row (λ e. other (sym e)))))
            ∙ same_from (suc q) (a.entry i c * a.entry i (pivot i)) (a.entry i c) whole
        | inr above ↦
            sum_zero_mod (suc q) (λ k. a.entry k c * a.entry i (pivot k)) count
            (λ k b. let other : i ≢ k = omega arith in
            mul_zero (suc q) (a.entry k c) (a.entry i (pivot k))
            (same_from (suc q) (a.entry i (pivot k)) 0 (r.zero_elsewhere k i b row other)))
            ∙ sym (same_from (suc q) (a.entry i c) 0 (r.zero_after i c above row within))
      ] in
      trace_column (suc q) old a t h i c l within
      ∙ sym (same_from (suc q) (image t (combination (λ k. a.entry k c) (λ k j. old.entry j (pivot k)) count) i)
      (sum_below (λ k. a.entry k c * read k) count)
      (image-combination t count (λ k. a.entry k c) (λ k j. old.entry j (pivot k)) i) ∙ reads ∙ one_row))

-- where a form refuses b, there is no solution
pub refused_unsolved : (p : ℕ) (a : Matrix) (b y x : ℕ → ℕ) → Refuses p a b y → Solves p a b x → ⊥
refused_unsolved p a b y x r solved =
    r.not_zero
    (sym (sum_same_mod p (λ k. y k * image a x k) (λ k. y k * b k) a.rows
    (λ k l. same_mul p (y k) (y k) (image a x k) (b k) refl (solved k l)))
    ∙ same_from p (dot a.rows y (image a x)) (dot a.cols (combination y a.entry a.rows) x) (sym (dot-combination a y x))
    ∙ sum_zero_mod p (λ j. combination y a.entry a.rows j * x j) a.cols
    (λ j l. zero_mul p (combination y a.entry a.rows j) (x j) (r.zero j l)))
