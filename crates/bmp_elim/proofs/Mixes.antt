-- Each change of rows makes a new row of at most two old ones, in the same way in each column.
use Rattle.std.proofs.Common.{◌≡◌, ◌≢◌, ℕ, ◌+◌, ◌*◌, ◌%◌, ◌<◌, cond, eqb, inl, inr, refl, sym, ap, ap₂, ◌∙◌, arith, eq-eqb, ne_eqb}
use Rattle.std.proofs.Math.Nat.{mod-mod}
use Rattle.std.proofs.lemmas.Bool.{cases_eq, cond-true, cond-false}
use Rattle.bmp_math.specs.Congruences.{SameMod}
use Rattle.bmp_math.specs.Matrices.{Matrix, combination, image}
use Rattle.bmp_math.proofs.CongruenceLemmas.{same_add, same_mul, mul_zero, one_mul}
use Rattle.bmp_math.proofs.SumLemmas.{sum_below_same, sum_below-add, sum_below-mul}
use Rattle.bmp_linear.specs.RowChanges.{IsRowAdded, IsRowMultiplied, AreRowsExchanged, AreMultiplesAdded}

-- how new rows are made: row i is factor i times row at i, and times i times row `from`
pub record Mix : Type 0 where
  pub at : ℕ → ℕ
  pub factor : ℕ → ℕ
  pub from : ℕ
  pub times : ℕ → ℕ

abbrev pub mixed_value : Mix → (ℕ → ℕ) → ℕ → ℕ
mixed_value mix x i = mix.factor i * x (mix.at i) + mix.times i * x mix.from

-- the rows of a matrix, mixed
abbrev pub mixed : Mix → Matrix → Matrix
mixed mix t = record { rows = t.rows; cols = t.cols; entry = λ i j. mixed_value mix (λ k. t.entry k j) i }

-- it stays within m rows, and only 0 is mixed to 0
pub record IsFaithfulMix (p m : ℕ) (mix : Mix) : Type 0 where
  pub at_below : (i : ℕ) → i < m → mix.at i < m
  pub from_below : mix.from < m
  pub only_zero : (x : ℕ → ℕ) → ((i : ℕ) → i < m → SameMod p (mixed_value mix x i) 0) → (i : ℕ) → i < m →
      SameMod p (x i) 0

-- the new rows are the old ones mixed, in each column
pub record AreMixed (p : ℕ) (mix : Mix) (old new : Matrix) : Type 0 where
  pub rows : new.rows ≡ old.rows
  pub cols : new.cols ≡ old.cols
  pub mixes : (i j : ℕ) → i < old.rows → j < old.cols →
      SameMod p (new.entry i j) (mixed_value mix (λ k. old.entry k j) i)

-- what mixed rows combine others to, and what they say of a vector, is mixed in the same way
pub mixed-combination : (n : ℕ) (mix : Mix) (t : Matrix) (vs : ℕ → ℕ → ℕ) (j i : ℕ) →
    combination ((mixed mix t).entry i) vs n j ≡ mixed_value mix (λ k. combination (t.entry k) vs n j) i
mixed-combination n mix t vs j i =
    let f : ℕ = mix.factor i in
    let g : ℕ = mix.times i in
    let u : ℕ → ℕ = t.entry (mix.at i) in
    let v : ℕ → ℕ = t.entry mix.from in
    sum_below_same (λ k. (f * u k + g * v k) * vs k j) (λ k. f * (u k * vs k j) + g * (v k * vs k j)) n
    (λ k l. omega arith)
    ∙ sum_below-add (λ k. f * (u k * vs k j)) (λ k. g * (v k * vs k j)) n
    ∙ ap₂ (λ x z. x + z) (sum_below-mul f (λ k. u k * vs k j) n) (sum_below-mul g (λ k. v k * vs k j) n)

pub mixed-image : (mix : Mix) (t : Matrix) (y : ℕ → ℕ) (i : ℕ) → image (mixed mix t) y i ≡ mixed_value mix (image t y) i
mixed-image mix t y i =
    let f : ℕ = mix.factor i in
    let g : ℕ = mix.times i in
    let u : ℕ → ℕ = t.entry (mix.at i) in
    let v : ℕ → ℕ = t.entry mix.from in
    sum_below_same (λ k. y k * (f * u k + g * v k)) (λ k. f * (y k * u k) + g * (y k * v k)) t.cols (λ k l. omega arith)
    ∙ sum_below-add (λ k. f * (y k * u k)) (λ k. g * (y k * v k)) t.cols
    ∙ ap₂ (λ x z. x + z) (sum_below-mul f (λ k. y k * u k) t.cols) (sum_below-mul g (λ k. y k * v k) t.cols)

-- values that are the same are mixed to the same
pub mixed_same : (p m : ℕ) (mix : Mix) (x y : ℕ → ℕ) → IsFaithfulMix p m mix →
    ((k : ℕ) → k < m → SameMod p (x k) (y k)) → (i : ℕ) → i < m → SameMod p (mixed_value mix x i) (mixed_value mix y i)
mixed_same p m mix x y faithful same i l =
    same_add p (mix.factor i * x (mix.at i)) (mix.factor i * y (mix.at i)) (mix.times i * x mix.from)
    (mix.times i * y mix.from)
    (same_mul p (mix.factor i) (mix.factor i) (x (mix.at i)) (y (mix.at i)) refl
    (same (mix.at i) (faithful.at_below i l)))
    (same_mul p (mix.times i) (mix.times i) (x mix.from) (y mix.from) refl (same mix.from faithful.from_below))

abbrev pub added_mix : ℕ → ℕ → ℕ → Mix
added_mix into from c = record { at = λ i. i; factor = λ i. 1; from = from; times = λ i. cond (eqb i into) c 0 }

-- to each other row i the row `from` times c i
abbrev pub spread_mix : ℕ → (ℕ → ℕ) → Mix
spread_mix from c = record { at = λ i. i; factor = λ i. 1; from = from; times = λ i. cond (eqb i from) 0 (c i) }

abbrev pub multiplied_mix : ℕ → ℕ → Mix
multiplied_mix row c = record { at = λ i. i; factor = λ i. cond (eqb i row) c 1; from = row; times = λ i. 0 }

-- the row that i changes places with, where r and s do
abbrev pub other_row : ℕ → ℕ → ℕ → ℕ
other_row r s i = cond (eqb i r) s (cond (eqb i s) r i)

abbrev pub exchanged_mix : ℕ → ℕ → Mix
exchanged_mix r s = record { at = other_row r s; factor = λ i. 1; from = r; times = λ i. 0 }

alone : (x y : ℕ) → x ≡ 1 * x + 0 * y
alone x y = omega arith

pub added_mixed : (p : ℕ) (old new : Matrix) (into from c : ℕ) → IsRowAdded p old new into from c →
    AreMixed p (added_mix into from c) old new
added_mixed p old new into from c h = record {
  rows = h.rows;
  cols = h.cols;
  mixes = λ i j l b. elim (cases_eq i into) [
    | inl same ↦
        let whole : old.entry into j + c * old.entry from j ≡ 1 * old.entry into j + c * old.entry from j =
        omega arith in
        rw (same, cond-true {A = ℕ} (eqb into into) c 0 (eq-eqb into into refl))
        (ap (λ z. z % p) (h.added j b) ∙ mod-mod (old.entry into j + c * old.entry from j) p
        ∙ ap (λ z. z % p) whole)
    | inr other ↦
        rw (cond-false {A = ℕ} (eqb i into) c 0 (ne_eqb i into other))
        (ap (λ z. z % p) (h.others i j l b other ∙ alone (old.entry i j) (old.entry from j)))
  ];
}

pub spread_mixed : (p : ℕ) (old new : Matrix) (from : ℕ) (c : ℕ → ℕ) → AreMultiplesAdded p old new from c →
    AreMixed p (spread_mix from c) old new
spread_mixed p old new from c h = record {
  rows = h.rows;
  cols = h.cols;
  mixes = λ i j l b. elim (cases_eq i from) [
    | inl same ↦
        rw (cond-true {A = ℕ} (eqb i from) 0 (c i) (eq-eqb i from same))
        (ap (λ z. z % p) (ap (λ k. new.entry k j) same ∙ h.kept j b ∙ ap (λ k. old.entry k j) (sym same)
        ∙ alone (old.entry i j) (old.entry from j)))
    | inr other ↦
        let whole : old.entry i j + c i * old.entry from j ≡ 1 * old.entry i j + c i * old.entry from j = omega arith in
        rw (cond-false {A = ℕ} (eqb i from) 0 (c i) (ne_eqb i from other))
        (ap (λ z. z % p) (h.added i j l b other) ∙ mod-mod (old.entry i j + c i * old.entry from j) p
        ∙ ap (λ z. z % p) whole)
  ];
}

pub multiplied_mixed : (p : ℕ) (old new : Matrix) (row c : ℕ) → IsRowMultiplied p old new row c →
    AreMixed p (multiplied_mix row c) old new
multiplied_mixed p old new row c h = record {
  rows = h.rows;
  cols = h.cols;
  mixes = λ i j l b. elim (cases_eq i row) [
    | inl same ↦
        let whole : c * old.entry row j ≡ c * old.entry row j + 0 * old.entry row j = omega arith in
        rw (same, cond-true {A = ℕ} (eqb row row) c 1 (eq-eqb row row refl)) (ap (λ z. z % p) (h.multiplied j b)
        ∙ mod-mod (c * old.entry row j) p ∙ ap (λ z. z % p) whole)
    | inr other ↦
        rw (cond-false {A = ℕ} (eqb i row) c 1 (ne_eqb i row other))
        (ap (λ z. z % p) (h.others i j l b other ∙ alone (old.entry i j) (old.entry row j)))
  ];
}

pub other_row-first : (r s : ℕ) → other_row r s r ≡ s
other_row-first r s = cond-true {A = ℕ} (eqb r r) s (cond (eqb r s) r r) (eq-eqb r r refl)

pub other_row-second : (r s : ℕ) → other_row r s s ≡ r
other_row-second r s =
    elim (cases_eq s r) [
      | inl same ↦ cond-true {A = ℕ} (eqb s r) s (cond (eqb s s) r s) (eq-eqb s r same) ∙ same
      | inr other ↦ cond-false {A = ℕ} (eqb s r) s (cond (eqb s s) r s) (ne_eqb s r other)
          ∙ cond-true {A = ℕ} (eqb s s) r s (eq-eqb s s refl)
    ]

pub other_row-none : (r s i : ℕ) → i ≢ r → i ≢ s → other_row r s i ≡ i
other_row-none r s i a b = cond-false {A = ℕ} (eqb i r) s (cond (eqb i s) r i) (ne_eqb i r a)
    ∙ cond-false {A = ℕ} (eqb i s) r i (ne_eqb i s b)

pub exchanged_mixed : (p : ℕ) (old new : Matrix) (r s : ℕ) → AreRowsExchanged old new r s →
    AreMixed p (exchanged_mix r s) old new
exchanged_mixed p old new r s h = record {
  rows = h.rows;
  cols = h.cols;
  mixes = λ i j l b. ap (λ z. z % p) (elim (cases_eq i r) [
    | inl first ↦ ap (λ k. new.entry k j) first ∙ h.at_first j b
        ∙ ap (λ k. old.entry k j) (sym (ap (other_row r s) first ∙ other_row-first r s))
        ∙ alone (old.entry (other_row r s i) j) (old.entry r j)
    | inr other ↦ elim (cases_eq i s) [
      | inl second ↦ ap (λ k. new.entry k j) second ∙ h.at_second j b
          ∙ ap (λ k. old.entry k j) (sym (ap (other_row r s) second ∙ other_row-second r s))
          ∙ alone (old.entry (other_row r s i) j) (old.entry r j)
      | inr away ↦ h.others i j l b other away ∙ ap (λ k. old.entry k j) (sym (other_row-none r s i other away))
          ∙ alone (old.entry (other_row r s i) j) (old.entry r j)
    ]
  ]);
}

pub added_faithful : (p m into from c : ℕ) → from < m → into ≢ from → IsFaithfulMix p m (added_mix into from c)
added_faithful p m into from c below apart = record {
  at_below = λ i l. l;
  from_below = below;
  only_zero = λ x h i l.
      let unmixed : (k : ℕ) → k < m → k ≢ into → SameMod p (x k) 0 = λ k b other.
      let whole : x k ≡ 1 * x k + cond (eqb k into) c 0 * x from =
      rw (cond-false {A = ℕ} (eqb k into) c 0 (ne_eqb k into other)) (omega arith) in
      ap (λ z. z % p) whole ∙ h k b in
      elim (cases_eq i into) [
        | inl same ↦
            let at_from : SameMod p (c * x from) 0 = mul_zero p c (x from) (unmixed from below (λ e. apart (sym e))) in
            let more : SameMod p (x i + c * x from) (x i + 0) = same_add p (x i) (x i) (c * x from) 0 refl at_from in
            let none : x i + 0 ≡ x i = omega arith in
            let whole : x i + c * x from ≡ 1 * x i + cond (eqb i into) c 0 * x from =
            rw (cond-true {A = ℕ} (eqb i into) c 0 (eq-eqb i into same)) (omega arith) in
            sym (more ∙ ap (λ z. z % p) none) ∙ ap (λ z. z % p) whole ∙ h i l
        | inr other ↦ unmixed i l other
      ];
}

pub spread_faithful : (p m from : ℕ) (c : ℕ → ℕ) → from < m → IsFaithfulMix p m (spread_mix from c)
spread_faithful p m from c below = record {
  at_below = λ i l. l;
  from_below = below;
  only_zero = λ x h i l.
      let zero : SameMod p (x from) 0 =
      let whole : x from ≡ 1 * x from + cond (eqb from from) 0 (c from) * x from =
      rw (cond-true {A = ℕ} (eqb from from) 0 (c from) (eq-eqb from from refl)) (omega arith) in
      ap (λ z. z % p) whole ∙ h from below in
      elim (cases_eq i from) [
        | inl same ↦ ap (λ k. x k % p) same ∙ zero
        | inr other ↦
            let at_from : SameMod p (c i * x from) 0 = mul_zero p (c i) (x from) zero in
            let more : SameMod p (x i + c i * x from) (x i + 0) =
            same_add p (x i) (x i) (c i * x from) 0 refl at_from in
            let none : x i + 0 ≡ x i = omega arith in
            let whole : x i + c i * x from ≡ 1 * x i + cond (eqb i from) 0 (c i) * x from =
            rw (cond-false {A = ℕ} (eqb i from) 0 (c i) (ne_eqb i from other)) (omega arith) in
            sym (more ∙ ap (λ z. z % p) none) ∙ ap (λ z. z % p) whole ∙ h i l
      ];
}

pub multiplied_faithful : (p m row c d : ℕ) → row < m → SameMod p (c * d) 1 → IsFaithfulMix p m (multiplied_mix row c)
multiplied_faithful p m row c d below inverse = record {
  at_below = λ i l. l;
  from_below = below;
  only_zero = λ x h i l. elim (cases_eq i row) [
    | inl same ↦
        let whole : c * x i ≡ cond (eqb i row) c 1 * x i + 0 * x row =
        rw (cond-true {A = ℕ} (eqb i row) c 1 (eq-eqb i row same)) (omega arith) in
        let zeroed : SameMod p (d * (c * x i)) 0 = mul_zero p d (c * x i) (ap (λ z. z % p) whole ∙ h i l) in
        let turned : (c * d) * x i ≡ d * (c * x i) = omega arith in
        sym (one_mul p (c * d) (x i) inverse) ∙ ap (λ z. z % p) turned ∙ zeroed
    | inr other ↦
        let whole : x i ≡ cond (eqb i row) c 1 * x i + 0 * x row =
        rw (cond-false {A = ℕ} (eqb i row) c 1 (ne_eqb i row other)) (omega arith) in
        ap (λ z. z % p) whole ∙ h i l
  ];
}

pub exchanged_faithful : (p m r s : ℕ) → r < m → s < m → IsFaithfulMix p m (exchanged_mix r s)
exchanged_faithful p m r s r_below s_below = record {
  at_below = λ i l. elim (cases_eq i r) [
    | inl first ↦ rw (first, other_row-first r s) s_below
    | inr other ↦ elim (cases_eq i s) [
      | inl second ↦ rw (second, other_row-second r s) r_below
      | inr away ↦ rw (other_row-none r s i other away) l
    ]
  ];
  from_below = r_below;
  only_zero = λ x h i l.
      let from_row : (k : ℕ) → k < m → other_row r s k ≡ i → SameMod p (x i) 0 = λ k b e.
      let whole : x (other_row r s k) ≡ 1 * x (other_row r s k) + 0 * x r = omega arith in
      ap (λ z. x z % p) (sym e) ∙ ap (λ z. z % p) whole ∙ h k b in
      elim (cases_eq i r) [
        | inl first ↦ from_row s s_below (other_row-second r s ∙ sym first)
        | inr other ↦ elim (cases_eq i s) [
          | inl second ↦ from_row r r_below (other_row-first r s ∙ sym second)
          | inr away ↦ from_row i l (other_row-none r s i other away)
        ]
      ];
}
