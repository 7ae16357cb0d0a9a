-- Elements as products of words: their matrices, their images and their lengths.
use Rattle.std.proofs.Common.{◌≡◌, ℕ, zero, suc, ◌+◌, ◌/◌, ◌%◌, ◌<◌, ◌≤◌, arith, refl, sym, ap, ap₂, ◌∙◌, subst, inl, inr, ◌⊎◌, ℤ, pos, ◌-ℤ◌, ◌*ℤ◌, ◌<ℤ◌, ◌≤ℤ◌, int_lt, ◌||◌, Bool, true, List, [], ◌∷◌, ◌++◌, length, count_by, cond, get_or}
use Rattle.std.proofs.Math.Path.{fun_ext}
use Rattle.std.proofs.Math.IntN.{*ℤ_comm}
use Rattle.std.proofs.lemmas.Bool.{cases_eq}
use Rattle.std.proofs.lemmas.Int.{ints}
use Rattle.std.proofs.lemmas.List.{ext_get_or}
use Rattle.std.proofs.lemmas.List.Sums.{sum_by-cons}
use Rattle.std.proofs.lemmas.List.Elements.{All-append, All-head}
use Rattle.bmp_math.specs.Integers.{IsWithin}
use Rattle.bmp_math.specs.IntegerSums.{integer_unit}
use Rattle.bmp_math.specs.Lists.{Member}
use Rattle.bmp_math.proofs.IntegerSumLemmas.{integer_sum_same, unit_at, unit_off}
use Rattle.bmp_roots.specs.RootPairs.{CartanMatrix, Vector, RootPair, minus_times, across, IsRootPair, IsPositive, HasCartanForm, HasFiniteSystem}
use Rattle.bmp_roots.specs.PositiveRoots.{has_negative}
use Rattle.bmp_roots.proofs.SignLemmas.{place_negative, negative_place}
use Rattle.bmp_roots.proofs.PositiveLemmas.{root_past}
use Rattle.bmp_weyl.specs.Words.{IsWord, acts, IsRootSystem, length_of}
use Rattle.bmp_weyl.specs.Matrices.{cell, image, product_cell, HasColumns, HasSmallCells}
use Rattle.bmp_weyl.specs.Elements.{IsProduct, IsElement, AreElementsOfOne, IsReflection, element_length}
use Rattle.bmp_weyl.specs.declared.elem.Elem.{Elem}
use Rattle.bmp_weyl.proofs.PlaceLemmas.{place_is}
use Rattle.bmp_weyl.proofs.ActionLemmas.{acts-append, acts-minus_times, acts_sum, acts_past, acts_outside, columns_small}
use Rattle.bmp_weyl.proofs.LengthLemmas.{length_step}
use Rattle.bmp_weyl.proofs.ReflectionLemmas.{reflection_is_element}

module _ (m : CartanMatrix) where
  -- ---- the matrix of a word
  -- the product of the matrices is the matrix of the joined words
  pub columns_product : m.rank ≤ 6 → (u w : List ℕ) (x y : List ℤ) → IsWord m w → HasColumns (acts m u) x →
      HasColumns (acts m w) y
      → (i j : ℕ) → i < 6 → j < 6 → product_cell x y i j ≡ acts m (u ++ w) (integer_unit j) i
  columns_product rank u w x y letters hx hy i j li lj =
      integer_sum_same (λ l. cell x i l *ℤ cell y l j) (λ l. acts m w (integer_unit j) l *ℤ acts m u (integer_unit l) i)
      6
      (λ l inside. ap₂ (λ a b. a *ℤ b) (hx i l li inside) (hy l j inside lj)
      ∙ *ℤ_comm (acts m u (integer_unit l) i) (acts m w (integer_unit j) l))
      ∙ sym (acts_sum m u 6 (acts m w (integer_unit j)) i
      (acts_past m rank w letters (integer_unit j) (λ k out. unit_off j k (omega arith))))
      ∙ sym (ap (λ v. v i) (acts-append m u w (integer_unit j)))

  pub image_is : (u : List ℕ) (e : Elem) → IsProduct m u e → (v : Vector) → ((j : ℕ) → 6 ≤ j → v j ≡ pos 0) →
      (i : ℕ) → i < 6 → image e.entries v i ≡ acts m u v i
  image_is u e h v past i l =
      integer_sum_same (λ k. v k *ℤ cell e.entries i k) (λ k. v k *ℤ acts m u (integer_unit k) i) 6
      (λ k inside. ap (λ z. v k *ℤ z) (h.columns i k l inside))
      ∙ sym (acts_sum m u 6 v i past)

  -- a word and another that act alike on the unit vectors act alike
  pub same_action : (u w : List ℕ) → IsWord m u → IsWord m w →
      ((j i : ℕ) → j < m.rank → acts m u (integer_unit j) i ≡ acts m w (integer_unit j) i) → acts m u ≡ acts m w
  same_action u w first second alike = fun_ext (λ v. fun_ext (λ i. agree m.rank v i (λ j l out. absurd (omega arith))))
    where
      -- by how many coordinates below the rank are not known to be 0
      agree : (n : ℕ) (v : Vector) (i : ℕ) → ((j : ℕ) → j < m.rank → n ≤ j → v j ≡ pos 0) → acts m u v i ≡ acts m w v i
      agree zero v i none =
          ap (λ (f : Vector). f i) (acts_outside m u first v (λ j l. none j l (omega arith)))
          ∙ sym (ap (λ (f : Vector). f i) (acts_outside m w second v (λ j l. none j l (omega arith))))
      agree (suc n) v i none = step (below_or n m.rank) (λ w gone. agree n w i gone)
        where
          below_or : (a b : ℕ) → (a < b) ⊎ (b ≤ a)
          below_or a b = grind arith

          step : (n < m.rank) ⊎ (m.rank ≤ n) →
              ((x : Vector) → ((j : ℕ) → j < m.rank → n ≤ j → x j ≡ pos 0) → acts m u x i ≡ acts m w x i) →
              acts m u v i ≡ acts m w v i
          step (inr out) fewer = fewer v (λ j l past. absurd (omega arith))
          step (inl inside) fewer =
              let less : Vector = minus_times v (v n) (integer_unit n) in
              let gone : (j : ℕ) → j < m.rank → n ≤ j → less j ≡ pos 0 = λ j l past.
              elim (cases_eq j n) [
                | inl e ↦
                    let one : integer_unit n j ≡ pos 1 = ap (λ k. integer_unit n k) e ∙ unit_at n in
                    let at : v j ≡ v n = ap v e in
                    omega (arith, ints, ap (λ z. v n *ℤ z) one)
                | inr apart ↦
                    let nothing : integer_unit n j ≡ pos 0 = unit_off n j apart in
                    let zero_there : v j ≡ pos 0 = none j l (omega arith) in
                    omega (arith, ints, ap (λ z. v n *ℤ z) nothing)
              ] in
              let split_u : acts m u less i ≡ acts m u v i -ℤ v n *ℤ acts m u (integer_unit n) i =
              ap (λ (f : Vector). f i) (acts-minus_times m u v (integer_unit n) (v n)) in
              let split_w : acts m w less i ≡ acts m w v i -ℤ v n *ℤ acts m w (integer_unit n) i =
              ap (λ (f : Vector). f i) (acts-minus_times m w v (integer_unit n) (v n)) in
              omega (arith, ints, split_u, split_w, fewer less gone, ap (λ z. v n *ℤ z) (alike n i inside))

  -- elements are the same exactly where their words act alike
  pub same_element : (u w : List ℕ) (x y : Elem) → IsProduct m u x → IsProduct m w y → acts m u ≡ acts m w → x ≡ y
  same_element u w x y hx hy alike =
      ap₂ (λ (r : ℕ) (e : List ℤ). let z : Elem = record { rank = r; entries = e } in z) (hx.rank ∙ sym hy.rank)
      (ext_get_or (pos 0) x.entries y.entries (hx.places ∙ sym hy.places) (λ q l.
      let row : q / 6 < 6 = omega (arith, hx.places) in
      let column : q % 6 < 6 = omega arith in
      ap (λ p. get_or x.entries p (pos 0)) (sym (place_is q))
      ∙ hx.columns (q / 6) (q % 6) row column ∙ ap (λ (f : Vector → Vector). f (integer_unit (q % 6)) (q / 6)) alike
      ∙ sym (hy.columns (q / 6) (q % 6) row column)
      ∙ ap (λ p. get_or y.entries p (pos 0)) (place_is q)))

  pub same_words : HasCartanForm m → (u w : List ℕ) (x : Elem) → IsProduct m u x → IsProduct m w x → acts m u ≡ acts m w
  same_words form u w x hu hw = same_action u w hu.letters hw.letters (λ j i l.
      elim (below_or i 6) [
        | inl inside ↦ sym (hu.columns i j inside (omega (arith, form.at_most_six)))
            ∙ hw.columns i j inside (omega (arith, form.at_most_six))
        | inr out ↦ past u hu.letters j i l out ∙ sym (past w hw.letters j i l out)
      ])
    where
      below_or : (a b : ℕ) → (a < b) ⊎ (b ≤ a)
      below_or a b = grind arith

      past : (u : List ℕ) → IsWord m u → (j i : ℕ) → j < m.rank → 6 ≤ i → acts m u (integer_unit j) i ≡ pos 0
      past u letters j i l out =
          acts_past m form.at_most_six u letters (integer_unit j)
          (λ k far. unit_off j k (omega (arith, form.at_most_six))) i out

  -- ---- products
  pub product_is : HasCartanForm m → (u w : List ℕ) (x y r : Elem) → IsProduct m u x → IsProduct m w y →
      r.rank ≡ x.rank → length r.entries ≡ 36
      → ((i j : ℕ) → i < 6 → j < 6 → cell r.entries i j ≡ product_cell x.entries y.entries i j) → IsProduct m (u ++ w) r
  product_is form u w x y r hx hy e long cells = record {
    rank = e ∙ hx.rank;
    letters = All-append (λ k. k < m.rank) u w hx.letters hy.letters;
    places = long;
    columns = λ i j li lj. cells i j li lj
        ∙ columns_product form.at_most_six u w x.entries y.entries hy.letters hx.columns hy.columns i j li lj;
  }

  -- an element is the product of each word that acts like one of its words
  pub product_alike : (u w : List ℕ) (e : Elem) → IsProduct m u e → IsWord m w → acts m u ≡ acts m w → IsProduct m w e
  product_alike u w e h letters alike = record {
    rank = h.rank;
    letters = letters;
    places = h.places;
    columns = λ i j li lj. h.columns i j li lj ∙ ap (λ (f : Vector → Vector). f (integer_unit j) i) alike;
  }

  pub small_cells : HasFiniteSystem m → (e : Elem) → IsElement m e → HasSmallCells e.entries
  small_cells finite e (u, h) i j li lj =
      subst (λ z. IsWithin 32 z) (sym (h.columns i j li lj)) (columns_small m finite u h.letters i j)

  -- ---- descents by columns
  pub descent_found : (u : List ℕ) (e : Elem) (k i : ℕ) → HasCartanForm m → IsProduct m u e → k < 6 → i < e.rank →
      cell e.entries i k <ℤ pos 0
      → has_negative m.rank (acts m u (integer_unit k)) ≡ true
  descent_found u e k i form h lk li below =
      let inside : i < m.rank = omega (arith, h.rank) in
      place_negative m.rank (acts m u (integer_unit k)) i inside
      (subst (λ z. z <ℤ pos 0) (h.columns i k (omega (arith, form.at_most_six)) lk) below)

  pub no_descent_found : (u : List ℕ) (e : Elem) (k : ℕ) → HasCartanForm m → IsProduct m u e → k < 6 →
      ((i : ℕ) → i < e.rank → pos 0 ≤ℤ cell e.entries i k)
      → has_negative m.rank (acts m u (integer_unit k)) ≡ true → ⊥
  no_descent_found u e k form h lk least negative =
      let r : (j : ℕ) × (j < m.rank) × (acts m u (integer_unit k) j <ℤ pos 0) =
      negative_place m.rank (acts m u (integer_unit k)) negative in
      let at : cell e.entries r.0 k ≡ acts m u (integer_unit k) r.0 =
      h.columns r.0 k (omega (arith, r.1, form.at_most_six)) lk in
      let above : pos 0 ≤ℤ cell e.entries r.0 k = least r.0 (omega (arith, r.1, h.rank)) in
      let below : acts m u (integer_unit k) r.0 <ℤ pos 0 = r.2 in
      absurd (omega (arith, ints))

  -- ---- length
  has_negative_same : (n : ℕ) (v w : Vector) → ((i : ℕ) → i < n → v i ≡ w i) → has_negative n v ≡ has_negative n w
  unfolding has_negative
  has_negative_same zero v w h = refl
  has_negative_same (suc n) v w h =
      ap₂ (λ a b. a || b) (has_negative_same n v w (λ i l. h i (omega arith)))
      (ap (λ z. int_lt z (pos 0)) (h n (omega arith)))

  -- the element makes as many roots negative as its word
  pub element_length-product : (roots : List Vector) → IsRootSystem m roots → (u : List ℕ) (e : Elem) →
      IsProduct m u e → element_length roots e ≡ length_of m roots u
  element_length-product roots system u e h =
      count roots (λ b k. let r : (q : RootPair) × IsRootPair m q × (q.root ≡ b) ×
      IsPositive m b = system.positive.each b k in
      λ j out. sym (ap (λ (v : Vector). v j) r.2) ∙ root_past m j (omega (arith, system.form.at_most_six)) r.0 r.1)
    where
      count : (bs : List Vector) → ((b : Vector) → Member b bs → (j : ℕ) → 6 ≤ j → b j ≡ pos 0)
          → count_by (λ b. has_negative e.rank (image e.entries b)) bs
          ≡ count_by (λ b. has_negative m.rank (acts m u b)) bs
      count [] past = refl
      count (b ∷ bs) past =
          let same : has_negative e.rank (image e.entries b) ≡ has_negative m.rank (acts m u b) =
          ap (λ n. has_negative n (image e.entries b)) h.rank
          ∙ has_negative_same m.rank (image e.entries b) (acts m u b)
          (λ i l. image_is u e h b (past b (inl refl)) i (omega (arith, system.form.at_most_six))) in
          omega (
            arith,
            sum_by-cons (λ v. cond {A = ℕ} (has_negative e.rank (image e.entries v)) 1 0) b bs,
            sum_by-cons (λ v. cond {A = ℕ} (has_negative m.rank (acts m u v)) 1 0) b bs,
            ap (λ (t : Bool). cond {A = ℕ} t 1 0) same,
            count bs (λ v k. past v (inr k)),
          )

  -- a simple reflection behind an element makes it one longer or one shorter
  pub element_step : (roots : List Vector) → IsRootSystem m roots → (u : List ℕ) (k : ℕ) (x y r : Elem) →
      IsProduct m u x → IsProduct m (k ∷ []) y → IsProduct m (u ++ k ∷ []) r
      → (element_length roots r ≡ element_length roots x + 1) ⊎ (element_length roots r + 1 ≡ element_length roots x)
  element_step roots system u k x y r hx hy hr =
      let before : element_length roots x ≡ length_of m roots u = element_length-product roots system u x hx in
      let after : element_length roots r ≡ length_of m roots (u ++ k ∷ []) =
      element_length-product roots system (u ++ k ∷ []) r hr in
      elim (length_step m roots system u hx.letters k (All-head (λ k. k < m.rank) k [] hy.letters)) [
        | inl up ↦ inl (after ∙ up ∙ ap (λ n. n + 1) (sym before))
        | inr down ↦ inr (ap (λ n. n + 1) after ∙ down ∙ sym before)
      ]

  -- ---- reflections
  pub reflection_product : (roots : List Vector) → IsRootSystem m roots → (q : RootPair) → IsRootPair m q → (e : Elem) →
      IsReflection m q e
      → (u : List ℕ) × (length u % 2 ≡ 1) × (acts m u ≡ across m q) × IsProduct m u e
  reflection_product roots system q is e h =
      let r : (u : List ℕ) × IsWord m u × (length u % 2 ≡ 1) × (acts m u ≡ across m q) =
      reflection_is_element m roots system q is in (
        r.0,
        r.2,
        r.3,
        record {
          rank = h.rank;
          letters = r.1;
          places = h.places;
          columns = λ i j li lj. h.columns i j li lj ∙ sym (ap (λ (f : Vector → Vector). f (integer_unit j) i) r.3);
        },
      )

pub product_fits : (x y : Elem) → AreElementsOfOne x y → (i j : ℕ) → i < 6 → j < 6 →
    IsWithin 32 (product_cell x.entries y.entries i j)
product_fits x y h i j li lj =
    let u : List ℕ = h.first.0 in
    let w : List ℕ = h.second.0 in
    subst (λ z. IsWithin 32 z)
    (sym (columns_product h.matrix h.form.at_most_six u w x.entries y.entries h.second.1.letters h.first.1.columns
    h.second.1.columns i j li lj))
    (columns_small h.matrix h.finite (u ++ w)
    (All-append (λ k. k < h.matrix.rank) u w h.first.1.letters h.second.1.letters) i j)
