-- Exchange, deletion, reduced subsequences, and what follows from them.
use Rattle.std.proofs.Common.{◌≡◌, ◌≢◌, ℕ, zero, suc, ◌+◌, ◌<◌, ◌≤◌, arith, refl, sym, ap, ◌∙◌, subst, inl, inr, ◌⊎◌, ℤ, pos, negsuc, ◌<ℤ◌, ◌≤ℤ◌, List, [], ◌∷◌, ◌++◌, length, take, drop, reverse, Bool, true, false, append_assoc, length-append}
use Rattle.std.proofs.Math.Path.{fun_ext}
use Rattle.std.proofs.lemmas.Bool.{cases_eq}
use Rattle.std.proofs.lemmas.Int.{ints}
use Rattle.std.proofs.lemmas.List.{append-nil, nil_from_length, reverse-reverse, length-reverse, take-append-drop}
use Rattle.std.proofs.lemmas.List.Elements.{All-head, All-tail, All-nil, All-cons, All-append, All-take, All-drop}
use Rattle.bmp_math.specs.IntegerSums.{integer_unit}
use Rattle.bmp_math.proofs.IntegerSumLemmas.{unit_at, unit_off}
use Rattle.bmp_roots.specs.RootPairs.{CartanMatrix, Vector, RootPair, across, mirrored, simple_pair, walk, IsRootPair, IsPositive, HasCartanForm}
use Rattle.bmp_roots.specs.PositiveRoots.{has_negative}
use Rattle.bmp_roots.proofs.RootLemmas.{across-across}
use Rattle.bmp_roots.proofs.PairLemmas.{simple_is_pair, mirrored_mirrored, one_coroot, same_pair}
use Rattle.bmp_roots.proofs.SignLemmas.{negative_place, not_negative}
use Rattle.bmp_roots.proofs.PositiveLemmas.{moved_positive}
use Rattle.bmp_weyl.specs.Words.{IsWord, acts, IsRootSystem, length_of, IsReduced, IsRightDescent, less_place, kept}
use Rattle.bmp_weyl.proofs.ActionLemmas.{acts-append, walk-root, simple_two, acts-reverse, word-reverse}
use Rattle.bmp_weyl.proofs.LengthLemmas.{length_by_one, length_same, length_step, length_behind, length_at_most, length_identity}

-- ---- lists of letters
length-less_place : (u : List ℕ) (i : ℕ) → i < length u → length (less_place u i) + 1 ≡ length u
length-less_place [] i l = absurd (omega arith)
length-less_place (k ∷ u) zero l = omega arith
length-less_place (k ∷ u) (suc i) l = omega (arith, length-less_place u i (omega arith))

less_middle : (front : List ℕ) (k : ℕ) (rest : List ℕ) → less_place (front ++ k ∷ rest) (length front) ≡ front ++ rest
less_middle [] k rest = refl
less_middle (a ∷ front) k rest = ap (λ (w : List ℕ). a ∷ w) (less_middle front k rest)

less_front : (front rest : List ℕ) (i : ℕ) → i < length front →
    less_place (front ++ rest) i ≡ less_place front i ++ rest
less_front [] rest i l = absurd (omega arith)
less_front (a ∷ front) rest zero l = refl
less_front (a ∷ front) rest (suc i) l = ap (λ (w : List ℕ). a ∷ w) (less_front front rest i (omega arith))

-- ---- subsequences
pub kept_more : (choices : List Bool) (b : Bool) (u : List ℕ) (k : ℕ) → length choices ≡ length u →
    kept (choices ++ b ∷ []) (u ++ k ∷ []) ≡ kept choices u ++ kept (b ∷ []) (k ∷ [])
kept_more [] b [] k e = refl
kept_more [] b (l ∷ u) k e = absurd (omega arith)
kept_more (c ∷ choices) b [] k e = absurd (omega arith)
kept_more (true ∷ choices) b (l ∷ u) k e = ap (λ (w : List ℕ). l ∷ w) (kept_more choices b u k (omega arith))
kept_more (false ∷ choices) b (l ∷ u) k e = kept_more choices b u k (omega arith)

pub length-kept : (choices : List Bool) (u : List ℕ) → length (kept choices u) ≤ length u
length-kept [] u = omega arith
length-kept (b ∷ choices) [] = omega arith
length-kept (true ∷ choices) (k ∷ u) = omega (arith, length-kept choices u)
length-kept (false ∷ choices) (k ∷ u) = omega (arith, length-kept choices u)

pub kept_word : (m : CartanMatrix) (choices : List Bool) (u : List ℕ) → IsWord m u → IsWord m (kept choices u)
kept_word m [] u letters = All-nil (λ k. k < m.rank)
kept_word m (b ∷ choices) [] letters = letters
kept_word m (true ∷ choices) (k ∷ u) letters =
    All-cons (λ k. k < m.rank) k (kept choices u) (All-head (λ k. k < m.rank) k u letters)
    (kept_word m choices u (All-tail (λ k. k < m.rank) k u letters))
kept_word m (false ∷ choices) (k ∷ u) letters = kept_word m choices u (All-tail (λ k. k < m.rank) k u letters)

-- a subsequence less a letter is a subsequence
kept_fewer : (choices : List Bool) (u : List ℕ) (i : ℕ) → i < length (kept choices u)
    → (fewer : List Bool) × (length fewer ≡ length choices) × (kept fewer u ≡ less_place (kept choices u) i)
kept_fewer [] u i l = absurd (omega arith)
kept_fewer (b ∷ choices) [] i l = absurd (omega arith)
kept_fewer (true ∷ choices) (k ∷ u) zero l = (false ∷ choices, refl, refl)
kept_fewer (true ∷ choices) (k ∷ u) (suc i) l =
    let r : (fewer : List Bool) × (length fewer ≡ length choices) × (kept fewer u ≡ less_place (kept choices u) i) =
    kept_fewer choices u i (omega arith) in
    (true ∷ r.0, omega (arith, r.1), ap (λ (w : List ℕ). k ∷ w) r.2)
kept_fewer (false ∷ choices) (k ∷ u) i l =
    let r : (fewer : List Bool) × (length fewer ≡ length choices) × (kept fewer u ≡ less_place (kept choices u) i) =
    kept_fewer choices u i l in
    (false ∷ r.0, omega (arith, r.1), r.2)

apart_of : (z : ℤ) → z <ℤ pos 0 → pos 0 ≤ℤ z → ⊥
apart_of z h k = absurd (omega (arith, ints))

decided : (x y : ℤ) → (x ≡ y) ⊎ (x ≡ y → ⊥)
decided (pos a) (pos b) = elim (cases_eq a b) [ inl e ↦ inl (ap pos e) | inr n ↦ inr (λ e. n (omega (arith, ints))) ]
decided (pos a) (negsuc b) = inr (λ e. cc)
decided (negsuc a) (pos b) = inr (λ e. cc)
decided (negsuc a) (negsuc b) =
    elim (cases_eq a b) [ inl e ↦ inl (ap negsuc e) | inr n ↦ inr (λ e. n (omega (arith, ints))) ]

-- what cannot differ is the same
pub stable : (v w : Vector) → ((v ≡ w → ⊥) → ⊥) → v ≡ w
stable v w h = fun_ext
    (λ j. elim (decided (v j) (w j)) [ inl e ↦ e | inr n ↦ absurd (h (λ e. n (ap (λ (f : Vector). f j) e))) ])

module _ (m : CartanMatrix) (form : HasCartanForm m) where
  across_mirrored : (k : ℕ) → k < m.rank → (q : RootPair) (y : Vector) → across m (simple_pair k) (across m q y)
      ≡ across m (mirrored m (simple_pair k) q) (across m (simple_pair k) y)
  across_mirrored k l q y =
      let s : RootPair = simple_pair k in
      let p : RootPair = record { root = across m s y; coroot = y } in
      ap (λ v. across m s (across m q v)) (sym (across-across m s y (simple_two m form k l)))
      ∙ sym (ap (λ (r : RootPair). r.root) (mirrored_mirrored m form s q p (simple_two m form k l)))

  -- a word carries a reflection to the reflection of what it makes of the pair
  pub acts-across : (u : List ℕ) → IsWord m u → (q : RootPair) (x : Vector) →
      acts m u (across m q x) ≡ across m (walk m u q) (acts m u x)
  acts-across [] letters q x = refl
  acts-across (k ∷ u) letters q x =
      ap (across m (simple_pair k)) (acts-across u (All-tail (λ k. k < m.rank) k u letters) q x)
      ∙ across_mirrored k (All-head (λ k. k < m.rank) k u letters) (walk m u q) (acts m u x)

module _ (m : CartanMatrix) (roots : List Vector) (system : IsRootSystem m roots) where
  -- where a word makes the simple root k the simple root a, the letter k behind it is the letter a before it
  carried : (a k : ℕ) (u : List ℕ) → a < m.rank → k < m.rank → IsWord m u → acts m u (integer_unit k) ≡ integer_unit a →
      (x : Vector)
      → acts m (a ∷ u) (across m (simple_pair k) x) ≡ acts m u x
  carried a k u la lk letters e x =
      let q : RootPair = walk m u (simple_pair k) in
      let is : IsRootPair m q = record { word = u; letters = letters; first = k; first_below = lk; reached = refl } in
      let root : q.root ≡ integer_unit a = walk-root m u (simple_pair k) ∙ e in
      let coroot : q.coroot ≡ integer_unit a =
      one_coroot m system.form system.finite q (simple_pair a) is (simple_is_pair m a la) root in
      let simple : q ≡ simple_pair a = same_pair q (simple_pair a) root coroot in
      ap (across m (simple_pair a)) (acts-across m system.form u letters (simple_pair k) x
      ∙ ap (λ (r : RootPair). across m r (acts m u x)) simple)
      ∙ across-across m (simple_pair a) (acts m u x) (simple_two m system.form a la)

  -- some letter of a word that makes the simple root k negative can be left out in place of adding the letter k
  exchanged : (u : List ℕ) → IsWord m u → (k : ℕ) → k < m.rank → has_negative m.rank (acts m u (integer_unit k)) ≡ true
      → (i : ℕ) × (i < length u) × ((x : Vector) → acts m u (across m (simple_pair k) x) ≡ acts m (less_place u i) x)
  exchanged [] letters k l negative =
      let r : (j : ℕ) × (j < m.rank) × (integer_unit k j <ℤ pos 0) = negative_place m.rank (integer_unit k) negative in
      absurd (elim (cases_eq r.0 k) [
        | inl e ↦ let one : integer_unit k r.0 ≡ pos 1 = ap (λ i. integer_unit k i) e ∙ unit_at k in
            let below : integer_unit k r.0 <ℤ pos 0 = r.2 in absurd (omega (arith, ints))
        | inr apart ↦ let none : integer_unit k r.0 ≡ pos 0 = unit_off k r.0 apart in let below :
            integer_unit k r.0 <ℤ pos 0 = r.2 in absurd (omega (arith, ints))
      ])
  exchanged (a ∷ u) letters k l negative =
      by_rest (has_negative m.rank (acts m u (integer_unit k))) refl (All-head (λ k. k < m.rank) a u letters)
      (All-tail (λ k. k < m.rank) a u letters)
      (λ h. exchanged u (All-tail (λ k. k < m.rank) a u letters) k l h)
    where
      by_rest : (b : Bool) → has_negative m.rank (acts m u (integer_unit k)) ≡ b → a < m.rank → IsWord m u
          → (has_negative m.rank (acts m u (integer_unit k)) ≡ true → (i : ℕ) × (i < length u) ×
          ((x : Vector) → acts m u (across m (simple_pair k) x) ≡ acts m (less_place u i) x))
          → (i : ℕ) × (i < length (a ∷ u)) ×
          ((x : Vector) → acts m (a ∷ u) (across m (simple_pair k) x) ≡ acts m (less_place (a ∷ u) i) x)
      by_rest true e la rest again =
          let r : (i : ℕ) × (i < length u) ×
          ((x : Vector) → acts m u (across m (simple_pair k) x) ≡ acts m (less_place u i) x) = again e in
          (suc r.0, omega (arith, r.1), λ x. ap (across m (simple_pair a)) (r.2 x))
      by_rest false e la rest again =
          let q : RootPair = walk m u (simple_pair k) in
          let is : IsRootPair m q = record { word = u; letters = rest; first = k; first_below = l; reached = refl } in
          let root : q.root ≡ acts m u (integer_unit k) = walk-root m u (simple_pair k) in
          let positive : IsPositive m q.root =
          subst (λ v. IsPositive m v) (sym root) (not_negative m.rank (acts m u (integer_unit k)) e) in
          let same : acts m u (integer_unit k) ≡ integer_unit a = sym root ∙ stable q.root (integer_unit a) (λ apart.
          let moved : IsPositive m (across m (simple_pair a) q.root) ×
          (across m (simple_pair a) q.root ≡ integer_unit a → ⊥) =
          moved_positive m system.form system.finite a la q is positive apart in
          let r : (j : ℕ) × (j < m.rank) × (across m (simple_pair a) (acts m u (integer_unit k)) j <ℤ pos 0) =
          negative_place m.rank (across m (simple_pair a) (acts m u (integer_unit k))) negative in
          let below : across m (simple_pair a) q.root r.0 <ℤ pos 0 =
          subst (λ v. across m (simple_pair a) v r.0 <ℤ pos 0) (sym root) r.2 in
          let least : pos 0 ≤ℤ across m (simple_pair a) q.root r.0 = moved.0 r.0 r.1 in
          apart_of (across m (simple_pair a) q.root r.0) below least) in
          (0, omega arith, λ x. carried a k u la l rest same x)

  -- ---- descents
  pub descent_negative : (u : List ℕ) → IsWord m u → (k : ℕ) → k < m.rank → IsRightDescent m roots u k →
      has_negative m.rank (acts m u (integer_unit k)) ≡ true
  descent_negative u letters k l descent = by (has_negative m.rank (acts m u (integer_unit k))) refl
    where
      by : (b : Bool) → has_negative m.rank (acts m u (integer_unit k)) ≡ b →
          has_negative m.rank (acts m u (integer_unit k)) ≡ true
      by true e = e
      by false e = absurd (omega (arith, (length_by_one m roots system u letters k l).1 e, descent))

  pub negative_descent : (u : List ℕ) → IsWord m u → (k : ℕ) → k < m.rank →
      has_negative m.rank (acts m u (integer_unit k)) ≡ true → IsRightDescent m roots u k
  negative_descent u letters k l negative = omega (arith, (length_by_one m roots system u letters k l).0 negative)

  single : (k : ℕ) → k < m.rank → IsWord m (k ∷ [])
  single k l = All-cons (λ k. k < m.rank) k [] l (All-nil (λ k. k < m.rank))

  -- ---- exchange
  pub exchange : (u : List ℕ) (k : ℕ) → IsWord m u → k < m.rank → IsRightDescent m roots u k
      → (i : ℕ) × (i < length u) × (acts m (u ++ k ∷ []) ≡ acts m (less_place u i))
  exchange u k letters l descent =
      let r : (i : ℕ) × (i < length u) ×
      ((x : Vector) → acts m u (across m (simple_pair k) x) ≡ acts m (less_place u i) x) =
      exchanged u letters k l (descent_negative u letters k l descent) in
      (r.0, r.1, fun_ext (λ x. acts-append m u (k ∷ []) x ∙ r.2 x))

  -- ---- deletion
  deletion_from : (front rest : List ℕ) → IsWord m front → IsWord m rest → IsReduced m roots front →
      length_of m roots (front ++ rest) < length (front ++ rest)
      → (i j : ℕ) × (i < j) × (j < length (front ++ rest)) ×
      (acts m (front ++ rest) ≡ acts m (less_place (less_place (front ++ rest) j) i))
  deletion_from front [] letters behind reduced shorter =
      absurd (omega (
        arith,
        reduced,
        shorter,
        length-append front [],
        length_same m roots system (front ++ []) front (fun_ext (λ v. acts-append m front [] v)),
      ))
  deletion_from front (k ∷ rest) letters behind reduced shorter =
      let here : k < m.rank = All-head (λ k. k < m.rank) k rest behind in
      let after : IsWord m rest = All-tail (λ k. k < m.rank) k rest behind in
      let joined : front ++ k ∷ [] ++ rest ≡ front ++ k ∷ rest = append_assoc front (k ∷ []) rest in
      elim (length_step m roots system front letters k here) [
        | inl up ↦
            subst (λ (w : List ℕ). (i j : ℕ) × (i < j) × (j < length w) ×
            (acts m w ≡ acts m (less_place (less_place w j) i))) joined
            (deletion_from (front ++ k ∷ []) rest (All-append (λ k. k < m.rank) front (k ∷ []) letters (single k here))
            after
            (omega (arith, up, reduced, length-append front (k ∷ [])))
            (subst (λ (w : List ℕ). length_of m roots w < length w) (sym joined) shorter))
        | inr down ↦
            let r : (i : ℕ) × (i < length front) × (acts m (front ++ k ∷ []) ≡ acts m (less_place front i)) =
            exchange front k letters here (omega (arith, down)) in
            let same : acts m (front ++ k ∷ rest) ≡ acts m (less_place front r.0 ++ rest) =
            ap (acts m) (sym joined)
            ∙ fun_ext (λ v. acts-append m (front ++ k ∷ []) rest v
            ∙ ap (λ (f : Vector → Vector). f (acts m rest v)) r.2
            ∙ sym (acts-append m (less_place front r.0) rest v)) in
            let places : less_place (less_place (front ++ k ∷ rest) (length front)) r.0 ≡ less_place front r.0 ++ rest =
            ap (λ (w : List ℕ). less_place w r.0) (less_middle front k rest) ∙ less_front front rest r.0 r.1 in
            (r.0, length front, r.1, omega (arith, length-append front (k ∷ rest)), same ∙ ap (acts m) (sym places))
      ]

  pub deletion : (u : List ℕ) → IsWord m u → length_of m roots u < length u
      → (i j : ℕ) × (i < j) × (j < length u) × (acts m u ≡ acts m (less_place (less_place u j) i))
  deletion u letters shorter =
      deletion_from [] u (All-nil (λ k. k < m.rank)) letters (length_identity m roots system) shorter

  -- ---- a reduced subsequence, letter by letter
  reduced_from : (front rest : List ℕ) (choices : List Bool) → IsWord m front → IsWord m rest →
      length choices ≡ length front
      → IsReduced m roots (kept choices front) → acts m (kept choices front) ≡ acts m front
      → (choices : List Bool) × (length choices ≡ length (front ++ rest)) ×
      IsReduced m roots (kept choices (front ++ rest)) ×
      (acts m (kept choices (front ++ rest)) ≡ acts m (front ++ rest))
  reduced_from front [] choices letters behind long reduced same =
      subst (λ (w : List ℕ). (choices : List Bool) × (length choices ≡ length w) × IsReduced m roots (kept choices w) ×
      (acts m (kept choices w) ≡ acts m w))
      (sym (append-nil front)) (choices, long, reduced, same)
  reduced_from front (k ∷ rest) choices letters behind long reduced same =
      let here : k < m.rank = All-head (λ k. k < m.rank) k rest behind in
      let after : IsWord m rest = All-tail (λ k. k < m.rank) k rest behind in
      let whole : IsWord m (front ++ k ∷ []) = All-append (λ k. k < m.rank) front (k ∷ []) letters (single k here) in
      let subword : IsWord m (kept choices front) = kept_word m choices front letters in
      let with_letter : acts m (kept choices front ++ k ∷ []) ≡ acts m (front ++ k ∷ []) =
      fun_ext (λ v. acts-append m (kept choices front) (k ∷ []) v
      ∙ ap (λ (f : Vector → Vector). f (acts m (k ∷ []) v)) same ∙ sym (acts-append m front (k ∷ []) v)) in
      subst (λ (w : List ℕ). (choices : List Bool) × (length choices ≡ length w) × IsReduced m roots (kept choices w) ×
      (acts m (kept choices w) ≡ acts m w))
      (append_assoc front (k ∷ []) rest)
      (elim (length_step m roots system (kept choices front) subword k here) [
        | inl up ↦
            let more : kept (choices ++ true ∷ []) (front ++ k ∷ []) ≡ kept choices front ++ k ∷ [] =
            kept_more choices true front k long in
            reduced_from (front ++ k ∷ []) rest (choices ++ true ∷ []) whole after
            (omega (arith, long, length-append choices (true ∷ []), length-append front (k ∷ [])))
            (subst (λ (w : List ℕ). IsReduced m roots w) (sym more)
            (omega (arith, up, reduced, length-append (kept choices front) (k ∷ []))))
            (ap (acts m) more ∙ with_letter)
        | inr down ↦
            let r : (i : ℕ) × (i < length (kept choices front)) ×
            (acts m (kept choices front ++ k ∷ []) ≡ acts m (less_place (kept choices front) i)) =
            exchange (kept choices front) k subword here (omega (arith, down)) in
            let s : (fewer : List Bool) × (length fewer ≡ length choices) ×
            (kept fewer front ≡ less_place (kept choices front) r.0) = kept_fewer choices front r.0 r.1 in
            let more : kept (s.0 ++ false ∷ []) (front ++ k ∷ []) ≡ less_place (kept choices front) r.0 =
            kept_more s.0 false front k (s.1 ∙ long) ∙ append-nil (kept s.0 front) ∙ s.2 in
            reduced_from (front ++ k ∷ []) rest (s.0 ++ false ∷ []) whole after
            (omega (arith, long, s.1, length-append s.0 (false ∷ []), length-append front (k ∷ [])))
            (subst (λ (w : List ℕ). IsReduced m roots w) (sym more)
            (omega (
              arith,
              down,
              reduced,
              length_same m roots system (kept choices front ++ k ∷ []) (less_place (kept choices front) r.0) r.2,
              length-less_place (kept choices front) r.0 r.1,
            )))
            (ap (acts m) more ∙ sym r.2 ∙ with_letter)
      ])

  pub reduced_subsequence : (u : List ℕ) → IsWord m u
      → (choices : List Bool) × (length choices ≡ length u) × IsReduced m roots (kept choices u) ×
      (acts m (kept choices u) ≡ acts m u)
  reduced_subsequence u letters =
      reduced_from [] u [] (All-nil (λ k. k < m.rank)) letters refl (length_identity m roots system) refl

  -- ---- what follows
  pub length_zero : (u : List ℕ) → IsWord m u → length_of m roots u ≡ 0 → acts m u ≡ acts m []
  length_zero u letters none =
      let r : (choices : List Bool) × (length choices ≡ length u) × IsReduced m roots (kept choices u) ×
      (acts m (kept choices u) ≡ acts m u) = reduced_subsequence u letters in
      let empty : kept r.0 u ≡ [] =
      nil_from_length (kept r.0 u) (sym r.2 ∙ length_same m roots system (kept r.0 u) u r.3 ∙ none) in
      sym r.3 ∙ ap (acts m) empty

  -- products that act alike have inverses that act alike
  pub inverse_same : (u w : List ℕ) → IsWord m u → IsWord m w → acts m u ≡ acts m w →
      acts m (reverse u) ≡ acts m (reverse w)
  inverse_same u w first second e = fun_ext (λ v.
      ap (acts m (reverse u)) (sym (acts-reverse m system.form w second v) ∙ acts-append m w (reverse w) v
      ∙ ap (λ (f : Vector → Vector). f (acts m (reverse w) v)) (sym e))
      ∙ sym (acts-append m (reverse u) u (acts m (reverse w) v))
      ∙ back u first (acts m (reverse w) v))
    where
      back : (u : List ℕ) → IsWord m u → (v : Vector) → acts m (reverse u ++ u) v ≡ v
      back u letters v = ap (λ (w : List ℕ). acts m (reverse u ++ w) v) (sym (reverse-reverse u))
          ∙ acts-reverse m system.form (reverse u) (word-reverse m u letters) v

  inverse_at_most : (u : List ℕ) → IsWord m u → length_of m roots (reverse u) ≤ length_of m roots u
  inverse_at_most u letters =
      let r : (choices : List Bool) × (length choices ≡ length u) × IsReduced m roots (kept choices u) ×
      (acts m (kept choices u) ≡ acts m u) = reduced_subsequence u letters in
      let v : List ℕ = kept r.0 u in
      let word : IsWord m v = kept_word m r.0 u letters in
      omega (
        arith,
        r.2,
        length_same m roots system v u r.3,
        length_same m roots system (reverse v) (reverse u) (inverse_same v u word letters r.3),
        length_at_most m roots system (reverse v) (word-reverse m v word),
        length-reverse v,
      )

  pub length-inverse : (u : List ℕ) → IsWord m u → length_of m roots (reverse u) ≡ length_of m roots u
  length-inverse u letters =
      let back : length_of m roots (reverse (reverse u)) ≤ length_of m roots (reverse u) =
      inverse_at_most (reverse u) (word-reverse m u letters) in
      let twice : length_of m roots (reverse (reverse u)) ≡ length_of m roots u =
      ap (length_of m roots) (reverse-reverse u) in
      omega (arith, inverse_at_most u letters)

  pub subsequence_shorter : (u : List ℕ) → IsWord m u → IsReduced m roots u → (choices : List Bool) →
      length (kept choices u) ≢ length u
      → length_of m roots (kept choices u) < length_of m roots u
  subsequence_shorter u letters reduced choices fewer =
      omega (
        arith,
        reduced,
        fewer,
        length-kept choices u,
        length_at_most m roots system (kept choices u) (kept_word m choices u letters),
      )

  pub prefix_reduced : (u : List ℕ) → IsWord m u → IsReduced m roots u → (n : ℕ) → IsReduced m roots (take n u)
  prefix_reduced u letters reduced n =
      let first : IsWord m (take n u) = All-take (λ k. k < m.rank) n u letters in
      let second : IsWord m (drop n u) = All-drop (λ k. k < m.rank) n u letters in
      let parts : take n u ++ drop n u ≡ u = take-append-drop n u in
      omega (
        arith,
        reduced,
        ap (length_of m roots) parts,
        ap length parts,
        length-append (take n u) (drop n u),
        (length_behind m roots system (take n u) (drop n u) first second).0,
        length_at_most m roots system (take n u) first,
      )
