-- What a well formed certificate has, by vertex and degree.
use Rattle.std.proofs.Common.{◌≡◌, ℕ, zero, suc, ◌+◌, ◌-◌, ◌<◌, ◌≤◌, Bool, true, false, eqb, List, [], ◌∷◌, length, get_or, refl, subst, arith, eq-eqb, ne_eqb}
use Rattle.std.specs.List.{All}
use Rattle.std.specs.List.Sorted.{IsStrictlyIncreasing}
use Rattle.std.proofs.lemmas.List.Elements.{All-nil, All-cons, All-weaker}
use Rattle.bmp_text.specs.Printing.{ChainFits, Chosen}
use Rattle.bmp_linear.specs.declared.vector.Entry.{Entry}
use Rattle.bmp_linear.specs.declared.blocks.DegreeBlock.{DegreeBlock}
use Rattle.bmp_linear.specs.SparseVectors.{ValuesBelow}
use Rattle.bmp_cert.specs.Counts.{Written, part_of, no_part}
use Rattle.bmp_cert.specs.VectorGrammar.{MOST, IsEntry, behind_place, IsVector, AreVectors, AreRising}
use Rattle.bmp_cert.specs.BlockGrammar.{IsBlock}
use Rattle.bmp_cert.specs.CertGrammar.{from_degree, step_up, step_down, AreDegrees, IsTop, IsPart, IsPartAt, HavePartLines}
use Rattle.bmp_cert.proofs.RowLemmas.{all_from_chain}
use Rattle.bmp_check.specs.BlockData.{no_block}

-- ---- a member of a chain

module _ {A : Type 0} (fits : ℕ → A → Type 0) where
  chain_down : (xs : List A) (s k : ℕ) (x : A) → ChainFits fits step_down s xs → k < length xs →
      fits (s - k) (get_or xs k x)
  chain_down [] s k x chain within = absurd (omega arith)
  chain_down (y ∷ xs) s zero x chain within = let same : s ≡ s - 0 = omega arith in
      subst (λ (t : ℕ). fits t y) same chain.0
  chain_down (y ∷ xs) s (suc k) x chain within =
      let same : (s - 1) - k ≡ s - suc k = omega arith in
      subst (λ (t : ℕ). fits t (get_or xs k x)) same (chain_down xs (s - 1) k x chain.1 (omega arith))

  chain_up : (xs : List A) (s k : ℕ) (x : A) → ChainFits fits step_up s xs → k < length xs →
      fits (s + k) (get_or xs k x)
  chain_up [] s k x chain within = absurd (omega arith)
  chain_up (y ∷ xs) s zero x chain within = let same : s ≡ s + 0 = omega arith in
      subst (λ (t : ℕ). fits t y) same chain.0
  chain_up (y ∷ xs) s (suc k) x chain within =
      let same : (s + 1) + k ≡ s + suc k = omega arith in
      subst (λ (t : ℕ). fits t (get_or xs k x)) same (chain_up xs (s + 1) k x chain.1 (omega arith))

chosen_other : (b : Bool) (P Q : Type 0) → b ≡ false → Chosen b P Q → Q
chosen_other b P Q is h = subst (λ (t : Bool). Chosen t P Q) is h

chosen_one : (b : Bool) (P Q : Type 0) → b ≡ true → Chosen b P Q → P
chosen_one b P Q is h = subst (λ (t : Bool). Chosen t P Q) is h

-- ---- the parts

module _ (most : ℕ) (c : Written) {v : ℕ} (formed : HavePartLines v most c.degree c.parts) where
  abbrev last : ℕ
  last = length c.parts - 1

  formed_at : (x : ℕ) → x < length c.parts → IsPartAt v last most c.degree x (part_of c x)
  formed_at x within =
      let same : last - (last - x) ≡ x = omega arith in
      subst (λ (y : ℕ). IsPartAt v last most c.degree y (part_of c x)) same
      (chain_down (IsPartAt v last most c.degree) c.parts last (last - x) no_part formed.parts.1 (omega arith))

  pub part_formed : (x : ℕ) → x + 1 < length c.parts → IsPart v most c.degree x (part_of c x)
  part_formed x within =
      chosen_other (eqb x last) (IsTop c.degree (part_of c x)) (IsPart v most c.degree x (part_of c x))
      (ne_eqb x last (λ same. omega arith)) (formed_at x (omega arith))

  pub top_formed : IsTop c.degree (part_of c last)
  top_formed =
      let some = formed.some in
      chosen_one (eqb last last) (IsTop c.degree (part_of c last)) (IsPart v most c.degree last (part_of c last))
      (eq-eqb last last refl) (formed_at last (omega arith))

  pub degrees_formed : (x : ℕ) → x < length c.parts → AreDegrees c.degree (part_of c x).degrees
  degrees_formed x within = either (eqb x last) (formed_at x within)
    where
      either : (b : Bool) → Chosen b (IsTop c.degree (part_of c x)) (IsPart v most c.degree x (part_of c x)) →
          AreDegrees c.degree (part_of c x).degrees
      either true h = h.0
      either false h = h.degrees

-- ---- degrees, vectors and places

module _ (most : ℕ) where
  degrees_chain : (es : List ℕ) (low : ℕ) → ChainFits (λ (b e : ℕ). (b ≤ e) × (e ≤ most)) from_degree low es →
      All (λ e. e ≤ most) es
  degrees_chain [] low chain = All-nil (λ e. e ≤ most)
  degrees_chain (e ∷ es) low chain = All-cons (λ d. d ≤ most) e es chain.0.1 (degrees_chain es e chain.1)

  pub degrees_most : (es : List ℕ) → AreDegrees most es → All (λ e. e ≤ most) es
  degrees_most es h = degrees_chain es 0 h.1

  entries_chain : (p : ℕ) → most ≡ p - 1 → (v : List Entry) (next : ℕ) → ChainFits (IsEntry most) behind_place next v →
      ValuesBelow v p
  entries_chain p is [] next chain = All-nil (λ (e : Entry). e.value < p)
  entries_chain p is (e ∷ v) next chain =
      All-cons (λ (d : Entry). d.value < p) e v (omega (arith, chain.0.2, chain.0.3))
      (entries_chain p is v (e.place + 1) chain.1)

  pub vectors_below : (p n : ℕ) → most ≡ p - 1 → (vs : List (List Entry)) → AreVectors most n vs →
      All (λ v. ValuesBelow v p) vs
  vectors_below p n is vs h =
      All-weaker (IsVector most) (λ (v : List Entry). ValuesBelow v p)
      (λ v is_vector. entries_chain p is v 0 is_vector.1) vs (all_from_chain (IsVector most) vs h.1)

abbrev Places : ℕ → List ℕ → Type 0
Places low ps = ChainFits (λ (b p : ℕ). (b ≤ p) × (p ≤ MOST)) (λ p b. p + 1) low ps

places_rise : (ps : List ℕ) (low : ℕ) → Places low ps → IsStrictlyIncreasing ps
places_rise [] low chain k within = absurd (omega arith)
places_rise (p ∷ []) low chain k within = absurd (omega arith)
places_rise (p ∷ q ∷ ps) low chain zero within = omega (arith, chain.1.0.0)
places_rise (p ∷ q ∷ ps) low chain (suc k) within =
    let next : suc (k + 1) ≡ suc k + 1 = omega arith in
    subst (λ m. get_or (q ∷ ps) k 0 < get_or (p ∷ q ∷ ps) m 0) next
    (places_rise (q ∷ ps) (p + 1) chain.1 k (omega arith))

pub pivots_rise : (n : ℕ) (ps : List ℕ) → AreRising n ps → IsStrictlyIncreasing ps
pivots_rise n ps h = places_rise ps 0 h.1

-- ---- blocks

pub block_formed : {v : ℕ} (most count : ℕ) (at : ℕ → ℕ) (bs : List DegreeBlock) (d : ℕ) →
    (length bs ≡ count) × ChainFits (IsBlock v most at) step_up 0 bs → d < count →
    IsBlock v most at d (get_or bs d no_block)
block_formed {v = v} most count at bs d h within =
    let same : 0 + d ≡ d = omega arith in
    subst (λ (e : ℕ). IsBlock v most at e (get_or bs d no_block)) same
    (chain_up (IsBlock v most at) bs 0 d no_block h.1 (omega (arith, h.0)))
