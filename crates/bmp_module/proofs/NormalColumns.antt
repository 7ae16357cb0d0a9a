-- Columns of normal forms: one from the values of a polynomial, and many one after another.
use Rattle.std.proofs.Common.{◌≡◌, ◌≢◌, ℕ, ◌+◌, ◌*◌, ◌-◌, ◌%◌, ◌<◌, ◌≤◌, List, [], ◌∷◌, ◌++◌, length, length-append, map, get_or, sym, ap, subst, ◌∙◌, inl, inr, arith, refl}
use Rattle.std.proofs.lemmas.Bool.{cases_eq, cases_lt}
use Rattle.std.proofs.lemmas.List.{get_or_push, get_or_append_left, get_or-append-add, map_push, length-map}
use Rattle.std.proofs.lemmas.Nat.{mul-add-lt}
use Rattle.std.proofs.Math.Path.{fun_ext}
use Rattle.bmp_math.specs.Vectors.{unit}
use Rattle.bmp_math.proofs.UnitLemmas.{unit_same, unit_other}
use Rattle.bmp_poly.specs.Exponents.{count, exponents, place}
use Rattle.bmp_poly.specs.Forms.{Form, unit_form}
use Rattle.bmp_poly.specs.Coefficients.{coefficient, form}
use Rattle.bmp_poly.proofs.CoefficientLemmas.{coefficient_past, coefficient_read}
use Rattle.bmp_poly.proofs.PlaceLemmas.{exponents_stand}
use Rattle.bmp_graded.specs.NormalForms.{normal_by}
use Rattle.bmp_graded.specs.Quotients.{insert}
use Rattle.bmp_graded.proofs.CoordinateLemmas.{length_more}
use Rattle.bmp_module.specs.Appended.{IsAppended}
use Rattle.bmp_module.specs.Tables.{normal_number, IsNormalColumn, HasNormalColumns, HasNormalForms}

pub unit_sym : (i j : ℕ) → unit i j ≡ unit j i
unit_sym i j = elim (cases_eq i j) [
  | inl same ↦ ap (unit i) (sym same) ∙ unit_same i ∙ sym (unit_same j) ∙ ap (unit j) (sym same)
  | inr other ↦ unit_other i j other ∙ sym (unit_other j i (λ e. other (sym e)))
]

-- 1 at its own place, and 0 past the end too
pub unit_appended : {E : Type 0} (is_value : E → Type 0) (num : E → ℕ) (now : List E) (n t : ℕ) → t < n →
    IsAppended is_value num [] now n (unit t) → (i : ℕ) → coefficient num now i ≡ unit t i
unit_appended is_value num now n t inside h i =
    let sized : length now ≡ 0 + n = h.sized in
    elim (cases_lt i n) [
      | inl below ↦ let at : i ≡ 0 + i = omega arith in ap (coefficient num now) at ∙ h.added i below
      | inr past ↦ let apart : i ≢ t = omega arith in coefficient_past num now i (omega arith)
          ∙ sym (unit_other t i (λ e. apart (sym e)))
    ]

-- with the coefficients of the monomial at place t the polynomial is this monomial
pub monomial_form : (num_at : ℕ → ℕ) (r s t : ℕ) → r ≤ 6 → t < count r s → ((i : ℕ) → num_at i ≡ unit t i) →
    (λ (m : List ℕ). num_at (place r m)) ≡ unit_form r (exponents 6 r s t)
monomial_form num_at r s t wide inside is_unit = fun_ext each
  where
    each : (m : List ℕ) → num_at (place r m) ≡ unit_form r (exponents 6 r s t) m
    each m =
        let stands : place r (exponents 6 r s t) ≡ t = (exponents_stand 6 r s t wide inside).place_is in
        is_unit (place r m) ∙ unit_sym t (place r m) ∙ ap (unit (place r m)) (sym stands)

-- the numbers so far are those of the values
pub record AreNumbers {E : Type 0} (num : E → ℕ) (values : List E) (n : ℕ) (numbers : List ℕ) : Type 0 where
  pub sized : length numbers ≡ n
  pub each : (i : ℕ) → i < n → get_or numbers i 0 ≡ coefficient num values i

pub numbers_none : {E : Type 0} (num : E → ℕ) (values : List E) → AreNumbers num values 0 []
numbers_none num values = record { sized = refl; each = λ i l. absurd (omega arith) }

pub numbers_more : {E : Type 0} (num : E → ℕ) (values : List E) (n : ℕ) (numbers : List ℕ) (v : E) (x : ℕ) →
    AreNumbers num values n numbers → n < length values → v ≡ get_or values n v → x ≡ num v →
    AreNumbers num values (n + 1) (numbers ++ x ∷ [])
numbers_more num values n numbers v x h inside read is =
    let sized : length numbers ≡ n = h.sized in
    record {
      sized = length_more numbers x ∙ ap (λ k. k + 1) sized;
      each = λ i l. elim (cases_eq i n) [
        | inl here ↦ get_or_push numbers x 0 i (sized ∙ sym here) ∙ is
            ∙ sym (coefficient_read num values n v inside read) ∙ ap (coefficient num values) (sym here)
        | inr other ↦ let before : i < n = omega arith in get_or_append_left numbers (x ∷ []) 0 i (omega arith)
            ∙ h.each i before
      ];
    }

-- the numbers of the normal form of a monomial, which were appended to an empty list
pub numbers_column : {E : Type 0} (is_value : E → Type 0) (num : E → ℕ) (p q r l s t : ℕ) (c : ℕ → ℕ)
    (old written from made values : List E) (n : ℕ) (numbers : List ℕ) →
    q ≡ p → r ≤ 6 → t < count r s → ((i : ℕ) → coefficient num old i ≡ unit t i) → written ≡ old → from ≡ [] →
    values ≡ made →
    IsAppended is_value num from made (count (r - 1) s)
    (λ i. normal_by p r l c s (form num r written) (insert l (exponents 5 (r - 1) s i)) % q) →
    length values ≤ n → n ≤ length values → AreNumbers num values n numbers → IsNormalColumn p r c l s t numbers
numbers_column is_value num p q r l s t c old written from made values n numbers sizes wide inside is_unit written_is
    empty values_are h all within numbers_are =
    let sized : length values ≡ 0 + count (r - 1) s =
    ap length values_are ∙ h.sized ∙ ap (λ xs. length xs + count (r - 1) s) empty in
    let whole : n ≡ count (r - 1) s = omega arith in
    let is_form : (λ m. coefficient num written (place r m)) ≡ unit_form r (exponents 6 r s t) =
    ap (λ xs. λ m. coefficient num xs (place r m)) written_is
    ∙ monomial_form (coefficient num old) r s t wide inside is_unit in
    record {
      sized = numbers_are.sized ∙ whole;
      each = λ i l'.
          let start : 0 + i ≡ i = omega arith in
          let at : i ≡ length from + i = sym (ap (λ xs. length xs + i) empty ∙ start) in
          numbers_are.each i (omega arith) ∙ ap (λ xs. coefficient num xs i) values_are ∙ ap (coefficient num made) at
          ∙ h.added i l'
          ∙ ap (λ z. normal_by p r l c s (form num r written) (insert l (exponents 5 (r - 1) s i)) % z) sizes
          ∙ ap (λ (a : Form). normal_by p r l c s a (insert l (exponents 5 (r - 1) s i)) % p) is_form;
    }

module _ (p r l : ℕ) (c : ℕ → ℕ) where
  pub columns_none : (s : ℕ) → HasNormalColumns p r c l s 0 []
  columns_none s = record { sized = omega arith; each = λ t i before inside. absurd (omega arith) }

  pub columns_more : (s n : ℕ) (numbers column : List ℕ) → HasNormalColumns p r c l s n numbers →
      IsNormalColumn p r c l s n column → HasNormalColumns p r c l s (n + 1) (numbers ++ column)
  columns_more s n numbers column h last =
      let sized : length numbers ≡ n * count (r - 1) s = h.sized in
      let one : length column ≡ count (r - 1) s = last.sized in
      record {
        sized = length-append numbers column ∙ omega (arith, sized, one);
        each = λ t i before inside. elim (cases_eq t n) [
          | inl here ↦
              let at : t * count (r - 1) s + i ≡ length numbers + i = ap (λ k. k * count (r - 1) s + i) here
              ∙ omega (arith, sized) in
              ap (λ k. get_or (numbers ++ column) k 0) at ∙ get_or-append-add numbers column i 0 ∙ last.each i inside
              ∙ ap (λ k. normal_number p r c l s (unit_form r (exponents 6 r s k)) i) (sym here)
          | inr other ↦
              let earlier : t < n = omega arith in
              let within : t * count (r - 1) s + i < length numbers =
              omega (arith, sized, mul-add-lt t (count (r - 1) s) i n earlier inside) in
              get_or_append_left numbers column 0 (t * count (r - 1) s + i) within ∙ h.each t i earlier inside
        ];
      }

  pub forms_none : HasNormalForms p r c l []
  forms_none = λ s below. absurd (omega arith)

  forms_more : (tables : List (List ℕ)) (numbers : List ℕ) (n : ℕ) → length tables ≡ n → HasNormalForms p r c l tables →
      HasNormalColumns p r c l n (count r n) numbers → HasNormalForms p r c l (tables ++ numbers ∷ [])
  forms_more tables numbers n sized h last = λ d below.
      let longer : length (tables ++ numbers ∷ []) ≡ length tables + 1 = length_more tables numbers in
      elim (cases_eq d n) [
        | inl here ↦ subst (λ k. HasNormalColumns p r c l k (count r k) (get_or (tables ++ numbers ∷ []) k []))
            (sym here) (subst (λ xs. HasNormalColumns p r c l n (count r n) xs)
            (sym (get_or_push tables numbers [] n sized)) last)
        | inr other ↦ let before : d < length tables = omega arith in
            subst (λ xs. HasNormalColumns p r c l d (count r d) xs)
            (sym (get_or_append_left tables (numbers ∷ []) [] d before)) (h d before)
      ]

  -- the same of tables in memory, one more
  pub forms_pushed : {V : Type 0} (items : V → List ℕ) (tables : List V) (v : V) (n : ℕ) → length tables ≡ n →
      HasNormalForms p r c l (map items tables) → HasNormalColumns p r c l n (count r n) (items v) →
      (length (tables ++ v ∷ []) ≡ n + 1) × HasNormalForms p r c l (map items (tables ++ v ∷ []))
  forms_pushed items tables v n sized h last = (
    length_more tables v ∙ ap (λ k. k + 1) sized,
    subst (λ xs. HasNormalForms p r c l xs) (sym (map_push items tables v))
        (forms_more (map items tables) (items v) n (length-map tables items ∙ sized) h last),
  )
