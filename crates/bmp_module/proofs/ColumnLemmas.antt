-- Columns that are appended, one or many.
use Rattle.std.proofs.Common.{◌≡◌, ℕ, suc, ◌+◌, ◌-◌, ◌*◌, ◌%◌, ◌<◌, ◌≤◌, List, [], ◌∷◌, ◌++◌, length, length-append, get_or, refl, sym, ap, ap₂, subst, ◌∙◌, inl, inr, arith}
use Rattle.std.specs.Prelude.{slice_index}
use Rattle.std.specs.List.{sum}
use Rattle.std.proofs.lemmas.Bool.{cases_eq, cases_lt}
use Rattle.std.proofs.lemmas.List.{get_or_append_left, get_or-append-add}
use Rattle.std.proofs.lemmas.Nat.{mul-add-lt}
use Rattle.bmp_math.specs.Vectors.{unit}
use Rattle.bmp_poly.specs.Exponents.{count, exponents}
use Rattle.bmp_graded.specs.Graded.{Graded}
use Rattle.bmp_graded.specs.Modules.{moved, polynomials, free}
use Rattle.bmp_graded.specs.Maps.{extension}
use Rattle.bmp_graded.proofs.Totals.{total_front}
use Rattle.bmp_graded.proofs.CopiesLemmas.{block_dim, copies_dim, moved_dim, moved_none, polynomials_dim}
use Rattle.bmp_graded.proofs.ComponentLemmas.{start_of, start_more, start_none}
use Rattle.bmp_graded.proofs.BlockActs.{extension_unit}
use Rattle.bmp_module.specs.Columns.{HasColumns}

module _ (rows : ℕ) (number : ℕ → ℕ → ℕ) where
  pub columns_none : (old : List ℕ) → HasColumns rows 0 number old old
  columns_none old =
      record { sized = omega arith; kept = λ j below. refl; each = λ j i below inside. absurd (omega arith) }

  -- one more
  pub column_pushed : (n : ℕ) (old now column : List ℕ) → HasColumns rows n number old now → length column ≡ rows →
      ((i : ℕ) → i < length column → slice_index column i ≡ number n i) →
      HasColumns rows (n + 1) number old (now ++ column)
  column_pushed n old now column h one numbers =
      let sized : length now ≡ length old + n * rows = h.sized in
      record {
        sized = length-append now column ∙ omega (arith, sized, one);
        kept = λ j below. get_or_append_left now column 0 j (omega (arith, sized, below)) ∙ h.kept j below;
        each = λ j i below inside. elim (cases_eq j n) [
          | inl here ↦
              let at : length old + (j * rows + i) ≡ length now + i = ap (λ z. length old + (z * rows + i)) here
              ∙ omega (arith, sized) in
              ap (slice_index (now ++ column)) at ∙ get_or-append-add now column i 0
              ∙ numbers i (omega (arith, inside, one)) ∙ ap (λ z. number z i) (sym here)
          | inr other ↦
              let earlier : j < n = omega arith in
              let within : length old + (j * rows + i) < length now =
              omega (arith, sized, mul-add-lt j rows i n earlier inside) in
              get_or_append_left now column 0 (length old + (j * rows + i)) within ∙ h.each j i earlier inside
        ];
      }

  -- those behind the first m
  pub columns_joined : (m n : ℕ) (old mid new : List ℕ) → HasColumns rows m number old mid →
      HasColumns rows n (λ j. number (m + j)) mid new → HasColumns rows (m + n) number old new
  columns_joined m n old mid new h f =
      let first : length mid ≡ length old + m * rows = h.sized in
      let second : length new ≡ length mid + n * rows = f.sized in
      record {
        sized = omega (arith, first, second);
        kept = λ j below. f.kept j (omega (arith, first, below)) ∙ h.kept j below;
        each = λ j i below inside. elim (cases_lt j m) [
          | inl before ↦
              let within : length old + (j * rows + i) < length mid =
              omega (arith, first, mul-add-lt j rows i m before inside) in
              f.kept (length old + (j * rows + i)) within ∙ h.each j i before inside
          | inr from ↦
              let whole : m + (j - m) ≡ j = omega (arith, from) in
              let at : length old + (j * rows + i) ≡ length mid + ((j - m) * rows + i) =
              ap (λ z. length old + (z * rows + i)) (sym whole) ∙ omega (arith, first) in
              ap (slice_index new) at ∙ f.each (j - m) i (omega (arith, below, from)) inside
              ∙ ap (λ z. number z i) whole
        ];
      }

-- as many columns with the same numbers
pub columns_as : (rows m n : ℕ) (f g : ℕ → ℕ → ℕ) (old new : List ℕ) → m ≡ n →
    ((j i : ℕ) → j < n → i < rows → f j i ≡ g j i) → HasColumns rows m f old new → HasColumns rows n g old new
columns_as rows m n f g old new same agree h = record {
  sized = h.sized ∙ ap (λ z. length old + z * rows) same;
  kept = h.kept;
  each = λ j i below inside. h.each j i (omega (arith, below, same)) inside ∙ agree j i below inside;
}

-- numbers that are appended one by one make one column
pub one_column : (n : ℕ) (f : ℕ → ℕ) (old new : List ℕ) → HasColumns 1 n (λ j i. f j) old new →
    HasColumns n 1 (λ j. f) old new
one_column n f old new h =
    let sized : length new ≡ length old + n * 1 = h.sized in
    record {
      sized = omega (arith, sized);
      kept = h.kept;
      each = λ j i below inside.
          let at : length old + (j * n + i) ≡ length old + (i * 1 + 0) = let first : j ≡ 0 = omega (arith, below) in
          ap (λ z. length old + (z * n + i)) first ∙ omega arith in
          ap (slice_index new) at ∙ h.each i 0 inside (omega arith);
    }

pub number_pushed : (n : ℕ) (f : ℕ → ℕ) (old now : List ℕ) (x : ℕ) → HasColumns 1 n (λ j i. f j) old now → x ≡ f n →
    HasColumns 1 (n + 1) (λ j i. f j) old (now ++ x ∷ [])
number_pushed n f old now x h x_is =
    column_pushed 1 (λ j i. f j) n old now (x ∷ []) h refl
    (λ i below. let bound : i < suc 0 = below in let first : i ≡ 0 = omega (arith, bound) in
    ap (slice_index (x ∷ [])) first ∙ x_is)

-- a column more: a monomial times the element w of degree a
pub multiple_pushed : (p r d a n dm : ℕ) (M : Graded) (m : List ℕ) (w x : ℕ → ℕ) (old mid new : List ℕ) → a ≤ d →
    m ≡ exponents 6 r (d - a) n → sum m ≡ d - a → dm ≡ a + sum m →
    ((i : ℕ) → i < M.dim (a + sum m) → x i ≡ M.act m a (a + sum m) w i % p) → HasColumns (M.dim dm) 1 (λ j. x) mid new →
    HasColumns (M.dim d) n (λ j i. M.act (exponents 6 r (d - a) j) a d w i % p) old mid →
    HasColumns (M.dim d) (n + 1) (λ j i. M.act (exponents 6 r (d - a) j) a d w i % p) old new
multiple_pushed p r d a n dm M m w x old mid new within m_is size dm_is x_is last h =
    let raised : a + sum m ≡ d = omega (arith, size, within) in
    let whole : dm ≡ d = dm_is ∙ raised in
    let numbers : (i : ℕ) → i < M.dim d → x i ≡ M.act m a d w i % p =
    subst (λ z. (i : ℕ) → i < M.dim z → x i ≡ M.act m a z w i % p) raised x_is in
    columns_joined (M.dim d) (λ j i. M.act (exponents 6 r (d - a) j) a d w i % p) n 1 old mid new h
    (columns_as (M.dim d) 1 1 (λ j. x) (λ j i. M.act (exponents 6 r (d - a) (n + j)) a d w i % p) mid new refl
    (λ j i below inside. let here : n ≡ n + j = omega (arith, below) in
    numbers i inside ∙ ap (λ z. M.act z a d w i % p) m_is
    ∙ ap (λ z. M.act (exponents 6 r (d - a) z) a d w i % p) here)
    (subst (λ z. HasColumns (M.dim z) 1 (λ j. x) mid new) whole last))

-- all monomials of the degree
pub multiples_whole : (r d a n rows : ℕ) (number : ℕ → ℕ → ℕ) (old new : List ℕ) → a ≤ d → n ≡ count r (d - a) →
    HasColumns rows n number old new → HasColumns rows ((moved a (polynomials r)).dim d) number old new
multiples_whole r d a n rows number old new within n_is h =
    columns_as rows n ((moved a (polynomials r)).dim d) number number old new
    (n_is ∙ sym (moved_dim (polynomials r) a d within ∙ polynomials_dim r (d - a))) (λ j i below inside. refl) h

pub multiples_absent : (r d a rows : ℕ) (number : ℕ → ℕ → ℕ) (old : List ℕ) → d < a →
    HasColumns rows ((moved a (polynomials r)).dim d) number old old
multiples_absent r d a rows number old before =
    columns_as rows 0 ((moved a (polynomials r)).dim d) number number old old
    (sym (moved_none (polynomials r) a d before)) (λ j i below inside. refl) (columns_none rows number old)

-- the columns of a linear extension, generator after generator
module _ (p r d : ℕ) (M : Graded) (gs : List ℕ) (ws : ℕ → ℕ → ℕ) where
  abbrev pub entry : ℕ → ℕ → ℕ
  entry j i = extension r M gs ws d (unit j) i % p

  pub extension_start : HasColumns (M.dim d) (start_of r gs d 0) entry [] []
  extension_start =
      columns_as (M.dim d) 0 (start_of r gs d 0) entry entry [] [] (sym (start_none r d gs)) (λ j i below inside. refl)
      (columns_none (M.dim d) entry [])

  pub extension_more : (h a : ℕ) (w : ℕ → ℕ) (mid new : List ℕ) → h < length gs → a ≡ get_or gs h 0 → w ≡ ws h →
      HasColumns (M.dim d) (start_of r gs d h) entry [] mid →
      HasColumns (M.dim d) ((moved a (polynomials r)).dim d) (λ j i. M.act (exponents 6 r (d - a) j) a d w i % p) mid
      new → HasColumns (M.dim d) (start_of r gs d (h + 1)) entry [] new
  extension_more h a w mid new inside a_is w_is so_far last =
      let next : start_of r gs d (h + 1) ≡ start_of r gs d h + (moved (get_or gs h 0) (polynomials r)).dim d =
      start_more r d h gs inside in
      let sizes : (moved a (polynomials r)).dim d ≡ (moved (get_or gs h 0) (polynomials r)).dim d =
      ap (λ z. (moved z (polynomials r)).dim d) a_is in
      columns_as (M.dim d) (start_of r gs d h + (moved (get_or gs h 0) (polynomials r)).dim d) (start_of r gs d (h + 1))
      entry entry [] new (sym next) (λ j i below within. refl)
      (columns_joined (M.dim d) entry (start_of r gs d h) ((moved (get_or gs h 0) (polynomials r)).dim d) [] mid new
      so_far
      (columns_as (M.dim d) ((moved a (polynomials r)).dim d) ((moved (get_or gs h 0) (polynomials r)).dim d)
      (λ j i. M.act (exponents 6 r (d - a) j) a d w i % p) (λ j. entry (start_of r gs d h + j)) mid new sizes
      (λ j i below within.
      let at = moved_within (get_or gs h 0) j below in
      ap₂ (λ z (v : ℕ → ℕ). M.act (exponents 6 r (d - z) j) z d v i % p) a_is w_is
      ∙ ap (λ z. z % p) (sym (extension_unit r M d gs ws h j i inside at.0 at.1))) last))
    where
      moved_within : (g j : ℕ) → j < (moved g (polynomials r)).dim d → (g ≤ d) × (j < count r (d - g))
      moved_within g j below = elim (cases_lt d g) [
        | inl before ↦ absurd (omega (arith, below, moved_none (polynomials r) g d before))
        | inr from ↦ (from, omega (arith, below, moved_dim (polynomials r) g d from, polynomials_dim r (d - g)))
      ]

  pub extension_whole : (n : ℕ) (new : List ℕ) → n ≤ length gs → length gs ≤ n →
      HasColumns (M.dim d) (start_of r gs d n) entry [] new → HasColumns (M.dim d) ((free r gs).dim d) entry [] new
  extension_whole n new within past h =
      let all : n ≡ length gs = omega arith in
      columns_as (M.dim d) (start_of r gs d n) ((free r gs).dim d) entry entry [] new
      (ap (start_of r gs d) all ∙ total_front (block_dim (polynomials r) d) gs ∙ sym (copies_dim (polynomials r) d gs))
      (λ j i below inside. refl) h
