-- Rows of words one after another in one run: what stands where, and what changes of rows keep.
use Rattle.std.proofs.Common.{◌≡◌, ◌≢◌, ℕ, ◌+◌, ◌*◌, ◌/◌, ◌%◌, ◌<◌, ◌≤◌, ◌^◌, ◌-◌, ◌++◌, List, length, get_or, take, drop, replicate, take_all, length-append, bit_and, subst, refl, ap, ap₂, sym, ◌∙◌, inl, inr, arith}
use Rattle.std.specs.Int.{bit_at}
use Rattle.std.proofs.lemmas.Bool.{cases_eq}
use Rattle.std.proofs.lemmas.Nat.Bits.{shr_and_one}
use Rattle.std.proofs.Math.Seq.{take-append_seam}
use Rattle.std.proofs.lemmas.Nat.{mul-add-lt}
use Rattle.std.proofs.lemmas.Grind.{get_or_default_zero}
use Rattle.std.proofs.lemmas.List.{drop_all, append-nil, length-drop, get_or-append-add, get_or_append_left}
use Rattle.bmp_linear.specs.RowChanges.{IsRowPushed, IsRowAdded, AreRowsExchanged}
use Rattle.bmp_linear.specs.Runs.{IsOutside, AreRunsExchanged}
use Rattle.bmp_linear.proofs.RunRowLemmas.{rows_apart}
use Rattle.bmp_packed.specs.Words.{width_of, HasRowBits, IsRowAppended, IsWordRunAdded}
use Rattle.bmp_packed.specs.WordTables.{WordTable, HasNoBitsPast, matrix_of_words, row_bit}

-- a column's word is one of the row's
pub word_within : (cols j : ℕ) → j < cols → j / 64 < width_of cols
word_within cols j l = omega arith

-- the words of another row are outside
outside : (i r k width : ℕ) → k < width → i ≢ r → IsOutside (r * width) width (i * width + k)
outside i r k width l other =
    elim (rows_apart i r width other) [
      | inl before ↦ inl (omega arith)
      | inr later ↦ inr (omega arith)
    ]

-- the bit that is read
pub bit_read : (t : WordTable) (rows cols : ℕ) (words : List ℕ) (i j width word : ℕ) →
    record { rows = rows; cols = cols; words = words } ≡ t → length words ≡ rows * width_of cols → i < rows → j < cols →
    width ≡ width_of cols → word ≡ get_or words (i * width + j / 64) word →
    bit_and (word / 2 ^ (j % 64)) 1 ≡ row_bit t i j
bit_read t rows cols words i j width word seen full l m is_width is_word =
    let place : i * width_of cols + j / 64 < width_of cols * rows =
    mul-add-lt i (width_of cols) (j / 64) rows l (word_within cols j m) in
    let within : i * width_of cols + j / 64 < length words = omega (arith, place, full) in
    let read : word ≡ get_or words (i * width_of cols + j / 64) 0 =
    is_word ∙ ap (λ n. get_or words (i * n + j / 64) word) is_width
    ∙ get_or_default_zero words (i * width_of cols + j / 64) word within in
    shr_and_one word (j % 64) ∙ ap (λ w. bit_at w (j % 64)) read ∙ ap (λ u. row_bit u i j) seen

-- words that stand in place of zeros behind the old ones
pub words_behind : (old zeros new kept : List ℕ) (n start width : ℕ) → start ≡ length old → n ≡ start + width →
    zeros ≡ take n old ++ replicate (n - start) 0 → length new ≡ width →
    kept ≡ take start zeros ++ (new ++ drop (length zeros - start) (drop start zeros)) → kept ≡ old ++ new
words_behind old zeros new kept n start width is_start is_n is_zeros sized is_kept =
    let all : take n old ≡ old = take_all n old (omega arith) in
    let whole : zeros ≡ old ++ replicate (n - start) 0 = is_zeros ∙ ap (λ xs. xs ++ replicate (n - start) 0) all in
    let first : take start zeros ≡ old = ap₂ (λ k xs. take k xs) is_start whole
    ∙ take-append_seam old (replicate (n - start) 0) in
    let rest : length (drop start zeros) ≤ length zeros - start = omega (arith, length-drop start zeros) in
    is_kept ∙ ap₂ (λ xs ys. xs ++ (new ++ ys)) first (drop_all (length zeros - start) (drop start zeros) rest)
    ∙ ap (λ ys. old ++ ys) (append-nil new)

-- the words behind are the new last row
module _ (rows cols : ℕ) (old new : List ℕ) (row : ℕ → ℕ) (full : length old ≡ rows * width_of cols)
    (sized : length new ≡ width_of cols) (bits : HasRowBits row new)
  where
    abbrev joined : WordTable
    joined = record { rows = rows + 1; cols = cols; words = old ++ new }

    last_bit : (j : ℕ) → j < 64 * width_of cols → row_bit joined rows j ≡ row j
    last_bit j l =
        let within : j < 64 * length new = omega arith in
        ap (λ n. bit_at (get_or (old ++ new) (n + j / 64) 0) (j % 64)) (sym full)
        ∙ ap (λ w. bit_at w (j % 64)) (get_or-append-add old new (j / 64) 0)
        ∙ bits j within

    other_bit : (i j : ℕ) → i < rows → j < 64 * width_of cols →
        row_bit joined i j ≡ row_bit (record { rows = rows; cols = cols; words = old }) i j
    other_bit i j l m =
        let word : j / 64 < width_of cols = omega arith in
        let place : i * width_of cols + j / 64 < width_of cols * rows =
        mul-add-lt i (width_of cols) (j / 64) rows l word in
        let within : i * width_of cols + j / 64 < length old = omega (arith, place, full) in
        ap (λ w. bit_at w (j % 64)) (get_or_append_left old new 0 (i * width_of cols + j / 64) within)

    row_joined : IsRowPushed (matrix_of_words (record { rows = rows; cols = cols; words = old }))
        (matrix_of_words (record { rows = rows + 1; cols = cols; words = old ++ new })) row
    row_joined = record {
      rows = refl;
      cols = refl;
      pushed = λ j l. last_bit j (omega arith);
      others = λ i j k l. other_bit i j k (omega arith);
    }

    joined_masked : HasNoBitsPast (record { rows = rows; cols = cols; words = old }) →
        ((j : ℕ) → cols ≤ j → row j ≡ 0) →
        HasNoBitsPast (record { rows = rows + 1; cols = cols; words = old ++ new })
    joined_masked masked none i j l past within =
        elim (cases_eq i rows) [
          | inl here ↦ ap (λ r. row_bit joined r j) here ∙ last_bit j within ∙ none j past
          | inr other ↦ let earlier : i < rows = omega arith in
              other_bit i j earlier within ∙ masked i j earlier past within
        ]

-- in memory
module _ (rows cols : ℕ) (old kept : List ℕ) (row : ℕ → ℕ) (full : length old ≡ rows * width_of cols)
    (appended : IsRowAppended row cols old kept)
  where
    pub full-pushed : length kept ≡ (rows + 1) * width_of cols
    full-pushed = ap length appended.joined ∙ length-append old appended.words ∙ omega (arith, full, appended.width)

    pub row_pushed : (t : WordTable) → record { rows = rows; cols = cols; words = old } ≡ t →
        IsRowPushed (matrix_of_words t) (matrix_of_words (record { rows = rows + 1; cols = cols; words = kept })) row
    row_pushed t seen =
        subst (λ list. IsRowPushed (matrix_of_words t)
        (matrix_of_words (record { rows = rows + 1; cols = cols; words = list })) row) (sym appended.joined)
        (subst (λ u. IsRowPushed (matrix_of_words u)
        (matrix_of_words (record { rows = rows + 1; cols = cols; words = old ++ appended.words })) row) seen
        (row_joined rows cols old appended.words row full appended.width appended.bits))

    pub still_masked-pushed : HasNoBitsPast (record { rows = rows; cols = cols; words = old }) →
        HasNoBitsPast (record { rows = rows + 1; cols = cols; words = kept })
    still_masked-pushed masked =
        subst (λ list. HasNoBitsPast (record { rows = rows + 1; cols = cols; words = list })) (sym appended.joined)
        (joined_masked rows cols old appended.words row full appended.width appended.bits masked appended.past)

module _ (rows cols : ℕ) (old new : List ℕ) where
  abbrev before : WordTable
  before = record { rows = rows; cols = cols; words = old }

  abbrev after : WordTable
  after = record { rows = rows; cols = cols; words = new }

  abbrev width : ℕ
  width = width_of cols

  row_added : (into from c : ℕ) → c ≡ 1 → IsWordRunAdded (into * width) (from * width) width old new →
      IsRowAdded 2 (matrix_of_words before) (matrix_of_words after) into from c
  row_added into from c one run = record {
    rows = refl;
    cols = refl;
    added = λ j l.
        let same : row_bit before from j ≡ c * row_bit before from j =
        omega (arith, ap (λ f. f * row_bit before from j) one) in
        run.added (j / 64) (j % 64) (word_within cols j l) ∙ ap (λ y. (row_bit before into j + y) % 2) same;
    others = λ i j l k other. ap (λ w. bit_at w (j % 64))
        (run.others (i * width + j / 64) (outside i into (j / 64) width (word_within cols j k) other));
  }

  added_masked : (into from : ℕ) → into < rows → from < rows → HasNoBitsPast before →
      IsWordRunAdded (into * width) (from * width) width old new → HasNoBitsPast after
  added_masked into from l m masked run i j k past within =
      let word : j / 64 < width = omega arith in
      elim (cases_eq i into) [
        | inl here ↦
            ap (λ r. row_bit after r j) here ∙ run.added (j / 64) (j % 64) word
            ∙ ap₂ (λ x y. (x + y) % 2) (masked into j l past within) (masked from j m past within)
        | inr other ↦
            ap (λ w. bit_at w (j % 64)) (run.others (i * width + j / 64) (outside i into (j / 64) width word other))
            ∙ masked i j k past within
      ]

  rows_exchanged : (first second : ℕ) → AreRunsExchanged (first * width) (second * width) width old new →
      AreRowsExchanged (matrix_of_words before) (matrix_of_words after) first second
  rows_exchanged first second run = record {
    rows = refl;
    cols = refl;
    at_first = λ j l. ap (λ w. bit_at w (j % 64)) (run.at_first (j / 64) (word_within cols j l));
    at_second = λ j l. ap (λ w. bit_at w (j % 64)) (run.at_second (j / 64) (word_within cols j l));
    others = λ i j l k other_first other_second. ap (λ w. bit_at w (j % 64))
        (run.others (i * width + j / 64) (outside i first (j / 64) width (word_within cols j k) other_first)
        (outside i second (j / 64) width (word_within cols j k) other_second));
  }

  exchanged_masked : (first second : ℕ) → first < rows → second < rows → HasNoBitsPast before →
      AreRunsExchanged (first * width) (second * width) width old new → HasNoBitsPast after
  exchanged_masked first second l m masked run i j k past within =
      let word : j / 64 < width = omega arith in
      elim (cases_eq i first) [
        | inl here ↦
            ap (λ r. row_bit after r j) here ∙ ap (λ w. bit_at w (j % 64)) (run.at_first (j / 64) word)
            ∙ masked second j m past within
        | inr other ↦ elim (cases_eq i second) [
          | inl here ↦
              ap (λ r. row_bit after r j) here ∙ ap (λ w. bit_at w (j % 64)) (run.at_second (j / 64) word)
              ∙ masked first j l past within
          | inr apart ↦
              ap (λ w. bit_at w (j % 64))
              (run.others (i * width + j / 64) (outside i first (j / 64) width word other)
              (outside i second (j / 64) width word apart))
              ∙ masked i j k past within
        ]
      ]

-- a table with the words `old`, and the one with the words `new`
module _ (t : WordTable) (rows cols : ℕ) (words old new kept : List ℕ)
    (seen : record { rows = rows; cols = cols; words = words } ≡ t) (same : old ≡ words) (is_kept : kept ≡ new)
  where
    abbrev now : WordTable
    now = record { rows = rows; cols = cols; words = kept }

    -- what holds of the two lists holds of the two tables
    of_tables : (P : WordTable → WordTable → Type 0) → P (record { rows = rows; cols = cols; words = old })
        (record { rows = rows; cols = cols; words = new }) → P t now
    of_tables P h =
        let before : record { rows = rows; cols = cols; words = old } ≡ t =
        ap (λ list. record { rows = rows; cols = cols; words = list }) same ∙ seen in
        subst (λ list. P t (record { rows = rows; cols = cols; words = list })) (sym is_kept)
        (subst (λ u. P u (record { rows = rows; cols = cols; words = new })) before h)

    pub run_added : (into from c : ℕ) → c ≡ 1 →
        IsWordRunAdded (into * width_of cols) (from * width_of cols) (width_of cols) old new →
        IsRowAdded 2 (matrix_of_words t) (matrix_of_words (record { rows = rows; cols = cols; words = kept })) into from
        c
    run_added into from c one run =
        of_tables (λ a b. IsRowAdded 2 (matrix_of_words a) (matrix_of_words b) into from c)
        (row_added rows cols old new into from c one run)

    pub runs_exchanged : (first second : ℕ) →
        AreRunsExchanged (first * width_of cols) (second * width_of cols) (width_of cols) old new →
        AreRowsExchanged (matrix_of_words t) (matrix_of_words (record { rows = rows; cols = cols; words = kept })) first
        second
    runs_exchanged first second run =
        of_tables (λ a b. AreRowsExchanged (matrix_of_words a) (matrix_of_words b) first second)
        (rows_exchanged rows cols old new first second run)

-- the same lists in memory
module _ (rows cols : ℕ) (words old new kept : List ℕ) (same : old ≡ words) (is_kept : kept ≡ new)
    (masked : HasNoBitsPast (record { rows = rows; cols = cols; words = words }))
  where
    first_masked : HasNoBitsPast (record { rows = rows; cols = cols; words = old })
    first_masked = subst (λ list. HasNoBitsPast (record { rows = rows; cols = cols; words = list })) (sym same) masked

    abbrev kept_masked : HasNoBitsPast (record { rows = rows; cols = cols; words = new }) →
        HasNoBitsPast (record { rows = rows; cols = cols; words = kept })
    kept_masked = subst (λ list. HasNoBitsPast (record { rows = rows; cols = cols; words = list })) (sym is_kept)

    pub still_masked-added : (into from : ℕ) → into < rows → from < rows →
        IsWordRunAdded (into * width_of cols) (from * width_of cols) (width_of cols) old new →
        HasNoBitsPast (record { rows = rows; cols = cols; words = kept })
    still_masked-added into from l m run = kept_masked (added_masked rows cols old new into from l m first_masked run)

    pub still_masked-exchanged : (first second : ℕ) → first < rows → second < rows →
        AreRunsExchanged (first * width_of cols) (second * width_of cols) (width_of cols) old new →
        HasNoBitsPast (record { rows = rows; cols = cols; words = kept })
    still_masked-exchanged first second l m run =
        kept_masked (exchanged_masked rows cols old new first second l m first_masked run)
