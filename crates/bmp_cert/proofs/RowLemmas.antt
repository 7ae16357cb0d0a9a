-- The rows of a matrix and the list of its entries: cut and joined again.
--   IsRow width zs          a row of so many entries
--   AreRowLists rank rows   as many rows of as many entries
--   AreRows rank zs         the list is that of its rows
use Rattle.std.proofs.Common.{◌≡◌, ℕ, ℤ, pos, negsuc, zero, suc, ◌+◌, ◌*◌, ◌≤◌, List, [], ◌∷◌, ◌++◌, length, take, drop, refl, sym, ap, ap₂, subst, ◌∙◌, append_assoc, arith}
use Rattle.std.specs.Prelude.{All}
use Rattle.std.proofs.lemmas.List.{append-nil, take_at, drop_at, length-append, length-drop, length-take-le, take-append-drop}
use Rattle.std.proofs.lemmas.List.Elements.{All-nil, All-cons, All-head, All-tail, All-append, All-take, All-drop}
use Rattle.bmp_text.specs.Numerals.{InRange}
use Rattle.bmp_text.specs.Readers.{fold_onto, same}
use Rattle.bmp_text.specs.Printing.{ChainFits}
use Rattle.bmp_cert.specs.JobGrammar.{with_row, cut_rows, AreEntries}

abbrev pub IsRow : ℕ → List ℤ → Type 0
IsRow width zs = (length zs ≡ width) × ChainFits (λ (s : Unit {0}). InRange (negsuc 999) (pos 1000)) same tt zs

abbrev pub AreRowLists : ℕ → List (List ℤ) → Type 0
AreRowLists rank rows = (length rows ≡ rank) × ChainFits (λ (s : Unit {0}). IsRow rank) same tt rows

abbrev pub AreRows : ℕ → List ℤ → Type 0
AreRows rank zs = AreRowLists rank (cut_rows rank rank zs) × (zs ≡ fold_onto with_row [] (cut_rows rank rank zs))

-- ---- items that are all alike

pub all_from_chain : {A : Type 0} (P : A → Type 0) (xs : List A) → ChainFits (λ (s : Unit {0}). P) same tt xs → All P xs
all_from_chain P [] h = All-nil P
all_from_chain P (x ∷ xs) h = All-cons P x xs h.0 (all_from_chain P xs h.1)

pub chain_from_all : {A : Type 0} (P : A → Type 0) (xs : List A) → All P xs → ChainFits (λ (s : Unit {0}). P) same tt xs
chain_from_all P [] h = tt
chain_from_all P (x ∷ xs) h = (All-head P x xs h, chain_from_all P xs (All-tail P x xs h))

-- ---- rows cut and joined

joined_front : (front : List ℤ) (rows : List (List ℤ)) →
    fold_onto with_row front rows ≡ front ++ fold_onto with_row [] rows
joined_front front [] = sym (append-nil front)
joined_front front (r ∷ rs) =
    joined_front (front ++ r) rs
    ∙ (append_assoc front r (fold_onto with_row [] rs) ∙ ap (λ (t : List ℤ). front ++ t) (sym (joined_front r rs)))

pub cut_rows_again : (width : ℕ) (rows : List (List ℤ)) → ChainFits (λ (s : Unit {0}). IsRow width) same tt rows →
    cut_rows (length rows) width (fold_onto with_row [] rows) ≡ rows
cut_rows_again width [] h = refl
cut_rows_again width (r ∷ rs) h =
    ap (cut_rows (suc (length rs)) width) (joined_front r rs)
    ∙ ap₂ (λ (x : List ℤ) (y : List (List ℤ)). x ∷ y) (take_at r (fold_onto with_row [] rs) width h.0.0)
    (ap (cut_rows (length rs) width) (drop_at r (fold_onto with_row [] rs) width h.0.0)
    ∙ cut_rows_again width rs h.1)

rows_length : (width : ℕ) (rows : List (List ℤ)) → ChainFits (λ (s : Unit {0}). IsRow width) same tt rows →
    length (fold_onto with_row [] rows) ≡ length rows * width
rows_length width [] h = grind arith
rows_length width (r ∷ rs) h =
    let a : length (fold_onto with_row r rs) ≡ length (r ++ fold_onto with_row [] rs) = ap length (joined_front r rs) in
    let b = length-append r (fold_onto with_row [] rs) in
    let d = rows_length width rs h.1 in
    let f = h.0.0 in
    grind (arith, a, b, d, f)

job_square : (rank : ℕ) (zs : List ℤ) → AreRows rank zs → length zs ≡ rank * rank
job_square rank zs h = ap length h.1 ∙ (rows_length rank (cut_rows rank rank zs) h.0.1 ∙ ap (λ (n : ℕ). n * rank) h.0.0)

abbrev IsEntry : ℤ → Type 0
IsEntry z = InRange (negsuc 999) (pos 1000) z

rows_all : (width : ℕ) (rows : List (List ℤ)) → ChainFits (λ (s : Unit {0}). IsRow width) same tt rows →
    All IsEntry (fold_onto with_row [] rows)
rows_all width [] h = All-nil IsEntry
rows_all width (r ∷ rs) h =
    subst (All IsEntry) (sym (joined_front r rs))
    (All-append IsEntry r (fold_onto with_row [] rs) (all_from_chain IsEntry r h.0.1) (rows_all width rs h.1))

rows_of : (n width : ℕ) (zs : List ℤ) → length zs ≡ n * width → All IsEntry zs → (length (cut_rows n width zs) ≡ n) ×
    ChainFits (λ (s : Unit {0}). IsRow width) same tt (cut_rows n width zs) ×
    (zs ≡ fold_onto with_row [] (cut_rows n width zs))
rows_of zero width [] len h = (refl, tt, refl)
rows_of zero width (z ∷ zs) len h = let none : 0 * width ≡ 0 = grind arith in absurd (omega (arith, len, none))
rows_of (suc n) width zs len h =
    let one : suc n * width ≡ width + n * width = grind arith in
    let le : width ≤ length zs = omega (arith, len, one) in
    let rest : length (drop width zs) ≡ n * width = omega (arith, length-drop width zs, len, one) in
    let p = rows_of n width (drop width zs) rest (All-drop IsEntry width zs h) in (
      ap suc p.0,
      ((length-take-le width zs le, chain_from_all IsEntry (take width zs) (All-take IsEntry width zs h)), p.1),
      sym (take-append-drop width zs)
          ∙ (ap (λ (t : List ℤ). take width zs ++ t) p.2
          ∙ sym (joined_front (take width zs) (cut_rows n width (drop width zs)))),
    )

pub entries_from_rows : (rank : ℕ) (zs : List ℤ) → AreRows rank zs → AreEntries rank zs
entries_from_rows rank zs h =
    (job_square rank zs h, subst (All IsEntry) (sym h.1) (rows_all rank (cut_rows rank rank zs) h.0.1))

pub rows_from_entries : (rank : ℕ) (zs : List ℤ) → AreEntries rank zs → AreRows rank zs
rows_from_entries rank zs h = let p = rows_of rank rank zs h.0 h.1 in ((p.0, p.1), p.2)
