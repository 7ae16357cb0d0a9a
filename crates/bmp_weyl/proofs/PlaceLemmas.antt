-- Places of six by six entries, row by row, and loops that write them one after another.
use Rattle.std.proofs.Common.{◌≡◌, ℕ, ◌+◌, ◌*◌, ◌/◌, ◌%◌, ◌<◌, arith, sym, ap, ap₂, ◌∙◌, ℤ, pos, inl, inr, List, length, set, get_or, get_or-set_same, get_or-set_other}
use Rattle.std.proofs.lemmas.Bool.{cases_eq}
use Rattle.bmp_weyl.specs.Matrices.{cell}

pub row_of : (i j : ℕ) → j < 6 → (i * 6 + j) / 6 ≡ i
row_of i j l = omega arith

pub column_of : (i j : ℕ) → j < 6 → (i * 6 + j) % 6 ≡ j
column_of i j l = omega arith

pub place_is : (q : ℕ) → q / 6 * 6 + q % 6 ≡ q
place_is q = omega arith

-- what holds of each place holds of each row and column
pub cells_from_places : (f : ℕ → ℕ → ℤ) (entries : List ℤ) →
    ((q : ℕ) → q < 36 → get_or entries q (pos 0) ≡ f (q / 6) (q % 6))
    → (i j : ℕ) → i < 6 → j < 6 → cell entries i j ≡ f i j
cells_from_places f entries h i j li lj =
    h (i * 6 + j) (omega arith) ∙ ap₂ (λ a b. f a b) (row_of i j lj) (column_of i j lj)

-- one place more, after those before it
pub written : (entries : List ℤ) (n : ℕ) (v : ℤ) (f : ℕ → ℤ) → n < length entries →
    ((q : ℕ) → q < n → get_or entries q (pos 0) ≡ f q) → v ≡ f n
    → (q : ℕ) → q < n + 1 → get_or (set entries n v) q (pos 0) ≡ f q
written entries n v f l before e q h =
    elim (cases_eq q n) [
      | inl same ↦ ap (λ i. get_or (set entries n v) i (pos 0)) same ∙ get_or-set_same entries n v (pos 0) l ∙ e
          ∙ ap f (sym same)
      | inr apart ↦ get_or-set_other entries n q v (pos 0) apart ∙ before q (omega arith)
    ]

-- the place of row i and column j, after those before it
pub written_at : (f : ℕ → ℕ → ℤ) (entries : List ℤ) (i j : ℕ) (v : ℤ) → i < 6 → j < 6 → length entries ≡ 36
    → ((q : ℕ) → q < i * 6 + j → get_or entries q (pos 0) ≡ f (q / 6) (q % 6)) → v ≡ f i j
    → (q : ℕ) → q < i * 6 + (j + 1) → get_or (set entries (i * 6 + j) v) q (pos 0) ≡ f (q / 6) (q % 6)
written_at f entries i j v li lj long before e q h =
    written entries (i * 6 + j) v (λ p. f (p / 6) (p % 6)) (omega (arith, long)) before
    (e ∙ sym (ap₂ (λ a b. f a b) (row_of i j lj) (column_of i j lj))) q (omega arith)
