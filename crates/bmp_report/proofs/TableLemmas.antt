-- The text of a table: the words of its coefficients, and that no coefficient is left out.
use Rattle.std.proofs.Common.{◌≡◌, ◌≢◌, ℕ, ◌+◌, ◌-◌, ◌<◌, ◌≤◌, ◌⊎◌, ◌==◌, false, refl, List, [], ◌∷◌, ◌++◌, append_assoc, codes, ℤ, pos, negsuc, arith, inl, inr}
use Rattle.std.specs.Int.RustNames.{unsigned_abs}
use Rattle.std.specs.Fmt.{decimal, signed_decimal}
use Rattle.std.proofs.lemmas.Bool.{cases_eq}
use Rattle.std.proofs.lemmas.Bool.Decides.{nat_tests}
use Rattle.std.proofs.lemmas.Int.{ints}
use Rattle.bmp_hecke.specs.Laurents.{Laurent}
use Rattle.bmp_kl.specs.Tables.{Bars, IsTable, IsTriangular}
use Rattle.bmp_kl.specs.KlTables.{count_of, sum_of, coefficient_of, IsNotDual}
use Rattle.bmp_kl.specs.declared.table.KlTable.{KlTable}
use Rattle.bmp_kl.specs.declared.not_dual.NotDual.{NotDual}
use Rattle.bmp_kl.proofs.TableLemmas.{table_span}
use Rattle.bmp_report.specs.TableText.{coefficient_words, not_dual_line, IsFirstUnequal, KlTextHasAll}
use Rattle.bmp_report.specs.FaultLines.{numbered_text}

-- ---- a coefficient

pub no_word : (e : ℕ) (c : ℤ) → c ≡ pos 0 → coefficient_words e c ≡ []
no_word e c none = rw none refl

pub one_word : (e : ℕ) (c : ℤ) → c ≢ pos 0 → coefficient_words e c ≡ (decimal e ++ (58 ∷ signed_decimal c)) ∷ []
one_word e c some =
    let off : (unsigned_abs c == 0) ≡ false = grind (arith, nat_tests, ints) in
    rw off refl

-- ---- the first equation that fails

joined : (out a b c d e f g h : List ℕ) → ((((out ++ a) ++ (b ++ c)) ++ (d ++ e)) ++ (f ++ g)) ++ h ≡
    out ++ (a ++ (b ++ (c ++ (d ++ (e ++ (f ++ (g ++ h)))))))
joined out a b c d e f g h = simp append_assoc

pub not_dual_printed : (out : List ℕ) (f : NotDual) (n : ℕ) (e l r : ℤ) → n ≡ f.x → e ≡ f.exponent → l ≡ f.left →
    r ≡ f.right → ((((out ++ numbered_text (codes "self-dual no vertex") n) ++ (codes " exponent " ++ signed_decimal e))
    ++ (codes " left " ++ signed_decimal l)) ++ (codes " right " ++ signed_decimal r)) ++ (10 ∷ [])
    ≡ out ++ not_dual_line f
not_dual_printed out f n e l r number exponent left right =
    rw (number, exponent, left, right)
    (joined out (numbered_text (codes "self-dual no vertex") f.x) (codes " exponent ") (signed_decimal f.exponent)
    (codes " left ") (signed_decimal f.left) (codes " right ") (signed_decimal f.right) (10 ∷ []))

pub first_unequal : (table : KlTable) (fault : NotDual) → IsNotDual table fault →
    IsFirstUnequal (count_of table) (coefficient_of table) (sum_of table) fault
first_unequal table fault first = record {
  vertex = first.vertex;
  left = first.left;
  right = first.right;
  differ = first.differ;
  greater = first.greater;
  lower = first.lower;
}

-- ---- no coefficient is left out

few_or_many : (k : ℕ) → (k < 37) ⊎ (37 ≤ k)
few_or_many k = grind arith

last_or_not : (x n : ℕ) → x < n → (x + 1 ≡ n) ⊎ (x + 1 < n)
last_or_not x n below = elim (cases_eq (x + 1) n) [ inl last ↦ inl last | inr other ↦ inr (omega arith) ]

module _ {n : ℕ} {level : ℕ → ℕ} {r : Bars} (triangle : IsTriangular n level r) (h q : ℕ → Laurent)
    (table : IsTable n r h q) where
  none_far : (x k : ℕ) → x < n → 37 ≤ k → h x (pos k) ≡ pos 0
  none_far x k below many =
      let few : level (n - 1) ≤ 36 = triangle.few (n - 1) (omega arith) in
      (table_span triangle 0 h q table n x (n - 1) (omega arith) (omega arith) (omega arith) below (pos k)
      (omega (arith, few, many))).0

  none_below : (x k : ℕ) → x < n → h x (negsuc k) ≡ pos 0
  none_below x k below = elim (last_or_not x n below) [
    | inl last ↦ table.greatest x (omega arith) last (negsuc k)
    | inr other ↦ table.others x (omega arith) other (negsuc k)
  ]

pub has_all : KlTextHasAll
has_all n level r h q triangle table x below (pos k) some = elim (few_or_many k) [
  | inl few ↦ (k, few, refl)
  | inr many ↦ absurd (some (none_far triangle h q table x k below many))
]
has_all n level r h q triangle table x below (negsuc k) some = absurd (some (none_below triangle h q table x k below))
