-- The text of a Kazhdan-Lusztig table of n vertices: for each vertex x the coefficients of h_x, and whether the table
-- is self-dual, that is, whether the sum q_x is h_x less its bar at each vertex but the greatest.
--   coefficient_words e c        `e:c` for the coefficient c at the exponent e; no word where it is 0
--   kl_line h x                  `kl x` and the coefficients of h_x that aren't 0, by rising exponent
--   kl_lines n h                 the lines of all vertices
--   not_dual_line fault          `self-dual no vertex x exponent e left l right r`
--   IsFirstUnequal n h q fault   the fault is the first equation that fails: the vertex falling, the exponent rising
--   IsDualLine n h q line        the line is `self-dual yes` where no equation fails, else that of the first that does
--   IsKlText n h q text          the text is the lines of all vertices and the line of self-duality
--   limit_line x                 `table limit vertex x`: a coefficient of h_x passes the limit
--   KlTextHasAll                 no table of an interval has a coefficient at another exponent than 0 to 36
use Rattle.std.specs.Prelude.{◌≡◌, ◌≢◌, ℕ, ◌+◌, ◌<◌, ◌==◌, if◌then◌else◌, ◌⊎◌, List, [], ◌∷◌, ◌++◌, codes, ℤ, pos, ◌-ℤ◌, ◌<ℤ◌}
use Rattle.std.specs.Fmt.{decimal, signed_decimal}
use Rattle.std.specs.Int.RustNames.{unsigned_abs}
use Rattle.bmp_text.specs.Printing.{line_text, range_text}
use Rattle.bmp_hecke.specs.Laurents.{Laurent, flip}
use Rattle.bmp_kl.specs.Tables.{Bars, IsTable, IsSelfDual, IsTriangular}
use Rattle.bmp_kl.specs.declared.not_dual.NotDual.{NotDual}
use Rattle.bmp_report.specs.FaultLines.{numbered_text}

-- ---- coefficients

abbrev pub coefficient_words : ℕ → ℤ → List (List ℕ)
coefficient_words e c = if unsigned_abs c == 0 then [] else (decimal e ++ (58 ∷ signed_decimal c)) ∷ []

-- the exponents are those from 0 to 36
unfoldable pub polynomial_words : Laurent → List (List ℕ)
polynomial_words f = range_text (λ e. coefficient_words e (f (pos e))) 0 37

abbrev pub kl_line : (ℕ → Laurent) → ℕ → List ℕ
kl_line h x = line_text (codes "kl") (decimal x ∷ polynomial_words (h x))

abbrev pub kl_lines : ℕ → (ℕ → Laurent) → List ℕ
kl_lines n h = range_text (kl_line h) 0 n

abbrev pub KlTextHasAll : Type 0
KlTextHasAll = (n : ℕ) (level : ℕ → ℕ) (r : Bars) (h q : ℕ → Laurent) → IsTriangular n level r → IsTable n r h q
    → (x : ℕ) → x < n → (e : ℤ) → h x e ≢ pos 0 → (k : ℕ) × (k < 37) × (e ≡ pos k)

-- ---- whether the table is self-dual

abbrev pub not_dual_line : NotDual → List ℕ
not_dual_line f = numbered_text (codes "self-dual no vertex") f.x ++ (codes " exponent " ++ (signed_decimal f.exponent
    ++ (codes " left " ++ (signed_decimal f.left ++ (codes " right " ++ (signed_decimal f.right ++ (10 ∷ [])))))))

pub record IsFirstUnequal (n : ℕ) (h q : ℕ → Laurent) (fault : NotDual) : Type 0 where
  pub vertex : fault.x + 1 < n
  pub left : fault.left ≡ q fault.x fault.exponent
  pub right : fault.right ≡ h fault.x fault.exponent -ℤ flip (h fault.x) fault.exponent
  pub differ : fault.left ≢ fault.right
  pub greater : (y : ℕ) (e : ℤ) → fault.x < y → y + 1 < n → q y e ≡ h y e -ℤ flip (h y) e
  pub lower : (e : ℤ) → e <ℤ fault.exponent → q fault.x e ≡ h fault.x e -ℤ flip (h fault.x) e

abbrev pub IsDualLine : ℕ → (ℕ → Laurent) → (ℕ → Laurent) → List ℕ → Type 0
IsDualLine n h q line = (IsSelfDual n h q × (line ≡ codes "self-dual yes\n"))
    ⊎ ((fault : NotDual) × IsFirstUnequal n h q fault × (line ≡ not_dual_line fault))

-- ---- the texts

abbrev pub IsKlText : ℕ → (ℕ → Laurent) → (ℕ → Laurent) → List ℕ → Type 0
IsKlText n h q text = (line : List ℕ) × IsDualLine n h q line × (text ≡ kl_lines n h ++ line)

abbrev pub limit_line : ℕ → List ℕ
limit_line x = numbered_text (codes "table limit vertex") x ++ (10 ∷ [])
