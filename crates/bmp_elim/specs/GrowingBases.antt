-- A basis that grows as rows come one at a time: of these some are chosen, and reduced rows are kept, one for each
-- of the chosen ones.
--   chosen_rows chosen old              the matrix of the chosen rows of old
--   IsRowCombination p a v              v is a combination of the rows of a
--   HasLeading a ps                     each row leads with a 1, at its place of ps, and is 0 at the places before it
--                                       in ps
--   IsGrown p old a t ps chosen count   reduced rows a with their trace t: each row of old is a combination of them
--   GrewFromSome p a t ps chosen count  some rows have this basis
--   IsKeptOrMore chosen count more      more is chosen, or chosen and then the number `count`
--   WritesRow p old chosen v x          x has the numbers by which the chosen rows combine to v
-- Of the code alone:
--   IsRemainder p n a t ps v w u        w is v and what of the first n rows makes it 0 at their places, and u says what
--                                       that is of the chosen ones
--   IsFirstPlace numbers j              j is the first place whose number isn't 0
--   IsMultiplied p c old new            each number times c, modulo p
--   IsNegated p n numbers v             v has the first n numbers, each times p - 1
--   IsPivotPushed p j w u a t new_a new_t   a remainder that leads at j is a row more
use Rattle.std.specs.Prelude.{◌≡◌, ◌≢◌, ℕ, ◌-◌, ◌*◌, ◌%◌, ◌<◌, ◌⊎◌, ◌==◌, if◌then◌else◌, List, [], ◌∷◌, ◌++◌, length, slice_index}
use Rattle.bmp_math.specs.Congruences.{SameMod}
use Rattle.bmp_math.specs.Vectors.{SameVector, plus}
use Rattle.bmp_math.specs.Matrices.{Matrix, NumbersBelow, combination}
use Rattle.bmp_linear.specs.declared.vector.Entry.{Entry}
use Rattle.bmp_linear.specs.SparseVectors.{FitsBelow, ValuesBelow, number_at}
use Rattle.bmp_linear.specs.RowChanges.{IsRowPushed}
use Rattle.bmp_elim.specs.Traces.{IsTrace}
use Rattle.bmp_elim.specs.Extensions.{AreChosen}
use Rattle.bmp_elim.specs.Triangles.{IsCornered}

abbrev pub chosen_rows : List ℕ → Matrix → Matrix
chosen_rows chosen old = record { rows = length chosen; cols = old.cols; entry = λ k. old.entry (slice_index chosen k) }

pub record IsRowCombination (p : ℕ) (a : Matrix) (v : ℕ → ℕ) : Type 0 where
  pub factors : ℕ → ℕ
  pub sums : SameVector p a.cols v (combination factors a.entry a.rows)

-- so no two places are equal, and no combination of the rows is 0 at all of them
pub record HasLeading (a : Matrix) (ps : List ℕ) : Type 0 where
  pub one_for_each : length ps ≡ a.rows
  pub below : (k : ℕ) → k < length ps → slice_index ps k < a.cols
  pub one : (k : ℕ) → k < length ps → a.entry k (slice_index ps k) ≡ 1
  pub zero_before : (k j : ℕ) → k < length ps → j < slice_index ps k → a.entry k j ≡ 0
  pub zero_earlier : (k l : ℕ) → k < length ps → l < k → a.entry k (slice_index ps l) ≡ 0

-- the trace t has a row and a column for each chosen row
pub record IsGrown (p : ℕ) (old a t : Matrix) (ps chosen : List ℕ) (count : ℕ) : Type 0 where
  pub as_many : old.rows ≡ count
  pub choice : AreChosen old chosen
  pub leading : HasLeading a ps
  pub trace : IsTrace p (chosen_rows chosen old) a t
  pub numbers : NumbersBelow p a
  pub trace_numbers : NumbersBelow p t
  pub written : (i : ℕ) → i < old.rows → IsRowCombination p a (old.entry i)

pub record GrewFromSome (p : ℕ) (a t : Matrix) (ps chosen : List ℕ) (count : ℕ) : Type 0 where
  pub old : Matrix
  pub grown : IsGrown p old a t ps chosen count

abbrev pub IsKeptOrMore : List ℕ → ℕ → List ℕ → Type 0
IsKeptOrMore chosen count more = (more ≡ chosen) ⊎ (more ≡ chosen ++ count ∷ [])

pub record WritesRow (p : ℕ) (old : Matrix) (chosen : List ℕ) (v : ℕ → ℕ) (x : List Entry) : Type 0 where
  pub fits : FitsBelow x (length chosen)
  pub below : ValuesBelow x p
  pub sums : SameVector p old.cols v (combination (number_at x) (chosen_rows chosen old).entry (length chosen))

-- v and a combination of the first n rows, which is 0 at their places, and what that combination is by the trace
pub record IsRemainder (p n : ℕ) (a t : Matrix) (ps : List ℕ) (v : ℕ → ℕ) (w u : List ℕ) : Type 0 where
  pub factors : ℕ → ℕ
  pub left : SameVector p a.cols (slice_index w) (plus v (combination factors a.entry n))
  pub factors_left : SameVector p t.cols (slice_index u) (combination factors t.entry n)
  pub zero : (k : ℕ) → k < n → slice_index w (slice_index ps k) ≡ 0
  pub below : (j : ℕ) → j < a.cols → slice_index w j < p
  pub trace_below : (j : ℕ) → j < t.cols → slice_index u j < p

pub record IsFirstPlace (numbers : List ℕ) (j : ℕ) : Type 0 where
  pub within : j < length numbers
  pub not_zero : slice_index numbers j ≢ 0
  pub zero_before : (k : ℕ) → k < j → slice_index numbers k ≡ 0

pub record IsMultiplied (p c : ℕ) (old new : List ℕ) : Type 0 where
  pub length_is : length new ≡ length old
  pub multiplied : (j : ℕ) → j < length old → slice_index new j ≡ (c * slice_index old j) % p

-- the remainder w, made 1 at the place j, and its factors u, with a 1 for itself
pub record IsPivotPushed (p j : ℕ) (w u : List ℕ) (a t new_a new_t : Matrix) : Type 0 where
  pub factor : ℕ
  pub inverse : SameMod p (slice_index w j * factor) 1
  pub row : IsRowPushed a new_a (λ i. (factor * slice_index w i) % p)
  pub trace_row : IsCornered t new_t (λ l. (factor * (if l == t.rows then 1 else slice_index u l)) % p)
  pub numbers : NumbersBelow p new_a
  pub trace_numbers : NumbersBelow p new_t

pub record IsNegated (p n : ℕ) (numbers : List ℕ) (v : List Entry) : Type 0 where
  pub fits : FitsBelow v n
  pub below : ValuesBelow v p
  pub negated : (j : ℕ) → j < n → SameMod p (number_at v j) ((p - 1) * slice_index numbers j)
