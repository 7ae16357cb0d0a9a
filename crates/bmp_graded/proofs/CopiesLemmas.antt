-- Copies of a module, one after another.
use Rattle.std.proofs.Common.{◌≡◌, ℕ, ◌+◌, ◌*◌, ◌-◌, ◌^◌, ◌<◌, ◌≤◌, cond, leb, ltb, List, [], ◌∷◌, length, refl, ap, ap₂, inl, inr, arith}
use Rattle.std.proofs.lemmas.Bool.{cases_lt, cond-true, cond-false, lt-leb, le-leb}
use Rattle.bmp_poly.specs.Exponents.{count}
use Rattle.bmp_poly.proofs.Scanning.{count_small}
use Rattle.bmp_graded.specs.Graded.{Graded}
use Rattle.bmp_graded.specs.Modules.{polynomials, moved, nothing, both, copies, free}
use Rattle.bmp_poly.specs.Forms.{Form}
use Rattle.bmp_graded.specs.Quotients.{reduced}
use Rattle.bmp_graded.specs.Maps.{blockwise}
use Rattle.bmp_graded.proofs.Totals.{total, total_small}

-- the dimension that a copy moved by g gives in degree d, and how m acts on it from degree d to degree t
abbrev pub block_dim : Graded → ℕ → ℕ → ℕ
block_dim X d g = (moved g X).dim d

abbrev pub block_act : Graded → List ℕ → ℕ → ℕ → ℕ → (ℕ → ℕ) → ℕ → ℕ
block_act X m d t g = (moved g X).act m d t

pub copies_dim : (X : Graded) (d : ℕ) (gs : List ℕ) → (copies X gs).dim d ≡ total (block_dim X d) gs
unfolding copies both nothing total
copies_dim X d [] = refl
copies_dim X d (g ∷ gs) = ap (λ z. (moved g X).dim d + z) (copies_dim X d gs)

-- a monomial acts block by block
pub copies_act : (X : Graded) (m : List ℕ) (d t : ℕ) (gs : List ℕ) (v : ℕ → ℕ) (i : ℕ) →
    (copies X gs).act m d t v i ≡ blockwise (block_dim X d) (block_dim X t) (block_act X m d t) gs v i
unfolding copies both nothing blockwise
copies_act X m d t [] v i = refl
copies_act X m d t (g ∷ gs) v i =
    ap (λ z. cond (ltb i ((moved g X).dim t)) ((moved g X).act m d t v i) z)
    (copies_act X m d t gs (λ j. v ((moved g X).dim d + j)) (i - (moved g X).dim t))

pub moved_dim : (X : Graded) (g d : ℕ) → g ≤ d → (moved g X).dim d ≡ X.dim (d - g)
unfolding moved
moved_dim X g d le = cond-true {A = ℕ} (leb g d) (X.dim (d - g)) 0 (le-leb g d le)

pub moved_none : (X : Graded) (g d : ℕ) → d < g → (moved g X).dim d ≡ 0
unfolding moved
moved_none X g d more = cond-false {A = ℕ} (leb g d) (X.dim (d - g)) 0 (lt-leb g d more)

pub polynomials_dim : (r d : ℕ) → (polynomials r).dim d ≡ count r d
unfolding polynomials
polynomials_dim r d = refl

block_small : (r d g : ℕ) → r ≤ 6 → d ≤ 6 → (moved g (polynomials r)).dim d ≤ 462
block_small r d g wide small = elim (cases_lt d g) [
  | inl before ↦ omega (arith, moved_none (polynomials r) g d before)
  | inr from ↦ omega (
    arith,
    moved_dim (polynomials r) g d from,
    polynomials_dim r (d - g),
    count_small r (d - g) wide (omega arith),
  )
]

pub free_at_most : (r d : ℕ) (gs : List ℕ) → r ≤ 6 → d ≤ 6 → (free r gs).dim d ≤ 462 * length gs
free_at_most r d gs wide small =
    omega (
      arith,
      copies_dim (polynomials r) d gs,
      total_small (block_dim (polynomials r) d) 462 gs (λ g. block_small r d g wide small),
    )

pub free_small : (r d : ℕ) (gs : List ℕ) → r ≤ 6 → d ≤ 6 → length gs < 2 ^ 32 → (free r gs).dim d < 2 ^ 64
free_small r d gs wide small few = omega (arith, free_at_most r d gs wide small)

-- below its generator a moved module has no multiples
pub moved_act_none : (X : Graded) (g d t i : ℕ) (m : List ℕ) (v : ℕ → ℕ) → d < g → (moved g X).act m d t v i ≡ 0
unfolding moved
moved_act_none X g d t i m v before = cond-false {A = ℕ} (leb g d) (X.act m (d - g) (t - g) v i) 0 (lt-leb g d before)

pub moved_act_from : (X : Graded) (g d t i : ℕ) (m : List ℕ) (v : ℕ → ℕ) → g ≤ d →
    (moved g X).act m d t v i ≡ X.act m (d - g) (t - g) v i
unfolding moved
moved_act_from X g d t i m v from = cond-true {A = ℕ} (leb g d) (X.act m (d - g) (t - g) v i) 0 (le-leb g d from)

-- modulo a linear form there are the coordinates of one variable fewer
pub reduced_block : (r l g d : ℕ) (normal : ℕ → Form → Form) →
    (moved g (polynomials r)).dim d ≡ (moved g (reduced r l normal)).dim d
unfolding moved polynomials reduced
reduced_block r l g d normal = refl

pub quotient_dim : (r l d : ℕ) (normal : ℕ → Form → Form) (gs : List ℕ) →
    (free r gs).dim d ≡ (copies (reduced r l normal) gs).dim d
unfolding copies both nothing
quotient_dim r l d normal [] = refl
quotient_dim r l d normal (g ∷ gs) = ap₂ (λ a b. a + b) (reduced_block r l g d normal) (quotient_dim r l d normal gs)

pub quotient_small : (r l d : ℕ) (normal : ℕ → Form → Form) (gs : List ℕ) → r ≤ 6 → d ≤ 6 → length gs < 2 ^ 32 →
    (copies (reduced r l normal) gs).dim d < 2 ^ 64
quotient_small r l d normal gs wide small few =
    omega (arith, quotient_dim r l d normal gs, free_small r d gs wide small few)
