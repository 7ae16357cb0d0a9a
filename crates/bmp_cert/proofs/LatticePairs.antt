-- The line of a lattice as a pair of a reader and a printed form.
use Rattle.std.proofs.Common.{◌≡◌, ℕ, zero, suc, ◌++◌, ◌==◌, Bool, true, false, cond, List, [], Result, Ok, refl, sym, ap, subst, ◌∙◌, arith, rules, codes}
use Rattle.std.specs.List.{AllByRecursion}
use Rattle.std.proofs.lemmas.List.{append-nil}
use Rattle.bmp_text.specs.declared.fault.TextFault.{TextFault}
use Rattle.bmp_text.specs.Cursor.{Cursor}
use Rattle.bmp_text.specs.Printing.{single_text}
use Rattle.bmp_text.specs.Readers.{give}
use Rattle.bmp_text.proofs.LinePairs.{IsAny, IsFrom, single_pair}
use Rattle.bmp_text.proofs.Pairs.{Pair, give_pair, after_pair}
use Rattle.bmp_cert.specs.LatticeGrammar.{has_line, lattice_of, lattice_number, lattice_line, lattice_if, lattice_text}
use Rattle.bmp_cert.specs.declared.lattice.Lattice.{Lattice}
use Rattle.bmp_cert.specs.declared.lattice.Lattice.TheVariants.{Plain, Root, Weight}

-- the same reader, with other words for what fits, and another printed form, which may differ where nothing fits
pub pair_where : {A : Type 0} (step : Cursor ℕ → Result (A × Cursor ℕ) TextFault) (text new : A → List ℕ)
    (fits holds : A → Type 0) → ((x : A) → fits x → text x ≡ new x)
    → ((x : A) → fits x → holds x) → ((x : A) → holds x → fits x) → Pair IsAny step text fits →
    Pair IsAny step new holds
pair_where step text new fits holds same to from one = record {
  takes = λ c x d e. let p = one.takes c x d e in (to x p.0, p.1 ∙ ap (λ (t : List ℕ). t ++ d.rest) (same x p.0));
  again = λ x n r h. let p = one.again x n r (from x h) in
      (p.0, ap (λ (t : List ℕ). step (record { place = n; rest = t ++ r })) (sym (same x (from x h))) ∙ p.1);
  plain = λ x h. subst (AllByRecursion IsAny) (same x (from x h)) (one.plain x (from x h));
}

number_of : (n : ℕ) → IsFrom 0 1 n → lattice_number (lattice_of n) ≡ n
number_of zero h = refl
number_of (suc zero) h = refl
number_of (suc (suc n)) h = absurd (omega (arith, h.1))

stated_by : (least : Bool) → has_line (cond least Root Weight) ≡ true
stated_by true = refl
stated_by false = refl

stated_of : (n : ℕ) → has_line (lattice_of n) ≡ true
stated_of n = stated_by (n == 0)

in_range : (l : Lattice) → IsFrom 0 1 (lattice_number l)
in_range Plain = (omega arith, omega arith)
in_range Root = (omega arith, omega arith)
in_range Weight = (omega arith, omega arith)

of_number : (l : Lattice) → has_line l ≡ true → l ≡ lattice_of (lattice_number l)
of_number Plain h = absurd cc
of_number Root h = refl
of_number Weight h = refl

printed : (l : Lattice) → has_line l ≡ true → single_text (codes "lattice") (lattice_number l) ++ [] ≡ lattice_text l
printed Plain h = absurd cc
printed Root h = append-nil (single_text (codes "lattice") 0)
printed Weight h = append-nil (single_text (codes "lattice") 1)

is_plain : (l : Lattice) → has_line l ≡ false → l ≡ Plain
is_plain Plain h = refl
is_plain Root h = absurd cc
is_plain Weight h = absurd cc

pub lattice_pair : (stated : Bool) → Pair IsAny (lattice_if stated) lattice_text (λ l. has_line l ≡ stated)
unfolding lattice_line
lattice_pair true = pair_where lattice_line _ lattice_text _ (λ l. has_line l ≡ true)
    (λ l h. printed l (ap has_line h.1 ∙ stated_of (lattice_number l)))
    (λ l h. ap has_line h.1 ∙ stated_of (lattice_number l)) (λ l h. (in_range l, of_number l h))
    (after_pair IsAny lattice_number (single_pair (codes "lattice") 0 1 (search rules) (omega arith))
    (λ n h. give_pair IsAny (lattice_of n))
    (λ n l f h. ap lattice_number h ∙ number_of n f))
lattice_pair false = pair_where (give Plain) (λ l. []) lattice_text (λ l. l ≡ Plain) (λ l. has_line l ≡ false)
    (λ l h. sym (ap lattice_text h)) (λ l h. ap has_line h) is_plain (give_pair IsAny Plain)
