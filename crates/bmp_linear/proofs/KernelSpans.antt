-- Evidence whose comparisons all pass: its basis is in the kernel and spans it.
use Rattle.std.proofs.Common.{◌≡◌, ℕ, zero, suc, ◌+◌, ◌<◌, ◌≤◌, ◌%◌, List, [], ◌∷◌, inl, inr, length, get_or, refl, sym, ap, ◌∙◌, arith, true, true≢false, eqb, eqb-true}
use Rattle.std.proofs.Math.Nat.{mod-mod}
use Rattle.std.proofs.lemmas.Bool.{cases_Bool, or_cases}
use Rattle.bmp_math.specs.Congruences.{SameMod}
use Rattle.bmp_math.specs.Vectors.{unit}
use Rattle.bmp_math.specs.Matrices.{Matrix, combination, image, IsInKernel, IsIndependent}
use Rattle.bmp_linear.specs.declared.evidence.KernelEvidence.{KernelEvidence}
use Rattle.bmp_linear.specs.Faults.{AllPass}
use Rattle.bmp_linear.specs.FreePlaces.{has_place, free_places}
use Rattle.bmp_linear.specs.Evidence.{EvidenceFits, vector_at}
use Rattle.bmp_linear.specs.KernelChecks.{KernelCompares, IsSpanned}
use Rattle.bmp_linear.proofs.FreeLemmas.{free_at, free_within, free_place_below, length-free_places}
use Rattle.bmp_linear.proofs.Spanning.{Passed, independent, spans}

-- where a place of the list stands
pub place_found : (ps : List ℕ) (j : ℕ) → has_place ps j ≡ true → (s : ℕ) × (s < length ps) × (get_or ps s 0 ≡ j)
place_found [] j h = absurd (true≢false (sym h))
place_found (q ∷ qs) j h =
    elim (or_cases (eqb q j) (has_place qs j) h) [
      | inl here ↦ (0, omega arith, eqb-true q j here)
      | inr later ↦ let s = place_found qs j later in (suc s.0, omega arith, s.2)
    ]

-- a remainder that is a number is the same modulo p
same_from_remainder : (p x n : ℕ) → x % p ≡ n → SameMod p x n
same_from_remainder p x n h = sym (mod-mod x p) ∙ ap (λ y. y % p) h

module _ (p : ℕ) (a : Matrix) (e : KernelEvidence) (pass : AllPass (KernelCompares p a e)) where
  pub basis_in_kernel : (t : ℕ) → t < length e.basis → IsInKernel p a (vector_at e.basis t)
  basis_in_kernel t l i m =
      same_from_remainder p (image a (vector_at e.basis t) i) 0
      (pass (record { index = t; place = length e.basis + i; left = image a (vector_at e.basis t) i % p; right = 0 })
      (inr (inl (record { basis = l; row = (i, m, refl, refl); right_is = refl }))))

  frees_counted : EvidenceFits e a.rows a.cols → length (free_places e.pivots a.cols) ≡ length e.basis
  frees_counted fits =
      let all : length (free_places e.pivots a.cols) + length e.pivots ≡ a.cols =
      length-free_places e.pivots a.cols fits.pivots_rise fits.pivots_below in
      let counted : length e.pivots + length e.basis ≡ a.cols = fits.in_all in
      omega arith

  passed_from : EvidenceFits e a.rows a.cols → Passed p a (length e.pivots) (length e.basis) (λ s. get_or e.pivots s 0)
      (λ t. get_or (free_places e.pivots a.cols) t 0) (vector_at e.basis) (vector_at e.rows)
  passed_from fits = record {
    pivot_below = λ s l. fits.pivots_below s 0 l;
    free_below = λ t l. free_place_below e.pivots a.cols t (rw (frees_counted fits) l);
    each_place = λ j l. elim (cases_Bool (has_place e.pivots j)) [
      | inl pivot ↦ inl (place_found e.pivots j pivot)
      | inr free ↦
          let within : length (free_places e.pivots j) < length (free_places e.pivots a.cols) =
          free_within e.pivots a.cols j free l in
          inr (length (free_places e.pivots j), rw (← frees_counted fits) within, free_at e.pivots a.cols j free l)
    ];
    basis_free = λ t u l m. ap (λ x. x % p)
        (pass (record {
          index = t;
          place = u;
          left = vector_at e.basis t (get_or (free_places e.pivots a.cols) u 0);
          right = unit u t;
        }) (inl (record { basis = l; free = m; left_is = refl; right_is = refl })));
    basis_kernel = basis_in_kernel;
    row_pivot = λ s u l m.
        same_from_remainder p (combination (vector_at e.rows s) a.entry a.rows (get_or e.pivots u 0)) (unit u s)
        (pass (record {
          index = length e.basis + s;
          place = get_or e.pivots u 0;
          left = combination (vector_at e.rows s) a.entry a.rows (get_or e.pivots u 0) % p;
          right = unit u s;
        })
        (inr (inr (record { at_pivot = (s, u, rw fits.row_for_each l, m, refl, refl, refl, refl) }))));
  }

pub kernel_independent : (p : ℕ) (a : Matrix) (e : KernelEvidence) → EvidenceFits e a.rows a.cols →
    AllPass (KernelCompares p a e) → IsIndependent p a.cols (vector_at e.basis) (length e.basis)
kernel_independent p a e fits pass = independent (passed_from p a e pass fits)

pub kernel_spans : (p : ℕ) (a : Matrix) (e : KernelEvidence) → 2 ≤ p → EvidenceFits e a.rows a.cols →
    AllPass (KernelCompares p a e) → (v : ℕ → ℕ) → IsInKernel p a v → IsSpanned p a.cols e v
kernel_spans zero a e two fits pass v zeros = absurd (omega arith)
kernel_spans (suc q) a e two fits pass v zeros =
    spans q a (length e.pivots) (length e.basis) (λ s. get_or e.pivots s 0)
    (λ t. get_or (free_places e.pivots a.cols) t 0) (vector_at e.basis) (vector_at e.rows)
    (passed_from (suc q) a e pass fits) v zeros
