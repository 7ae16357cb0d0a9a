-- The comparisons of `check_combination` and `check_dual`.
use Rattle.std.proofs.Common.{◌≡◌, ◌≢◌, ℕ, ◌%◌, ◌<◌, ◌≤◌, List, inl, inr, refl, sym, ◌∙◌, arith}
use Rattle.bmp_math.specs.Vectors.{unit}
use Rattle.bmp_math.specs.Matrices.{Matrix, combination, image}
use Rattle.bmp_linear.specs.declared.vector.Entry.{Entry}
use Rattle.bmp_linear.specs.SparseVectors.{number_at}
use Rattle.bmp_linear.specs.Faults.{AllPass, IsFirstFailure}
use Rattle.bmp_linear.specs.RowChecks.{ComparesCombination, ComparesDual}
use Rattle.bmp_linear.proofs.FaultLemmas.{AllAgree}

module _ (p : ℕ) (a : Matrix) (c target : List Entry) where
  pub combination_all : (j : ℕ) → a.cols ≤ j → AllAgree j (λ j. combination (number_at c) a.entry a.rows j % p)
      (number_at target) → AllPass (ComparesCombination p a c target)
  combination_all j l agree r compares = let within : r.place < a.cols = compares.column in
      compares.left_is ∙ agree r.place (omega arith) ∙ sym compares.right_is

  -- so the combination is the target
  pub combination_holds : AllPass (ComparesCombination p a c target) → (j : ℕ) → j < a.cols →
      combination (number_at c) a.entry a.rows j % p ≡ number_at target j
  combination_holds pass j l = pass
      (record {
        index = 0;
        place = j;
        left = combination (number_at c) a.entry a.rows j % p;
        right = number_at target j;
      })
      (record { index_is = refl; column = l; left_is = refl; right_is = refl })

  pub combination_fails : (j place left right : ℕ) → j < a.cols → place ≡ j →
      left ≡ combination (number_at c) a.entry a.rows j % p → right ≡ number_at target j → left ≢ right →
      AllAgree j (λ j. combination (number_at c) a.entry a.rows j % p) (number_at target) →
      IsFirstFailure (ComparesCombination p a c target)
      (record { index = 0; place = place; left = left; right = right })
  combination_fails j place left right l at is_left is_right differs agree = record {
    compared = record {
      index_is = omega arith;
      column = omega arith;
      left_is = rw at is_left;
      right_is = rw at is_right;
    };
    differs = differs;
    earlier = λ r compares before.
        let first : r.index ≡ 0 = compares.index_is in
        let lower : r.place < place = elim before [ inl less ↦ absurd (omega arith) | inr here ↦ here.1 ] in
        compares.left_is ∙ agree r.place (omega arith) ∙ sym compares.right_is;
  }

module _ (p : ℕ) (a : Matrix) (form : List Entry) (own : ℕ) where
  pub dual_all : (i : ℕ) → a.rows ≤ i → AllAgree i (λ i. image a (number_at form) i % p) (unit own) →
      AllPass (ComparesDual p a form own)
  dual_all i l agree r compares = let within : r.place < a.rows = compares.row in
      compares.left_is ∙ agree r.place (omega arith) ∙ sym compares.right_is

  -- so the form is 1 on its own row and 0 on the others
  pub dual_holds : AllPass (ComparesDual p a form own) → (i : ℕ) → i < a.rows →
      image a (number_at form) i % p ≡ unit own i
  dual_holds pass i l = pass
      (record { index = own; place = i; left = image a (number_at form) i % p; right = unit own i })
      (record { index_is = refl; row = l; left_is = refl; right_is = refl })

  pub dual_fails : (i index place left right : ℕ) → i < a.rows → index ≡ own → place ≡ i →
      left ≡ image a (number_at form) i % p → right ≡ unit own i → left ≢ right →
      AllAgree i (λ i. image a (number_at form) i % p) (unit own) →
      IsFirstFailure (ComparesDual p a form own) (record { index = index; place = place; left = left; right = right })
  dual_fails i index place left right l is_index at is_left is_right differs agree = record {
    compared = record { index_is = is_index; row = omega arith; left_is = rw at is_left; right_is = rw at is_right };
    differs = differs;
    earlier = λ r compares before.
        let first : r.index ≡ own = compares.index_is in
        let lower : r.place < place = elim before [ inl less ↦ absurd (omega arith) | inr here ↦ here.1 ] in
        compares.left_is ∙ agree r.place (omega arith) ∙ sym compares.right_is;
  }
