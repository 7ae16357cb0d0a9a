-- The answers of readers that may want memory: from the reader of a whole text to its clauses, and the exits of loops.
use Rattle.std.proofs.Common.{◌≡◌, ℕ, suc, List, [], Result, Ok, Err, ap, subst, ◌∙◌}
use Rattle.std.specs.Prelude.{IfOk}
use Rattle.bmp_text.specs.declared.fault.TextFault.{TextFault}
use Rattle.bmp_text.specs.Cursor.{Cursor}
use Rattle.bmp_text.specs.Readers.{chain, onto, list_with, whole}
use Rattle.bmp_text.proofs.Pairs.{Pair, whole_takes, whole_again}
use Rattle.bmp_text.proofs.Loops.{chain_fault, pushed_fault}
use Rattle.bmp_cert.specs.declared.fault.CertError.{CertError}
use Rattle.bmp_cert.specs.declared.fault.CertError.TheVariants.{Text, Memory}
use Rattle.bmp_cert.specs.Answers.{Faults, Answers}

module _ {A : Type 0} {ok : ℕ → Type 0} (step : Cursor ℕ → Result (A × Cursor ℕ) TextFault) (text : A → List ℕ)
    (fits : A → Type 0) (one : Pair ok step text fits) where
  pub whole_found : {X : Type 0} (view : X → A) (r : Result X CertError) (bytes : List ℕ) →
      Answers view r (whole step bytes) → IfOk r (λ x. fits (view x) × (bytes ≡ text (view x)))
  whole_found view (Ok x) bytes e = whole_takes step text fits one bytes (view x) e
  whole_found view (Err f) bytes e = tt

  pub whole_only : {X : Type 0} (view : X → A) (r : Result X CertError) (bytes : List ℕ) →
      Answers view r (whole step bytes) → (x : A) → fits x → bytes ≡ text x → Answers view r (Ok x)
  whole_only view r bytes e x h is = subst (Answers view r) (ap (whole step) is ∙ whole_again step text fits one x h) e

-- the exit of a loop by the error of an item
module _ {I A S X : Type 0} (add : X → A → X) (step : S → Cursor I → Result (A × Cursor I) TextFault) (next : A → S → S)
  where
    pub chain_stop : (total : Result (X × Cursor I) TextFault) (n k : ℕ) (s : S) (c : Cursor I) (x : X) (e : CertError)
        →
        n ≡ suc k → Faults e (step s c) → onto add x (chain step next n s c) ≡ total → Faults e total
    chain_stop total n k s c x (Text f) less e so_far = chain_fault add step next total n k s c x f less e so_far
    chain_stop total n k s c x Memory less e so_far = tt

pub pushed_stop : {I A : Type 0} (r : Result (List A × Cursor I) TextFault) (e : CertError) →
    Faults e (onto list_with [] r) → Faults e r
pushed_stop r (Text f) h = pushed_fault r f h
pushed_stop r Memory h = tt
