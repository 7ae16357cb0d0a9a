-- The first comparison that fails, found in a loop.
use Rattle.std.proofs.Common.{◌≡◌, ◌≢◌, ℕ, ◌+◌, ◌<◌, inl, inr, sym, ◌∙◌, arith, Result, Ok, Err, OnOk, OnErr}
use Rattle.std.proofs.lemmas.Bool.{cases_eq}
use Rattle.bmp_linear.specs.declared.fault.RowFault.{RowFault}
use Rattle.bmp_linear.specs.Faults.{IsFirstFailure, WithIndex}

-- what follows from what an `Ok` says
pub on_ok : {E : Type 0} (r : Result (Unit {0}) E) (P Q : Type 0) → (P → Q) → OnOk r P → OnOk r Q
on_ok (Ok u) P Q f h = f h
on_ok (Err e) P Q f h = h

-- what follows from what an `Err` says
pub on_err : {E : Type 0} (r : Result (Unit {0}) E) (P Q : Type 0) → (P → Q) → OnErr r P → OnErr r Q
on_err (Ok u) P Q f h = h
on_err (Err e) P Q f h = f h

-- the two sides agree at each of n places
abbrev pub AllAgree : ℕ → (ℕ → ℕ) → (ℕ → ℕ) → Type 0
AllAgree n left right = (k : ℕ) → k < n → left k ≡ right k

-- the comparisons below a place have equal sides
abbrev pub PassBelow : ℕ → (RowFault → Type 0) → Type 0
PassBelow n Compares = (r : RowFault) → Compares r → r.place < n → r.left ≡ r.right

-- the comparisons below an index have equal sides
abbrev pub PassBefore : ℕ → (RowFault → Type 0) → Type 0
PassBefore n Compares = (r : RowFault) → Compares r → r.index < n → r.left ≡ r.right

-- one place more, where each comparison there has these sides
pub pass_below_more : (Compares : RowFault → Type 0) (n m left right : ℕ) → m ≡ n + 1 →
    ((r : RowFault) → Compares r → r.place ≡ n → (r.left ≡ left) × (r.right ≡ right)) → left ≡ right →
    PassBelow n Compares → PassBelow m Compares
pass_below_more Compares n m left right next sides same below r compared within =
    elim (cases_eq r.place n) [
      | inl here ↦ let s = sides r compared here in s.0 ∙ same ∙ sym s.1
      | inr before ↦ below r compared (omega arith)
    ]

-- a comparison that fails after those below its place passed
pub first_failure_at : (Compares : RowFault → Type 0) (index : ℕ) (fault : RowFault) → fault.index ≡ index →
    Compares fault → fault.left ≢ fault.right → PassBelow fault.place (WithIndex index Compares) →
    IsFirstFailure (WithIndex index Compares) fault
first_failure_at Compares index fault at compared differs below = record {
  compared = (at, compared);
  differs = differs;
  earlier = λ r c before. elim before [
    | inl less ↦ absurd (let same : r.index ≡ index = c.0 in omega arith)
    | inr here ↦ below r c here.1
  ];
}
