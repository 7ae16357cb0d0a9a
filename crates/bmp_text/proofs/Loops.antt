-- What a loop over a step has read so far, and what is left: it keeps
-- `onto add x (chain step next left s c) ≡ total`, x being what it made of the items so far.
use Rattle.std.proofs.Common.{◌≡◌, ℕ, zero, suc, List, [], ◌∷◌, ◌++◌, Result, Ok, Err, refl, sym, ap, ap₂, ◌∙◌, append_assoc}
use Rattle.std.proofs.lemmas.List.{append-nil}
use Rattle.bmp_text.specs.declared.fault.TextFault.{TextFault}
use Rattle.bmp_text.specs.Cursor.{Cursor, ◌>>=◌}
use Rattle.bmp_text.specs.Readers.{chain, fold_onto, onto, put_onto, list_with}

module _ {I A S X : Type 0} (add : X → A → X) (step : S → Cursor I → Result (A × Cursor I) TextFault) (next : A → S → S)
  where
    moved : (x : X) (a : A) (r : Result (List A × Cursor I) TextFault) → onto add x (r >>= λ y. Ok (a ∷ y.0, y.1))
        ≡ onto add (add x a) r
    moved x a (Ok y) = refl
    moved x a (Err f) = refl

    one_on : (x : X) (a : A) (k : ℕ) (s : S) (c after : Cursor I) → step s c ≡ Ok (a, after) →
        onto add x (chain step next (suc k) s c) ≡ onto add (add x a) (chain step next k (next a s) after)
    unfolding chain
    one_on x a k s c after e = rw e (moved x a (chain step next k (next a s) after))

    -- ---- for a loop that keeps `onto add x (chain step next left s c) ≡ total`

    pub chain_on : (total : Result (X × Cursor I) TextFault) (n k : ℕ) (s : S) (c after : Cursor I) (x : X) (a : A) →
        n ≡ suc k → step s c ≡ Ok (a, after) → onto add x (chain step next n s c) ≡ total →
        onto add (add x a) (chain step next k (next a s) after) ≡ total
    chain_on total n k s c after x a less e so_far =
        sym (one_on x a k s c after e) ∙ (ap (λ m. onto add x (chain step next m s c)) (sym less) ∙ so_far)

    one_of : (x new : X) (after : Cursor I) (r : Result (A × Cursor I) TextFault) → put_onto add x r ≡ Ok (new, after) →
        (a : A) × (r ≡ Ok (a, after)) × (add x a ≡ new)
    one_of x new after (Ok y) e =
        let p : (add x y.0, y.1) ≡ (new, after) = cc in
        (y.0, ap (λ (t : Cursor I). Ok (y.0, t)) (ap (λ (q : X × Cursor I). q.1) p), ap (λ (q : X × Cursor I). q.0) p)
    one_of x new after (Err f) e = absurd cc

    -- the same where a call has put the item onto the value, and the state stays
    pub chain_onto : (total : Result (X × Cursor I) TextFault) (n k : ℕ) (s : S) (c after : Cursor I) (x new : X) →
        ((a : A) → next a s ≡ s) → n ≡ suc k → put_onto add x (step s c) ≡ Ok (new, after) →
        onto add x (chain step next n s c) ≡ total → onto add new (chain step next k s after) ≡ total
    chain_onto total n k s c after x new stays less e so_far =
        let p = one_of x new after (step s c) e in
        ap₂ (λ (y : X) (t : S). onto add y (chain step next k t after)) (sym p.2) (sym (stays p.0))
        ∙ chain_on total n k s c after x p.0 less p.1 so_far

    fault : (k : ℕ) (s : S) (c : Cursor I) (x : X) (f : TextFault) → step s c ≡ Err f →
        onto add x (chain step next (suc k) s c) ≡ Err f
    unfolding chain
    fault k s c x f e = rw e refl

    pub chain_fault : (total : Result (X × Cursor I) TextFault) (n k : ℕ) (s : S) (c : Cursor I) (x : X) (f : TextFault)
        →
        n ≡ suc k → step s c ≡ Err f → onto add x (chain step next n s c) ≡ total → total ≡ Err f
    chain_fault total n k s c x f less e so_far =
        sym so_far ∙ (ap (λ m. onto add x (chain step next m s c)) less ∙ fault k s c x f e)

    done : (s : S) (c : Cursor I) (x : X) → onto add x (chain step next zero s c) ≡ Ok (x, c)
    unfolding chain
    done s c x = refl

    pub chain_all : (total : Result (X × Cursor I) TextFault) (n : ℕ) (s : S) (c : Cursor I) (x : X) → n ≡ 0 →
        onto add x (chain step next n s c) ≡ total → total ≡ Ok (x, c)
    chain_all total n s c x none so_far = sym so_far ∙ (ap (λ m. onto add x (chain step next m s c)) none ∙ done s c x)

-- ---- for lists

folded_push : {A : Type 0} (front xs : List A) → fold_onto list_with front xs ≡ front ++ xs
folded_push front [] = sym (append-nil front)
folded_push front (x ∷ xs) = folded_push (front ++ x ∷ []) xs ∙ append_assoc front (x ∷ []) xs

pub pushed_all : {I A : Type 0} (r : Result (List A × Cursor I) TextFault) (xs : List A) (c : Cursor I) →
    onto list_with [] r ≡ Ok (xs, c) → r ≡ Ok (xs, c)
pushed_all (Ok y) xs c e = ap (λ (t : List _). Ok (t, y.1)) (sym (folded_push [] y.0)) ∙ e
pushed_all (Err f) xs c e = absurd cc

pub pushed_fault : {I A : Type 0} (r : Result (List A × Cursor I) TextFault) (f : TextFault) →
    onto list_with [] r ≡ Err f → r ≡ Err f
pushed_fault (Ok y) f h = absurd cc
pushed_fault (Err g) f h = cc
