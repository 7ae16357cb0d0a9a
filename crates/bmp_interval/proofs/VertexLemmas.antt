-- The vertices of a word with one letter more.
use Rattle.std.proofs.Common.{◌≡◌, ℕ, zero, suc, arith, refl, sym, ap, ◌∙◌, subst, List, [], ◌∷◌, ◌++◌, length, length-append, Bool, true, false}
use Rattle.std.proofs.lemmas.List.{append-nil, append_assoc}
use Rattle.bmp_roots.specs.RootPairs.{CartanMatrix}
use Rattle.bmp_weyl.proofs.ExchangeLemmas.{kept_more}
use Rattle.bmp_weyl.specs.Elements.{IsProduct}
use Rattle.bmp_weyl.specs.declared.elem.Elem.{Elem}
use Rattle.bmp_interval.specs.Vertices.{IsVertex}
use Rattle.bmp_weyl.specs.Words.{kept}

pub last_of : (bs : List Bool) (n : ℕ) → length bs ≡ suc n → (front : List Bool) × (b : Bool) × (bs ≡ front ++ b ∷ []) ×
    (length front ≡ n)
last_of [] n e = absurd (omega arith)
last_of (b ∷ []) n e = ([], b, refl, omega arith)
last_of (b ∷ c ∷ bs) zero e = absurd (omega arith)
last_of (b ∷ c ∷ bs) (suc n) e =
    let r : (front : List Bool) × (d : Bool) × (c ∷ bs ≡ front ++ d ∷ []) × (length front ≡ n) =
    last_of (c ∷ bs) n (omega arith) in
    (b ∷ r.0, r.1, ap (λ (w : List Bool). b ∷ w) r.2, omega (arith, r.3))

module _ (m : CartanMatrix) where
  -- without the new letter
  pub vertex_stays : (u : List ℕ) (k : ℕ) (e : Elem) → IsVertex m u e → IsVertex m (u ++ k ∷ []) e
  vertex_stays u k e h = record {
    choices = h.choices ++ false ∷ [];
    as_long = omega (arith, length-append h.choices (false ∷ []), length-append u (k ∷ []), h.as_long);
    product = subst (λ w. IsProduct m w e)
        (sym (kept_more h.choices false u k h.as_long ∙ append-nil (kept h.choices u))) h.product;
  }

  -- with it: the product of its part before with the simple reflection
  pub vertex_times : (u : List ℕ) (k : ℕ) (x e : Elem) (h : IsVertex m u x) →
      IsProduct m (kept h.choices u ++ k ∷ []) e → IsVertex m (u ++ k ∷ []) e
  vertex_times u k x e h product = record {
    choices = h.choices ++ true ∷ [];
    as_long = omega (arith, length-append h.choices (true ∷ []), length-append u (k ∷ []), h.as_long);
    product = subst (λ w. IsProduct m w e) (sym (kept_more h.choices true u k h.as_long)) product;
  }

  -- of a longer word
  pub vertex_of_prefix : (u w : List ℕ) (e : Elem) → IsVertex m u e → IsVertex m (u ++ w) e
  vertex_of_prefix u [] e h = subst (λ (x : List ℕ). IsVertex m x e) (sym (append-nil u)) h
  vertex_of_prefix u (k ∷ w) e h =
      subst (λ (x : List ℕ). IsVertex m x e) (append_assoc u (k ∷ []) w)
      (vertex_of_prefix (u ++ k ∷ []) w e (vertex_stays u k e h))
