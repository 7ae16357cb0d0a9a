-- The products of the vertices with simple reflections.
use Rattle.std.proofs.Common.{◌≡◌, ℕ, ◌+◌, ◌*◌, ◌/◌, ◌%◌, ◌<◌, arith, sym, ap, ◌∙◌, subst, inl, inr, List, [], ◌∷◌, ◌++◌, length, get_or, Option, None}
use Rattle.std.proofs.Math.Seq.{get_or-append_seam}
use Rattle.std.proofs.lemmas.Bool.{cases_eq}
use Rattle.std.proofs.lemmas.List.{get_or_append_left}
use Rattle.bmp_roots.specs.RootPairs.{CartanMatrix}
use Rattle.bmp_weyl.specs.declared.elem.Elem.{Elem}
use Rattle.bmp_kl.specs.VertexProducts.{IsProductAt, partner}

-- what holds of each member of a list holds after one more
pub listed_more : {X : Type 0} (P : ℕ → X → Type 0) (n : ℕ) (old new : List X) (v d : X) → length old ≡ n →
    new ≡ old ++ v ∷ []
    → ((q : ℕ) → q < n → P q (get_or old q d)) → P n v → (q : ℕ) → q < n + 1 → P q (get_or new q d)
listed_more P n old new v d long is before last q below =
    subst (λ xs. P q (get_or xs q d)) (sym is)
    (elim (cases_eq q n) [
      | inl at ↦
          let seam : get_or (old ++ v ∷ []) q d ≡ v =
          ap (λ i. get_or (old ++ v ∷ []) i d) (at ∙ sym long) ∙ get_or-append_seam old v [] d in
          subst (λ p. P q p) (sym seam) (subst (λ i. P i v) (sym at) last)
      | inr apart ↦
          subst (λ p. P q p) (sym (get_or_append_left old (v ∷ []) d q (omega (arith, long)))) (before q (omega arith))
    ])

pub product_placed : (m : CartanMatrix) (word : List ℕ) (list : List Elem) (products : List (Option ℕ)) (x k : ℕ) →
    k < 6
    → IsProductAt m word list ((x * 6 + k) / 6) ((x * 6 + k) % 6) (partner products k x)
    → IsProductAt m word list x k (partner products k x)
product_placed m word list products x k below is =
    let row : (x * 6 + k) / 6 ≡ x = omega arith in
    let column : (x * 6 + k) % 6 ≡ k = omega arith in
    subst (λ j. IsProductAt m word list x j (partner products k x)) column
    (subst (λ i. IsProductAt m word list i ((x * 6 + k) % 6) (partner products k x)) row is)
