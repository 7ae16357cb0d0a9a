-- The list of the reflections, and that of the lengths.
use Rattle.std.proofs.Common.{◌≡◌, ℕ, ◌+◌, ◌<◌, List, [], ◌∷◌, ◌++◌, length, length-append, get_or, map, take, Some, slice_get, arith, sym, ap, ap₂, subst, ◌∙◌, inl, inr}
use Rattle.std.proofs.lemmas.Bool.{cases_eq}
use Rattle.std.proofs.lemmas.List.{map_more, get_or_push, get_or_append_left}
use Rattle.std.proofs.lemmas.Option.{get_or_from_slice_get}
use Rattle.bmp_roots.specs.Pairs.{pair_of}
use Rattle.bmp_roots.specs.RootSystems.{matrix_of, positives}
use Rattle.bmp_roots.specs.declared.root_pair.Pair.{Pair}
use Rattle.bmp_roots.specs.declared.root_system.Roots.{Roots}
use Rattle.bmp_weyl.specs.Elements.{IsReflection}
use Rattle.bmp_weyl.specs.declared.elem.Elem.{Elem}
use Rattle.bmp_bruhat.specs.Building.{HasReflections}
use Rattle.bmp_bruhat.proofs.EdgeLemmas.{some_at}

-- one reflection more
pub HasReflections-more : (roots : Roots) (n : ℕ) (list new : List Elem) (r : Elem) → HasReflections roots n list
    → ((d : Pair) → IsReflection (matrix_of roots) (pair_of (get_or (positives roots) n d)) r) → new ≡ list ++ r ∷ [] →
    HasReflections roots (n + 1) new
HasReflections-more roots n list new r so_far here is =
    subst (λ rs. HasReflections roots (n + 1) rs) (sym is) (record {
      as_long = length-append list (r ∷ []) ∙ ap (λ k. k + 1) so_far.as_long;
      each = λ i pair o h at.
          elim (cases_eq i n) [
            | inl same ↦
                let there : slice_get (positives roots) n ≡ Some pair =
                subst (λ k. slice_get (positives roots) k ≡ Some pair) same at in
                subst (λ z. IsReflection (matrix_of roots) (pair_of pair) z)
                (sym (get_or_push list r o i (so_far.as_long ∙ sym same)))
                (subst (λ q. IsReflection (matrix_of roots) (pair_of q) r)
                (get_or_from_slice_get (positives roots) n pair pair there) (here pair))
            | inr apart ↦
                subst (λ z. IsReflection (matrix_of roots) (pair_of pair) z)
                (sym (get_or_append_left list (r ∷ []) o i (omega (arith, so_far.as_long))))
                (so_far.each i pair o (omega arith) at)
          ];
    })

-- one length more
pub lengths_more : (f : Elem → ℕ) (list : List Elem) (x n : ℕ) (lengths new : List ℕ) → lengths ≡ map f (take x list) →
    x < length list
    → ((d : Elem) → n ≡ f (get_or list x d)) → new ≡ lengths ++ n ∷ [] → new ≡ map f (take (x + 1) list)
lengths_more f list x n lengths new so_far within here is =
    let d = (some_at list x within).0 in
    is ∙ ap₂ (λ (ls : List ℕ) (k : ℕ). ls ++ k ∷ []) so_far (here d) ∙ sym (map_more f list x d within)
