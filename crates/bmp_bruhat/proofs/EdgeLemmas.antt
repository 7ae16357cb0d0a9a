-- Edges of the definition: one for two vertices, one way or the other, and never zero modulo a number.
use Rattle.std.proofs.Common.{◌≡◌, ◌≢◌, ℕ, ◌<◌, ◌≤◌, ◌⊎◌, inl, inr, List, length, get_or, reverse, Some, slice_get, arith, sym, ap, subst, ◌∙◌}
use Rattle.std.proofs.Math.Path.{fun_ext}
use Rattle.std.proofs.lemmas.Bool.{cases_lt}
use Rattle.std.proofs.lemmas.List.{length-map, get_or-map}
use Rattle.std.proofs.lemmas.Option.{slice_get_within, slice_get_cases, get_or_from_slice_get}
use Rattle.bmp_math.specs.Lists.{HasEachOnce}
use Rattle.bmp_math.proofs.ListLemmas.{place_of}
use Rattle.bmp_roots.specs.RootPairs.{CartanMatrix, Vector, RootPair, across, IsRootPair, IsPositive, HasCartanForm}
use Rattle.bmp_roots.specs.Pairs.{coordinates, pair_of}
use Rattle.bmp_roots.specs.RootSystems.{matrix_of, positives, positive_roots_of}
use Rattle.bmp_roots.specs.declared.root_pair.Pair.{Pair}
use Rattle.bmp_roots.specs.declared.root_system.Roots.{Roots}
use Rattle.bmp_roots.proofs.RootLemmas.{across-across}
use Rattle.bmp_roots.proofs.PairLemmas.{pair_two, primitive_root, one_coroot, same_pair}
use Rattle.bmp_roots.proofs.RootsLemmas.{has_finite_system, has_positive_roots, positive_at}
use Rattle.bmp_weyl.specs.Words.{acts, IsRootSystem}
use Rattle.bmp_weyl.specs.Elements.{IsProduct, element_length}
use Rattle.bmp_weyl.specs.declared.elem.Elem.{Elem}
use Rattle.bmp_weyl.proofs.ActionLemmas.{acts-append, acts-reverse}
use Rattle.bmp_weyl.proofs.ElementLemmas.{same_words, same_element, element_length-product}
use Rattle.bmp_weyl.proofs.ReflectionLemmas.{reflection_knows_root, reflection_changes_length}
use Rattle.bmp_weyl.proofs.CallLemmas.{root_system}
use Rattle.bmp_interval.proofs.CountLemmas.{once_apart}
use Rattle.bmp_bruhat.specs.Labels.{root_form, IsZeroForm}
use Rattle.bmp_bruhat.specs.Edges.{IsReflectedTo, IsEdge, IsEdgeOfRoot}

-- what stands at two places of such a list is the same only where the places are
pub once_place : {X : Type 0} (xs : List X) → HasEachOnce xs → (i j : ℕ) (x : X) → slice_get xs i ≡ Some x →
    slice_get xs j ≡ Some x → i ≡ j
once_place xs once i j x hi hj =
    once_apart xs once i j x (slice_get_within xs i x hi) (slice_get_within xs j x hj)
    (get_or_from_slice_get xs i x x hi ∙ sym (get_or_from_slice_get xs j x x hj))

-- what stands at a place is one
pub one_at : {X : Type 0} (xs : List X) (i : ℕ) (x y : X) → slice_get xs i ≡ Some x → slice_get xs i ≡ Some y → x ≡ y
one_at xs i x y hx hy = sym (get_or_from_slice_get xs i x x hx) ∙ get_or_from_slice_get xs i y x hy

-- some element stands at each place of a list
pub some_at : {X : Type 0} (xs : List X) (i : ℕ) → i < length xs → (x : X) × (slice_get xs i ≡ Some x)
some_at xs i h = elim (slice_get_cases xs i).1 [ inl r ↦ (r.0, r.2) | inr r ↦ absurd (omega (arith, r.0)) ]

-- the positive pairs of a `Roots`
module _ (roots : Roots) where
  -- a positive pair is a root pair, and its root is positive
  pub pair_is_positive : (i : ℕ) (p : Pair) → slice_get (positives roots) i ≡ Some p →
      IsRootPair (matrix_of roots) (pair_of p) × IsPositive (matrix_of roots) (coordinates p.root)
  pair_is_positive i p at =
      subst (λ z. IsRootPair (matrix_of roots) (pair_of z) × IsPositive (matrix_of roots) (coordinates z.root))
      (get_or_from_slice_get (positives roots) i p p at)
      (positive_at roots i p (slice_get_within (positives roots) i p at))

  -- two positive pairs with one root have one number
  pub root_number : (i j : ℕ) (p q : Pair) → slice_get (positives roots) i ≡ Some p →
      slice_get (positives roots) j ≡ Some q → coordinates p.root ≡ coordinates q.root → i ≡ j
  root_number i j p q hi hj same =
      let root : Pair → Vector = λ z. coordinates z.root in
      let i_in = slice_get_within (positives roots) i p hi in
      let j_in = slice_get_within (positives roots) j q hj in
      let count = length-map (positives roots) root in
      once_apart (positive_roots_of roots) (has_positive_roots roots).once i j (coordinates p.root) (omega arith)
      (omega arith)
      (get_or-map root (positives roots) i p (coordinates p.root) i_in
      ∙ ap root (get_or_from_slice_get (positives roots) i p p hi) ∙ same
      ∙ sym (get_or-map root (positives roots) j q (coordinates p.root) j_in
      ∙ ap root (get_or_from_slice_get (positives roots) j q q hj)))

  -- each positive root pair has a number
  pub number_of_pair : (q : RootPair) → IsRootPair (matrix_of roots) q → IsPositive (matrix_of roots) q.root
      → (i : ℕ) × (pair : Pair) × (slice_get (positives roots) i ≡ Some pair) × (pair_of pair ≡ q)
  number_of_pair q is positive =
      let root : Pair → Vector = λ z. coordinates z.root in
      let r : (i : ℕ) × (i < length (positive_roots_of roots)) ×
      ((d : Vector) → get_or (positive_roots_of roots) i d ≡ q.root) =
      place_of q.root (positive_roots_of roots) ((has_positive_roots roots).all q is positive) in
      let inside : r.0 < length (positives roots) = omega (arith, r.1, length-map (positives roots) root) in
      let s : (pair : Pair) × (slice_get (positives roots) r.0 ≡ Some pair) = some_at (positives roots) r.0 inside in
      let there : IsRootPair (matrix_of roots) (pair_of s.0) = (pair_is_positive r.0 s.0 s.1).0 in
      let root_same : coordinates s.0.root ≡ q.root =
      ap root (sym (get_or_from_slice_get (positives roots) r.0 s.0 s.0 s.1))
      ∙ sym (get_or-map root (positives roots) r.0 s.0 (root s.0) inside) ∙ r.2 (root s.0) in (
        r.0,
        s.0,
        s.1,
        same_pair (pair_of s.0) q root_same
            (one_coroot (matrix_of roots) roots.form (has_finite_system roots) (pair_of s.0) q there is root_same),
      )

  -- each edge has a root with a number
  pub edge_of_root : (list : List Elem) (x y : ℕ) (q : RootPair) →
      IsEdge (matrix_of roots) (positive_roots_of roots) list x y q
      → (i : ℕ) × (e : IsEdgeOfRoot roots list x y i) × (pair_of e.pair ≡ q)
  edge_of_root list x y q edge =
      let n = number_of_pair q edge.pair edge.positive in (
        n.0,
        record {
          pair = n.1;
          pair_is = n.2;
          edge = subst (λ z. IsEdge (matrix_of roots) (positive_roots_of roots) list x y z) (sym n.3) edge;
        },
        n.3,
      )

module _ (m : CartanMatrix) (roots : List Vector) (system : IsRootSystem m roots) where
  -- what the words of one element make of a vector is one
  pub one_action : (x : Elem) (u w : List ℕ) → IsProduct m u x → IsProduct m w x → acts m u ≡ acts m w
  one_action x u w hu hw = same_words m system.form u w x hu hw

  -- two reflections that lead from one element to one element agree
  pub one_reflection : (p q : RootPair) (x y : Elem) → IsReflectedTo m p x y → IsReflectedTo m q x y →
      across m p ≡ across m q
  one_reflection p q x y hp hq = fun_ext (λ v.
      let u = hp.before in
      let back : acts m u (acts m (reverse u) v) ≡ v =
      sym (acts-append m u (reverse u) v) ∙ acts-reverse m system.form u hp.before_is.letters v in
      let from = one_action x hp.before hq.before hp.before_is hq.before_is in
      let to = one_action y hp.after hq.after hp.after_is hq.after_is in
      let left = hp.reflects (acts m (reverse u) v) in
      let right = hq.reflects (acts m (reverse u) v) in
      ap (across m p) (sym back) ∙ sym left ∙ ap (λ (f : Vector → Vector). f (acts m (reverse u) v)) to ∙ right
      ∙ ap (λ (f : Vector → Vector). across m q (f (acts m (reverse u) v))) (sym from) ∙ ap (across m q) back)

  -- one reflection leads from an element to one element
  pub one_target : (q : RootPair) (x y z : Elem) → IsReflectedTo m q x y → IsReflectedTo m q x z → y ≡ z
  one_target q x y z hy hz =
      same_element m hy.after hz.after y z hy.after_is hz.after_is
      (fun_ext (λ v. hy.reflects v
      ∙ ap (λ (f : Vector → Vector). across m q (f v)) (one_action x hy.before hz.before hy.before_is hz.before_is)
      ∙ sym (hz.reflects v)))

  pub edge_is_unique : (list : List Elem) (x y : ℕ) (q p : RootPair) → IsEdge m roots list x y q →
      IsEdge m roots list x y p → q ≡ p
  edge_is_unique list x y q p a b =
      let low = one_at list x a.low b.low a.low_is b.low_is in
      let high = one_at list y a.high b.high a.high_is b.high_is in
      let second : IsReflectedTo m p a.low a.high =
      subst (λ z. IsReflectedTo m p z a.high) (sym low)
      (subst (λ z. IsReflectedTo m p b.low z) (sym high) b.reflected) in
      reflection_knows_root m roots system q p a.pair b.pair a.positive b.positive
      (one_reflection q p a.low a.high a.reflected second)

  -- a root leads up from a vertex to one vertex
  pub edge_target : (list : List Elem) → HasEachOnce list → (x y z : ℕ) (q : RootPair) → IsEdge m roots list x y q →
      IsEdge m roots list x z q → y ≡ z
  edge_target list once x y z q a b =
      let low = one_at list x a.low b.low a.low_is b.low_is in
      let second : IsReflectedTo m q a.low b.high = subst (λ v. IsReflectedTo m q v b.high) (sym low) b.reflected in
      let high = one_target q a.low a.high b.high a.reflected second in
      once_place list once y z a.high a.high_is (subst (λ v. slice_get list z ≡ Some v) (sym high) b.high_is)

  -- the reflection back
  pub reflected_back : (q : RootPair) → IsRootPair m q → (x y : Elem) → IsReflectedTo m q x y → IsReflectedTo m q y x
  reflected_back q is x y h = record {
    before = h.after;
    after = h.before;
    before_is = h.after_is;
    after_is = h.before_is;
    reflects = λ v. sym (across-across m q (acts m h.before v) (pair_two m system.form q is))
        ∙ ap (across m q) (sym (h.reflects v));
  }

  -- a reflection never keeps the length
  pub lengths_differ : (q : RootPair) → IsRootPair m q → (x y : Elem) → IsReflectedTo m q x y →
      element_length roots y ≢ element_length roots x
  lengths_differ q is x y h same =
      reflection_changes_length m roots system q is h.before h.after h.before_is.letters h.after_is.letters h.reflects
      (sym (element_length-product m roots system h.after y h.after_is) ∙ same
      ∙ element_length-product m roots system h.before x h.before_is)

  pub reflection_is_edge : (list : List Elem) (x y : ℕ) (low high : Elem) → slice_get list x ≡ Some low →
      slice_get list y ≡ Some high
      → (q : RootPair) → IsRootPair m q → IsPositive m q.root → IsReflectedTo m q low high → IsEdge m roots list x y q ⊎
      IsEdge m roots list y x q
  reflection_is_edge list x y low high low_is high_is q is positive h =
      let apart = lengths_differ q is low high h in
      elim (cases_lt (element_length roots low) (element_length roots high)) [
        | inl lt ↦ inl (record {
          low = low;
          high = high;
          low_is = low_is;
          high_is = high_is;
          pair = is;
          positive = positive;
          reflected = h;
          longer = lt;
        })
        | inr le ↦ inr (record {
          low = high;
          high = low;
          low_is = high_is;
          high_is = low_is;
          pair = is;
          positive = positive;
          reflected = reflected_back q is low high h;
          longer = omega arith;
        })
      ]

-- no root is zero
pub label_is_not_zero : (m : CartanMatrix) → HasCartanForm m → (q : RootPair) → IsRootPair m q → (p : ℕ) → 2 ≤ p →
    IsZeroForm p m.rank (root_form q) → ⊥
label_is_not_zero m form q is p big zeros = primitive_root m form p big q is zeros

-- ---- the same by the numbers of the roots
module _ (roots : Roots) (list : List Elem) where
  pub root_is_unique : (x y i j : ℕ) → IsEdgeOfRoot roots list x y i → IsEdgeOfRoot roots list x y j → i ≡ j
  root_is_unique x y i j a b =
      root_number roots i j a.pair b.pair a.pair_is b.pair_is
      (ap (λ (q : RootPair). q.root)
      (edge_is_unique (matrix_of roots) (positive_roots_of roots) (root_system roots) list x y (pair_of a.pair)
      (pair_of b.pair) a.edge b.edge))

  pub root_target : HasEachOnce list → (x y z i : ℕ) → IsEdgeOfRoot roots list x y i → IsEdgeOfRoot roots list x z i →
      y ≡ z
  root_target once x y z i a b =
      let pair = one_at (positives roots) i a.pair b.pair a.pair_is b.pair_is in
      edge_target (matrix_of roots) (positive_roots_of roots) (root_system roots) list once x y z (pair_of a.pair)
      a.edge
      (subst (λ q. IsEdge (matrix_of roots) (positive_roots_of roots) list x z (pair_of q)) (sym pair) b.edge)
