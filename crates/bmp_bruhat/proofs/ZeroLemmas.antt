-- The first of the edges found whose form is zero is the first zero label.
use Rattle.std.proofs.Common.{◌≡◌, ℕ, ◌<◌, ◌≤◌, ◌⊎◌, inl, inr, List, length, get_or, Some, slice_get, arith, sym, ap, subst, ◌∙◌}
use Rattle.std.proofs.lemmas.Bool.{cases_eq, cases_lt}
use Rattle.std.proofs.lemmas.Option.{slice_get_within, get_or_from_slice_get}
use Rattle.bmp_roots.specs.RootPairs.{Vector, RootPair}
use Rattle.bmp_roots.specs.Pairs.{pair_of}
use Rattle.bmp_roots.specs.RootSystems.{matrix_of, positives, positive_roots_of}
use Rattle.bmp_roots.specs.declared.root_system.Roots.{Roots}
use Rattle.bmp_weyl.specs.declared.elem.Elem.{Elem}
use Rattle.bmp_bruhat.specs.Labels.{root_form, IsZeroForm}
use Rattle.bmp_bruhat.specs.Edges.{IsEdge, HasZeroLabel, IsFirstZeroLabel}
use Rattle.bmp_bruhat.specs.Building.{ComesBefore, IsFound, HasEdgesUpTo, IsFirstZero, IsError}
use Rattle.bmp_bruhat.specs.declared.root_edge.RootEdge.{RootEdge}
use Rattle.bmp_bruhat.specs.declared.error.BruhatError.TheVariants.{ZeroLabel}
use Rattle.bmp_weyl.proofs.CallLemmas.{root_system}
use Rattle.bmp_bruhat.proofs.EdgeLemmas.{some_at, edge_of_root, edge_is_unique, label_is_not_zero}

-- numbers in order, weakly
weakly_before : (x y v w : ℕ) → ComesBefore x y v w → (x < v) ⊎ ((x ≡ v) × (y ≤ w))
weakly_before x y v w h = elim h [ inl less ↦ inl less | inr level ↦ inr (level.0, omega (arith, level.1)) ]

module _ {roots : Roots} {list : List Elem} {found : List RootEdge}
    (all : HasEdgesUpTo roots list (length list) 0 found) where
  found_at : (e : ℕ) (d : RootEdge) → slice_get found e ≡ Some d → IsFound roots list (length list) 0 d
  found_at e d at =
      subst (λ z. IsFound roots list (length list) 0 z) (get_or_from_slice_get found e d d at)
      (all.each e d (slice_get_within found e d at))

  module _ {p : ℕ} {form : RootPair → Vector} {x y : ℕ} (zero : IsFirstZero roots p form found x y) where
    here : HasZeroLabel (matrix_of roots) (positive_roots_of roots) list p form x y
    here =
        let is = found_at zero.place zero.edge zero.edge_is in
        record {
          pair = pair_of is.edge.pair;
          edge = subst (λ v. IsEdge (matrix_of roots) (positive_roots_of roots) list v y (pair_of is.edge.pair))
              (sym zero.lower)
              (subst (λ v. IsEdge (matrix_of roots) (positive_roots_of roots) list zero.edge.lower v
              (pair_of is.edge.pair)) (sym zero.upper) is.edge.edge);
          zero = zero.zero is.edge.pair is.edge.pair_is;
        }

    -- an edge that was found before it has no zero form
    not_before : (e : ℕ) (d : RootEdge) → slice_get found e ≡ Some d →
        (h : HasZeroLabel (matrix_of roots) (positive_roots_of roots) list p form d.lower d.upper) → e < zero.place → ⊥
    not_before e d at h less =
        let is = found_at e d at in
        let same : h.pair ≡ pair_of is.edge.pair =
        edge_is_unique (matrix_of roots) (positive_roots_of roots) (root_system roots) list d.lower d.upper h.pair
        (pair_of is.edge.pair) h.edge is.edge.edge in
        zero.before e d is.edge.pair less at is.edge.pair_is
        (subst (λ (q : RootPair). IsZeroForm p (matrix_of roots).rank (form q)) same h.zero)

    first : (v w : ℕ) → HasZeroLabel (matrix_of roots) (positive_roots_of roots) list p form v w →
        (x < v) ⊎ ((x ≡ v) × (y ≤ w))
    first v w h =
        let numbered = edge_of_root roots list v w h.pair h.edge in
        let has = all.all v w numbered.0 numbered.1 (inl (slice_get_within list v h.edge.low h.edge.low_is)) in
        let s : (d : RootEdge) × (slice_get found has.place ≡ Some d) = some_at found has.place has.within in
        let d : RootEdge = s.0 in
        let same : get_or found has.place d ≡ d = get_or_from_slice_get found has.place d d s.1 in
        let low : d.lower ≡ v = ap (λ (z : RootEdge). z.lower) (sym same) ∙ has.lower d in
        let high : d.upper ≡ w = ap (λ (z : RootEdge). z.upper) (sym same) ∙ has.upper d in
        let there : HasZeroLabel (matrix_of roots) (positive_roots_of roots) list p form d.lower d.upper =
        subst (λ k. HasZeroLabel (matrix_of roots) (positive_roots_of roots) list p form k d.upper) (sym low)
        (subst (λ k. HasZeroLabel (matrix_of roots) (positive_roots_of roots) list p form v k) (sym high) h) in
        let first_lower = zero.lower in
        let first_upper = zero.upper in
        elim (cases_lt has.place zero.place) [
          | inl less ↦ absurd (not_before has.place d s.1 there less)
          | inr more ↦ elim (cases_eq has.place zero.place) [
            | inl level ↦
                let one : zero.edge ≡ d =
                sym (get_or_from_slice_get found zero.place zero.edge d zero.edge_is)
                ∙ ap (λ k. get_or found k d) (sym level) ∙ same in
                inr (
                  first_lower ∙ ap (λ (z : RootEdge). z.lower) one ∙ low,
                  omega (arith, first_upper, ap (λ (z : RootEdge). z.upper) one, high),
                )
            | inr apart ↦
                let order = all.order zero.place has.place d (omega arith) has.within in
                let at : get_or found zero.place d ≡ zero.edge =
                get_or_from_slice_get found zero.place zero.edge d zero.edge_is in
                weakly_before x y v w
                (subst (λ k. ComesBefore k y v w) (ap (λ (z : RootEdge). z.lower) at ∙ sym first_lower)
                (subst (λ k. ComesBefore (get_or found zero.place d).lower k v w)
                (ap (λ (z : RootEdge). z.upper) at ∙ sym first_upper)
                (subst (λ k. ComesBefore (get_or found zero.place d).lower (get_or found zero.place d).upper k w)
                (has.lower d)
                (subst (λ k. ComesBefore (get_or found zero.place d).lower (get_or found zero.place d).upper
                (get_or found has.place d).lower k) (has.upper d) order))))
          ]
        ]

    pub first_zero_label : IsFirstZeroLabel (matrix_of roots) (positive_roots_of roots) list p form x y
    first_zero_label = record { here = here; first = first }

  -- the roots that were found are numbers of positive roots
  pub root_within : (e : ℕ) (o : RootEdge) → e < length found → (get_or found e o).root < length (positives roots)
  root_within e o inside =
      let is = all.each e o inside in
      slice_get_within (positives roots) (get_or found e o).root is.edge.pair is.edge.pair_is

-- no root is zero, so that by the simple roots memory alone can be wanting
pub no_zero_root : (roots : Roots) (list : List Elem) (p x y : ℕ) → 2 ≤ p →
    IsError roots list p root_form (ZeroLabel x y) → ⊥
no_zero_root roots list p x y big first =
    label_is_not_zero (matrix_of roots) roots.form first.here.pair first.here.edge.pair p big first.here.zero
