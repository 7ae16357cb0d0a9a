-- How the edges grow by one reflection at one vertex.
use Rattle.std.proofs.Common.{◌≡◌, ℕ, ◌+◌, ◌-◌, ◌<◌, ◌≤◌, ◌⊎◌, inl, inr, List, length, get_or, insert, arith, refl, sym, ap, subst, ◌∙◌}
use Rattle.std.proofs.lemmas.Bool.{cases_eq, cases_lt}
use Rattle.std.proofs.lemmas.Option.{slice_get_within}
use Rattle.std.proofs.lemmas.List.Edits.{get_or-insert_at, get_or-insert_below, get_or-insert_above, length-insert}
use Rattle.bmp_math.specs.Lists.{HasEachOnce}
use Rattle.bmp_roots.specs.RootSystems.{positives}
use Rattle.bmp_roots.specs.declared.root_system.Roots.{Roots}
use Rattle.bmp_roots.proofs.RootsLemmas.{has_few_positives}
use Rattle.bmp_weyl.specs.declared.elem.Elem.{Elem}
use Rattle.bmp_bruhat.specs.Edges.{IsEdgeOfRoot}
use Rattle.bmp_bruhat.specs.Building.{ComesBefore, IsDone, HasEdge, IsFound, HasEdgesUpTo}
use Rattle.bmp_bruhat.specs.declared.root_edge.RootEdge.{RootEdge}
use Rattle.bmp_bruhat.proofs.EdgeLemmas.{root_is_unique, root_target}

-- pairs of numbers are in order, one way or the other, or equal
pub three_ways : (a b c d : ℕ) → ComesBefore a b c d ⊎ (((a ≡ c) × (b ≡ d)) ⊎ ComesBefore c d a b)
three_ways a b c d =
    elim (cases_lt a c) [
      | inl lt ↦ inl (inl lt)
      | inr le ↦ elim (cases_eq a c) [
        | inr apart ↦ inr (inr (inl (omega arith)))
        | inl same ↦ elim (cases_lt b d) [
          | inl lt ↦ inl (inr (same, lt))
          | inr more ↦ elim (cases_eq b d) [
            | inl equal ↦ inr (inl (same, equal))
            | inr apart ↦ inr (inr (inr (sym same, omega arith)))
          ]
        ]
      ]
    ]

pub ComesBefore-trans : (a b c d e f : ℕ) → ComesBefore a b c d → ComesBefore c d e f → ComesBefore a b e f
ComesBefore-trans a b c d e f p q =
    elim p [
      | inl l ↦ elim q [ inl m ↦ inl (omega arith) | inr m ↦ inl (omega arith) ]
      | inr l ↦ elim q [ inl m ↦ inl (omega arith) | inr m ↦ inr (omega arith, omega arith) ]
    ]

-- one root more at the same vertex
pub IsDone-more : (x i w j : ℕ) → IsDone x i w j → IsDone x (i + 1) w j
IsDone-more x i w j h = elim h [ inl lt ↦ inl lt | inr p ↦ inr (p.0, omega (arith, p.1)) ]

-- what is done with one root more is done, or is that root at that vertex
pub IsDone-last : (x i w j : ℕ) → IsDone x (i + 1) w j → IsDone x i w j ⊎ ((w ≡ x) × (j ≡ i))
IsDone-last x i w j h =
    elim h [
      | inl lt ↦ inl (inl lt)
      | inr p ↦ elim (cases_eq j i) [ inl same ↦ inr (p.0, same) | inr apart ↦ inl (inr (p.0, omega (arith, p.1))) ]
    ]

pub IsFound-more : (roots : Roots) (list : List Elem) (x i : ℕ) (d : RootEdge) → IsFound roots list x i d →
    IsFound roots list x (i + 1) d
IsFound-more roots list x i d h = record { done = IsDone-more x i d.lower d.root h.done; edge = h.edge }

abbrev pub root_edge : ℕ → ℕ → ℕ → RootEdge
root_edge x y i = record { lower = x; upper = y; root = i }

-- where the edge goes
pub record IsPlace (edges : List RootEdge) (x y place : ℕ) : Type 0 where
  pub within : place ≤ length edges
  pub before : (e : ℕ) (o : RootEdge) → e < place → ComesBefore (get_or edges e o).lower (get_or edges e o).upper x y
  pub after : (e : ℕ) (o : RootEdge) → place ≤ e → e < length edges →
      ComesBefore x y (get_or edges e o).lower (get_or edges e o).upper

-- what stands at each place after an insertion
pub inserted_at : (P : RootEdge → Type 0) (edges : List RootEdge) (place : ℕ) (new : RootEdge) → place ≤ length edges
    → P new → ((e : ℕ) (o : RootEdge) → e < length edges → P (get_or edges e o))
    → (e : ℕ) (o : RootEdge) → e < length (insert edges place new) → P (get_or (insert edges place new) e o)
inserted_at P edges place new within here others e o h =
    let longer = length-insert edges place new within in
    elim (cases_lt e place) [
      | inl lt ↦ subst P (sym (get_or-insert_below edges place new o e lt within)) (others e o (omega arith))
      | inr le ↦ elim (cases_eq e place) [
        | inl same ↦ subst P
            (sym (ap (λ k. get_or (insert edges place new) k o) same ∙ get_or-insert_at edges place new o within)) here
        | inr apart ↦
            let next : (e - 1) + 1 ≡ e = omega arith in
            subst P (sym (ap (λ k. get_or (insert edges place new) k o) (sym next)
            ∙ get_or-insert_above edges place new o (e - 1) (omega arith) within))
            (others (e - 1) o (omega arith))
      ]
    ]

-- an edge that was there is still there
pub HasEdge-insert : (edges : List RootEdge) (place w y : ℕ) (new : RootEdge) → place ≤ length edges →
    HasEdge edges w y → HasEdge (insert edges place new) w y
HasEdge-insert edges place w y new within has =
    let longer = length-insert edges place new within in
    let inside = has.within in
    elim (cases_lt has.place place) [
      | inl lt ↦ record {
        place = has.place;
        within = omega arith;
        lower = λ o. ap (λ (d : RootEdge). d.lower) (get_or-insert_below edges place new o has.place lt within)
            ∙ has.lower o;
        upper = λ o. ap (λ (d : RootEdge). d.upper) (get_or-insert_below edges place new o has.place lt within)
            ∙ has.upper o;
      }
      | inr le ↦ record {
        place = has.place + 1;
        within = omega arith;
        lower = λ o. ap (λ (d : RootEdge). d.lower) (get_or-insert_above edges place new o has.place le within)
            ∙ has.lower o;
        upper = λ o. ap (λ (d : RootEdge). d.upper) (get_or-insert_above edges place new o has.place le within)
            ∙ has.upper o;
      }
    ]

-- the new edge is there
pub HasEdge-here : (edges : List RootEdge) (place : ℕ) (new : RootEdge) → place ≤ length edges →
    HasEdge (insert edges place new) new.lower new.upper
HasEdge-here edges place new within = record {
  place = place;
  within = omega (arith, length-insert edges place new within);
  lower = λ o. ap (λ (d : RootEdge). d.lower) (get_or-insert_at edges place new o within);
  upper = λ o. ap (λ (d : RootEdge). d.upper) (get_or-insert_at edges place new o within);
}

abbrev EdgeBefore : RootEdge → RootEdge → Type 0
EdgeBefore a b = ComesBefore a.lower a.upper b.lower b.upper

-- the order stays where the new edge goes between the lesser and the greater ones
pub order_inserted : (edges : List RootEdge) (place : ℕ) (new : RootEdge) → IsPlace edges new.lower new.upper place
    → ((d e : ℕ) (o : RootEdge) → d < e → e < length edges → EdgeBefore (get_or edges d o) (get_or edges e o))
    → (d e : ℕ) (o : RootEdge) → d < e → e < length (insert edges place new) →
    EdgeBefore (get_or (insert edges place new) d o) (get_or (insert edges place new) e o)
order_inserted edges place new is order d e o lt h =
    let within = is.within in
    let longer = length-insert edges place new within in
    elim (cases_lt e place) [
      | inl both ↦
          subst (λ a. EdgeBefore a (get_or (insert edges place new) e o))
          (sym (get_or-insert_below edges place new o d (omega arith) within))
          (subst (λ b. EdgeBefore (get_or edges d o) b) (sym (get_or-insert_below edges place new o e both within))
          (order d e o lt (omega arith)))
      | inr le ↦ elim (cases_eq e place) [
        | inl same ↦
            let at = ap (λ k. get_or (insert edges place new) k o) same ∙ get_or-insert_at edges place new o within in
            subst (λ b. EdgeBefore (get_or (insert edges place new) d o) b) (sym at)
            (subst (λ a. EdgeBefore a new) (sym (get_or-insert_below edges place new o d (omega arith) within))
            (is.before d o (omega arith)))
        | inr above ↦
            let next : (e - 1) + 1 ≡ e = omega arith in
            let upper_at = ap (λ k. get_or (insert edges place new) k o) (sym next)
            ∙ get_or-insert_above edges place new o (e - 1) (omega arith) within in
            subst (λ b. EdgeBefore (get_or (insert edges place new) d o) b) (sym upper_at)
            (elim (cases_lt d place) [
              | inl below ↦ subst (λ a. EdgeBefore a (get_or edges (e - 1) o))
                  (sym (get_or-insert_below edges place new o d below within))
                  (order d (e - 1) o (omega arith) (omega arith))
              | inr more ↦ elim (cases_eq d place) [
                | inl here ↦
                    let at = ap (λ k. get_or (insert edges place new) k o) here
                    ∙ get_or-insert_at edges place new o within in
                    subst (λ a. EdgeBefore a (get_or edges (e - 1) o)) (sym at)
                    (is.after (e - 1) o (omega arith) (omega arith))
                | inr far ↦
                    let back : (d - 1) + 1 ≡ d = omega arith in
                    let at = ap (λ k. get_or (insert edges place new) k o) (sym back)
                    ∙ get_or-insert_above edges place new o (d - 1) (omega arith) within in
                    subst (λ a. EdgeBefore a (get_or edges (e - 1) o)) (sym at)
                    (order (d - 1) (e - 1) o (omega arith) (omega arith))
              ]
            ])
      ]
    ]

module _ (roots : Roots) (list : List Elem) (once : HasEachOnce list) (x i : ℕ) (edges : List RootEdge)
    (so_far : HasEdgesUpTo roots list x i edges) where
  -- the reflection leads up to no vertex
  pub HasEdgesUpTo-none : ((y : ℕ) → IsEdgeOfRoot roots list x y i → ⊥) → HasEdgesUpTo roots list x (i + 1) edges
  HasEdgesUpTo-none none = record {
    few = omega (arith, so_far.few);
    order = so_far.order;
    each = λ e o h. IsFound-more roots list x i (get_or edges e o) (so_far.each e o h);
    all = λ w y j edge done. elim (IsDone-last x i w j done) [
      | inl earlier ↦ so_far.all w y j edge earlier
      | inr last ↦ absurd
          (none y (subst (λ k. IsEdgeOfRoot roots list x y k) last.1
          (subst (λ v. IsEdgeOfRoot roots list v y j) last.0 edge)))
    ];
  }

  -- it leads up to y, and the edge goes to its place
  pub HasEdgesUpTo-more : (place y : ℕ) → IsEdgeOfRoot roots list x y i → IsPlace edges x y place →
      HasEdgesUpTo roots list x (i + 1) (insert edges place (root_edge x y i))
  HasEdgesUpTo-more place y edge is =
      let within = is.within in
      let new : RootEdge = root_edge x y i in
      record {
        few = omega (arith, so_far.few, length-insert edges place new within);
        order = order_inserted edges place new is so_far.order;
        each = inserted_at (IsFound roots list x (i + 1)) edges place new within
            (record { done = inr (refl, omega arith); edge = edge })
            (λ e o h. IsFound-more roots list x i (get_or edges e o) (so_far.each e o h));
        all = λ w z j other done. elim (IsDone-last x i w j done) [
          | inl earlier ↦ HasEdge-insert edges place w z new within (so_far.all w z j other earlier)
          | inr last ↦
              let moved : IsEdgeOfRoot roots list x z i =
              subst (λ k. IsEdgeOfRoot roots list x z k) last.1
              (subst (λ v. IsEdgeOfRoot roots list v z j) last.0 other) in
              let ends = root_target roots list once x y z i edge moved in
              subst (λ v. HasEdge (insert edges place new) v z) (sym last.0)
              (subst (λ v. HasEdge (insert edges place new) x v) ends (HasEdge-here edges place new within))
        ];
      }

  -- the place behind the last edge that is not greater: none has the same ends
  pub IsPlace-found : (y place : ℕ) → IsEdgeOfRoot roots list x y i → place ≤ length edges
      → ((e : ℕ) (o : RootEdge) → place ≤ e → e < length edges →
      ComesBefore x y (get_or edges e o).lower (get_or edges e o).upper)
      → ((e : ℕ) (o : RootEdge) → e + 1 ≡ place → ComesBefore x y (get_or edges e o).lower (get_or edges e o).upper → ⊥)
      → IsPlace edges x y place
  IsPlace-found y place edge within after last = record { within = within; before = before; after = after }
    where
      apart : (e : ℕ) (o : RootEdge) → e < length edges → (get_or edges e o).lower ≡ x → (get_or edges e o).upper ≡ y →
          ⊥
      apart e o h starts ends =
          let found = so_far.each e o h in
          let number : ℕ = (get_or edges e o).root in
          let moved : IsEdgeOfRoot roots list x y number =
          subst (λ v. IsEdgeOfRoot roots list x v number) ends
          (subst (λ v. IsEdgeOfRoot roots list v (get_or edges e o).upper number) starts found.edge) in
          let same = root_is_unique roots list x y number i moved edge in
          elim found.done [ inl lt ↦ omega arith | inr q ↦ omega (arith, q.1) ]

      -- the last one before the place is less, and so are those before it
      at_last : (e : ℕ) (o : RootEdge) → e + 1 ≡ place →
          ComesBefore (get_or edges e o).lower (get_or edges e o).upper x y
      at_last e o is =
          elim (three_ways (get_or edges e o).lower (get_or edges e o).upper x y) [
            | inl less ↦ less
            | inr rest ↦ elim rest [
              | inl equal ↦ absurd (apart e o (omega arith) equal.0 equal.1)
              | inr greater ↦ absurd (last e o is greater)
            ]
          ]

      before : (e : ℕ) (o : RootEdge) → e < place → ComesBefore (get_or edges e o).lower (get_or edges e o).upper x y
      before e o h =
          elim (cases_eq (e + 1) place) [
            | inl here ↦ at_last e o here
            | inr earlier ↦
                ComesBefore-trans _ _ (get_or edges (place - 1) o).lower (get_or edges (place - 1) o).upper x y
                (so_far.order e (place - 1) o (omega arith) (omega arith)) (at_last (place - 1) o (omega arith))
          ]

-- all roots at a vertex are done
pub HasEdgesUpTo-row : (roots : Roots) (list : List Elem) (x i : ℕ) (edges : List RootEdge) →
    HasEdgesUpTo roots list x i edges → i ≡ length (positives roots)
    → HasEdgesUpTo roots list (x + 1) 0 edges
HasEdgesUpTo-row roots list x i edges so_far all_roots = record {
  few = let few = has_few_positives roots in omega (arith, so_far.few);
  order = so_far.order;
  each = λ e o h.
      let found = so_far.each e o h in
      record {
        done = inl (elim found.done [ inl lt ↦ omega arith | inr q ↦ omega (arith, q.0) ]);
        edge = found.edge;
      };
  all = λ w y j edge done.
      let below = slice_get_within (positives roots) j edge.pair edge.pair_is in
      so_far.all w y j edge (elim done [
        | inl lt ↦ elim (cases_eq w x) [ inl same ↦ inr (same, omega arith) | inr apart ↦ inl (omega arith) ]
        | inr q ↦ absurd (omega (arith, q.1))
      ]);
}
