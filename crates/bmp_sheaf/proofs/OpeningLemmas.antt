-- Stalks that are added one by one at the vertices of one length.
use Rattle.std.proofs.Common.{◌≡◌, ℕ, ◌+◌, ◌-◌, ◌<◌, ◌≤◌, List, [], ◌∷◌, ◌++◌, length, take, sym, ap, subst, ◌∙◌, inl, inr, arith}
use Rattle.std.proofs.lemmas.Bool.{cases_lt}
use Rattle.std.proofs.lemmas.List.{length_push, take_all, take-append-le}
use Rattle.bmp_graph.specs.Graph.{Graph, vertex_count, length_at}
use Rattle.bmp_sheaf.specs.States.{Stalk, SheafState, next_vertex, with_stalk}
use Rattle.bmp_sheaf.specs.Openings.{IsOpened}

-- stalks at some of the vertices of a length
pub record IsOpening {A : Type 0} (old s : SheafState A) (k : ℕ) : Type 0 where
  pub begins : old ≡ record s { stalks = take (length old.stalks) s.stalks }
  pub more : length old.stalks ≤ length s.stalks
  pub few : length s.stalks ≤ vertex_count old.graph
  pub own :
      (y : ℕ) → y + length old.stalks < vertex_count old.graph → vertex_count old.graph ≤ y + length s.stalks →
      length_at old.graph y ≡ k

module _ {A : Type 0} {old : SheafState A} {k : ℕ} where
  pub none_opened : length old.stalks ≤ vertex_count old.graph → IsOpening old old k
  none_opened few = record {
    begins =
        ap (λ (l : List Stalk). let made : SheafState A = record old { stalks = l } in made)
        (sym (take_all (length old.stalks) old.stalks (omega arith)));
    more = omega arith;
    few = few;
    own = λ y missing there. absurd (omega (arith, missing, there));
  }

  pub one_opened : {s new : SheafState A} → IsOpening old s k → (t : Stalk) → new ≡ with_stalk s t →
      length s.stalks < vertex_count s.graph → length_at s.graph (next_vertex s) ≡ k → IsOpening old new k
  one_opened {s = s} h t pushed left here =
      let same : vertex_count old.graph ≡ vertex_count s.graph =
      ap (λ (u : SheafState A). vertex_count u.graph) h.begins in
      let counted : length (s.stalks ++ t ∷ []) ≡ length s.stalks + 1 = length_push s.stalks t in
      subst (λ (u : SheafState A). IsOpening old u k) (sym pushed) (record {
        begins =
            h.begins
            ∙ ap (λ (l : List Stalk). let made : SheafState A = record s { stalks = l } in made)
            (sym (take-append-le (length old.stalks) s.stalks (t ∷ []) h.more));
        more = let more = h.more in omega (arith, more, counted);
        few = omega (arith, left, counted, same);
        own = λ y missing there. elim (cases_lt (y + length s.stalks) (vertex_count old.graph)) [
          | inl last ↦
              let is : next_vertex s ≡ y = omega (arith, last, there, counted, same) in
              subst (λ (H : Graph). length_at H y ≡ k) (sym (ap (λ (u : SheafState A). u.graph) h.begins))
              (subst (λ z. length_at s.graph z ≡ k) is here)
          | inr before ↦ h.own y missing before
        ];
      })

  pub all_opened : {s : SheafState A} → IsOpening old s k →
      ((length s.stalks < vertex_count s.graph) × (length_at s.graph (next_vertex s) ≡ k) → ⊥) → {n : ℕ} →
      n ≡ length s.stalks - length old.stalks → IsOpened old s k n
  all_opened h none {n} is = record {
    begins = h.begins;
    counted = let more = h.more in omega (arith, is, more);
    few = h.few;
    own = h.own;
    all = none;
  }
