-- Blocks by number, and what holds of all blocks before one.
use Rattle.std.proofs.Common.{◌≡◌, ℕ, ◌+◌, ◌-◌, ◌*◌, ◌/◌, ◌%◌, ◌<◌, ◌≤◌, ◌↔◌, ap, subst, sym, inl, inr, arith, below_more}
use Rattle.std.proofs.lemmas.Bool.{cases_eq, cases_lt}
use Rattle.std.proofs.lemmas.Nat.{div-mul-add, mod-mul-add, div-add-mod', div_below, mod_below}
use Rattle.bmp_graph.specs.Graph.{Graph, vertex_count}
use Rattle.bmp_cert.specs.Counts.{Written}
use Rattle.bmp_cert.proofs.CountLemmas.{place_below}
use Rattle.bmp_check.specs.BlockOrder.{block_count, block_vertex, block_degree, HasNumber, AreNumbered}
use Rattle.bmp_check.specs.Verdicts.{HasBlock, BlockIsBefore}

module _ (n D : ℕ) where
  row_below : (i : ℕ) → i < block_count n D → i / (D + 1) < n - 1
  row_below i below = div_below i (D + 1) (n - 1) (omega arith) below

  numbered_at : (x d : ℕ) → x + 1 < n → d ≤ D → HasNumber n D x d ((n - 2 - x) * (D + 1) + d)
  numbered_at x d vertex degree =
      let row : ((n - 2 - x) * (D + 1) + d) / (D + 1) ≡ n - 2 - x = div-mul-add (n - 2 - x) (D + 1) d (omega arith) in
      record {
        below = place_below (n - 2 - x) (n - 1) d (D + 1) (omega arith) (omega arith);
        vertex = omega (arith, row);
        degree = mod-mul-add (n - 2 - x) (D + 1) d (omega arith);
      }

  -- a number of an earlier row is smaller
  row_before : (i j : ℕ) → i / (D + 1) < j / (D + 1) → i < j
  row_before i j less =
      let at_i : i / (D + 1) * (D + 1) + i % (D + 1) ≡ i = div-add-mod' i (D + 1) in
      let at_j : j / (D + 1) * (D + 1) + j % (D + 1) ≡ j = div-add-mod' j (D + 1) in
      let earlier : i / (D + 1) * (D + 1) + i % (D + 1) < j / (D + 1) * (D + 1) =
      place_below (i / (D + 1)) (j / (D + 1)) (i % (D + 1)) (D + 1) less (mod_below i (D + 1) (omega arith)) in
      omega (arith, at_i, at_j, earlier)

  same_row : (i j : ℕ) → i / (D + 1) ≡ j / (D + 1) → (i < j) ↔ (i % (D + 1) < j % (D + 1))
  same_row i j same =
      let at_i : i / (D + 1) * (D + 1) + i % (D + 1) ≡ i = div-add-mod' i (D + 1) in
      let at_j : j / (D + 1) * (D + 1) + j % (D + 1) ≡ j = div-add-mod' j (D + 1) in
      let rows : i / (D + 1) * (D + 1) ≡ j / (D + 1) * (D + 1) = ap (λ q. q * (D + 1)) same in
      ((λ l. omega (arith, at_i, at_j, rows, l)), (λ l. omega (arith, at_i, at_j, rows, l)))

  in_order : (i j : ℕ) → i < block_count n D → j < block_count n D →
      (i < j) ↔ BlockIsBefore (block_vertex n D i) (block_degree D i) (block_vertex n D j) (block_degree D j)
  in_order i j i_below j_below =
      let i_row = row_below i i_below in
      let j_row = row_below j j_below in (
        (λ less. elim (cases_lt (i / (D + 1)) (j / (D + 1))) [
          | inl before ↦ inl (omega (arith, before, j_row))
          | inr from ↦ elim (cases_eq (i / (D + 1)) (j / (D + 1))) [
            | inl same ↦ inr (ap (λ q. n - 2 - q) same, (same_row i j same).0 less)
            | inr other ↦ let after : j < i = row_before j i (omega (arith, from, other)) in
                absurd (omega (arith, after, less))
          ]
        ]),
        (λ before. elim before [
          | inl falls ↦ row_before i j (omega (arith, falls))
          | inr level ↦ (same_row i j (omega (arith, level.0, i_row, j_row))).1 level.1
        ]),
      )

pub blocks_numbered : (n D : ℕ) → AreNumbered n D
blocks_numbered n D = record {
  number = λ x d vertex degree. ((n - 2 - x) * (D + 1) + d, numbered_at n D x d vertex degree);
  is_block = λ i below. (omega (arith, row_below n D i below), omega (arith, mod_below i (D + 1) (omega arith)));
  order = in_order n D;
}

-- what holds of the blocks with smaller numbers
abbrev pub HoldsBefore : (ℕ → ℕ → Type 0) → ℕ → ℕ → ℕ → Type 0
HoldsBefore P n D i = (k : ℕ) → k < i → P (block_vertex n D k) (block_degree D k)

module _ (P : ℕ → ℕ → Type 0) (n D : ℕ) where
  at_number : (x d k : ℕ) → HasNumber n D x d k → P (block_vertex n D k) (block_degree D k) → P x d
  at_number x d k has holds = subst (P x) has.degree (subst (λ y. P y (block_degree D k)) has.vertex holds)

  pub holds_of_all : HoldsBefore P n D (block_count n D) → (x d : ℕ) → x + 1 < n → d ≤ D → P x d
  holds_of_all holds x d vertex degree =
      let k = (n - 2 - x) * (D + 1) + d in
      let has : HasNumber n D x d k = numbered_at n D x d vertex degree in
      at_number x d k has (holds k has.below)

  pub holds_of_earlier : (i : ℕ) → i < block_count n D → HoldsBefore P n D i → (x d : ℕ) → x + 1 < n → d ≤ D →
      BlockIsBefore x d (block_vertex n D i) (block_degree D i) → P x d
  holds_of_earlier i below holds x d vertex degree before =
      let k = (n - 2 - x) * (D + 1) + d in
      let has : HasNumber n D x d k = numbered_at n D x d vertex degree in
      let read : BlockIsBefore (block_vertex n D k) (block_degree D k) (block_vertex n D i) (block_degree D i) =
      subst (λ y. BlockIsBefore y (block_degree D k) (block_vertex n D i) (block_degree D i)) (sym has.vertex)
      (subst (λ e. BlockIsBefore x e (block_vertex n D i) (block_degree D i)) (sym has.degree) before) in
      at_number x d k has (holds k ((in_order n D k i has.below below).1 read))

-- ---- the loop over the blocks of a certificate: x and d are those of the block number i, and P says that a block
-- passes

module _ (G : Graph) (c : Written) (P : ℕ → ℕ → Type 0) (n D i : ℕ) (vertices : n ≡ vertex_count G)
    (bound : D ≡ c.degree) (holds : HoldsBefore P n D i) where
  pub blocks_all : block_count n D ≤ i → (x d : ℕ) → HasBlock G c x d → P x d
  blocks_all past x d block =
      holds_of_all P n D (λ k below. holds k (omega arith)) x d (omega (arith, block.0, vertices))
      (omega (arith, block.1, bound))

  module _ (x d : ℕ) (below : i < block_count n D) (vertex : x ≡ block_vertex n D i) (degree : d ≡ block_degree D i)
    where
      pub blocks_here : HasBlock G c x d
      blocks_here =
          let is_block = (blocks_numbered n D).is_block i below in
          (omega (arith, vertex, is_block.0, vertices), omega (arith, degree, is_block.1, bound))

      pub blocks_earlier : (y e : ℕ) → HasBlock G c y e → BlockIsBefore y e x d → P y e
      blocks_earlier y e block before =
          holds_of_earlier P n D i below holds y e (omega (arith, block.0, vertices)) (omega (arith, block.1, bound))
          (subst (λ z. BlockIsBefore y e z (block_degree D i)) vertex
          (subst (λ z. BlockIsBefore y e x z) degree before))

      -- the block passes too
      pub blocks_more : P x d → HoldsBefore P n D (i + 1)
      blocks_more here =
          below_more (λ k. P (block_vertex n D k) (block_degree D k)) i holds
          (subst (λ z. P z (block_degree D i)) vertex (subst (P x) degree here))
