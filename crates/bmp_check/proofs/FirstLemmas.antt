-- The first block that is refused, of some of the blocks.
use Rattle.std.proofs.Common.{ℕ, ◌+◌, ◌/◌, ◌<◌, ◌≤◌, ◌⊎◌, Option, Some, None, ltb, sym, subst, inl, inr, arith}
use Rattle.std.proofs.Math.Nat.{mod-lt}
use Rattle.std.proofs.lemmas.Bool.{cases_eq, cases_lt, cond-true, cond-false, lt-ltb, le-ltb}
use Rattle.bmp_check.specs.declared.kept.Kept.{Kept}
use Rattle.bmp_check.specs.declared.shaped.Shaped.{Shaped}
use Rattle.bmp_graph.specs.Graph.{vertex_count}
use Rattle.bmp_check.specs.BlockOrder.{block_count}
use Rattle.bmp_check.specs.NumberedBlocks.{HasNumbered, PassesAt}
use Rattle.bmp_check.specs.FirstRefusals.{IsFirstIn, KeepsFirst, earlier, piece_of, IsOwn, IsOfFirst}
use Rattle.bmp_check.specs.ShapedViews.{graph_in, method_at, cert_in}
use Rattle.bmp_check.specs.Verdicts.{BlocksPass, IsFirstBlockRefusal}
use Rattle.bmp_check.proofs.NumberLemmas.{all_blocks, first_block}

module _ {s : Shaped} {A B : ℕ → Type 0} where
  -- of the blocks of both, where the other keeps none or a later one
  pub first_of_both :
      (a : Kept) → IsFirstIn s A a → ((i : ℕ) → i < a.block → B i → PassesAt s i) → IsFirstIn s (λ i. A i ⊎ B i) a
  first_of_both a first others = record {
    numbered = first.numbered;
    own = inl first.own;
    refused = first.refused;
    differ = first.differ;
    earlier = λ i before own. elim own [ inl mine ↦ first.earlier i before mine | inr its ↦ others i before its ];
  }

  pub second_of_both :
      (b : Kept) → IsFirstIn s B b → ((i : ℕ) → i < b.block → A i → PassesAt s i) → IsFirstIn s (λ i. A i ⊎ B i) b
  second_of_both b first others = record {
    numbered = first.numbered;
    own = inr first.own;
    refused = first.refused;
    differ = first.differ;
    earlier = λ i before own. elim own [ inl its ↦ others i before its | inr mine ↦ first.earlier i before mine ];
  }

-- of the same blocks, otherwise described
pub keeps_same :
    (s : Shaped) (A B : ℕ → Type 0) → ((i : ℕ) → A i → B i) → ((i : ℕ) → B i → A i) → (kept : Option Kept) →
    KeepsFirst s A kept → KeepsFirst s B kept
keeps_same s A B into from None h = λ i numbered own. h i numbered (from i own)
keeps_same s A B into from (Some kept) h = record {
  numbered = h.numbered;
  own = into kept.block h.own;
  refused = h.refused;
  differ = h.differ;
  earlier = λ i before own. h.earlier i before (from i own);
}

pub keeps_earlier :
    (s : Shaped) (A B : ℕ → Type 0) (a b : Option Kept) → KeepsFirst s A a → KeepsFirst s B b →
    KeepsFirst s (λ i. A i ⊎ B i) (earlier a b)
keeps_earlier s A B None None first second =
    λ i numbered own. elim own [ inl mine ↦ first i numbered mine | inr its ↦ second i numbered its ]
keeps_earlier s A B None (Some b) first second =
    second_of_both b second (λ i before mine. first i (before_numbered i before) mine)
  where
    before_numbered : (i : ℕ) → i < b.block → HasNumbered s i
    before_numbered i before = let inside = second.numbered in omega (arith, before, inside)
keeps_earlier s A B (Some a) None first second =
    first_of_both a first (λ i before its. second i (before_numbered i before) its)
  where
    before_numbered : (i : ℕ) → i < a.block → HasNumbered s i
    before_numbered i before = let inside = first.numbered in omega (arith, before, inside)
keeps_earlier s A B (Some a) (Some b) first second = elim (cases_lt b.block a.block) [
  | inl before ↦
      subst (KeepsFirst s (λ i. A i ⊎ B i))
      (sym (cond-true {A = Option Kept} (ltb b.block a.block) (Some b) (Some a) (lt-ltb b.block a.block before)))
      (second_of_both b second (λ i earlier mine. first.earlier i (omega (arith, earlier, before)) mine))
  | inr past ↦
      subst (KeepsFirst s (λ i. A i ⊎ B i))
      (sym (cond-false {A = Option Kept} (ltb b.block a.block) (Some b) (Some a) (le-ltb b.block a.block past)))
      (first_of_both a first (λ i earlier its. second.earlier i (omega (arith, earlier, past)) its))
]

-- the blocks of the first pieces
pub none_of_first : (s : Shaped) (workers : ℕ) → KeepsFirst s (IsOfFirst s workers 0) None
none_of_first s workers i numbered own = absurd (omega (arith, own))

pub one_more :
    (s : Shaped) (workers n : ℕ) (a b : Option Kept) → KeepsFirst s (IsOfFirst s workers n) a →
    KeepsFirst s (IsOwn s workers n) b → KeepsFirst s (IsOfFirst s workers (n + 1)) (earlier a b)
one_more s workers n a b first second =
    keeps_same s (λ i. IsOfFirst s workers n i ⊎ IsOwn s workers n i) (IsOfFirst s workers (n + 1))
    (λ i own. elim own [ inl before ↦ omega (arith, before) | inr last ↦ omega (arith, last) ])
    (λ i below. elim (cases_eq (piece_of (cert_in s).degree workers i) n) [
      | inl same ↦ inr same
      | inr other ↦ inl (omega (arith, below, other))
    ])
    (earlier a b) (keeps_earlier s (IsOfFirst s workers n) (IsOwn s workers n) a b first second)

-- each block is of one of all pieces
of_all : (s : Shaped) (workers i : ℕ) → 1 ≤ workers → IsOfFirst s workers workers i
of_all s workers i some = mod-lt (i / ((cert_in s).degree + 1)) (omega (arith, some))

pub all_of_pieces :
    (s : Shaped) (workers : ℕ) → 1 ≤ workers → KeepsFirst s (IsOfFirst s workers workers) None →
    BlocksPass (graph_in s) (method_at s) (cert_in s)
all_of_pieces s workers some h =
    all_blocks s (block_count (vertex_count (graph_in s)) (cert_in s).degree) (omega arith)
    (λ i below. h i below (of_all s workers i some))

pub first_of_pieces :
    (s : Shaped) (workers : ℕ) (kept : Kept) → 1 ≤ workers → KeepsFirst s (IsOfFirst s workers workers) (Some kept) →
    IsFirstBlockRefusal (graph_in s) (method_at s) (cert_in s) kept.refusal
first_of_pieces s workers kept some h =
    first_block s kept.block h.numbered (λ i before. h.earlier i before (of_all s workers i some)) kept.refusal
    h.refused
