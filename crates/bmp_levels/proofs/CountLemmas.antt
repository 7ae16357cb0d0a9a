-- How many members there are over the longer vertices, by vertex from the greatest down.
use Rattle.std.proofs.Common.{◌≡◌, ◌≢◌, ℕ, suc, ◌+◌, ◌-◌, ◌*◌, ◌<◌, ◌≤◌, List, length, get_or, set}
use Rattle.std.proofs.Common.{sym, ap, ◌∙◌, inl, inr, arith, length-set, get_or-set_same, get_or-set_other}
use Rattle.std.proofs.lemmas.Bool.{cases_eq, cases_lt}
use Rattle.bmp_math.specs.Sums.{sum_below}
use Rattle.bmp_math.proofs.SumLemmas.{sum_below_same, sum_below_joined, sum_below_more, sum_below-zero}
use Rattle.bmp_poly.specs.Exponents.{count}
use Rattle.bmp_graph.specs.Graph.{Graph, IsGraph, vertex_count, length_at}
use Rattle.bmp_linear.specs.declared.blocks.DegreeBlock.{DegreeBlock}
use Rattle.bmp_levels.specs.Families.{falling, shorter_at, member_count}
use Rattle.bmp_levels.proofs.MemberValues.{sum_none}
use Rattle.bmp_levels.proofs.Families.{sum_turned, held, held_level, held_short, held_sum}

-- the first b vertices from the greatest down are counted
pub record AreCounted (G : Graph) (d : ℕ) (block : ℕ → DegreeBlock) (b sum : ℕ) (counts : List ℕ) : Type 0 where
  pub sized : length counts ≡ vertex_count G
  pub total : sum ≡ count G.rank d + sum_below (λ z. shorter_at G (vertex_count G - 1) block (falling G z)) b
  pub small : sum ≤ 462 + b * 4294967296
  pub each :
      (x : ℕ) → x < vertex_count G → vertex_count G ≤ x + b →
      get_or counts x 0 ≡ member_count G d (vertex_count G - 1) block (suc (length_at G x))

module _ (G : Graph) (d : ℕ) (block : ℕ → DegreeBlock) where
  abbrev top : ℕ
  top = vertex_count G - 1

  abbrev at_falling : ℕ → ℕ
  at_falling z = shorter_at G (vertex_count G - 1) block (falling G z)

  -- where the first b vertices are those of level k
  level_sum :
      (k b : ℕ) → b ≤ vertex_count G → ((y : ℕ) → y < vertex_count G → vertex_count G ≤ y + b → k ≤ length_at G y) →
      ((y : ℕ) → y + b < vertex_count G → length_at G y < k) →
      count G.rank d + sum_below at_falling b ≡ member_count G d (vertex_count G - 1) block k
  level_sum k b within long short =
      let n = vertex_count G in
      let f : ℕ → ℕ = λ z. held G top block k (falling G z) in
      let parts : b + (vertex_count G - b) ≡ vertex_count G = omega (arith, within) in
      let whole : sum_below f (b + (vertex_count G - b)) ≡ held_sum G top block k =
      ap (sum_below f) parts ∙ sum_turned (held G top block k) (vertex_count G) in
      let first : sum_below f b ≡ sum_below at_falling b =
      sum_below_same f at_falling b
      (λ z below. held_level G top block k (falling G z)
      (long (falling G z) (omega (arith, below, within)) (omega (arith, below, within)))) in
      let rest : sum_below (λ i. f (b + i)) (vertex_count G - b) ≡ 0 =
      sum_none (λ i. f (b + i)) (vertex_count G - b)
      (λ i below. held_short G top block k (falling G (b + i)) (short (falling G (b + i)) (omega (arith, below)))) in
      omega (arith, whole, first, rest, sum_below_joined f b (vertex_count G - b))

  pub counted_first :
      (sum : ℕ) (counts : List ℕ) → length counts ≡ vertex_count G → sum ≡ count G.rank d → sum ≤ 462 →
      AreCounted G d block 0 sum counts
  counted_first sum counts sized is small = record {
    sized = sized;
    total = omega (arith, is, sum_below-zero at_falling);
    small = omega (arith, small);
    each = λ x below there. absurd (omega (arith, below, there));
  }

  module _ (x : ℕ) {b sum : ℕ} {counts : List ℕ} (is : IsGraph G) (h : AreCounted G d block b sum counts)
      (at : x + suc b ≡ vertex_count G) where
    -- a vertex as long as the next greater one, or one that is shorter
    pub count_is :
        (number : ℕ) →
        (x + 1 < vertex_count G → length_at G x ≡ length_at G (x + 1) → number ≡ get_or counts (x + 1) 0) →
        ((x + 1 < vertex_count G → length_at G x ≢ length_at G (x + 1)) → number ≡ sum) →
        number ≡ member_count G d (vertex_count G - 1) block (suc (length_at G x))
    count_is number same shorter = elim (cases_lt (x + 1) (vertex_count G)) [
      | inl more ↦ elim (cases_eq (length_at G x) (length_at G (x + 1))) [
        | inl equal ↦
            same more equal ∙ h.each (x + 1) more (omega (arith, at))
            ∙ ap (λ n. member_count G d (vertex_count G - 1) block (suc n)) (sym equal)
        | inr less ↦ own number (shorter (λ m. less)) (λ m. less)
      ]
      | inr last ↦ own number (shorter (λ m. absurd (omega (arith, m, last)))) (λ m. absurd (omega (arith, m, last)))
    ]
      where
        own :
            (number : ℕ) → number ≡ sum → (x + 1 < vertex_count G → length_at G x ≢ length_at G (x + 1)) →
            number ≡ member_count G d (vertex_count G - 1) block (suc (length_at G x))
        own number is_sum less =
            is_sum ∙ h.total
            ∙ level_sum (suc (length_at G x)) b (omega (arith, at))
            (λ y below there.
            let more : x + 1 < vertex_count G = omega (arith, below, there, at) in
            let next : length_at G x ≤ length_at G (x + 1) = is.lengths_rise x (x + 1) (omega arith) more in
            let high : length_at G (x + 1) ≤ length_at G y =
            is.lengths_rise (x + 1) y (omega (arith, there, at)) below in
            let other = less more in
            omega (arith, next, high, other))
            (λ y before.
            let low : length_at G y ≤ length_at G x =
            is.lengths_rise y x (omega (arith, before, at)) (omega (arith, at)) in
            omega (arith, low))

    pub counted_more :
        (number more next : ℕ) → number ≡ member_count G d (vertex_count G - 1) block (suc (length_at G x)) →
        more ≡ shorter_at G (vertex_count G - 1) block x → more < 4294967296 → next ≡ sum + more →
        AreCounted G d block (b + 1) next (set counts x number)
    counted_more number more next number_is more_is few next_is = record {
      sized = length-set counts x number ∙ h.sized;
      total =
          let turned : falling G b ≡ x = omega (arith, at) in
          omega (
            arith,
            next_is,
            more_is,
            h.total,
            sum_below_more at_falling b,
            ap (shorter_at G (vertex_count G - 1) block) turned,
          );
      small = omega (arith, next_is, few, h.small);
      each = λ y below there. elim (cases_eq y x) [
        | inl same ↦
            ap (λ n. get_or (set counts x number) n 0) same
            ∙ get_or-set_same counts x number 0 (omega (arith, at, h.sized)) ∙ number_is
            ∙ ap (λ n. member_count G d (vertex_count G - 1) block (suc (length_at G n))) (sym same)
        | inr other ↦
            get_or-set_other counts x y number 0 other ∙ h.each y below (omega (arith, there, at, other))
      ];
    }
