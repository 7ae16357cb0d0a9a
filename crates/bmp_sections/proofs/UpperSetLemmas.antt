-- The tests of a set of vertices, one after another, and the set of the vertices above one as it is in memory.
use Rattle.std.proofs.Common.{◌≡◌, ℕ, ◌+◌, ◌<◌, ◌≤◌, ◌++◌, ◌↔◌, Bool, true, false, true≢false, cond, List, [], ◌∷◌, length, get_or, refl, sym, ap, subst, ◌∙◌, inl, inr, arith, zero, suc}
use Rattle.std.proofs.Math.ListN.{get_or-append}
use Rattle.std.proofs.Math.Seq.{get_or-append_seam}
use Rattle.std.proofs.lemmas.Bool.{cases_eq, cases_lt}
use Rattle.bmp_math.proofs.SumLemmas.{sum_below_same}
use Rattle.bmp_graph.specs.Graph.{Graph, IsGraph, vertex_count}
use Rattle.bmp_graph.proofs.GraphLemmas.{IsAbove-trans}
use Rattle.bmp_sheaf.specs.Sheaves.{SheafData}
use Rattle.bmp_sheaf.specs.Coordinates.{stalk_count}
use Rattle.bmp_sections.specs.Positions.{TestsAbove, position_count}
use Rattle.bmp_sections.specs.Numbers.{is_above}
use Rattle.bmp_sections.specs.Restrictions.{in_set, IsWithin}
use Rattle.bmp_sections.proofs.AboveLemmas.{test_is}
use Rattle.bmp_sections.proofs.PositionLemmas.{position_size}

-- one test more
pub tested_more :
    (P : ℕ → Type 0) (tests more : List Bool) (b : Bool) (n : ℕ) → length tests ≡ n → more ≡ tests ++ b ∷ [] →
    ((b ≡ true) ↔ P n) →
    ((z : ℕ) → z < n → ((get_or tests z false ≡ true) ↔ P z)) →
    (z : ℕ) → z < n + 1 → ((get_or more z false ≡ true) ↔ P z)
tested_more P tests more b n counted is here before z below = elim (cases_eq z n) [
  | inl last ↦
      let read : get_or more z false ≡ b =
      ap (λ xs. get_or xs z false) is ∙ ap (λ k. get_or (tests ++ b ∷ []) k false) (last ∙ sym counted)
      ∙ get_or-append_seam tests b [] false in
      let there : (b ≡ true) ↔ P z = subst (λ m. (b ≡ true) ↔ P m) (sym last) here in
      subst (λ c. (c ≡ true) ↔ P z) (sym read) there
  | inr other ↦
      let inside : z < length tests = omega arith in
      let read : get_or more z false ≡ get_or tests z false =
      ap (λ xs. get_or xs z false) is ∙ get_or-append tests (b ∷ []) false z inside in
      subst (λ c. (c ≡ true) ↔ P z) (sym read) (before z (omega arith))
]

-- no vertex past the tests is in the set
past_tests : (tests : List Bool) (y : ℕ) → length tests ≤ y → get_or tests y false ≡ false
past_tests [] y past = refl
past_tests (b ∷ bs) zero past = absurd (omega arith)
past_tests (b ∷ bs) (suc y) past = past_tests bs y (omega arith)

-- the set of the vertices above x
pub record IsAboveSet (G : Graph) (x : ℕ) (tests : List Bool) : Type 0 where
  pub counted : length tests ≡ vertex_count G
  pub tested : TestsAbove G x (λ y. get_or tests y false)

-- the set of an equal graph
pub read_set : {G H : Graph} {x : ℕ} {tests : List Bool} → H ≡ G → length tests ≡ vertex_count H →
    TestsAbove H x (λ y. get_or tests y false) → IsAboveSet G x tests
read_set {x = x} {tests = tests} same counted tested = record {
  counted = counted ∙ ap vertex_count same;
  tested = subst (λ (K : Graph). TestsAbove K x (λ y. get_or tests y false)) same tested;
}

module _ (G : Graph) (is : IsGraph G) (x : ℕ) (tests : List Bool) (set : IsAboveSet G x tests) where
  is_vertex : (y : ℕ) → in_set tests y ≡ true → y < vertex_count G
  is_vertex y here = elim (cases_lt y (length tests)) [
    | inl inside ↦ omega (arith, set.counted)
    | inr past ↦ absurd (true≢false (sym here ∙ past_tests tests y (omega arith)))
  ]

  tests_same : (y : ℕ) → y < vertex_count G → in_set tests y ≡ is_above G x y
  tests_same y below = sym (test_is G G is refl x y (in_set tests y) (set.tested y below))

  pub set_is_above : (y : ℕ) → in_set tests y ≡ true → is_above G x y ≡ true
  set_is_above y here = sym (tests_same y (is_vertex y here)) ∙ here

  pub set_count_same : (F : SheafData) (d : ℕ) →
      position_count G F (in_set tests) d ≡ position_count G F (is_above G x) d
  set_count_same F d =
      sum_below_same (position_size G F (in_set tests) d) (position_size G F (is_above G x) d) (vertex_count G)
      (λ y below. ap (λ (b : Bool). cond b (stalk_count G.rank (F.degrees y) d) 0) (tests_same y below))

  -- the set above a vertex of the set is within it
  pub set_within : (y : ℕ) (above : List Bool) → IsAboveSet G y above → in_set tests y ≡ true → IsWithin above tests
  set_within y above higher here z z_here =
      let below : z < vertex_count G = elim (cases_lt z (length above)) [
        | inl inside ↦ omega (arith, higher.counted)
        | inr past ↦ absurd (true≢false (sym z_here ∙ past_tests above z (omega arith)))
      ] in
      (set.tested z below).1
      (IsAbove-trans G z y x ((higher.tested z below).0 z_here) ((set.tested y (is_vertex y here)).0 here))
