-- The members of an extension are independent.
use Rattle.std.proofs.Common.{◌≡◌, ◌≢◌, ℕ, suc, ◌+◌, ◌-◌, ◌*◌, ◌%◌, ◌<◌, length}
use Rattle.std.proofs.Common.{refl, sym, ap, ◌∙◌, inl, inr, arith}
use Rattle.std.proofs.lemmas.Bool.{cases_eq, cases_lt}
use Rattle.bmp_math.specs.Congruences.{SameMod}
use Rattle.bmp_math.specs.Sums.{sum_below}
use Rattle.bmp_math.proofs.BlockLemmas.{InBlock, block_of}
use Rattle.bmp_math.proofs.CongruenceLemmas.{same_add, zero_mul, mul_zero, mul_one}
use Rattle.bmp_math.proofs.SumLemmas.{sum_zero_mod, sum_only_mod}
use Rattle.bmp_math.proofs.UnitLemmas.{unit_same, unit_other}
use Rattle.bmp_graph.specs.Graph.{Graph, vertex_count, length_at}
use Rattle.bmp_linear.specs.declared.blocks.DegreeBlock.{DegreeBlock}
use Rattle.bmp_linear.specs.Evidence.{vector_at}
use Rattle.bmp_sheaf.specs.Elements.{zero_element}
use Rattle.bmp_sheaf.specs.Sheaves.{SheafData}
use Rattle.bmp_sheaf.specs.Coordinates.{stalk_count}
use Rattle.bmp_sheaf.proofs.Components.{IsStalkPlace, stalk_place_of}
use Rattle.bmp_sections.specs.TupleLists.{TupleList}
use Rattle.bmp_cover.specs.Evidence.{combined_tuple}
use Rattle.bmp_levels.specs.Levels.{level}
use Rattle.bmp_levels.specs.Families.{falling, new_at, new_start, new_count}
use Rattle.bmp_levels.specs.Bases.{SameOver, AreIndependent}
use Rattle.bmp_levels.specs.Evidence.{ExtendsBy}
use Rattle.bmp_levels.specs.Statements.{ExtensionKeepsIndependence}
use Rattle.bmp_levels.proofs.MemberValues.{falling_twice, new_at_is, new_at_none, old_members, members, all_count}
use Rattle.bmp_levels.proofs.MemberValues.{coordinate}
use Rattle.bmp_levels.proofs.MemberValues.{combined_away, combined_here}
use Rattle.bmp_levels.proofs.KernelVectors.{free_place, free_within, basis_unit}

module _ {G : Graph} {F : SheafData} {k d : ℕ} {block : ℕ → DegreeBlock} {list : TupleList}
    (by : ExtendsBy G F k d block list)
    (old : AreIndependent G F (level G (suc k)) d (old_members G F k d block list) list.count) where
  module _ (c : ℕ → ℕ)
      (none : SameOver G F (level G k) d (combined_tuple c (members G F k d block list) (all_count G F k d block list))
      (λ y. zero_element)) where
    -- over the longer vertices there are only the old members
    old_none :
        SameOver G F (level G (suc k)) d (combined_tuple c (old_members G F k d block list) list.count)
        (λ y. zero_element)
    old_none y below long g t has m is =
        let other : length_at G y ≢ k = λ e. omega arith in
        ap (λ z. z % G.prime) (sym (combined_away G F k d block list c y g m other))
        ∙ none y below (omega arith) g t has m is

    old_zero : (j : ℕ) → j < list.count → SameMod G.prime (c j) 0
    old_zero j inside = old.independent c old_none j inside

    -- at a vertex of length k there remains the combination of the basis
    module _ (y : ℕ) (below : y < vertex_count G) (here : length_at G y ≡ k) where
      abbrev own : ℕ → ℕ
      own i = c (list.count + (new_start G k block y + i))

      abbrev basis_sum : ℕ → ℕ
      basis_sum n = sum_below (λ i. own i * vector_at (block y).kernel.basis i n) (length (block y).kernel.basis)

      basis_none : (n : ℕ) → n < stalk_count G.rank (F.degrees y) d → SameMod G.prime (basis_sum n) 0
      basis_none n inside =
          let stands : IsStalkPlace G.rank d (F.degrees y) n = stalk_place_of G.rank d (F.degrees y) by.wide n inside in
          let g = stands.generator in
          let m = stands.monomial in
          let t = members G F k d block list in
          let before : SameMod G.prime (combined_tuple c t list.count y stands.generator stands.monomial) 0 =
          sum_zero_mod G.prime (λ j. c j * t j y g m) list.count
          (λ j l. zero_mul G.prime (c j) (t j y g m) (old_zero j l)) in
          let total : SameMod G.prime (combined_tuple c t list.count y g m + basis_sum
          (coordinate G F k d block list y stands.generator stands.monomial)) 0 =
          ap (λ z. z % G.prime) (sym (combined_here G F k d block list c y g m below here))
          ∙ none y below (omega arith) g stands.degree stands.has m stands.is_monomial in
          let alone : SameMod G.prime (combined_tuple c t list.count y g m + basis_sum
          (coordinate G F k d block list y g m)) (0 + basis_sum (coordinate G F k d block list y g m)) =
          same_add G.prime (combined_tuple c t list.count y g m) 0 (basis_sum (coordinate G F k d block list y g m))
          (basis_sum (coordinate G F k d block list y g m)) before refl in
          let zero_left : 0 + basis_sum (coordinate G F k d block list y g m)
          ≡ basis_sum n = omega (arith, ap basis_sum stands.is) in
          ap (λ z. z % G.prime) (sym zero_left) ∙ sym alone ∙ total

      own_zero : (i : ℕ) → i < length (block y).kernel.basis → SameMod G.prime (own i) 0
      own_zero i inside =
          let h = by.kernels y below here in
          let basis = (block y).kernel.basis in
          let at = free_place by.over by.wide h i in
          let picked : SameMod G.prime (basis_sum (free_place by.over by.wide h i)) (own i * vector_at basis i at) =
          sum_only_mod G.prime (λ t. own t * vector_at basis t at) (length basis) i inside
          (λ t l other. mul_zero G.prime (own t) (vector_at basis t at)
          (ap (λ z. z % G.prime) (basis_unit by.over by.wide h t i l inside ∙ unit_other i t (λ e. other (sym e))))) in
          let one : SameMod G.prime (own i * vector_at basis i at) (own i) =
          mul_one G.prime (own i) (vector_at basis i at)
          (ap (λ z. z % G.prime) (basis_unit by.over by.wide h i i inside inside ∙ unit_same i)) in
          sym (picked ∙ one) ∙ basis_none at (free_within by.over by.wide h i inside)

    -- each new member stands at a vertex of length k
    new_zero : (i : ℕ) → i < new_count G k block → SameMod G.prime (c (list.count + i)) 0
    new_zero i inside =
        let size : ℕ → ℕ = λ b. new_at G k block (falling G b) in
        let at : InBlock size (vertex_count G) i = block_of size (vertex_count G) i inside in
        let y = falling G at.block in
        let below : falling G at.block < vertex_count G = omega (arith, at.below) in
        let turned : falling G (falling G at.block) ≡ at.block = falling_twice G at.block at.below in
        elim (cases_eq (length_at G (falling G at.block)) k) [
          | inl here ↦
              let place : list.count + (new_start G k block y + at.place) ≡ list.count + i =
              ap (λ b. list.count + (sum_below size b + at.place)) turned ∙ ap (λ n. list.count + n) (sym at.is) in
              ap (λ n. c n % G.prime) (sym place)
              ∙ own_zero y below here at.place (omega (arith, at.inside, new_at_is G k block y here))
          | inr other ↦ absurd (omega (arith, at.inside, new_at_none G k block y other))
        ]

    all_zero : (j : ℕ) → j < all_count G F k d block list → SameMod G.prime (c j) 0
    all_zero j inside = elim (cases_lt j list.count) [
      | inl is_old ↦ old_zero j is_old
      | inr is_new ↦
          let rest : list.count + (j - list.count) ≡ j = omega arith in
          ap (λ n. c n % G.prime) (sym rest) ∙ new_zero (j - list.count) (omega arith)
    ]

  pub are_independent : AreIndependent G F (level G k) d (members G F k d block list) (all_count G F k d block list)
  are_independent = record { independent = λ c none j inside. all_zero c none j inside }

pub extension_keeps_independence : ExtensionKeepsIndependence
extension_keeps_independence G F k d block list by old = are_independent by old
