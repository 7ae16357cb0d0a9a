use Rattle.std.proofs.Common.{◌≡◌, ◌≤◌, ◌+◌, ◌-◌, ◌*◌, ◌/◌, ◌^◌, ◌∙◌, ℕ, arith, refl, sym, ap, ap₂, subst, false, rules, get_or, pos, ◌+ℤ◌, ◌*ℤ◌}
use Rattle.std.specs.Prelude.{FitsSigned}
use Rattle.std.proofs.lemmas.Int.{ints, to_z-of_z}
use mir.Syntax.{w128}
use mir.Val.{SFits, to_z, of_z}
use Rattle.bmp_math.specs.Integers.{IsWithin}
use Rattle.bmp_kl.specs.BarRows.{row_value}
use Rattle.bmp_kl.specs.PartLists.{IsRowAdded}
use Rattle.bmp_kl.proofs.RowLemmas.{read}
use Rattle.bmp_kl.proofs.PartLemmas.{row_none, row_next, row_dead}
use Rattle.bmp_kl.proofs.parts.add_row.Goals as goal

pub loop-j-init : goal.loop-j-init
loop-j-init c = row_none c.args.start c.args.gap _ (row_value c.args.rows.now.values.items c.args.x)
    c.args.parts.now.items

at_most : (a b m : ℕ) → a ≡ b → b ≤ m → a ≤ m
at_most a b m e l = omega arith

pub plus_product-requires : goal.plus_product-requires
plus_product-requires c =
    let place : ℕ = c.args.start + c.args.gap - 2 * c.loop-j.j in
    let at : c.index-in-loop-j.result.now ≡ get_or c.args.parts.now.items (c.args.start + (c.args.gap - 2 * c.loop-j.j))
    (pos 0) =
    read c.loop-j.parts.items place _ (pos 0) c.index-in-loop-j.ensures
    (omega (arith, c.loop-j.invariant.as_long, c.requires.inside, c.requires.gap))
    ∙ c.loop-j.invariant.kept place (λ k l e. absurd (omega arith))
    ∙ ap (λ i. get_or c.args.parts.now.items i (pos 0)) (omega arith) in
    let within : IsWithin (2 ^ 69) c.index-in-loop-j.result.now =
    subst (λ v. IsWithin (2 ^ 69) v) (sym at)
    (c.requires.fits (c.args.gap - 2 * c.loop-j.j) (omega (arith, c.requires.gap))) in
    let part_fits : SFits w128 c.index-in-loop-j.result.now = omega (arith, ints, within) in
    let top_fits : SFits w128 c.args.top = omega (arith, ints, c.requires.top) in
    record {
      part = subst (λ v. IsWithin (2 ^ 69) v) (sym (to_z-of_z w128 c.index-in-loop-j.result.now part_fits)) within;
      number = at_most _ _ _
          (read c.args.rows.now.values.items (c.args.x * 19 + c.loop-j.j) _ 0 c.index-in-loop-j-2.ensures
          (omega (arith, c.requires.rows.places, c.requires.vertex, c.requires.gap)))
          (c.requires.small c.loop-j.j (omega (arith, c.requires.gap)));
      top = subst (λ v. IsWithin 1000000 v) (sym (to_z-of_z w128 c.args.top top_fits)) c.requires.top;
    }

pub loop-j-preserved : goal.loop-j-preserved
loop-j-preserved c =
    let place : ℕ = c.args.start + c.args.gap - 2 * c.loop-j.j in
    let at : c.index-in-loop-j.result.now ≡ get_or c.loop-j.parts.items place (pos 0) =
    read c.loop-j.parts.items place _ (pos 0) c.index-in-loop-j.ensures
    (omega (arith, c.loop-j.invariant.as_long, c.requires.inside, c.requires.gap)) in
    let old : c.index-in-loop-j.result.now ≡ get_or c.args.parts.now.items
    (c.args.start + (c.args.gap - 2 * c.loop-j.j)) (pos 0) =
    at ∙ c.loop-j.invariant.kept place (λ k l e. absurd (omega arith))
    ∙ ap (λ i. get_or c.args.parts.now.items i (pos 0)) (omega arith) in
    let within : IsWithin (2 ^ 69) c.index-in-loop-j.result.now =
    subst (λ v. IsWithin (2 ^ 69) v) (sym old)
    (c.requires.fits (c.args.gap - 2 * c.loop-j.j) (omega (arith, c.requires.gap))) in
    let part_fits : SFits w128 c.index-in-loop-j.result.now = omega (arith, ints, within) in
    let fits : FitsSigned w128 c.plus_product.result = search rules in
    let number : c.index-in-loop-j-2.result.now ≡ row_value c.args.rows.now.values.items c.args.x c.loop-j.j =
    read c.args.rows.now.values.items (c.args.x * 19 + c.loop-j.j) _ 0 c.index-in-loop-j-2.ensures
    (omega (arith, c.requires.rows.places, c.requires.vertex, c.requires.gap)) in
    row_next c.args.start c.args.gap c.loop-j.j place _ (row_value c.args.rows.now.values.items c.args.x)
    c.args.parts.now.items
    c.loop-j.parts.items _ _ c.loop-j.invariant refl (omega arith) (omega (arith, c.requires.inside, c.requires.gap))
    (to_z-of_z w128 c.plus_product.result fits ∙ c.plus_product.ensures
    ∙ ap₂ (λ a b. a +ℤ pos b *ℤ to_z w128 (of_z w128 c.args.top))
    (to_z-of_z w128 c.index-in-loop-j.result.now part_fits ∙ at) number)

pub returns-after-loop-j : goal.returns-after-loop-j
returns-after-loop-j c =
    let top_fits : SFits w128 c.args.top = omega (arith, ints, c.requires.top) in
    subst (λ t. IsRowAdded c.args.start c.args.gap (c.args.gap / 2 + 1) t
    (row_value c.args.rows.now.values.items c.args.x) c.args.parts.now.items c.loop-j.parts.items)
    (to_z-of_z w128 c.args.top top_fits)
    (subst (λ n. IsRowAdded c.args.start c.args.gap n (to_z w128 (of_z w128 c.args.top))
    (row_value c.args.rows.now.values.items c.args.x) c.args.parts.now.items c.loop-j.parts.items)
    (omega arith) c.loop-j.invariant)

pub returns-else-index : goal.returns-else-index
returns-else-index c =
    row_dead c.args.start c.args.gap (c.args.gap / 2 + 1) c.args.top (row_value c.args.rows.now.values.items c.args.x)
    c.args.parts.now.items
    (λ j l.
    c.requires.rows.dead c.args.x j c.requires.vertex (omega (arith, c.requires.gap))
    (sym (read c.args.rows.now.live.items c.args.x _ false c.index.ensures c.requires.vertex) ∙ c.if-index.false))
