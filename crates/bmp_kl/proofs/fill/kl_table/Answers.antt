use Rattle.std.proofs.Common.{◌≡◌, ◌≤◌, ◌*◌, ◌∙◌, ℕ, arith, ap, subst, sym, length}
use Rattle.std.specs.Int.RustNames.{unsigned_abs}
use Rattle.std.proofs.lemmas.Int.{ints, to_z-of_z}
use mir.Syntax.{w64}
use mir.Val.{SFits, to_z, of_z}
use Rattle.std.proofs.lemmas.List.{length-map}
use Rattle.bmp_roots.specs.RootSystems.{matrix_of, positive_roots_of}
use Rattle.bmp_weyl.specs.Elements.{element_length, word_of}
use Rattle.bmp_interval.specs.IntervalViews.{system_of, letters_of, vertices_of}
use Rattle.bmp_kl.specs.Tables.{IsTable}
use Rattle.bmp_kl.specs.SumTables.{sum_value, HasSmallSums}
use Rattle.bmp_kl.specs.IntervalBars.{bars_of}
use Rattle.bmp_kl.specs.Filled.{top_value, IsFilled}
use Rattle.bmp_kl.specs.Fillings.{IsFilling}
use Rattle.bmp_kl.proofs.FillingLemmas.{sums_small}
use Rattle.bmp_kl.proofs.fill.kl_table.Goals as goal

pub loop-x-init : goal.loop-x-init
loop-x-init c = (
  subst (λ n. IsFilling (system_of c.args.interval.now) (letters_of c.args.interval.now)
      (vertices_of c.args.interval.now)
      (unsigned_abs (to_z w64 (of_z w64 c.args.limit))) n c.in-Ok-of.filling) (sym c.len-x.ensures.value)
      (c.in-Ok-of.ensures (unsigned_abs (to_z w64 (of_z w64 c.args.limit)))),
  omega (arith, c.len-x.ensures.value),
)

pub invariant_of-result : goal.invariant_of-result
invariant_of-result c =
    let limit_fits : SFits w64 c.args.limit = omega (arith, ints, c.requires) in
    let limit_is : to_z w64 (of_z w64 c.args.limit) ≡ c.args.limit = to_z-of_z w64 c.args.limit limit_fits in
    let long : length c.in-Ok.lengths.items ≡ length (vertices_of c.args.interval.now) =
    ap length c.in-Ok.ensures.lengths
    ∙ length-map (vertices_of c.args.interval.now)
    (element_length (positive_roots_of (system_of c.args.interval.now))) in
    let done : IsFilling (system_of c.args.interval.now) (letters_of c.args.interval.now)
    (vertices_of c.args.interval.now)
    (unsigned_abs c.args.limit) 0 c.loop-x.filling =
    subst (λ l. IsFilling (system_of c.args.interval.now) (letters_of c.args.interval.now)
    (vertices_of c.args.interval.now) (unsigned_abs l) 0 c.loop-x.filling)
    limit_is
    (subst (λ n. IsFilling (system_of c.args.interval.now) (letters_of c.args.interval.now)
    (vertices_of c.args.interval.now)
    (unsigned_abs (to_z w64 (of_z w64 c.args.limit))) n c.loop-x.filling) (omega arith) c.loop-x.invariant.0) in
    record {
      some = omega (arith, long, c.len-x.ensures.value, c.len-x.ensures.at_least_one);
      few = omega (arith, long, c.len-x.ensures.value, c.len-x.ensures.at_most);
      places = done.filled.sums_long ∙ ap (λ n. n * 73) (sym long);
      small = subst (λ k. HasSmallSums k c.loop-x.filling.sums.items) (sym long)
          (sums_small (system_of c.args.interval.now) (word_of (letters_of c.args.interval.now))
          (vertices_of c.args.interval.now)
          done.steps.interval.interval (unsigned_abs c.args.limit) c.loop-x.filling.sums.items
          c.loop-x.filling.parts.items done.filled
          (omega (arith, ints, c.requires)));
    }

pub returns-clause-table : goal.returns-clause-table
returns-clause-table c =
    let limit_fits : SFits w64 c.args.limit = omega (arith, ints, c.requires) in
    let limit_is : to_z w64 (of_z w64 c.args.limit) ≡ c.args.limit = to_z-of_z w64 c.args.limit limit_fits in
    let long : length c.in-Ok.lengths.items ≡ length (vertices_of c.args.interval.now) =
    ap length c.in-Ok.ensures.lengths
    ∙ length-map (vertices_of c.args.interval.now)
    (element_length (positive_roots_of (system_of c.args.interval.now))) in
    let done : IsFilling (system_of c.args.interval.now) (letters_of c.args.interval.now)
    (vertices_of c.args.interval.now)
    (unsigned_abs c.args.limit) 0 c.loop-x.filling =
    subst (λ l. IsFilling (system_of c.args.interval.now) (letters_of c.args.interval.now)
    (vertices_of c.args.interval.now) (unsigned_abs l) 0 c.loop-x.filling)
    limit_is
    (subst (λ n. IsFilling (system_of c.args.interval.now) (letters_of c.args.interval.now)
    (vertices_of c.args.interval.now)
    (unsigned_abs (to_z w64 (of_z w64 c.args.limit))) n c.loop-x.filling) (omega arith) c.loop-x.invariant.0) in
    subst (λ k. IsTable (length (vertices_of c.args.interval.now))
    (bars_of (matrix_of (system_of c.args.interval.now)) (positive_roots_of (system_of c.args.interval.now))
    (vertices_of c.args.interval.now))
    (top_value k c.loop-x.filling.sums.items) (sum_value c.loop-x.filling.sums.items)) (sym long) done.filled.table
