use Rattle.std.proofs.Common.{◌<◌, length, ap, ◌∙◌, arith}
use Rattle.std.proofs.lemmas.Option.{get_or_from_slice_get}
use Rattle.bmp_field.specs.declared.prime.PrimeField.{PrimeField}
use Rattle.bmp_sheaf.specs.States.{SheafState}
use Rattle.bmp_cert.specs.Counts.{no_part}
use Rattle.bmp_check.proofs.StalkLemmas.{own_is_stalk, own_below, on_own, next_of, stalks_more}
use Rattle.bmp_check.specs.ShapedViews.{written_in}
use Rattle.bmp_check.proofs.written.sheaf_of.Goals as goal

pub push_part-requires-clause-values : goal.push_part-requires-clause-values
push_part-requires-clause-values c =
    let cert = written_in c.args.c.now in
    own_below (next_of c.parts.invariant c.requires.checkable c.requires.count c.requires.shape (omega arith))
    c.at.result.now (get_or_from_slice_get cert.parts c.parts.i c.at.result.now no_part c.at.ensures)

pub push_part-requires-clause-stalk : goal.push_part-requires-clause-stalk
push_part-requires-clause-stalk c =
    let cert = written_in c.args.c.now in
    own_is_stalk (next_of c.parts.invariant c.requires.checkable c.requires.count c.requires.shape (omega arith))
    c.at.result.now (get_or_from_slice_get cert.parts c.parts.i c.at.result.now no_part c.at.ensures)

pub parts-preserved : goal.parts-preserved
parts-preserved c =
    let so_far = c.parts.invariant in
    let cert = written_in c.args.c.now in
    let more : c.parts.i < length cert.parts = omega arith in
    let read = get_or_from_slice_get cert.parts c.parts.i c.at.result.now no_part c.at.ensures in
    let pushed = c.in_ok-push_part.ensures in
    record {
      graph = ap (λ (t : SheafState PrimeField). t.graph) pushed ∙ so_far.graph;
      degree = ap (λ (t : SheafState PrimeField). t.degree) pushed ∙ so_far.degree;
      stalks = ap (λ (t : SheafState PrimeField). t.stalks) pushed
          ∙ stalks_more (on_own so_far) more c.at.result.now read;
    }
