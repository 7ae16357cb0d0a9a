use Rattle.std.proofs.Common.{◌≡◌, ℕ, ◌+◌, ◌-◌, sym, ap, subst, ◌∙◌, arith}
use Rattle.std.specs.Prelude.{All}
use Rattle.std.proofs.lemmas.Option.{get_or_from_slice_get}
use Rattle.bmp_field.specs.declared.prime.PrimeField.{PrimeField}
use Rattle.bmp_linear.specs.SparseVectors.{ValuesBelow}
use Rattle.bmp_sheaf.specs.States.{SheafState, next_vertex, with_stalk}
use Rattle.bmp_sheaf.specs.StalkFaults.{IsStalk}
use Rattle.bmp_cert.specs.Counts.{no_part}
use Rattle.bmp_cert.specs.declared.cert.VertexPart.{VertexPart}
use Rattle.bmp_check.specs.ShapedViews.{written_in}
use Rattle.bmp_check.specs.Shaped.{cert_stalk}
use Rattle.bmp_check.specs.StalkTasks.{HasAdded, first_stalks}
use Rattle.bmp_check.proofs.stalk_tasks.StalkTasksTask.run.Goals as goal

pub at-requires : goal.at-requires
at-requires c =
    let t = c.args.self.now in
    let number : ℕ = c.pushed.result - 1 - c.args.i in
    let can = t.parts_are number (omega (arith, c.pushed.ensures.count, t.counted, c.if-i-self.false))
    (omega (arith, c.pushed.ensures.count, t.counted, c.if-i-self.false)) in
    can.there

pub push_part-requires-clause-values : goal.push_part-requires-clause-values
push_part-requires-clause-values c =
    let t = c.args.self.now in
    let cert = written_in t.given.now in
    let number : ℕ = c.pushed.result - 1 - c.args.i in
    let can = t.parts_are number (omega (arith, c.pushed.ensures.count, t.counted, c.if-i-self.false))
    (omega (arith, c.pushed.ensures.count, t.counted, c.if-i-self.false)) in
    let read = get_or_from_slice_get cert.parts number c.at.result.now no_part c.at.ensures in
    subst (λ (s : SheafState PrimeField). All (λ v. ValuesBelow v s.graph.prime) c.at.result.now.lifts)
    (sym c.in_ok-sheaf.ensures)
    (subst (λ (p : VertexPart). All (λ v. ValuesBelow v t.sheaf.now.graph.prime) p.lifts) read can.values)

pub push_part-requires-clause-stalk : goal.push_part-requires-clause-stalk
push_part-requires-clause-stalk c =
    let t = c.args.self.now in
    let cert = written_in t.given.now in
    let number : ℕ = c.pushed.result - 1 - c.args.i in
    let can = t.parts_are number (omega (arith, c.pushed.ensures.count, t.counted, c.if-i-self.false))
    (omega (arith, c.pushed.ensures.count, t.counted, c.if-i-self.false)) in
    let read = get_or_from_slice_get cert.parts number c.at.result.now no_part c.at.ensures in
    subst (λ (s : SheafState PrimeField). IsStalk s (next_vertex s) c.at.result.now.degrees c.at.result.now.lifts)
    (sym c.in_ok-sheaf.ensures)
    (subst (λ (p : VertexPart). IsStalk (first_stalks cert t.sheaf.now number)
    (next_vertex (first_stalks cert t.sheaf.now number)) p.degrees p.lifts) read can.stalk)

pub returns : goal.returns
returns c own =
    let t = c.args.self.now in
    let cert = written_in t.given.now in
    let number : ℕ = c.pushed.result - 1 - c.args.i in
    let read = get_or_from_slice_get cert.parts number c.at.result.now no_part c.at.ensures in
    let same : number ≡ t.before + t.count - 1 - c.args.i = omega (arith, c.pushed.ensures.count, t.counted) in
    subst (λ n. HasAdded cert t.sheaf.now n c.push_part.new.sheaf) same
    (c.in_ok-push_part.ensures
    ∙ ap (λ (s : SheafState PrimeField). with_stalk s (cert_stalk c.at.result.now)) c.in_ok-sheaf.ensures
    ∙ ap (λ (p : VertexPart). with_stalk (first_stalks cert t.sheaf.now number) (cert_stalk p)) (sym read))
