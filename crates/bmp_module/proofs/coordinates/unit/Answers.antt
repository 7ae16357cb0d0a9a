use Rattle.std.proofs.Common.{◌≡◌, ◌∙◌, ap, sym, arith, []}
use Rattle.bmp_math.specs.Vectors.{unit}
use Rattle.bmp_module.proofs.Appending.{appended_more}
use Rattle.bmp_math.proofs.UnitLemmas.{unit_same, unit_other}
use Rattle.bmp_module.proofs.NormalColumns.{unit_appended}
use Rattle.bmp_module.proofs.coordinates.unit.Goals as goal
use Rattle.bmp_module.proofs.coordinates.unit.Goals.{then-i-place, else-i-place}

pub loop-i-preserved : goal.loop-i-preserved
loop-i-preserved g c =
    let value : g.F.Field.is_value c.args.f.now c.if-i-place.value = elim c.if-i-place.branch [
      | then-i-place w ↦ rw w.value-is w.one-value.ensures.value
      | else-i-place w ↦ rw w.value-is w.zero-value.ensures.value
    ] in
    let number : g.F.Field.num c.args.f.now c.if-i-place.value ≡ unit c.args.place c.loop-i.i =
    elim c.if-i-place.branch [
      | then-i-place w ↦ rw w.value-is w.one-value.ensures.number
          ∙ sym (ap (unit c.args.place) w.if-i-place.true ∙ unit_same c.args.place)
      | else-i-place w ↦ rw w.value-is w.zero-value.ensures.number
          ∙ sym (unit_other c.args.place c.loop-i.i (λ e. w.if-i-place.false (sym e)))
    ] in
    rw c.in_ok-push.ensures.items
    (appended_more (g.F.Field.is_value c.args.f.now) (g.F.Field.num c.args.f.now) [] c.loop-i.values.items c.loop-i.i
    (unit c.args.place) c.if-i-place.value c.loop-i.invariant value number)

pub returns-clause-unit : goal.returns-clause-unit
returns-clause-unit g c =
    let last : c.loop-i.i ≡ c.args.len = omega (arith, c.loop-i.auto.i-end, c.loop-i-test.false) in
    unit_appended (g.F.Field.is_value c.args.f.now) (g.F.Field.num c.args.f.now) c.loop-i.values.items c.args.len
    c.args.place c.requires
    (rw last at c.loop-i.invariant)
