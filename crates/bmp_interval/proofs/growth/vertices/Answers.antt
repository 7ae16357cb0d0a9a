use Rattle.bmp_roots.specs.RootSystems.{matrix_of}
use Rattle.bmp_interval.proofs.GrowthLemmas.{letter_added, letter_too_far, on_true, on_false, elements_of_system}
use Rattle.bmp_interval.proofs.growth.vertices.Goals as goal

pub grow-requires-clause-elements : goal.grow-requires-clause-elements
grow-requires-clause-elements c =
    elements_of_system c.args.roots.now _ _ c.loop-letter.set.keys c.simple-simple.result c.loop-letter.invariant.0
    c.simple-simple.ensures

pub returns-then-not-branch-clause-vertices : goal.returns-then-not-branch-clause-vertices
returns-then-not-branch-clause-vertices c =
    letter_too_far (matrix_of c.args.roots.now) c.args.roots.now.form c.args.word.now c.loop-letter.letter-index 0
    c.simple-simple.result c.loop-letter.set.keys c.grow.new.set.keys _
    c.loop-letter-test.true c.simple-simple.ensures
    (on_false c.in_ok-grow.field-0 c.if-not-branch.true c.in_ok-grow.ensures.too_many) c.loop-letter.invariant.0

pub loop-letter-preserved : goal.loop-letter-preserved
loop-letter-preserved c = (
  letter_added (matrix_of c.args.roots.now) c.args.roots.now.form c.args.word.now c.loop-letter.letter-index 0
      c.simple-simple.result c.loop-letter.set.keys c.grow.new.set.keys
      c.loop-letter-test.true c.simple-simple.ensures
      (on_true c.in_ok-grow.field-0 c.if-not-branch.false c.in_ok-grow.ensures.grown) c.loop-letter.invariant.0,
  on_true c.in_ok-grow.field-0 c.if-not-branch.false c.in_ok-grow.ensures.few,
)
