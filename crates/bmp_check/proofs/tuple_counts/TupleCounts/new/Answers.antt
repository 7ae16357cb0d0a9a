use Rattle.std.proofs.Common.{ℕ, List, sym, subst}
use Rattle.bmp_check.specs.TupleCounts.{CountsDegree}
use Rattle.bmp_check.specs.ShapedViews.{method_in, written_in}
use Rattle.bmp_check.proofs.TupleCountLemmas.{counts_more}
use Rattle.bmp_check.proofs.tuple_counts.TupleCounts.new.Goals as goal

pub degrees-preserved : goal.degrees-preserved
degrees-preserved c =
    let G = c.args.graph.now in
    let m = method_in c.args.c.now in
    let w = written_in c.args.c.now in
    let counted = subst (λ (ns : List ℕ). CountsDegree G m w c.degrees.d ns) (sym c.deref.ensures.value)
    c.in_ok-degree_counts.ensures in
    counts_more G m w c.degrees.d c.degrees.numbers.items c.deref.result.now c.in_ok-extend_from_slice.ensures.items
    counted c.degrees.invariant
