use Rattle.std.proofs.Common.{rules}
use Rattle.bmp_graph.proofs.GraphLemmas.{IsGraph-rules}
use Rattle.bmp_graph.proofs.parts.Parts.check.Goals as goal

pub returns-clause-ok : goal.returns-clause-ok
returns-clause-ok c =
    IsGraph-rules _ (search rules) c.in_default.ensures c.in_default-first_without_ends.ensures
    c.in_default-first_out_of_order.ensures c.in_default-first_with_other_label.ensures
