use Rattle.std.proofs.Common.{◌∙◌}
use Rattle.bmp_linear.proofs.KeptRowLemmas.{entries_same}
use Rattle.bmp_linear.proofs.mixed_row.MixedRow.at.Goals as goal

pub returns-in-Entries : goal.returns-in-Entries
returns-in-Entries c =
    c.number_in.ensures ∙ entries_same c.self.inside.cols c.self.view_is c.in-Entries.is c.as_slice.ensures c.args.j
    c.requires
