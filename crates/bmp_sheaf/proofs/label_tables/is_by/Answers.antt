use Rattle.bmp_sheaf.proofs.label_tables.is_by.Goals as goal

pub returns : goal.returns
returns c = rw c.label.ensures at c.same_label.ensures
