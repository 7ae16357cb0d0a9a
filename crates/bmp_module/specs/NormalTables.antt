-- What is seen of a table of normal forms in memory.
--   label_of t      the label by which the normal forms are
--   degrees_of t    for how many degrees it has them, from 0 on
use Rattle.std.specs.Prelude.{ℕ, length}
use Rattle.bmp_poly.specs.declared.label.Label.{Label}
use Rattle.bmp_module.specs.declared.normal_table.NormalTable.{NormalTable}

abbrev pub label_of : NormalTable → Label
label_of t = t.label

abbrev pub degrees_of : NormalTable → ℕ
degrees_of t = length t.columns.items
