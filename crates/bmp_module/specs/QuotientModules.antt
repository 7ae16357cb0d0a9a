-- What is seen of a quotient in memory.
--   free_of s     the free module
--   label_of s    the label
use Rattle.bmp_poly.specs.declared.label.Label.{Label}
use Rattle.bmp_module.specs.declared.free.Free.{Free}
use Rattle.bmp_module.specs.declared.quotient.Quotient.{Quotient}

abbrev pub free_of : Quotient → Free
free_of s = s.free

abbrev pub label_of : Quotient → Label
label_of s = s.label
