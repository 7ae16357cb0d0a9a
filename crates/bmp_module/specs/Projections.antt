-- What is seen of a projection in memory.
--   quotient_of s    the quotient that it is a map to
use Rattle.bmp_module.specs.declared.quotient.Quotient.{Quotient}
use Rattle.bmp_module.specs.declared.projection.Projection.{Projection}

abbrev pub quotient_of : Projection → Quotient
quotient_of s = s.quotient.now
