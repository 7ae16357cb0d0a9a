-- The kinds of comparisons.
--   kind_name k      the name of a kind, as it is printed
--   kind_number k    its number
use Rattle.std.specs.Prelude.{ℕ, List, codes}
use Rattle.bmp_cover.specs.declared.kind.Kind.{Kind}
use Rattle.bmp_cover.specs.declared.kind.Kind.TheVariants.{Shape, Top, Section, Row, Cover, Source, Dual, Kernel}

abbrev pub kind_name : Kind → List ℕ
kind_name Shape = codes "Shape"
kind_name Top = codes "Top"
kind_name Section = codes "Section"
kind_name Row = codes "Row"
kind_name Cover = codes "Cover"
kind_name Source = codes "Source"
kind_name Dual = codes "Dual"
kind_name Kernel = codes "Kernel"

-- the number of a kind: kinds are compared in this order
abbrev pub kind_number : Kind → ℕ
kind_number Shape = 0
kind_number Top = 1
kind_number Section = 2
kind_number Row = 3
kind_number Cover = 4
kind_number Source = 5
kind_number Dual = 6
kind_number Kernel = 7
