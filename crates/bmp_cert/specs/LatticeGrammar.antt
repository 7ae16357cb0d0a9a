-- The line of a lattice: what is read, and how it is printed.
--   has_line l          the texts of a job with this lattice have a line for it
--   lattice_number l    the number on that line
--   lattice_line        reads the line `lattice 0` or `lattice 1`
--   lattice_if stated   reads it where it is to stand; else the lattice is Plain
--   lattice_text l      the line, or nothing
use Rattle.std.specs.Prelude.{◌==◌, ℕ, Bool, true, false, List, [], Result, codes, if◌then◌else◌}
use Rattle.bmp_text.specs.declared.fault.TextFault.{TextFault}
use Rattle.bmp_text.specs.Cursor.{Cursor}
use Rattle.bmp_text.specs.Readers.{give, single}
use Rattle.bmp_text.specs.Sequence.{◌>>=◌}
use Rattle.bmp_text.specs.Printing.{single_text}
use Rattle.bmp_cert.specs.declared.lattice.Lattice.{Lattice}
use Rattle.bmp_cert.specs.declared.lattice.Lattice.TheVariants.{Plain, Root, Weight}

abbrev pub has_line : Lattice → Bool
has_line Plain = false
has_line Root = true
has_line Weight = true

abbrev pub lattice_of : ℕ → Lattice
lattice_of n = if n == 0 then Root else Weight

-- Plain has no line
abbrev pub lattice_number : Lattice → ℕ
lattice_number Plain = 0
lattice_number Root = 0
lattice_number Weight = 1

unfoldable pub lattice_line : Cursor ℕ → Result (Lattice × Cursor ℕ) TextFault
lattice_line = do
  n ← single (codes "lattice") 0 1
  give (lattice_of n)

abbrev pub lattice_if : Bool → Cursor ℕ → Result (Lattice × Cursor ℕ) TextFault
lattice_if stated = if stated then lattice_line else give Plain

abbrev pub lattice_text : Lattice → List ℕ
lattice_text l = if has_line l then single_text (codes "lattice") (lattice_number l) else []
