-- The generators of a free module, as elements of it.
--   unit_element g     the constant 1 at the generator g, 0 at the others
use Rattle.std.specs.Prelude.{ℕ, ◌==◌, if◌then◌else◌}
use Rattle.bmp_sheaf.specs.Elements.{Element}

-- an element of the generator's degree
abbrev pub unit_element : ℕ → Element
unit_element g h m = if h == g then 1 else 0
