-- How evidence speaks of sections.
--   method_of v     that of version v: by whole spaces of sections in version 1, by levels in the others
use Rattle.std.specs.Prelude.{ℕ, if◌then◌else◌}
use Rattle.bmp_cert.specs.Versions.{by_spaces}
use Rattle.bmp_check.specs.declared.method.Method.{Method}
use Rattle.bmp_check.specs.declared.method.Method.TheVariants.{Spaces, Levels}

abbrev pub method_of : ℕ → Method
method_of v = if by_spaces v then Spaces else Levels
