-- What a check that doesn't accept answers.
--   IsRefusedBy P e    the error is a refusal of which P holds, with two numbers that differ; want of memory says
--                      nothing
use Rattle.std.specs.Prelude.{◌≢◌}
use Rattle.bmp_check.specs.declared.refusal.Refusal.{Refusal}
use Rattle.bmp_check.specs.declared.refusal.CheckError.{CheckError}
use Rattle.bmp_check.specs.declared.refusal.CheckError.TheVariants.{Refused, Memory}

abbrev pub IsRefusedBy : (Refusal → Type 0) → CheckError → Type 0
IsRefusedBy P (Refused r) = P r × (r.left ≢ r.right)
IsRefusedBy P Memory = Unit {0}
