-- What a call on a cursor did, told by the step that it takes.
--   Reads view before after result step    it gave the step's value, and stands behind it;
--                                          or it gave the step's fault, and stands where it stood
--   Passes before after result step        the same for a step that gives no value
use Rattle.std.specs.Prelude.{◌≡◌, Result, Ok, Err}
use Rattle.bmp_text.specs.declared.fault.TextFault.{TextFault}

abbrev pub Reads : {X Y C : Type 0} → (X → Y) → C → C → Result X TextFault → Result (Y × C) TextFault → Type 0
Reads view before after (Ok x) step = step ≡ Ok (view x, after)
Reads view before after (Err f) step = (step ≡ Err f) × (after ≡ before)

abbrev pub Passes : {C : Type 0} → C → C → Result (Unit {0}) TextFault → Result C TextFault → Type 0
Passes before after (Ok x) step = step ≡ Ok after
Passes before after (Err f) step = (step ≡ Err f) × (after ≡ before)
