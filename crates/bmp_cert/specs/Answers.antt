-- What a reader answers that may want memory, told by the step that it takes.
--   Gives view after result step    it gave the step's value and stands behind it, or it gave the step's
--                                   fault, or memory was wanting
--   Answers view result step        the same for a step without a cursor behind it
--   Pushes before after cursor result step    the same, the value being put behind a list
use Rattle.std.specs.Prelude.{◌≡◌, Result, Ok, Err, List}
use Rattle.bmp_text.specs.declared.fault.TextFault.{TextFault}
use Rattle.bmp_text.specs.Readers.{put_onto, list_with}
use Rattle.bmp_cert.specs.declared.fault.CertError.{CertError}
use Rattle.bmp_cert.specs.declared.fault.CertError.TheVariants.{Text, Memory}

abbrev pub Faults : {Y : Type 0} → CertError → Result Y TextFault → Type 0
Faults (Text f) step = step ≡ Err f
Faults Memory step = Unit {0}

abbrev pub Gives : {X Y C : Type 0} → (X → Y) → C → Result X CertError → Result (Y × C) TextFault → Type 0
Gives view after (Ok x) step = step ≡ Ok (view x, after)
Gives view after (Err e) step = Faults e step

abbrev pub Answers : {X Y : Type 0} → (X → Y) → Result X CertError → Result Y TextFault → Type 0
Answers view (Ok x) step = step ≡ Ok (view x)
Answers view (Err e) step = Faults e step

abbrev pub Pushes : {A C : Type 0} → List A → List A → C → Result (Unit {0}) CertError → Result (A × C) TextFault →
    Type 0
Pushes before after cursor (Ok x) step = put_onto list_with before step ≡ Ok (after, cursor)
Pushes before after cursor (Err e) step = Faults e step
