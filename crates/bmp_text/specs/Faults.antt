-- The kinds of text faults.
--   kind_name k      the name of a kind, as it is printed
use Rattle.std.specs.Prelude.{ℕ, List, codes}
use Rattle.bmp_text.specs.declared.fault.TextKind.{TextKind}
use Rattle.bmp_text.specs.declared.fault.TextKind.TheVariants.{MissingLine, WrongKeyword, NotANumber, OutOfRange, WrongCount, TrailingText, NotAscii}

abbrev pub kind_name : TextKind → List ℕ
kind_name MissingLine = codes "MissingLine"
kind_name WrongKeyword = codes "WrongKeyword"
kind_name NotANumber = codes "NotANumber"
kind_name OutOfRange = codes "OutOfRange"
kind_name WrongCount = codes "WrongCount"
kind_name TrailingText = codes "TrailingText"
kind_name NotAscii = codes "NotAscii"
