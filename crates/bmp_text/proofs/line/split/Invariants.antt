use Rattle.std.proofs.Common.{◌≡◌, take, drop}
use Rattle.bmp_text.proofs.CutLemmas.{put_before}
use Rattle.bmp_text.specs.Words.{cut}
use Rattle.bmp_text.proofs.line.split.Given as goal

abbrev pub invariant-loop-i : goal.invariant-loop-i
invariant-loop-i l = put_before (take l.i l.bytes) (cut l.separator (drop l.i l.bytes)) ≡ cut l.separator l.bytes
