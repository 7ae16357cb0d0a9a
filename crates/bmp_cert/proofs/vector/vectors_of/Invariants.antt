use Rattle.std.proofs.Common.{◌≡◌, ◌-◌, []}
use Rattle.bmp_text.specs.LaterLines.{PassesLines}
use Rattle.bmp_text.specs.Readers.{onto, list_with, chain, line, same}
use Rattle.bmp_cert.specs.VectorGrammar.{vector}
use Rattle.bmp_cert.proofs.vector.vectors_of.Given as goal

abbrev pub invariant-vectors : goal.invariant-vectors
invariant-vectors l = record {
  read : onto list_with l.list
      (chain (λ (s : Unit {0}). line l.word (vector l.most)) same (l.count - l.counter) tt l.lines)
      ≡ onto list_with [] (chain (λ (s : Unit {0}). line l.word (vector l.most)) same l.count tt l.initial.lines);
  later : PassesLines l.initial.lines l.lines;
}
