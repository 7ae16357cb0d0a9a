use Rattle.std.proofs.Common.{◌≡◌, ℕ, List, Ok, subst, ap, ◌∙◌, ◌∷◌}
use Rattle.std.specs.Prelude.{option_map}
use Rattle.std.specs.Fmt.{decimal}
use Rattle.bmp_text.proofs.LinePairs.{natural_at}
use Rattle.bmp_text.specs.Cursor.{Cursor, Place, natural}
use Rattle.bmp_text.specs.Words.{words_of}
use Rattle.bmp_text.proofs.line.Line.natural.Goals as goal

pub returns-then-n-high-clause-reads : goal.returns-then-n-high-clause-reads
returns-then-n-high-clause-reads c =
    let w = c.in-Some-quick_natural.ensures.word in
    let e : words_of (option_map (λ s. s.now) c.self.inside.rest) ≡ decimal c.in-Some-quick_natural.n ∷ words_of
    (option_map (λ s. s.now) c.in-Some-quick_natural.rest) =
    ap (λ o. words_of (option_map (λ s. s.now) o)) c.in-Some.is ∙ w in
    let at : Place = record { line = c.self.inside.number; start = c.self.inside.start; stop = c.self.inside.end } in
    subst (λ (l : Cursor (List ℕ)). natural c.args.low c.args.high l
    ≡ Ok (
      c.in-Some-quick_natural.n,
      record { place = at; rest = words_of (option_map (λ s. s.now) c.in-Some-quick_natural.rest) },
    )) c.self.view_is
    (natural_at c.args.low c.args.high c.in-Some-quick_natural.n at _ _ c.requires.high c.if-low-n.true c.if-n-high.true
    e)
