use Rattle.std.specs.Fmt.{decimal}
use Rattle.bmp_text.proofs.PrintingLoops.{words_on, words_end}
use Rattle.bmp_cert.proofs.print.push_letters.Goals as goal

pub letters-preserved : goal.letters-preserved
letters-preserved c =
    rw (c.in_ok-push_number.ensures.ok, c.from.ensures)
    (words_on decimal 0 c.letters.out.items _ c.args.letters.now c.letters.letter-index c.letters-test.true
    c.letters.invariant)

pub returns : goal.returns
returns c = words_end decimal c.letters.out.items _ c.args.letters.now c.letters.letter-index c.letters-test.false
    c.letters.invariant
