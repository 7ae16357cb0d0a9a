use Rattle.std.specs.Fmt.{decimal}
use Rattle.bmp_text.proofs.PrintingLoops.{words_on, words_end}
use Rattle.bmp_cert.proofs.cert_print.push_numbers.Goals as goal

pub numbers-preserved : goal.numbers-preserved
numbers-preserved c =
    rw (c.in_ok-push_number.ensures.ok, c.from.ensures)
    (words_on decimal 0 c.numbers.out.items _ c.args.numbers.now c.numbers.n-index c.numbers-test.true
    c.numbers.invariant)

pub returns : goal.returns
returns c = words_end decimal c.numbers.out.items _ c.args.numbers.now c.numbers.n-index c.numbers-test.false
    c.numbers.invariant
