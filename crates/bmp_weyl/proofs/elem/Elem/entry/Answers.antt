use Rattle.std.proofs.Common.{◌-◌, arith}
use Rattle.std.proofs.lemmas.Int.{ints}
use Rattle.bmp_math.specs.Integers.{IsWithin}
use Rattle.bmp_weyl.specs.Matrices.{cell}
use Rattle.bmp_weyl.proofs.ElementLemmas.{small_cells}
use Rattle.bmp_weyl.proofs.elem.Elem.entry.Goals as goal

pub returns-clause-within : goal.returns-clause-within
returns-clause-within c =
    let small : IsWithin 32 (cell c.args.self.now.entries (c.args.i - 1) (c.args.j - 1)) =
    small_cells c.requires.element.matrix c.requires.element.finite c.args.self.now c.requires.element.element
    (c.args.i - 1) (c.args.j - 1)
    (omega (arith, c.requires.element.element.1.rank, c.requires.element.form.at_most_six))
    (omega (arith, c.requires.element.element.1.rank, c.requires.element.form.at_most_six)) in
    (omega (arith, ints), omega (arith, ints))
