use Rattle.std.proofs.Common.{refl, sym, ◌∙◌}
use Rattle.bmp_math.specs.Matrices.{Matrix}
use Rattle.bmp_elim.proofs.GrownLemmas.{grown_none}
use Rattle.bmp_elim.proofs.growing.empty_basis.Goals as goal

pub returns-clause-grown : goal.returns-clause-grown
returns-clause-grown g c = λ old none cols.
    rw (c.new.ensures, c.new-2.ensures, c.new-3.ensures)
    (grown_none none refl c.empty.ensures.rows refl refl (c.empty.ensures.cols ∙ sym cols))

pub returns-clause-some : goal.returns-clause-some
returns-clause-some g c =
    let none : Matrix = record { rows = 0; cols = c.args.cols; entry = λ i j. 0 } in
    record {
      old = none;
      grown = rw (c.new.ensures, c.new-2.ensures, c.new-3.ensures)
          (grown_none refl refl c.empty.ensures.rows refl refl c.empty.ensures.cols);
    }
