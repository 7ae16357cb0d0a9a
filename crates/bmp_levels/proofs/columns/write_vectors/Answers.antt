use Rattle.bmp_levels.proofs.RunLemmas.{filled_value, basis_clear}
use Rattle.bmp_levels.proofs.columns.write_vectors.Goals as goal

pub write_columns-requires-2-clause-clear : goal.write_columns-requires-2-clause-clear
write_columns-requires-2-clause-clear c =
    basis_clear c.args.width c.args.before c.args.covers.now c.args.basis.now c.args.numbers.now
    c.write_columns.new.numbers c.requires.width c.requires.covers c.requires.clear c.write_columns.ensures

pub returns-clause-values : goal.returns-clause-values
returns-clause-values c =
    filled_value (record {
      width_is = c.requires.width;
      few = c.requires.covers;
      clear = c.requires.clear;
      covers_written = c.write_columns.ensures;
      basis_written = c.write_columns-2.ensures;
    })
