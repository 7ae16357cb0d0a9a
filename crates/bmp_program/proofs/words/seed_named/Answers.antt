use Rattle.bmp_program.proofs.WordLemmas.{seed_read, no_seed}
use Rattle.bmp_program.proofs.words.seed_named.Goals as goal

pub returns-in-Ok : goal.returns-in-Ok
returns-in-Ok c = rw c.in-Some.is (seed_read c.in-Some.text.now c.in-Ok.seed c.in-Ok.ensures.value.0)

pub returns-in-Err : goal.returns-in-Err
returns-in-Err c = rw c.in-Some.is (no_seed c.in-Some.text.now c.in-Err.ensures.value.0)
