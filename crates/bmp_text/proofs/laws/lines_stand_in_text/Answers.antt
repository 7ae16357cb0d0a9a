use Rattle.bmp_text.proofs.PlaceLemmas.{first_placed, next_placed}
use Rattle.bmp_text.proofs.laws.lines_stand_in_text.Goals as goal

pub returns : goal.returns
returns c = record { first = first_placed; next = next_placed }
