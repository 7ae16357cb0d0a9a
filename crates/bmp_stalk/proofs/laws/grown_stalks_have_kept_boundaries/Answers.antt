use Rattle.bmp_stalk.proofs.GrowthLemmas.{grown_stalks}
use Rattle.bmp_stalk.proofs.ChoiceLemmas.{chosen_columns_pass}
use Rattle.bmp_stalk.specs.Blocks.{GrownStalksPass}
use Rattle.bmp_sheaf.specs.Coordinates.{stalk_count}
use Rattle.bmp_stalk.proofs.laws.grown_stalks_have_kept_boundaries.Goals as goal

grown_stalks_pass : GrownStalksPass
grown_stalks_pass G F F' x d list o chosen e over wide so_far read grown =
    let both = grown_stalks G F F' x d list o chosen over wide read.columns so_far grown in
    chosen_columns_pass G F' x d list (stalk_count G.rank (F.degrees x) d) o chosen e over both.0 both.1 read

pub returns : goal.returns
returns c = record { kept = grown_stalks; passes = grown_stalks_pass }
