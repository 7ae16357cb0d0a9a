use Rattle.bmp_kl.proofs.rows.Rows.+bar.Given as goal

abbrev pub decreases-bar : goal.decreases-bar
decreases-bar l = l.y
