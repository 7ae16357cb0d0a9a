use Rattle.bmp_build.proofs.Beginning.{each_more}
use Rattle.bmp_build.proofs.start.top_families.Goals as goal

pub degrees-preserved : goal.degrees-preserved
degrees-preserved g c =
    each_more c.in_ok-family.family c.degrees.invariant c.in_ok-push.ensures.items
    (record { holds = c.in_ok-family.ensures.holds; same = c.in_ok-family.ensures.family })
