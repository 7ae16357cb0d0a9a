use Rattle.bmp_check.specs.Settings.{AreFamilies}
use Rattle.bmp_check.specs.ShapedViews.{graph_in, cert_in}
use Rattle.bmp_check.proofs.setting.families_of.Given as goal

-- the degrees so far
abbrev pub invariant-degrees : goal.invariant-degrees
invariant-degrees l = AreFamilies (graph_in l.s) (cert_in l.s) l.degree l.families.items
