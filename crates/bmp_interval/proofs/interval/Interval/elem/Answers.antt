use Rattle.std.proofs.Common.{subst}
use Rattle.std.proofs.lemmas.Option.{get_or_from_slice_get}
use Rattle.bmp_math.specs.Lists.{Member}
use Rattle.bmp_math.proofs.ListLemmas.{member_at}
use Rattle.bmp_weyl.specs.declared.elem.Elem.{Elem}
use Rattle.bmp_interval.specs.IntervalViews.{vertices_of}
use Rattle.bmp_interval.proofs.FactLemmas.{interval_is}
use Rattle.bmp_interval.proofs.interval.Interval.elem.Goals as goal

pub returns-clause-vertex : goal.returns-clause-vertex
returns-clause-vertex c =
    (interval_is c.args.self.now).vertices.each c.index.result.now
    (subst (λ (e : Elem). Member e (vertices_of c.args.self.now))
    (get_or_from_slice_get (vertices_of c.args.self.now) c.args.x c.index.result.now c.index.result.now c.index.ensures)
    (member_at (vertices_of c.args.self.now) c.args.x c.index.result.now c.requires))
