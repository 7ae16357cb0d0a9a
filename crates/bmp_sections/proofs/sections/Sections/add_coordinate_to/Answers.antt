use Rattle.std.proofs.Common.{◌∙◌, rules}
use Rattle.bmp_linear.proofs.RowSums.{added_none, added_more, added_all, still_below}
use Rattle.bmp_sections.specs.TupleLists.{value_matrix}
use Rattle.bmp_sections.proofs.sections.Sections.add_coordinate_to.Goals as goal

pub from_num-sum-requires : goal.from_num-sum-requires
from_num-sum-requires g c =
    let a = value_matrix (g.Self.Sections.list c.args.self.now) c.args.y in
    still_below (g.F.Field.size c.args.f.now) a c.args.c (g.F.Field.num c.args.f.now c.args.factor) c.loop-j.j
    c.args.sums.now c.loop-j.sums _ c.requires.sums c.loop-j.invariant (search rules) c.from.ensures

pub loop-j-init : goal.loop-j-init
loop-j-init g c = added_none _ _ _ _ c.args.sums.now

pub loop-j-preserved : goal.loop-j-preserved
loop-j-preserved g c =
    let a = value_matrix (g.Self.Sections.list c.args.self.now) c.args.y in
    added_more (g.F.Field.size c.args.f.now) a c.args.c (g.F.Field.num c.args.f.now c.args.factor) c.args.sums.now
    c.loop-j.j c.loop-j.sums _ _ _ _ (search rules) c.loop-j.invariant
    (c.from_num-sum.ensures.number ∙ c.from.ensures) c.mul-term.ensures.number
    (c.from_num.ensures.number ∙ c.from-in-loop-j.ensures ∙ c.at.ensures)
    (c.num.ensures ∙ c.add.ensures.number)

pub returns : goal.returns
returns g c =
    let a = value_matrix (g.Self.Sections.list c.args.self.now) c.args.y in
    added_all (g.F.Field.size c.args.f.now) a c.args.c (g.F.Field.num c.args.f.now c.args.factor) c.loop-j.j
    c.args.sums.now c.loop-j.sums (search rules) c.loop-j.invariant
