use Rattle.std.proofs.Common.{ap, ◌∙◌}
use Rattle.bmp_sections.specs.TupleLists.{value_matrix}
use Rattle.bmp_levels.specs.Lists.{first_members}
use Rattle.bmp_levels.specs.Runs.{RunTable, run_value, list_of}
use Rattle.bmp_levels.proofs.RunLemmas.{row_added}
use Rattle.bmp_levels.proofs.members.MembersSections.add_coordinate_to.Goals as goal

pub returns : goal.returns
returns g c =
    let m = c.args.self.now in
    row_added (g.F.Field.size c.args.f.now) (g.F.Field.num c.args.f.now c.args.factor) c.args.c
    (value_matrix (first_members m.count (list_of m.family.now)) c.args.y) c.first-numbers.result.now c.args.sums.now
    c.add_multiple.new.into c.first-numbers.ensures.few c.requires.sums c.add_multiple.ensures
    (λ j l. c.first-numbers.ensures.values j l ∙ ap (λ (r : RunTable). run_value r j c.args.c) c.run-run.ensures)
