use Rattle.std.proofs.Common.{◌≡◌, refl, sym, subst}
use Rattle.bmp_sheaf.specs.States.{sheaf_of}
use Rattle.bmp_sections.specs.TupleLists.{TupleList, tuples_over}
use Rattle.bmp_check.proofs.InputLemmas.{tuples_read}
use Rattle.bmp_stalk.specs.Drafts.{under, IsBuiltDegree}
use Rattle.bmp_build.specs.WholeSpaces.{IsWholeSpace}
use Rattle.bmp_build.proofs.WholeGrowth.{in_same, there_above, vertex_there, same_sections, space_has_tuples}
use Rattle.bmp_build.proofs.whole_stalk.build_space.Goals as goal

pub whole_space-requires-clause-there : goal.whole_space-requires-clause-there
whole_space-requires-clause-there g c = there_above c.requires.above c.requires.drafted.next

pub build_degree-requires-clause-tuples : goal.build_degree-requires-clause-tuples
build_degree-requires-clause-tuples g c =
    let list = c.over-sections.ensures in
    space_has_tuples c.requires.drafted.next
    (in_same c.requires.above (λ H S. IsWholeSpace H S c.args.x c.args.d c.in_ok-space.space.kernel)
    c.in_ok-space.ensures.kernel)
    (same_sections c.requires.above c.args.x c.args.d c.in_ok-space.space.kernel.basis
    (tuples_read list.sheaf list.vertex list.degree list.vectors))

pub returns-clause-built : goal.returns-clause-built
returns-clause-built g c =
    let s = under c.args.sheaf.now in
    let list = c.over-sections.ensures in
    let built = c.in_ok-built.built in
    record {
      space = in_same c.requires.above (λ H S. IsWholeSpace H S c.args.x c.args.d c.in_ok-space.space.kernel)
          c.in_ok-space.ensures.kernel;
      choice = built.block;
      built = subst (λ (l : TupleList). IsBuiltDegree s c.args.x c.args.d l built.block built.draft)
          (same_sections c.requires.above c.args.x c.args.d c.in_ok-space.space.kernel.basis
          (tuples_read list.sheaf list.vertex list.degree list.vectors))
          c.in_ok-built.ensures.built;
      cover = refl;
    }
