use Rattle.std.proofs.Common.{◌∙◌, ap₂, arith}
use Rattle.bmp_graded.proofs.CopiesLemmas.{free_small}
use Rattle.bmp_sheaf.specs.Coordinates.{stalk_count}
use Rattle.bmp_sheaf.proofs.ModuleLemmas.{free_count}
use Rattle.bmp_sheaf.proofs.sheaf.Sheaf.stalk_len.Goals as goal

pub dim-requires-clause-small : goal.dim-requires-clause-small
dim-requires-clause-small g c =
    let free = c.stalk.result.now in
    free_small free.rank c.args.d free.degrees.items free.wide
    (omega (arith, c.requires.degree, c.stalk.ensures.state.bound)) free.few

pub returns : goal.returns
returns g c =
    c.dim.ensures ∙ free_count c.stalk.result.now.rank c.args.d c.stalk.result.now.degrees.items
    ∙ ap₂ (λ r gs. stalk_count r gs c.args.d) c.stalk.ensures.rank c.stalk.ensures.degrees
