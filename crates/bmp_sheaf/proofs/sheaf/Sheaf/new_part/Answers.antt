use Rattle.std.proofs.Common.{◌<◌, ◌^◌, List, length, sym, ap, subst, ◌∙◌}
use Rattle.std.specs.List.{All}
use Rattle.bmp_linear.specs.declared.vector.Entry.{Entry}
use Rattle.bmp_linear.specs.SparseVectors.{ValuesBelow}
use Rattle.bmp_module.specs.FreeModules.{degrees_of}
use Rattle.bmp_sheaf.specs.Numbers.{lower_matrix}
use Rattle.bmp_sheaf.specs.States.{with_stalk, sheaf_of}
use Rattle.bmp_sheaf.specs.StalkFaults.{IsStalk}
use Rattle.bmp_sheaf.specs.StalkTables.{AreMapsUp}
use Rattle.bmp_sheaf.proofs.NewMaps.{new_table}
use Rattle.bmp_sheaf.proofs.sheaf.Sheaf.new_part.Goals as goal

pub returns-clause-table : goal.returns-clause-table
returns-clause-table g c =
    let s = c.args.self.now in
    let made = c.in_ok-module.ensures in
    let lifts = c.in_ok-lifts.ensures in
    let few : length (degrees_of c.in_ok-module.module) < 2 ^ 32 =
    subst (λ ds. length ds < 2 ^ 32) (sym made.degrees) c.requires.few in
    let stalk : IsStalk s c.args.x (degrees_of c.in_ok-module.module) c.in_ok-lifts.lifts =
    subst (IsStalk s c.args.x (degrees_of c.in_ok-module.module)) (sym lifts)
    (subst (λ ds. IsStalk s c.args.x ds c.args.lifts.now) (sym made.degrees) c.requires.stalk) in
    let values : All (λ v. ValuesBelow v s.graph.prime) c.in_ok-lifts.lifts =
    subst (All (λ v. ValuesBelow v s.graph.prime)) (sym lifts) c.requires.values in
    let maps : List (List Entry) → Type 0 = λ vs. let t =
    with_stalk s (record { degrees = degrees_of c.in_ok-module.module; lifts = vs }) in
    AreMapsUp t c.args.x (lower_matrix t.graph (sheaf_of t)) c.in_ok-lower.lower.items in
    new_table c.requires.left c.graph.ensures.state.over.is_graph c.requires.next _
    (made.rank ∙ c.rank.ensures.value ∙ ap (λ G. G.rank) c.graph.ensures.graph) few
    stalk values (subst maps (sym lifts) c.in_ok-lower.ensures) c.in_ok-uppers.ensures
