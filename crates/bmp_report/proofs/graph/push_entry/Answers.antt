use Rattle.std.proofs.Common.{◌≡◌, ℕ, List, [], ◌∷◌, ◌++◌, OnOk, append_assoc, subst, ◌∙◌, w16, FitsSigned, rules}
use Rattle.std.proofs.lemmas.Int.{to_z-of_z}
use Rattle.std.specs.Int.{w128}
use Rattle.std.specs.Fmt.{signed_decimal}
use Rattle.bmp_weyl.specs.Matrices.{cell}
use Rattle.bmp_report.proofs.MatrixLemmas.{entry_is}
use Rattle.bmp_report.proofs.graph.push_entry.Goals as goal

pub returns : goal.returns
returns c =
    let fits : FitsSigned w16 c.entry.result = search rules in
    let fits_again : FitsSigned w128 c.from.result = search rules in
    let is : c.from.result ≡ cell c.args.e.now.entries c.args.i c.args.j =
    c.from.ensures ∙ (to_z-of_z w16 c.entry.result fits
    ∙ entry_is c.args.e.now c.args.i c.args.j c.entry.result c.requires.element c.requires.row c.requires.column
    c.entry.ensures.value) in
    let printed : c.push.new.self.items ++ signed_decimal c.from.result ≡ c.args.out.now.items ++
    (32 ∷ signed_decimal (cell c.args.e.now.entries c.args.i c.args.j)) =
    rw (c.in_ok-push.ensures.items, is)
    (append_assoc c.args.out.now.items (32 ∷ []) (signed_decimal (cell c.args.e.now.entries c.args.i c.args.j))) in
    subst (λ (t : List ℕ). OnOk c.push_int.result (c.push_int.new.out.items ≡ t)) printed
    (rw (to_z-of_z w128 c.from.result fits_again) at c.push_int.ensures.ok)
