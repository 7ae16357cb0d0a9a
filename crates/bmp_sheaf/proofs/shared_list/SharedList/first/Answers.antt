use Rattle.std.proofs.Common.{◌≡◌, ◌-◌, ◌++◌, map, take, ap, ◌∙◌}
use Rattle.std.specs.Arc.{arc_value}
use Rattle.bmp_sheaf.proofs.SharedLists.{first_values}
use Rattle.bmp_sheaf.proofs.shared_list.SharedList.first.Goals as goal

pub returns : goal.returns
returns g c =
    let k = c.self.inside.shared in
    let n = c.args.count in
    let xs = (arc_value c.self.inside.beginning).items in
    let ys = c.self.inside.rest.items in
    let rest : map arc_value c.in_ok-rest.rest.items ≡ map arc_value (take (n - k) ys) =
    c.in_ok-rest.ensures ∙ ap (λ zs. map arc_value (take c.saturating_sub-left.result zs)) c.deref.ensures.value
    ∙ ap (λ m. map arc_value (take m ys)) c.saturating_sub-left.ensures in
    rw (c.in_ok-try_clone.ensures, c.saturating_sub-left.ensures) (
    ap (λ zs. map arc_value (take (n - (n - k)) xs) ++ zs) rest ∙ first_values arc_value k xs ys c.self.invariant n
    ∙ ap (take n) c.self.view_is)
