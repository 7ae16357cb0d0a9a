use Rattle.std.proofs.Common.{◌≡◌, ap, rules}
use Rattle.bmp_poly.proofs.OneLabel.{one_label}
use Rattle.bmp_poly.specs.declared.label.Label.{Label}
use Rattle.bmp_sheaf.proofs.label_tables.same_label.Goals as goal

pub returns : goal.returns
returns c = (
  (λ t. one_label c.args.a.now c.args.b.now (search rules) (search rules) (search rules)),
  (λ same.
      let prime = ap (λ (x : Label). x.prime) same in
      let rank = ap (λ (x : Label). x.rank) same in
      let leading = ap (λ (x : Label). x.leading) same in
      let coords : c.args.a.now.coords ≡ c.args.b.now.coords = ap (λ (x : Label). x.coords) same in
      search rules),
)
