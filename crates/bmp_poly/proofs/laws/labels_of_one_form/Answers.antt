use Rattle.bmp_poly.proofs.OneLabel.{one_label}
use Rattle.bmp_poly.proofs.laws.labels_of_one_form.Goals as goal

pub returns : goal.returns
returns c = one_label
