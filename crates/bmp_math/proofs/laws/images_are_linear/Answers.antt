use Rattle.bmp_math.proofs.MatrixLemmas.{image_is_linear}
use Rattle.bmp_math.proofs.laws.images_are_linear.Goals as goal

pub returns : goal.returns
returns c = image_is_linear
