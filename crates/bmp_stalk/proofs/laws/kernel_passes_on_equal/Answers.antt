use Rattle.bmp_stalk.proofs.KernelLemmas.{kernel_passes_on_equal}
use Rattle.bmp_stalk.proofs.laws.kernel_passes_on_equal.Goals as goal

pub returns : goal.returns
returns c = kernel_passes_on_equal
