use Rattle.std.proofs.Common.{ℕ, length, ◌∙◌, sym, ap, subst}
use Rattle.bmp_math.specs.Matrices.{Matrix, NumbersBelow}
use Rattle.bmp_linear.specs.Evidence.{EvidenceBelow}
use Rattle.bmp_linear.specs.Faults.{AllPass, IsFirstFailure}
use Rattle.bmp_linear.specs.KernelChecks.{KernelCompares}
use Rattle.bmp_linear.specs.declared.blocks.DegreeBlock.{DegreeBlock}
use Rattle.bmp_linear.specs.declared.evidence.KernelEvidence.{KernelEvidence}
use Rattle.bmp_check.specs.declared.method.Method.{Method}
use Rattle.bmp_check.specs.declared.given.Given.{Given}
use Rattle.bmp_check.specs.Methods.{method_of}
use Rattle.bmp_check.specs.ShapedViews.{cert_in}
use Rattle.bmp_check.specs.Verdicts.{kernel_refusal}
use Rattle.bmp_check.proofs.InputLemmas.{at_block, read_there, read_block, field_prime, prime_is, kernel_numbers, kernel_fits, kernel_below, kernel_room, kernel_as, kernel_differs}
use Rattle.bmp_check.proofs.evidence.check_kernel_at.Goals as goal

pub block_of-block-requires : goal.block_of-block-requires
block_of-block-requires g c =
    read_there c.args.x c.args.d c.given.ensures c.part_of.ensures
    (at_block c.requires.whole c.args.x c.args.d c.requires.block).there

pub check_kernel-requires-clause-numbers : goal.check_kernel-requires-clause-numbers
check_kernel-requires-clause-numbers g c =
    let at = at_block c.requires.whole c.args.x c.args.d c.requires.block in
    let is = read_block c.args.x c.args.d c.given.ensures c.part_of.ensures c.block_of-block.ensures in
    let prime = field_prime c.field-field.ensures.field c.field-field.ensures.size c.sheaf.ensures (prime_is at) in
    subst (λ p. NumbersBelow p (g.A.Rows.matrix c.args.rows.now)) (sym prime) (kernel_numbers at c.requires.matrix is)

pub check_kernel-requires-clause-fits : goal.check_kernel-requires-clause-fits
check_kernel-requires-clause-fits g c =
    let at = at_block c.requires.whole c.args.x c.args.d c.requires.block in
    kernel_fits at c.requires.matrix
    (read_block c.args.x c.args.d c.given.ensures c.part_of.ensures c.block_of-block.ensures)

pub check_kernel-requires-clause-values : goal.check_kernel-requires-clause-values
check_kernel-requires-clause-values g c =
    let at = at_block c.requires.whole c.args.x c.args.d c.requires.block in
    let is = read_block c.args.x c.args.d c.given.ensures c.part_of.ensures c.block_of-block.ensures in
    let prime = field_prime c.field-field.ensures.field c.field-field.ensures.size c.sheaf.ensures (prime_is at) in
    subst (λ p. EvidenceBelow c.block_of-block.result.now.kernel p) (sym prime) (kernel_below at c.requires.matrix is)

pub check_kernel-requires-clause-room : goal.check_kernel-requires-clause-room
check_kernel-requires-clause-room g c =
    let at = at_block c.requires.whole c.args.x c.args.d c.requires.block in
    let is = read_block c.args.x c.args.d c.given.ensures c.part_of.ensures c.block_of-block.ensures in
    kernel_room at c.requires.matrix is _ c.requires.width

pub returns-in-Ok-clause-ok : goal.returns-in-Ok-clause-ok
returns-in-Ok-clause-ok g c =
    let at = at_block c.requires.whole c.args.x c.args.d c.requires.block in
    let is = read_block c.args.x c.args.d c.given.ensures c.part_of.ensures c.block_of-block.ensures in
    let prime = field_prime c.field-field.ensures.field c.field-field.ensures.size c.sheaf.ensures (prime_is at) in
    kernel_as at c.requires.matrix is prime
    (λ (p : ℕ) (m : Matrix) (e : KernelEvidence). AllPass (KernelCompares p m e)) c.in-Ok.ensures.ok

pub returns-in-Err-clause-first : goal.returns-in-Err-clause-first
returns-in-Err-clause-first g c =
    let at = at_block c.requires.whole c.args.x c.args.d c.requires.block in
    let is = read_block c.args.x c.args.d c.given.ensures c.part_of.ensures c.block_of-block.ensures in
    let prime = field_prime c.field-field.ensures.field c.field-field.ensures.size c.sheaf.ensures (prime_is at) in
    let fault = c.in-Err.fault in
    let method = c.method.ensures ∙ ap (λ (e : Given). method_of e.version) c.given-in-Err.ensures in
    let counted = c.from.ensures ∙ c.len.ensures ∙ ap (λ (b : DegreeBlock). length b.kernel.basis) is in (
      fault,
      kernel_as at c.requires.matrix is prime
          (λ (p : ℕ) (m : Matrix) (e : KernelEvidence). IsFirstFailure (KernelCompares p m e) fault)
          c.in-Err.ensures.fault,
      c.kernel_refusal.ensures (cert_in c.args.s.now) counted
          ∙ ap (λ (m : Method). kernel_refusal m (cert_in c.args.s.now) c.args.x c.args.d fault) method,
    )

pub returns-in-Err-clause-differ : goal.returns-in-Err-clause-differ
returns-in-Err-clause-differ g c =
    let is = read_block c.args.x c.args.d c.given.ensures c.part_of.ensures c.block_of-block.ensures in
    let counted = c.from.ensures ∙ c.len.ensures ∙ ap (λ (b : DegreeBlock). length b.kernel.basis) is in
    kernel_differs _ (cert_in c.args.s.now) c.args.x c.args.d c.in-Err.fault _
    (c.kernel_refusal.ensures (cert_in c.args.s.now) counted) c.in-Err.ensures.fault.differs
