-- The refusals of a block, by the method of its evidence.
use Rattle.std.proofs.Common.{◌≡◌, ℕ, sym, subst, inl, inr}
use Rattle.bmp_graph.specs.Graph.{Graph}
use Rattle.bmp_linear.specs.Faults.{AllPass}
use Rattle.bmp_cover.specs.CoverChecks.{CoverPasses}
use Rattle.bmp_cert.specs.Counts.{Written}
use Rattle.bmp_check.specs.declared.method.Method.{Method}
use Rattle.bmp_check.specs.declared.method.Method.TheVariants.{Spaces, Levels}
use Rattle.bmp_check.specs.declared.refusal.Refusal.{Refusal}
use Rattle.bmp_check.specs.Verdicts.{KernelComparesAt, CoverComparesAt, IsKernelRefusal, IsCoverRefusal, IsBlockRefusal}

module _ (G : Graph) {m : Method} (c : Written) (x d : ℕ) (r : Refusal) where
  -- by whole spaces the kernel evidence is compared first
  pub kernel_first : m ≡ Spaces → IsKernelRefusal G m c x d r → IsBlockRefusal G m c x d r
  kernel_first is =
      subst (λ (k : Method). IsKernelRefusal G k c x d r → IsBlockRefusal G k c x d r) (sym is) (λ h. inl h)

  pub cover_second : m ≡ Spaces → AllPass (KernelComparesAt G m c x d) → IsCoverRefusal G m c x d r →
      IsBlockRefusal G m c x d r
  cover_second is =
      subst (λ (k : Method). AllPass (KernelComparesAt G k c x d) → IsCoverRefusal G k c x d r →
      IsBlockRefusal G k c x d r) (sym is)
      (λ passes h. inr (passes, h))

  -- by levels the cover evidence
  pub cover_first : m ≡ Levels → IsCoverRefusal G m c x d r → IsBlockRefusal G m c x d r
  cover_first is = subst (λ (k : Method). IsCoverRefusal G k c x d r → IsBlockRefusal G k c x d r) (sym is) (λ h. inl h)

  pub kernel_second : m ≡ Levels → CoverPasses (CoverComparesAt G m c x d) → IsKernelRefusal G m c x d r →
      IsBlockRefusal G m c x d r
  kernel_second is =
      subst (λ (k : Method). CoverPasses (CoverComparesAt G k c x d) → IsKernelRefusal G k c x d r →
      IsBlockRefusal G k c x d r) (sym is)
      (λ passes h. inr (passes, h))
