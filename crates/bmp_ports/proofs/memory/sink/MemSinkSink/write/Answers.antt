use Rattle.std.proofs.Common.{◌≡◌, ◌==◌, ℕ, List, true, false, ap, ◌∙◌}
use Rattle.std.specs.List.{list_any}
use Rattle.bmp_ports.specs.Memory.{Port, fails_next}
use Rattle.bmp_ports.proofs.memory.sink.MemSinkSink.write.Goals as goal

-- the call isn't a listed one
never : (port now : Port) (fails : List ℕ) → port ≡ now → fails ≡ port.fails →
    false ≡ list_any (λ f. f == port.calls) fails → fails_next now ≡ true → ⊥
never port now fails is same unlisted h = let e : false ≡ true =
    unlisted ∙ (ap (list_any (λ f. f == port.calls)) same ∙ (ap fails_next is ∙ h)) in cc

pub returns-then-is_err-clause-fails : goal.returns-then-is_err-clause-fails
returns-then-is_err-clause-fails c = (
  λ e. cc,
  λ h. absurd (never _ c.args.self.now _ c.self.view_is c.deref.ensures.value c.if-fails.ensures h),
)

pub returns-clause-fails : goal.returns-clause-fails
returns-clause-fails c = (
  λ e. cc,
  λ h. absurd (never _ c.args.self.now _ c.self.view_is c.deref.ensures.value c.if-fails.ensures h),
)
