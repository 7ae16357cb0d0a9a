use Rattle.std.proofs.Common.{◌*◌, arith, refl, ap, inl, inr, List, Bool, false, set}
use Rattle.bmp_kl.proofs.RowLemmas.{cleared_next, row_kept, deadened}
use Rattle.bmp_kl.proofs.rows.Rows.clear.Goals as goal

pub loop-j-preserved : goal.loop-j-preserved
loop-j-preserved c = (
  cleared_next (c.args.x * 19) c.loop-j.j c.args.self.now.values.items c.loop-j.self.values.items _ refl
      (omega (arith, c.requires.rows.places, c.requires.inside)) c.loop-j.invariant.0,
  c.loop-j.invariant.1,
)

pub returns-after-loop-j-clause-kept : goal.returns-after-loop-j-clause-kept
returns-after-loop-j-clause-kept c v j l off =
    row_kept c.args.x v j c.args.self.now.values.items c.loop-j.self.values.items
    (λ i away. c.loop-j.invariant.0.2 i (elim away [ inl low ↦ inl low | inr high ↦ inr (omega arith) ])) l off

pub returns-after-loop-j-clause-rows : goal.returns-after-loop-j-clause-rows
returns-after-loop-j-clause-rows c n rows =
    deadened n c.args.x c.args.self.now.values.items c.loop-j.self.values.items c.args.self.now.live.items _ rows
    (omega (arith, rows.as_many, c.requires.inside)) c.loop-j.invariant.0.0
    (λ j l. c.loop-j.invariant.0.1 j (omega arith))
    (λ v j l off.
    row_kept c.args.x v j c.args.self.now.values.items c.loop-j.self.values.items
    (λ i away. c.loop-j.invariant.0.2 i (elim away [ inl low ↦ inl low | inr high ↦ inr (omega arith) ])) l off)
    (ap (λ (ls : List Bool). set ls c.args.x false) c.loop-j.invariant.1)
