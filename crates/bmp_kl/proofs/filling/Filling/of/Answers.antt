use Rattle.std.proofs.Common.{◌∙◌, ◌*◌, ap, sym, subst, ℕ}
use Rattle.bmp_interval.specs.IntervalViews.{system_of, letters_of, vertices_of}
use Rattle.bmp_weyl.specs.Elements.{word_of}
use Rattle.bmp_kl.specs.BarRows.{HasLiveRows}
use Rattle.bmp_kl.proofs.FillingLemmas.{filled_none}
use Rattle.bmp_kl.proofs.filling.Filling.of.Goals as goal

pub returns : goal.returns
returns c limit = record {
  steps = c.in_ok-steps.ensures;
  rows = subst (λ n. HasLiveRows n c.in_ok-rows.rows.values.items c.in_ok-rows.rows.live.items)
      c.len-count.ensures.value c.in_ok-rows.ensures;
  row = c.in_ok-zeros-3.ensures.long;
  tops = c.in_ok-zeros-4.ensures.long;
  filled = filled_none (system_of c.args.interval.now) (word_of (letters_of c.args.interval.now))
      (vertices_of c.args.interval.now)
      c.len-count.ensures.interval.interval limit _ _
      (c.in_ok-zeros.ensures.long ∙ ap (λ n. n * 73) c.len-count.ensures.value)
      (c.in_ok-zeros-2.ensures.long ∙ ap (λ n. n * 1369) c.len-count.ensures.value) c.in_ok-zeros-2.ensures.zeros;
}
