use Rattle.std.proofs.Common.{◌≢◌, ℕ, ◌+◌, ◌<◌, List, length, arith, inl, inr, ◌∙◌, length-set, get_or-set_same, get_or-set_other}
use Rattle.std.specs.Prelude.{slice_index, slice_set}
use Rattle.std.proofs.lemmas.Bool.{cases_eq}
use Rattle.bmp_field.specs.Tables.{IsInverse}
use Rattle.bmp_field.specs.PrimeLaws.{listed_range}
use Rattle.bmp_field.proofs.prime.inverses_modulo.Goals as goal

-- one inverse more
one_more : (p a b : ℕ) (list : List ℕ) → a < length list → IsInverse p a b →
    ((k : ℕ) → k < a → k ≢ 0 → IsInverse p k (slice_index list k)) → (k : ℕ) → k < a + 1 → k ≢ 0 →
    IsInverse p k (slice_index (slice_set list a b) k)
one_more p a b list within here before k below other =
    elim (cases_eq k a) [
      | inl same ↦ rw same (rw get_or-set_same here)
      | inr apart ↦ rw get_or-set_other (before k (omega arith) other)
    ]

pub loop-a-preserved : goal.loop-a-preserved
loop-a-preserved c =
    let small = (listed_range c.args.p c.requires).1 in
    let room : c.loop-a.a < length c.loop-a.inverses = omega (arith, small, c.loop-a.invariant.0) in
    let here : IsInverse c.args.p c.loop-a.a c.inverse_modulo.result =
    record { below = c.inverse_modulo.ensures.below; product = c.inverse_modulo.ensures.product } in (
      length-set c.loop-a.inverses c.loop-a.a c.inverse_modulo.result ∙ c.loop-a.invariant.0,
      one_more c.args.p c.loop-a.a c.inverse_modulo.result c.loop-a.inverses room here c.loop-a.invariant.1,
    )
