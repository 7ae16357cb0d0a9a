use Rattle.std.proofs.Common.{◌*◌, [], ◌∷◌, refl, arith}
use Rattle.bmp_interval.specs.IntervalViews.{system_of, vertices_of}
use Rattle.bmp_cert.specs.JobRules.{HasDegree, IsSmall, HasSize, interval_rules, size_rules, IsFirstFault}
use Rattle.bmp_cert.specs.declared.job_fault.JobFault.TheVariants.{DegreeBound, TooLarge}
use Rattle.bmp_cert.proofs.RuleLemmas.{keeps_both, fails_behind, not_kept}
use Rattle.bmp_cert.proofs.SystemLemmas.{size_is, not_small}
use Rattle.bmp_cert.proofs.rules.check_size.Goals as goal

pub returns-then-j-gt-MAX_DEGREE-clause-fault : goal.returns-then-j-gt-MAX_DEGREE-clause-fault
returns-then-j-gt-MAX_DEGREE-clause-fault c = record {
  fails = fails_behind c.args.j.now interval_rules (HasDegree ∷ []) 0 c.requires.before (λ low. absurd (omega arith));
  values = refl;
}

pub returns-then-size-gt-MAX_SIZE-clause-fault : goal.returns-then-size-gt-MAX_SIZE-clause-fault
returns-then-size-gt-MAX_SIZE-clause-fault c =
    let size : HasSize c.args.j.now (c.len.result * c.count.result) =
    size_is c.args.j.now (system_of c.args.interval.now) (vertices_of c.args.interval.now) c.len.result c.from.result
    c.count.result
    c.requires.system c.requires.interval c.len.ensures.value c.from.ensures c.count.ensures.number in
    record {
      fails = fails_behind c.args.j.now interval_rules (HasDegree ∷ IsSmall ∷ []) 1 c.requires.before
          (omega arith, not_small c.args.j.now (c.len.result * c.count.result) size (omega arith));
      values = size;
    }

pub returns-then-size-gt-MAX_SIZE-clause-only : goal.returns-then-size-gt-MAX_SIZE-clause-only
returns-then-size-gt-MAX_SIZE-clause-only c = λ kept.
    let fault : IsFirstFault c.args.j.now (TooLarge (c.len.result * c.count.result)) =
    returns-then-size-gt-MAX_SIZE-clause-fault c in
    absurd (not_kept c.args.j.now size_rules 7 fault.fails kept)

pub returns-clause-kept : goal.returns-clause-kept
returns-clause-kept c = keeps_both c.args.j.now interval_rules (HasDegree ∷ IsSmall ∷ []) c.requires.before (
  omega arith,
  (
    (
      c.len.result * c.count.result,
      size_is c.args.j.now (system_of c.args.interval.now) (vertices_of c.args.interval.now) c.len.result
          c.from.result c.count.result
          c.requires.system c.requires.interval c.len.ensures.value c.from.ensures c.count.ensures.number,
      omega arith,
    ),
    tt,
  ),
)
