use Rattle.std.proofs.Common.{[], ◌∷◌}
use Rattle.bmp_cert.specs.JobRules.{HasReducedWord, HasInterval, letter_rules, interval_rules, IsFirstFault}
use Rattle.bmp_cert.specs.declared.job_fault.JobFault.TheVariants.{Reduced, TooMany}
use Rattle.bmp_cert.proofs.RuleLemmas.{keeps_both, not_kept}
use Rattle.bmp_cert.proofs.SystemLemmas.{reduced_word, interval_of_word, reduced_fault, vertices_fault}
use Rattle.bmp_cert.proofs.rules.interval_below.Goals as goal

pub returns-in-Ok-clause-kept : goal.returns-in-Ok-clause-kept
returns-in-Ok-clause-kept c =
    keeps_both c.args.j.now letter_rules (HasReducedWord ∷ HasInterval ∷ []) c.requires.before (
      reduced_word c.args.j.now c.args.roots.now c.as_slice.result.now c.as_slice.ensures.letters c.requires.system
          c.in-Ok.ensures.interval.interval.reduced,
      (
        interval_of_word c.args.j.now c.args.roots.now c.as_slice.result.now _ c.as_slice.ensures.letters
            c.requires.system
            c.in-Ok.ensures.interval,
        tt,
      ),
    )

pub returns-in-Err-NotReduced-clause-fault : goal.returns-in-Err-NotReduced-clause-fault
returns-in-Err-NotReduced-clause-fault c =
    reduced_fault c.args.j.now c.args.roots.now c.as_slice.result.now c.in-Err-NotReduced.length
    c.as_slice.ensures.letters
    c.requires.before c.requires.system (rw c.in-Err-NotReduced.field-0-is at c.in-Err-NotReduced.ensures.fault)

pub returns-in-Err-NotReduced-clause-only : goal.returns-in-Err-NotReduced-clause-only
returns-in-Err-NotReduced-clause-only c = λ kept.
    let fault : IsFirstFault c.args.j.now (Reduced c.in-Err-NotReduced.length) =
    returns-in-Err-NotReduced-clause-fault c in
    absurd (not_kept c.args.j.now interval_rules 4 fault.fails kept)

pub returns-in-Err-TooMany-clause-fault : goal.returns-in-Err-TooMany-clause-fault
returns-in-Err-TooMany-clause-fault c =
    vertices_fault c.args.j.now c.args.roots.now c.as_slice.result.now c.in-Err-TooMany.count c.as_slice.ensures.letters
    c.requires.before c.requires.system (rw c.in-Err-TooMany.field-0-is at c.in-Err-TooMany.ensures.fault)

pub returns-in-Err-TooMany-clause-only : goal.returns-in-Err-TooMany-clause-only
returns-in-Err-TooMany-clause-only c = λ kept.
    let fault : IsFirstFault c.args.j.now (TooMany c.in-Err-TooMany.count) = returns-in-Err-TooMany-clause-fault c in
    absurd (not_kept c.args.j.now interval_rules 5 fault.fails kept)
