use Rattle.std.proofs.Common.{◌≡◌, ℕ, List, rules, ap, sym, ◌∙◌, drop, Option, Some, ◌+◌}
use Rattle.std.proofs.lemmas.List.{drop-drop}
use Rattle.bmp_text.proofs.CutLemmas.{at_passed, at_found, at_end}
use Rattle.bmp_text.proofs.line.split.Goals as goal

pub loop-i-preserved : goal.loop-i-preserved
loop-i-preserved c =
    at_passed c.args.separator c.args.bytes.now c.loop-i.i c.loop-i-test.true (search rules) c.loop-i.invariant

pub returns-then-b-separator-clause-front : goal.returns-then-b-separator-clause-front
returns-then-b-separator-clause-front c =
    let parts = at_found c.args.separator c.args.bytes.now c.loop-i.i c.loop-i-test.true (search rules)
    c.loop-i.invariant in
    c.split_at.ensures.front ∙ sym (ap (λ (p : List ℕ × Option (List ℕ)). p.0) parts)

pub returns-then-b-separator-clause-back : goal.returns-then-b-separator-clause-back
returns-then-b-separator-clause-back c =
    let parts = at_found c.args.separator c.args.bytes.now c.loop-i.i c.loop-i-test.true (search rules)
    c.loop-i.invariant in
    let back : c.split_at-then-b-separator.result.1.now ≡ drop (c.loop-i.i + 1) c.args.bytes.now =
    c.split_at-then-b-separator.ensures.back
    ∙ (ap (drop 1) c.split_at.ensures.back ∙ drop-drop 1 c.loop-i.i c.args.bytes.now) in
    ap Some back ∙ sym (ap (λ (p : List ℕ × Option (List ℕ)). p.1) parts)

pub returns-clause-front : goal.returns-clause-front
returns-clause-front c =
    sym (ap (λ (p : List ℕ × Option (List ℕ)). p.0)
    (at_end c.args.separator c.args.bytes.now c.loop-i.i (search rules) c.loop-i.invariant))

pub returns-clause-back : goal.returns-clause-back
returns-clause-back c =
    sym (ap (λ (p : List ℕ × Option (List ℕ)). p.1)
    (at_end c.args.separator c.args.bytes.now c.loop-i.i (search rules) c.loop-i.invariant))
