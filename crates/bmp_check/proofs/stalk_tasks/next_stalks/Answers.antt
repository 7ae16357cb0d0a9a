use Rattle.std.proofs.Common.{ℕ, ◌+◌, ◌-◌, ◌<◌, length, get_or, sym, subst, ◌∙◌, arith}
use Rattle.bmp_field.specs.declared.prime.PrimeField.{PrimeField}
use Rattle.bmp_graph.specs.Graph.{Graph}
use Rattle.bmp_sheaf.specs.States.{SheafState}
use Rattle.bmp_check.specs.ShapedViews.{written_in}
use Rattle.bmp_check.specs.StalkTasks.{HasAdded, BringStalks}
use Rattle.bmp_check.proofs.AheadLemmas.{same_graph, pending_from, some_opened, can_add, bring_all}
use Rattle.bmp_check.proofs.stalk_tasks.next_stalks.Goals as goal

pub invariant_of-tasks : goal.invariant_of-tasks
invariant_of-tasks g c =
    let before = c.pushed-before.ensures.count in
    let h = pending_from c.in_ok-count.ensures c.requires.checkable c.requires.count c.requires.shape c.requires.so_far
    in
    record {
      counted = let counted = h.counted in omega (arith, counted, before);
      parts_are = λ n from inside.
          let counted = h.counted in
          can_add h n (omega (arith, from, before)) (omega (arith, inside, counted, before));
    }

pub returns-clause-bring : goal.returns-clause-bring
returns-clause-bring g c =
    let opened = c.in_ok-count.ensures in
    let cert = written_in c.args.given.now in
    let h = pending_from opened c.requires.checkable c.requires.count c.requires.shape c.requires.so_far in
    let before = c.pushed-before.ensures.count in
    let made = c.in_ok-made.made in
    subst (λ (G : Graph). BringStalks G cert (length c.args.sheaf.now.stalks) made.items) (same_graph opened)
    (bring_all h (sym made.ok.0 ∙ c.in_ok-made.ensures.count)
    (subst (λ (m : ℕ). (i : ℕ) (d : SheafState PrimeField) → i < length made.items → i < c.in_ok-count.count →
    HasAdded cert c.open_length.new.self (m + c.in_ok-count.count - 1 - i) (get_or made.items i d)) before
    c.in_ok-made.ensures.each))

pub returns-clause-some : goal.returns-clause-some
returns-clause-some g c =
    let opened = c.in_ok-count.ensures in
    let some = some_opened opened c.requires.left (sym c.next_length-level.ensures) in
    omega (arith, some, c.in_ok-made.made.ok.0, c.in_ok-made.ensures.count)
