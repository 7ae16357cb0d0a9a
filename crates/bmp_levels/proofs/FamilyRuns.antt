-- The runs of a family, and one more of them.
use Rattle.std.proofs.Common.{◌≡◌, ℕ, ◌+◌, ◌-◌, ◌<◌, ◌≤◌, true, List, [], ◌∷◌, length, get_or, leb, ltb}
use Rattle.std.proofs.Common.{refl, ap, ◌∙◌, arith, leb-true, ltb-true, length-append}
use Rattle.std.proofs.lemmas.Bool.{and_from, and_parts, le-leb, lt-ltb}
use Rattle.std.proofs.lemmas.List.{get_or_push, get_or_append_left}
use Rattle.bmp_linear.specs.declared.vector.Entry.{Entry}
use Rattle.bmp_levels.specs.Runs.{no_run, run_value, FamilyTable, IsFamilyTable, run_at, list_of, IsRunAdded}
use Rattle.bmp_levels.proofs.RunLemmas.{run_value_past}

module _ (f : FamilyTable) (y : ℕ) where
  pub has_from : y < f.vertices → f.vertices ≤ y + length f.runs → (list_of f).has y ≡ true
  has_from below there =
      and_from (ltb y f.vertices) (leb f.vertices (y + length f.runs)) (lt-ltb y f.vertices below)
      (le-leb f.vertices (y + length f.runs) there)

  pub has_vertex : (list_of f).has y ≡ true → (y < f.vertices) × (f.vertices ≤ y + length f.runs)
  has_vertex has =
      let parts = and_parts (ltb y f.vertices) (leb f.vertices (y + length f.runs)) has in
      (ltb-true y f.vertices parts.0, leb-true f.vertices (y + length f.runs) parts.1)

-- later members are 0
pub later_member :
    (f : FamilyTable) → IsFamilyTable f → (j y c : ℕ) → y < f.vertices → f.vertices ≤ y + length f.runs → f.count ≤ j →
    run_value (run_at f y) j c ≡ 0
later_member f is j y c below there past =
    run_value_past (run_at f y) j c
    (omega (arith, past, is.counts (f.vertices - 1 - y) no_run (omega (arith, below, there))))

module _ {size : ℕ} {covers basis : List (List Entry)} {old new : FamilyTable}
    (added : IsRunAdded size covers basis old new) where
  pub one_run_more : length new.runs ≡ length old.runs + 1
  one_run_more = ap length added.runs ∙ simp length-append refl

  -- the runs that there were stay
  pub run_stays :
      (y : ℕ) → y < old.vertices → old.vertices ≤ y + length old.runs → run_at new y ≡ run_at old y
  run_stays y below there =
      ap (λ n. get_or new.runs (n - 1 - y) no_run) added.vertices
      ∙ ap (λ rs. get_or rs (old.vertices - 1 - y) no_run) added.runs
      ∙ get_or_append_left old.runs (added.run ∷ []) no_run (old.vertices - 1 - y) (omega arith)

  -- and the next vertex has the new one
  pub run_next : (y : ℕ) → y + (length old.runs + 1) ≡ old.vertices → run_at new y ≡ added.run
  run_next y at =
      ap (λ n. get_or new.runs (n - 1 - y) no_run) added.vertices
      ∙ ap (λ rs. get_or rs (old.vertices - 1 - y) no_run) added.runs
      ∙ get_or_push old.runs added.run no_run (old.vertices - 1 - y) (omega arith)
