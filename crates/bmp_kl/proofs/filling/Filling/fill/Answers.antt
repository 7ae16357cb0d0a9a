use Rattle.std.proofs.Common.{◌≡◌, ◌≢◌, ◌≤◌, ◌<◌, ◌+◌, ◌*◌, ◌^◌, ◌∙◌, ℕ, ℤ, pos, arith, ap, ap₂, subst, sym, length, get_or}
use Rattle.std.specs.Int.RustNames.{unsigned_abs}
use Rattle.std.specs.Vec.{with_items}
use Rattle.std.proofs.lemmas.Int.{ints, to_z-of_z}
use mir.Syntax.{w64}
use mir.Val.{SFits, to_z, of_z}
use Rattle.std.proofs.lemmas.List.{with_items_is}
use Rattle.bmp_math.specs.Integers.{IsWithin}
use Rattle.bmp_roots.specs.RootSystems.{matrix_of, positive_roots_of}
use Rattle.bmp_weyl.specs.Elements.{word_of}
use Rattle.bmp_interval.specs.IntervalViews.{system_of, letters_of, vertices_of}
use Rattle.bmp_hecke.specs.Combinations.{value_in}
use Rattle.bmp_kl.specs.IntervalBars.{counts_below}
use Rattle.bmp_kl.specs.Powers.{horner}
use Rattle.bmp_kl.specs.PartLists.{part_value, IsBarAdded}
use Rattle.bmp_kl.specs.Filled.{top_value, IsFilled}
use Rattle.bmp_kl.proofs.FillingLemmas.{parts_within, places_within, too_big, tops_within, filled_next}
use Rattle.bmp_kl.proofs.filling.Filling.fill.Goals as goal

pub sum_of_parts-requires-clause-small : goal.sum_of_parts-requires-clause-small
sum_of_parts-requires-clause-small c d e near =
    subst (λ ps. IsWithin (2 ^ 69) (part_value ps c.args.x d e)) (sym c.deref.ensures.value)
    (parts_within (system_of c.args.interval.now) (word_of (letters_of c.args.interval.now))
    (vertices_of c.args.interval.now)
    c.requires.filling.steps.interval.interval
    (unsigned_abs c.args.limit) (c.args.x + 1) c.args.self.now.sums.items c.args.self.now.parts.items
    c.requires.filling.filled (omega (arith, ints, c.requires.limit)) c.args.x d e (omega arith) near)

pub returns-then-passes-clause-too_big : goal.returns-then-passes-clause-too_big
returns-then-passes-clause-too_big c =
    let value : (e : ℤ) →
    value_in c.sum_of_parts.new.row 0 e ≡ horner 36 (part_value c.args.self.now.parts.items c.args.x) e =
    λ e. c.sum_of_parts.ensures.value e ∙ ap (λ ps. horner 36 (part_value ps c.args.x) e) c.deref.ensures.value in
    let row_is : (with_items c.args.self.now.row c.sum_of_parts.new.row).items ≡ c.sum_of_parts.new.row =
    with_items_is c.args.self.now.row _ (omega (arith, c.sum_of_parts.auto.row, c.deref_mut.ensures.len)) in
    let limit_fits : SFits w64 c.args.limit = omega (arith, ints, c.requires.limit) in
    let limit_is : to_z w64 (of_z w64 c.args.limit) ≡ c.args.limit = to_z-of_z w64 c.args.limit limit_fits in
    too_big (system_of c.args.interval.now) (word_of (letters_of c.args.interval.now)) (vertices_of c.args.interval.now)
    c.requires.filling.steps.interval.interval (unsigned_abs c.args.limit) c.args.x c.requires.vertex
    c.args.self.now.sums.items c.args.self.now.parts.items c.sum_of_parts.new.row c.requires.filling.filled value
    c.if-passes.ensures.some.0 c.if-passes.ensures.some.1 c.if-passes.ensures.some.2
    (subst (λ r. unsigned_abs c.args.limit < unsigned_abs (get_or r (72 + c.if-passes.ensures.some.0) (pos 0)))
    (c.deref-2.ensures.value ∙ row_is)
    (subst (λ l. unsigned_abs l < unsigned_abs (get_or c.deref-2.result.now (72 + c.if-passes.ensures.some.0) (pos 0)))
    limit_is c.if-passes.ensures.some.3))

pub add_bar-requires-clause-small : goal.add_bar-requires-clause-small
add_bar-requires-clause-small c a =
    let value : (e : ℤ) →
    value_in c.sum_of_parts.new.row 0 e ≡ horner 36 (part_value c.args.self.now.parts.items c.args.x) e =
    λ e. c.sum_of_parts.ensures.value e ∙ ap (λ ps. horner 36 (part_value ps c.args.x) e) c.deref.ensures.value in
    let row_is : (with_items c.args.self.now.row c.sum_of_parts.new.row).items ≡ c.sum_of_parts.new.row =
    with_items_is c.args.self.now.row _ (omega (arith, c.sum_of_parts.auto.row, c.deref_mut.ensures.len)) in
    let limit_fits : SFits w64 c.args.limit = omega (arith, ints, c.requires.limit) in
    let limit_is : to_z w64 (of_z w64 c.args.limit) ≡ c.args.limit = to_z-of_z w64 c.args.limit limit_fits in
    let fits : (e : ℕ) → 0 < e → e ≤ 36 → unsigned_abs (get_or c.sum_of_parts.new.row (72 + e) (pos 0)) ≤ unsigned_abs
    c.args.limit =
    λ e above near.
    subst (λ r. unsigned_abs (get_or r (72 + e) (pos 0)) ≤ unsigned_abs c.args.limit) (c.deref-2.ensures.value ∙ row_is)
    (subst (λ l. unsigned_abs (get_or c.deref-2.result.now (72 + e) (pos 0)) ≤ unsigned_abs l) limit_is
    (c.if-passes.ensures.none e above near)) in
    let long : length c.store.new.sums ≡ length c.args.self.now.sums.items =
    c.store.ensures.as_long ∙ ap length c.deref_mut-2.ensures.value in
    let stored : (i : ℕ) → i < 73 → get_or c.store.new.sums (c.args.x * 73 + i) (pos 0) ≡ get_or c.sum_of_parts.new.row
    (i + 36) (pos 0) =
    λ i l. c.store.ensures.here i l ∙ ap (λ r. get_or r (i + 36) (pos 0)) (c.deref-3.ensures.value ∙ row_is) in
    let kept : (y i : ℕ) → i < 73 → y ≢ c.args.x → get_or c.store.new.sums (y * 73 + i) (pos 0)
    ≡ get_or c.args.self.now.sums.items (y * 73 + i) (pos 0) =
    λ y i l off. c.store.ensures.others y i l off
    ∙ ap (λ s. get_or s (y * 73 + i) (pos 0)) c.deref_mut-2.ensures.value in
    let sums_is : (with_items c.args.self.now.sums c.store.new.sums).items ≡ c.store.new.sums =
    with_items_is c.args.self.now.sums _ (omega (arith, c.store.auto.sums, c.deref_mut-2.ensures.len)) in
    let tops_are : (a : ℕ) → a < 37 →
    get_or c.top_row.new.tops a (pos 0) ≡ top_value (length (vertices_of c.args.interval.now)) c.store.new.sums
    c.args.x (pos a) =
    λ a l.
    c.top_row.ensures.tops a l
    ∙ ap₂ (λ n s. top_value n s c.args.x (pos a)) c.len-count.ensures.value (c.deref-4.ensures.value ∙ sums_is) in
    let tops_is : (with_items c.args.self.now.tops c.top_row.new.tops).items ≡ c.top_row.new.tops =
    with_items_is c.args.self.now.tops _ (omega (arith, c.top_row.auto.tops, c.deref_mut-3.ensures.len)) in
    subst (λ ts. IsWithin 1000000 (get_or ts a (pos 0))) (sym (c.deref-5.ensures.value ∙ tops_is))
    (tops_within (system_of c.args.interval.now) (word_of (letters_of c.args.interval.now))
    (vertices_of c.args.interval.now)
    c.requires.filling.steps.interval.interval (unsigned_abs c.args.limit) c.args.x c.requires.vertex
    c.args.self.now.sums.items c.args.self.now.parts.items c.sum_of_parts.new.row c.requires.filling.filled value
    c.store.new.sums long (omega (arith, ints, c.requires.limit)) stored kept fits
    c.top_row.new.tops c.top_row.ensures.long tops_are (omega (arith, ints, c.requires.limit)) a)

pub add_bar-requires-clause-fits : goal.add_bar-requires-clause-fits
add_bar-requires-clause-fits c z a d below l m =
    places_within (system_of c.args.interval.now) (word_of (letters_of c.args.interval.now))
    (vertices_of c.args.interval.now)
    c.requires.filling.steps.interval.interval
    (unsigned_abs c.args.limit) (c.args.x + 1) c.args.self.now.sums.items c.args.self.now.parts.items
    c.requires.filling.filled (omega (arith, ints, c.requires.limit)) z a d (omega (arith, below)) l m

pub returns-clause-filling : goal.returns-clause-filling
returns-clause-filling c =
    let value : (e : ℤ) →
    value_in c.sum_of_parts.new.row 0 e ≡ horner 36 (part_value c.args.self.now.parts.items c.args.x) e =
    λ e. c.sum_of_parts.ensures.value e ∙ ap (λ ps. horner 36 (part_value ps c.args.x) e) c.deref.ensures.value in
    let row_is : (with_items c.args.self.now.row c.sum_of_parts.new.row).items ≡ c.sum_of_parts.new.row =
    with_items_is c.args.self.now.row _ (omega (arith, c.sum_of_parts.auto.row, c.deref_mut.ensures.len)) in
    let limit_fits : SFits w64 c.args.limit = omega (arith, ints, c.requires.limit) in
    let limit_is : to_z w64 (of_z w64 c.args.limit) ≡ c.args.limit = to_z-of_z w64 c.args.limit limit_fits in
    let fits : (e : ℕ) → 0 < e → e ≤ 36 → unsigned_abs (get_or c.sum_of_parts.new.row (72 + e) (pos 0)) ≤ unsigned_abs
    c.args.limit =
    λ e above near.
    subst (λ r. unsigned_abs (get_or r (72 + e) (pos 0)) ≤ unsigned_abs c.args.limit) (c.deref-2.ensures.value ∙ row_is)
    (subst (λ l. unsigned_abs (get_or c.deref-2.result.now (72 + e) (pos 0)) ≤ unsigned_abs l) limit_is
    (c.if-passes.ensures.none e above near)) in
    let long : length c.store.new.sums ≡ length c.args.self.now.sums.items =
    c.store.ensures.as_long ∙ ap length c.deref_mut-2.ensures.value in
    let stored : (i : ℕ) → i < 73 → get_or c.store.new.sums (c.args.x * 73 + i) (pos 0) ≡ get_or c.sum_of_parts.new.row
    (i + 36) (pos 0) =
    λ i l. c.store.ensures.here i l ∙ ap (λ r. get_or r (i + 36) (pos 0)) (c.deref-3.ensures.value ∙ row_is) in
    let kept : (y i : ℕ) → i < 73 → y ≢ c.args.x → get_or c.store.new.sums (y * 73 + i) (pos 0)
    ≡ get_or c.args.self.now.sums.items (y * 73 + i) (pos 0) =
    λ y i l off. c.store.ensures.others y i l off
    ∙ ap (λ s. get_or s (y * 73 + i) (pos 0)) c.deref_mut-2.ensures.value in
    let sums_is : (with_items c.args.self.now.sums c.store.new.sums).items ≡ c.store.new.sums =
    with_items_is c.args.self.now.sums _ (omega (arith, c.store.auto.sums, c.deref_mut-2.ensures.len)) in
    let tops_are : (a : ℕ) → a < 37 →
    get_or c.top_row.new.tops a (pos 0) ≡ top_value (length (vertices_of c.args.interval.now)) c.store.new.sums
    c.args.x (pos a) =
    λ a l.
    c.top_row.ensures.tops a l
    ∙ ap₂ (λ n s. top_value n s c.args.x (pos a)) c.len-count.ensures.value (c.deref-4.ensures.value ∙ sums_is) in
    let tops_is : (with_items c.args.self.now.tops c.top_row.new.tops).items ≡ c.top_row.new.tops =
    with_items_is c.args.self.now.tops _ (omega (arith, c.top_row.auto.tops, c.deref_mut-3.ensures.len)) in
    record {
      steps = c.requires.filling.steps;
      rows = c.bar.ensures.rows;
      row = ap length row_is ∙ c.sum_of_parts.ensures.long;
      tops = ap length tops_is ∙ c.top_row.ensures.long;
      filled = subst (λ s. IsFilled (matrix_of (system_of c.args.interval.now))
          (positive_roots_of (system_of c.args.interval.now))
          (vertices_of c.args.interval.now) (unsigned_abs c.args.limit) c.args.x s c.add_bar.new.parts.items)
          (sym sums_is)
          (filled_next (system_of c.args.interval.now) (word_of (letters_of c.args.interval.now))
          (vertices_of c.args.interval.now)
          c.requires.filling.steps.interval.interval (unsigned_abs c.args.limit) c.args.x c.requires.vertex
          c.args.self.now.sums.items c.args.self.now.parts.items c.sum_of_parts.new.row c.requires.filling.filled value
          c.store.new.sums long (omega (arith, ints, c.requires.limit)) stored kept fits
          c.top_row.new.tops c.add_bar.new.parts.items tops_are
          (subst (λ ts. IsBarAdded 37 c.args.x ts
          (counts_below (matrix_of (system_of c.args.interval.now))
          (positive_roots_of (system_of c.args.interval.now))
          (vertices_of c.args.interval.now) c.args.x) c.args.self.now.parts.items c.add_bar.new.parts.items)
          (c.deref-5.ensures.value ∙ tops_is) c.add_bar.ensures));
    }
