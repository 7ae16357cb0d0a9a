-- Lists that grow, member by member, and lifts edge by edge.
use Rattle.std.proofs.Common.{◌≡◌, ℕ, ◌+◌, ◌-◌, ◌*◌, ◌<◌, ◌≤◌, List, [], ◌∷◌, ◌++◌, length, take, drop, get_or, inl, inr, refl, sym, ap, subst, ◌∙◌, arith}
use Rattle.std.specs.Prelude.{slice_index}
use Rattle.std.proofs.lemmas.Bool.{cases_eq}
use Rattle.std.proofs.lemmas.List.{get_or_push, get_or_append_left, get_or-take, get_or-drop, length-drop, length-take-le}
use Rattle.std.proofs.lemmas.Nat.{mul-add-lt}
use Rattle.std.proofs.Math.Nat.{mul-le-mul_right}
use Rattle.bmp_linear.specs.declared.vector.Entry.{Entry}
use Rattle.bmp_graded.proofs.CoordinateLemmas.{length_more}
use Rattle.bmp_graph.specs.Graph.{Graph, IsUpRange}
use Rattle.bmp_sheaf.specs.Written.{up_count}
use Rattle.bmp_sheaf.specs.States.{Stalk}
use Rattle.bmp_sheaf.proofs.UpEdges.{up_count_is}
use Rattle.bmp_sections.specs.TupleLists.{TupleList}
use Rattle.bmp_stalk.specs.Values.{IsValueOf}
use Rattle.bmp_stalk.specs.Drafts.{lift_in}
use Rattle.bmp_stalk.specs.Growth.{AreAppended, lifts_on, IsLiftOf, HoldLifts}

pub appended_none : {A : Type 0} (none : A) (P : ℕ → A → Type 0) (xs : List A) → AreAppended none P 0 xs xs
appended_none none P xs = record {
  longer = omega arith;
  before = λ i l. refl;
  each = λ i l. absurd (omega (arith, l));
}

pub appended_more : {A : Type 0} {none : A} {P : ℕ → A → Type 0} {n : ℕ} {old mid new : List A} →
    AreAppended none P n old mid → (v : A) → P n v → new ≡ mid ++ v ∷ [] → AreAppended none P (n + 1) old new
appended_more {A} {none} {P} {n} {old} {mid} {new} h v p is =
    let kept : (i : ℕ) → i < length mid → get_or new i none ≡ get_or mid i none =
    λ i l. ap (λ z. get_or z i none) is ∙ get_or_append_left mid (v ∷ []) none i l in
    record {
      longer = ap length is ∙ omega (arith, length_more mid v, h.longer);
      before = λ i l. kept i (omega (arith, l, h.longer)) ∙ h.before i l;
      each = λ i l. elim (cases_eq i n) [
        | inl last ↦
            let end : get_or new (length old + i) none ≡ v =
            ap (λ z. get_or z (length old + i) none) is
            ∙ get_or_push mid v none (length old + i) (omega (arith, last, h.longer)) in
            subst (P i) (sym end) (subst (λ k. P k v) (sym last) p)
        | inr other ↦
            let before : i < n = omega (arith, l, other) in
            subst (P i) (sym (kept (length old + i) (omega (arith, before, h.longer)))) (h.each i before)
      ];
    }

-- the lifts of one edge more
pub lifts_more : {m k : ℕ} {P : ℕ → ℕ → List Entry → Type 0} {old new : List (List Entry)} → HoldLifts m P k old →
    AreAppended [] (P k) m old new → HoldLifts m P (k + 1) new
lifts_more {m} {k} {P} {old} {new} h a = record {
  counted = omega (arith, a.longer, h.counted);
  each = λ j g l inside. elim (cases_eq j k) [
    | inl last ↦
        let place : length old + g ≡ j * m + g = ap (λ z. z + g) (h.counted ∙ ap (λ z. z * m) (sym last)) in
        subst (λ i. P j g (get_or new i [])) place
        (subst (λ z. P z g (get_or new (length old + g) [])) (sym last) (a.each g inside))
    | inr other ↦
        let before : j < k = omega (arith, l, other) in
        let early : j * m + g < length old = omega (arith, h.counted, mul-add-lt j m g k before inside) in
        subst (P j g) (sym (a.before (j * m + g) early)) (h.each j g before inside)
  ];
}

-- copies, and behind them values
pub lifts_appended : {list : TupleList} {y : ℕ} {chosen : List ℕ} {vs old mid new : List (List Entry)} →
    AreAppended [] (λ i v. v ≡ get_or vs i []) (length vs) old mid →
    AreAppended [] (λ i. IsValueOf list (slice_index chosen i) y) (length chosen) mid new →
    AreAppended [] (IsLiftOf list y chosen vs) (length vs + length chosen) old new
lifts_appended {list} {y} {chosen} {vs} {old} {mid} {new} a b = record {
  longer = omega (arith, a.longer, b.longer);
  before = λ i l. b.before i (omega (arith, l, a.longer)) ∙ a.before i l;
  each = λ g l. record {
    old_one = λ early. b.before (length old + g) (omega (arith, early, a.longer)) ∙ a.each g early;
    new_one = λ i inside at.
        let place : length mid + i ≡ length old + g = omega (arith, at, a.longer) in
        subst (λ k. IsValueOf list (slice_index chosen i) y (get_or new k [])) place (b.each i inside);
  };
}

-- the lifts of one edge stand among all
module _ (t : Stalk) {edges : ℕ} (counted : length t.lifts ≡ edges * length t.degrees) (k : ℕ) (below : k < edges) where
  pub run_inside : k * length t.degrees + length t.degrees ≤ length t.lifts
  run_inside =
      let next : k + 1 ≤ edges = omega (arith, below) in
      omega (arith, counted, mul-le-mul_right (length t.degrees) next)

  pub lifts_on-length : length (lifts_on t k) ≡ length t.degrees
  lifts_on-length =
      let n : ℕ = length t.degrees in
      let rest : length (drop (k * n) t.lifts) ≡ length t.lifts - k * n = length-drop (k * n) t.lifts in
      length-take-le n (drop (k * n) t.lifts) (omega (arith, rest, run_inside))

  pub lifts_on-read : (g : ℕ) → g < length t.degrees → get_or (lifts_on t k) g [] ≡ lift_in t k g
  lifts_on-read g inside =
      let n : ℕ = length t.degrees in
      get_or-take n (drop (k * n) t.lifts) g [] inside ∙ get_or-drop (k * n) t.lifts g []

-- the same of what is kept of a draft, with the edges counted from the first one on
pub edge_inside : {G : Graph} {x first past k n : ℕ} {kept now : Stalk} → IsUpRange G x first past → k < past - first →
    kept ≡ now → n ≡ length kept.degrees → length now.lifts ≡ up_count G x * length now.degrees →
    k * n + n ≤ length kept.lifts
edge_inside {G} {x} {first} {past} {k} {n} {kept} {now} range below seen counted all =
    let edges : k < up_count G x = omega (arith, below, up_count_is G x first past range) in
    subst (λ m. k * m + m ≤ length kept.lifts) (sym counted)
    (run_inside kept (subst (λ (t : Stalk). length t.lifts ≡ up_count G x * length t.degrees) (sym seen) all) k edges)

-- and the part of the kept ones that is read is that of the edge
pub part_is : {kept now : Stalk} {vs : List (List Entry)} {n : ℕ} (k : ℕ) → vs ≡ kept.lifts → kept ≡ now →
    n ≡ length kept.degrees → take ((k * n + n) - k * n) (drop (k * n) vs) ≡ lifts_on now k
part_is {kept} {now} {vs} {n} k items seen counted =
    let one : (k * n + n) - k * n ≡ n = omega arith in
    let count : n ≡ length now.degrees = counted ∙ ap (λ (t : Stalk). length t.degrees) seen in
    let lifts : vs ≡ now.lifts = items ∙ ap (λ (t : Stalk). t.lifts) seen in
    ap (λ m. take m (drop (k * n) vs)) one
    ∙ ap (λ m. take m (drop (k * m) vs)) count
    ∙ ap (λ ws. take (length now.degrees) (drop (k * length now.degrees) ws)) lifts
