-- The two ways in which a row is kept, and the numbers that it has.
use Rattle.std.proofs.Common.{◌≡◌, ℕ, ◌+◌, ◌*◌, ◌%◌, ◌<◌, List, length, ◌≤◌, ◌-◌, ◌++◌, take, drop, get_or, slice_index, map, inl, inr, sym, ap, ap₂, subst, ◌∙◌, arith, mod-lt}
use Rattle.std.proofs.Math.Nat.{mod-eq_of_lt, zero-mod}
use Rattle.std.proofs.lemmas.Bool.{cases_lt}
use Rattle.std.proofs.lemmas.Grind.{same_number_lists}
use Rattle.std.proofs.lemmas.List.{get_or-append-add, get_or_append_left, get_or-take, get_or-drop, length-take-le, length-drop}
use Rattle.std.proofs.lemmas.List.FromFn.{length-map-range_with_len, get_or-map-range_with_len}
use Rattle.smallvec.specs.SmallVec.{SmallVec}
use Rattle.bmp_field.specs.Runs.{AreBelow, IsMultipleAdded}
use Rattle.bmp_linear.specs.declared.vector.Entry.{Entry}
use Rattle.bmp_linear.specs.declared.mixed_row.Kept.{Kept}
use Rattle.bmp_linear.specs.declared.mixed_row.Kept.TheVariants.{Entries, Numbers}
use Rattle.bmp_linear.specs.SparseVectors.{IsSparse, FitsBelow, ValuesBelow, number_at}
use Rattle.bmp_linear.specs.KeptRows.{spread_numbers, kept_numbers, KeepsRow}
use Rattle.bmp_linear.specs.NumberRows.{IsRowSum, IsRowTimes}
use Rattle.bmp_linear.specs.RowChanges.{AddsEntries}
use Rattle.bmp_linear.specs.Runs.{AreMultiples}
use Rattle.bmp_linear.specs.EntryChanges.{times_entry, IsEntrySum}
use Rattle.bmp_linear.proofs.SparseLemmas.{number_at-own}
use Rattle.bmp_linear.proofs.RunRowLemmas.{row_ends}
use Rattle.bmp_linear.proofs.MultipleLemmas.{written_back, cut_sized, cut_at, reduced_term}
use Rattle.bmp_linear.proofs.EntryTimesLemmas.{number_at-times, times_sparse, times_fits, sum_fits}

pub spread-length : (n : ℕ) (es : List Entry) → length (spread_numbers n es) ≡ n
spread-length n es = length-map-range_with_len (number_at es) 0 n

pub spread-at : (n : ℕ) (es : List Entry) (j : ℕ) → j < n → get_or (spread_numbers n es) j 0 ≡ number_at es j
spread-at n es j l = get_or-map-range_with_len (number_at es) 0 n j j 0 l (omega arith)

pub kept-length : (n : ℕ) (k : Kept) → KeepsRow n k → length (kept_numbers n k) ≡ n
kept-length n (Entries es) h = spread-length n es.items
kept-length n (Numbers ns) h = h

-- what is known of the entries of a row
pub record AreEntriesOf (p : ℕ) (r : List ℕ) (es : List Entry) : Type 0 where
  pub sparse : IsSparse es
  pub fits : FitsBelow es (length r)
  pub values : ValuesBelow es p
  pub same : (j : ℕ) → j < length r → number_at es j ≡ get_or r j 0

module _ (cols : ℕ) {kept : Kept} {r : List ℕ} {row : SmallVec Entry} {es : List Entry}
    (seen : kept_numbers cols kept ≡ r) (is : kept ≡ Entries row) (is_es : es ≡ row.items) where
  pub entries_spread : spread_numbers cols es ≡ r
  entries_spread = ap (spread_numbers cols) is_es ∙ sym (ap (kept_numbers cols) is) ∙ seen

  pub entries_columns : cols ≡ length r
  entries_columns = sym (spread-length cols es) ∙ ap length entries_spread

  pub entries_same : (j : ℕ) → j < length r → number_at es j ≡ get_or r j 0
  entries_same j l = sym (spread-at cols es j (rw entries_columns l))
      ∙ ap (λ (xs : List ℕ). get_or xs j 0) entries_spread

  pub entries_kept : {p : ℕ} → (cols < 4294967296) × KeepsRow cols kept → AreBelow p r → AreEntriesOf p r es
  entries_kept {p} invariant below =
      let keeps : KeepsRow cols (Entries row) = subst (KeepsRow cols) is invariant.1 in
      let its_sparse : IsSparse es = subst IsSparse (sym is_es) keeps.0 in
      let its_fit : FitsBelow es (length r) = subst (FitsBelow es) entries_columns
      (subst (λ v. FitsBelow v cols) (sym is_es) keeps.1) in
      record {
        sparse = its_sparse;
        fits = its_fit;
        values = λ k d l.
            let number : get_or r (get_or es k d).place 0 < p = below (get_or es k d).place (its_fit k d l) in
            subst (λ n. n < p) (sym (entries_same (get_or es k d).place (its_fit k d l))
            ∙ number_at-own es k d its_sparse.rising l) number;
        same = entries_same;
      }

-- a sum of the same numbers
pub sum_as : {p c : ℕ} {old new : List ℕ} (u v : ℕ → ℕ) → ((j : ℕ) → j < length old → u j ≡ v j) →
    IsRowSum p c old u new → IsRowSum p c old v new
sum_as {p} {c} {old} u v same h = record {
  length_is = h.length_is;
  summed = λ j l. h.summed j l ∙ ap (λ x. (get_or old j 0 + c * x) % p) (same j l);
}

-- entries that were added
pub added_row : {p c : ℕ} {es : List Entry} {old new : List ℕ} → length new ≡ length old → AreBelow p old →
    AddsEntries p c es old new → IsRowSum p c old (number_at es) new
added_row sized below adds = record { length_is = sized; summed = λ j l. adds.added j (below j l) }

pub entries_added : {p c : ℕ} {r : List ℕ} {es : List Entry} {old new : List ℕ} → AreEntriesOf p r es →
    length old ≡ length r →
    length new ≡ length old → AreBelow p old → AddsEntries p c es old new → IsRowSum p c old (slice_index r) new
entries_added {p} {c} {r} {es} {old} entries as_many sized below adds =
    sum_as (number_at es) (slice_index r) (λ j l. entries.same j (rw (← as_many) l)) (added_row sized below adds)

-- the numbers of a list are those of the entries that were spread
pub spread_list : (n : ℕ) (es : List Entry) (ns : List ℕ) → length ns ≡ n →
    ((j : ℕ) → j < length ns → get_or ns j 0 ≡ number_at es j) → ns ≡ spread_numbers n es
spread_list n es ns sized same =
    same_number_lists ns (spread_numbers n es) (sized ∙ sym (spread-length n es))
    (λ j l. same j l ∙ sym (spread-at n es j (rw (← sized) l)))

-- the entries of a sum
pub spread_sum : (n p c : ℕ) {r : List ℕ} {es more w : List Entry} → spread_numbers n es ≡ r →
    IsEntrySum p c es more w → IsRowSum p c r (number_at more) (spread_numbers n w)
spread_sum n p c {r} {es} {more} {w} seen sum = record {
  length_is = spread-length n w ∙ sym (spread-length n es) ∙ ap length seen;
  summed = λ j l.
      let column : j < n = subst (λ m. j < m) (sym (ap length seen) ∙ spread-length n es) l in
      spread-at n w j column ∙ sum.same j
      ∙ ap (λ x. (x + c * number_at more j) % p)
      (sym (spread-at n es j column) ∙ ap (λ (xs : List ℕ). get_or xs j 0) seen);
}

pub sum_kept : (n p c : ℕ) {r : List ℕ} {es more w : List Entry} → n ≡ length r → AreEntriesOf p r es →
    FitsBelow more (length r) → IsEntrySum p c es more w → n < 4294967296 → (n < 4294967296) ×
    (IsSparse w × FitsBelow w n)
sum_kept n p c {r} {es} {more} {w} columns entries fits sum limit = (
  limit,
  (sum.sparse, subst (FitsBelow w) (sym columns) (sum_fits p c (length r) es more w entries.fits fits sum)),
)

-- the entries of a multiple
pub spread_times : (n : ℕ) (p c : ℕ) (es : List Entry) {r : List ℕ} → spread_numbers n es ≡ r →
    IsRowTimes p c r (spread_numbers n (map (times_entry p c) es))
spread_times n p c es {r} seen = record {
  length_is = spread-length n (map (times_entry p c) es) ∙ sym (spread-length n es) ∙ ap length seen;
  multiplied = λ j l.
      let column : j < n = subst (λ m. j < m) (sym (ap length seen) ∙ spread-length n es) l in
      spread-at n (map (times_entry p c) es) j column ∙ number_at-times p c es j
      ∙ ap (λ x. (c * x) % p) (sym (spread-at n es j column) ∙ ap (λ (xs : List ℕ). get_or xs j 0) seen);
}

pub times_kept : (n p c m : ℕ) {r : List ℕ} {es : List Entry} (w : SmallVec Entry) → 2 ≤ p → (c * m) % p ≡ 1 →
    n ≡ length r → AreEntriesOf p r es → w.items ≡ map (times_entry p c) es → n < 4294967296 →
    (n < 4294967296) × KeepsRow n (Entries w)
times_kept n p c m {r} {es} w two inverse columns entries is_w limit = (
  limit,
  (
    subst IsSparse (sym is_w) (times_sparse p c m es two inverse entries.values entries.sparse),
    subst (λ (v : List Entry). FitsBelow v n) (sym is_w)
        (times_fits p c n es (subst (FitsBelow es) (sym columns) entries.fits)),
  ),
)

-- a multiple that was written over all items
pub written_multiple : {p c n : ℕ} {items old r new : List ℕ} → old ≡ items → items ≡ r → n ≡ length items →
    IsRowTimes p c old new → IsRowTimes p c r (take n (new ++ drop (length new) items))
written_multiple {p} {c} {n} {items} {old} {r} {new} is_items is_r whole times =
    let sized : length new ≡ n = times.length_is ∙ ap length is_items ∙ sym whole in
    subst (λ s. IsRowTimes p c r s) (sym (written_back n new items sized (sym whole)))
    (subst (λ (o : List ℕ). IsRowTimes p c o new) (is_items ∙ is_r) times)

-- a sum that was written over all items
pub written_sum : {p c n : ℕ} {items old r new : List ℕ} (v : ℕ → ℕ) → old ≡ items → items ≡ r → n ≡ length items →
    IsRowSum p c old v new → IsRowSum p c r v (take n (new ++ drop (length new) items))
written_sum {p} {c} {n} {items} {old} {r} {new} v is_items is_r whole sum =
    let sized : length new ≡ n = sum.length_is ∙ ap length is_items ∙ sym whole in
    subst (λ s. IsRowSum p c r v s) (sym (written_back n new items sized (sym whole)))
    (subst (λ (o : List ℕ). IsRowSum p c o v new) (is_items ∙ is_r) sum)

-- a list whose end was written anew
pub spliced : (start k : ℕ) (sums into post : List ℕ) → start ≤ length sums → k < length into →
    get_or (take start sums ++ (into ++ post)) (start + k) 0 ≡ get_or into k 0
spliced start k sums into post room l =
    ap (λ m. get_or (take start sums ++ (into ++ post)) (m + k) 0) (sym (length-take-le start sums room))
    ∙ get_or-append-add (take start sums) (into ++ post) k 0 ∙ get_or_append_left into post 0 k l

cut_from : (at n : ℕ) (list : List ℕ) (k : ℕ) → k < n → get_or (take n (drop at list)) k 0 ≡ get_or list (at + k) 0
cut_from at n list k l = get_or-take n (drop at list) k 0 l ∙ get_or-drop at list k 0

-- numbers that were added from a place on, before which there are none
pub sum_behind : (p c start : ℕ) (more : List ℕ) {old new into : List ℕ} → length new ≡ length old →
    length more ≡ length old → ((j : ℕ) → j < start → get_or more j 0 ≡ 0) → AreBelow p old →
    IsMultipleAdded p c (take (length more - start) (drop start more)) (take (length old - start) (drop start old)) into
    →
    ((j : ℕ) → j < start → get_or new j 0 ≡ get_or old j 0) →
    ((k : ℕ) → k < length into → get_or new (start + k) 0 ≡ get_or into k 0) →
    IsRowSum p c old (slice_index more) new
sum_behind p c start more {old} {new} {into} sized as_many zero below added before from = record {
  length_is = sized;
  summed = λ j l. elim (cases_lt j start) [
    | inl early ↦
        let none : c * get_or more j 0 ≡ c * 0 = ap (λ x. c * x) (zero j early) in
        let whole : get_or old j 0 ≡ get_or old j 0 + c * get_or more j 0 = omega arith in
        before j early ∙ sym (mod-eq_of_lt (below j l)) ∙ ap (λ x. x % p) whole
    | inr late ↦
        let k : ℕ = j - start in
        let at : start + k ≡ j = omega arith in
        let inside : k < length old - start = omega arith in
        let all : length (drop start old) ≡ length old - start = length-drop start old in
        let count : length (take (length old - start) (drop start old)) ≡ length old - start =
        length-take-le (length old - start) (drop start old) (omega arith) in
        ap (λ m. get_or new m 0) (sym at) ∙ from k (omega (arith, inside, count, added.length_is))
        ∙ added.added k (omega (arith, inside, count))
        ∙ ap₂ (λ x y. (x + c * y) % p)
        (cut_from start (length old - start) old k inside ∙ ap (λ m. get_or old m 0) at)
        (cut_from start (length more - start) more k (omega arith) ∙ ap (λ m. get_or more m 0) at)
  ];
}

-- the multiple by f among all multiples of a list, one after the other
module _ (p f : ℕ) (more ts : List ℕ) (sized : length ts ≡ p * length more) (h : AreMultiples p p more ts) (l : f < p)
  where
    pub multiple_room : f * length more + length more ≤ length ts
    multiple_room =
        let ends : f * length more + length more ≤ p * length more = row_ends f p (length more) l in
        omega (arith, ends, sized)

    abbrev multiple : List ℕ
    multiple = take (f * length more + length more - f * length more) (drop (f * length more) ts)

    pub multiple-length : length multiple ≡ length more
    multiple-length = cut_sized (f * length more) (length more) ts multiple_room

    multiple-number : (k : ℕ) → k < length more → get_or multiple k 0 ≡ (f * get_or more k 0) % p
    multiple-number k m = cut_at (f * length more) (length more) ts k m ∙ h f k l m

    pub multiple-below : AreBelow p multiple
    multiple-below j m =
        let inside : j < length more = subst (λ n. j < n) multiple-length m in
        subst (λ n. n < p) (sym (multiple-number j inside)) (mod-lt (f * get_or more j 0) (omega arith))

    pub multiple-zero : (start : ℕ) → start ≤ length more → ((j : ℕ) → j < start → get_or more j 0 ≡ 0) → (j : ℕ) →
        j < start → get_or multiple j 0 ≡ 0
    multiple-zero start within zero j m =
        let none : f * get_or more j 0 ≡ 0 = ap (λ x. f * x) (zero j m) ∙ omega arith in
        multiple-number j (omega arith) ∙ ap (λ x. x % p) none ∙ zero-mod p

    -- the multiple that was added once
    pub multiple_sum : {r w : List ℕ} → length r ≡ length more → IsRowSum p 1 r (slice_index multiple) w →
        IsRowSum p f r (slice_index more) w
    multiple_sum {r} {w} as_many sum = record {
      length_is = sum.length_is;
      summed = λ j m.
          let once : get_or r j 0 + 1 * get_or multiple j 0 ≡ get_or r j 0 + get_or multiple j 0 = omega arith in
          sum.summed j m ∙ ap (λ x. x % p) once
          ∙ ap (λ x. (get_or r j 0 + x) % p) (multiple-number j (subst (λ n. j < n) as_many m))
          ∙ reduced_term p (get_or r j 0) (f * get_or more j 0);
    }
