-- How the tables of a graph grow.
use Rattle.std.proofs.Common.{◌≡◌, ℕ, ◌+◌, ◌<◌, ◌≤◌, ◌↔◌, ◌⊎◌, inl, inr, List, length, get_or, set, arith, refl, sym, subst, ap, ◌∙◌, length-set, [], ◌∷◌, ◌++◌, length-append}
use Rattle.std.proofs.lemmas.Bool.{cases_eq, cases_lt}
use Rattle.std.proofs.lemmas.List.{get_or-set_other, get_or_read, get_or_push, get_or_append_left}
use Rattle.std.proofs.lemmas.Grind.{get_or-set_at}
use Rattle.bmp_graph.specs.Graph.{Graph, vertex_count, edge_count, lower, upper, IsGraph, IsUpRange, IsAbove}
use Rattle.bmp_graph.specs.Bits.{HasBit}
use Rattle.bmp_graph.specs.declared.bits.BitRows.{BitRows}
use Rattle.bmp_graph.specs.Tables.{IsStart, HasStarts, IsNextEnding, HasRowsFrom}
use Rattle.bmp_graph.proofs.GraphLemmas.{edge_rises, lower_rises, IsAbove-by_edge, IsAbove-from_edge}

-- the edges between two starts
pub IsUpRange-starts : (g : Graph) (x s t : ℕ) → IsStart g x s → IsStart g (x + 1) t → IsUpRange g x s t
IsUpRange-starts g x s t low high = record {
  ordered = elim (cases_lt t s) [
    | inl lt ↦
        let below = low.before t lt in
        let above = high.after t (omega arith) (omega (arith, low.within)) in
        absurd (omega arith)
    | inr le ↦ le
  ];
  within = high.within;
  before = low.before;
  inside = λ e l h. omega (arith, low.after e l (omega (arith, high.within)), high.before e h);
  after = λ e l h. omega (arith, high.after e l h);
}

-- what the table says of one vertex
pub IsUpRange-read : (g : Graph) (starts : List ℕ) (x s t : ℕ) → HasStarts g starts → x < vertex_count g →
    s ≡ get_or starts x s → t ≡ get_or starts (x + 1) t → IsUpRange g x s t
IsUpRange-read g starts x s t table within first past =
    let low : x < length starts = omega (arith, table.as_long) in
    let high : x + 1 < length starts = omega (arith, table.as_long) in
    IsUpRange-starts g x s t
    (subst (λ z. IsStart g x z) (sym (get_or_read starts x s low first 0)) (table.each x low))
    (subst (λ z. IsStart g (x + 1) z) (sym (get_or_read starts (x + 1) t high past 0)) (table.each (x + 1) high))

-- an edge that starts at x or later, where all before it start below x
pub IsStart-found : (g : Graph) → IsGraph g → (x s : ℕ) → s < edge_count g → ((e : ℕ) → e < s → lower g e < x) →
    x ≤ lower g s → IsStart g x s
IsStart-found g is x s within before here = record {
  within = omega arith;
  before = before;
  after = λ e l h. let rises = lower_rises g is s e l h in omega arith;
}

-- the starts so far, of the vertices before v, and the first edge after them
pub record HasStartsBefore (g : Graph) (v s : ℕ) (starts : List ℕ) : Type 0 where
  pub as_long : length starts ≡ v
  pub each : (x : ℕ) → x < length starts → IsStart g x (get_or starts x 0)
  pub within : s ≤ edge_count g
  pub before : (e : ℕ) → e < s → lower g e < v

pub HasStartsBefore-more : (g : Graph) (v r s : ℕ) (starts new : List ℕ) → HasStartsBefore g v r starts →
    new ≡ starts ++ s ∷ [] → IsStart g v s
    → HasStartsBefore g (v + 1) s new
HasStartsBefore-more g v r s starts new so_far is here = rw is (record {
  as_long = length-append starts (s ∷ []) ∙ ap (λ n. n + 1) so_far.as_long;
  each = λ x h.
      elim (cases_eq x v) [
        | inl same ↦
            let at : get_or (starts ++ s ∷ []) x 0 ≡ s = get_or_push starts s 0 x (so_far.as_long ∙ sym same) in
            rw at (subst (λ z. IsStart g z s) (sym same) here)
        | inr apart ↦
            let earlier : x < length starts = omega (arith, h, length-append starts (s ∷ []), so_far.as_long) in
            let at : get_or (starts ++ s ∷ []) x 0 ≡ get_or starts x 0 =
            get_or_append_left starts (s ∷ []) 0 x earlier in
            rw at (so_far.each x earlier)
      ];
  within = here.within;
  before = λ e h. let below = here.before e h in omega arith;
})

-- the threads of the edges from number k on
pub record HasEndingsFrom (g : Graph) (k : ℕ) (first next : List ℕ) : Type 0 where
  pub of_each_vertex : length first ≡ vertex_count g
  pub of_each_edge : length next ≡ edge_count g
  pub first_is : (x : ℕ) → x < vertex_count g → IsNextEnding g x k (get_or first x 0)
  pub next_is : (e : ℕ) → k ≤ e → e < edge_count g → IsNextEnding g (upper g e) (e + 1) (get_or next e 0)

-- one edge more, from the last down
pub HasEndingsFrom-more : (g : Graph) (k : ℕ) (first next : List ℕ) → HasEndingsFrom g (k + 1) first next →
    k < edge_count g → upper g k < vertex_count g
    → HasEndingsFrom g k (set first (upper g k) k) (set next k (get_or first (upper g k) 0))
HasEndingsFrom-more g k first next so_far within is_vertex = record {
  of_each_vertex = length-set first (upper g k) k ∙ so_far.of_each_vertex;
  of_each_edge = length-set next k (get_or first (upper g k) 0) ∙ so_far.of_each_edge;
  first_is = λ x h.
      elim (cases_eq x (upper g k)) [
        | inl same ↦
            let at : get_or (set first (upper g k) k) x 0 ≡ k =
            get_or-set_at first (upper g k) x k 0 same (omega (arith, so_far.of_each_vertex)) in
            rw at (record {
              after = omega arith;
              within = omega arith;
              ends = λ lt. sym same;
              between = λ d l h. absurd (omega arith);
            })
        | inr apart ↦
            let at : get_or (set first (upper g k) k) x 0 ≡ get_or first x 0 =
            get_or-set_other first (upper g k) x k 0 apart in
            let old = so_far.first_is x h in
            rw at (record {
              after = omega (arith, old.after);
              within = old.within;
              ends = old.ends;
              between = λ d l lt. elim (cases_eq d k)
                  [ inl e ↦ rw e (λ f. apart (sym f)) | inr ne ↦ old.between d (omega arith) lt ];
            })
      ];
  next_is = λ e l h.
      elim (cases_eq e k) [
        | inl same ↦
            let at : get_or (set next k (get_or first (upper g k) 0)) e 0 ≡ get_or first (upper g k) 0 =
            get_or-set_at next k e (get_or first (upper g k) 0) 0 same (omega (arith, so_far.of_each_edge)) in
            rw at (subst (λ z. IsNextEnding g (upper g z) (z + 1) (get_or first (upper g k) 0)) (sym same)
            (so_far.first_is (upper g k) is_vertex))
        | inr apart ↦
            let at : get_or (set next k (get_or first (upper g k) 0)) e 0 ≡ get_or next e 0 =
            get_or-set_other next k e (get_or first (upper g k) 0) 0 apart in
            rw at (so_far.next_is e (omega arith) h)
      ];
}

-- the same at numbers that are the upper end and the thread
pub HasEndingsFrom-step : (g : Graph) (k j u v : ℕ) (first next : List ℕ) → HasEndingsFrom g j first next → j ≡ k + 1 →
    k < edge_count g → upper g k < vertex_count g
    → u ≡ upper g k → v ≡ get_or first u 0 → HasEndingsFrom g k (set first u k) (set next k v)
HasEndingsFrom-step g k j u v first next so_far above within is_vertex upper_is next_is =
    let thread : v ≡ get_or first (upper g k) 0 = next_is ∙ ap (λ z. get_or first z 0) upper_is in
    rw (upper_is, thread)
    (HasEndingsFrom-more g k first next (subst (λ z. HasEndingsFrom g z first next) above so_far) within is_vertex)

-- y is the upper end of one of the edges from number `from` to before `to`, or above that
abbrev pub IsReached : Graph → ℕ → ℕ → ℕ → Type 0
IsReached g from to y = (d : ℕ) × (from ≤ d) × (d < to) × ((upper g d ≡ y) ⊎ IsAbove g y (upper g d))

-- the row of v has what the edges from number `from` to before e reach; the later rows are done, the earlier ones empty
pub record FillsRow (g : Graph) (v from e : ℕ) (rows : BitRows) : Type 0 where
  pub size : rows.size ≡ vertex_count g
  pub row : (y : ℕ) → y < vertex_count g → HasBit rows v y ↔ IsReached g from e y
  pub later : (x y : ℕ) → v < x → x < vertex_count g → y < vertex_count g → HasBit rows x y ↔ IsAbove g y x
  pub empty : (x y : ℕ) → x < v → y < vertex_count g → HasBit rows x y → ⊥

-- the bits that were set, and those that were added, at n rows and columns
abbrev pub Adds : ℕ → BitRows → BitRows → (ℕ → ℕ → Type 0) → Type 0
Adds n old new Added = (x y : ℕ) → x < n → y < n → HasBit new x y ↔ (HasBit old x y ⊎ Added x y)

-- one edge more of the row
FillsRow-next : (g : Graph) (v from e : ℕ) (old mid new : BitRows) → FillsRow g v from e old → v < vertex_count g →
    from ≤ e → v < upper g e → upper g e < vertex_count g
    → Adds (vertex_count g) old mid (λ x y. (x ≡ v) × (y ≡ upper g e)) →
    Adds (vertex_count g) mid new (λ x y. (x ≡ v) × HasBit mid (upper g e) y) → new.size ≡ vertex_count g
    → FillsRow g v from (e + 1) new
FillsRow-next g v from e old mid new so_far v_is after rises u_is put joined size = record {
  size = size;
  row = λ y h.
      let up_row : HasBit mid (upper g e) y ↔ IsAbove g y (upper g e) = (
        λ bit. elim ((put (upper g e) y u_is h).0 bit)
            [ inl b ↦ (so_far.later (upper g e) y rises u_is h).0 b | inr p ↦ absurd (omega (arith, p.0)) ],
        λ above. (put (upper g e) y u_is h).1 (inl ((so_far.later (upper g e) y rises u_is h).1 above)),
      ) in (
        λ bit. elim ((joined v y v_is h).0 bit) [
          | inl b ↦ elim ((put v y v_is h).0 b) [
            | inl a ↦ let r = (so_far.row y h).0 a in (r.0, r.1, omega (arith, r.2), r.3)
            | inr p ↦ (e, after, omega arith, inl (sym p.1))
          ]
          | inr p ↦ (e, after, omega arith, inr (up_row.0 p.1))
        ],
        λ r. elim (cases_eq r.0 e) [
          | inl same ↦ elim r.3 [
            | inl ends ↦ (joined v y v_is h).1 (inl ((put v y v_is h).1 (inr (refl, sym ends ∙ ap (upper g) same))))
            | inr above ↦ (joined v y v_is h).1 (inr (refl, up_row.1 (subst (λ z. IsAbove g y (upper g z)) same above)))
          ]
          | inr apart ↦ (joined v y v_is h).1
              (inl ((put v y v_is h).1 (inl ((so_far.row y h).1 (r.0, r.1, omega (arith, r.2), r.3)))))
        ],
      );
  later = λ x y l hx hy. (
    λ bit. elim ((joined x y hx hy).0 bit) [
      | inl b ↦ elim ((put x y hx hy).0 b)
          [ inl a ↦ (so_far.later x y l hx hy).0 a | inr p ↦ absurd (omega (arith, p.0)) ]
      | inr p ↦ absurd (omega (arith, p.0))
    ],
    λ above. (joined x y hx hy).1 (inl ((put x y hx hy).1 (inl ((so_far.later x y l hx hy).1 above)))),
  );
  empty = λ x y l h bit.
      elim ((joined x y (omega arith) h).0 bit) [
        | inl b ↦ elim ((put x y (omega arith) h).0 b)
            [ inl a ↦ so_far.empty x y l h a | inr p ↦ absurd (omega (arith, p.0)) ]
        | inr p ↦ absurd (omega (arith, p.0))
      ];
}

-- the same where the bit is set, and the row joined, at the edge's upper end u
pub FillsRow-more : (g : Graph) (v from e u : ℕ) (old mid new : BitRows) → IsGraph g → e < edge_count g →
    lower g e ≡ v → u ≡ upper g e
    → FillsRow g v from e old → from ≤ e → mid.size ≡ old.size → new.size ≡ mid.size
    → Adds old.size old mid (λ x y. (x ≡ v) × (y ≡ u)) → Adds mid.size mid new (λ x y. (x ≡ v) × HasBit mid u y)
    → FillsRow g v from (e + 1) new
FillsRow-more g v from e u old mid new is is_edge starts ends so_far after mid_size new_size put joined =
    let old_is : old.size ≡ vertex_count g = so_far.size in
    let mid_is : mid.size ≡ vertex_count g = mid_size ∙ old_is in
    let ends_at = is.ends e is_edge in
    let rises = edge_rises g is e is_edge in
    FillsRow-next g v from e old mid new so_far (omega (arith, ends_at.0)) after (omega arith) ends_at.1
    (subst (λ n. Adds n old mid (λ x y. (x ≡ v) × (y ≡ upper g e))) old_is
    (subst (λ z. Adds old.size old mid (λ x y. (x ≡ v) × (y ≡ z))) ends put))
    (subst (λ n. Adds n mid new (λ x y. (x ≡ v) × HasBit mid (upper g e) y)) mid_is
    (subst (λ z. Adds mid.size mid new (λ x y. (x ≡ v) × HasBit mid z y)) ends joined))
    (new_size ∙ mid_is)

-- an edge that leads up from v is in the range
pub IsUpRange-has : (g : Graph) (v from to e : ℕ) → IsUpRange g v from to → e < edge_count g → lower g e ≡ v →
    (from ≤ e) × (e < to)
IsUpRange-has g v from to e range is_edge starts = (
  elim (cases_lt e from) [ inl lt ↦ absurd (omega (arith, range.before e lt)) | inr le ↦ le ],
  elim (cases_lt e to) [ inl lt ↦ lt | inr le ↦ absurd (omega (arith, range.after e le is_edge)) ],
)

-- what all edges that lead up from v reach is what is above v
pub HasRowsFrom-filled : (g : Graph) (v from to : ℕ) (rows : BitRows) → IsUpRange g v from to →
    FillsRow g v from to rows → HasRowsFrom g v rows
HasRowsFrom-filled g v from to rows range filled = record {
  size = filled.size;
  done = λ x y l hx hy.
      elim (cases_eq x v) [
        | inl same ↦ subst (λ z. HasBit rows z y ↔ IsAbove g y z) (sym same) ((
          λ bit.
              let r = (filled.row y hy).0 bit in
              let is_edge : r.0 < edge_count g = omega (arith, r.2, range.within) in
              let starts : lower g r.0 ≡ v = range.inside r.0 r.1 r.2 in
              IsAbove-from_edge g y v r.0 is_edge starts r.3,
          λ above.
              let r = IsAbove-by_edge g y v above in
              let inside = IsUpRange-has g v from to r.0 range r.1 r.2 in
              (filled.row y hy).1 (r.0, inside.0, inside.1, r.3),
        ))
        | inr apart ↦ filled.later x y (omega arith) hx hy
      ];
  empty = filled.empty;
}
