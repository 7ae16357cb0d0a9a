-- The restriction of a tuple, vertex after vertex, and the numbers at each vertex one after another.
use Rattle.std.proofs.Common.{◌≡◌, ℕ, ◌+◌, ◌%◌, ◌<◌, ◌≤◌, ◌++◌, Bool, true, false, List, [], ◌∷◌, get_or, true≢false, refl, sym, ap, subst, ◌∙◌, inl, inr, arith}
use Rattle.std.proofs.lemmas.Bool.{cases_eq, cases_Bool, cond-false}
use Rattle.std.proofs.lemmas.List.Elements.{All-push}
use Rattle.bmp_math.proofs.SumLemmas.{sum_below-zero, sum_below_more, sum_below_rises}
use Rattle.bmp_linear.specs.declared.vector.Entry.{Entry}
use Rattle.bmp_linear.specs.SparseVectors.{FitsBelow, ValuesBelow, number_at}
use Rattle.bmp_linear.proofs.SparseLemmas.{number_at-past, number_at-push_same, number_at-push_other, number_at-below}
use Rattle.bmp_graph.specs.Graph.{Graph, IsGraph, vertex_count, lower, upper, label}
use Rattle.bmp_sheaf.specs.Sheaves.{SheafData, Tuple}
use Rattle.bmp_sheaf.specs.Coordinates.{stalk_count}
use Rattle.bmp_sheaf.proofs.EdgeMaps.{element_respects}
use Rattle.bmp_sheaf.proofs.ElementLaws.{same_turned, same_congruent, congruent_chained}
use Rattle.bmp_sheaf.proofs.LiftLaws.{lifts_same}
use Rattle.bmp_sections.specs.Positions.{position_start, position_count, tuple_of}
use Rattle.bmp_sections.specs.Restrictions.{in_set, IsWithin, IsSameTuple, StaysSection}
use Rattle.bmp_sections.proofs.PositionLemmas.{position_size, size_is}

-- ---- one run of numbers behind others

-- the first n numbers of the run are there
pub record IsRunPushed (entries : List Entry) (start place n : ℕ) (old v : List Entry) : Type 0 where
  pub fits : FitsBelow v (place + n)
  pub kept : (j : ℕ) → j < place → number_at v j ≡ number_at old j
  pub added : (c : ℕ) → c < n → number_at v (place + c) ≡ number_at entries (start + c)
  pub values : (p : ℕ) → 0 < p → ValuesBelow old p → ValuesBelow entries p → ValuesBelow v p

pub run_none : (entries : List Entry) (start place : ℕ) (old : List Entry) → FitsBelow old place →
    IsRunPushed entries start place 0 old old
run_none entries start place old after = record {
  fits = λ k d l. let before : (get_or old k d).place < place = after k d l in omega arith;
  kept = λ j l. refl;
  added = λ c l. absurd (omega arith);
  values = λ p some olds all. olds;
}

module _ (entries : List Entry) (start place n : ℕ) (old v : List Entry)
    (h : IsRunPushed entries start place n old v) where
  fits_on : FitsBelow v (place + (n + 1))
  fits_on k d l = let before : (get_or v k d).place < place + n = h.fits k d l in omega arith

  pub run_zero : number_at entries (start + n) ≡ 0 → IsRunPushed entries start place (n + 1) old v
  run_zero none = record {
    fits = fits_on;
    kept = h.kept;
    added = λ c l. elim (cases_eq c n) [
      | inl last ↦ ap (λ k. number_at v (place + k)) last ∙ number_at-past v (place + n) h.fits ∙ sym none
          ∙ ap (λ k. number_at entries (start + k)) (sym last)
      | inr other ↦ h.added c (omega arith)
    ];
    values = h.values;
  }

  pub run_pushed : (e : Entry) → e.place ≡ place + n → e.value ≡ number_at entries (start + n) →
      IsRunPushed entries start place (n + 1) old (v ++ e ∷ [])
  run_pushed e at is =
      let fits : FitsBelow v e.place = rw at h.fits in
      record {
        fits = All-push (λ d. d.place < place + (n + 1)) v e fits_on (omega arith);
        kept = λ j l. number_at-push_other v e j (λ same. absurd (omega arith)) ∙ h.kept j l;
        added = λ c l. elim (cases_eq c n) [
          | inl last ↦ ap (λ k. number_at (v ++ e ∷ []) (place + k)) last ∙ ap (number_at (v ++ e ∷ [])) (sym at)
              ∙ number_at-push_same v e fits ∙ is ∙ ap (λ k. number_at entries (start + k)) (sym last)
          | inr other ↦ number_at-push_other v e (place + c) (λ same. absurd (omega arith)) ∙ h.added c (omega arith)
        ];
        values = λ p some olds all.
            let below : number_at entries (start + n) < p = number_at-below entries p (start + n) some all in
            All-push (λ d. d.value < p) v e (h.values p some olds all) (omega arith);
      }

-- ---- vertex after vertex

module _ (G : Graph) (F : SheafData) (U : ℕ → Bool) (d : ℕ) where
  pub starts_none : position_start G F U d 0 ≡ 0
  starts_none = sum_below-zero (position_size G F U d)

  pub starts_on : (y : ℕ) → U y ≡ true →
      position_start G F U d (y + 1) ≡ position_start G F U d y + stalk_count G.rank (F.degrees y) d
  starts_on y here = sum_below_more (position_size G F U d) y
      ∙ ap (λ n. position_start G F U d y + n) (size_is G F U d y here)

  pub starts_stay : (y : ℕ) → U y ≡ false → position_start G F U d (y + 1) ≡ position_start G F U d y
  starts_stay y out =
      let none : position_size G F U d y ≡ 0 = cond-false {A = ℕ} (U y) (stalk_count G.rank (F.degrees y) d) 0 out in
      omega (arith, sum_below_more (position_size G F U d) y, none)

  pub starts_within : (y : ℕ) → y < vertex_count G → U y ≡ true →
      position_start G F U d y + stalk_count G.rank (F.degrees y) d ≤ position_count G F U d
  starts_within y below here =
      omega (
        arith,
        starts_on y here,
        sum_below_rises (position_size G F U d) (y + 1) (vertex_count G) (omega (arith, below)),
      )

  -- a position of an earlier vertex
  pub starts_before : (y n i : ℕ) → y < n → U y ≡ true → i < stalk_count G.rank (F.degrees y) d →
      position_start G F U d y + i < position_start G F U d n
  starts_before y n i before here inside =
      omega (
        arith,
        inside,
        starts_on y here,
        sum_below_rises (position_size G F U d) (y + 1) n (omega (arith, before)),
      )

module _ (G : Graph) (F : SheafData) (d : ℕ) (from to : List Bool) (t : List Entry) where
  -- at the vertices below n, and the places of those from n on
  pub record IsRestrictedTo (n start place : ℕ) (v : List Entry) : Type 0 where
    pub start_is : start ≡ position_start G F (in_set from) d n
    pub place_is : place ≡ position_start G F (in_set to) d n
    pub order : place ≤ start
    pub fits : FitsBelow v place
    pub values : (p : ℕ) → 0 < p → ValuesBelow t p → ValuesBelow v p
    pub same : (y i : ℕ) → y < n → in_set to y ≡ true → i < stalk_count G.rank (F.degrees y) d →
        number_at v (position_start G F (in_set to) d y + i) ≡ number_at t (position_start G F (in_set from) d y + i)

  pub restricted_none : IsRestrictedTo 0 0 0 []
  restricted_none = record {
    start_is = sym (starts_none G F (in_set from) d);
    place_is = sym (starts_none G F (in_set to) d);
    order = omega arith;
    fits = λ k e l. absurd (omega arith);
    values = λ p some all k e l. absurd (omega arith);
    same = λ y i l. absurd (omega arith);
  }

module _ {G : Graph} {F : SheafData} {d : ℕ} {from to : List Bool} {t : List Entry} where
  module _ {n start place : ℕ} {v : List Entry} (h : IsRestrictedTo G F d from to t n start place v) where
    -- earlier vertices, where n isn't in the smaller set
    earlier : in_set to n ≡ false → (y i : ℕ) → y < n + 1 → in_set to y ≡ true →
        i < stalk_count G.rank (F.degrees y) d →
        number_at v (position_start G F (in_set to) d y + i) ≡ number_at t (position_start G F (in_set from) d y + i)
    earlier out y i before here inside = elim (cases_eq y n) [
      | inl last ↦ absurd (true≢false (sym here ∙ ap (in_set to) last ∙ out))
      | inr other ↦ h.same y i (omega arith) here inside
    ]

    -- what stands at n is within all positions
    pub room_at : {len all : ℕ} → n < vertex_count G → in_set from n ≡ true →
        len ≡ stalk_count G.rank (F.degrees n) d → position_count G F (in_set from) d < all → start + len < all
    room_at {len = len} {all = all} below here is_len few =
        omega (arith, h.start_is, is_len, few, starts_within G F (in_set from) d n below here)

    pub restricted_out : IsWithin to from → in_set from n ≡ false → IsRestrictedTo G F d from to t (n + 1) start place v
    restricted_out within out =
        let left : in_set to n ≡ false = elim (cases_Bool (in_set to n)) [
          | inl here ↦ absurd (true≢false (sym (within n here) ∙ out))
          | inr there ↦ there
        ] in
        record {
          start_is = h.start_is ∙ sym (starts_stay G F (in_set from) d n out);
          place_is = h.place_is ∙ sym (starts_stay G F (in_set to) d n left);
          order = h.order;
          fits = h.fits;
          values = h.values;
          same = earlier left;
        }

    module _ {len more : ℕ} (is_len : len ≡ stalk_count G.rank (F.degrees n) d) (is_more : more ≡ start + len)
        (here : in_set from n ≡ true) where
      start_on : more ≡ position_start G F (in_set from) d (n + 1)
      start_on = omega (arith, is_len, is_more, h.start_is, starts_on G F (in_set from) d n here)

      pub restricted_left : in_set to n ≡ false → IsRestrictedTo G F d from to t (n + 1) more place v
      restricted_left left = record {
        start_is = start_on;
        place_is = h.place_is ∙ sym (starts_stay G F (in_set to) d n left);
        order = omega (arith, h.order, is_more);
        fits = h.fits;
        values = h.values;
        same = earlier left;
      }

      pub restricted_more : {further : ℕ} {w : List Entry} → further ≡ place + len → in_set to n ≡ true →
          IsRunPushed t start place len v w → IsRestrictedTo G F d from to t (n + 1) more further w
      restricted_more {further = further} {w = w} is_further too run =
          let at_end : further ≡ position_start G F (in_set to) d (n + 1) =
          omega (arith, is_len, is_further, h.place_is, starts_on G F (in_set to) d n too) in
          record {
            start_is = start_on;
            place_is = at_end;
            order = omega (arith, h.order, is_more, is_further);
            fits = subst (FitsBelow w) (sym is_further) run.fits;
            values = λ p some all. run.values p some (h.values p some all) all;
            same = λ y i before y_too inside. elim (cases_eq y n) [
              | inl last ↦
                  let in_run : i < len =
                  subst (λ m. i < m) (ap (λ z. stalk_count G.rank (F.degrees z) d) last ∙ sym is_len) inside in
                  ap (λ z. number_at w (position_start G F (in_set to) d z + i)) last
                  ∙ ap (λ z. number_at w (z + i)) (sym h.place_is) ∙ run.added i in_run
                  ∙ ap (λ z. number_at t (z + i)) h.start_is
                  ∙ ap (λ z. number_at t (position_start G F (in_set from) d z + i)) (sym last)
              | inr other ↦
                  let early : y < n = omega arith in
                  let place_early : position_start G F (in_set to) d y + i < place =
                  omega (arith, h.place_is, starts_before G F (in_set to) d y n i early y_too inside) in
                  run.kept (position_start G F (in_set to) d y + i) place_early ∙ h.same y i early y_too inside
            ];
          }

  -- ---- the whole

  module _ {n start place : ℕ} {v : List Entry} (h : IsRestrictedTo G F d from to t n start place v)
      (all : vertex_count G ≤ n) (wide : G.rank ≤ 6) where
    pub same_tuple : IsSameTuple G F d from to t v
    same_tuple y below here =
        element_respects G.prime G.rank (F.degrees y) d (λ i. number_at v (position_start G F (in_set to) d y + i))
        (λ i. number_at t (position_start G F (in_set from) d y + i)) wide
        (λ i inside. ap (λ z. z % G.prime) (h.same y i (omega (arith, below, all)) here inside))

    pub stays_section : IsGraph G → IsWithin to from → StaysSection G F d from to t v
    stays_section is within section e below low up =
        let old : Tuple = tuple_of G F (in_set from) d (number_at t) in
        let new : Tuple = tuple_of G F (in_set to) d (number_at v) in
        let x = lower G e in
        let y = upper G e in
        let ends = is.ends e below in
        congruent_chained G.prime G.rank (F.degrees (upper G e)) (label G e) d _ (old y) (new y)
        (lifts_same G F e d (new x) (old x) (old y) wide (same_tuple x ends.0 low)
        (section e below (within x low) (within y up)))
        (same_congruent G.prime G.rank (F.degrees (upper G e)) (label G e) d (old y) (new y)
        (same_turned G.prime G.rank (F.degrees (upper G e)) d (new y) (old y) (same_tuple y ends.1 up)))
