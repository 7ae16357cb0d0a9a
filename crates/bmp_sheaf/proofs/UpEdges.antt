-- The edges that go up from a vertex: how many they are, and the boundary coordinates on them.
use Rattle.std.proofs.Common.{◌≡◌, ℕ, zero, suc, ◌+◌, ◌-◌, ◌<◌, ◌≤◌, cond, eqb, ltb, arith, refl, sym, ap, subst, ◌∙◌, inl, inr, eq-eqb, ne_eqb}
use Rattle.std.proofs.lemmas.Bool.{cases_eq, cases_lt, cond-true, cond-false, lt-ltb, le-ltb}
use Rattle.bmp_math.specs.Sums.{sum_below}
use Rattle.bmp_math.proofs.SumLemmas.{sum_below_same, sum_below-zero, sum_below-suc, sum_below-zeros, sum_below-add, sum_below_joined, sum_below_more}
use Rattle.bmp_graph.proofs.GraphLemmas.{lower_rises}
use Rattle.bmp_graph.proofs.TableLemmas.{IsUpRange-has}
use Rattle.bmp_graph.specs.Graph.{Graph, IsGraph, IsUpRange, vertex_count, edge_count, lower, upper}
use Rattle.bmp_sheaf.specs.Sheaves.{SheafData}
use Rattle.bmp_sheaf.specs.Coordinates.{edge_module_count, boundary_start, boundary_count}
use Rattle.bmp_sheaf.specs.Written.{first_edge, up_count, IsUpPlace}

-- a sum whose terms are 0 at first
sum_none : (f : ℕ → ℕ) (m : ℕ) → ((i : ℕ) → i < m → f i ≡ 0) → sum_below f m ≡ 0
sum_none f m none = sum_below_same f (λ i. 0) m none ∙ sum_below-zeros m

-- a sum whose terms are 0 from a number on
sum_until : (f : ℕ → ℕ) (m n : ℕ) → m ≤ n → ((i : ℕ) → m ≤ i → i < n → f i ≡ 0) → sum_below f n ≡ sum_below f m
sum_until f m n within none =
    let rest : m + (n - m) ≡ n = omega arith in
    ap (sum_below f) (sym rest) ∙ sum_below_joined f m (n - m)
    ∙ ap (λ z. sum_below f m + z) (sum_none (λ i. f (m + i)) (n - m) (λ i l. none (m + i) (omega arith) (omega arith)))
    ∙ omega arith

sum_ones : (f : ℕ → ℕ) (m : ℕ) → ((i : ℕ) → i < m → f i ≡ 1) → sum_below f m ≡ m
unfolding sum_below
sum_ones f zero one = refl
sum_ones f (suc m) one = omega (arith, sum_ones f m (λ i l. one i (omega arith)), one m (omega arith))

module _ (G : Graph) (x from to : ℕ) (range : IsUpRange G x from to) where
  -- edges stand in the order of their lower ends
  pub first_edge_is : first_edge G x ≡ from
  first_edge_is =
      let starts : ℕ → ℕ = λ e. cond (ltb (lower G e) x) 1 0 in
      let few : from ≤ edge_count G = omega (arith, range.ordered, range.within) in
      sum_until starts from (edge_count G) few
      (λ e past below. cond-false {A = ℕ} (ltb (lower G e) x) 1 0 (le-ltb (lower G e) x (not_before e past below)))
      ∙ sum_ones starts from
      (λ e below. cond-true {A = ℕ} (ltb (lower G e) x) 1 0 (lt-ltb (lower G e) x (range.before e below)))
    where
      not_before : (e : ℕ) → from ≤ e → e < edge_count G → x ≤ lower G e
      not_before e past below = elim (cases_lt e to) [
        | inl inside ↦ omega (arith, range.inside e past inside)
        | inr after ↦ omega (arith, range.after e after below)
      ]

  -- the terms of the edges from x, in any sum over edges
  module _ (f : ℕ → ℕ) where
    abbrev from_x : ℕ → ℕ
    from_x e = cond (eqb (lower G e) x) (f e) 0

    terms_before : (e : ℕ) → e < from → from_x e ≡ 0
    terms_before e below =
        cond-false {A = ℕ} (eqb (lower G e) x) (f e) 0
        (ne_eqb (lower G e) x (λ same. omega (arith, range.before e below)))

    terms_inside : (e : ℕ) → from ≤ e → e < to → from_x e ≡ f e
    terms_inside e past below =
        cond-true {A = ℕ} (eqb (lower G e) x) (f e) 0 (eq-eqb (lower G e) x (range.inside e past below))

    terms_after : (e : ℕ) → to ≤ e → e < edge_count G → from_x e ≡ 0
    terms_after e past below =
        cond-false {A = ℕ} (eqb (lower G e) x) (f e) 0
        (ne_eqb (lower G e) x (λ same. omega (arith, range.after e past below)))

    sum_starts : sum_below from_x from ≡ 0
    sum_starts = sum_none from_x from terms_before

    sum_goes_on : (e : ℕ) → from ≤ e → e < to → sum_below from_x (e + 1) ≡ sum_below from_x e + f e
    sum_goes_on e past below = sum_below_more from_x e ∙ ap (λ z. sum_below from_x e + z) (terms_inside e past below)

    sum_ends : sum_below from_x to ≡ sum_below from_x (edge_count G)
    sum_ends = sym (sum_until from_x to (edge_count G) range.within terms_after)

  pub up_count_is : up_count G x ≡ to - from
  up_count_is =
      let one : ℕ → ℕ = λ e. 1 in
      let split : from + (to - from) ≡ to = omega (arith, range.ordered) in
      sym (sum_ends one) ∙ ap (sum_below (from_x one)) (sym split) ∙ sum_below_joined (from_x one) from (to - from)
      ∙ ap (λ z. z + sum_below (λ i. from_x one (from + i)) (to - from)) (sum_starts one)
      ∙ ap (λ z. 0 + z)
      (sum_ones (λ i. from_x one (from + i)) (to - from)
      (λ i l. terms_inside one (from + i) (omega arith) (omega (arith, l))))
      ∙ omega arith

  module _ (F : SheafData) (d : ℕ) where
    pub boundary_starts : boundary_start G F x d from ≡ 0
    boundary_starts = sum_starts (edge_module_count G F d)

    pub boundary_goes_on : (e : ℕ) → from ≤ e → e < to →
        boundary_start G F x d (e + 1) ≡ boundary_start G F x d e + edge_module_count G F d e
    boundary_goes_on = sum_goes_on (edge_module_count G F d)

    pub boundary_ends : boundary_start G F x d to ≡ boundary_count G F x d
    boundary_ends = sum_ends (edge_module_count G F d)

  -- upper ends rise, so that there are no more edges than vertices
  upper_rises : IsGraph G → (k : ℕ) → from + k < to → k ≤ upper G (from + k)
  upper_rises is zero below = omega arith
  upper_rises is (suc k) below =
      let here : from + k < from + suc k = omega arith in
      let so_far : k ≤ upper G (from + k) = upper_rises is k (omega arith) in
      elim (is.order (from + k) (from + suc k) here (omega (arith, range.within))) [
        | inl lower_end ↦ absurd
            (omega (
              arith,
              range.inside (from + k) (omega arith) (omega arith),
              range.inside (from + suc k) (omega arith) below,
            ))
        | inr upper_end ↦ omega arith
      ]

  pub up_few : IsGraph G → to ≤ from + vertex_count G
  up_few is = elim (cases_eq to from) [
    | inl none ↦ omega arith
    | inr some ↦
        let last : from + (to - from - 1) < to = omega (arith, range.ordered) in
        let rises : to - from - 1 ≤ upper G (from + (to - from - 1)) = upper_rises is (to - from - 1) last in
        let vertex : upper G (from + (to - from - 1)) < vertex_count G =
        (is.ends (from + (to - from - 1)) (omega (arith, range.within))).1 in
        omega arith
  ]

  -- where an edge from x stands among them
  pub up_place : (e : ℕ) → e < edge_count G → lower G e ≡ x → IsUpPlace G x e (e - from)
  up_place e below starts =
      let has = IsUpRange-has G x from to e range below starts in
      record {
        first = omega (arith, has.0, first_edge_is);
        place = ap (λ z. e - z) (sym first_edge_is);
        within = omega (arith, has.0, has.1, up_count_is);
      }

pub up_place_of : (G : Graph) (e y from to : ℕ) → IsUpRange G y from to → y ≡ lower G e → e < edge_count G →
    IsUpPlace G (lower G e) e (e - from)
up_place_of G e y from to range is below =
    up_place G (lower G e) from to (subst (λ z. IsUpRange G z from to) is range) e below refl

-- the edge e goes up from x, as number k
pub record GoesUp (G : Graph) (x e k : ℕ) : Type 0 where
  pub is_edge : e < edge_count G
  pub starts : lower G e ≡ x
  pub at : IsUpPlace G x e k

-- so does each of the range, which is that of an equal graph
pub goes_up : (G H : Graph) (x from to e : ℕ) → H ≡ G → IsUpRange H x from to → from ≤ e → e < to →
    GoesUp G x e (e - from)
goes_up G H x from to e same up past below =
    let range : IsUpRange G x from to = subst (λ K. IsUpRange K x from to) same up in
    let is_edge : e < edge_count G = omega (arith, below, range.within) in
    let starts : lower G e ≡ x = range.inside e past below in
    record { is_edge = is_edge; starts = starts; at = up_place G x from to range e is_edge starts }

-- edges stand in the order of their lower ends, so that those that go up from x are a range of them
module _ (G : Graph) (is : IsGraph G) where
  abbrev starts_below : ℕ → ℕ → ℕ
  starts_below x n = sum_below (λ e. cond (ltb (lower G e) x) 1 0) n

  -- of the first n edges those before c start below x
  record SplitsAt (x n c : ℕ) : Type 0 where
    pub within : c ≤ n
    pub before : (e : ℕ) → e < c → lower G e < x
    pub after : (e : ℕ) → c ≤ e → e < n → x ≤ lower G e

  splits : (x n : ℕ) → n ≤ edge_count G → SplitsAt x n (starts_below x n)
  splits x zero few =
      let none : starts_below x 0 ≡ 0 = sum_below-zero (λ e. cond (ltb (lower G e) x) 1 0) in
      record {
        within = omega (arith, none);
        before = λ e below. absurd (omega (arith, none, below));
        after = λ e past below. absurd (let nothing : e < 0 = below in omega arith);
      }
  splits x (suc n) few =
      let h : SplitsAt x n (starts_below x n) = splits x n (omega arith) in
      let step : starts_below x (suc n) ≡ starts_below x n + cond (ltb (lower G n) x) 1 0 =
      sum_below-suc (λ e. cond (ltb (lower G e) x) 1 0) n in
      elim (cases_lt (lower G n) x) [
        | inl below ↦
            let one : cond {A = ℕ} (ltb (lower G n) x) 1 0 ≡ 1 =
            cond-true {A = ℕ} (ltb (lower G n) x) 1 0 (lt-ltb (lower G n) x below) in
            let all : starts_below x n ≡ n =
            elim (cases_lt (starts_below x n) n) [
              | inl fewer ↦ absurd
                  (omega (
                    arith,
                    h.after (starts_below x n) (omega arith) fewer,
                    lower_rises G is (starts_below x n) n (omega (arith, fewer)) (omega (arith, few)),
                    below,
                  ))
              | inr most ↦ omega (arith, most, h.within)
            ] in
            let whole : suc n ≡ starts_below x (suc n) = omega (arith, step, one, all) in
            subst (SplitsAt x (suc n)) whole
            (record {
              within = omega arith;
              before = λ e early. omega (
                arith,
                lower_rises G is e n (omega (arith, early)) (omega (arith, few)),
                below,
              );
              after = λ e past early. absurd (omega (arith, past, early));
            })
        | inr above ↦
            let zero_more : cond {A = ℕ} (ltb (lower G n) x) 1 0 ≡ 0 =
            cond-false {A = ℕ} (ltb (lower G n) x) 1 0 (le-ltb (lower G n) x above) in
            let same : starts_below x n ≡ starts_below x (suc n) = omega (arith, step, zero_more) in
            subst (SplitsAt x (suc n)) same
            (record {
              within = omega (arith, h.within);
              before = h.before;
              after = λ e past early. elim (cases_eq e n) [
                | inl last ↦ omega (arith, above, ap (lower G) last)
                | inr other ↦ h.after e past
                    (omega (arith, early, other))
              ];
            })
      ]

  -- one edge starts below x + 1 where it starts below x, or at x
  next_first : (x : ℕ) → first_edge G (x + 1) ≡ first_edge G x + up_count G x
  next_first x =
      let f : ℕ → ℕ = λ e. cond (ltb (lower G e) x) 1 0 in
      let g : ℕ → ℕ = λ e. cond (eqb (lower G e) x) 1 0 in
      sum_below_same (λ e. cond (ltb (lower G e) (x + 1)) 1 0) (λ e. f e + g e) (edge_count G) (λ e below. one_of e)
      ∙ sum_below-add f g (edge_count G)
    where
      one_of : (e : ℕ) → cond (ltb (lower G e) (x + 1)) 1 0 ≡ cond (ltb (lower G e) x) 1 0 + cond (eqb (lower G e) x) 1
          0
      one_of e = elim (cases_lt (lower G e) x) [
        | inl below ↦
            omega (
              arith,
              cond-true {A = ℕ} (ltb (lower G e) (x + 1)) 1 0
                  (lt-ltb (lower G e) (x + 1) (omega (arith, below))),
              cond-true {A = ℕ} (ltb (lower G e) x) 1 0 (lt-ltb (lower G e) x below),
              cond-false {A = ℕ} (eqb (lower G e) x) 1 0 (ne_eqb (lower G e) x (λ same. omega (arith, same, below))),
            )
        | inr above ↦ elim (cases_eq (lower G e) x) [
          | inl here ↦
              omega (
                arith,
                cond-true {A = ℕ} (ltb (lower G e) (x + 1)) 1 0
                    (lt-ltb (lower G e) (x + 1) (omega (arith, here))),
                cond-false {A = ℕ} (ltb (lower G e) x) 1 0 (le-ltb (lower G e) x above),
                cond-true {A = ℕ} (eqb (lower G e) x) 1 0 (eq-eqb (lower G e) x here),
              )
          | inr other ↦
              omega (
                arith,
                cond-false {A = ℕ} (ltb (lower G e) (x + 1)) 1 0
                    (le-ltb (lower G e) (x + 1) (omega (arith, above, other))),
                cond-false {A = ℕ} (ltb (lower G e) x) 1 0 (le-ltb (lower G e) x above),
                cond-false {A = ℕ} (eqb (lower G e) x) 1 0 (ne_eqb (lower G e) x other),
              )
        ]
      ]

  pub up_range_of : (x : ℕ) → IsUpRange G x (first_edge G x) (first_edge G x + up_count G x)
  up_range_of x =
      let lowest : SplitsAt x (edge_count G) (first_edge G x) = splits x (edge_count G) (omega arith) in
      let next : SplitsAt (x + 1) (edge_count G) (first_edge G x + up_count G x) =
      subst (SplitsAt (x + 1) (edge_count G)) (next_first x) (splits (x + 1) (edge_count G) (omega arith)) in
      record {
        ordered = omega arith;
        within = next.within;
        before = lowest.before;
        inside = λ e past below. omega (
          arith,
          next.before e below,
          lowest.after e past (omega (arith, below, next.within)),
        );
        after = λ e past below. omega (arith, next.after e past below);
      }
