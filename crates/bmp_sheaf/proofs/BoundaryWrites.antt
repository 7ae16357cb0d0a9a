-- Boundaries as they are written, edge after edge.
use Rattle.std.proofs.Common.{◌≡◌, ℕ, ◌+◌, ◌-◌, ◌*◌, ◌%◌, ◌^◌, ◌<◌, ◌≤◌, cond, eqb, length, set, get_or, refl, sym, ap, ◌∙◌, inl, inr, arith, get_or-set_same, get_or-set_other, length-set}
use Rattle.std.specs.Prelude.{slice_index}
use Rattle.std.proofs.lemmas.Bool.{cases_eq, cases_lt}
use Rattle.bmp_math.specs.Matrices.{Matrix, image, SameMatrix}
use Rattle.bmp_math.proofs.SumLemmas.{sum_below_rises}
use Rattle.bmp_linear.specs.RowTables.{Work}
use Rattle.bmp_graph.specs.Graph.{Graph, IsUpRange, edge_count, lower}
use Rattle.bmp_sheaf.specs.Fields.{IsOverField}
use Rattle.bmp_sheaf.specs.Sheaves.{SheafData, boundary_of_element}
use Rattle.bmp_sheaf.specs.Coordinates.{element_of, edge_module_count, boundary_start, boundary_count}
use Rattle.bmp_sheaf.specs.Numbers.{boundary_number, lower_matrix}
use Rattle.bmp_sheaf.specs.Boundaries.{KeepsRest, IsRunWritten, lift_numbers, IsBoundaryWritten}
use Rattle.bmp_sheaf.proofs.EdgeMaps.{lower_image}
use Rattle.bmp_sheaf.proofs.BoundaryMaps.{to_boundary_at}
use Rattle.bmp_sheaf.proofs.UpEdges.{boundary_starts, boundary_goes_on, boundary_ends}
use Rattle.bmp_math.proofs.SameMatrices.{image_same}

-- a run of numbers, one after another
module _ (f : ℕ → ℕ) (start : ℕ) (old : Work) where
  pub run_none : IsRunWritten f start 0 old old
  run_none = record {
    numbers = λ i below. absurd (let none : i < 0 = below in omega arith);
    before = λ k below. refl;
    rest = record { first = refl; second = refl };
  }

  pub run_more : (n at value : ℕ) (now new : Work) → at ≡ start + n → value ≡ f n → start + n < length old.first →
      new ≡ record now { first = set now.first at value } → IsRunWritten f start n old now →
      IsRunWritten f start (n + 1) old new
  run_more n at value now new at_is value_is inside new_is h =
      let here : start + n < length now.first = omega (arith, inside, h.rest.first) in
      let first_is : new.first ≡ set now.first (start + n) value =
      ap (λ (w : Work). w.first) new_is ∙ ap (λ z. set now.first z value) at_is in
      let others : (k : ℕ) → (k ≡ start + n → ⊥) → get_or new.first k 0 ≡ get_or now.first k 0 =
      λ k other. ap (λ xs. get_or xs k 0) first_is ∙ get_or-set_other now.first (start + n) k value 0 other in
      record {
        numbers = λ i below. elim (cases_eq i n) [
          | inl same ↦ ap (λ z. get_or new.first (start + z) 0) same ∙ ap (λ xs. get_or xs (start + n) 0) first_is
              ∙ get_or-set_same now.first (start + n) value 0 here ∙ value_is ∙ ap f (sym same)
          | inr other ↦ others (start + i) (λ e. other (omega (arith, e))) ∙ h.numbers i (omega (arith, below, other))
        ];
        before = λ k below. others k (λ e. omega (arith, e, below)) ∙ h.before k below;
        rest = record {
          first = ap length first_is ∙ length-set now.first (start + n) value ∙ h.rest.first;
          second = ap (λ (w : Work). w.second) new_is ∙ h.rest.second;
        };
      }

-- the numbers on an edge, by the rows of its map
module _ (G : Graph) (over : IsOverField G) (F : SheafData) (d e : ℕ) (below : e < edge_count G) (a : Matrix)
    (same : SameMatrix a (lower_matrix G F d e)) where
  pub lift_by_rows : (p : ℕ) (u : ℕ → ℕ) (i : ℕ) → p ≡ G.prime → i < edge_module_count G F d e →
      image a u i % p ≡ lift_numbers G F d e u i
  lift_by_rows p u i prime inside =
      ap (λ z. image a u i % z) prime ∙ ap (λ z. z % G.prime) (image_same same u i inside)
      ∙ lower_image G over F d e below u i inside

module _ (G : Graph) (F : SheafData) (x d : ℕ) (u : ℕ → ℕ) (old : Work) where
  abbrev pub numbers_of : ℕ → ℕ
  numbers_of k = boundary_number G F x d (boundary_of_element G F d (element_of G.rank (F.degrees x) d u)) k

  -- those on the edges before e are written
  pub record IsBoundaryBefore (e start : ℕ) (new : Work) : Type 0 where
    pub start_is : start ≡ boundary_start G F x d e
    pub small : start ≤ 4294967295 * e
    pub numbers : (k : ℕ) → k < start → slice_index new.first k ≡ numbers_of k
    pub rest : KeepsRest old new

module _ (G : Graph) (over : IsOverField G) (F : SheafData) (x d from to : ℕ) (range : IsUpRange G x from to)
    (u : ℕ → ℕ) (old : Work) where
  abbrev Before : ℕ → ℕ → Work → Type 0
  Before = IsBoundaryBefore G F x d u old

  abbrev numbers : ℕ → ℕ
  numbers = numbers_of G F x d u old

  pub before_none : Before from 0 old
  before_none = record {
    start_is = sym (boundary_starts G x from to range F d);
    small = omega arith;
    numbers = λ k below. absurd (let none : k < 0 = below in omega arith);
    rest =
        record { first = refl; second = refl };
  }

  module _ (e start : ℕ) (past : from ≤ e) (below : e < to) where
    next_start : boundary_start G F x d (e + 1) ≡ boundary_start G F x d e + edge_module_count G F d e
    next_start = boundary_goes_on G x from to range F d e past below

    pub has_room : (now : Work) → boundary_count G F x d ≤ length old.first → Before e start now →
        start + edge_module_count G F d e ≤ length now.first
    has_room now room h = omega (arith, h.start_is, next_start, h.rest.first, room, within)
      where
        within : boundary_start G F x d (e + 1) ≤ boundary_count G F x d
        within = sum_below_rises (λ f. cond (eqb (lower G f) x) (edge_module_count G F d f) 0) (e + 1) (edge_count G)
            (omega (arith, below, range.within))

    pub before_more : (count : ℕ) (now new : Work) → count ≡ edge_module_count G F d e → count < 2 ^ 32 →
        Before e start now → IsRunWritten (lift_numbers G F d e u) start (edge_module_count G F d e) now new →
        Before (e + 1) (start + count) new
    before_more count now new count_is few h written =
        let is_edge : e < edge_count G = omega (arith, below, range.within) in
        record {
          start_is = omega (arith, next_start, count_is, h.start_is);
          small = omega (arith, h.small, few);
          numbers = λ k before. elim (cases_lt k start) [
            | inl earlier ↦ written.before k earlier ∙ h.numbers k earlier
            | inr here ↦
                let inside : k - start < edge_module_count G F d e = omega (arith, before, here, count_is) in
                let split : start + (k - start) ≡ k = omega (arith, here) in
                ap (λ z. get_or new.first z 0) (sym split) ∙ written.numbers (k - start) inside
                ∙ sym (to_boundary_at G over F x d e (k - start) is_edge (range.inside e past below) inside u)
                ∙ ap (λ z. numbers (z + (k - start))) (sym h.start_is) ∙ ap numbers split
          ];
          rest = record { first = written.rest.first ∙ h.rest.first; second = written.rest.second ∙ h.rest.second };
        }

  pub before_all : (e start : ℕ) (new : Work) → e ≡ to → Before e start new → IsBoundaryWritten G F x d u old new
  before_all e start new last h = record {
    numbers = λ k below. h.numbers k
        (omega (arith, below, h.start_is, ap (boundary_start G F x d) last, boundary_ends G x from to range F d));
    rest = h.rest;
  }
