-- Rows on the values of members, modulo the prime, and boundaries that agree.
use Rattle.std.proofs.Common.{◌≡◌, ℕ, true, false, Bool, suc, ◌+◌, ◌-◌, ◌*◌, ◌%◌, ◌<◌, ◌≤◌, List, [], ◌∷◌, length, get_or, take, refl, sym, ap, subst, ◌∙◌, inl, inr, arith}
use Rattle.std.specs.List.{sum_by}
use Rattle.std.proofs.lemmas.Bool.{cases_eq, cases_lt}
use Rattle.std.proofs.lemmas.List.Sums.{sum_by_more, sum_by-cons}
use Rattle.std.proofs.Math.Nat.{zero-mod}
use Rattle.bmp_math.specs.Matrices.{Matrix, image}
use Rattle.bmp_math.proofs.CongruenceLemmas.{same_add, same_past, same_cancel}
use Rattle.bmp_math.proofs.SumLemmas.{sum_below_same}
use Rattle.bmp_linear.specs.declared.vector.Entry.{Entry}
use Rattle.bmp_linear.specs.declared.evidence.CoverEvidence.{CoverEvidence}
use Rattle.bmp_linear.specs.SparseVectors.{ValuesBelow, number_at}
use Rattle.bmp_linear.specs.Evidence.{vector_at}
use Rattle.bmp_linear.proofs.SparseLemmas.{sum_by-number_at}
use Rattle.bmp_graph.specs.Graph.{Graph, IsUpRange, edge_count, lower, upper}
use Rattle.bmp_sheaf.specs.Fields.{IsOverField}
use Rattle.bmp_sheaf.specs.Sheaves.{SheafData, lift_of, boundary_of_element, boundary_of_tuple}
use Rattle.bmp_sheaf.specs.Coordinates.{stalk_count, element_of, edge_module_count}
use Rattle.bmp_sheaf.specs.Numbers.{on_edge, boundary_number, lower_matrix, upper_matrix}
use Rattle.bmp_sheaf.specs.Elements.{SameElement}
use Rattle.bmp_sheaf.proofs.EdgeMaps.{element_respects, lower_image, upper_image}
use Rattle.bmp_sheaf.proofs.LiftLaws.{lift_same}
use Rattle.bmp_sheaf.proofs.BoundaryNumbers.{boundary_number_at, boundary_number_respects, each_boundary_place}
use Rattle.bmp_sections.specs.TupleLists.{TupleList, tuples_in}
use Rattle.bmp_sections.proofs.EquationParts.{IsTableRow}
use Rattle.bmp_cover.specs.CoverChecks.{ComparesCover, CoverPasses}
use Rattle.bmp_levels.specs.Lists.{first_members}
use Rattle.bmp_levels.specs.Runs.{RunTable, FamilyTable, run_value, run_at, list_of}
use Rattle.bmp_levels.specs.Agreement.{signed_value, signed_sum, AgreesOn, AgreesAt}

-- one entry more, as the sums are made
pub signed_more :
    (minus : Bool) (p : ℕ) (es : List Entry) (i : ℕ) (d : Entry) (u : ℕ → ℕ) (old now new factor number : ℕ) →
    i < length es → factor ≡ signed_value minus p (get_or es i d).value → number ≡ u (get_or es i d).place →
    now % p ≡ (old + signed_sum minus p (take i es) u) % p → new % p ≡ (now + factor * number) % p →
    new % p ≡ (old + signed_sum minus p (take (i + 1) es) u) % p
signed_more minus p es i d u old now new factor number inside is_factor is_number so_far added =
    let term : ℕ = factor * number in
    let more : signed_sum minus p (take (i + 1) es) u ≡ signed_sum minus p (take i es) u + factor * number =
    sum_by_more (λ (e : Entry). signed_value minus p e.value * u e.place) es i d inside
    ∙ ap (λ z. signed_sum minus p (take i es) u + z)
    (sym (ap (λ z. z * number) is_factor ∙ ap (λ z. signed_value minus p (get_or es i d).value * z) is_number)) in
    added ∙ same_add p now (old + signed_sum minus p (take i es) u) (factor * number) (factor * number) so_far refl
    ∙ ap (λ z. z % p) (omega (arith, more))

-- a row and minus it add up to a multiple of the prime
row_and_minus :
    (p : ℕ) (es : List Entry) (u : ℕ → ℕ) → ValuesBelow es p →
    sum_by (λ e. e.value * u e.place) es + signed_sum true p es u ≡ p * sum_by (λ e. u e.place) es
row_and_minus p [] u below = omega arith
row_and_minus p (e ∷ es) u below =
    let small : e.value < p = below 0 e (omega arith) in
    let whole : e.value + (p - e.value) ≡ p = omega (arith, small) in
    let later = row_and_minus p es u (λ k d l. below (suc k) d (omega (arith, l))) in
    let sums : ℕ = sum_by (λ (n : Entry). n.value * u n.place) es in
    let minus : ℕ = signed_sum true p es u in
    let places : ℕ = sum_by (λ (n : Entry). u n.place) es in
    let first = sum_by-cons (λ (n : Entry). n.value * u n.place) e es in
    let second = sum_by-cons (λ (n : Entry). (p - n.value) * u n.place) e es in
    let third = sum_by-cons (λ (n : Entry). u n.place) e es in
    both_more p e.value (p - e.value) (u e.place) sums minus places first second third later whole
  where
    both_more : (q v w n a b m : ℕ) {x y z : ℕ} → x ≡ v * n + a → y ≡ w * n + b → z ≡ n + m → a + b ≡ q * m →
        v + w ≡ q →
        x + y ≡ q * z
    both_more q v w n a b m {x = x} {y = y} {z = z} is_x is_y is_z later whole =
        omega (arith, is_x, is_y, ap (λ t. q * t) is_z, later, ap (λ t. t * n) whole)

-- what the sums are in the end
pub rows_same :
    (p : ℕ) (low_row high_row : List Entry) (u v : ℕ → ℕ) (start first last : ℕ) → ValuesBelow low_row p → start ≡ 0 →
    first % p ≡ (start + signed_sum false p high_row v) % p → last % p ≡ (first + signed_sum true p low_row u) % p →
    last % p ≡ 0 →
    sum_by (λ e. e.value * u e.place) low_row % p ≡ sum_by (λ e. e.value * v e.place) high_row % p
rows_same p low_row high_row u v start first last below is_start is_first is_last none =
    let low : ℕ = sum_by (λ e. e.value * u e.place) low_row in
    let minus : ℕ = signed_sum true p low_row u in
    let high : ℕ = sum_by (λ e. e.value * v e.place) high_row in
    let places : ℕ = sum_by (λ e. u e.place) low_row in
    let both : sum_by (λ e. e.value * u e.place) low_row + signed_sum true p low_row u
    ≡ p * sum_by (λ e. u e.place) low_row =
    row_and_minus p low_row u below in
    let begun : first % p ≡ sum_by (λ e. e.value * v e.place) high_row % p =
    is_first ∙ ap (λ z. z % p) (nothing_before start (signed_sum false p high_row v) is_start) in
    same_cancel p low high minus
    (ap (λ z. z % p) both ∙ multiple places ∙ sym none ∙ is_last
    ∙ same_add p first high minus minus begun refl)
  where
    nothing_before : (a b : ℕ) → a ≡ 0 → a + b ≡ b
    nothing_before a b none = omega (arith, none)

    multiple : (k : ℕ) → (p * k) % p ≡ 0
    multiple k = let padded : 0 + p * k ≡ p * k = omega arith in
        sym (ap (λ z. z % p) padded) ∙ same_past p 0 k ∙ zero-mod p

-- a row of a table on numbers is that of the matrix
row_image :
    (p : ℕ) (a : Matrix) (i : ℕ) (es : List Entry) (u : ℕ → ℕ) → IsTableRow p a i es →
    sum_by (λ e. e.value * u e.place) es ≡ image a u i
row_image p a i es u row =
    sum_by-number_at es a.cols u row.sparse.rising row.fits
    ∙ sum_below_same (λ j. number_at es j * u j) (λ j. u j * a.entry i j) a.cols
    (λ j l. ap (λ z. z * u j) (row.same j l) ∙ turned (a.entry i j) (u j))
  where
    turned : (x y : ℕ) → x * y ≡ y * x
    turned x y = omega arith

-- on an edge, where the rows of the two maps agree on the values of a tuple
pub values_agree :
    (G : Graph) (over : IsOverField G) (F : SheafData) (d e i : ℕ) (is_edge : e < edge_count G) (list : TupleList)
    (j : ℕ) (low high : List Entry) → i < edge_module_count G F d e →
    IsTableRow G.prime (lower_matrix G F d e) i low → IsTableRow G.prime (upper_matrix G F d e) i high →
    sum_by (λ n. n.value * list.value j (lower G e) n.place) low % G.prime
    ≡ sum_by (λ n. n.value * list.value j (upper G e) n.place) high % G.prime →
    on_edge G F d e (lift_of G F e d (tuples_in G F d list j (lower G e))) i
    ≡ on_edge G F d e (tuples_in G F d list j (upper G e)) i
values_agree G over F d e i is_edge list j low high inside first second same =
    let u : ℕ → ℕ = list.value j (lower G e) in
    let v : ℕ → ℕ = list.value j (upper G e) in
    sym (ap (λ z. z % G.prime) (row_image G.prime (lower_matrix G F d e) i low u first)
    ∙ lower_image G over F d e is_edge u i inside)
    ∙ same
    ∙ ap (λ z. z % G.prime) (row_image G.prime (upper_matrix G F d e) i high v second)
    ∙ upper_image G over F d e is_edge v i inside

-- one coordinate on an edge
abbrev pub AgreesInRow : (G : Graph) (F : SheafData) (d e : ℕ) → TupleList → ℕ → Type 0
AgreesInRow G F d e list i =
    (j : ℕ) → j < list.count →
    on_edge G F d e (lift_of G F e d (tuples_in G F d list j (lower G e))) i
    ≡ on_edge G F d e (tuples_in G F d list j (upper G e)) i

-- the same as the runs and the prime are read
pub row_agrees :
    (G : Graph) (over : IsOverField G) (F : SheafData) (d e i : ℕ) (is_edge : e < edge_count G) (f : FamilyTable)
    (n : ℕ) {low high : RunTable} {p : ℕ} → low ≡ run_at f (lower G e) → high ≡ run_at f (upper G e) → p ≡ G.prime →
    (low_row high_row : List Entry) → i < edge_module_count G F d e →
    IsTableRow G.prime (lower_matrix G F d e) i low_row → IsTableRow G.prime (upper_matrix G F d e) i high_row →
    ((j : ℕ) → j < n → sum_by (λ r. r.value * run_value low j r.place) low_row % p
    ≡ sum_by (λ r. r.value * run_value high j r.place) high_row % p) →
    AgreesInRow G F d e (first_members n (list_of f)) i
row_agrees G over F d e i is_edge f n {low = low} {high = high} {p = p} is_low is_high prime low_row high_row inside
    first second same j member =
    values_agree G over F d e i is_edge (first_members n (list_of f)) j low_row high_row inside first second
    (sym (ap (λ (t : RunTable). sum_by (λ (r : Entry). r.value * run_value t j r.place) low_row % G.prime) is_low)
    ∙ sym (ap (λ q. sum_by (λ (r : Entry). r.value * run_value low j r.place) low_row % q) prime)
    ∙ same j member
    ∙ ap (λ q. sum_by (λ (r : Entry). r.value * run_value high j r.place) high_row % q) prime
    ∙ ap (λ (t : RunTable). sum_by (λ (r : Entry). r.value * run_value t j r.place) high_row % G.prime) is_high)

-- on all edges going up from x
pub agrees_at :
    (G : Graph) (F : SheafData) (x d from to : ℕ) (list : TupleList) → IsUpRange G x from to →
    ((e : ℕ) → from ≤ e → e < to → AgreesOn G F e d list) → AgreesAt G F x d list
agrees_at G F x d from to list range each j k member =
    let own = boundary_of_element G F d (tuples_in G F d list j x) in
    let above = boundary_of_tuple G (tuples_in G F d list j) in
    each_boundary_place G F x d (λ n. boundary_number G F x d (boundary_of_element G F d (tuples_in G F d list j x)) n
    ≡ boundary_number G F x d (boundary_of_tuple G (tuples_in G F d list j)) n)
    (λ e i is_edge starts inside.
    boundary_number_at G F x d own e i is_edge starts inside
    ∙ ap (λ y. on_edge G F d e (lift_of G F e d (tuples_in G F d list j y)) i) (sym starts)
    ∙ each e (from_on e is_edge starts) (before_end e is_edge starts) i j inside member
    ∙ sym (boundary_number_at G F x d above e i is_edge starts inside)) k
  where
    from_on : (e : ℕ) → e < edge_count G → lower G e ≡ x → from ≤ e
    from_on e is_edge starts = elim (cases_lt e from) [
      | inl early ↦ absurd (omega (arith, range.before e early, starts))
      | inr on ↦ on
    ]

    before_end : (e : ℕ) → e < edge_count G → lower G e ≡ x → e < to
    before_end e is_edge starts = elim (cases_lt e to) [
      | inl before ↦ before
      | inr past ↦ absurd (omega (arith, range.after e past is_edge, starts))
    ]

-- covers that are the values at x of tuples that agree there pass
pub agreeing_covers :
    (G : Graph) (over : IsOverField G) (F : SheafData) (x d : ℕ) (list : TupleList) (e : CoverEvidence) →
    G.rank ≤ 6 → AgreesAt G F x d list →
    ((j c : ℕ) → j < list.count → c < stalk_count G.rank (F.degrees x) d → list.value j x c ≡ vector_at e.covers j c) →
    CoverPasses (ComparesCover G F x d list e)
agreeing_covers G over F x d list e wide agree values r c =
    let j = r.index in
    let cover = element_of G.rank (F.degrees x) d (vector_at e.covers r.index) in
    let own = tuples_in G F d list r.index x in
    let same : SameElement G.prime G.rank (F.degrees x) d
    (element_of G.rank (F.degrees x) d (vector_at e.covers r.index))
    (tuples_in G F d list r.index x) =
    element_respects G.prime G.rank (F.degrees x) d (vector_at e.covers j) (list.value j x) wide
    (λ k below. ap (λ z. z % G.prime) (sym (values j k c.tuple below))) in
    c.left_is
    ∙ boundary_number_respects G F x d over (boundary_of_element G F d cover) (boundary_of_element G F d own)
    (λ f is_edge starts.
    lift_same G F f d cover own wide
    (subst (λ y. SameElement G.prime G.rank (F.degrees y) d
    (element_of G.rank (F.degrees x) d (vector_at e.covers r.index))
    (tuples_in G F d list r.index x)) (sym starts) same))
    r.place c.place
    ∙ agree j r.place c.tuple c.place
    ∙ sym c.right_is

-- one number more in a range
pub range_more :
    (P : ℕ → Type 0) (from n : ℕ) → ((e : ℕ) → from ≤ e → e < n → P e) → P n → (e : ℕ) → from ≤ e → e < n + 1 → P e
range_more P from n before here e past below = elim (cases_eq e n) [
  | inl same ↦ subst P (sym same) here
  | inr other ↦ before e past (omega (arith, below, other))
]
