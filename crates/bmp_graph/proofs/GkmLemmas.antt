-- Parallel labels, and the search for the first parallel pair.
use Rattle.std.proofs.Common.{◌≡◌, ◌≢◌, ℕ, ◌+◌, ◌-◌, ◌*◌, ◌<◌, ◌≤◌, ◌↔◌, inl, inr, Option, Some, None, arith, refl, sym, subst, ◌∙◌, below_more}
use Rattle.std.proofs.lemmas.Bool.{cases_eq, cases_lt}
use Rattle.bmp_math.specs.Congruences.{SameMod}
use Rattle.bmp_graph.specs.Graph.{Graph, vertex_count, edge_count, lower, upper, IsGraph, IsUpRange, IsEndOf, label, AreParallel, IsParallel, HasGkm}
use Rattle.bmp_graph.specs.Faults.{IsParallelPair, HasNoPartner, IsFirstPartner, IsFirstAt, IsFirstParallelPair}
use Rattle.bmp_graph.specs.Tables.{IsNextEnding, HasNoEnd, IsNextEnd, IsNext}
use Rattle.bmp_graph.proofs.GraphLemmas.{edge_rises, lower_rises}

-- the minors of the first n variables are 0
abbrev pub MinorsVanish : ℕ → ℕ → (ℕ → ℕ) → (ℕ → ℕ) → Type 0
MinorsVanish p n a b = (j : ℕ) → j < n → (i : ℕ) → i < j → SameMod p (a i * b j) (a j * b i)

-- one minor of each two variables is enough
pub AreParallel-minors : (p r : ℕ) (a b : ℕ → ℕ) → MinorsVanish p r a b → AreParallel p r a b
AreParallel-minors p r a b vanish i j hi hj =
    elim (cases_lt i j) [
      | inl lt ↦ vanish j hj i lt
      | inr le ↦ elim (cases_eq i j) [
        | inl same ↦ subst (λ k. SameMod p (a i * b k) (a k * b i)) same refl
        | inr apart ↦ sym (vanish i hi j (omega arith))
      ]
    ]

pub AreParallel-sym : (p r : ℕ) (a b : ℕ → ℕ) → AreParallel p r a b → AreParallel p r b a
AreParallel-sym p r a b h i j hi hj =
    let left : b i * a j ≡ a j * b i = omega arith in
    let right : b j * a i ≡ a i * b j = omega arith in
    rw (left, right) (h j i hj hi)

-- a test of two labels is a test of the forms that they are
pub AreParallel-same : (P : Type 0) (p q r s : ℕ) (a b c d : ℕ → ℕ) → p ≡ q → r ≡ s → a ≡ c → b ≡ d → P ↔
    AreParallel p r a b → P ↔ AreParallel q s c d
AreParallel-same P p q r s a b c d primes ranks first second test =
    subst (λ n. P ↔ AreParallel n s c d) primes
    (subst (λ n. P ↔ AreParallel p n c d) ranks
    (subst (λ f. P ↔ AreParallel p r f d) first (subst (λ f. P ↔ AreParallel p r a f) second test)))

-- an edge at x that doesn't end there starts there
pub starts_there : (g : Graph) (x e u : ℕ) → IsEndOf g x e → u ≡ upper g e → u ≢ x → lower g e ≡ x
starts_there g x e u at upper_is apart =
    elim at.is_end [ inl starts ↦ starts | inr ends ↦ absurd (apart (upper_is ∙ ends)) ]

module _ (g : Graph) (is : IsGraph g) (x : ℕ) where
  -- an edge that ends at x comes before each that starts there
  pub ends_before_starts : (d e : ℕ) → d < edge_count g → e < edge_count g → upper g d ≡ x → lower g e ≡ x → d < e
  ends_before_starts d e hd he ends starts =
      elim (cases_lt d e) [
        | inl lt ↦ lt
        | inr le ↦
            let rises = edge_rises g is d hd in
            let level = lower_rises g is e d le hd in
            absurd (omega arith)
      ]

  -- the next edge that ends at x is the next edge at x
  pub IsNextEnd-ending : (from e : ℕ) → IsNextEnding g x from e → e < edge_count g → IsNextEnd g x from e
  IsNextEnd-ending from e next within = record {
    after = next.after;
    is_end = record { is_edge = within; is_end = inr (next.ends within) };
    between = λ d l lt h. elim h.is_end [
      | inl starts ↦ let later = ends_before_starts e d within h.is_edge (next.ends within) starts in
          absurd (omega arith)
      | inr ends ↦ next.between d l lt ends
    ];
  }

  -- where no edge from there on ends at x, the first that starts there
  pub IsNextEnd-starting : (from e first past : ℕ) → IsNextEnding g x from e → edge_count g ≤ e
      → ((d : ℕ) → d < from → d < edge_count g → lower g d < x) → IsUpRange g x first past → first < past →
      IsNextEnd g x from first
  IsNextEnd-starting from e first past next none earlier range some =
      let is_edge : first < edge_count g = omega (arith, range.within) in
      let starts = range.inside first (omega arith) some in
      record {
        after = elim (cases_lt first from) [ inl lt ↦ absurd (omega (arith, earlier first lt is_edge)) | inr le ↦ le ];
        is_end = record { is_edge = is_edge; is_end = inl starts };
        between = λ d l lt h. elim h.is_end [
          | inl at ↦ absurd (omega (arith, range.before d lt))
          | inr ends ↦ next.between d l (omega (arith, h.is_edge)) ends
        ];
      }

  pub HasNoEnd-left : (from e first past : ℕ) → IsNextEnding g x from e → edge_count g ≤ e → IsUpRange g x first past →
      past ≤ first → HasNoEnd g x from
  HasNoEnd-left from e first past next none range empty d l h =
      elim h.is_end [
        | inl starts ↦ elim (cases_lt d first) [
          | inl lt ↦ omega (arith, range.before d lt)
          | inr le ↦ omega (arith, range.after d (omega arith) h.is_edge)
        ]
        | inr ends ↦ next.between d l (omega (arith, h.is_edge)) ends
      ]

  -- after an edge that starts at x comes the next by number, if it starts there
  pub IsNextEnd-more : (e first past : ℕ) → e < edge_count g → lower g e ≡ x → IsUpRange g x first past → e + 1 < past →
      IsNextEnd g x (e + 1) (e + 1)
  IsNextEnd-more e first past is_edge starts range more =
      let inside : first ≤ e =
      elim (cases_lt e first) [ inl lt ↦ absurd (omega (arith, range.before e lt)) | inr le ↦ le ] in
      record {
        after = omega arith;
        is_end = record {
          is_edge = omega (arith, range.within);
          is_end = inl (range.inside (e + 1) (omega arith) more);
        };
        between = λ d l lt h. absurd (omega arith);
      }

  pub HasNoEnd-more : (e first past : ℕ) → e < edge_count g → lower g e ≡ x → IsUpRange g x first past → past ≤ e + 1 →
      HasNoEnd g x (e + 1)
  HasNoEnd-more e first past is_edge starts range last d l h =
      elim h.is_end [
        | inl at ↦ omega (arith, range.after d (omega arith) h.is_edge)
        | inr ends ↦ let before = ends_before_starts d e h.is_edge is_edge ends starts in omega arith
      ]

-- a search over the edges at x from number `start` on has found Q of all numbers before the next edge
pub record IsSearching (g : Graph) (x start : ℕ) (Q : ℕ → Type 0) (next : Option ℕ) : Type 0 where
  pub from : ℕ
  pub after : start ≤ from
  pub next_is : IsNext g x from next
  pub before : (d : ℕ) → d < from → Q d

module _ (g : Graph) (x start : ℕ) (Q : ℕ → Type 0) where
  pub searched_next : (next : Option ℕ) (e : ℕ) → IsSearching g x start Q next → next ≡ Some e → IsEndOf g x e ×
      (start ≤ e)
  searched_next next e so_far is =
      let at : IsNextEnd g x so_far.from e = rw is at so_far.next_is in
      let least = so_far.after in
      let later = at.after in
      (at.is_end, omega arith)

  module _ (others : (d : ℕ) → (IsEndOf g x d → ⊥) → Q d) where
    pub searched_before : (next : Option ℕ) (e : ℕ) → IsSearching g x start Q next → next ≡ Some e → (d : ℕ) → d < e →
        Q d
    searched_before next e so_far is d lt =
        let at : IsNextEnd g x so_far.from e = rw is at so_far.next_is in
        elim (cases_lt d so_far.from) [ inl earlier ↦ so_far.before d earlier | inr le ↦ others d (at.between d le lt) ]

    pub searched_more : (next then : Option ℕ) (e : ℕ) → IsSearching g x start Q next → next ≡ Some e → Q e →
        IsNext g x (e + 1) then
        → IsSearching g x start Q then
    searched_more next then e so_far is here after =
        let reached = (searched_next next e so_far is).1 in
        record {
          from = e + 1;
          after = omega arith;
          next_is = after;
          before = below_more Q e (searched_before next e so_far is) here;
        }

-- how many edges are left to a search
abbrev pub left_of : ℕ → Option ℕ → ℕ
left_of n None = 0
left_of n (Some e) = n - e

-- what is no later edge at x has no part in a pair
pub no_partner : (g : Graph) (x d e : ℕ) → (IsEndOf g x e → ⊥) → IsParallelPair g x d e → ⊥
no_partner g x d e none pair = none pair.second

-- the search for a later edge at x that is parallel
abbrev pub IsSearchingPartner : Graph → ℕ → ℕ → Option ℕ → Type 0
IsSearchingPartner g x first next = IsSearching g x (first + 1) (λ e. IsParallelPair g x first e → ⊥) next

pub found_partner : (g : Graph) (x first : ℕ) (next : Option ℕ) (e : ℕ) → IsEndOf g x first →
    IsSearchingPartner g x first next
    → next ≡ Some e → IsParallel g first e → IsFirstPartner g x first e
found_partner g x first next e here so_far is parallel =
    let at = searched_next g x (first + 1) (λ d. IsParallelPair g x first d → ⊥) next e so_far is in
    let later = at.1 in
    record {
      pair = record { first = here; second = at.0; rising = omega arith; parallel = parallel };
      before = searched_before g x (first + 1) (λ d. IsParallelPair g x first d → ⊥) (no_partner g x first) next e
          so_far is;
    }

-- the search for an edge at x that is parallel to a later one
abbrev pub IsSearchingPair : Graph → ℕ → Option ℕ → Type 0
IsSearchingPair g x next = IsSearching g x 0 (HasNoPartner g x) next

-- the first pair at x is the first of all where no earlier vertex has one
pub IsFirstParallelPair-at : (g : Graph) (x y d e : ℕ) → y ≡ x → IsFirstAt g x d e →
    ((w : ℕ) → w < x → (b : ℕ) → HasNoPartner g w b) → IsFirstParallelPair g y d e
IsFirstParallelPair-at g x y d e same at before =
    subst (λ z. IsFirstParallelPair g z d e) (sym same) (record { first_at = at; vertices_before = before })

-- no parallel pair at any vertex is the condition
pub HasGkm-pairs : (g : Graph) → IsGraph g → ((x : ℕ) → x < vertex_count g → (d : ℕ) → HasNoPartner g x d) → HasGkm g
HasGkm-pairs g is none x d e first second apart parallel =
    let ends = is.ends d first.is_edge in
    let is_vertex : x < vertex_count g =
    elim first.is_end [ inl at ↦ omega (arith, ends.0) | inr at ↦ omega (arith, ends.1) ] in
    elim (cases_lt d e) [
      | inl lt ↦ none x is_vertex d e (record { first = first; second = second; rising = lt; parallel = parallel })
      | inr le ↦ none x is_vertex e d (record {
        first = second;
        second = first;
        rising = omega arith;
        parallel = AreParallel-sym g.prime g.rank (label g d) (label g e) parallel;
      })
    ]
