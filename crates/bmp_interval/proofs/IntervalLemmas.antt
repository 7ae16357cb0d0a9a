-- The ends of an interval, and what it holds without saying so.
use Rattle.std.proofs.Common.{◌≡◌, ℕ, zero, suc, ◌-◌, ◌<◌, ◌≤◌, arith, refl, sym, ap, ◌∙◌, subst, inl, inr, ◌⊎◌, List, [], ◌∷◌, length, get_or, Bool, true, false}
use Rattle.std.proofs.lemmas.Bool.{cases_eq}
use Rattle.std.proofs.lemmas.List.Elements.{All-nil}
use Rattle.bmp_math.specs.Lists.{Member}
use Rattle.bmp_math.specs.IntegerSums.{integer_unit}
use Rattle.bmp_math.proofs.ListLemmas.{member_at, place_of}
use Rattle.bmp_roots.specs.RootPairs.{CartanMatrix, Vector}
use Rattle.bmp_roots.proofs.DecisionLemmas.{Decided, stable, both_decided, same_integers, all_below_decided, stable_once}
use Rattle.bmp_weyl.specs.Words.{IsWord, IsRootSystem, IsReduced, acts, kept}
use Rattle.bmp_weyl.specs.Matrices.{cell, HasColumns}
use Rattle.bmp_weyl.specs.Elements.{IsProduct, element_length}
use Rattle.bmp_weyl.specs.declared.elem.Elem.{Elem}
use Rattle.bmp_weyl.proofs.ExchangeLemmas.{length-kept, kept_word, subsequence_shorter, length_zero}
use Rattle.bmp_weyl.proofs.LengthLemmas.{length_identity}
use Rattle.bmp_weyl.proofs.ElementLemmas.{element_length-product, same_element}
use Rattle.bmp_interval.specs.Vertices.{IsVertex, HasVertices}

-- ---- the choices of all letters, and of none
all_chosen : List ℕ → List Bool
all_chosen [] = []
all_chosen (k ∷ u) = true ∷ all_chosen u

none_chosen : List ℕ → List Bool
none_chosen [] = []
none_chosen (k ∷ u) = false ∷ none_chosen u

length-all_chosen : (u : List ℕ) → length (all_chosen u) ≡ length u
unfolding all_chosen
length-all_chosen [] = refl
length-all_chosen (k ∷ u) = omega (arith, length-all_chosen u)

length-none_chosen : (u : List ℕ) → length (none_chosen u) ≡ length u
unfolding none_chosen
length-none_chosen [] = refl
length-none_chosen (k ∷ u) = omega (arith, length-none_chosen u)

kept_all : (u : List ℕ) → kept (all_chosen u) u ≡ u
unfolding all_chosen
kept_all [] = refl
kept_all (k ∷ u) = ap (λ (w : List ℕ). k ∷ w) (kept_all u)

kept_none : (u : List ℕ) → kept (none_chosen u) u ≡ []
unfolding none_chosen
kept_none [] = refl
kept_none (k ∷ u) = kept_none u

-- as many letters are all of them
kept_whole : (choices : List Bool) (u : List ℕ) → length (kept choices u) ≡ length u → kept choices u ≡ u
kept_whole [] [] h = refl
kept_whole [] (k ∷ u) h = absurd (omega (arith, h))
kept_whole (b ∷ choices) [] h = refl
kept_whole (true ∷ choices) (k ∷ u) h = ap (λ (w : List ℕ). k ∷ w) (kept_whole choices u (omega (arith, h)))
kept_whole (false ∷ choices) (k ∷ u) h = absurd (omega (arith, h, length-kept choices u))

module _ (m : CartanMatrix) (roots : List Vector) (system : IsRootSystem m roots) (word : List ℕ)
    (letters : IsWord m word) where
  -- a vertex of a reduced word is its product, or shorter
  pub only_longest : IsReduced m roots word → (e : Elem) → IsVertex m word e → IsProduct m word e ⊎
      (element_length roots e < length word)
  only_longest reduced e v =
      elim (cases_eq (length (kept v.choices word)) (length word)) [
        | inl all ↦ inl (subst (λ (u : List ℕ). IsProduct m u e) (kept_whole v.choices word all) v.product)
        | inr less ↦ inr (omega (
          arith,
          subsequence_shorter m roots system word letters reduced v.choices less,
          element_length-product m roots system (kept v.choices word) e v.product,
          reduced,
        ))
      ]

  -- an element as long as the identity is the identity
  pub shortest : (u : List ℕ) (e : Elem) → IsProduct m u e → element_length roots e ≡ 0 → IsProduct m [] e
  shortest u e product none =
      let same : acts m u ≡ acts m [] =
      length_zero m roots system u product.letters (sym (element_length-product m roots system u e product)
      ∙ none) in
      record {
        rank = product.rank;
        letters = All-nil (λ k. k < m.rank);
        places = product.places;
        columns = subst (λ (f : Vector → Vector). HasColumns f e.entries) same product.columns;
      }

  module _ (list : List Elem) (vertices : HasVertices m word list)
      (rising : (x y : ℕ) (d : Elem) → x ≤ y → y < length list →
      element_length roots (get_or list x d) ≤ element_length roots (get_or list y d)) where
    pub bottom_is : (d : Elem) → IsProduct m [] (get_or list 0 d)
    bottom_is d =
        let r : (e : Elem) × Member e list × IsProduct m (kept (none_chosen word) word) e =
        vertices.all (none_chosen word) (length-none_chosen word) in
        let product : IsProduct m [] r.0 = subst (λ (u : List ℕ). IsProduct m u r.0) (kept_none word) r.2 in
        let place : (i : ℕ) × (i < length list) × ((c : Elem) → get_or list i c ≡ r.0) = place_of r.0 list r.1 in
        let inside : 0 < length list = omega (arith, place.1) in
        let first : IsVertex m word (get_or list 0 d) = vertices.each (get_or list 0 d) (member_at list 0 d inside) in
        shortest (kept first.choices word) (get_or list 0 d) first.product (omega (
          arith,
          rising 0 place.0 d (omega arith) place.1,
          ap (λ (e : Elem). element_length roots e) (place.2 d),
          element_length-product m roots system [] r.0 product,
          length_identity m roots system,
        ))

    pub top_is : IsReduced m roots word → (d : Elem) → IsProduct m word (get_or list (length list - 1) d)
    top_is reduced d =
        let r : (e : Elem) × Member e list × IsProduct m (kept (all_chosen word) word) e =
        vertices.all (all_chosen word) (length-all_chosen word) in
        let product : IsProduct m word r.0 = subst (λ (u : List ℕ). IsProduct m u r.0) (kept_all word) r.2 in
        let place : (i : ℕ) × (i < length list) × ((c : Elem) → get_or list i c ≡ r.0) = place_of r.0 list r.1 in
        let last : ℕ = length list - 1 in
        let inside : last < length list = omega (arith, place.1) in
        elim (only_longest reduced (get_or list last d)
        (vertices.each (get_or list last d) (member_at list last d inside))) [
          | inl whole ↦ whole
          | inr shorter ↦ absurd (omega (
            arith,
            shorter,
            rising place.0 last d (omega (arith, place.1)) inside,
            ap (λ (e : Elem). element_length roots e) (place.2 d),
            element_length-product m roots system word r.0 product,
            reduced,
          ))
        ]

-- ---- what is not false of the vertices of a word
some_choices : (n : ℕ) (P : List Bool → Type 0) → ((choices : List Bool) → length choices ≡ n → Decided (P choices)) →
    Decided ((choices : List Bool) × (length choices ≡ n) × P choices)
some_choices zero P each =
    elim (each [] (omega arith)) [
      | inl p ↦ inl ([], omega arith, p)
      | inr never ↦ inr (λ r. none r.0 r.1 r.2 never)
    ]
  where
    none : (choices : List Bool) → length choices ≡ zero → P choices → (P [] → ⊥) → ⊥
    none [] long p never = never p
    none (b ∷ choices) long p never = absurd (omega (arith, long))
some_choices (suc n) P each =
    elim (some_choices n (λ choices. P (true ∷ choices)) (λ rest long. each (true ∷ rest) (omega (arith, long)))) [
      | inl r ↦ inl (true ∷ r.0, omega (arith, r.1), r.2)
      | inr no_true ↦ elim
          (some_choices n (λ choices. P (false ∷ choices))
          (λ choices long. each (false ∷ choices) (omega (arith, long)))) [
            | inl r ↦ inl (false ∷ r.0, omega (arith, r.1), r.2)
            | inr no_false ↦ inr (λ r. neither r.0 r.1 r.2 no_true no_false)
          ]
    ]
  where
    neither : (choices : List Bool) → length choices ≡ suc n → P choices
        → ((choices : List Bool) × (length choices ≡ n) × P (true ∷ choices) → ⊥)
        → ((choices : List Bool) × (length choices ≡ n) × P (false ∷ choices) → ⊥) → ⊥
    neither [] long p no_true no_false = absurd (omega (arith, long))
    neither (true ∷ choices) long p no_true no_false = no_true (choices, omega (arith, long), p)
    neither (false ∷ choices) long p no_true no_false = no_false (choices, omega (arith, long), p)

some_member : {X : Type 0} (xs : List X) (P : X → Type 0) → ((x : X) → Decided (P x)) →
    Decided ((x : X) × Member x xs × P x)
some_member {X = X} [] P each = inr (λ r. r.1)
some_member {X = X} (x ∷ xs) P each =
    elim (each x) [
      | inl p ↦ inl (x, inl refl, p)
      | inr never ↦ elim (some_member xs P each) [
        | inl r ↦ inl (r.0, inr r.1, r.2)
        | inr none ↦ inr (λ r. neither r.0 r.1 r.2 never none)
      ]
    ]
  where
    neither : (y : X) → Member y (x ∷ xs) → P y → (P x → ⊥) → ((z : X) × Member z xs × P z → ⊥) → ⊥
    neither y (inl e) p never none = never (subst P e p)
    neither y (inr h) p never none = none (y, h, p)

module _ (m : CartanMatrix) (word : List ℕ) (letters : IsWord m word) where
  pub product_decided : (u : List ℕ) → IsWord m u → (e : Elem) → Decided (IsProduct m u e)
  product_decided u is_word e =
      elim (both_decided (cases_eq e.rank m.rank) (both_decided (cases_eq (length e.entries) 36) columns)) [
        | inl h ↦ inl (record { rank = h.0; letters = is_word; places = h.1.0; columns = λ i j l k. h.1.1 i l j k })
        | inr never ↦ inr (λ p. never (p.rank, (p.places, λ i l j k. p.columns i j l k)))
      ]
    where
      columns : Decided ((i : ℕ) → i < 6 → (j : ℕ) → j < 6 → cell e.entries i j ≡ acts m u (integer_unit j) i)
      columns =
          all_below_decided (λ i. (j : ℕ) → j < 6 → cell e.entries i j ≡ acts m u (integer_unit j) i)
          (λ i. all_below_decided (λ j. cell e.entries i j ≡ acts m u (integer_unit j) i)
          (λ j. same_integers (cell e.entries i j) (acts m u (integer_unit j) i)) 6) 6

  vertex_decided : (e : Elem) → Decided (IsVertex m word e)
  vertex_decided e =
      elim (some_choices (length word) (λ choices. IsProduct m (kept choices word) e)
      (λ choices long. product_decided (kept choices word) (kept_word m choices word letters) e)) [
        | inl r ↦ inl (record { choices = r.0; as_long = r.1; product = r.2 })
        | inr never ↦ inr (λ v. never (v.choices, v.as_long, v.product))
      ]

  pub stable_vertices : (list : List Elem) → ((HasVertices m word list → ⊥) → ⊥) → HasVertices m word list
  stable_vertices list h = record {
    once = stable_once list (λ never. h (λ v. never v.once));
    each = λ e member. stable (vertex_decided e) (λ never. h (λ v. never (v.each e member)));
    all = λ choices long.
        stable (some_member list (λ e. IsProduct m (kept choices word) e)
        (λ e. product_decided (kept choices word) (kept_word m choices word letters) e))
        (λ never. h (λ v. never (v.all choices long)));
  }

  -- an element is a member where it is a vertex
  pub vertex_member : (list : List Elem) → HasVertices m word list → (e : Elem) → IsVertex m word e → Member e list
  vertex_member list vertices e v =
      let r : (x : Elem) × Member x list × IsProduct m (kept v.choices word) x = vertices.all v.choices v.as_long in
      subst (λ (x : Elem). Member x list)
      (same_element m (kept v.choices word) (kept v.choices word) r.0 e r.2 v.product refl) r.1

pub not_empty : (m : CartanMatrix) (word : List ℕ) (list : List Elem) → HasVertices m word list → 1 ≤ length list
not_empty m word list vertices =
    let r : (e : Elem) × Member e list × IsProduct m (kept (none_chosen word) word) e =
    vertices.all (none_chosen word) (length-none_chosen word) in
    let place : (i : ℕ) × (i < length list) × ((c : Elem) → get_or list i c ≡ r.0) = place_of r.0 list r.1 in
    omega (arith, place.1)
