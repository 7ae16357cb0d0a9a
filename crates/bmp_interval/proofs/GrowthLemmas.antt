-- Products added one by one, and a letter at a time.
use Rattle.std.proofs.Common.{◌≡◌, ℕ, zero, suc, ◌+◌, ◌-◌, ◌<◌, arith, refl, sym, ap, ◌∙◌, subst, inl, inr, List, [], ◌∷◌, ◌++◌, length, get_or, take, drop, length-append, Bool, true, false}
use Rattle.std.proofs.lemmas.Bool.{cases_eq}
use Rattle.std.proofs.lemmas.List.{get_or_append_left}
use Rattle.bmp_math.specs.Lists.{Member, HasEachOnce}
use Rattle.bmp_roots.specs.RootPairs.{CartanMatrix, HasCartanForm}
use Rattle.bmp_math.proofs.ListLemmas.{member-left, member-last, member-split, once-push, member_at, place_of}
use Rattle.bmp_roots.specs.RootSystems.{matrix_of}
use Rattle.bmp_roots.specs.declared.root_system.Roots.{Roots}
use Rattle.bmp_roots.proofs.RootsLemmas.{has_finite_system}
use Rattle.bmp_weyl.specs.Elements.{IsProduct, AreElementsOfOne, word_of}
use Rattle.bmp_weyl.specs.declared.elem.Elem.{Elem}
use Rattle.bmp_interval.specs.Growth.{IsAdded}
use Rattle.bmp_interval.specs.Vertices.{IsVertex}
use Rattle.bmp_weyl.specs.Words.{kept}
use Rattle.std.specs.Bool.{OnTrue, OnFalse}
use Rattle.std.proofs.lemmas.List.{append-nil, take_more, map-append, take-append-drop}
use Rattle.bmp_weyl.proofs.ExchangeLemmas.{kept_more}
use Rattle.bmp_interval.proofs.VertexLemmas.{vertex_stays, vertex_times, vertex_of_prefix, last_of}
use Rattle.bmp_interval.specs.Growth.{IsTimes, IsGrowing}
use Rattle.bmp_interval.specs.Vertices.{HasVertices, HasMoreVertices}

pub growing_start : (s : Elem) (old : List Elem) → IsGrowing s 0 old old
growing_start s old = record {
  once = λ h. h;
  kept_old = λ e h. h;
  place_kept = λ i d l. refl;
  longer = λ i l. l;
  each = λ e h. inl h;
  done = λ i d l k. absurd (omega arith);
}

same_at : (xs : List Elem) (i : ℕ) (d e : Elem) → i < length xs → get_or xs i d ≡ get_or xs i e
same_at [] i d e l = absurd (omega arith)
same_at (x ∷ xs) zero d e l = refl
same_at (x ∷ xs) (suc i) d e l = same_at xs i d e (omega arith)

one_more : (s : Elem) (n : ℕ) (old now new : List Elem) (x e : Elem) → IsGrowing s n old now → n < length old →
    x ≡ get_or old n x → IsTimes x s e
    → ((y : Elem) → Member y now → Member y new) → Member e new
    → (i : ℕ) (d : Elem) → i < n + 1 → i < length old → (y : Elem) × Member y new × IsTimes (get_or old i d) s y
one_more s n old now new x e h l is times wider here i d k in_old =
    elim (cases_eq i n) [
      | inl same ↦
          let at : get_or old i d ≡ x = ap (λ j. get_or old j d) same ∙ same_at old n d x l ∙ sym is in
          (e, here, subst (λ (z : Elem). IsTimes z s e) (sym at) times)
      | inr apart ↦
          let r : (y : Elem) × Member y now × IsTimes (get_or old i d) s y = h.done i d (omega arith) in_old in
          (r.0, wider r.0 r.1, r.2)
    ]

pub growing_step : (s : Elem) (n : ℕ) (old now new : List Elem) (x e : Elem) → IsGrowing s n old now → n < length old →
    x ≡ get_or old n x → IsTimes x s e → IsAdded now new e
    → IsGrowing s (n + 1) old new
growing_step s n old now new x e h l is times (inl stays) = record {
  once = λ o. subst HasEachOnce (sym stays.1) (h.once o);
  kept_old = λ y k. subst (λ (ys : List Elem). Member y ys) (sym stays.1) (h.kept_old y k);
  place_kept = λ i d k. ap (λ (ys : List Elem). get_or ys i d) stays.1 ∙ h.place_kept i d k;
  longer = λ i k. subst (λ (ys : List Elem). i < length ys) (sym stays.1) (h.longer i k);
  each = λ y k. h.each y (subst (λ (ys : List Elem). Member y ys) stays.1 k);
  done = one_more s n old now new x e h l is times (λ y k. subst (λ (ys : List Elem). Member y ys) (sym stays.1) k)
      (subst (λ (ys : List Elem). Member e ys) (sym stays.1) stays.0);
}
growing_step s n old now new x e h l is times (inr goes) = record {
  once = λ o. subst HasEachOnce (sym goes.1) (once-push now e (h.once o) goes.0);
  kept_old = λ y k. subst (λ (ys : List Elem). Member y ys) (sym goes.1) (member-left y now (e ∷ []) (h.kept_old y k));
  place_kept = λ i d k. ap (λ (ys : List Elem). get_or ys i d) goes.1
      ∙ get_or_append_left now (e ∷ []) d i (h.longer i k) ∙ h.place_kept i d k;
  longer = λ i k. let inside : i < length now = h.longer i k in
      subst (λ (ys : List Elem). i < length ys) (sym goes.1) (omega (arith, length-append now (e ∷ [])));
  each = λ y k. elim (member-split y e now (subst (λ (ys : List Elem). Member y ys) goes.1 k)) [
    | inl a ↦ h.each y a
    | inr b ↦ inr (
      x,
      subst (λ (z : Elem). Member z old) (sym is) (member_at old n x l),
      subst (λ (z : Elem). IsTimes x s z) (sym b) times,
    )
  ];
  done = one_more s n old now new x e h l is times
      (λ y k. subst (λ (ys : List Elem). Member y ys) (sym goes.1) (member-left y now (e ∷ []) k))
      (subst (λ (ys : List Elem). Member e ys) (sym goes.1) (member-last e now));
}

-- after the last one the set is that of the longer word
pub grown_vertices : (m : CartanMatrix) → HasCartanForm m → (u : List ℕ) (k : ℕ) (s : Elem) (old new : List Elem) →
    IsProduct m (k ∷ []) s
    → IsGrowing s (length old) old new → HasVertices m u old → HasVertices m (u ++ k ∷ []) new
grown_vertices m form u k s old new simple h before = record {
  once = h.once before.once;
  each = λ e member. elim (h.each e member) [
    | inl a ↦ vertex_stays m u k e (before.each e a)
    | inr b ↦
        let v : IsVertex m u b.0 = before.each b.0 b.1 in
        vertex_times m u k b.0 e v (b.2 m (kept v.choices u) (k ∷ []) form v.product simple)
  ];
  all = λ choices long. by choices long (last_of choices (length u) (omega (arith, long, length-append u (k ∷ []))));
}
  where
    by : (choices : List Bool) → length choices ≡ length (u ++ k ∷ []) →
        ((front : List Bool) × (b : Bool) × (choices ≡ front ++ b ∷ []) × (length front ≡ length u))
        → (e : Elem) × Member e new × IsProduct m (kept choices (u ++ k ∷ [])) e
    by choices long (front, true, is, as_long) =
        let r : (e : Elem) × Member e old × IsProduct m (kept front u) e = before.all front as_long in
        let place : (i : ℕ) × (i < length old) × ((d : Elem) → get_or old i d ≡ r.0) = place_of r.0 old r.1 in
        let t : (y : Elem) × Member y new × IsTimes (get_or old place.0 r.0) s y = h.done place.0 r.0 place.1 place.1 in
        let times : IsTimes r.0 s t.0 = subst (λ (z : Elem). IsTimes z s t.0) (place.2 r.0) t.2 in (
          t.0,
          t.1,
          subst (λ w. IsProduct m w t.0)
              (sym (ap (λ (bs : List Bool). kept bs (u ++ k ∷ [])) is ∙ kept_more front true u k as_long))
              (times m (kept front u) (k ∷ []) form r.2 simple),
        )
    by choices long (front, false, is, as_long) =
        let r : (e : Elem) × Member e old × IsProduct m (kept front u) e = before.all front as_long in (
          r.0,
          h.kept_old r.0 r.1,
          subst (λ w. IsProduct m w r.0)
              (sym (ap (λ (bs : List Bool). kept bs (u ++ k ∷ [])) is ∙ kept_more front false u k as_long
              ∙ append-nil (kept front u))) r.2,
        )

-- where it stops, each member is a vertex of the longer word
pub grown_too_far : (m : CartanMatrix) → HasCartanForm m →
    (u : List ℕ) (k : ℕ) (w : List ℕ) (s : Elem) (old new : List Elem) (i n : ℕ) → IsProduct m (k ∷ []) s
    → IsGrowing s i old new → HasVertices m u old → n < length new → HasMoreVertices m (u ++ k ∷ [] ++ w) n
grown_too_far m form u k w s old new i n simple h before more = record {
  some = new;
  once = h.once before.once;
  each = λ e member. vertex_of_prefix m (u ++ k ∷ []) w e (elim (h.each e member) [
    | inl a ↦ vertex_stays m u k e (before.each e a)
    | inr b ↦
        let v : IsVertex m u b.0 = before.each b.0 b.1 in
        vertex_times m u k b.0 e v (b.2 m (kept v.choices u) (k ∷ []) form v.product simple)
  ]);
  more = more;
}

-- no letters: the identity alone
pub first_vertex : (m : CartanMatrix) (e : Elem) → IsProduct m [] e → HasVertices m [] (e ∷ [])
first_vertex m e product = record {
  once = ((λ h. h), tt);
  each = λ x h. elim h [
    | inl same ↦ record {
      choices = [];
      as_long = refl;
      product = subst (λ (y : Elem). IsProduct m [] y) (sym same) product;
    }
    | inr k ↦ absurd k
  ];
  all = λ choices long. (e, inl refl, subst (λ (w : List ℕ). IsProduct m w e) (sym (none_kept choices)) product);
}
  where
    none_kept : (choices : List Bool) → kept choices [] ≡ []
    none_kept [] = refl
    none_kept (b ∷ bs) = refl

pub first_added : (m : CartanMatrix) (old new : List Elem) (e : Elem) → old ≡ [] → IsAdded old new e →
    IsProduct m [] e → HasVertices m [] new
first_added m old new e none (inl stays) product = absurd (subst (λ (es : List Elem). Member e es) none stays.0)
first_added m old new e none (inr goes) product =
    subst (λ (es : List Elem). HasVertices m [] es) (ap (λ (es : List Elem). es ++ e ∷ []) (sym none) ∙ sym goes.1)
    (first_vertex m e product)

-- ---- a letter of a list of letters that count from 1
letter_more : (word : List ℕ) (i d : ℕ) → i < length word →
    word_of (take (i + 1) word) ≡ word_of (take i word) ++ (get_or word i d - 1) ∷ []
letter_more word i d l =
    ap word_of (take_more word i d l) ∙ map-append (λ k. k - 1) (take i word) (get_or word i d ∷ [])

pub letter_added : (m : CartanMatrix) → HasCartanForm m → (word : List ℕ) (i d : ℕ) (s : Elem) (old new : List Elem) →
    i < length word
    → IsProduct m ((get_or word i d - 1) ∷ []) s → IsGrowing s (length old) old new →
    HasVertices m (word_of (take i word)) old
    → HasVertices m (word_of (take (i + 1) word)) new
letter_added m form word i d s old new l simple growing before =
    subst (λ (u : List ℕ). HasVertices m u new) (sym (letter_more word i d l))
    (grown_vertices m form (word_of (take i word)) (get_or word i d - 1) s old new simple growing before)

pub letter_too_far : (m : CartanMatrix) → HasCartanForm m →
    (word : List ℕ) (i d : ℕ) (s : Elem) (old new : List Elem) (n : ℕ) → i < length word
    → IsProduct m ((get_or word i d - 1) ∷ []) s → ((j : ℕ) × IsGrowing s j old new × (n < length new)) →
    HasVertices m (word_of (take i word)) old
    → HasMoreVertices m (word_of word) n
letter_too_far m form word i d s old new n l simple (j, growing, more) before =
    let rest : List ℕ = word_of (drop (i + 1) word) in
    let whole : word_of word ≡ word_of (take i word) ++ (get_or word i d - 1) ∷ [] ++ rest =
    ap word_of (sym (take-append-drop (i + 1) word))
    ∙ map-append (λ k. k - 1) (take (i + 1) word) (drop (i + 1) word)
    ∙ ap (λ (u : List ℕ). u ++ rest) (letter_more word i d l) in
    subst (λ (u : List ℕ). HasMoreVertices m u n) (sym whole)
    (grown_too_far m form (word_of (take i word)) (get_or word i d - 1) rest s old new j n simple growing before more)

pub on_true : {P : Type 0} (b : Bool) → b ≡ true → OnTrue b P → P
on_true true h p = p
on_true false h p = absurd (cc)

pub on_false : {P : Type 0} (b : Bool) → b ≡ false → OnFalse b P → P
on_false true h p = absurd (cc)
on_false false h p = p

-- the members and the reflection are elements of the system
pub elements_of_system : (roots : Roots) (u : List ℕ) (k : ℕ) (list : List Elem) (s : Elem) →
    HasVertices (matrix_of roots) u list → IsProduct (matrix_of roots) (k ∷ []) s
    → (x : Elem) → Member x list → AreElementsOfOne x s
elements_of_system roots u k list s vertices simple x h =
    let v : IsVertex (matrix_of roots) u x = vertices.each x h in
    record {
      matrix = matrix_of roots;
      form = roots.form;
      finite = has_finite_system roots;
      first = (kept v.choices u, v.product);
      second = (k ∷ [], simple);
    }
