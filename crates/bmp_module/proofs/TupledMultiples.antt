-- A monomial acts on an element of a direct sum part by part.
use Rattle.std.proofs.Common.{◌≡◌, ℕ, ◌+◌, ◌%◌, ◌<◌, ◌≤◌, List, [], ◌∷◌, ◌++◌, length, get_or, take, map, refl, sym, ap, ◌∙◌, arith}
use Rattle.std.specs.List.{sum}
use Rattle.bmp_poly.specs.Exponents.{IsMonomial}
use Rattle.bmp_graded.specs.Graded.{Graded, IsModule}
use Rattle.bmp_graded.specs.Modules.{direct_sum}
use Rattle.bmp_graded.specs.Tuples.{common_rank, FitEach, IsTuple, joined_coordinates}
use Rattle.bmp_graded.proofs.Totals.{total}
use Rattle.bmp_graded.proofs.TupleLemmas.{Located, locate, joined_at, direct_sum_dim, direct_sum_act, member}
use Rattle.bmp_module.proofs.Tupling.{get_any, EachBelow, each_more}

module _ {M E : Type 0} (is_element : M → E → Type 0) (degree : M → E → ℕ) (graded : M → Graded)
    (coordinate : M → E → ℕ → ℕ) (p : ℕ) (x : List ℕ) (d : ℕ) (ms : List M) (es : List E) where
  -- an element of the part i that is the monomial x times the part i of the element es of degree d
  abbrev pub PartMultiple : ℕ → E → Type 0
  PartMultiple i e = (m : M) (y : E) → is_element (get_or ms i m) e × (degree (get_or ms i m) e ≡ d + sum x)
      × ((j : ℕ) → j < (graded (get_or ms i m)).dim (d + sum x) →
      coordinate (get_or ms i m) e j ≡ (graded (get_or ms i m)).act x d (d + sum x)
      (coordinate (get_or ms i m) (get_or es i y)) j % p)

  -- one more part
  pub multiple_more : (out new : List E) (k : ℕ) (m : M) (e r : E) → m ≡ get_or ms k m → e ≡ get_or es k e →
      k < length ms → IsTuple is_element degree d ms es → is_element m r → degree m r ≡ degree m e + sum x →
      ((j : ℕ) → j < (graded m).dim (degree m e + sum x) →
      coordinate m r j ≡ (graded m).act x (degree m e) (degree m e + sum x) (coordinate m e) j % p) →
      new ≡ out ++ r ∷ [] → EachBelow PartMultiple out k → EachBelow PartMultiple new (k + 1)
  multiple_more out new k m e r same_m same_e inside is el deg mult appended h =
      let sizes : length es ≡ length ms = is.sized in
      let within : k < length es = omega arith in
      let of_degree : degree m e ≡ d = ap (λ z. degree z e) same_m ∙ ap (degree (get_or ms k m)) same_e
      ∙ (is.each k m e inside).1 in
      rw appended (each_more PartMultiple out k r h
      (λ a y.
      let part : get_or ms k a ≡ m = get_any ms k a m inside ∙ sym same_m in
      let given : get_or es k y ≡ e = get_any es k y e within ∙ sym same_e in
      rw (part, given, ← of_degree) (el, deg, mult)))

  pub multiple_element : (out : List E) (k n : ℕ) → n ≡ length ms → n ≤ k → k ≤ n → d + sum x ≤ 6 →
      EachBelow PartMultiple out k → IsTuple is_element degree (d + sum x) ms out
  multiple_element out k n all past below small h = record {
    small = small;
    sized = let sized : length out ≡ k = h.sized in omega arith;
    each = λ i m e inside. let part = h.each i e (omega arith) m e in (part.0, part.1);
  }

  multiple_at : (Fits : M → Type 0) (rank : M → ℕ) (out : List E) (k t a j : ℕ) (m : M) (e y : E) → t ≡ d + sum x →
      length out ≡ length ms → a < length ms → a < k → ((m : M) → Fits m → IsModule p (rank m) (graded m)) →
      FitEach Fits rank ms → IsMonomial 6 (common_rank (map rank ms)) (sum x) x → IsTuple is_element degree d ms es →
      EachBelow PartMultiple out k
      → j < (graded (get_or ms a m)).dim (d + sum x) →
      (i : ℕ) → i ≡ total (λ m. (graded m).dim (d + sum x)) (take a ms) + j →
      joined_coordinates (λ m. (graded m).dim t) coordinate ms out i ≡ (direct_sum (map graded ms)).act x d
      (d + sum x) (joined_coordinates (λ m. (graded m).dim d) coordinate ms es) i % p
  multiple_at Fits rank out k t a j m e y degree_is size here there laws fits is_m is h below i i_is =
      let fit = fits a m here in
      let law : IsModule p (common_rank (map rank ms)) (graded (get_or ms a m)) =
      rw (← fit.1) (laws (get_or ms a m) fit.0) in
      let part = h.each a e there m y in
      rw (degree_is, i_is)
      (joined_at (λ m. (graded m).dim (d + sum x)) coordinate ms out a j m e here size below
      ∙ part.2 j below
      ∙ sym ((law.linear x (sum x) d (d + sum x) is_m refl).respects
      (λ b. joined_coordinates (λ m. (graded m).dim d) coordinate ms es
      (total (λ m. (graded m).dim d) (take a ms) + b)) (coordinate (get_or ms a m) (get_or es a y))
      (λ b low. ap (λ z. z % p) (joined_at (λ m. (graded m).dim d) coordinate ms es a b m y here is.sized low)) j below)
      ∙ ap (λ z. z % p)
      (sym (direct_sum_act graded x d (d + sum x) (joined_coordinates (λ m. (graded m).dim d) coordinate ms es) ms a
      j m here below)))

  pub multiple_numbers : (Fits : M → Type 0) (rank : M → ℕ) (out : List E) (k n t : ℕ) → t ≡ d + sum x → n ≡ length ms →
      n ≤ k → k ≤ n → ((m : M) → Fits m → IsModule p (rank m) (graded m)) → FitEach Fits rank ms →
      IsMonomial 6 (common_rank (map rank ms)) (sum x) x → IsTuple is_element degree d ms es →
      EachBelow PartMultiple out k
      → (i : ℕ) → i < (direct_sum (map graded ms)).dim (d + sum x) →
      joined_coordinates (λ m. (graded m).dim t) coordinate ms out i ≡ (direct_sum (map graded ms)).act x d
      (d + sum x) (joined_coordinates (λ m. (graded m).dim d) coordinate ms es) i % p
  multiple_numbers Fits rank out k n t degree_is all past below laws fits is_m is h i inside =
      let sized : length out ≡ k = h.sized in
      let sizes : length es ≡ length ms = is.sized in
      let at : Located (λ m. (graded m).dim (d + sum x)) ms i =
      locate (λ m. (graded m).dim (d + sum x)) ms i (rw (direct_sum_dim graded (d + sum x) ms) at inside) in
      let here : at.part < length ms = at.inside in
      multiple_at Fits rank out k t at.part at.place (member ms at.part at.inside) (member out at.part (omega arith))
      (member es at.part (omega arith)) degree_is (omega arith) here (omega arith) laws fits is_m is h
      (at.below (member ms at.part at.inside)) i at.is
