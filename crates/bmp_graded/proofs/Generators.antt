-- Generators of free modules: their multiples by monomials are the elements that are 1 at one place, so that a module
-- map from a free module is determined by their images.
use Rattle.std.proofs.Common.{◌≡◌, ℕ, zero, suc, ◌+◌, ◌-◌, ◌*◌, ◌%◌, ◌<◌, ◌≤◌, ltb, List, [], ◌∷◌, length, get_or, sym, ap, ◌∙◌, inl, inr, arith}
use Rattle.std.proofs.Math.Path.{fun_ext}
use Rattle.std.proofs.lemmas.Bool.{cases_lt, cond-true, cond-false, lt-ltb, le-ltb}
use Rattle.bmp_math.specs.Vectors.{SameVector, unit}
use Rattle.bmp_math.proofs.SumLemmas.{sum_below_only}
use Rattle.bmp_math.proofs.UnitLemmas.{unit_same, unit_other}
use Rattle.bmp_math.proofs.VectorLemmas.{agree_on_all}
use Rattle.bmp_poly.specs.Exponents.{IsMonomial, count, place, exponents, zeros}
use Rattle.bmp_poly.specs.Shifts.{joined, less}
use Rattle.bmp_poly.proofs.PlaceLemmas.{StandsAt, exponents_stand, place_below, length-zeros}
use Rattle.bmp_poly.proofs.ProductLemmas.{constant_is_one}
use Rattle.bmp_poly.proofs.ShiftLemmas.{length-joined, less-of_joined, less-zeros}
use Rattle.bmp_graded.specs.Graded.{Graded, IsModule, IsModuleMap}
use Rattle.bmp_graded.specs.Modules.{polynomials, moved, nothing, both, copies, free}
use Rattle.bmp_graded.specs.Maps.{extension}
use Rattle.bmp_graded.specs.Components.{component, IsGenerator}
use Rattle.bmp_graded.specs.Statements.{ExtensionsSendGenerators, MapsAreDetermined}
use Rattle.bmp_graded.proofs.Totals.{one_times, total}
use Rattle.bmp_graded.proofs.CopiesLemmas.{moved_dim, moved_none, moved_act_from, polynomials_dim}
use Rattle.bmp_graded.proofs.GradedLemmas.{linear_zero, polynomials_is_module, moved_is_module, free_is_module}
use Rattle.bmp_graded.proofs.ComponentLemmas.{start_of, component_at, count_none, generator_is, own_block}
use Rattle.bmp_graded.proofs.ExtensionLaws.{at, spread}
use Rattle.bmp_graded.proofs.ExtensionMaps.{extension_map}
use Rattle.bmp_graded.proofs.BlockActs.{unit_moved, extension_unit}

-- the coordinate j of degree d is that of a monomial at one generator
pub record IsPlaced (r : ℕ) (gs : List ℕ) (d j : ℕ) : Type 0 where
  pub generator : ℕ
  pub place : ℕ
  pub inside : generator < length gs
  pub least : get_or gs generator 0 ≤ d
  pub below : place < count r (d - get_or gs generator 0)
  pub is : start_of r gs d generator + place ≡ j

pub placed : (r : ℕ) (gs : List ℕ) (d j : ℕ) → j < (free r gs).dim d → IsPlaced r gs d j
unfolding copies both nothing total
placed r [] d j below = absurd (let none : j < 0 = below in omega arith)
placed r (g ∷ gs) d j below =
    let n : ℕ = (moved g (polynomials r)).dim d in
    elim (cases_lt j n) [
      | inl first ↦ elim (cases_lt d g) [
        | inl before ↦ absurd (omega (arith, first, moved_none (polynomials r) g d before))
        | inr from ↦ record {
          generator = 0;
          place = j;
          inside = omega arith;
          least = from;
          below = omega (arith, first, moved_dim (polynomials r) g d from, polynomials_dim r (d - g));
          is =
              omega arith;
        }
      ]
      | inr rest ↦
          let there : IsPlaced r gs d (j - n) = placed r gs d (j - n) (omega (arith, below, rest)) in
          let on : (n + start_of r gs d there.generator) + there.place ≡ j = omega (arith, there.is, rest) in
          record {
            generator = suc there.generator;
            place = there.place;
            inside = omega (arith, there.inside);
            least = there.least;
            below = there.below;
            is = on;
          }
    ]

-- the generator h, by its coordinates in its own degree
abbrev pub generator : ℕ → List ℕ → ℕ → ℕ → ℕ
generator r gs h = unit (start_of r gs (get_or gs h 0) h)

pub generator_is_one : (r h : ℕ) (gs : List ℕ) → r ≤ 6 → h < length gs → IsGenerator r gs h (generator r gs h)
generator_is_one r h gs wide inside =
    generator_is r h gs (generator r gs h) wide inside (unit_same (start_of r gs (get_or gs h 0) h))
    (λ i other. unit_other (start_of r gs (get_or gs h 0) h) i (λ e. other (sym e)))

-- there is only one
pub generator_once : (r h : ℕ) (gs : List ℕ) (u v : ℕ → ℕ) → r ≤ 6 → IsGenerator r gs h u → IsGenerator r gs h v →
    (j : ℕ) → j < (free r gs).dim (get_or gs h 0) → u j ≡ v j
generator_once r h gs u v wide is_u is_v j below =
    let there : IsPlaced r gs (get_or gs h 0) j = placed r gs (get_or gs h 0) j below in
    let m : List ℕ = exponents 6 r (get_or gs h 0 - get_or gs there.generator 0) there.place in
    let stands : StandsAt 6 r (get_or gs h 0 - get_or gs there.generator 0) there.place m =
    exponents_stand 6 r (get_or gs h 0 - get_or gs there.generator 0) there.place wide there.below in
    let read : (w : ℕ → ℕ) → component r gs there.generator (get_or gs h 0) w m ≡ w j =
    λ w. component_at r (get_or gs h 0) there.generator gs w m there.inside
    ∙ ap (λ z. w (start_of r gs (get_or gs h 0) there.generator + z)) stands.place_is ∙ ap w there.is in
    sym (read u) ∙ is_u there.generator m there.inside there.least stands.monomial
    ∙ sym (is_v there.generator m there.inside there.least stands.monomial) ∙ read v

constant : (r : ℕ) → r ≤ 6 → exponents 6 r 0 0 ≡ zeros 6
constant r wide = let stands : StandsAt 6 r 0 0 (exponents 6 r 0 0) =
    exponents_stand 6 r 0 0 wide (omega (arith, count_none r)) in
    constant_is_one r (exponents 6 r 0 0) wide stands.monomial

module _ (p r k : ℕ) (m : List ℕ) (wide : r ≤ 6) (is : IsMonomial 6 r k m) where
  -- m times 1, at the only place of degree 0
  one_acted : (g d j : ℕ) (u : ℕ → ℕ) → g + k ≡ d → u 0 ≡ 1 → j < count r k →
      (moved g (polynomials r)).act m g d u j ≡ unit (place r m) j
  unfolding polynomials at
  one_acted g d j u sizes one below =
      let none : g - g ≡ 0 = omega arith in
      let whole : d - g ≡ k = omega arith in
      let long : length (zeros 6) ≡ length m = length-zeros 6 ∙ sym is.long in
      let sized : length (joined (zeros 6) m) ≡ 6 = length-joined (zeros 6) m long ∙ is.long in
      let same : joined (zeros 6) m ≡ m =
      sym (ap (λ w. less (joined (zeros 6) m) (zeros w)) (sym sized) ∙ less-zeros (joined (zeros 6) m))
      ∙ less-of_joined (zeros 6) m long in
      moved_act_from (polynomials r) g g d j m u (omega arith)
      ∙ ap (λ z. (polynomials r).act m z (d - g) u j) none ∙ ap (λ z. (polynomials r).act m 0 z u j) whole
      ∙ spread r 0 k k m wide is (omega arith) u j below
      ∙ sum_below_only (λ i. u i * unit (place r (joined (exponents 6 r 0 i) m)) j) (count r 0) 0
      (omega (arith, count_none r)) (λ i few other. absurd (omega (arith, few, other, count_none r)))
      ∙ ap (λ z. z * unit (place r (joined (exponents 6 r 0 0) m)) j) one
      ∙ one_times (unit (place r (joined (exponents 6 r 0 0) m)) j)
      ∙ ap (λ z. unit (place r (joined z m)) j) (constant r wide) ∙ ap (λ z. unit (place r z) j) same

  -- m times the generator h is the element that is 1 at the place of m there
  pub generator_acted : (gs : List ℕ) (h d : ℕ) → h < length gs → get_or gs h 0 + k ≡ d →
      SameVector p ((free r gs).dim d) ((free r gs).act m (get_or gs h 0) d (generator r gs h))
      (unit (start_of r gs d h + place r m))
  unfolding copies both nothing total
  generator_acted [] h d inside sizes j below = absurd (let none : j < 0 = below in omega arith)
  generator_acted (g ∷ gs) zero d inside sizes j below =
      let n = (moved g (polynomials r)).dim d in
      let one = (moved g (polynomials r)).dim g in
      let later = λ (i : ℕ). unit 0 (one + i) in
      let whole : d - g ≡ k = omega arith in
      let own : (moved g (polynomials r)).dim d ≡ count r k = moved_dim (polynomials r) g d (omega arith)
      ∙ polynomials_dim r (d - g) ∙ ap (count r) whole in
      let start : 0 + place r m ≡ place r m = omega arith in
      elim (cases_lt j n) [
        | inl first ↦
            ap (λ z. z % p) (cond-true {A = ℕ} (ltb j n) ((moved g (polynomials r)).act m g d (unit 0) j)
            ((free r gs).act m g d later (j - n)) (lt-ltb j n first)
            ∙ one_acted g d j (unit 0) sizes (unit_same 0) (omega (arith, first, own)) ∙ ap (λ z. unit z j) (sym start))
        | inr second ↦
            ap (λ z. z % p) (cond-false {A = ℕ} (ltb j n) ((moved g (polynomials r)).act m g d (unit 0) j)
            ((free r gs).act m g d later (j - n)) (le-ltb j n second))
            ∙ linear_zero p ((free r gs).dim g) ((free r gs).dim d) ((free r gs).act m g d)
            ((free_is_module p r gs wide).linear m k g d is sizes) later
            (λ i b. ap (λ z. z % p) (unit_other 0 (one + i) (λ e. absurd (omega (arith, e, own_block r g))))) (j - n)
            (omega (arith, below, second))
            ∙ ap (λ z. z % p)
            (sym (unit_other (0 + place r m) j
            (λ e. absurd (omega (arith, e, second, own, place_below 6 r k m wide is)))))
      ]
  generator_acted (g ∷ gs) (suc h) d inside sizes j below =
      let n = (moved g (polynomials r)).dim d in
      let a = get_or gs h 0 in
      let before = (moved g (polynomials r)).dim a in
      let s = start_of r gs a h in
      let t = start_of r gs d h in
      let here : suc h < suc (length gs) = inside in
      let over : n + (t + place r m) ≡ (n + t) + place r m = omega arith in
      elim (cases_lt j n) [
        | inl first ↦
            ap (λ z. z % p) (cond-true {A = ℕ} (ltb j n) ((moved g (polynomials r)).act m a d (unit (before + s)) j)
            ((free r gs).act m a d (λ i. unit (before + s) (before + i)) (j - n)) (lt-ltb j n first))
            ∙ linear_zero p before n ((moved g (polynomials r)).act m a d)
            ((moved_is_module p r g (polynomials r) (polynomials_is_module p r wide)).linear m k a d is sizes)
            (unit (before + s))
            (λ i b. ap (λ z. z % p) (unit_other (before + s) i (λ e. absurd (omega (arith, e, b))))) j first
            ∙ ap (λ z. z % p) (sym (unit_other ((n + t) + place r m) j (λ e. absurd (omega (arith, e, first)))))
        | inr second ↦
            let back : n + (j - n) ≡ j = omega (arith, second) in
            ap (λ z. z % p) (cond-false {A = ℕ} (ltb j n) ((moved g (polynomials r)).act m a d (unit (before + s)) j)
            ((free r gs).act m a d (λ i. unit (before + s) (before + i)) (j - n)) (le-ltb j n second)
            ∙ ap (λ w. (free r gs).act m a d w (j - n)) (fun_ext (λ i. unit_moved before s i)))
            ∙ generator_acted gs h d (omega (arith, here)) sizes (j - n) (omega (arith, below, second))
            ∙ ap (λ z. z % p) (sym (unit_moved n (t + place r m) (j - n)) ∙ ap (λ z. unit z (n + (j - n))) over
            ∙ ap (unit ((n + t) + place r m)) back)
      ]

-- at each place stands a monomial times a generator, so maps that agree on the generators agree
pub maps_determined : MapsAreDetermined
maps_determined p r M gs f g v wide laws F G same d u =
    agree_on_all p ((free r gs).dim d) (M.dim d) (f d) (g d) (F.linear d) (G.linear d)
    (λ j below i inside.
    let at : IsPlaced r gs d j = placed r gs d j below in
    let a = get_or gs at.generator 0 in
    let k = d - get_or gs at.generator 0 in
    let m = exponents 6 r k at.place in
    let stands : StandsAt 6 r k at.place m = exponents_stand 6 r k at.place wide at.below in
    let sizes : a + k ≡ d = omega (arith, at.least) in
    let own : (i : ℕ) → i < (free r gs).dim a → generator r gs at.generator i ≡ v at.generator i =
    generator_once r at.generator gs (generator r gs at.generator) (v at.generator) wide
    (generator_is_one r at.generator gs wide at.inside) (same at.generator at.inside).0 in
    let acted : SameVector p ((free r gs).dim d) (unit j) ((free r gs).act m a d (v at.generator)) =
    λ i b.
    ap (λ z. unit z i % p) (sym (ap (λ z. start_of r gs d at.generator + z) stands.place_is ∙ at.is))
    ∙ sym (generator_acted p r k m wide stands.monomial gs at.generator d at.inside sizes i b)
    ∙ ((free_is_module p r gs wide).linear m k a d stands.monomial sizes).respects (generator r gs at.generator)
    (v at.generator) (λ i b. ap (λ z. z % p) (own i b)) i b in
    (F.linear d).respects (unit j) ((free r gs).act m a d (v at.generator)) acted i inside
    ∙ F.acts m k a d (v at.generator) stands.monomial sizes i inside
    ∙ (laws.linear m k a d stands.monomial sizes).respects (f a (v at.generator)) (g a (v at.generator))
    (same at.generator at.inside).1 i inside
    ∙ sym (G.acts m k a d (v at.generator) stands.monomial sizes i inside)
    ∙ sym ((G.linear d).respects (unit j) ((free r gs).act m a d (v at.generator)) acted i inside)) u

pub extension_sends : ExtensionsSendGenerators
extension_sends p r h M gs ws v wide laws inside is j below =
    let a = get_or gs h 0 in
    let none : a - a ≡ 0 = omega arith in
    let one : count r (a - a) ≡ 1 = ap (count r) none ∙ count_none r in
    let first : start_of r gs a h + 0 ≡ start_of r gs a h = omega arith in
    ((extension_map p r M gs ws wide laws).linear a).respects v (generator r gs h)
    (λ i b. ap (λ z. z % p)
    (generator_once r h gs v (generator r gs h) wide is (generator_is_one r h gs wide inside) i b)) j below
    ∙ ap (λ z. extension r M gs ws a (unit z) j % p) (sym first)
    ∙ ap (λ z. z % p) (extension_unit r M a gs ws h 0 j inside (omega arith) (omega (arith, one)))
    ∙ ap (λ z. M.act z a a (ws h) j % p) (ap (λ z. exponents 6 r z 0) none ∙ constant r wide)
    ∙ laws.one a (ws h) j below

-- so each module map is the extension of the generators' images
pub extension_is : (p r : ℕ) (M : Graded) (gs : List ℕ) (ws : ℕ → ℕ → ℕ) (f : ℕ → (ℕ → ℕ) → ℕ → ℕ) → r ≤ 6 →
    IsModule p r M → IsModuleMap p r (free r gs) M f
    → ((h : ℕ) → h < length gs → SameVector p (M.dim (get_or gs h 0)) (ws h) (f (get_or gs h 0) (generator r gs h))) →
    (d : ℕ) (u : ℕ → ℕ) → SameVector p (M.dim d) (extension r M gs ws d u) (f d u)
extension_is p r M gs ws f wide laws F same =
    maps_determined p r M gs (extension r M gs ws) f (generator r gs) wide laws (extension_map p r M gs ws wide laws) F
    (λ h inside. let is : IsGenerator r gs h (generator r gs h) = generator_is_one r h gs wide inside in (
      is,
      λ i below. extension_sends p r h M gs ws (generator r gs h) wide laws inside is i below
          ∙ same h inside i below,
    ))
