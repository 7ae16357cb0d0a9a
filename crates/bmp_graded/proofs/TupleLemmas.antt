-- Coordinates of finite direct sums, part after part.
use Rattle.std.proofs.Common.{◌≡◌, ℕ, zero, suc, ◌+◌, ◌-◌, ◌<◌, ltb, List, [], ◌∷◌, length, get_or, take, map, refl, sym, ap, subst, ◌∙◌, inl, inr, arith}
use Rattle.std.proofs.Math.Path.{fun_ext}
use Rattle.std.proofs.lemmas.Bool.{cases_lt, cond-true, cond-false, lt-ltb, le-ltb}
use Rattle.bmp_graded.specs.Graded.{Graded, IsModule}
use Rattle.bmp_graded.specs.Modules.{nothing, both, direct_sum}
use Rattle.bmp_graded.specs.Tuples.{common_rank, FitEach, IsTuple, joined_coordinates}
use Rattle.bmp_graded.proofs.Totals.{total}
use Rattle.bmp_graded.proofs.GradedLemmas.{nothing_is_module, both_is_module}

-- where a place of the sum lies: at `place` in the part `part`
pub record Located {M : Type 0} (dim : M → ℕ) (ms : List M) (i : ℕ) : Type 0 where
  pub part : ℕ
  pub place : ℕ
  pub inside : part < length ms
  pub below : (m : M) → place < dim (get_or ms part m)
  pub is : i ≡ total dim (take part ms) + place

pub locate : {M : Type 0} (dim : M → ℕ) (ms : List M) (i : ℕ) → i < total dim ms → Located dim ms i
unfolding total
locate dim [] i inside = absurd (let none : i < 0 = inside in omega arith)
locate dim (x ∷ ms) i inside = elim (cases_lt i (dim x)) [
  | inl here ↦ record {
    part = 0;
    place = i;
    inside = let some : 0 < suc (length ms) = omega arith in
        some;
    below = λ m. here;
    is = let same : i ≡ 0 + i = omega arith in same;
  }
  | inr past ↦
      let rest : Located dim ms (i - dim x) =
      locate dim ms (i - dim x) (let all : i < dim x + total dim ms = inside in omega arith) in
      record {
        part = suc rest.part;
        place = rest.place;
        inside = let within : suc rest.part < suc (length ms) = let before = rest.inside in omega arith in within;
        below = rest.below;
        is = let at = rest.is in let same : i ≡ (dim x + total dim (take rest.part ms)) + rest.place = omega arith in
            same;
      }
]

pub joined_at : {M E : Type 0} (dim : M → ℕ) (coordinate : M → E → ℕ → ℕ) (ms : List M) (es : List E) (k j : ℕ) (m : M)
    (e : E) → k < length ms → length es ≡ length ms → j < dim (get_or ms k m) →
    joined_coordinates dim coordinate ms es (total dim (take k ms) + j) ≡ coordinate (get_or ms k m) (get_or es k e) j
unfolding joined_coordinates total
joined_at dim coordinate [] es k j m e inside sized below = absurd (let none : k < 0 = inside in omega arith)
joined_at dim coordinate (x ∷ ms) [] k j m e inside sized below =
    absurd (let none : 0 ≡ suc (length ms) = sized in omega arith)
joined_at dim coordinate (x ∷ ms) (y ∷ es) zero j m e inside sized below =
    let same : 0 + j ≡ j = omega arith in
    rw same (cond-true {A = ℕ} (ltb j (dim x)) (coordinate x y j) (joined_coordinates dim coordinate ms es (j - dim x))
    (lt-ltb j (dim x) below))
joined_at dim coordinate (x ∷ ms) (y ∷ es) (suc k) j m e inside sized below =
    let rest : suc k < suc (length ms) = inside in
    let sizes : suc (length es) ≡ suc (length ms) = sized in
    let back : ((dim x + total dim (take k ms)) + j) - dim x ≡ total dim (take k ms) + j = omega arith in
    cond-false {A = ℕ} (ltb ((dim x + total dim (take k ms)) + j) (dim x))
    (coordinate x y ((dim x + total dim (take k ms)) + j))
    (joined_coordinates dim coordinate ms es (((dim x + total dim (take k ms)) + j) - dim x))
    (le-ltb ((dim x + total dim (take k ms)) + j) (dim x) (omega arith))
    ∙ ap (joined_coordinates dim coordinate ms es) back
    ∙ joined_at dim coordinate ms es k j m e (omega arith) (omega arith) below

pub direct_sum_dim : {M : Type 0} (graded : M → Graded) (d : ℕ) (ms : List M) →
    (direct_sum (map graded ms)).dim d ≡ total (λ m. (graded m).dim d) ms
unfolding direct_sum both nothing total
direct_sum_dim graded d [] = refl
direct_sum_dim graded d (m ∷ ms) = ap (λ z. (graded m).dim d + z) (direct_sum_dim graded d ms)

-- a monomial acts part by part
pub direct_sum_act : {M : Type 0} (graded : M → Graded) (x : List ℕ) (d t : ℕ) (v : ℕ → ℕ) (ms : List M) (k j : ℕ)
    (m : M) → k < length ms → j < (graded (get_or ms k m)).dim t →
    (direct_sum (map graded ms)).act x d t v (total (λ m. (graded m).dim t) (take k ms) + j)
    ≡ (graded (get_or ms k m)).act x d t (λ i. v (total (λ m. (graded m).dim d) (take k ms) + i)) j
unfolding direct_sum both total
direct_sum_act graded x d t v [] k j m inside below = absurd (let none : k < 0 = inside in omega arith)
direct_sum_act graded x d t v (y ∷ ms) zero j m inside below =
    let same : 0 + j ≡ j = omega arith in
    let shifted : (λ (i : ℕ). v (0 + i)) ≡ v = fun_ext (λ i. let at : 0 + i ≡ i = omega arith in ap v at) in
    rw same (cond-true {A = ℕ} (ltb j ((graded y).dim t)) ((graded y).act x d t v j)
    ((direct_sum (map graded ms)).act x d t (λ i. v ((graded y).dim d + i)) (j - (graded y).dim t))
    (lt-ltb j ((graded y).dim t) below)
    ∙ ap (λ w. (graded y).act x d t w j) (sym shifted))
direct_sum_act graded x d t v (y ∷ ms) (suc k) j m inside below =
    let rest : suc k < suc (length ms) = inside in
    let i = ((graded y).dim t + total (λ m. (graded m).dim t) (take k ms)) + j in
    let back : (((graded y).dim t + total (λ m. (graded m).dim t) (take k ms)) + j) - (graded y).dim t
    ≡ total (λ m. (graded m).dim t) (take k ms) + j = omega arith in
    let shifted : (λ (a : ℕ). v ((graded y).dim d + (total (λ m. (graded m).dim d) (take k ms) + a)))
    ≡ (λ (a : ℕ). v (((graded y).dim d + total (λ m. (graded m).dim d) (take k ms)) + a)) =
    fun_ext (λ a. let at : (graded y).dim d + (total (λ m. (graded m).dim d) (take k ms) + a)
    ≡ ((graded y).dim d + total (λ m. (graded m).dim d) (take k ms)) + a = omega arith in ap v at) in
    cond-false {A = ℕ} (ltb (((graded y).dim t + total (λ m. (graded m).dim t) (take k ms)) + j) ((graded y).dim t))
    ((graded y).act x d t v (((graded y).dim t + total (λ m. (graded m).dim t) (take k ms)) + j))
    ((direct_sum (map graded ms)).act x d t (λ i. v ((graded y).dim d + i))
    ((((graded y).dim t + total (λ m. (graded m).dim t) (take k ms)) + j) - (graded y).dim t))
    (le-ltb (((graded y).dim t + total (λ m. (graded m).dim t) (take k ms)) + j) ((graded y).dim t) (omega arith))
    ∙ ap ((direct_sum (map graded ms)).act x d t (λ i. v ((graded y).dim d + i))) back
    ∙ direct_sum_act graded x d t (λ i. v ((graded y).dim d + i)) ms k j m (omega arith) below
    ∙ ap (λ w. (graded (get_or ms k m)).act x d t w j) shifted

-- the laws of a sum of modules that all have one number of variables
sum_over : {M : Type 0} (graded : M → Graded) (p r : ℕ) (ms : List M) →
    ((k : ℕ) (m : M) → k < length ms → IsModule p r (graded (get_or ms k m))) →
    IsModule p r (direct_sum (map graded ms))
unfolding direct_sum
sum_over graded p r [] laws = nothing_is_module p r
sum_over graded p r (m ∷ ms) laws =
    let some : 0 < suc (length ms) = omega arith in
    both_is_module p r (graded m) (direct_sum (map graded ms)) (laws 0 m some)
    (sum_over graded p r ms (λ k x l. let below : suc k < suc (length ms) = omega arith in laws (suc k) x below))

pub tuple_laws : {M : Type 0} (Fits : M → Type 0) (rank : M → ℕ) (graded : M → Graded) (p : ℕ) (ms : List M) →
    ((m : M) → Fits m → IsModule p (rank m) (graded m)) → FitEach Fits rank ms →
    IsModule p (common_rank (map rank ms)) (direct_sum (map graded ms))
tuple_laws Fits rank graded p ms laws fits =
    sum_over graded p (common_rank (map rank ms)) ms (λ k m l. let both = fits k m l in
    rw (← both.1) (laws (get_or ms k m) both.0))

-- a member of a list that has a place k
pub member : {X : Type 0} (xs : List X) (k : ℕ) → k < length xs → X
member [] k inside = absurd (let none : k < 0 = inside in omega arith)
member (x ∷ xs) k inside = x

-- what holds of the coordinates of each element holds of those of the tuple
pub joined_each : {M E : Type 0} (P : ℕ → Type 0) (dim : M → ℕ) (coordinate : M → E → ℕ → ℕ) (ms : List M) (es : List E)
    → length es ≡ length ms →
    ((k j : ℕ) (m : M) (e : E) → k < length ms → j < dim (get_or ms k m) →
    P (coordinate (get_or ms k m) (get_or es k e) j)) → (i : ℕ) → i < total dim ms →
    P (joined_coordinates dim coordinate ms es i)
joined_each P dim coordinate ms es sized each i inside =
    let at : Located dim ms i = locate dim ms i inside in
    let read = joined_at dim coordinate ms es at.part at.place (member ms at.part at.inside)
    (member es at.part (let within = at.inside in omega arith)) at.inside sized
    (at.below (member ms at.part at.inside)) in
    subst P (sym (ap (joined_coordinates dim coordinate ms es) at.is ∙ read))
    (each at.part at.place (member ms at.part at.inside) (member es at.part (let within = at.inside in omega arith))
    at.inside (at.below (member ms at.part at.inside)))

pub tuple_numbers : {M E : Type 0} (is_element : M → E → Type 0) (degree : M → E → ℕ) (graded : M → Graded)
    (coordinate : M → E → ℕ → ℕ) (p d : ℕ) (ms : List M) (es : List E) →
    ((m : M) (e : E) → is_element m e → (i : ℕ) → i < (graded m).dim (degree m e) → coordinate m e i < p) →
    IsTuple is_element degree d ms es → (i : ℕ) → i < (direct_sum (map graded ms)).dim d →
    joined_coordinates (λ m. (graded m).dim d) coordinate ms es i < p
tuple_numbers is_element degree graded coordinate p d ms es small is i inside =
    joined_each (λ z. z < p) (λ m. (graded m).dim d) coordinate ms es is.sized
    (λ k j m e here below. let part = is.each k m e here in
    small (get_or ms k m) (get_or es k e) part.0 j (rw part.1 below)) i (rw (direct_sum_dim graded d ms) at inside)
