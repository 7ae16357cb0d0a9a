-- Sums of multiples of images, one generator after another.
use Rattle.std.proofs.Common.{◌≡◌, ℕ, zero, suc, ◌+◌, ◌-◌, ◌*◌, ◌%◌, ◌<◌, ◌≤◌, leb, List, [], ◌∷◌, length, get_or, drop, refl, sym, ap, ap₂, subst, ◌∙◌, arith}
use Rattle.std.specs.List.{sum}
use Rattle.std.proofs.Math.Path.{fun_ext}
use Rattle.std.proofs.Math.Nat.{mod-mod, mod-eq_of_lt}
use Rattle.std.proofs.Math.Seq.{drop-cons}
use Rattle.std.proofs.Math.ListN.{drop_of_length-le}
use Rattle.std.proofs.lemmas.Bool.{cond-true, cond-false, le-leb, lt-leb}
use Rattle.bmp_math.specs.Sums.{sum_below}
use Rattle.bmp_math.specs.Congruences.{SameMod}
use Rattle.bmp_math.proofs.CongruenceLemmas.{same_add, same_mul}
use Rattle.bmp_math.proofs.SumLemmas.{sum_below-zero, sum_below_more}
use Rattle.bmp_poly.specs.Exponents.{count, exponents}
use Rattle.bmp_graded.specs.Graded.{Graded, IsModule}
use Rattle.bmp_graded.specs.Modules.{polynomials, moved, free}
use Rattle.bmp_graded.specs.Maps.{multiples, extension}
use Rattle.bmp_graded.proofs.Totals.{total, total_rest}
use Rattle.bmp_graded.proofs.CopiesLemmas.{block_dim, copies_dim, moved_dim, polynomials_dim}
use Rattle.bmp_graded.proofs.ExtensionMaps.{one_map}
use Rattle.bmp_module.specs.Images.{image_coordinates}

pub image_read : {E : Type 0} (coordinate : E → ℕ → ℕ) (es : List E) (h : ℕ) (e : E) → h < length es →
    e ≡ get_or es h e → image_coordinates coordinate es h ≡ coordinate e
unfolding image_coordinates
image_read coordinate [] h e inside e_is = absurd (let none : h < 0 = inside in omega arith)
image_read coordinate (x ∷ es) zero e inside e_is = ap coordinate (sym e_is)
image_read coordinate (x ∷ es) (suc h) e inside e_is = let rest : suc h < suc (length es) =
    inside in image_read coordinate es h e (omega arith) e_is

-- c times what is kept modulo p, added to x
pub added_term : (p x c y t r : ℕ) (new : ℕ) → t ≡ y % p → r ≡ (c * t) % p → new ≡ (x + r) % p → new ≡ (x + c * y) % p
added_term p x c y t r new t_is r_is new_is =
    new_is
    ∙ same_add p x x r (c * y) refl (ap (λ z. z % p) r_is ∙ mod-mod (c * t) p
    ∙ same_mul p c c t y refl (ap (λ z. z % p) t_is ∙ mod-mod y p))

-- one term more of a sum that is kept modulo p
pub sum_more : (p x s y : ℕ) (now new : ℕ) → now ≡ (x + s) % p → new ≡ (now + y) % p → new ≡ (x + (s + y)) % p
sum_more p x s y now new now_is new_is =
    let whole : (x + s) + y ≡ x + (s + y) = omega arith in
    new_is ∙ same_add p now (x + s) y y (ap (λ z. z % p) now_is ∙ mod-mod (x + s) p) refl ∙ ap (λ z. z % p) whole

pub multiples_none : (r : ℕ) (M : Graded) (g : ℕ) (w : ℕ → ℕ) (d : ℕ) (u : ℕ → ℕ) (j : ℕ) → d < g →
    multiples r M g w d u j ≡ 0
unfolding multiples
multiples_none r M g w d u j before =
    cond-false {A = ℕ} (leb g d) (sum_below (λ i. u i * M.act (exponents 6 r (d - g) i) g d w j) (count r (d - g))) 0
    (lt-leb g d before)

pub multiples_from : (r : ℕ) (M : Graded) (g : ℕ) (w : ℕ → ℕ) (d : ℕ) (u : ℕ → ℕ) (j : ℕ) → g ≤ d →
    multiples r M g w d u j ≡ sum_below (λ i. u i * M.act (exponents 6 r (d - g) i) g d w j) (count r (d - g))
unfolding multiples
multiples_from r M g w d u j from =
    cond-true {A = ℕ} (leb g d) (sum_below (λ i. u i * M.act (exponents 6 r (d - g) i) g d w j) (count r (d - g))) 0
    (le-leb g d from)

extension_none : (r : ℕ) (M : Graded) (gs : List ℕ) (ws : ℕ → ℕ → ℕ) (d : ℕ) (u : ℕ → ℕ) (k j : ℕ) → length gs ≤ k →
    extension r M (drop k gs) ws d u j ≡ 0
unfolding extension
extension_none r M gs ws d u k j past = rw (drop_of_length-le gs past) refl

extension_rest : (r : ℕ) (M : Graded) (gs : List ℕ) (ws : ℕ → ℕ → ℕ) (d : ℕ) (u : ℕ → ℕ) (k j : ℕ) → k < length gs →
    extension r M (drop k gs) ws d u j ≡ multiples r M (get_or gs k 0) (ws 0) d u j + extension r M (drop (k + 1) gs)
    (λ h. ws (suc h)) d (λ i. u ((moved (get_or gs k 0) (polynomials r)).dim d + i)) j
unfolding extension
extension_rest r M gs ws d u k j inside = let next : k + 1 ≡ suc k = omega arith in
    rw (next, drop-cons gs k 0 inside) refl

-- the images of the first k generators are added: v is the sum, and `start` is where the next block of u begins
pub record Extended (p r : ℕ) (M : Graded) (gs : List ℕ) (ws : ℕ → ℕ → ℕ) (d : ℕ) (u v : ℕ → ℕ) (k start : ℕ) :
    Type 0 where
  pub source : total (block_dim (polynomials r) d) gs ≡ start + total (block_dim (polynomials r) d) (drop k gs)
  pub sums : (j : ℕ) → j < M.dim d →
      SameMod p (extension r M gs ws d u j) (v j + extension r M (drop k gs) (λ h. ws (k + h)) d (λ i. u (start + i)) j)

module _ (p r : ℕ) (M : Graded) (gs : List ℕ) (ws : ℕ → ℕ → ℕ) (d : ℕ) (u : ℕ → ℕ) where
  pub extended_start : (v : ℕ → ℕ) → ((j : ℕ) → j < M.dim d → v j ≡ 0) → Extended p r M gs ws d u v 0 0
  extended_start v none =
      let images : (λ (h : ℕ). ws (0 + h)) ≡ ws = fun_ext (λ h. let same : 0 + h ≡ h = omega arith in ap ws same) in
      let numbers : (λ (i : ℕ). u (0 + i)) ≡ u = fun_ext (λ i. let same : 0 + i ≡ i = omega arith in ap u same) in
      record {
        source = omega arith;
        sums = λ j l.
            let rest : extension r M gs (λ h. ws (0 + h)) d (λ i. u (0 + i)) j ≡ extension r M gs ws d u j =
            ap₂ (λ (a : ℕ → ℕ → ℕ) (b : ℕ → ℕ). extension r M gs a d b j) images numbers in
            let all : extension r M gs ws d u j ≡ v j + extension r M gs (λ h. ws (0 + h)) d (λ i. u (0 + i)) j =
            omega (arith, none j l, rest) in
            ap (λ z. z % p) all;
      }

  pub extended_inside : (v : ℕ → ℕ) (k start size : ℕ) → k < length gs → size ≡ (free r gs).dim d →
      Extended p r M gs ws d u v k start → start + (moved (get_or gs k 0) (polynomials r)).dim d ≤ size
  extended_inside v k start size inside sized h =
      omega (arith, h.source, total_rest (block_dim (polynomials r) d) gs k 0 inside, copies_dim (polynomials r) d gs)

  pub extended_more : (v v' : ℕ → ℕ) (k start end g : ℕ) (w b : ℕ → ℕ) → r ≤ 6 → IsModule p r M → k < length gs →
      g ≡ get_or gs k 0 → w ≡ ws k → end ≡ start + (moved g (polynomials r)).dim d →
      ((i : ℕ) → i < (moved g (polynomials r)).dim d → b i ≡ u (start + i)) →
      ((j : ℕ) → j < M.dim d → v' j ≡ (v j + multiples r M g w d b j) % p) → Extended p r M gs ws d u v k start →
      Extended p r M gs ws d u v' (k + 1) end
  extended_more v v' k start end g w b wide laws inside g_is w_is end_is block added h =
      let here : k + 0 ≡ k = omega arith in
      let images : (λ (h : ℕ). ws (k + suc h)) ≡ (λ (h : ℕ). ws ((k + 1) + h)) =
      fun_ext (λ h. let same : k + suc h ≡ (k + 1) + h = omega arith in ap ws same) in
      let numbers : (λ (i : ℕ). u (start + ((moved (get_or gs k 0) (polynomials r)).dim d + i)))
      ≡ (λ (i : ℕ). u (end + i)) =
      fun_ext (λ i. let size : (moved (get_or gs k 0) (polynomials r)).dim d ≡ (moved g (polynomials r)).dim d = ap
      (λ z. (moved z (polynomials r)).dim d) (sym g_is) in
      let same : start + ((moved (get_or gs k 0) (polynomials r)).dim d + i) ≡ end + i = omega arith in
      ap u same) in
      record {
        source = let more = total_rest (block_dim (polynomials r) d) gs k 0 inside in let size :
            (moved g (polynomials r)).dim d ≡ (moved (get_or gs k 0) (polynomials r)).dim d =
            ap (λ z. (moved z (polynomials r)).dim d) g_is in omega (arith, h.source, more);
        sums = λ j l.
            let split : extension r M (drop k gs) (λ h. ws (k + h)) d (λ i. u (start + i)) j
            ≡ multiples r M g w d (λ i. u (start + i)) j + extension r M (drop (k + 1) gs) (λ h. ws ((k + 1) + h)) d
            (λ i. u (end + i)) j =
            extension_rest r M gs (λ h. ws (k + h)) d (λ i. u (start + i)) k j inside
            ∙ ap₂ (λ a c. a + c)
            (ap (λ z. multiples r M z (ws (k + 0)) d (λ i. u (start + i)) j) (sym g_is)
            ∙ ap (λ z. multiples r M g z d (λ i. u (start + i)) j) (ap ws here ∙ sym w_is))
            (ap₂ (λ (a : ℕ → ℕ → ℕ) (c : ℕ → ℕ). extension r M (drop (k + 1) gs) a d c j) images numbers) in
            let same : SameMod p (multiples r M g w d (λ i. u (start + i)) j) (multiples r M g w d b j) =
            ((one_map p r g wide M laws w).linear d).respects (λ i. u (start + i)) b
            (λ i inner. ap (λ z. z % p) (sym (block i inner))) j l in
            let around : v j + (multiples r M g w d b j + extension r M (drop (k + 1) gs) (λ h. ws ((k + 1) + h)) d
            (λ i. u (end + i)) j) ≡ (v j + multiples r M g w d b j) + extension r M (drop (k + 1) gs)
            (λ h. ws ((k + 1) + h)) d (λ i. u (end + i)) j = omega arith in
            h.sums j l ∙ ap (λ z. (v j + z) % p) split
            ∙ same_add p (v j) (v j)
            (multiples r M g w d (λ i. u (start + i)) j + extension r M (drop (k + 1) gs) (λ h. ws ((k + 1) + h)) d
            (λ i. u (end + i)) j)
            (multiples r M g w d b j + extension r M (drop (k + 1) gs) (λ h. ws ((k + 1) + h)) d (λ i. u (end + i))
            j) refl
            (same_add p (multiples r M g w d (λ i. u (start + i)) j) (multiples r M g w d b j)
            (extension r M (drop (k + 1) gs) (λ h. ws ((k + 1) + h)) d (λ i. u (end + i)) j)
            (extension r M (drop (k + 1) gs) (λ h. ws ((k + 1) + h)) d (λ i. u (end + i)) j) same refl)
            ∙ ap (λ z. z % p) around
            ∙ same_add p (v j + multiples r M g w d b j) (v' j)
            (extension r M (drop (k + 1) gs) (λ h. ws ((k + 1) + h)) d (λ i. u (end + i)) j)
            (extension r M (drop (k + 1) gs) (λ h. ws ((k + 1) + h)) d (λ i. u (end + i)) j)
            (sym (ap (λ z. z % p) (added j l) ∙ mod-mod (v j + multiples r M g w d b j) p)) refl;
      }

  pub extended_end : (v : ℕ → ℕ) (k start : ℕ) → length gs ≤ k → ((j : ℕ) → j < M.dim d → v j < p) →
      Extended p r M gs ws d u v k start → (j : ℕ) → j < M.dim d → v j ≡ extension r M gs ws d u j % p
  extended_end v k start past small h j l =
      let none : extension r M (drop k gs) (λ h. ws (k + h)) d (λ i. u (start + i)) j ≡ 0 =
      extension_none r M gs (λ h. ws (k + h)) d (λ i. u (start + i)) k j past in
      let all : v j + extension r M (drop k gs) (λ h. ws (k + h)) d (λ i. u (start + i)) j ≡ v j = omega arith in
      sym (mod-eq_of_lt (small j l)) ∙ sym (h.sums j l ∙ ap (λ z. z % p) all)

-- nothing more is added
pub none_added : (p x y : ℕ) → y ≡ 0 → x < p → x ≡ (x + y) % p
none_added p x y none small = let same : x + y ≡ x = omega arith in sym (mod-eq_of_lt small)
    ∙ ap (λ z. z % p) (sym same)

pub start_sum : (p x : ℕ) (f : ℕ → ℕ) → x < p → x ≡ (x + sum_below f 0) % p
start_sum p x f small = none_added p x (sum_below f 0) (sum_below-zero f) small

-- c times a monomial times an element, added
pub added_multiple : (p c : ℕ) (M : Graded) (m : List ℕ) (d t dt : ℕ) (v x term scaled new : ℕ → ℕ) → t ≡ d + sum m →
    dt ≡ d + sum m → ((i : ℕ) → i < M.dim (d + sum m) → term i ≡ M.act m d (d + sum m) v i % p) →
    ((i : ℕ) → i < M.dim dt → scaled i ≡ (c * term i) % p) → ((i : ℕ) → i < M.dim t → new i ≡ (x i + scaled i) % p) →
    (j : ℕ) → j < M.dim t → new j ≡ (x j + c * M.act m d t v j) % p
added_multiple p c M m d t dt v x term scaled new t_is dt_is term_is scaled_is new_is j l =
    let at : j < M.dim (d + sum m) = rw t_is at l in
    let there : j < M.dim dt = rw dt_is at in
    let first : term j ≡ M.act m d t v j % p = rw t_is (term_is j at) in
    added_term p (x j) c (M.act m d t v j) (term j) (scaled j) (new j) first (scaled_is j there) (new_is j l)

pub block_count : (r g d n : ℕ) → g ≤ d → n ≡ (moved g (polynomials r)).dim d → n ≡ count r (d - g)
block_count r g d n from n_is = n_is ∙ moved_dim (polynomials r) g d from ∙ polynomials_dim r (d - g)

-- one multiple more
pub multiple_more : (p r : ℕ) (M : Graded) (d g i dl di c : ℕ) (m : List ℕ) (w u x now new : ℕ → ℕ) → dl ≡ d → di ≡ g →
    m ≡ exponents 6 r (d - g) i → c ≡ u i → ((j : ℕ) → j < M.dim dl → new j ≡ (now j + c * M.act m di dl w j) % p) →
    ((j : ℕ) → j < M.dim d → now j ≡ (x j + sum_below (λ a. u a * M.act (exponents 6 r (d - g) a) g d w j) i) % p) →
    (j : ℕ) → j < M.dim d → new j ≡ (x j + sum_below (λ a. u a * M.act (exponents 6 r (d - g) a) g d w j) (i + 1)) % p
multiple_more p r M d g i dl di c m w u x now new dl_is di_is m_is c_is added so_far j l =
    let there : j < M.dim dl = rw dl_is l in
    let same : c * M.act m di dl w j ≡ u i * M.act (exponents 6 r (d - g) i) g d w j =
    ap₂ (λ a b. a * b) c_is (ap (λ z. M.act z di dl w j) m_is ∙ ap (λ z. M.act (exponents 6 r (d - g) i) z dl w j) di_is
    ∙ ap (λ z. M.act (exponents 6 r (d - g) i) g z w j) dl_is) in
    let step : new j ≡ (now j + u i * M.act (exponents 6 r (d - g) i) g d w j) % p =
    added j there ∙ ap (λ z. (now j + z) % p) same in
    sum_more p (x j) (sum_below (λ a. u a * M.act (exponents 6 r (d - g) a) g d w j) i)
    (u i * M.act (exponents 6 r (d - g) i) g d w j) (now j) (new j) (so_far j l) step
    ∙ ap (λ z. (x j + z) % p) (sym (sum_below_more (λ a. u a * M.act (exponents 6 r (d - g) a) g d w j) i))

pub multiples_end : (p r : ℕ) (M : Graded) (d g n : ℕ) (w u : ℕ → ℕ) (j x new : ℕ) → g ≤ d → n ≡ count r (d - g) →
    new ≡ (x + sum_below (λ a. u a * M.act (exponents 6 r (d - g) a) g d w j) n) % p →
    new ≡ (x + multiples r M g w d u j) % p
multiples_end p r M d g n w u j x new from n_is h =
    h ∙ ap (λ z. (x + z) % p) (ap (sum_below (λ a. u a * M.act (exponents 6 r (d - g) a) g d w j)) n_is
    ∙ sym (multiples_from r M g w d u j from))

-- the same in a degree by another name
pub added_in : (p r : ℕ) (M : Graded) (g dl d : ℕ) (w b now new : ℕ → ℕ) → dl ≡ d →
    ((j : ℕ) → j < M.dim dl → new j ≡ (now j + multiples r M g w dl b j) % p) → (j : ℕ) → j < M.dim d →
    new j ≡ (now j + multiples r M g w d b j) % p
added_in p r M g dl d w b now new same h =
    let Q : ℕ → Type 0 = λ z. (j : ℕ) → j < M.dim z → new j ≡ (now j + multiples r M g w z b j) % p in
    subst Q same h
