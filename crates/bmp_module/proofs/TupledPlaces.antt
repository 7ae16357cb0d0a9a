-- Places in a direct sum, found part after part.
use Rattle.std.proofs.Common.{◌≡◌, ℕ, ◌+◌, ◌-◌, ◌<◌, ◌≤◌, List, [], length, get_or, take, map, refl, sym, ap, subst, ◌∙◌, arith}
use Rattle.bmp_graded.specs.Graded.{Graded}
use Rattle.bmp_graded.specs.Modules.{direct_sum}
use Rattle.bmp_graded.specs.Tuples.{IsTuple, joined_coordinates}
use Rattle.bmp_graded.proofs.Totals.{total, total_taken, total_apart, total_front}
use Rattle.bmp_graded.proofs.TupleLemmas.{Located, locate, joined_at, direct_sum_dim, member}
use Rattle.bmp_module.proofs.Tupling.{get_any}

-- two readings of one place of a list
read_both : {X : Type 0} (xs : List X) (k : ℕ) (a b : X) → k < length xs → a ≡ get_or xs k a → a ≡ get_or xs k b
read_both xs k a b inside a_read = a_read ∙ get_any xs k a b inside

module _ {M : Type 0} (dim : M → ℕ) where
  -- a place of a part is one of the sum
  place_inside : (ms : List M) (k j : ℕ) (m : M) → k < length ms → j < dim (get_or ms k m) →
      total dim (take k ms) + j < total dim ms
  place_inside ms k j m inside below =
      let all : length ms ≤ length ms = omega arith in
      omega (arith, total_apart dim ms k (length ms) m inside all, total_front dim ms, below)

  pub place_start : (i : ℕ) → i ≡ total dim [] + i
  unfolding total
  place_start i = omega arith

  pub place_more : (ms : List M) (i k place size : ℕ) (m : M) → m ≡ get_or ms k m → k < length ms → size ≡ dim m →
      size ≤ place → i ≡ total dim (take k ms) + place → i ≡ total dim (take (k + 1) ms) + (place - size)
  place_more ms i k place size m m_read inside sized past at =
      let here : dim m ≡ dim (get_or ms k m) = ap dim m_read in
      let more : total dim (take (k + 1) ms) ≡ total dim (take k ms) + dim (get_or ms k m) =
      total_taken dim ms k m inside in
      omega (arith, here, more, sized, past, at)

  place_found : {E : Type 0} (coordinate : M → E → ℕ → ℕ) (ms : List M) (es : List E) (i k place size : ℕ) (m n : M)
      (e : E) → m ≡ get_or ms k m → n ≡ get_or ms k n → e ≡ get_or es k e → k < length ms → length es ≡ length ms →
      size ≡ dim m → place < size → i ≡ total dim (take k ms) + place →
      coordinate n e place ≡ joined_coordinates dim coordinate ms es i
  place_found coordinate ms es i k place size m n e m_read n_read e_read inside sized size_is short at =
      let small : place < dim m = omega (arith, size_is, short) in
      let below : place < dim (get_or ms k n) = subst (λ z. place < dim z) (read_both ms k m n inside m_read) small in
      ap (λ z. coordinate z e place) n_read ∙ ap (λ z. coordinate (get_or ms k n) z place) e_read
      ∙ sym (ap (joined_coordinates dim coordinate ms es) at
      ∙ joined_at dim coordinate ms es k place n e inside sized below)

  -- the number read at a place of a part is that of the sum
  pub place_read : {E : Type 0} (coordinate : M → E → ℕ → ℕ) (ms : List M) (es : List E) (i k place size : ℕ) (m n : M)
      (e : E) {x : ℕ} → m ≡ get_or ms k m → n ≡ get_or ms k n → e ≡ get_or es k e → k < length ms →
      length es ≡ length ms → size ≡ dim m → place < size → i ≡ total dim (take k ms) + place →
      x ≡ coordinate n e place → x ≡ joined_coordinates dim coordinate ms es i
  place_read coordinate ms es i k place size m n e m_read n_read e_read inside sized size_is short at number =
      number ∙ place_found coordinate ms es i k place size m n e m_read n_read e_read inside sized size_is short at

  -- no place is left after the last part
  pub place_past : {X : Type 0} (x y : X) (ms : List M) (i k place : ℕ) → k ≡ length ms → i < total dim ms →
      i ≡ total dim (take k ms) + place → x ≡ y
  place_past x y ms i k place end inside at =
      let all : total dim (take k ms) ≡ total dim ms = ap (λ z. total dim (take z ms)) end ∙ total_front dim ms in
      absurd (omega (arith, all, inside, at))

  -- two elements agree where their parts do
  pub joined_same : {E : Type 0} (coordinate : M → E → ℕ → ℕ) (ms : List M) (es fs : List E) → length es ≡ length ms →
      length fs ≡ length ms →
      ((k j : ℕ) (m : M) (x y : E) → k < length ms → j < dim (get_or ms k m) →
      coordinate (get_or ms k m) (get_or es k x) j ≡ coordinate (get_or ms k m) (get_or fs k y) j) →
      (i : ℕ) → i < total dim ms → joined_coordinates dim coordinate ms es i ≡ joined_coordinates dim coordinate ms fs i
  joined_same coordinate ms es fs es_sized fs_sized agree i inside =
      let at : Located dim ms i = locate dim ms i inside in
      let within = at.inside in
      let es_within : at.part < length es = omega (arith, es_sized, within) in
      let fs_within : at.part < length fs = omega (arith, fs_sized, within) in
      let m = member ms at.part within in
      let x = member es at.part es_within in
      let y = member fs at.part fs_within in
      ap (joined_coordinates dim coordinate ms es) at.is
      ∙ joined_at dim coordinate ms es at.part at.place m x within es_sized (at.below m)
      ∙ agree at.part at.place m x y within (at.below m)
      ∙ sym (joined_at dim coordinate ms fs at.part at.place m y within fs_sized (at.below m))
      ∙ sym (ap (joined_coordinates dim coordinate ms fs) at.is)

  -- where two elements agree, their parts do
  pub joined_part : {E : Type 0} (coordinate : M → E → ℕ → ℕ) (ms : List M) (es fs : List E) (k : ℕ) (m : M) (x y : E) →
      m ≡ get_or ms k m → x ≡ get_or es k x → y ≡ get_or fs k y → k < length ms → length es ≡ length ms →
      length fs ≡ length ms →
      ((i : ℕ) → i < total dim ms → joined_coordinates dim coordinate ms es i ≡ joined_coordinates dim coordinate ms fs
      i) → (j : ℕ) → j < dim m → coordinate m x j ≡ coordinate m y j
  joined_part coordinate ms es fs k m x y m_read x_read y_read inside es_sized fs_sized agree j below =
      let there : j < dim (get_or ms k m) = subst (λ z. j < dim z) m_read below in
      place_found coordinate ms es (total dim (take k ms) + j) k j (dim m) m m x m_read m_read x_read inside es_sized
      refl below refl
      ∙ agree (total dim (take k ms) + j) (place_inside ms k j m inside there)
      ∙ sym (place_found coordinate ms fs (total dim (take k ms) + j) k j (dim m) m m y m_read m_read y_read inside
      fs_sized refl below refl)

-- a part is no larger than the sum
pub part_small : {M : Type 0} (graded : M → Graded) (d b : ℕ) (ms : List M) (k : ℕ) (m : M) → m ≡ get_or ms k m →
    k < length ms → (direct_sum (map graded ms)).dim d < b → (graded m).dim d < b
part_small graded d b ms k m m_read inside small =
    let all : length ms ≤ length ms = omega arith in
    let here : (graded m).dim d ≡ (graded (get_or ms k m)).dim d = ap (λ z. (graded z).dim d) m_read in
    omega (
      arith,
      here,
      total_apart (λ z. (graded z).dim d) ms k (length ms) m inside all,
      total_front (λ z. (graded z).dim d) ms,
      direct_sum_dim graded d ms,
      small,
    )

pub place_end : {M X : Type 0} (graded : M → Graded) (d : ℕ) (x y : X) (ms : List M) (i k place : ℕ) → k ≡ length ms →
    i < (direct_sum (map graded ms)).dim d → i ≡ total (λ m. (graded m).dim d) (take k ms) + place → x ≡ y
place_end graded d x y ms i k place end inside at =
    place_past (λ m. (graded m).dim d) x y ms i k place end (rw (direct_sum_dim graded d ms) at inside) at

module _ {M E : Type 0} (graded : M → Graded) (coordinate : M → E → ℕ → ℕ) (d t : ℕ) (ms : List M) (es fs : List E)
  where
    pub tuples_same : d ≡ t → length es ≡ length ms → length fs ≡ length ms →
        ((k j : ℕ) (m : M) (x y : E) → k < length ms → j < (graded (get_or ms k m)).dim d →
        coordinate (get_or ms k m) (get_or es k x) j ≡ coordinate (get_or ms k m) (get_or fs k y) j) →
        (i : ℕ) → i < (direct_sum (map graded ms)).dim d → joined_coordinates (λ m. (graded m).dim d) coordinate ms es i
        ≡ joined_coordinates (λ m. (graded m).dim t) coordinate ms fs i
    tuples_same same es_sized fs_sized agree i inside =
        joined_same (λ m. (graded m).dim d) coordinate ms es fs es_sized fs_sized agree i
        (rw (direct_sum_dim graded d ms) at inside)
        ∙ ap (λ z. joined_coordinates (λ m. (graded m).dim z) coordinate ms fs i) same

    -- where two tuples agree, their parts do
    pub tuples_part : {is_element : M → E → Type 0} {degree : M → E → ℕ} (k : ℕ) (m : M) (x y : E) → d ≡ t →
        IsTuple is_element degree d ms es → IsTuple is_element degree t ms fs → m ≡ get_or ms k m → x ≡ get_or es k x →
        y ≡ get_or fs k y → k < length ms →
        ((i : ℕ) → i < (direct_sum (map graded ms)).dim d →
        joined_coordinates (λ m. (graded m).dim d) coordinate ms es i
        ≡ joined_coordinates (λ m. (graded m).dim t) coordinate ms fs i) → (j : ℕ) → j < (graded m).dim (degree m x) →
        coordinate m x j ≡ coordinate m y j
    tuples_part {is_element} {degree} k m x y same first second m_read x_read y_read inside agree j below =
        let there : degree (get_or ms k m) (get_or es k x) ≡ d = (first.each k m x inside).1 in
        let deg : degree m x ≡ d = ap (λ z. degree z x) m_read ∙ ap (λ z. degree (get_or ms k m) z) x_read ∙ there in
        joined_part (λ z. (graded z).dim d) coordinate ms es fs k m x y m_read x_read y_read inside first.sized
        second.sized
        (λ i l. agree i (rw (direct_sum_dim graded d ms) l)
        ∙ ap (λ z. joined_coordinates (λ m. (graded m).dim z) coordinate ms fs i) (sym same))
        j (subst (λ z. j < (graded m).dim z) deg below)
