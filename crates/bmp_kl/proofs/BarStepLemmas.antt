-- Bars of vertices step by step: the table of products, least right descents, and what a step gives.
use Rattle.std.proofs.Common.{◌≡◌, ◌≢◌, ℕ, zero, suc, ◌+◌, ◌*◌, ◌^◌, ◌<◌, ◌≤◌, arith, refl, sym, ap, ap₂, ◌∙◌, subst, inl, inr, ◌⊎◌, List, [], ◌∷◌, ◌++◌, length, get_or, Option, Some, None, Bool, true, false}
use Rattle.std.specs.Prelude.{nat_lt, if◌then◌else◌, ◌==◌}
use Rattle.std.proofs.Math.Nat.{pow-le-pow_right}
use Rattle.std.proofs.lemmas.Bool.{cases_Bool, cases_eq}
use Rattle.std.proofs.lemmas.Bool.Decides.{nat_tests}
use Rattle.std.proofs.lemmas.List.{length-map, get_or-map}
use Rattle.bmp_math.specs.IntegerSums.{integer_unit}
use Rattle.bmp_math.specs.Lists.{Member}
use Rattle.bmp_math.proofs.ListLemmas.{member_at, place_of}
use Rattle.bmp_roots.specs.RootPairs.{CartanMatrix, Vector}
use Rattle.bmp_roots.specs.PositiveRoots.{has_negative}
use Rattle.bmp_roots.specs.RootSystems.{matrix_of, positive_roots_of}
use Rattle.bmp_roots.specs.declared.root_system.Roots.{Roots}
use Rattle.bmp_weyl.specs.Words.{IsWord, acts, IsRootSystem, length_of, kept}
use Rattle.bmp_weyl.specs.Elements.{IsProduct, IsElement, element_length, word_of}
use Rattle.bmp_weyl.specs.SimpleProducts.{identity_element, times_simple}
use Rattle.bmp_weyl.specs.Lowered.{IsLowered, same, IsKeptProduct}
use Rattle.bmp_weyl.specs.declared.elem.Elem.{Elem}
use Rattle.bmp_weyl.proofs.CallLemmas.{root_system, word_letters}
use Rattle.bmp_weyl.proofs.LengthLemmas.{length_identity}
use Rattle.bmp_weyl.proofs.ExchangeLemmas.{descent_negative, kept_word}
use Rattle.bmp_weyl.proofs.ElementLemmas.{same_element, product_alike, element_length-product}
use Rattle.bmp_weyl.proofs.SimpleLemmas.{times_is, times_length}
use Rattle.bmp_weyl.proofs.LoweredLemmas.{lowered_less, lowered_kept}
use Rattle.bmp_interval.specs.Vertices.{IsVertex}
use Rattle.bmp_interval.specs.Intervals.{IsInterval}
use Rattle.bmp_interval.proofs.CountLemmas.{once_apart}
use Rattle.bmp_hecke.specs.Groups.{Group, IsGroup, descends, least_descent}
use Rattle.bmp_hecke.specs.DifferenceBars.{previous, one_at_zero}
use Rattle.bmp_hecke.specs.LeadingBars.{leading_step, leading_steps}
use Rattle.bmp_hecke.specs.WeylGroups.{weyl_group}
use Rattle.bmp_hecke.proofs.GroupLemmas.{least_from_is}
use Rattle.bmp_hecke.proofs.WeylLemmas.{weyl_is_group}
use Rattle.bmp_hecke.proofs.LeadingLemmas.{bar_powers, leading_size, falls_by_one, rises_by_one}
use Rattle.bmp_hecke.proofs.SupportLemmas.{leading_below}
use Rattle.bmp_kl.specs.IntervalBars.{vertex_at, counts_below}
use Rattle.bmp_kl.specs.VertexProducts.{IsProductAt, partner}
use Rattle.bmp_kl.specs.VertexSteps.{AreSteps}
use Rattle.bmp_kl.specs.Descents.{IsFirstDescent}
use Rattle.bmp_kl.specs.BarRows.{row_value, leadings_of, stepped_row, IsMatch, IsMatched}
use Rattle.bmp_kl.specs.declared.steps.Steps.{Steps}
use Rattle.bmp_kl.specs.declared.steps.Descent.{Descent}
use Rattle.bmp_kl.proofs.IntervalLemmas.{vertex_in, element_within}
use Rattle.bmp_kl.proofs.RowLemmas.{read}

less_test : (a b : ℕ) → a < b → nat_lt a b ≡ true
less_test a b h = grind (arith, nat_tests)

less_of_test : (a b : ℕ) → nat_lt a b ≡ true → a < b
less_of_test a b h = grind (arith, nat_tests)

not_test : (a b : ℕ) → b ≤ a → nat_lt a b ≡ false
not_test a b h = grind (arith, nat_tests)

below_or : (a b : ℕ) → (a < b) ⊎ (b ≤ a)
below_or a b = grind arith

module _ {roots : Roots} {letters : List ℕ} {list : List Elem} {steps : Steps} (are : AreSteps roots letters list steps)
  where
    interval : IsInterval (matrix_of roots) (positive_roots_of roots) (word_of letters) list
    interval = are.interval.interval

    group : IsGroup (weyl_group (matrix_of roots) (positive_roots_of roots)) (IsElement (matrix_of roots))
    group = weyl_is_group (matrix_of roots) (positive_roots_of roots) (root_system roots)

    abbrev pub len : ℕ → ℕ
    len x = element_length (positive_roots_of roots) (vertex_at (matrix_of roots) list x)

    in_word : IsWord (matrix_of roots) (word_of letters)
    in_word = word_letters (matrix_of roots) letters are.interval.letters

    pub rank_is : steps.rank ≡ (matrix_of roots).rank
    rank_is = are.rank

    pub rank_few : (matrix_of roots).rank ≤ 6
    rank_few = (root_system roots).form.at_most_six

    pub count_is : length steps.lengths.items ≡ length list
    count_is = ap length are.lengths ∙ length-map list (element_length (positive_roots_of roots))

    pub length_at : (x : ℕ) → x < length list
        → get_or steps.lengths.items x 0 ≡ element_length (positive_roots_of roots) (vertex_at (matrix_of roots) list x)
    length_at x inside =
        ap (λ xs. get_or xs x 0) are.lengths
        ∙ get_or-map (element_length (positive_roots_of roots)) list x (identity_element (matrix_of roots)) 0 inside

    pub level_is : (x v : ℕ) → x < length list → v ≡ get_or steps.lengths.items x v → v ≡ len x
    level_is x v inside is = read steps.lengths.items x v 0 is (omega (arith, inside, count_is)) ∙ length_at x inside

    in_group : (x : ℕ) → x < length list → IsElement (matrix_of roots) (vertex_at (matrix_of roots) list x)
    in_group x inside = vertex_in (root_system roots) interval x inside

    is_vertex : (x : ℕ) → x < length list →
        IsVertex (matrix_of roots) (word_of letters) (vertex_at (matrix_of roots) list x)
    is_vertex x inside = interval.vertices.each _ (member_at list x (identity_element (matrix_of roots)) inside)

    one_number : (x y : ℕ) → x < length list → y < length list
        → vertex_at (matrix_of roots) list x ≡ vertex_at (matrix_of roots) list y → x ≡ y
    one_number x y inside within alike =
        once_apart list interval.vertices.once x y (identity_element (matrix_of roots)) inside within alike

    product_some : (x k z : ℕ) → x < length list → k < 6 → partner steps.products.items k x ≡ Some z
        → (z < length list) ×
        (vertex_at (matrix_of roots) list z ≡ times_simple (matrix_of roots) (vertex_at (matrix_of roots) list x) k)
    product_some x k z inside below e =
        subst (λ p. IsProductAt (matrix_of roots) (word_of letters) list x k p) e (are.products x k inside below)

    product_none : (x k : ℕ) → x < length list → k < (matrix_of roots).rank → partner steps.products.items k x ≡ None
        → IsVertex (matrix_of roots) (word_of letters)
        (times_simple (matrix_of roots) (vertex_at (matrix_of roots) list x) k) → ⊥
    product_none x k inside below e vertex =
        (subst (λ p. IsProductAt (matrix_of roots) (word_of letters) list x k p) e
        (are.products x k inside (omega (arith, below, rank_few))))
        below vertex

    -- what is below a vertex is a vertex
    lowered_vertex : (x : ℕ) (inside : x < length list) (u : List ℕ) (e : Elem) → IsProduct (matrix_of roots) u e
        → IsLowered (matrix_of roots) (kept (is_vertex x inside).choices (word_of letters)) u →
        IsVertex (matrix_of roots) (word_of letters) e
    lowered_vertex x inside u e of_e lowered =
        let vertex : IsVertex (matrix_of roots) (word_of letters) (vertex_at (matrix_of roots) list x) =
        is_vertex x inside in
        let product : IsKeptProduct (matrix_of roots) (word_of letters) u =
        lowered_kept (root_system roots) (word_of letters) (kept vertex.choices (word_of letters)) in_word lowered
        (vertex.choices, vertex.as_long, refl) in
        record {
          choices = product.0;
          as_long = product.1;
          product = product_alike (matrix_of roots) u (kept product.0 (word_of letters)) e of_e
              (kept_word (matrix_of roots) product.0 (word_of letters) in_word) (sym product.2);
        }

    -- a shorter product of a vertex is a vertex
    shorter_vertex : (x k : ℕ) → x < length list → k < (matrix_of roots).rank
        → element_length (positive_roots_of roots)
        (times_simple (matrix_of roots) (vertex_at (matrix_of roots) list x) k)
        < len x
        → IsVertex (matrix_of roots) (word_of letters)
        (times_simple (matrix_of roots) (vertex_at (matrix_of roots) list x) k)
    shorter_vertex x k inside below less =
        let m : CartanMatrix = matrix_of roots in
        let ps : List Vector = positive_roots_of roots in
        let vertex : IsVertex m (word_of letters) (vertex_at m list x) = is_vertex x inside in
        let w : List ℕ = kept vertex.choices (word_of letters) in
        let before : element_length ps (vertex_at m list x) ≡ length_of m ps w =
        element_length-product m ps (root_system roots) w (vertex_at m list x) vertex.product in
        let after : element_length ps (times_simple m (vertex_at m list x) k) ≡ length_of m ps (w ++ k ∷ []) =
        times_length m ps (root_system roots) w (vertex_at m list x) k below vertex.product in
        let negative : has_negative m.rank (acts m w (integer_unit k)) ≡ true =
        descent_negative m ps (root_system roots) w vertex.product.letters k below (falls _ _ _ _ before after less) in
        let of_times : IsProduct m (w ++ k ∷ []) (times_simple m (vertex_at m list x) k) =
        times_is m ps (root_system roots) w (vertex_at m list x) k below vertex.product in
        lowered_vertex x inside (w ++ k ∷ []) _ of_times
        (lowered_less (root_system roots) w k below vertex.product.letters negative (same of_times.letters refl))
      where
        falls : (a b c d : ℕ) → a ≡ b → c ≡ d → c < a → d < b
        falls a b c d e f h = omega arith

    -- ---- the table of products
    back : (x k z : ℕ) → x < length list → k < (matrix_of roots).rank → partner steps.products.items k x ≡ Some z
        → partner steps.products.items k z ≡ Some x
    back x k z inside below e = by (partner steps.products.items k z) refl
      where
        at : (z < length list) ×
            (vertex_at (matrix_of roots) list z ≡ times_simple (matrix_of roots) (vertex_at (matrix_of roots) list x) k)
        at = product_some x k z inside (omega (arith, below, rank_few)) e

        returns : times_simple (matrix_of roots) (vertex_at (matrix_of roots) list z) k
            ≡ vertex_at (matrix_of roots) list x
        returns = ap (λ v. times_simple (matrix_of roots) v k) at.1
            ∙ group.twice (vertex_at (matrix_of roots) list x) k below (in_group x inside)

        by : (p : Option ℕ) → partner steps.products.items k z ≡ p → partner steps.products.items k z ≡ Some x
        by None none =
            absurd (product_none z k at.0 below none
            (subst (λ v. IsVertex (matrix_of roots) (word_of letters) v) (sym returns) (is_vertex x inside)))
        by (Some w) some =
            let there : (w < length list) ×
            (vertex_at (matrix_of roots) list w ≡ times_simple (matrix_of roots) (vertex_at (matrix_of roots) list z)
            k) =
            product_some z k w at.0 (omega (arith, below, rank_few)) some in
            some ∙ ap Some (one_number w x there.0 inside (there.1 ∙ returns))

    -- the later of two is the longer
    pub longer_is : (x k z : ℕ) → x < length list → k < (matrix_of roots).rank →
        partner steps.products.items k x ≡ Some z → x < z
        → len z ≡ len x + 1
    longer_is x k z inside below e order =
        let at : (z < length list) ×
        (vertex_at (matrix_of roots) list z ≡ times_simple (matrix_of roots) (vertex_at (matrix_of roots) list x) k) =
        product_some x k z inside (omega (arith, below, rank_few)) e in
        let rises : len x ≤ len z = interval.rising x z (identity_element (matrix_of roots)) (omega arith) at.0 in
        let measured : len z ≡ element_length (positive_roots_of roots)
        (times_simple (matrix_of roots) (vertex_at (matrix_of roots) list x) k) =
        ap (element_length (positive_roots_of roots)) at.1 in
        elim (group.by_one (vertex_at (matrix_of roots) list x) k below (in_group x inside)) [
          | inl up ↦ measured ∙ up
          | inr down ↦ absurd (contrary _ _ _ rises measured down)
        ]
      where
        contrary : (a b c : ℕ) → a ≤ b → b ≡ c → c + 1 ≡ a → ⊥
        contrary a b c h e f = omega arith

    shorter_is : (x k z : ℕ) → x < length list → k < (matrix_of roots).rank →
        partner steps.products.items k x ≡ Some z →
        z ≤ x
        → len z + 1 ≡ len x
    shorter_is x k z inside below e order =
        let at : (z < length list) ×
        (vertex_at (matrix_of roots) list z ≡ times_simple (matrix_of roots) (vertex_at (matrix_of roots) list x) k) =
        product_some x k z inside (omega (arith, below, rank_few)) e in
        let rises : len z ≤ len x = interval.rising z x (identity_element (matrix_of roots)) order inside in
        let measured : len z ≡ element_length (positive_roots_of roots)
        (times_simple (matrix_of roots) (vertex_at (matrix_of roots) list x) k) =
        ap (element_length (positive_roots_of roots)) at.1 in
        elim (group.by_one (vertex_at (matrix_of roots) list x) k below (in_group x inside)) [
          | inl up ↦ absurd (contrary _ _ _ rises measured up)
          | inr down ↦ ap (λ n. n + 1) measured ∙ down
        ]
      where
        contrary : (a b c : ℕ) → b ≤ a → b ≡ c → c ≡ a + 1 → ⊥
        contrary a b c h e f = omega arith

    pub matched : (k : ℕ) → k < (matrix_of roots).rank → IsMatched (partner steps.products.items k) steps.lengths.items
        (length steps.lengths.items)
    matched k below x z inside e =
        let within : x < length list = omega (arith, count_is) in
        let at : (z < length list) ×
        (vertex_at (matrix_of roots) list z ≡ times_simple (matrix_of roots) (vertex_at (matrix_of roots) list x) k) =
        product_some x k z within (omega (arith, below, rank_few)) e in
        record {
          inside = omega (arith, at.0, count_is);
          back = back x k z within below e;
          apart = λ alike. no_loop (len z) (len x) (shorter_is x k z within below e (omega (arith, alike)))
              (ap len alike);
          longer = λ order.
              length_at z at.0 ∙ longer_is x k z within below e order ∙ ap (λ n. n + 1) (sym (length_at x within));
        }
      where
        no_loop : (a b : ℕ) → a + 1 ≡ b → b ≡ a → ⊥
        no_loop a b e f = omega arith

    pub lengths_rise : (x y : ℕ) → x ≤ y → y < length steps.lengths.items →
        get_or steps.lengths.items x 0 ≤ get_or steps.lengths.items y 0
    lengths_rise x y order inside =
        let within : y < length list = omega (arith, count_is) in
        at_most _ _ _ _ (length_at x (omega (arith, order, within))) (length_at y within)
        (interval.rising x y (identity_element (matrix_of roots)) order within)
      where
        at_most : (a b c d : ℕ) → a ≡ b → c ≡ d → b ≤ d → a ≤ c
        at_most a b c d e f h = omega arith

    -- ---- least right descents
    module _ (y : ℕ) (inside : y < length list) (d : Descent)
        (first : IsFirstDescent steps.rank (λ k. partner steps.products.items k y) y d) where
      pub letter_below : d.letter < (matrix_of roots).rank
      letter_below = omega (arith, first.letter, are.rank)

      at_below : (d.below < length list)
          × (vertex_at (matrix_of roots) list d.below ≡ times_simple (matrix_of roots)
          (vertex_at (matrix_of roots) list y) d.letter)
      at_below = product_some y d.letter d.below inside (omega (arith, letter_below, rank_few)) first.product

      pub one_shorter : len d.below + 1 ≡ len y
      one_shorter = shorter_is y d.letter d.below inside letter_below first.product (omega (arith, first.lower))

      pub least_is : least_descent (weyl_group (matrix_of roots) (positive_roots_of roots))
          (vertex_at (matrix_of roots) list y) ≡ d.letter
      least_is =
          least_from_is (descends (weyl_group (matrix_of roots) (positive_roots_of roots))
          (vertex_at (matrix_of roots) list y)) 0 (matrix_of roots).rank d.letter
          (omega arith) (omega (arith, letter_below))
          (passes _ _ _ (ap (element_length (positive_roots_of roots)) at_below.1) one_shorter)
          (λ k start before.
          elim (cases_Bool (descends (weyl_group (matrix_of roots) (positive_roots_of roots))
          (vertex_at (matrix_of roots) list y) k)) [
            | inl shorter ↦ absurd (earlier k before (less_of_test _ _ shorter) (partner steps.products.items k y) refl)
            | inr off ↦ off
          ])
        where
          passes : (a b c : ℕ) → a ≡ b → a + 1 ≡ c → nat_lt b c ≡ true
          passes a b c e f = less_test b c (omega arith)

          earlier : (k : ℕ) → k < d.letter
              → element_length (positive_roots_of roots)
              (times_simple (matrix_of roots) (vertex_at (matrix_of roots) list y) k) < len y
              → (p : Option ℕ) → partner steps.products.items k y ≡ p → ⊥
          earlier k before less None e =
              product_none y k inside (omega (arith, before, letter_below)) e
              (shorter_vertex y k inside (omega (arith, before, letter_below)) less)
          earlier k before less (Some z) e =
              let at : (z < length list) ×
              (vertex_at (matrix_of roots) list z ≡ times_simple (matrix_of roots)
              (vertex_at (matrix_of roots) list y) k) =
              product_some y k z inside (omega (arith, before, letter_below, rank_few)) e in
              contrary _ _ _ (interval.rising y z (identity_element (matrix_of roots)) (first.first k z before e) at.0)
              (ap (element_length (positive_roots_of roots)) at.1) less
            where
              contrary : (a b c : ℕ) → a ≤ b → b ≡ c → c < a → ⊥
              contrary a b c h e l = omega arith

      -- a coefficient of the bar of y, from that of the shorter vertex
      opened : (v j : ℕ) → leadings_of (matrix_of roots) (positive_roots_of roots) list v y j
          ≡ leading_step (weyl_group (matrix_of roots) (positive_roots_of roots))
          (leading_steps (weyl_group (matrix_of roots) (positive_roots_of roots)) (len d.below)
          (vertex_at (matrix_of roots) list d.below))
          d.letter (vertex_at (matrix_of roots) list v) j
      unfolding leading_steps
      opened v j =
          let g : Group Elem = weyl_group (matrix_of roots) (positive_roots_of roots) in
          let long : len y ≡ suc (len d.below) = omega (arith, one_shorter) in
          ap (λ n. leading_steps g n (vertex_at (matrix_of roots) list y) (vertex_at (matrix_of roots) list v) j) long
          ∙ ap (λ k. leading_step g
          (leading_steps g (len d.below) (times_simple (matrix_of roots) (vertex_at (matrix_of roots) list y) k)) k
          (vertex_at (matrix_of roots) list v) j) least_is
          ∙ ap (λ z. leading_step g (leading_steps g (len d.below) z) d.letter (vertex_at (matrix_of roots) list v) j)
          (sym at_below.1)

      pub bar_narrow : (v j : ℕ) → v < length list → len y ≤ len v + 2 * j →
          leadings_of (matrix_of roots) (positive_roots_of roots) list v d.below j ≡ 0
      bar_narrow v j within far =
          (bar_powers group (len d.below) (vertex_at (matrix_of roots) list d.below)
          (vertex_at (matrix_of roots) list v)
          (in_group d.below at_below.0) (in_group v within) refl).far j (omega (arith, one_shorter, far))

      pub step_is : (old : ℕ → ℕ → ℕ)
          → ((v j : ℕ) → v < length list → j < 19 →
          old v j ≡ leadings_of (matrix_of roots) (positive_roots_of roots) list v d.below j)
          → (v j : ℕ) → v < length list → j < 19
          → stepped_row (partner steps.products.items d.letter v) old v j ≡ leadings_of (matrix_of roots)
          (positive_roots_of roots) list v y j
      step_is old before v j within k = by (partner steps.products.items d.letter v) refl ∙ sym (opened v j)
        where
          g : Group Elem
          g = weyl_group (matrix_of roots) (positive_roots_of roots)

          h : Elem → ℕ → ℕ
          h = leading_steps (weyl_group (matrix_of roots) (positive_roots_of roots)) (len d.below)
              (vertex_at (matrix_of roots) list d.below)

          carried : (z i : ℕ) → z < length list → i < 19 →
              previous (old z) i ≡ previous (h (vertex_at (matrix_of roots) list z)) i
          carried z zero here l = refl
          carried z (suc i) here l = before z i here (omega arith)

          nothing : (f : ℕ → ℕ) (i : ℕ) → ((e : ℕ) → f e ≡ 0) → previous f i ≡ 0
          nothing f zero none = refl
          nothing f (suc i) none = none i

          up : (b : Bool) (s t : ℕ) → b ≡ false → (if b then s else t) ≡ t
          up true s t e = absurd (cc)
          up false s t e = refl

          down : (b : Bool) (s t : ℕ) → b ≡ true → (if b then s else t) ≡ s
          down true s t e = refl
          down false s t e = absurd (cc)

          add_none : (a b : ℕ) → b ≡ 0 → a ≡ a + b
          add_none a b e = omega arith

          by : (p : Option ℕ) → partner steps.products.items d.letter v ≡ p
              → stepped_row (partner steps.products.items d.letter v) old v j ≡ leading_step g h d.letter
              (vertex_at (matrix_of roots) list v) j
          by None e =
              let stays : descends g (vertex_at (matrix_of roots) list v) d.letter ≡ false =
              elim (cases_Bool (descends g (vertex_at (matrix_of roots) list v) d.letter)) [
                | inl shorter ↦
                    absurd (product_none v d.letter within letter_below e
                    (shorter_vertex v d.letter within letter_below (less_of_test _ _ shorter)))
                | inr off ↦ off
              ] in
              let none : (i : ℕ) → h (times_simple (matrix_of roots) (vertex_at (matrix_of roots) list v) d.letter) i
              ≡ 0 =
              λ i.
              leading_below (root_system roots) (len d.below) (vertex_at (matrix_of roots) list d.below)
              (times_simple (matrix_of roots) (vertex_at (matrix_of roots) list v) d.letter)
              (kept (is_vertex d.below at_below.0).choices (word_of letters))
              ((in_group v within).0 ++ d.letter ∷ [])
              (is_vertex d.below at_below.0).product
              (times_is (matrix_of roots) (positive_roots_of roots) (root_system roots) (in_group v within).0
              (vertex_at (matrix_of roots) list v) d.letter letter_below (in_group v within).1)
              refl
              (λ lowered.
              product_none v d.letter within letter_below e
              (lowered_vertex d.below at_below.0 ((in_group v within).0 ++ d.letter ∷ []) _
              (times_is (matrix_of roots) (positive_roots_of roots) (root_system roots) (in_group v within).0
              (vertex_at (matrix_of roots) list v) d.letter letter_below (in_group v within).1)
              lowered)) i in
              ap (λ p. stepped_row p old v j) e ∙ before v j within k
              ∙ add_none (h (vertex_at (matrix_of roots) list v) j)
              (previous (h (times_simple (matrix_of roots) (vertex_at (matrix_of roots) list v) d.letter)) j)
              (nothing (h (times_simple (matrix_of roots) (vertex_at (matrix_of roots) list v) d.letter)) j none)
              ∙ sym (up (descends g (vertex_at (matrix_of roots) list v) d.letter) _ _ stays)
          by (Some z) e =
              let at : (z < length list) ×
              (vertex_at (matrix_of roots) list z ≡ times_simple (matrix_of roots)
              (vertex_at (matrix_of roots) list v) d.letter) =
              product_some v d.letter z within (omega (arith, letter_below, rank_few)) e in
              ap (λ p. stepped_row p old v j) e
              ∙ elim (below_or v z) [
                | inl order ↦
                    let longer : len z ≡ len v + 1 = longer_is v d.letter z within letter_below e order in
                    down (nat_lt v z) (old v j + previous (old z) j) (old z j) (less_test v z order)
                    ∙ ap₂ (λ a b. a + b) (before v j within k)
                    (carried z j at.0 k ∙ ap (λ (w : Elem). previous (h w) j) at.1)
                    ∙ sym (up (descends g (vertex_at (matrix_of roots) list v) d.letter) _ _
                    (no_descent _ _ _ (ap (element_length (positive_roots_of roots)) at.1) longer))
                | inr late ↦
                    let shorter : len z + 1 ≡ len v = shorter_is v d.letter z within letter_below e late in
                    up (nat_lt v z) (old v j + previous (old z) j) (old z j) (not_test v z late)
                    ∙ before z j at.0 k ∙ ap (λ (w : Elem). h w j) at.1
                    ∙ sym (down (descends g (vertex_at (matrix_of roots) list v) d.letter) _ _
                    (a_descent _ _ _ (ap (element_length (positive_roots_of roots)) at.1) shorter))
              ]
            where
              no_descent : (a b c : ℕ) → a ≡ b → a ≡ c + 1 → nat_lt b c ≡ false
              no_descent a b c e f = not_test b c (omega arith)

              a_descent : (a b c : ℕ) → a ≡ b → a + 1 ≡ c → nat_lt b c ≡ true
              a_descent a b c e f = less_test b c (omega arith)

    pub bar_small : (x y j : ℕ) → y < length list →
        leadings_of (matrix_of roots) (positive_roots_of roots) list x y j ≤ 2 ^ 36
    bar_small x y j inside =
        small _ (len y) (leading_size (weyl_group (matrix_of roots) (positive_roots_of roots)) (len y)
        (vertex_at (matrix_of roots) list y) (vertex_at (matrix_of roots) list x) j)
        (element_within (root_system roots) (vertex_at (matrix_of roots) list y) (in_group y inside))
      where
        small : (a n : ℕ) → a ≤ 2 ^ n → n ≤ 36 → a ≤ 2 ^ 36
        small a n h few = let power : 2 ^ n ≤ 2 ^ 36 = pow-le-pow_right (omega arith) few in omega (arith, power)

    pub len_few : (y : ℕ) → y < length list → len y ≤ 36
    len_few y inside = element_within (root_system roots) (vertex_at (matrix_of roots) list y) (in_group y inside)

    -- the coefficients at the powers of v - v^-1
    pub count_at : (x y d j : ℕ) → x < length list → y < length list → d + len x + 2 * j ≡ len y
        → counts_below (matrix_of roots) (positive_roots_of roots) list y x d ≡ leadings_of (matrix_of roots)
        (positive_roots_of roots) list x y j
    count_at x y d j inside within e =
        (bar_powers group (len y) (vertex_at (matrix_of roots) list y) (vertex_at (matrix_of roots) list x)
        (in_group y within) (in_group x inside) refl).at d j e

    pub count_off : (x y d : ℕ) → x < length list → y < length list → ((j : ℕ) → d + len x + 2 * j ≢ len y)
        → counts_below (matrix_of roots) (positive_roots_of roots) list y x d ≡ 0
    count_off x y d inside within none =
        (bar_powers group (len y) (vertex_at (matrix_of roots) list y) (vertex_at (matrix_of roots) list x)
        (in_group y within) (in_group x inside) refl).off d none

    -- ---- the identity
    no_length : (y : ℕ) → y < length list →
        ((k z : ℕ) → k < steps.rank → partner steps.products.items k y ≡ Some z → y ≤ z) → len y ≡ 0
    no_length y inside none =
        elim (cases_eq (len y) 0) [
          | inl is ↦ is
          | inr long ↦
              let some : (k : ℕ) × (k < (matrix_of roots).rank)
              × (element_length (positive_roots_of roots)
              (times_simple (matrix_of roots) (vertex_at (matrix_of roots) list y) k) < len y) =
              group.descent (vertex_at (matrix_of roots) list y) (in_group y inside) (omega (arith, long)) in
              absurd (by some.0 some.1 some.2 (partner steps.products.items some.0 y) refl)
        ]
      where
        by : (k : ℕ) → k < (matrix_of roots).rank
            → element_length (positive_roots_of roots)
            (times_simple (matrix_of roots) (vertex_at (matrix_of roots) list y) k) < len y
            → (p : Option ℕ) → partner steps.products.items k y ≡ p → ⊥
        by k below less None e = product_none y k inside below e (shorter_vertex y k inside below less)
        by k below less (Some z) e =
            let at : (z < length list) ×
            (vertex_at (matrix_of roots) list z ≡ times_simple (matrix_of roots) (vertex_at (matrix_of roots) list y)
            k) =
            product_some y k z inside (omega (arith, below, rank_few)) e in
            contrary _ _ _ (interval.rising y z (identity_element (matrix_of roots))
            (none k z (omega (arith, below, are.rank)) e) at.0)
            (ap (element_length (positive_roots_of roots)) at.1) less
          where
            contrary : (a b c : ℕ) → a ≤ b → b ≡ c → c < a → ⊥
            contrary a b c h e l = omega arith

    pub start_is : (y : ℕ) → y < length list →
        ((k z : ℕ) → k < steps.rank → partner steps.products.items k y ≡ Some z → y ≤ z)
        → (x j : ℕ) → x < length list
        → (if x == 0 then one_at_zero j else 0) ≡ leadings_of (matrix_of roots) (positive_roots_of roots) list x y j
    unfolding leading_steps
    start_is y inside none x j within =
        ap (λ (b : Bool). if b then one_at_zero j else 0) same_test
        ∙ sym (ap (λ n. leading_steps (weyl_group (matrix_of roots) (positive_roots_of roots)) n
        (vertex_at (matrix_of roots) list y) (vertex_at (matrix_of roots) list x) j)
        (no_length y inside none))
      where
        first_length : len 0 ≡ 0
        first_length =
            element_length-product (matrix_of roots) (positive_roots_of roots) (root_system roots) []
            (vertex_at (matrix_of roots) list 0)
            (interval.bottom (identity_element (matrix_of roots)))
            ∙ length_identity (matrix_of roots) (positive_roots_of roots) (root_system roots)

        identity_at : (z : ℕ) → z < length list → len z ≡ 0 →
            vertex_at (matrix_of roots) list z ≡ identity_element (matrix_of roots)
        identity_at z here is = group.length_zero (vertex_at (matrix_of roots) list z) (in_group z here) is

        same_test : (x == 0) ≡ (len x == 0)
        same_test =
            elim (cases_eq x 0) [
              | inl at ↦ ap (λ z. z == 0) at ∙ sym (ap (λ z. z == 0) (ap len at ∙ first_length))
              | inr other ↦
                  let away : len x ≢ 0 =
                  λ is. other (one_number x 0 within (omega (arith, within))
                  (identity_at x within is ∙ sym (identity_at 0 (omega (arith, within)) first_length))) in
                  let left : (x == 0) ≡ false = grind (arith, nat_tests) in
                  let right : (len x == 0) ≡ false = grind (arith, nat_tests) in
                  left ∙ sym right
            ]
