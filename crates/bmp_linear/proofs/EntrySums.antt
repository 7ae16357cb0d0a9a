-- Sums over the entries of a vector, as loops over the entries make them.
use Rattle.std.proofs.Common.{◌≡◌, ℕ, ◌+◌, ◌*◌, ◌%◌, ◌<◌, ◌≤◌, List, length, get_or, take, take_all, refl, sym, ap, ap₂, ◌∙◌, arith}
use Rattle.std.specs.List.{sum_by}
use Rattle.std.proofs.lemmas.List.Sums.{sum_by_more}
use Rattle.std.proofs.Math.Nat.{zero-mod, add-mod-mod}
use Rattle.bmp_math.specs.Sums.{sum_below}
use Rattle.bmp_math.proofs.CongruenceLemmas.{reduced_add}
use Rattle.bmp_math.proofs.SumLemmas.{sum_below_same}
use Rattle.bmp_linear.specs.declared.vector.Entry.{Entry}
use Rattle.bmp_linear.specs.SparseVectors.{IsRising, FitsBelow, number_at}
use Rattle.bmp_linear.proofs.SparseLemmas.{sum_by-number_at}

-- what the entries' values times g at their places add up to
unfoldable pub entry_sum : List Entry → (ℕ → ℕ) → ℕ
entry_sum v g = sum_by (λ e. e.value * g e.place) v

pub entry_sum_none : (p : ℕ) (v : List Entry) (g : ℕ → ℕ) → 0 ≡ entry_sum (take 0 v) g % p
unfolding entry_sum
entry_sum_none p v g = sym (zero-mod p)

-- one entry more, as a field adds its product
pub entry_sum_more : (p : ℕ) (v : List Entry) (i : ℕ) (d : Entry) (g : ℕ → ℕ) (sum factor number product total : ℕ) →
    i < length v → sum ≡ entry_sum (take i v) g % p → factor ≡ (get_or v i d).value → number ≡ g (get_or v i d).place →
    product ≡ (factor * number) % p → total ≡ (sum + product) % p → total ≡ entry_sum (take (i + 1) v) g % p
unfolding entry_sum
entry_sum_more p v i d g sum factor number product total l es ef en ep et =
    reduced_add p sum product (sum_by (λ e. e.value * g e.place) (take i v))
    ((get_or v i d).value * g (get_or v i d).place) total (sum_by (λ e. e.value * g e.place) (take (i + 1) v))
    es (ep ∙ ap₂ (λ x y. (x * y) % p) ef en) et (sum_by_more (λ (e : Entry). e.value * g e.place) v i d l)

pub entry_sum_whole : (p : ℕ) (v : List Entry) (i : ℕ) (g : ℕ → ℕ) (sum : ℕ) → length v ≤ i →
    sum ≡ entry_sum (take i v) g % p → sum ≡ sum_by (λ e. e.value * g e.place) v % p
unfolding entry_sum
entry_sum_whole p v i g sum l e = e ∙ ap (λ w. sum_by (λ e. e.value * g e.place) w % p) (take_all i v l)

-- all entries
pub entry_sum_all : (p : ℕ) (v : List Entry) (i n : ℕ) (g : ℕ → ℕ) (sum : ℕ) → length v ≤ i → IsRising v →
    FitsBelow v n → sum ≡ entry_sum (take i v) g % p → sum ≡ sum_below (λ k. number_at v k * g k) n % p
unfolding entry_sum
entry_sum_all p v i n g sum l r h e = e ∙ ap (λ w. sum_by (λ e. e.value * g e.place) w % p) (take_all i v l)
    ∙ ap (λ m. m % p) (sum_by-number_at v n g r h)

-- one entry more, where the product is added before the sum is reduced
pub entry_sum_step : (p : ℕ) (v : List Entry) (i : ℕ) (d : Entry) (g : ℕ → ℕ) (sum factor number total : ℕ) →
    i < length v → sum ≡ entry_sum (take i v) g % p → factor ≡ (get_or v i d).value → number ≡ g (get_or v i d).place →
    total ≡ (sum + factor * number) % p → total ≡ entry_sum (take (i + 1) v) g % p
entry_sum_step p v i d g sum factor number total l es ef en et =
    entry_sum_more p v i d g sum factor number ((factor * number) % p) total l es ef en refl
    (et ∙ sym (add-mod-mod sum (factor * number) p))

-- the factors of each product may change places
pub products_turned : (u v : ℕ → ℕ) (n : ℕ) → sum_below (λ j. u j * v j) n ≡ sum_below (λ j. v j * u j) n
products_turned u v n = sum_below_same (λ j. u j * v j) (λ j. v j * u j) n (λ j l. omega arith)
