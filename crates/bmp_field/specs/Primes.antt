-- The primes of the fields.
--   listed_primes, is_listed p     the primes up to 61: the laws of a field are proved for each, and a field can be
--                                  made
use Rattle.std.specs.Prelude.{ℕ, Bool, ◌==◌, List, [], ◌∷◌}
use Rattle.std.specs.List.{list_any}

abbrev pub listed_primes : List ℕ
listed_primes = 2 ∷ 3 ∷ 5 ∷ 7 ∷ 11 ∷ 13 ∷ 17 ∷ 19 ∷ 23 ∷ 29 ∷ 31 ∷ 37 ∷ 41 ∷ 43 ∷ 47 ∷ 53 ∷ 59 ∷ 61 ∷ []

abbrev pub is_listed : ℕ → Bool
is_listed p = list_any (λ q. p == q) listed_primes
