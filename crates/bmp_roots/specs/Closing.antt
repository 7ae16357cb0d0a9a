-- The list of root pairs, in the order in which it grows: the simple pairs, and then, place by place and letter by
-- letter, each result of a simple reflection that the list has not.
--   simple_pairs n             the simple pairs 0 to n - 1
--   result_at m list i k       what the simple reflection k makes of the pair at place i
--   HasResultsBefore m list i k    the results before place i and letter k are in the list
--   IsNext m list q            q is the first result that the list has not
--   IsGrown m list             the list begins with the simple pairs, and each further pair was the next result, which
--                              passed the tests
--   IsClosed m list            grown, and nothing is left to append
use Rattle.std.specs.Prelude.{◌≡◌, ℕ, zero, suc, ◌<◌, ◌⊎◌, List, [], ◌∷◌, ◌++◌, length, slice_index_or}
use Rattle.bmp_math.specs.Lists.{Member}
use Rattle.bmp_roots.specs.RootPairs.{CartanMatrix, RootPair, mirrored, simple_pair, IsSmall, HasOneSign}

abbrev pub simple_pairs : ℕ → List RootPair
simple_pairs zero = []
simple_pairs (suc n) = simple_pairs n ++ simple_pair n ∷ []

-- what the simple reflection k makes of the pair at place i
abbrev pub result_at : CartanMatrix → List RootPair → ℕ → ℕ → RootPair
result_at m list i k = mirrored m (simple_pair k) (slice_index_or list i (simple_pair 0))

-- the results before place i and letter k, by place and then by letter, are in the list
abbrev pub HasResultsBefore : CartanMatrix → List RootPair → ℕ → ℕ → Type 0
HasResultsBefore m list i k =
    (p l : ℕ) → p < length list → l < m.rank → (p < i) ⊎ ((p ≡ i) × (l < k)) → Member (result_at m list p l) list

-- q is the first result that is not in the list
pub record IsNext (m : CartanMatrix) (list : List RootPair) (q : RootPair) : Type 0 where
  pub place : ℕ
  pub letter : ℕ
  pub place_below : place < length list
  pub letter_below : letter < m.rank
  pub is : q ≡ result_at m list place letter
  pub fresh : Member q list → ⊥
  pub earlier : HasResultsBefore m list place letter

-- the list begins with the simple pairs, and each further one is the next result, which passed the tests
pub data IsGrown (m : CartanMatrix) : List RootPair → Type 0 where
  start : IsGrown m (simple_pairs m.rank)
  grown : {list : List RootPair} (q : RootPair)
      → IsGrown m list → IsNext m list q → IsSmall q → HasOneSign q → length list < 72
      → IsGrown m (list ++ q ∷ [])

-- nothing is left to append
abbrev pub IsClosed : CartanMatrix → List RootPair → Type 0
IsClosed m list = IsGrown m list × HasResultsBefore m list (length list) 0
