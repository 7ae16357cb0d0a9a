-- The steps of the closure over the machine's pairs.
use Rattle.std.proofs.Common.{◌≡◌, ℕ, ◌+◌, ◌<◌, arith, refl, sym, ap, ◌∙◌, subst, List, [], ◌∷◌, ◌++◌, length, get_or, set, inl, inr, ℤ, pos, zero, suc, Result, Ok, Err, OnErr, get_or-set_same, get_or-set_other}
use Rattle.std.proofs.Math.Path.{fun_ext}
use Rattle.std.proofs.lemmas.Bool.{cases_eq}
use Rattle.std.proofs.lemmas.List.{map-append, length-map}
use Rattle.bmp_math.specs.Lists.{Member}
use Rattle.bmp_math.specs.IntegerSums.{integer_unit}
use Rattle.bmp_roots.specs.RootPairs.{CartanMatrix, RootPair, IsZeroPast, IsSmall, HasOneSign, HasFiniteSystem, simple_pair}
use Rattle.bmp_roots.specs.Closing.{IsGrown, HasResultsBefore, IsNext, IsClosed, result_at, simple_pairs}
use Rattle.bmp_roots.specs.Closing.IsGrown.{start, grown}
use Rattle.bmp_roots.proofs.ClosingLemmas.{results_kept, results_held, results_next, results_none, grown_small, refused_small, refused_sign, refused_pairs, next_is_pair}
use Rattle.bmp_roots.proofs.PositiveLemmas.{pair_is_zero_past}
use Rattle.bmp_math.proofs.IntegerSumLemmas.{unit_at, unit_off}
use Rattle.bmp_math.proofs.ListLemmas.{member-last}
use Rattle.bmp_roots.specs.Pairs.{pair_of, pairs_of, coordinates, IsRefused}
use Rattle.bmp_roots.specs.declared.refusal.FiniteKind.{FiniteKind}
use Rattle.bmp_roots.specs.declared.refusal.FiniteKind.TheVariants.{Pairs, Coordinate, Sign}
use Rattle.bmp_roots.specs.declared.root_pair.Pair.{Pair}
use Rattle.bmp_roots.proofs.PairListLemmas.{found_at}

pub pairs_push : (ps : List Pair) (p : Pair) → pairs_of (ps ++ p ∷ []) ≡ pairs_of ps ++ pair_of p ∷ []
pairs_push ps p = map-append pair_of ps (p ∷ [])

pub length-pairs : (ps : List Pair) → length (pairs_of ps) ≡ length ps
length-pairs ps = length-map ps pair_of

module _ (m : CartanMatrix) where
  pub small_at : (ps : List Pair) (i : ℕ) (p : Pair) → IsGrown m (pairs_of ps) → i < length ps → p ≡ get_or ps i p →
      IsSmall (pair_of p)
  small_at ps i p h l e = grown_small m h (pair_of p) (found_at (pair_of p) ps i p l (ap pair_of e))

  pub held : (ps : List Pair) (i k : ℕ) (p : Pair) → HasResultsBefore m (pairs_of ps) i k →
      pair_of p ≡ result_at m (pairs_of ps) i k → Member (pair_of p) (pairs_of ps)
      → HasResultsBefore m (pairs_of ps) i (k + 1)
  held ps i k p before e h =
      results_held m (pairs_of ps) i k before (subst (λ (q : RootPair). Member q (pairs_of ps)) e h)

  pub before_push : (old new : List Pair) (p : Pair) (i k : ℕ) → new ≡ old ++ p ∷ [] →
      HasResultsBefore m (pairs_of old) i k → i < length old
      → pair_of p ≡ result_at m (pairs_of old) i k → HasResultsBefore m (pairs_of new) i (k + 1)
  before_push old new p i k e before l h =
      subst (λ (qs : List RootPair). HasResultsBefore m qs i (k + 1)) (sym (ap pairs_of e ∙ pairs_push old p))
      (results_kept m (pairs_of old) (pair_of p) i k (omega (arith, length-pairs old)) before
      (subst (λ (q : RootPair). Member q (pairs_of old ++ pair_of p ∷ [])) h (member-last (pair_of p) (pairs_of old))))

  pub grown_push : (old new : List Pair) (p : Pair) (i k : ℕ) → new ≡ old ++ p ∷ [] → IsGrown m (pairs_of old) →
      HasResultsBefore m (pairs_of old) i k → i < length old → k < m.rank
      → pair_of p ≡ result_at m (pairs_of old) i k → (Member (pair_of p) (pairs_of old) → ⊥) → IsSmall (pair_of p) →
      HasOneSign (pair_of p) → length old < 72 → IsGrown m (pairs_of new)
  grown_push old new p i k e before earlier l letter is fresh small one_sign room =
      let next : IsNext m (pairs_of old) (pair_of p) =
      record {
        place = i;
        letter = k;
        place_below = omega (arith, length-pairs old);
        letter_below = letter;
        is = is;
        fresh = fresh;
        earlier = earlier;
      } in
      subst (λ (qs : List RootPair). IsGrown m qs) (sym (ap pairs_of e ∙ pairs_push old p))
      (grown (pair_of p) before next small one_sign (omega (arith, length-pairs old)))

  pub grown_start : (ps : List Pair) (r : ℕ) → pairs_of ps ≡ simple_pairs r → r ≡ m.rank → IsGrown m (pairs_of ps)
  grown_start ps r e h = subst (λ (qs : List RootPair). IsGrown m qs) (sym (e ∙ ap simple_pairs h)) start

  pub row_done : (ps : List Pair) (i k : ℕ) → k ≡ m.rank → HasResultsBefore m (pairs_of ps) i k →
      HasResultsBefore m (pairs_of ps) (i + 1) 0
  row_done ps i k e h = results_next m (pairs_of ps) i (subst (λ j. HasResultsBefore m (pairs_of ps) i j) e h)

  pub nothing_done : (ps : List Pair) → HasResultsBefore m (pairs_of ps) 0 0
  nothing_done ps = results_none m (pairs_of ps)

  pub all_done : (ps : List Pair) (i : ℕ) → i ≡ length ps → IsGrown m (pairs_of ps) →
      HasResultsBefore m (pairs_of ps) i 0 → IsClosed m (pairs_of ps)
  all_done ps i e before h = (before, subst (λ j. HasResultsBefore m (pairs_of ps) j 0) (e ∙ sym (length-pairs ps)) h)

  pub refusal_is_right : (kind : FiniteKind) (q : RootPair) → IsRefused m kind q → HasFiniteSystem m → ⊥
  refusal_is_right Coordinate q (list, before, next, bad) = refused_small m list q before next bad
  refusal_is_right Sign q (list, before, next, bad) = refused_sign m list q before next bad.1
  refusal_is_right Pairs q (list, before, next, bad) = refused_pairs m list q before next bad.2

pub refused_is_zero_past : (m : CartanMatrix) (kind : FiniteKind) (q : RootPair) → IsRefused m kind q →
    IsZeroPast m.rank q
refused_is_zero_past m kind q (list, before, next, bad) = pair_is_zero_past m q (next_is_pair m q before next)

pub on_err : {A E : Type 0} {X : Type 0} (r : Result A E) → X → OnErr r X
on_err (Ok a) x = tt
on_err (Err e) x = x

zeros_at : (j : ℕ) → get_or (pos 0 ∷ pos 0 ∷ pos 0 ∷ pos 0 ∷ pos 0 ∷ pos 0 ∷ []) j (pos 0) ≡ pos 0
zeros_at zero = refl
zeros_at (suc zero) = refl
zeros_at (suc (suc zero)) = refl
zeros_at (suc (suc (suc zero))) = refl
zeros_at (suc (suc (suc (suc zero)))) = refl
zeros_at (suc (suc (suc (suc (suc zero))))) = refl
zeros_at (suc (suc (suc (suc (suc (suc j)))))) = refl

unit_is : (k : ℕ) → k < 6 → coordinates (set (pos 0 ∷ pos 0 ∷ pos 0 ∷ pos 0 ∷ pos 0 ∷ pos 0 ∷ []) k (pos 1))
    ≡ integer_unit k
unit_is k l = fun_ext (λ j.
    let zeros : List ℤ = pos 0 ∷ pos 0 ∷ pos 0 ∷ pos 0 ∷ pos 0 ∷ pos 0 ∷ [] in
    elim (cases_eq j k) [
      | inl e ↦ ap (λ i. get_or (set zeros k (pos 1)) i (pos 0)) e ∙ get_or-set_same zeros k (pos 1) (pos 0) l
          ∙ sym (ap (λ i. integer_unit k i) e ∙ unit_at k)
      | inr apart ↦ get_or-set_other zeros k j (pos 1) (pos 0) apart ∙ zeros_at j ∙ sym (unit_off k j apart)
    ])

pub simple_is : (k : ℕ) → k < 6 → let zeros : List ℤ = pos 0 ∷ pos 0 ∷ pos 0 ∷ pos 0 ∷ pos 0 ∷ pos 0 ∷ [] in
    let p : Pair = record { root = set zeros k (pos 1); coroot = set zeros k (pos 1) } in pair_of p ≡ simple_pair k
simple_is k l = ap (λ v. let q : RootPair = record { root = v; coroot = v } in q) (unit_is k l)
