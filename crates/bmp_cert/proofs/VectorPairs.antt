-- Vectors and rising places as pairs of a reader and a printed form.
use Rattle.std.proofs.Common.{ℕ, ◌+◌, ◌^◌, ◌<◌, ◌≤◌, List, [], ◌∷◌, refl, ap, arith}
use Rattle.std.specs.Fmt.{decimal}
use Rattle.bmp_cert.specs.VectorGrammar.{MOST, entry, entry_text, IsEntry, behind_place, vector, vector_text, IsVector, vectors, vectors_text, AreVectors, rising_places, rising_text, AreRising}
use Rattle.bmp_linear.specs.declared.vector.Entry.{Entry}
use Rattle.bmp_text.proofs.LinePairs.{IsAny, natural_pair, counted_pair, line_pair}
use Rattle.bmp_text.proofs.Pairs.{Pair, give_pair, after_pair, pair_as, chain_pair}
use Rattle.bmp_text.proofs.WordLemmas.{IsPlainWord}
use Rattle.bmp_text.specs.Cursor.{natural}
use Rattle.bmp_text.specs.Printing.{line_text}
use Rattle.bmp_text.specs.Readers.{line, same}

entry_pair : (most next : ℕ) → most < 2 ^ 63 → Pair IsPlainWord (entry most next) (entry_text next) (IsEntry most next)
entry_pair most next small =
    pair_as IsPlainWord (entry most next) _ (entry_text next) _ (IsEntry most next) (λ e. refl)
    (λ e h. (h.0.0, h.0.1, h.1.0.0, h.1.0.1)) (λ e h. ((h.0, h.1), ((h.2, h.3), refl)))
    (after_pair IsPlainWord (λ (e : Entry). e.place) (natural_pair next MOST (omega arith)) (λ place h0.
    after_pair IsPlainWord (λ (e : Entry). e.value) (natural_pair 1 most small) (λ value h1.
    give_pair IsPlainWord (record { place = place; value = value }))
    (λ x e f h. ap (λ (t : Entry). t.value) h))
    (λ x e f h. ap (λ (t : Entry). t.place) h.1))

pub vector_pair : (most : ℕ) → most < 2 ^ 63 → Pair IsPlainWord (vector most) vector_text (IsVector most)
vector_pair most small =
    counted_pair MOST (entry most) entry_text (IsEntry most) behind_place (omega arith)
    (λ next. entry_pair most next small) 0

pub vectors_pair : (word : List ℕ) (most n : ℕ) → IsPlainWord word → most < 2 ^ 63 →
    Pair IsAny (vectors word most n) (vectors_text word) (AreVectors most n)
vectors_pair word most n keyed small =
    chain_pair IsAny (λ (s : Unit {0}). line word (vector most)) (λ (s : Unit {0}) v. line_text word (vector_text v))
    (λ (s : Unit {0}). IsVector most) same
    (λ s. line_pair word (vector most) vector_text (IsVector most) keyed (vector_pair most small)) n tt

pub rising_pair : (n : ℕ) → Pair IsPlainWord (rising_places n) rising_text (AreRising n)
rising_pair n = chain_pair IsPlainWord (λ low. natural low MOST) (λ (low : ℕ) p. decimal p ∷ [])
    (λ low p. (low ≤ p) × (p ≤ MOST)) (λ p low. p + 1) (λ low. natural_pair low MOST (omega arith)) n 0
