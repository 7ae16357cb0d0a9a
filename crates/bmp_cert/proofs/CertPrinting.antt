-- Printing a certificate's parts: what is printed so far, and what is still to come, are all; and what the lines
-- of a vector, of pivots and of a vertex are made of.
use Rattle.std.proofs.Common.{◌≡◌, ℕ, ◌+◌, ◌<◌, ◌≤◌, List, [], ◌∷◌, ◌++◌, length, get_or, drop, sym, ap, ◌∙◌, append_assoc, codes, add-one, drop-cons}
use Rattle.std.proofs.lemmas.List.{append-nil, drop_all}
use Rattle.std.specs.Fmt.{decimal}
use Rattle.bmp_linear.specs.declared.vector.Entry.{Entry}
use Rattle.bmp_text.specs.Readers.{same}
use Rattle.bmp_text.specs.Printing.{spaced_words, line_text, chain_text}
use Rattle.bmp_text.proofs.PrintingLoops.{stateless}
use Rattle.bmp_cert.specs.VectorGrammar.{entry_text, behind_place, vector_text, rising_text}
use Rattle.bmp_cert.specs.CertGrammar.{vertex_text, from_degree}

abbrev pub entries_text : List Entry → List ℕ
entries_text es = spaced_words (chain_text (λ (s : Unit {0}). entry_text 0) same tt es)

pub entries_on : (out all : List ℕ) (es : List Entry) (i : ℕ) (d : Entry) → i < length es →
    out ++ entries_text (drop i es) ≡ all
    → ((out ++ (32 ∷ decimal (get_or es i d).place)) ++ (32 ∷ decimal (get_or es i d).value)) ++ entries_text
    (drop (i + 1) es) ≡ all
entries_on out all es i d lt so_far =
    let e = get_or es i d in
    let rest = entries_text (drop (i + 1) es) in
    let back : drop i es ≡ e ∷ drop (i + 1) es = rw add-one (drop-cons es i d lt) in
    append_assoc (out ++ (32 ∷ decimal e.place)) (32 ∷ decimal e.value) rest
    ∙ (append_assoc out (32 ∷ decimal e.place) ((32 ∷ decimal e.value) ++ rest)
    ∙ (ap (λ t. out ++ entries_text t) (sym back) ∙ so_far))

pub entries_end : (out all : List ℕ) (es : List Entry) (i : ℕ) → length es ≤ i → out ++ entries_text (drop i es) ≡ all →
    out ≡ all
entries_end out all es i le so_far =
    sym (append-nil out) ∙ (ap (λ t. out ++ entries_text t) (sym (drop_all i es le)) ∙ so_far)

pub vector_printed : (out word : List ℕ) (es : List Entry) →
    (((out ++ word) ++ (32 ∷ decimal (length es))) ++ entries_text es) ++ (10 ∷ [])
    ≡ out ++ line_text word (vector_text es)
vector_printed out word es = rw (stateless (entry_text 0) behind_place 0 es) (simp append_assoc)

pub pivots_printed : (out : List ℕ) (ps : List ℕ) →
    ((out ++ codes "pivots") ++ spaced_words (chain_text (λ (s : Unit {0}) n. decimal n ∷ []) same tt ps)) ++ (10 ∷ [])
    ≡ out ++ line_text (codes "pivots") (rising_text ps)
pivots_printed out ps = rw (stateless (λ n. decimal n ∷ []) (λ p low. p + 1) 0 ps) (simp append_assoc)

pub degrees_printed : (out : List ℕ) (n : ℕ) (es : List ℕ) →
    ((((out ++ codes "vertex") ++ (32 ∷ decimal n)) ++ (32 ∷ decimal (length es))) ++ spaced_words
    (chain_text (λ (s : Unit {0}) n. decimal n ∷ []) same tt es)) ++ (10 ∷ []) ≡ out ++ vertex_text n es
degrees_printed out n es = rw (stateless (λ n. decimal n ∷ []) from_degree 0 es) (simp append_assoc)
