-- The job lines, and the text of a job, as pairs of a reader and a printed form.
use Rattle.std.proofs.Common.{◌≡◌, ◌==◌, zero, suc, true, false, ℕ, pos, negsuc, ◌≤◌, List, [], ◌∷◌, ◌++◌, refl, sym, ap, ◌∙◌, arith, rules, codes}
use Rattle.std.proofs.lemmas.List.{append-nil}
use Rattle.std.specs.Fmt.{decimal, signed_decimal}
use Rattle.bmp_cert.specs.JobGrammar.{entries, letters, rows, job_lines, job, row_text, word_text, with_row, cut_rows, row_lists, row_lists_text, rows_text, job_lines_text, job_version, job_text, AreEntries, AreLetters, IsWellFormedJob}
use Rattle.bmp_cert.proofs.RowLemmas.{IsRow, AreRowLists, all_from_chain, chain_from_all, cut_rows_again, entries_from_rows, rows_from_entries}
use Rattle.std.proofs.lemmas.List.Elements.{All-weaker}
use Rattle.bmp_cert.specs.LatticeGrammar.{has_line, lattice_text}
use Rattle.bmp_cert.specs.declared.job.Job.{Job}
use Rattle.bmp_cert.specs.declared.lattice.Lattice.{Lattice}
use Rattle.bmp_cert.specs.declared.lattice.Lattice.TheVariants.{Plain, Root, Weight}
use Rattle.bmp_cert.proofs.LatticePairs.{lattice_pair}
use Rattle.bmp_text.proofs.LinePairs.{IsAny, IsFrom, number_pair, natural_pair, counted_pair, line_pair, single_pair, nothing_pair}
use Rattle.bmp_text.proofs.Pairs.{Pair, give_pair, after_pair, pair_as, chain_pair}
use Rattle.bmp_text.proofs.WordLemmas.{IsPlainWord}
use Rattle.bmp_text.specs.Cursor.{number, natural}
use Rattle.bmp_text.specs.Numerals.{InRange}
use Rattle.bmp_text.specs.Printing.{line_text, chain_text, counted_text, CountedFits, single_text}
use Rattle.bmp_text.specs.Readers.{fold_onto, line, nothing, same}

pub row_pair : (rank : ℕ) → Pair IsAny (line (codes "row") (entries rank)) row_text (IsRow rank)
row_pair rank = line_pair (codes "row") (entries rank) (chain_text (λ (s : Unit {0}) z. signed_decimal z ∷ []) same tt)
    (IsRow rank) (search rules)
    (chain_pair IsPlainWord (λ (s : Unit {0}). number (negsuc 999) (pos 1000))
    (λ (s : Unit {0}) z. signed_decimal z ∷ []) (λ (s : Unit {0}). InRange (negsuc 999) (pos 1000)) same
    (λ s. number_pair (negsuc 999) (pos 1000)) rank tt)

letters_pair : Pair IsAny (line (codes "word") letters) word_text
    (CountedFits 255 (λ (s : Unit {0}). IsFrom 0 255) same tt)
letters_pair = line_pair (codes "word") letters (counted_text (λ (s : Unit {0}) n. decimal n ∷ []) same tt)
    (CountedFits 255 (λ (s : Unit {0}). IsFrom 0 255) same tt) (search rules)
    (counted_pair 255 (λ (s : Unit {0}). natural 0 255) (λ (s : Unit {0}) n. decimal n ∷ [])
    (λ (s : Unit {0}). IsFrom 0 255) same (omega arith) (λ s. natural_pair 0 255 (omega arith)) tt)

pub word_pair : Pair IsAny (line (codes "word") letters) word_text AreLetters
word_pair = pair_as IsAny (line (codes "word") letters) _ word_text _ AreLetters (λ ls. refl)
    (λ ls h. (h.0, All-weaker (IsFrom 0 255) (λ n. n ≤ 255) (λ n p. p.1) ls (all_from_chain (IsFrom 0 255) ls h.1)))
    (λ ls h. (
      h.0,
      chain_from_all (IsFrom 0 255) ls
          (All-weaker (λ n. n ≤ 255) (IsFrom 0 255) (λ n p. (omega arith, p)) ls h.1),
    ))
    letters_pair

row_lists_pair : (rank : ℕ) → Pair IsAny (row_lists rank) row_lists_text (AreRowLists rank)
row_lists_pair rank =
    chain_pair IsAny (λ (s : Unit {0}). line (codes "row") (entries rank)) (λ (s : Unit {0}). row_text)
    (λ (s : Unit {0}). IsRow rank) same (λ s. row_pair rank) rank tt

pub rows_pair : (rank : ℕ) → Pair IsAny (rows rank) (rows_text rank) (AreEntries rank)
rows_pair rank = pair_as IsAny (rows rank) _ (rows_text rank) _ (AreEntries rank) (λ zs. append-nil (rows_text rank zs))
    (entries_from_rows rank) (rows_from_entries rank)
    (after_pair IsAny (cut_rows rank rank) (row_lists_pair rank) (λ rs h. give_pair IsAny (fold_onto with_row [] rs))
    (λ rs zs f h. ap (cut_rows rank rank) h
    ∙ (ap (λ (n : ℕ). cut_rows n rank (fold_onto with_row [] rs)) (sym f.0) ∙ cut_rows_again rank rs f.1)))

-- what a job's parts are, one by one
abbrev AreParts : Lattice → Job → Type 0
AreParts l j = IsFrom 0 16 j.rank ×
    (AreEntries j.rank j.cartan ×
    (IsFrom 0 255 j.prime ×
    (AreLetters j.word ×
    (IsFrom 0 255 j.degree ×
    (j ≡ record {
      rank = j.rank;
      cartan = j.cartan;
      prime = j.prime;
      word = j.word;
      degree = j.degree;
      lattice = l;
    })))))

parts_pair : (l : Lattice) →
    Pair IsAny (job_lines l)
    (λ j. single_text (codes "rank") j.rank ++
    (rows_text j.rank j.cartan ++
    (single_text (codes "prime") j.prime ++ (word_text j.word ++ (single_text (codes "degree") j.degree ++ [])))))
    (AreParts l)
unfolding job_lines
parts_pair l =
    after_pair IsAny (λ j. j.rank) (single_pair (codes "rank") 0 16 (search rules) (omega arith)) (λ rank h0.
    after_pair IsAny (λ j. j.cartan) (rows_pair rank) (λ cartan h1.
    after_pair IsAny (λ j. j.prime) (single_pair (codes "prime") 0 255 (search rules) (omega arith)) (λ prime h2.
    after_pair IsAny (λ j. j.word) word_pair (λ word h3.
    after_pair IsAny (λ j. j.degree) (single_pair (codes "degree") 0 255 (search rules) (omega arith)) (λ degree h4.
    give_pair IsAny (record { rank = rank; cartan = cartan; prime = prime; word = word; degree = degree; lattice = l }))
    (λ x j f h. ap (λ (t : Job). t.degree) h))
    (λ x j f h. ap (λ (t : Job). t.word) h.1))
    (λ x j f h. ap (λ (t : Job). t.prime) h.1.1))
    (λ x j f h. ap (λ (t : Job). t.cartan) h.1.1.1))
    (λ x j f h. ap (λ (t : Job). t.rank) h.1.1.1.1)

of_lattice : (j : Job) (l : Lattice) → j.lattice ≡ l →
    j ≡ record { rank = j.rank; cartan = j.cartan; prime = j.prime; word = j.word; degree = j.degree; lattice = l }
of_lattice j l is =
    ap (λ (k : Lattice). record {
      rank = j.rank;
      cartan = j.cartan;
      prime = j.prime;
      word = j.word;
      degree = j.degree;
      lattice = k;
    }) is

pub job_lines_pair : (l : Lattice) → Pair IsAny (job_lines l) job_lines_text (λ j. IsWellFormedJob j × (j.lattice ≡ l))
job_lines_pair l = pair_as IsAny (job_lines l) _ job_lines_text (AreParts l) (λ j. IsWellFormedJob j × (j.lattice ≡ l))
    (λ j. simp append-nil)
    (λ j h. (
      record { rank = h.0.1; cartan = h.1.0; prime = h.1.1.0.1; word = h.1.1.1.0; degree = h.1.1.1.1.0.1 },
      ap (λ (t : Job). t.lattice) h.1.1.1.1.1,
    ))
    (λ j h. (
      (omega arith, h.0.rank),
      (h.0.cartan, ((omega arith, h.0.prime), (h.0.word, ((omega arith, h.0.degree), of_lattice j l h.1)))),
    ))
    (parts_pair l)

-- ---- a job

version_is : (l : Lattice) (n : ℕ) → IsFrom 1 2 n → has_line l ≡ (n == 2) → job_version l ≡ n
version_is l zero f h = absurd (omega (arith, f.0))
version_is Plain (suc zero) f h = refl
version_is Root (suc zero) f h = absurd cc
version_is Weight (suc zero) f h = absurd cc
version_is Plain (suc (suc zero)) f h = absurd cc
version_is Root (suc (suc zero)) f h = refl
version_is Weight (suc (suc zero)) f h = refl
version_is l (suc (suc (suc n))) f h = absurd (omega (arith, f.1))

version_range : (l : Lattice) → IsFrom 1 2 (job_version l)
version_range Plain = (omega arith, omega arith)
version_range Root = (omega arith, omega arith)
version_range Weight = (omega arith, omega arith)

version_states : (l : Lattice) → has_line l ≡ (job_version l == 2)
version_states Plain = refl
version_states Root = refl
version_states Weight = refl

-- what the parts of a job's text are, one by one
abbrev AreTextParts : Job → Type 0
AreTextParts j = IsFrom 1 2 (job_version j.lattice) ×
    ((has_line j.lattice ≡ (job_version j.lattice == 2)) ×
    ((IsWellFormedJob j × (j.lattice ≡ j.lattice)) × (Unit {0} × (j ≡ j))))

job_parts : Pair IsAny job
    (λ j. single_text (codes "bmp-job") (job_version j.lattice) ++
    (lattice_text j.lattice ++ (job_lines_text j ++ (line_text (codes "end") [] ++ [])))) AreTextParts
unfolding job
job_parts =
    after_pair IsAny (λ j. job_version j.lattice) (single_pair (codes "bmp-job") 1 2 (search rules) (omega arith))
    (λ version h0.
    after_pair IsAny (λ j. j.lattice) (lattice_pair (version == 2)) (λ lattice h1.
    after_pair IsAny (λ j. j) (job_lines_pair lattice) (λ job h2.
    after_pair IsAny (λ j. tt) (line_pair (codes "end") nothing (λ x. []) (λ x. Unit {0}) (search rules) nothing_pair)
    (λ last h3.
    give_pair IsAny job)
    (λ x j f h. refl))
    (λ x j f h. h.1))
    (λ x j f h. h.0.1))
    (λ x j f h. version_is j.lattice x f h.0)

pub job_pair : Pair IsAny job job_text IsWellFormedJob
job_pair = pair_as IsAny job _ job_text AreTextParts IsWellFormedJob (λ j. simp append-nil) (λ j h. h.1.1.0.0)
    (λ j h. (version_range j.lattice, (version_states j.lattice, ((h, refl), (tt, refl))))) job_parts
