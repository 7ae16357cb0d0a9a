-- The job lines of a text, and the text of a job: what is read, how it is printed, and what has a text.
--   job_lines lattice     reads the lines rank, row, prime, word and degree of a job with this lattice
--   job_lines_text j      the job lines of j
--   IsWellFormedJob j     j has job lines
--   job                   reads a whole job text
--   job_version l         the number on the first line of a job text
--   job_text j            the text of j
use Rattle.std.specs.Prelude.{◌≡◌, ◌≤◌, ◌*◌, ◌==◌, if◌then◌else◌, ℕ, zero, suc, ℤ, pos, negsuc, List, [], ◌∷◌, ◌++◌, length, take, drop, Result, codes, All}
use Rattle.std.specs.Fmt.{decimal, signed_decimal}
use Rattle.bmp_text.specs.declared.fault.TextFault.{TextFault}
use Rattle.bmp_text.specs.Numerals.{InRange}
use Rattle.bmp_text.specs.Cursor.{Cursor, number, natural}
use Rattle.bmp_text.specs.Readers.{onto, give, nothing, same, chain, counted_chain, line, single}
use Rattle.bmp_text.specs.Sequence.{◌>>=◌}
use Rattle.bmp_text.specs.Printing.{line_text, single_text, chain_text, counted_text}
use Rattle.bmp_cert.specs.LatticeGrammar.{has_line, lattice_if, lattice_text}
use Rattle.bmp_cert.specs.declared.job.Job.{Job}
use Rattle.bmp_cert.specs.declared.lattice.Lattice.{Lattice}

-- ---- read

-- so many entries of a matrix, each from -1,000 to 1,000
abbrev pub entries : ℕ → Cursor (List ℕ) → Result (List ℤ × Cursor (List ℕ)) TextFault
entries n l = chain (λ (s : Unit {0}). number (negsuc 999) (pos 1000)) same n tt l

abbrev pub row_lists : ℕ → Cursor ℕ → Result (List (List ℤ) × Cursor ℕ) TextFault
row_lists rank c = chain (λ (s : Unit {0}). line (codes "row") (entries rank)) same rank tt c

abbrev pub with_row : List ℤ → List ℤ → List ℤ
with_row rows row = rows ++ row

-- as many rows of as many entries, all in one list
abbrev pub rows : ℕ → Cursor ℕ → Result (List ℤ × Cursor ℕ) TextFault
rows rank c = onto with_row [] (row_lists rank c)

abbrev pub letter_list : ℕ → Cursor (List ℕ) → Result (List ℕ × Cursor (List ℕ)) TextFault
letter_list n l = chain (λ (s : Unit {0}). natural 0 255) same n tt l

abbrev pub letters : Cursor (List ℕ) → Result (List ℕ × Cursor (List ℕ)) TextFault
letters l = counted_chain 255 (λ (s : Unit {0}). natural 0 255) same tt l

unfoldable pub job_lines : Lattice → Cursor ℕ → Result (Job × Cursor ℕ) TextFault
job_lines lattice = do
  rank ← single (codes "rank") 0 16
  cartan ← rows rank
  prime ← single (codes "prime") 0 255
  word ← line (codes "word") letters
  degree ← single (codes "degree") 0 255
  give (record { rank = rank; cartan = cartan; prime = prime; word = word; degree = degree; lattice = lattice })

unfoldable pub job : Cursor ℕ → Result (Job × Cursor ℕ) TextFault
job = do
  version ← single (codes "bmp-job") 1 2
  lattice ← lattice_if (version == 2)
  job ← job_lines lattice
  last ← line (codes "end") nothing
  give job

-- ---- printed

abbrev pub row_text : List ℤ → List ℕ
row_text zs = line_text (codes "row") (chain_text (λ (s : Unit {0}) z. signed_decimal z ∷ []) same tt zs)

-- n rows of width entries
abbrev pub cut_rows : ℕ → ℕ → List ℤ → List (List ℤ)
cut_rows zero width zs = []
cut_rows (suc n) width zs = take width zs ∷ cut_rows n width (drop width zs)

abbrev pub row_lists_text : List (List ℤ) → List ℕ
row_lists_text rows = chain_text (λ (s : Unit {0}). row_text) same tt rows

abbrev pub rows_text : ℕ → List ℤ → List ℕ
rows_text rank zs = row_lists_text (cut_rows rank rank zs)

abbrev pub word_text : List ℕ → List ℕ
word_text ls = line_text (codes "word") (counted_text (λ (s : Unit {0}) n. decimal n ∷ []) same tt ls)

abbrev pub job_lines_text : Job → List ℕ
job_lines_text j = single_text (codes "rank") j.rank ++ (rows_text j.rank j.cartan
    ++ (single_text (codes "prime") j.prime ++ (word_text j.word ++ single_text (codes "degree") j.degree)))

abbrev pub job_version : Lattice → ℕ
job_version l = if has_line l then 2 else 1

abbrev pub job_text : Job → List ℕ
job_text j = single_text (codes "bmp-job") (job_version j.lattice)
    ++ (lattice_text j.lattice ++ (job_lines_text j ++ line_text (codes "end") []))

-- ---- what has a text

-- as many entries as the square of the rank, each from -1,000 to 1,000
abbrev pub AreEntries : ℕ → List ℤ → Type 0
AreEntries rank zs = (length zs ≡ rank * rank) × All (InRange (negsuc 999) (pos 1000)) zs

abbrev pub AreLetters : List ℕ → Type 0
AreLetters ls = (length ls ≤ 255) × All (λ n. n ≤ 255) ls

pub record IsWellFormedJob (j : Job) : Type 0 where
  pub rank : j.rank ≤ 16
  pub cartan : AreEntries j.rank j.cartan
  pub prime : j.prime ≤ 255
  pub word : AreLetters j.word
  pub degree : j.degree ≤ 255
