-- The block of one degree: what is read, how it is printed, and what has a text.
--   line_counts version d         the words of the first line: the degree d, and how many lines of each kind follow
--   kernel_lines word most pivots n
--                                 n vectors of the kernel, and a row for each pivot
--   cover_lines most n t          n covers, and for each of t generators a source and a dual form
--   space_block, level_block      what follows the pivots, with the evidence by whole section spaces, and with that by
--                                 levels: the same lines in two orders
--   block version most at d       the block of degree d, its values from 1 to most; at d generators have degree d
--   block_text version d b        its lines
--   IsBlock version most at d b   it has lines
use Rattle.std.specs.Prelude.{◌≡◌, ◌≤◌, ◌==◌, if◌then◌else◌, ℕ, List, [], ◌∷◌, ◌++◌, length, Result, codes}
use Rattle.std.specs.Fmt.{decimal}
use Rattle.bmp_text.specs.declared.fault.TextFault.{TextFault}
use Rattle.bmp_text.specs.Cursor.{Cursor, natural}
use Rattle.bmp_text.specs.Readers.{give, line}
use Rattle.bmp_text.specs.Sequence.{◌>>=◌}
use Rattle.bmp_text.specs.Printing.{line_text}
use Rattle.bmp_linear.specs.declared.blocks.DegreeBlock.{DegreeBlock}
use Rattle.bmp_linear.specs.declared.evidence.CoverEvidence.{CoverEvidence}
use Rattle.bmp_linear.specs.declared.evidence.KernelEvidence.{KernelEvidence}
use Rattle.bmp_cert.specs.Versions.{by_spaces}
use Rattle.bmp_cert.specs.VectorGrammar.{MOST, vectors, vectors_text, AreVectors, rising_places, rising_text, AreRising}
use Rattle.bmp_cert.specs.declared.line_counts.LineCounts.{LineCounts}

-- ---- the first line

-- by whole section spaces there are as many covers as vectors
abbrev pub space_counts : ℕ → Cursor (List ℕ) → Result (LineCounts × Cursor (List ℕ)) TextFault
space_counts d = do
  own ← natural d d
  pivots ← natural 0 MOST
  tuples ← natural 0 MOST
  give (record { pivots = pivots; vectors = tuples; covers = tuples })

abbrev pub level_counts : ℕ → Cursor (List ℕ) → Result (LineCounts × Cursor (List ℕ)) TextFault
level_counts d = do
  own ← natural d d
  members ← natural 0 MOST
  pivots ← natural 0 MOST
  vectors ← natural 0 MOST
  give (record { pivots = pivots; vectors = vectors; covers = members })

abbrev pub line_counts : ℕ → ℕ → Cursor (List ℕ) → Result (LineCounts × Cursor (List ℕ)) TextFault
line_counts version d = if by_spaces version then space_counts d else level_counts d

abbrev pub space_counts_text : ℕ → LineCounts → List (List ℕ)
space_counts_text d n = decimal d ∷ decimal n.pivots ∷ decimal n.vectors ∷ []

abbrev pub level_counts_text : ℕ → LineCounts → List (List ℕ)
level_counts_text d n = decimal d ∷ decimal n.covers ∷ decimal n.pivots ∷ decimal n.vectors ∷ []

abbrev pub line_counts_text : ℕ → ℕ → LineCounts → List (List ℕ)
line_counts_text version d = if by_spaces version then space_counts_text d else level_counts_text d

-- ---- the lines of both orders

unfoldable pub kernel_lines : List ℕ → ℕ → List ℕ → ℕ → Cursor ℕ → Result (KernelEvidence × Cursor ℕ) TextFault
kernel_lines word most pivots n = do
  basis ← vectors word most n
  rows ← vectors (codes "row") most (length pivots)
  give (record { pivots = pivots; basis = basis; rows = rows })

unfoldable pub cover_lines : ℕ → ℕ → ℕ → Cursor ℕ → Result (CoverEvidence × Cursor ℕ) TextFault
cover_lines most n t = do
  covers ← vectors (codes "cover") most n
  sources ← vectors (codes "source") most t
  duals ← vectors (codes "dual") most t
  give (record { covers = covers; sources = sources; duals = duals })

abbrev pub kernel_text : List ℕ → KernelEvidence → List ℕ
kernel_text word k = vectors_text word k.basis ++ vectors_text (codes "row") k.rows

abbrev pub cover_text : CoverEvidence → List ℕ
cover_text e = vectors_text (codes "cover") e.covers
    ++ (vectors_text (codes "source") e.sources ++ vectors_text (codes "dual") e.duals)

-- ---- the two orders

unfoldable pub space_block : ℕ → ℕ → LineCounts → List ℕ → Cursor ℕ → Result (DegreeBlock × Cursor ℕ) TextFault
space_block most t n pivots = do
  kernel ← kernel_lines (codes "tuple") most pivots n.vectors
  cover ← cover_lines most n.covers t
  give (record { kernel = kernel; cover = cover })

unfoldable pub level_block : ℕ → ℕ → LineCounts → List ℕ → Cursor ℕ → Result (DegreeBlock × Cursor ℕ) TextFault
level_block most t n pivots = do
  cover ← cover_lines most n.covers t
  kernel ← kernel_lines (codes "basis") most pivots n.vectors
  give (record { kernel = kernel; cover = cover })

unfoldable pub block : ℕ → ℕ → (ℕ → ℕ) → ℕ → Cursor ℕ → Result (DegreeBlock × Cursor ℕ) TextFault
block version most at d = do
  n ← line (codes "block") (line_counts version d)
  pivots ← line (codes "pivots") (rising_places n.pivots)
  if by_spaces version then space_block most (at d) n pivots else level_block most (at d) n pivots

abbrev pub counts_of : DegreeBlock → LineCounts
counts_of b = record {
  pivots = length b.kernel.pivots;
  vectors = length b.kernel.basis;
  covers = length b.cover.covers;
}

abbrev pub space_block_text : DegreeBlock → List ℕ
space_block_text b = kernel_text (codes "tuple") b.kernel ++ cover_text b.cover

abbrev pub level_block_text : DegreeBlock → List ℕ
level_block_text b = cover_text b.cover ++ kernel_text (codes "basis") b.kernel

abbrev pub evidence_text : ℕ → DegreeBlock → List ℕ
evidence_text version = if by_spaces version then space_block_text else level_block_text

abbrev pub block_text : ℕ → ℕ → DegreeBlock → List ℕ
block_text version d b = line_text (codes "block") (line_counts_text version d (counts_of b))
    ++ (line_text (codes "pivots") (rising_text b.kernel.pivots) ++ evidence_text version b)

pub record IsBlock (version most : ℕ) (at : ℕ → ℕ) (d : ℕ) (b : DegreeBlock) : Type 0 where
  pub few_pivots : length b.kernel.pivots ≤ MOST
  pub few_vectors : length b.kernel.basis ≤ MOST
  pub few_covers : length b.cover.covers ≤ MOST
  -- by whole section spaces there is a cover for each vector
  pub as_many : version ≡ 1 → length b.cover.covers ≡ length b.kernel.basis
  pub pivots : AreRising (length b.kernel.pivots) b.kernel.pivots
  pub basis : AreVectors most (length b.kernel.basis) b.kernel.basis
  pub rows : AreVectors most (length b.kernel.pivots) b.kernel.rows
  pub covers : AreVectors most (length b.cover.covers) b.cover.covers
  pub sources : AreVectors most (at d) b.cover.sources
  pub duals : AreVectors most (at d) b.cover.duals
