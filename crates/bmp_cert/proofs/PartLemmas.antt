-- The part of a vertex, from its pieces.
use Rattle.std.proofs.Common.{◌≡◌, ℕ, ◌+◌, ◌*◌, ◌==◌, List, length, Ok, refl, codes, count_by}
use Rattle.bmp_linear.specs.declared.vector.Entry.{Entry}
use Rattle.bmp_linear.specs.declared.blocks.DegreeBlock.{DegreeBlock}
use Rattle.bmp_text.specs.Cursor.{Cursor}
use Rattle.bmp_text.specs.Readers.{chain, line, single}
use Rattle.bmp_cert.specs.declared.fault.CertError.{CertError}
use Rattle.bmp_cert.specs.declared.fault.CertError.TheVariants.{Text, Memory}
use Rattle.bmp_cert.specs.Answers.{Faults}
use Rattle.bmp_cert.specs.VectorGrammar.{MOST, vectors}
use Rattle.bmp_cert.specs.BlockGrammar.{block}
use Rattle.bmp_cert.specs.CertGrammar.{step_up, vertex_words, part}

module _ (version most degree x : ℕ) (c a b d : Cursor ℕ) (es : List ℕ) (m n k : ℕ) (lifts : List (List Entry))
    (first : line (codes "vertex") (vertex_words x degree) c ≡ Ok (es, a))
    (edges : single (codes "edges") 0 MOST a ≡ Ok (m, b))
    (count : n ≡ m * length es) (bound : k ≡ degree + 1) (lifted : vectors (codes "lift") most n b ≡ Ok (lifts, d))
  where
    -- all is read
    pub part_read : (blocks : List DegreeBlock) (e : Cursor ℕ) →
        chain (block version most (λ i. count_by (λ g. g == i) es)) step_up k 0 d ≡ Ok (blocks, e)
        → part version most degree x c ≡ Ok (record { degrees = es; edges = m; lifts = lifts; blocks = blocks }, e)
    unfolding part
    part_read blocks e read = rw (first, edges, ← count, lifted, ← bound, read) refl

    -- the fault of a block
    pub part_stop : (f : CertError) →
        Faults f (chain (block version most (λ i. count_by (λ g. g == i) es)) step_up k 0 d)
        → Faults f (part version most degree x c)
    unfolding part
    part_stop (Text f) read = rw (first, edges, ← count, lifted, ← bound, read) refl
    part_stop Memory read = tt
