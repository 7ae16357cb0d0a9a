-- The lines of jobs and certificates: none but the last is `end`.
use Rattle.std.proofs.Common.{◌≡◌, Bool, true, ℕ, ◌-◌, ◌+◌, ◌*◌, ◌==◌, count_by, length, List, refl, codes}
use Rattle.bmp_text.specs.Cursor.{natural}
use Rattle.bmp_text.specs.Readers.{give, nothing, chain, line, same}
use Rattle.bmp_cert.specs.Limits.{max_version}
use Rattle.bmp_cert.specs.Versions.{by_spaces, states_lattice}
use Rattle.bmp_cert.specs.LatticeGrammar.{lattice_of, lattice_line, lattice_if}
use Rattle.bmp_cert.specs.JobGrammar.{entries, letters, row_lists, rows, job_lines, job}
use Rattle.bmp_cert.specs.VectorGrammar.{MOST, vector, vectors, rising_places}
use Rattle.bmp_cert.specs.BlockGrammar.{line_counts, kernel_lines, cover_lines, space_block, level_block, block}
use Rattle.bmp_cert.specs.CertGrammar.{step_up, step_down, vertex_words, top, part, part_at, parts, part_lines, cert}
use Rattle.bmp_cert.specs.declared.lattice.Lattice.{Lattice}
use Rattle.bmp_cert.specs.declared.lattice.Lattice.TheVariants.{Plain}
use Rattle.bmp_cert.proofs.EndLemmas.{is_other, ReadsOthers, ReadsToEnd, line_others, after_others, after_to_end, give_others, cond_others, chain_others, end_to_end}

lattice_others : (stated : Bool) → ReadsOthers (lattice_if stated)
unfolding lattice_line
lattice_others stated = cond_others stated lattice_line (give Plain)
    (after_others _ _ (line_others (codes "lattice") (natural 0 1) refl) (λ n. give_others (lattice_of n)))
    (give_others Plain)

rows_others : (rank : ℕ) → ReadsOthers (rows rank)
rows_others rank = after_others _ _ (chain_others _ same (λ s. line_others (codes "row") (entries rank) refl) rank tt)
    (λ rs. give_others _)

job_lines_others : (l : Lattice) → ReadsOthers (job_lines l)
unfolding job_lines
job_lines_others l =
    after_others _ _ (line_others (codes "rank") (natural 0 16) refl) (λ rank.
    after_others _ _ (rows_others rank) (λ cartan.
    after_others _ _ (line_others (codes "prime") (natural 0 255) refl) (λ prime.
    after_others _ _ (line_others (codes "word") letters refl) (λ word.
    after_others _ _ (line_others (codes "degree") (natural 0 255) refl) (λ degree.
    give_others _)))))

pub job_to_end : ReadsToEnd job
unfolding job
job_to_end =
    after_to_end _ _ (line_others (codes "bmp-job") (natural 1 2) refl) (λ version.
    after_to_end _ _ (lattice_others (version == 2)) (λ lattice.
    after_to_end _ _ (job_lines_others lattice) (λ j. end_to_end j)))

vectors_others : (word : List ℕ) (most n : ℕ) → is_other word ≡ true → ReadsOthers (vectors word most n)
vectors_others word most n other = chain_others _ same (λ s. line_others word (vector most) other) n tt

kernel_others : (word : List ℕ) (most : ℕ) (pivots : List ℕ) (n : ℕ) → is_other word ≡ true →
    ReadsOthers (kernel_lines word most pivots n)
unfolding kernel_lines
kernel_others word most pivots n other =
    after_others _ _ (vectors_others word most n other) (λ basis.
    after_others _ _ (vectors_others (codes "row") most (length pivots) refl) (λ rows.
    give_others _))

cover_others : (most n t : ℕ) → ReadsOthers (cover_lines most n t)
unfolding cover_lines
cover_others most n t =
    after_others _ _ (vectors_others (codes "cover") most n refl) (λ covers.
    after_others _ _ (vectors_others (codes "source") most t refl) (λ sources.
    after_others _ _ (vectors_others (codes "dual") most t refl) (λ duals.
    give_others _)))

block_others : (version most : ℕ) (at : ℕ → ℕ) (d : ℕ) → ReadsOthers (block version most at d)
unfolding block space_block level_block
block_others version most at d =
    after_others _ _ (line_others (codes "block") (line_counts version d) refl) (λ n.
    after_others _ _ (line_others (codes "pivots") (rising_places n.pivots) refl) (λ pivots.
    cond_others (by_spaces version) _ _
    (after_others _ _ (kernel_others (codes "tuple") most pivots n.vectors refl) (λ kernel.
    after_others _ _ (cover_others most n.covers (at d)) (λ cover. give_others _)))
    (after_others _ _ (cover_others most n.covers (at d)) (λ cover.
    after_others _ _ (kernel_others (codes "basis") most pivots n.vectors refl) (λ kernel. give_others _)))))

part_others : (version last most degree x : ℕ) → ReadsOthers (part_at version last most degree x)
unfolding top part
part_others version last most degree x = cond_others (x == last) _ _
    (after_others _ _ (line_others (codes "vertex") (vertex_words x degree) refl) (λ es. give_others _))
    (after_others _ _ (line_others (codes "vertex") (vertex_words x degree) refl) (λ es.
    after_others _ _ (line_others (codes "edges") (natural 0 MOST) refl) (λ m.
    after_others _ _ (vectors_others (codes "lift") most (m * length es) refl) (λ lifts.
    after_others _ _ (chain_others _ step_up (block_others version most (λ d. count_by (λ e. e == d) es)) (degree + 1)
    0) (λ blocks.
    give_others _)))))

part_lines_others : (version most degree : ℕ) → ReadsOthers (part_lines version most degree)
unfolding part_lines
part_lines_others version most degree =
    after_others _ _ (line_others (codes "vertices") (natural 1 MOST) refl) (λ n.
    after_others _ _ (chain_others _ step_down (part_others version (n - 1) most degree) n (n - 1)) (λ ps.
    give_others _))

pub cert_to_end : ReadsToEnd cert
unfolding cert
cert_to_end =
    after_to_end _ _ (line_others (codes "bmp-cert") (natural 1 max_version) refl) (λ version.
    after_to_end _ _ (lattice_others (states_lattice version)) (λ lattice.
    after_to_end _ _ (job_lines_others lattice) (λ j.
    after_to_end _ _ (part_lines_others version (j.prime - 1) j.degree) (λ ps.
    end_to_end _))))
