-- The certificate's parts as pairs of a reader and a printed form.
use Rattle.std.proofs.Common.{count_by, ◌≡◌, ℕ, zero, suc, ◌+◌, ◌-◌, ◌==◌, ◌*◌, ◌^◌, ◌<◌, ◌≤◌, true, false, List, [], ◌∷◌, length, refl, sym, ap, ◌∙◌, arith, rules, codes}
use Rattle.std.proofs.lemmas.List.{append-nil}
use Rattle.std.specs.Fmt.{decimal}
use Rattle.bmp_cert.proofs.LatticePairs.{lattice_pair}
use Rattle.bmp_cert.proofs.JobPairs.{job_lines_pair}
use Rattle.bmp_cert.proofs.VectorPairs.{vectors_pair}
use Rattle.bmp_cert.proofs.BlockPairs.{own_is, block_pair}
use Rattle.bmp_cert.specs.Limits.{max_version}
use Rattle.bmp_cert.specs.Versions.{IsVersionOf, states_lattice}
use Rattle.bmp_cert.specs.LatticeGrammar.{has_line, lattice_text}
use Rattle.bmp_cert.specs.BlockGrammar.{block, block_text, IsBlock}
use Rattle.bmp_cert.specs.CertGrammar.{from_degree, step_up, step_down, degrees, degrees_text, AreDegrees, vertex_words, vertex_text, top, top_text, IsTop, part, part_text, IsPart, part_at, part_at_text, IsPartAt, parts, parts_text, AreParts, part_lines, part_lines_text, HavePartLines, cert, cert_text, IsWellFormed}
use Rattle.bmp_cert.specs.VectorGrammar.{MOST, vectors, vectors_text, AreVectors}
use Rattle.bmp_cert.specs.declared.cert.Cert.{Cert}
use Rattle.bmp_cert.specs.declared.cert.VertexPart.{VertexPart}
use Rattle.bmp_cert.specs.declared.lattice.Lattice.{Lattice}
use Rattle.bmp_cert.specs.declared.lattice.Lattice.TheVariants.{Plain, Root, Weight}
use Rattle.bmp_text.proofs.LinePairs.{IsAny, IsFrom, natural_pair, counted_pair, line_pair, single_pair, nothing_pair}
use Rattle.bmp_text.proofs.Pairs.{Pair, give_pair, after_pair, pair_as, chain_pair_while, cond_pair}
use Rattle.bmp_text.proofs.WordLemmas.{IsPlainWord}
use Rattle.bmp_text.specs.Cursor.{natural}
use Rattle.bmp_text.specs.Printing.{line_text, chain_text, ChainFits}
use Rattle.bmp_text.specs.Readers.{chain, line, nothing}

degrees_pair : (most : ℕ) → most < 2 ^ 63 → Pair IsPlainWord (degrees most) degrees_text (AreDegrees most)
degrees_pair most small =
    counted_pair MOST (λ low. natural low most) (λ (low : ℕ) e. decimal e ∷ []) (λ low e. (low ≤ e) × (e ≤ most))
    from_degree (omega arith) (λ low. natural_pair low most small) 0

vertex_words_pair : (x most : ℕ) → x < 2 ^ 63 → most < 2 ^ 63 →
    Pair IsPlainWord (vertex_words x most) (λ es. decimal x ∷ degrees_text es) (AreDegrees most)
vertex_words_pair x most few small =
    pair_as IsPlainWord (vertex_words x most) _ (λ es. decimal x ∷ degrees_text es) _ (AreDegrees most)
    (λ es. simp append-nil) (λ es h. h.1.0) (λ es h. ((omega arith, omega arith), (h, refl)))
    (after_pair IsPlainWord (λ (es : List ℕ). x) (natural_pair x x few) (λ own h0.
    after_pair IsPlainWord (λ (es : List ℕ). es) (degrees_pair most small) (λ es h1.
    give_pair IsPlainWord es)
    (λ y es f h. h))
    (λ y es f h. own_is x y f))

vertex_pair : (x most : ℕ) → x < 2 ^ 63 → most < 2 ^ 63 →
    Pair IsAny (line (codes "vertex") (vertex_words x most)) (vertex_text x) (AreDegrees most)
vertex_pair x most few small =
    line_pair (codes "vertex") (vertex_words x most) (λ es. decimal x ∷ degrees_text es) (AreDegrees most)
    (search rules) (vertex_words_pair x most few small)

edges_is : (n : ℕ) → IsFrom 0 MOST n → n ≤ MOST
edges_is n h = h.1

module _ (version most degree : ℕ) (small : most < 2 ^ 63) (low : degree < 2 ^ 62) where
  blocks_pair : (es : List ℕ) →
      Pair IsAny (chain (block version most (λ d. count_by (λ e. e == d) es)) step_up (degree + 1) 0)
      (chain_text (block_text version) step_up 0)
      (λ bs. (length bs ≡ degree + 1) × ChainFits (IsBlock version most (λ d. count_by (λ e. e == d) es)) step_up 0 bs)
  blocks_pair es = chain_pair_while IsAny (block version most (λ d. count_by (λ e. e == d) es)) (block_text version)
      (IsBlock version most (λ d. count_by (λ e. e == d) es)) step_up (λ k d. k + d < 2 ^ 63)
      (λ k d may. block_pair version most (λ d. count_by (λ e. e == d) es) small d (omega arith))
      (λ k d b may h. omega arith) (degree + 1) 0 (omega arith)

  part_pair : (x : ℕ) → x < 2 ^ 63 → Pair IsAny (part version most degree x) (part_text version x)
      (IsPart version most degree x)
  unfolding part
  part_pair x few = pair_as IsAny (part version most degree x) _ (part_text version x) _ (IsPart version most degree x)
      (λ v. simp append-nil)
      (λ v h. record { degrees = h.0; edges = h.1.0.1; lifts = h.1.1.0; blocks = h.1.1.1.0 })
      (λ v h. (h.degrees, ((omega arith, h.edges), (h.lifts, (h.blocks, refl)))))
      (after_pair IsAny (λ (v : VertexPart). v.degrees) (vertex_pair x degree few (omega arith)) (λ es h0.
      after_pair IsAny (λ (v : VertexPart). v.edges) (single_pair (codes "edges") 0 MOST (search rules) (omega arith))
      (λ m h1.
      after_pair IsAny (λ (v : VertexPart). v.lifts)
      (vectors_pair (codes "lift") most (m * length es) (search rules) small) (λ lifts h2.
      after_pair IsAny (λ (v : VertexPart). v.blocks) (blocks_pair es) (λ blocks h3.
      give_pair IsAny (record { degrees = es; edges = m; lifts = lifts; blocks = blocks }))
      (λ y v f h. ap (λ (t : VertexPart). t.blocks) h))
      (λ y v f h. ap (λ (t : VertexPart). t.lifts) h.1))
      (λ y v f h. ap (λ (t : VertexPart). t.edges) h.1.1))
      (λ y v f h. ap (λ (t : VertexPart). t.degrees) h.1.1.1))

  top_pair : (x : ℕ) → x < 2 ^ 63 → Pair IsAny (top degree x) (top_text x) (IsTop degree)
  unfolding top
  top_pair x few = pair_as IsAny (top degree x) _ (top_text x) _ (IsTop degree) (λ v. append-nil (top_text x v))
      (λ v h. h) (λ v h. h)
      (after_pair IsAny (λ (v : VertexPart). v.degrees) (vertex_pair x degree few (omega arith)) (λ es h0.
      give_pair IsAny (record { degrees = es; edges = 0; lifts = []; blocks = [] }))
      (λ y v f h. ap (λ (t : VertexPart). t.degrees) h))

  parts_pair : (n : ℕ) → n ≤ MOST → Pair IsAny (parts version most degree n) (parts_text version n)
      (AreParts version most degree n)
  parts_pair n few =
      chain_pair_while IsAny (part_at version (n - 1) most degree) (part_at_text version (n - 1))
      (IsPartAt version (n - 1) most degree) step_down (λ k x. x < 2 ^ 63)
      (λ k x may. cond_pair IsAny (x == n - 1) (top degree x) (part version most degree x) (top_text x)
      (part_text version x) (IsTop degree) (IsPart version most degree x) (λ _. top_pair x may)
      (λ _. part_pair x may))
      (λ k x v may h. omega arith) n (n - 1) (omega arith)

pub part_lines_pair : (version most degree : ℕ) → most < 2 ^ 63 → degree < 2 ^ 62 →
    Pair IsAny (part_lines version most degree) (part_lines_text version) (HavePartLines version most degree)
unfolding part_lines
part_lines_pair version most degree small low =
    pair_as IsAny (part_lines version most degree) _ (part_lines_text version) _ (HavePartLines version most degree)
    (λ ps. simp append-nil)
    (λ ps h. record { some = h.0.0; few = h.0.1; parts = h.1.0 })
    (λ ps h. ((h.some, h.few), (h.parts, refl)))
    (after_pair IsAny (λ (ps : List VertexPart). length ps)
    (single_pair (codes "vertices") 1 MOST (search rules) (omega arith)) (λ n h0.
    after_pair IsAny (λ (ps : List VertexPart). ps) (parts_pair version most degree small low n h0.1) (λ ps h1.
    give_pair IsAny ps)
    (λ y ps f h. h))
    (λ y ps f h. h.0.0))

nothing_end : Pair IsAny (line (codes "end") nothing) (λ x. line_text (codes "end") []) (λ x. Unit {0})
nothing_end = line_pair (codes "end") nothing (λ x. []) (λ x. Unit {0}) (search rules) nothing_pair

-- ---- a certificate

-- the version that its number and the line of the lattice allow
version_of : (l : Lattice) (v : ℕ) → 1 ≤ v → v ≤ 3 → has_line l ≡ states_lattice v → IsVersionOf l v
version_of l zero low high h = absurd (omega (arith, low))
version_of Plain (suc zero) low high h = (omega arith, omega arith)
version_of Root (suc zero) low high h = absurd cc
version_of Weight (suc zero) low high h = absurd cc
version_of Plain (suc (suc zero)) low high h = (omega arith, omega arith)
version_of Root (suc (suc zero)) low high h = absurd cc
version_of Weight (suc (suc zero)) low high h = absurd cc
version_of Plain (suc (suc (suc zero))) low high h = absurd cc
version_of Root (suc (suc (suc zero))) low high h = refl
version_of Weight (suc (suc (suc zero))) low high h = refl
version_of l (suc (suc (suc (suc v)))) low high h = absurd (omega (arith, high))

at_least_one : (l : Lattice) (v : ℕ) → IsVersionOf l v → 1 ≤ v
at_least_one Plain v h = h.0
at_least_one Root v h = omega arith
at_least_one Weight v h = omega arith

states : (l : Lattice) (v : ℕ) → IsVersionOf l v → has_line l ≡ states_lattice v
states Plain zero h = refl
states Plain (suc zero) h = refl
states Plain (suc (suc zero)) h = refl
states Plain (suc (suc (suc v))) h = absurd (omega (arith, h.1))
states Root v h = sym (ap states_lattice h)
states Weight v h = sym (ap states_lattice h)

pub cert_pair : Pair IsAny cert cert_text IsWellFormed
unfolding cert
cert_pair = pair_as IsAny cert _ cert_text _ IsWellFormed (λ c. simp append-nil)
    (λ c h. record {
      version = version_of c.job.lattice c.version h.0.0 (let few = h.0.1 in omega arith) h.1.0;
      printed = h.0.1;
      job = h.1.1.0.0;
      vertices = h.1.1.1.0;
    })
    (λ c h. (
      (at_least_one c.job.lattice c.version h.version, h.printed),
      (states c.job.lattice c.version h.version, ((h.job, refl), (h.vertices, (tt, refl)))),
    ))
    (after_pair IsAny (λ (c : Cert). c.version)
    (single_pair (codes "bmp-cert") 1 max_version (search rules) (omega arith)) (λ version h0.
    after_pair IsAny (λ (c : Cert). c.job.lattice) (lattice_pair (states_lattice version)) (λ lattice h1.
    after_pair IsAny (λ (c : Cert). c.job) (job_lines_pair lattice) (λ job h2.
    after_pair IsAny (λ (c : Cert). c.vertices)
    (part_lines_pair version (job.prime - 1) job.degree (let p = h2.0.prime in omega arith) (let d = h2.0.degree in
    omega arith)) (λ ps h3.
    after_pair IsAny (λ (c : Cert). tt) nothing_end (λ last h4.
    give_pair IsAny (record { version = version; job = job; vertices = ps }))
    (λ x c f h. refl))
    (λ x c f h. ap (λ (t : Cert). t.vertices) h.1))
    (λ x c f h. ap (λ (t : Cert). t.job) h.1.1))
    (λ x c f h. h.0.1))
    (λ x c f h. ap (λ (t : Cert). t.version) h.1.1.1.1))
