-- The text of a certificate: what is read, how it is printed, and what has a text. The version decides on the line of
-- the lattice and on the lines of the blocks.
--   part_at version last most degree x    the part of the vertex x, whose lines depend on whether it is the last one
--   parts version most degree n      the parts of n vertices, from the vertex n - 1 down to 0
--   part_lines version most degree   the line `vertices n`, and the parts; their values are from 1 to most
--   HavePartLines version most degree ps    the parts have such lines
--   cert                             reads a whole certificate text
--   cert_text c                      the text of c
--   IsWellFormed c                   c has a text
use Rattle.std.specs.Prelude.{count_by, ◌≡◌, ◌≤◌, ◌*◌, ◌+◌, ◌-◌, ◌==◌, ℕ, List, [], ◌∷◌, ◌++◌, length, Result, codes, if◌then◌else◌}
use Rattle.std.specs.Fmt.{decimal}
use Rattle.bmp_text.specs.declared.fault.TextFault.{TextFault}
use Rattle.bmp_text.specs.Cursor.{Cursor, natural}
use Rattle.bmp_text.specs.Readers.{give, nothing, chain, counted_chain, line, single}
use Rattle.bmp_text.specs.Sequence.{◌>>=◌}
use Rattle.bmp_text.specs.Printing.{Chosen, line_text, single_text, chain_text, counted_text, ChainFits, CountedFits}
use Rattle.bmp_cert.specs.declared.cert.VertexPart.{VertexPart}
use Rattle.bmp_cert.specs.declared.cert.Cert.{Cert}
use Rattle.bmp_cert.specs.Limits.{max_version}
use Rattle.bmp_cert.specs.Versions.{IsVersionOf, states_lattice}
use Rattle.bmp_cert.specs.LatticeGrammar.{lattice_if, lattice_text}
use Rattle.bmp_cert.specs.JobGrammar.{job_lines, job_lines_text, IsWellFormedJob}
use Rattle.bmp_cert.specs.VectorGrammar.{MOST, vectors, vectors_text, AreVectors}
use Rattle.bmp_cert.specs.BlockGrammar.{block, block_text, IsBlock}

-- the next degree is no smaller; the next block is of the next degree; the next vertex is the one below
abbrev pub from_degree : ℕ → ℕ → ℕ
from_degree e low = e

abbrev pub step_up : {A : Type 0} → A → ℕ → ℕ
step_up b d = d + 1

abbrev pub step_down : {A : Type 0} → A → ℕ → ℕ
step_down v x = x - 1

-- ---- the line of a vertex: its number, and the degrees of its generators, which never fall

abbrev pub degrees : ℕ → Cursor (List ℕ) → Result (List ℕ × Cursor (List ℕ)) TextFault
degrees most l = counted_chain MOST (λ low. natural low most) from_degree 0 l

abbrev pub degrees_text : List ℕ → List (List ℕ)
degrees_text es = counted_text (λ (low : ℕ) e. decimal e ∷ []) from_degree 0 es

abbrev pub AreDegrees : ℕ → List ℕ → Type 0
AreDegrees most es = CountedFits MOST (λ low e. (low ≤ e) × (e ≤ most)) from_degree 0 es

abbrev pub vertex_words : ℕ → ℕ → Cursor (List ℕ) → Result (List ℕ × Cursor (List ℕ)) TextFault
vertex_words x most = do
  own ← natural x x
  es ← degrees most
  give es

abbrev pub vertex_text : ℕ → List ℕ → List ℕ
vertex_text x es = line_text (codes "vertex") (decimal x ∷ degrees_text es)

-- ---- the last vertex has nothing but its line

unfoldable pub top : ℕ → ℕ → Cursor ℕ → Result (VertexPart × Cursor ℕ) TextFault
top degree x = do
  es ← line (codes "vertex") (vertex_words x degree)
  give (record { degrees = es; edges = 0; lifts = []; blocks = [] })

abbrev pub top_text : ℕ → VertexPart → List ℕ
top_text x v = vertex_text x v.degrees

abbrev pub IsTop : ℕ → VertexPart → Type 0
IsTop degree v = AreDegrees degree v.degrees
    × (v ≡ record { degrees = v.degrees; edges = 0; lifts = []; blocks = [] })

-- ---- the others: edges, lifts by edge and then by generator, and a block for each degree

unfoldable pub part : ℕ → ℕ → ℕ → ℕ → Cursor ℕ → Result (VertexPart × Cursor ℕ) TextFault
part version most degree x = do
  es ← line (codes "vertex") (vertex_words x degree)
  m ← single (codes "edges") 0 MOST
  lifts ← vectors (codes "lift") most (m * length es)
  blocks ← chain (block version most (λ d. count_by (λ e. e == d) es)) step_up (degree + 1) 0
  give (record { degrees = es; edges = m; lifts = lifts; blocks = blocks })

abbrev pub part_text : ℕ → ℕ → VertexPart → List ℕ
part_text version x v = vertex_text x v.degrees ++ (single_text (codes "edges") v.edges
    ++ (vectors_text (codes "lift") v.lifts ++ chain_text (block_text version) step_up 0 v.blocks))

pub record IsPart (version most degree x : ℕ) (v : VertexPart) : Type 0 where
  pub degrees : AreDegrees degree v.degrees
  pub edges : v.edges ≤ MOST
  pub lifts : AreVectors most (v.edges * length v.degrees) v.lifts
  pub blocks : (length v.blocks ≡ degree + 1)
      × ChainFits (IsBlock version most (λ d. count_by (λ e. e == d) v.degrees)) step_up 0 v.blocks

-- ---- all vertices

abbrev pub part_at : ℕ → ℕ → ℕ → ℕ → ℕ → Cursor ℕ → Result (VertexPart × Cursor ℕ) TextFault
part_at version last most degree x = if x == last then top degree x else part version most degree x

abbrev pub part_at_text : ℕ → ℕ → ℕ → VertexPart → List ℕ
part_at_text version last x = if x == last then top_text x else part_text version x

abbrev pub IsPartAt : ℕ → ℕ → ℕ → ℕ → ℕ → VertexPart → Type 0
IsPartAt version last most degree x v = Chosen (x == last) (IsTop degree v) (IsPart version most degree x v)

abbrev pub parts : ℕ → ℕ → ℕ → ℕ → Cursor ℕ → Result (List VertexPart × Cursor ℕ) TextFault
parts version most degree n c = chain (part_at version (n - 1) most degree) step_down n (n - 1) c

abbrev pub parts_text : ℕ → ℕ → List VertexPart → List ℕ
parts_text version n vs = chain_text (part_at_text version (n - 1)) step_down (n - 1) vs

abbrev pub AreParts : ℕ → ℕ → ℕ → ℕ → List VertexPart → Type 0
AreParts version most degree n vs =
    (length vs ≡ n) × ChainFits (IsPartAt version (n - 1) most degree) step_down (n - 1) vs

-- ---- the line `vertices n`, and the parts

unfoldable pub part_lines : ℕ → ℕ → ℕ → Cursor ℕ → Result (List VertexPart × Cursor ℕ) TextFault
part_lines version most degree = do
  n ← single (codes "vertices") 1 MOST
  ps ← parts version most degree n
  give ps

abbrev pub part_lines_text : ℕ → List VertexPart → List ℕ
part_lines_text version ps = single_text (codes "vertices") (length ps) ++ parts_text version (length ps) ps

pub record HavePartLines (version most degree : ℕ) (ps : List VertexPart) : Type 0 where
  pub some : 1 ≤ length ps
  pub few : length ps ≤ MOST
  pub parts : AreParts version most degree (length ps) ps

-- ---- a certificate

unfoldable pub cert : Cursor ℕ → Result (Cert × Cursor ℕ) TextFault
cert = do
  version ← single (codes "bmp-cert") 1 max_version
  lattice ← lattice_if (states_lattice version)
  job ← job_lines lattice
  ps ← part_lines version (job.prime - 1) job.degree
  last ← line (codes "end") nothing
  give (record { version = version; job = job; vertices = ps })

abbrev pub cert_text : Cert → List ℕ
cert_text c = single_text (codes "bmp-cert") c.version ++ (lattice_text c.job.lattice
    ++ (job_lines_text c.job ++ (part_lines_text c.version c.vertices ++ line_text (codes "end") [])))

pub record IsWellFormed (c : Cert) : Type 0 where
  pub version : IsVersionOf c.job.lattice c.version
  pub printed : c.version ≤ max_version
  pub job : IsWellFormedJob c.job
  pub vertices : HavePartLines c.version (c.job.prime - 1) c.job.degree c.vertices
