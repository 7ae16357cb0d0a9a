-- The lines of faults.
--   text_fault_line f         `text line N kind K`
--   job_fault_line rank f     `job cartan diagonal I`, `job prime P` and so on, and `gkm vertex V edges A B`; the
--                             rank is the number of coordinates of a root
use Rattle.std.specs.Prelude.{◌≤◌, ℕ, ℤ, List, [], ◌∷◌, ◌++◌, take, codes}
use Rattle.std.specs.Fmt.{decimal, signed_decimal}
use Rattle.bmp_text.specs.declared.fault.TextFault.{TextFault}
use Rattle.bmp_text.specs.Faults.{kind_name}
use Rattle.bmp_text.specs.Printing.{spaced_words, chain_text}
use Rattle.bmp_text.specs.Readers.{same}
use Rattle.bmp_roots.specs.declared.cartan_matrix.CartanFault.{CartanFault}
use Rattle.bmp_roots.specs.declared.cartan_matrix.CartanFault.TheVariants.{BadRank, BadDiagonal, BadOffDiagonal, UnpairedZero}
use Rattle.bmp_roots.specs.declared.refusal.FiniteKind.{FiniteKind}
use Rattle.bmp_roots.specs.declared.refusal.FiniteKind.TheVariants.{Pairs, Coordinate, Sign}
use Rattle.bmp_roots.specs.declared.refusal.NotFinite.{NotFinite}
use Rattle.bmp_graph.specs.declared.fault.GkmPair.{GkmPair}
use Rattle.bmp_cert.specs.declared.job_fault.JobFault.{JobFault}
use Rattle.bmp_cert.specs.declared.job_fault.JobFault.TheVariants.{Cartan, Finite, Prime, Letter, Reduced, TooMany, DegreeBound, TooLarge, ZeroLabel, Gkm}

abbrev pub text_fault_line : TextFault → List ℕ
text_fault_line f = codes "text line" ++ ((32 ∷ decimal f.line) ++ (codes " kind " ++ (kind_name f.kind ++ (10 ∷ []))))

abbrev pub cartan_text : CartanFault → List ℕ
cartan_text BadRank = codes "job cartan rank"
cartan_text (BadDiagonal i) = codes "job cartan diagonal" ++ (32 ∷ decimal i)
cartan_text (BadOffDiagonal i j) = codes "job cartan off-diagonal" ++ ((32 ∷ decimal i) ++ (32 ∷ decimal j))
cartan_text (UnpairedZero i j) = codes "job cartan unpaired-zero" ++ ((32 ∷ decimal i) ++ (32 ∷ decimal j))

abbrev pub limit_name : FiniteKind → List ℕ
limit_name Pairs = codes "pairs"
limit_name Coordinate = codes "coordinate"
limit_name Sign = codes "sign"

-- the coordinates of a root, each behind a space
abbrev pub coordinates_text : List ℤ → List ℕ
coordinates_text zs = spaced_words (chain_text (λ (s : Unit {0}) z. signed_decimal z ∷ []) same tt zs)

abbrev pub finite_text : ℕ → NotFinite → List ℕ
finite_text rank e = codes "job finite " ++ (limit_name e.kind ++ coordinates_text (take rank e.root))

-- a name and a number
abbrev pub numbered_text : List ℕ → ℕ → List ℕ
numbered_text name n = name ++ (32 ∷ decimal n)

abbrev pub pair_text : GkmPair → List ℕ
pair_text p = numbered_text (codes "gkm vertex") p.vertex ++
    (numbered_text (codes " edges") p.first ++ (32 ∷ decimal p.second))

abbrev pub fault_text : ℕ → JobFault → List ℕ
fault_text rank (Cartan f) = cartan_text f
fault_text rank (Finite e) = finite_text rank e
fault_text rank (Prime p) = numbered_text (codes "job prime") p
fault_text rank (Letter e) = numbered_text (codes "job letter") e.place
fault_text rank (Reduced n) = numbered_text (codes "job reduced") n
fault_text rank (TooMany n) = numbered_text (codes "job vertices") n
fault_text rank (DegreeBound d) = numbered_text (codes "job degree") d
fault_text rank (TooLarge n) = numbered_text (codes "job size") n
fault_text rank (ZeroLabel x y) = numbered_text (codes "job label") x ++ (32 ∷ decimal y)
fault_text rank (Gkm p) = pair_text p

abbrev pub job_fault_line : ℕ → JobFault → List ℕ
job_fault_line rank f = fault_text rank f ++ (10 ∷ [])

-- a root has at most six coordinates
abbrev pub HasCoordinates : ℕ → JobFault → Type 0
HasCoordinates rank (Finite e) = rank ≤ 6
HasCoordinates rank f = Unit {0}
