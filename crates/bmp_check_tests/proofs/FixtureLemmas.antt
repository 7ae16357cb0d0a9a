-- Parts of the graphs of the tests can be checked.
use Rattle.std.proofs.Common.{◌≡◌, ◌≢◌, ℕ, zero, suc, ◌+◌, ◌-◌, ◌<◌, ◌≤◌, IsTrue, List, [], ◌∷◌, length, refl, sym, ap, subst, ◌∙◌, arith}
use Rattle.std.specs.Prelude.{slice_index}
use Rattle.bmp_field.specs.Primes.{is_listed}
use Rattle.bmp_graph.specs.Graph.{Graph, vertex_count}
use Rattle.bmp_cover.specs.BradenMacPherson.{IsTopVertex}
use Rattle.bmp_cert.specs.declared.cert.Cert.{Cert}
use Rattle.bmp_cert.specs.CertGrammar.{HavePartLines}
use Rattle.bmp_cert.specs.Versions.{IsVersion}
use Rattle.bmp_check.specs.Accepted.{IsCheckableGraph, IsCheckable}
use Rattle.bmp_check.specs.BlockData.{top_vertex}
use Rattle.bmp_check_tests.specs.Fixtures.{IsLine, IsDiagonalSquare, ArePartsOf}

-- ---- the last vertex alone is the longest

abbrev LastIsLongest : List ℕ → Type 0
LastIsLongest ls = (x : ℕ) → x < length ls → x ≢ length ls - 1 → slice_index ls x < slice_index ls (length ls - 1)

above_the_line : LastIsLongest (0 ∷ 1 ∷ [])
above_the_line zero within other = omega arith
above_the_line (suc x) within other = absurd (other (omega arith))

above_the_square : LastIsLongest (0 ∷ 1 ∷ 1 ∷ 2 ∷ [])
above_the_square zero within other = omega arith
above_the_square (suc zero) within other = omega arith
above_the_square (suc (suc zero)) within other = omega arith
above_the_square (suc (suc (suc x))) within other = absurd (other (omega arith))

pub line_top : (G : Graph) → IsLine G → IsTopVertex G (top_vertex G)
line_top G is = record {
  vertex = omega (arith, ap length is.vertices);
  longest = subst LastIsLongest (sym is.vertices) above_the_line;
}

-- ---- what can be checked

pub line_on : (G : Graph) → IsLine G → IsCheckableGraph G
line_on G is =
    let count : vertex_count G ≡ 2 = ap length is.vertices in
    record {
      graph = is.graph;
      prime = subst (λ (p : ℕ). IsTrue (is_listed p)) (sym is.prime) refl;
      some_variables = omega (arith, is.rank);
      few_variables = omega (arith, is.rank);
      few_vertices = omega (arith, count);
      last_is_top = line_top G is;
    }

pub square_on : (G : Graph) → IsDiagonalSquare G → IsCheckableGraph G
square_on G is =
    let count : vertex_count G ≡ 4 = ap length is.vertices in
    record {
      graph = is.graph;
      prime = subst (λ (p : ℕ). IsTrue (is_listed p)) (sym is.prime) refl;
      some_variables = omega (arith, is.rank);
      few_variables = omega (arith, is.rank);
      few_vertices = omega (arith, count);
      last_is_top = record {
        vertex = omega (arith, count);
        longest = subst LastIsLongest (sym is.vertices) above_the_square;
      };
    }

-- the lines of parts, of an equal version and over an equal prime
pub formed_over : (G : Graph) (c : Cert) (v p : ℕ) → ArePartsOf v p c → G.prime ≡ p →
    HavePartLines v (G.prime - 1) 1 c.vertices
formed_over G c v p of prime =
    subst (λ (q : ℕ). HavePartLines v (q - 1) 1 c.vertices) (of.prime ∙ sym prime)
    (subst (λ (d : ℕ). HavePartLines v (c.job.prime - 1) d c.vertices) of.degree
    (subst (λ (u : ℕ). HavePartLines u (c.job.prime - 1) c.job.degree c.vertices) of.version of.formed.vertices))

pub line_checkable :
    (G : Graph) (c : Cert) (v : ℕ) → IsLine G → IsVersion v → ArePartsOf v 2 c →
    IsCheckable G v (record { degree = 1; parts = c.vertices })
line_checkable G c v is version of = record {
  version = version;
  on = line_on G is;
  degree = omega arith;
  formed = formed_over G c v 2 of is.prime;
}

pub square_checkable : (G : Graph) (c : Cert) → IsDiagonalSquare G → ArePartsOf 1 3 c →
    IsCheckable G 1 (record { degree = 1; parts = c.vertices })
square_checkable G c is of = record {
  version = (omega arith, omega arith);
  on = square_on G is;
  degree = omega arith;
  formed = formed_over G c 1 3 of is.prime;
}
