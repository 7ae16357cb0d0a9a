use Rattle.std.proofs.Common.{◌≡◌, ℕ, ◌-◌, ◌≤◌, sym, subst, arith}
use Rattle.bmp_cert.specs.CertGrammar.{HavePartLines}
use Rattle.bmp_check.specs.Verdicts.{Passes}
use Rattle.bmp_build.proofs.AllPassing.{built_parts_pass}
use Rattle.bmp_build.proofs.WholePassing.{whole_parts_pass}
use Rattle.bmp_build.proofs.whole.build_graph_with.Goals as goal

pub returns-then-version-eq1-clause-formed : goal.returns-then-version-eq1-clause-formed
returns-then-version-eq1-clause-formed g c =
    let first : c.args.version ≡ 1 = omega (arith, c.if-version-eq1.true) in
    subst (λ n. HavePartLines n (c.args.graph.now.prime - 1) c.args.degree c.in_ok-spaces.spaces) (sym first)
    (whole_parts_pass c.args.graph.now (record { degree = c.args.degree; parts = c.in_ok-spaces.spaces })
    c.requires.on c.requires.degree c.in_ok-spaces.ensures).0

pub returns-then-version-eq1-clause-passes : goal.returns-then-version-eq1-clause-passes
returns-then-version-eq1-clause-passes g c =
    let first : c.args.version ≡ 1 = omega (arith, c.if-version-eq1.true) in
    subst (λ n. Passes c.args.graph.now n (record { degree = c.args.degree; parts = c.in_ok-spaces.spaces }))
    (sym first)
    (whole_parts_pass c.args.graph.now (record { degree = c.args.degree; parts = c.in_ok-spaces.spaces })
    c.requires.on c.requires.degree c.in_ok-spaces.ensures).1

pub returns-clause-formed : goal.returns-clause-formed
returns-clause-formed g c =
    let later : (2 ≤ c.args.version) × (c.args.version ≤ 3) =
    (omega (arith, c.if-version-eq1.false, c.requires.version.0), c.requires.version.1) in
    (built_parts_pass c.args.graph.now c.args.version
    (record { degree = c.args.degree; parts = c.in_ok-parts.parts }) c.requires.on c.requires.degree later
    c.in_ok-parts.ensures).0

pub returns-clause-passes : goal.returns-clause-passes
returns-clause-passes g c =
    let later : (2 ≤ c.args.version) × (c.args.version ≤ 3) =
    (omega (arith, c.if-version-eq1.false, c.requires.version.0), c.requires.version.1) in
    (built_parts_pass c.args.graph.now c.args.version
    (record { degree = c.args.degree; parts = c.in_ok-parts.parts }) c.requires.on c.requires.degree later
    c.in_ok-parts.ensures).1

pub returns-then-prime-eq2-clause-formed : goal.returns-then-prime-eq2-clause-formed
returns-then-prime-eq2-clause-formed g c =
    let later : (2 ≤ c.args.version) × (c.args.version ≤ 3) =
    (omega (arith, c.if-version-eq1.false, c.requires.version.0), c.requires.version.1) in
    (built_parts_pass c.args.graph.now c.args.version
    (record { degree = c.args.degree; parts = c.in_ok-parts_of_bits.parts_of_bits }) c.requires.on c.requires.degree
    later c.in_ok-parts_of_bits.ensures).0

pub returns-then-prime-eq2-clause-passes : goal.returns-then-prime-eq2-clause-passes
returns-then-prime-eq2-clause-passes g c =
    let later : (2 ≤ c.args.version) × (c.args.version ≤ 3) =
    (omega (arith, c.if-version-eq1.false, c.requires.version.0), c.requires.version.1) in
    (built_parts_pass c.args.graph.now c.args.version
    (record { degree = c.args.degree; parts = c.in_ok-parts_of_bits.parts_of_bits }) c.requires.on c.requires.degree
    later c.in_ok-parts_of_bits.ensures).1
