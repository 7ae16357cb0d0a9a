use Rattle.std.proofs.Common.{◌≡◌, ℕ, ◌-◌, ◌≤◌, sym, ap, subst, ◌∙◌}
use Rattle.bmp_graph.specs.Graph.{Graph}
use Rattle.bmp_cert.specs.declared.job.Job.{Job}
use Rattle.bmp_cert.specs.CertGrammar.{HavePartLines}
use Rattle.bmp_cert.specs.JobGrammar.{IsWellFormedJob}
use Rattle.bmp_cert.specs.Versions.{IsVersionOf}
use Rattle.bmp_check.specs.Accepted.{IsCheckableGraph}
use Rattle.bmp_build.proofs.Accepting.{is_well_formed, prime_is, on_accepted}
use Rattle.bmp_build.proofs.KeptRules.{job_is_formed}
use Rattle.bmp_build.proofs.whole.build_with.Goals as goal

pub build_graph_with-requires-clause-on : goal.build_graph_with-requires-clause-on
build_graph_with-requires-clause-on g c = λ ks lives.
    let p = c.args.a.now.prepared in
    subst IsCheckableGraph (sym c.graph.ensures.value)
    (on_accepted p.prepared c.args.version c.args.a.now.keeps c.requires.version).0

pub build_graph_with-requires-clause-degree : goal.build_graph_with-requires-clause-degree
build_graph_with-requires-clause-degree g c = λ ks lives.
    let p = c.args.a.now.prepared in
    let same : c.from-degree.result ≡ p.job.degree =
    c.from-degree.ensures ∙ ap (λ (j : Job). j.degree) (c.in_ok-job.ensures ∙ c.job.ensures) in
    subst (λ n. n ≤ 6) (sym same)
    (on_accepted p.prepared c.args.version c.args.a.now.keeps c.requires.version).1

pub returns-clause-formed : goal.returns-clause-formed
returns-clause-formed g c =
    let p = c.args.a.now.prepared in
    let vertices = c.in_ok-vertices.vertices in
    let job : c.in_ok-job.job ≡ p.job = c.in_ok-job.ensures ∙ c.job.ensures in
    let prime : c.graph.result.now.prime ≡ c.in_ok-job.job.prime =
    ap (λ (G : Graph). G.prime) c.graph.ensures.value ∙ prime_is p.prepared ∙ ap (λ (j : Job). j.prime) (sym job) in
    is_well_formed (record { version = c.args.version; job = c.in_ok-job.job; vertices = vertices })
    (subst (λ (j : Job). IsVersionOf j.lattice c.args.version) (sym job) c.requires.version)
    (subst IsWellFormedJob (sym job) (job_is_formed p.job c.args.a.now.keeps))
    (subst (λ (n : ℕ). HavePartLines c.args.version (n - 1) c.in_ok-job.job.degree vertices) prime
    (subst (λ (n : ℕ). HavePartLines c.args.version (c.graph.result.now.prime - 1) n vertices) c.from-degree.ensures
    c.in_ok-vertices.ensures.formed))
