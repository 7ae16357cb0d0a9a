-- The certificate of an accepted job: what can be built on its graph, and when it is well formed.
use Rattle.std.proofs.Common.{◌≡◌, ℕ, ◌-◌, ◌≤◌, [], ◌∷◌, refl, arith}
use Rattle.std.proofs.Math.Logic.{∥∥₁_elim}
use native.Mathlib.Nat.{ℕ_set}
use Rattle.bmp_graph.specs.Graph.{Graph}
use Rattle.bmp_interval.specs.declared.interval.Interval.{Interval}
use Rattle.bmp_cert.specs.declared.cert.Cert.{Cert}
use Rattle.bmp_cert.specs.declared.job.Job.{Job}
use Rattle.bmp_cert.specs.declared.lattice.Lattice.{Lattice}
use Rattle.bmp_cert.specs.declared.lattice.Lattice.TheVariants.{Plain, Root, Weight}
use Rattle.bmp_cert.specs.CertGrammar.{HavePartLines, IsWellFormed}
use Rattle.bmp_cert.specs.JobGrammar.{IsWellFormedJob}
use Rattle.bmp_cert.specs.JobGraphs.{IsPrepared}
use Rattle.bmp_cert.specs.JobRules.{rules, KeepsAll}
use Rattle.bmp_cert.specs.Versions.{IsVersionOf}
use Rattle.bmp_check.specs.Accepted.{IsCheckableGraph}
use Rattle.bmp_check.proofs.AcceptedLemmas.{job_is_checkable}
use Rattle.bmp_build.specs.BuiltGraphs.{top_part}
use Rattle.bmp_build.proofs.AllLines.{top_lines}
use Rattle.bmp_build.proofs.KeptRules.{job_is_formed}

pub most_version : (l : Lattice) (v : ℕ) → IsVersionOf l v → v ≤ 3
most_version Plain v h = omega (arith, h.1)
most_version Root v h = omega (arith, h)
most_version Weight v h = omega (arith, h)

pub is_well_formed : (c : Cert) → IsVersionOf c.job.lattice c.version → IsWellFormedJob c.job →
    HavePartLines c.version (c.job.prime - 1) c.job.degree c.vertices → IsWellFormed c
is_well_formed c version job vertices = record {
  version = version;
  printed = most_version c.job.lattice c.version version;
  job = job;
  vertices = vertices;
}

module _ {j : Job} {interval : Interval} {G : Graph} (prepared : ∥ IsPrepared j interval G ∥₁) where
  pub prime_is : G.prime ≡ j.prime
  prime_is = ∥∥₁_elim prepared (ℕ_set G.prime j.prime) (λ p. p.bruhat.prime)

  -- by the certificate with the part of the greatest vertex alone
  pub on_accepted : (v : ℕ) → ∥ KeepsAll rules j ∥₁ → IsVersionOf j.lattice v →
      IsCheckableGraph G × (j.degree ≤ 6)
  on_accepted v keeps version =
      let c : Cert = record { version = v; job = j; vertices = top_part ∷ [] } in
      let lines : HavePartLines v (j.prime - 1) j.degree (top_part ∷ []) = record {
        some = omega arith;
        few = omega arith;
        parts = (refl, (top_lines j.degree, tt));
      } in
      let formed : IsWellFormed c = is_well_formed c version (job_is_formed j keeps) lines in
      let checkable = job_is_checkable c interval G formed prepared keeps in
      (checkable.on, checkable.degree)
