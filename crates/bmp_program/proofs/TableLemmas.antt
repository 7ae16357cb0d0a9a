-- The table of a job is one: its coefficients don't both keep the limit and pass it. And the table of a prepared job,
-- as a report of `kl`.
use Rattle.std.proofs.Common.{◌≡◌, ◌<◌, ◌≤◌, ℕ, ℤ, List, length, sym, ap, subst, ◌∙◌, arith}
use Rattle.std.proofs.Math.Path.{fun_ext}
use Rattle.std.specs.Int.RustNames.{unsigned_abs}
use Rattle.bmp_roots.specs.RootPairs.{CartanMatrix}
use Rattle.bmp_roots.specs.PositiveRoots.{ArePositiveRoots}
use Rattle.bmp_roots.specs.RootSystems.{matrix_of, positive_roots_of}
use Rattle.bmp_roots.specs.declared.root_system.Roots.{Roots}
use Rattle.bmp_roots.proofs.RootsLemmas.{has_positive_roots}
use Rattle.bmp_weyl.specs.SimpleProducts.{identity_element, times_simple}
use Rattle.bmp_weyl.specs.declared.elem.Elem.{Elem}
use Rattle.bmp_weyl.proofs.OneLength.{one_element_length}
use Rattle.bmp_interval.specs.IntervalViews.{system_of, vertices_of}
use Rattle.bmp_interval.specs.declared.interval.Interval.{Interval}
use Rattle.bmp_interval.proofs.OneInterval.{one_interval_of}
use Rattle.bmp_hecke.specs.Laurents.{Laurent}
use Rattle.bmp_hecke.specs.Bars.{bar_of}
use Rattle.bmp_kl.specs.Tables.{Bars, IsTable, IsTableFrom}
use Rattle.bmp_kl.specs.IntervalBars.{vertex_at, bars_of}
use Rattle.bmp_kl.specs.Filled.{HasTooBig}
use Rattle.bmp_kl.proofs.TableLemmas.{table_one}
use Rattle.bmp_graph.specs.Graph.{Graph}
use Rattle.bmp_cert.specs.declared.job.Job.{Job}
use Rattle.bmp_cert.specs.JobGraphs.{IsJobInterval, IsPrepared}
use Rattle.bmp_cert.specs.JobRules.{graph_rules, KeepsAll}
use Rattle.bmp_program.specs.Reports.{table_limit, TableReport, KlReport}
use Rattle.bmp_program.specs.declared.status.Status.{Status}
use Rattle.bmp_program.specs.declared.status.Status.TheVariants.{Done, Refused, BadText, BadJob, GkmFailed, ReadFault, WriteFault, NoMemory, TooLong, TableLimit, Usage}

-- ---- the bars of a job's vertices are one

bars_by : CartanMatrix → (Elem → ℕ) → List Elem → Bars
bars_by m measure list x y =
    bar_of (record { rank = m.rank; one = identity_element m; times = times_simple m; length = measure })
    (vertex_at m list y) (vertex_at m list x)

bars_same : (a b : Roots) → matrix_of a ≡ matrix_of b → (list : List Elem) →
    bars_of (matrix_of a) (positive_roots_of a) list ≡ bars_of (matrix_of b) (positive_roots_of b) list
unfolding bars_by
bars_same a b same list =
    ap (λ (m : CartanMatrix). bars_of m (positive_roots_of a) list) same
    ∙ ap (λ (measure : Elem → ℕ). bars_by (matrix_of b) measure list)
    (fun_ext (λ e. one_element_length (matrix_of b) (positive_roots_of a) (positive_roots_of b)
    (subst (λ (m : CartanMatrix). ArePositiveRoots m (positive_roots_of a)) same (has_positive_roots a))
    (has_positive_roots b) e))

-- ---- a table that keeps the limit, and one that passes it

pub record TableFits (j : Job) : Type 0 where
  pub vertices : List Elem
  pub of : IsJobInterval j vertices
  pub h : ℕ → Laurent
  pub q : ℕ → Laurent
  pub table : IsTable (length vertices) (bars_of (matrix_of of.roots) (positive_roots_of of.roots) vertices) h q
  pub within : (x : ℕ) (e : ℤ) → x < length vertices → unsigned_abs (h x e) ≤ table_limit

pub record TablePasses (j : Job) : Type 0 where
  pub vertices : List Elem
  pub of : IsJobInterval j vertices
  pub x : ℕ
  pub first : HasTooBig (matrix_of of.roots) (positive_roots_of of.roots) vertices table_limit x

abbrev Answered : Job → Status → List ℕ → Type 0
Answered j s text = (vertices : List Elem) × (of : IsJobInterval j vertices) × TableReport of.roots vertices s text

pub table_fits : (j : Job) (text : List ℕ) → Answered j Done text → TableFits j
table_fits j text is =
    record { vertices = is.0; of = is.1; h = is.2.0; q = is.2.1.0; table = is.2.1.1; within = is.2.1.2 }

pub table_passes : (j : Job) (text : List ℕ) → Answered j TableLimit text → TablePasses j
table_passes j text is = record { vertices = is.0; of = is.1; x = is.2.0; first = is.2.1 }

from_vertex : (n : ℕ) (r : Bars) (h q : ℕ → Laurent) → IsTable n r h q → (x : ℕ) → IsTableFrom n r x h q
from_vertex n r h q table x = record {
  sums = λ y low. table.sums y (omega arith);
  greatest = λ y low. table.greatest y (omega arith);
  others = λ y low. table.others y (omega arith);
}

too_large : (roots : Roots) (vertices : List Elem) (h q : ℕ → Laurent) (x : ℕ)
    → IsTable (length vertices) (bars_of (matrix_of roots) (positive_roots_of roots) vertices) h q
    → ((x : ℕ) (e : ℤ) → x < length vertices → unsigned_abs (h x e) ≤ table_limit)
    → HasTooBig (matrix_of roots) (positive_roots_of roots) vertices table_limit x → ⊥
too_large roots vertices h q x table within first =
    let bars = bars_of (matrix_of roots) (positive_roots_of roots) vertices in
    let same : h x first.exponent ≡ first.h x first.exponent =
    (table_one (length vertices) bars x h q first.h first.q (from_vertex (length vertices) bars h q table x) first.table
    (length vertices) x (omega arith) (omega arith) first.vertex first.exponent).0 in
    let small : unsigned_abs (h x first.exponent) ≤ table_limit = within x first.exponent first.vertex in
    let more : table_limit < unsigned_abs (first.h x first.exponent) = first.more in
    absurd (omega (arith, ap unsigned_abs same, small, more))

pub fits_or_passes : (j : Job) → TableFits j → TablePasses j → ⊥
fits_or_passes j fits passes =
    let a = fits.of in let b = passes.of in
    let same : matrix_of a.roots ≡ matrix_of b.roots = a.system.matrix ∙ sym b.system.matrix in
    let list : fits.vertices ≡ passes.vertices =
    one_interval_of a.roots b.roots same j.word fits.vertices passes.vertices a.interval b.interval in
    too_large b.roots passes.vertices fits.h fits.q passes.x
    (subst (λ (vs : List Elem).
    IsTable (length vs) (bars_of (matrix_of b.roots) (positive_roots_of b.roots) vs) fits.h fits.q) list
    (subst (λ (r : Bars). IsTable (length fits.vertices) r fits.h fits.q) (bars_same a.roots b.roots same fits.vertices)
    fits.table))
    (subst (λ (vs : List Elem). (x : ℕ) (e : ℤ) → x < length vs → unsigned_abs (fits.h x e) ≤ table_limit) list
    fits.within)
    passes.first

-- ---- reports

-- what a table is answered with is a report of a job that is prepared
pub table_reported : (j : Job) (interval : Interval) (g : Graph) (s : Status) (text : List ℕ) → KeepsAll graph_rules j →
    IsPrepared j interval g → TableReport (system_of interval) (vertices_of interval) s text → KlReport j s text
table_reported j interval g s text kept prepared report = reported s report
  where
    of : IsJobInterval j (vertices_of interval)
    of = record { roots = system_of interval; system = prepared.system; interval = prepared.interval_is }

    reported : (s : Status) → TableReport (system_of interval) (vertices_of interval) s text → KlReport j s text
    reported Done is = (kept, (vertices_of interval, of, is))
    reported TableLimit is = (kept, (vertices_of interval, of, is))
    reported BadJob is = absurd is
    reported GkmFailed is = absurd is
    reported BadText is = absurd is
    reported Refused is = absurd is
    reported ReadFault is = absurd is
    reported WriteFault is = absurd is
    reported NoMemory is = absurd is
    reported TooLong is = absurd is
    reported Usage is = absurd is
