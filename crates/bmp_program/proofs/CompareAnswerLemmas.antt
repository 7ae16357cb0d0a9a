-- The comparison of a certificate that is built with the table of its job, as a report of `compare`.
use Rattle.std.proofs.Common.{◌≡◌, ◌<◌, ◌≤◌, ℕ, ℤ, List, length, sym, ap, subst, ◌∙◌}
use Rattle.std.specs.Int.RustNames.{unsigned_abs}
use Rattle.bmp_roots.specs.RootSystems.{matrix_of, positive_roots_of}
use Rattle.bmp_weyl.specs.declared.elem.Elem.{Elem}
use Rattle.bmp_interval.specs.IntervalViews.{system_of, vertices_of}
use Rattle.bmp_interval.specs.declared.interval.Interval.{Interval}
use Rattle.bmp_kl.specs.Tables.{IsTable}
use Rattle.bmp_kl.specs.IntervalBars.{bars_of}
use Rattle.bmp_kl.specs.KlTables.{count_of, sum_of, coefficient_of}
use Rattle.bmp_kl.specs.declared.table.KlTable.{KlTable}
use Rattle.bmp_graph.specs.Graph.{Graph}
use Rattle.bmp_cert.specs.declared.cert.Cert.{Cert}
use Rattle.bmp_cert.specs.declared.job.Job.{Job}
use Rattle.bmp_cert.specs.Counts.{RankTable, written_by, IsRanksOf}
use Rattle.bmp_cert.specs.JobGraphs.{IsJobInterval, IsPrepared}
use Rattle.bmp_cert.specs.JobRules.{rules, KeepsAll}
use Rattle.bmp_report.specs.CompareText.{comparison_of, cert_comparison, IsCompareText}
use Rattle.bmp_report.proofs.CompareLemmas.{ranks_comparison}
use Rattle.bmp_program.specs.Reports.{table_limit, IsBuiltCert, IsBuiltComparison, ComparedReport, CompareReport}
use Rattle.bmp_program.proofs.TableLemmas.{TableFits}
use Rattle.bmp_program.specs.Runs.{Report}
use Rattle.bmp_program.specs.declared.status.Status.{Status}
use Rattle.bmp_program.specs.declared.status.Status.TheVariants.{Done, Refused, BadText, BadJob, GkmFailed, ReadFault, WriteFault, NoMemory, TooLong, TableLimit, Usage}

-- ranks of a certificate that is built are as many as the vertices of a table with the lengths of the graph
pub as_many : (j : Job) (G : Graph) (c : Cert) (r : RankTable) (table : KlTable) → IsBuiltCert j G c →
    IsRanksOf (written_by c) r → table.lengths.items ≡ G.lengths → r.vertices ≡ count_of table
as_many j G c r table built ranks lengths = ranks.vertices ∙ (built.passes.count ∙ ap length (sym lengths))

pub built_compared : (j : Job) (G : Graph) (c : Cert) (r : RankTable) (table : KlTable) (text : List ℕ)
    → IsBuiltCert j G c → IsRanksOf (written_by c) r → table.lengths.items ≡ G.lengths
    → IsCompareText (comparison_of r table) (coefficient_of table) (sum_of table) text
    → IsBuiltComparison j G (coefficient_of table) (sum_of table) text
built_compared j G c r table text built ranks lengths is = record {
  cert = c;
  built = built;
  text_is = subst (λ (levels : List ℕ).
      IsCompareText (cert_comparison c levels (coefficient_of table)) (coefficient_of table) (sum_of table) text)
      lengths (ranks_comparison c r table ranks (as_many j G c r table built ranks lengths) text is);
}

pub compared_done : (j : Job) (interval : Interval) (table : KlTable) (G : Graph) (text : List ℕ) (answer : Report)
    → IsTable (length (vertices_of interval)) (bars_of (matrix_of (system_of interval))
    (positive_roots_of (system_of interval)) (vertices_of interval)) (coefficient_of table) (sum_of table)
    → ((x : ℕ) (e : ℤ) → x < length (vertices_of interval) → unsigned_abs (coefficient_of table x e) ≤ table_limit)
    → IsBuiltComparison j G (coefficient_of table) (sum_of table) text
    → answer ≡ record { status = Done; text = text }
    → ComparedReport j (system_of interval) (vertices_of interval) answer.status answer.text
compared_done j interval table G text answer is_table within comparison is =
    subst (λ (r : Report). ComparedReport j (system_of interval) (vertices_of interval) r.status r.text) (sym is)
    (record {
      h = coefficient_of table;
      q = sum_of table;
      table = is_table;
      within = within;
      graph = G;
      comparison = comparison;
    })

-- what is answered to the vertices of an accepted job is a report of the job
pub compare_reported : (j : Job) (interval : Interval) (G : Graph) (s : Status) (text : List ℕ) → KeepsAll rules j →
    IsPrepared j interval G → ComparedReport j (system_of interval) (vertices_of interval) s text →
    CompareReport j s text
compare_reported j interval G s text kept prepared report = reported s report
  where
    of : IsJobInterval j (vertices_of interval)
    of = record { roots = system_of interval; system = prepared.system; interval = prepared.interval_is }

    reported : (s : Status) → ComparedReport j (system_of interval) (vertices_of interval) s text →
        CompareReport j s text
    reported Done is = (kept, (vertices_of interval, of, is))
    reported TableLimit is = (kept, (vertices_of interval, of, is))
    reported BadJob is = absurd is
    reported GkmFailed is = absurd is
    reported BadText is = absurd is
    reported Refused is = absurd is
    reported ReadFault is = absurd is
    reported WriteFault is = absurd is
    reported NoMemory is = absurd is
    reported TooLong is = absurd is
    reported Usage is = absurd is

-- a table that is compared keeps the limit
pub compared_fits : (j : Job) (text : List ℕ)
    → ((vertices : List Elem) × (of : IsJobInterval j vertices) × ComparedReport j of.roots vertices Done text)
    → TableFits j
compared_fits j text is = record {
  vertices = is.0;
  of = is.1;
  h = is.2.h;
  q = is.2.q;
  table = is.2.table;
  within = is.2.within;
}
