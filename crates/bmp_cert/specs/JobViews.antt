-- What the results of the job rules are seen as.
--   job_of p, interval_of p, graph_of p    of a job that has a graph: the job, its interval, its graph
--   prepared_of a                          of an accepted job: the same as a job that has a graph
use Rattle.bmp_interval.specs.declared.interval.Interval.{Interval}
use Rattle.bmp_graph.specs.Graph.{Graph}
use Rattle.bmp_cert.specs.declared.job.Job.{Job}
use Rattle.bmp_cert.specs.declared.prepared.Prepared.{Prepared}
use Rattle.bmp_cert.specs.declared.prepared.Accepted.{Accepted}

abbrev pub job_of : Prepared → Job
job_of p = p.job

abbrev pub interval_of : Prepared → Interval
interval_of p = p.interval

abbrev pub graph_of : Prepared → Graph
graph_of p = p.graph

abbrev pub prepared_of : Accepted → Prepared
prepared_of a = a.prepared
