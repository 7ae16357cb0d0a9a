-- The root system, the interval and the moment graph of a job.
--   matrix_of_job j            the job's matrix
--   by_weights l               labels in the lattice l are by the fundamental weights, else by the simple roots
--   form_of_job j              which linear form is the label of a root pair, before it is taken modulo the prime
--   IsSystemOf j roots         roots is the root system of the matrix
--   IsJobInterval j vertices   the vertices are those below the word, which is reduced, in the order of their numbers
--   IsJobGraph j g             g is the Bruhat moment graph of the vertices, with these forms modulo the prime as
--                              labels
--   IsPrepared j interval g    the same of the interval and the graph that are kept with a job
use Rattle.std.specs.Prelude.{◌≡◌, Bool, true, false, List}
use Rattle.bmp_roots.specs.RootPairs.{CartanMatrix, Vector, RootPair}
use Rattle.bmp_roots.specs.RootSystems.{matrix_of}
use Rattle.bmp_roots.specs.declared.root_system.Roots.{Roots}
use Rattle.bmp_weyl.specs.declared.elem.Elem.{Elem}
use Rattle.bmp_interval.specs.Intervals.{IsIntervalOf}
use Rattle.bmp_interval.specs.IntervalViews.{system_of, letters_of, vertices_of}
use Rattle.bmp_interval.specs.declared.interval.Interval.{Interval}
use Rattle.bmp_graph.specs.Graph.{Graph, IsGraph}
use Rattle.bmp_bruhat.specs.Labels.{form_in}
use Rattle.bmp_bruhat.specs.Edges.{IsBruhatGraph}
use Rattle.bmp_cert.specs.declared.job.Job.{Job}
use Rattle.bmp_cert.specs.declared.lattice.Lattice.{Lattice}
use Rattle.bmp_cert.specs.declared.lattice.Lattice.TheVariants.{Plain, Root, Weight}

abbrev pub matrix_of_job : Job → CartanMatrix
matrix_of_job j = record { rank = j.rank; rows = j.cartan }

abbrev pub by_weights : Lattice → Bool
by_weights Plain = false
by_weights Root = false
by_weights Weight = true

abbrev pub form_of_job : Job → RootPair → Vector
form_of_job j = form_in (matrix_of_job j) (by_weights j.lattice)

pub record IsSystemOf (j : Job) (roots : Roots) : Type 0 where
  pub matrix : matrix_of roots ≡ matrix_of_job j

pub record IsJobInterval (j : Job) (vertices : List Elem) : Type 0 where
  pub roots : Roots
  pub system : IsSystemOf j roots
  pub interval : IsIntervalOf roots j.word vertices

pub record IsJobGraph (j : Job) (g : Graph) : Type 0 where
  pub roots : Roots
  pub vertices : List Elem
  pub system : IsSystemOf j roots
  pub interval : IsIntervalOf roots j.word vertices
  pub bruhat : IsBruhatGraph roots vertices j.prime (form_of_job j) g
  pub graph : IsGraph g

pub record IsPrepared (j : Job) (interval : Interval) (g : Graph) : Type 0 where
  pub system : IsSystemOf j (system_of interval)
  pub word : letters_of interval ≡ j.word
  pub interval_is : IsIntervalOf (system_of interval) j.word (vertices_of interval)
  pub bruhat : IsBruhatGraph (system_of interval) (vertices_of interval) j.prime (form_of_job j) g
  pub graph : IsGraph g
