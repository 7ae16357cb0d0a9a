-- A first fault of a job has a line.
use Rattle.bmp_cert.specs.declared.job.Job.{Job}
use Rattle.bmp_cert.specs.declared.job_fault.JobFault.{JobFault}
use Rattle.bmp_cert.specs.declared.job_fault.JobFault.TheVariants.{Cartan, Finite, Prime, Letter, Reduced, TooMany, DegreeBound, TooLarge, ZeroLabel, Gkm}
use Rattle.bmp_cert.specs.JobRules.{IsFirstFault}
use Rattle.bmp_report.specs.FaultLines.{HasCoordinates}

pub first_fault_line : (j : Job) (f : JobFault) → IsFirstFault j f → HasCoordinates j.rank f
first_fault_line j (Cartan f) h = tt
first_fault_line j (Finite e) h = h.fails.0.0.1
first_fault_line j (Prime p) h = tt
first_fault_line j (Letter e) h = tt
first_fault_line j (Reduced n) h = tt
first_fault_line j (TooMany n) h = tt
first_fault_line j (DegreeBound d) h = tt
first_fault_line j (TooLarge n) h = tt
first_fault_line j (ZeroLabel x y) h = tt
first_fault_line j (Gkm p) h = tt
