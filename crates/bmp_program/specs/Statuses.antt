-- The statuses of a run as the numbers that a process ends with.
--   status_number s   the number of the status s
use Rattle.std.specs.Prelude.{ℕ}
use Rattle.bmp_program.specs.declared.status.Status.{Status}
use Rattle.bmp_program.specs.declared.status.Status.TheVariants.{Done, Refused, BadText, BadJob, GkmFailed, ReadFault, WriteFault, NoMemory, TooLong, TableLimit, Usage}

abbrev pub status_number : Status → ℕ
status_number Done = 0
status_number Refused = 1
status_number BadText = 2
status_number BadJob = 3
status_number GkmFailed = 4
status_number ReadFault = 5
status_number WriteFault = 6
status_number NoMemory = 7
status_number TooLong = 8
status_number TableLimit = 9
status_number Usage = 64
