-- What an entry of the table of samples is seen as in memory.
--   sample_view s   its numbers, matrix and word
use Rattle.bmp_report.specs.SampleJobs.{Sample as Entry}
use Rattle.bmp_report.specs.declared.sample.Sample.{Sample}

abbrev pub sample_view : Sample → Entry
sample_view s = record { rank = s.rank; rows = s.rows.now; prime = s.prime; degree = s.degree; word = s.word.now }
