use Rattle.std.proofs.Common.{ℕ, ◌<◌, pos, negsuc, slice_index_or}
use Rattle.bmp_text.specs.Numerals.{InRange}
use Rattle.bmp_cert.proofs.job_formed.are_entries.Given as goal

abbrev pub invariant-entries : goal.invariant-entries
invariant-entries l = (k : ℕ) → k < l.entry-index → InRange (negsuc 999) (pos 1000) (slice_index_or l.entries k (pos 0))
