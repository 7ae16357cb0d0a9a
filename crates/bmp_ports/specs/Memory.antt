-- Sources and sinks in memory, as their callers see them.
--   Port                   the bytes left or taken, the bounds of a call, and the counts of calls and of faults
--   fails_next port        the next call fails
--   next_count n           the count after one more, which stays at the last value of 64 bits
--   after_failure port     after a call that failed
--   after_refusal port     after a call that moved nothing and is no failure
--   after_reading port n   after a call that gave n bytes
--   after_writing port piece n
--                          after a call that took n bytes of the piece
use Rattle.std.specs.Prelude.{◌==◌, ℕ, ◌+◌, ◌-◌, ◌^◌, min, Bool, List, ◌++◌, take, drop}
use Rattle.std.specs.List.{list_any}

pub record Port : Type 0 where
  -- left or taken
  pub bytes : List ℕ
  -- as many bytes as a call moves at most
  pub most : ℕ
  -- the numbers of the calls that fail, from 0
  pub fails : List ℕ
  -- so many calls there were
  pub calls : ℕ
  -- so many of them failed
  pub faults : ℕ

abbrev pub fails_next : Port → Bool
fails_next port = list_any (λ f. f == port.calls) port.fails

abbrev pub next_count : ℕ → ℕ
next_count n = min (n + 1) (2 ^ 64 - 1)

abbrev pub after_failure : Port → Port
after_failure port = record port { calls = next_count port.calls; faults = next_count port.faults }

abbrev pub after_refusal : Port → Port
after_refusal port = record port { calls = next_count port.calls }

abbrev pub after_reading : Port → ℕ → Port
after_reading port n = record port { bytes = drop n port.bytes; calls = next_count port.calls }

abbrev pub after_writing : Port → List ℕ → ℕ → Port
after_writing port piece n = record port { bytes = port.bytes ++ take n piece; calls = next_count port.calls }
