-- A reader or a writer of the standard library under a port.
--   Device   what it tells of its bytes, and how often the port has failed
use Rattle.std.specs.Prelude.{ℕ, List, Option}

pub record Device : Type 0 where
  -- those that a reader has left or a writer holds, where they are known
  pub bytes : Option (List ℕ)
  pub faults : ℕ
