-- Where the reading of a text may come to: always to the start of a line, or to the end of the text.
--   IsLaterLine c d         d stands where c does, or behind one or more of the lines that come next
--   PassesLines before after    from wherever `before` comes later, `after` does
use Rattle.std.specs.Prelude.{◌≡◌, ℕ, List, Ok}
use Rattle.bmp_text.specs.Cursor.{Cursor, next_line}

pub data IsLaterLine (c : Cursor ℕ) : Cursor ℕ → Type 0 where
  same : IsLaterLine c c
  behind : {d e : Cursor ℕ} (l : Cursor (List ℕ)) → IsLaterLine c d → next_line d ≡ Ok (l, e) → IsLaterLine c e

abbrev pub PassesLines : Cursor ℕ → Cursor ℕ → Type 0
PassesLines before after = (c : Cursor ℕ) → IsLaterLine c before → IsLaterLine c after
