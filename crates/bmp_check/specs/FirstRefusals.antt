-- The first block that is refused, of some of the blocks of shaped parts. In the order to read:
--   piece_of D workers i      the piece that the block number i belongs to: its vertex, counted from the greatest but
--                             one down, modulo the workers
--   IsOwn s workers k i       it belongs to the piece k
--   IsFirstIn s Own kept      the block that is kept is the first of the blocks `Own` that is refused, with its refusal
--   KeepsFirst s Own kept     that is so, or none is kept and none of these blocks is refused
--   earlier a b               that of two kept blocks which comes first
--   IsOfFirst s workers n i   the block number i belongs to one of the first n pieces
use Rattle.std.specs.Prelude.{◌≡◌, ◌≢◌, ℕ, ◌+◌, ◌/◌, ◌%◌, ◌<◌, nat_lt, if◌then◌else◌, Option, Some, None}
use Rattle.bmp_check.specs.declared.kept.Kept.{Kept}
use Rattle.bmp_check.specs.declared.shaped.Shaped.{Shaped}
use Rattle.bmp_check.specs.NumberedBlocks.{HasNumbered, PassesAt, IsRefusalAt}
use Rattle.bmp_check.specs.ShapedViews.{cert_in}

abbrev pub piece_of : ℕ → ℕ → ℕ → ℕ
piece_of D workers i = i / (D + 1) % workers

abbrev pub IsOwn : Shaped → ℕ → ℕ → ℕ → Type 0
IsOwn s workers k i = piece_of (cert_in s).degree workers i ≡ k

module _ (s : Shaped) (Own : ℕ → Type 0) where
  pub record IsFirstIn (kept : Kept) : Type 0 where
    pub numbered : HasNumbered s kept.block
    pub own : Own kept.block
    pub refused : IsRefusalAt s kept.block kept.refusal
    pub differ : kept.refusal.left ≢ kept.refusal.right
    pub earlier : (i : ℕ) → i < kept.block → Own i → PassesAt s i

  abbrev pub KeepsFirst : Option Kept → Type 0
  KeepsFirst None = (i : ℕ) → HasNumbered s i → Own i → PassesAt s i
  KeepsFirst (Some kept) = IsFirstIn kept

abbrev pub earlier : Option Kept → Option Kept → Option Kept
earlier None b = b
earlier (Some a) None = Some a
earlier (Some a) (Some b) = if nat_lt b.block a.block then Some b else Some a

abbrev pub IsOfFirst : Shaped → ℕ → ℕ → ℕ → Type 0
IsOfFirst s workers n i = piece_of (cert_in s).degree workers i < n
