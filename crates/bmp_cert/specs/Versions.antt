-- The versions of certificates.
--   IsVersion v        there is the version v: 1, 2 or 3
--   IsVersionOf l v    a certificate of a job with the lattice l may have the version v
--   by_spaces v        the blocks of the version v have the evidence by whole section spaces, else that by levels
--   states_lattice v   the certificates of the version v have a line for the lattice
use Rattle.std.specs.Prelude.{◌≡◌, ◌≤◌, ◌==◌, ℕ, Bool}
use Rattle.bmp_cert.specs.declared.lattice.Lattice.{Lattice}
use Rattle.bmp_cert.specs.declared.lattice.Lattice.TheVariants.{Plain, Root, Weight}

abbrev pub IsVersion : ℕ → Type 0
IsVersion v = (1 ≤ v) × (v ≤ 3)

abbrev pub IsVersionOf : Lattice → ℕ → Type 0
IsVersionOf Plain v = (1 ≤ v) × (v ≤ 2)
IsVersionOf Root v = v ≡ 3
IsVersionOf Weight v = v ≡ 3

abbrev pub by_spaces : ℕ → Bool
by_spaces v = v == 1

abbrev pub states_lattice : ℕ → Bool
states_lattice v = v == 3
