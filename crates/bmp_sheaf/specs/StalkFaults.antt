-- The rules of a stalk that is added at the vertex x, in the order in which they are tried. In the order to read:
--   NeverFalls degrees i             degree i is no less than the one before it
--   lift_room s x degrees i          how many coordinates the lift number i may have: those of its generator's degree,
--                                    at its edge's upper end
--   LiftFits s x degrees lifts i     the lift number i fits
--   IsStalk s x degrees lifts        all rules hold
--   IsFirst P n i                    i is the first number below n without P
--   BreaksFirst s x degrees lifts f  f is the first rule that fails, and where; want of memory says nothing
use Rattle.std.specs.Prelude.{◌≡◌, ℕ, ◌+◌, ◌*◌, ◌/◌, ◌%◌, ◌<◌, ◌≤◌, ◌⊎◌, List, [], length, slice_index, slice_index_or}
use Rattle.bmp_linear.specs.declared.vector.Entry.{Entry}
use Rattle.bmp_linear.specs.SparseVectors.{FitsBelow}
use Rattle.bmp_graph.specs.Graph.{upper}
use Rattle.bmp_sheaf.specs.Coordinates.{stalk_count}
use Rattle.bmp_sheaf.specs.Written.{first_edge, up_count}
use Rattle.bmp_sheaf.specs.States.{SheafState, stalk_of}
use Rattle.bmp_sheaf.specs.declared.fault.SheafFault.{SheafFault}
use Rattle.bmp_sheaf.specs.declared.fault.SheafFault.TheVariants.{DegreeOrder, DegreeOverBound, LiftShape, Memory}

abbrev pub NeverFalls : List ℕ → ℕ → Type 0
NeverFalls degrees i = (k : ℕ) → k + 1 ≡ i → slice_index degrees k ≤ slice_index degrees i

abbrev pub WithinBound : {F : Type 0} → SheafState F → List ℕ → ℕ → Type 0
WithinBound s degrees i = slice_index degrees i ≤ s.degree

-- lifts stand by edge and then by generator
abbrev pub lift_room : {F : Type 0} → SheafState F → ℕ → List ℕ → ℕ → ℕ
lift_room s x degrees i =
    stalk_count s.graph.rank (stalk_of s (upper s.graph (first_edge s.graph x + i / length degrees))).degrees
    (slice_index degrees (i % length degrees))

abbrev pub LiftFits : {F : Type 0} → SheafState F → ℕ → List ℕ → List (List Entry) → ℕ → Type 0
LiftFits s x degrees lifts i = FitsBelow (slice_index_or lifts i []) (lift_room s x degrees i)

abbrev pub HasLifts : {F : Type 0} → SheafState F → ℕ → List ℕ → List (List Entry) → Type 0
HasLifts s x degrees lifts = length lifts ≡ up_count s.graph x * length degrees

pub record IsStalk {F : Type 0} (s : SheafState F) (x : ℕ) (degrees : List ℕ) (lifts : List (List Entry)) : Type 0 where
  pub rising : (i : ℕ) → i < length degrees → NeverFalls degrees i
  pub bound : (i : ℕ) → i < length degrees → WithinBound s degrees i
  pub counted : HasLifts s x degrees lifts
  pub fit : (i : ℕ) → i < length lifts → LiftFits s x degrees lifts i

pub record IsFirst (P : ℕ → Type 0) (n i : ℕ) : Type 0 where
  pub below : i < n
  pub broken : P i → ⊥
  pub earlier : (k : ℕ) → k < i → P k

abbrev pub BreaksFirst : {F : Type 0} → SheafState F → ℕ → List ℕ → List (List Entry) → SheafFault → Type 0
BreaksFirst s x degrees lifts (DegreeOrder i) = IsFirst (NeverFalls degrees) (length degrees) i
BreaksFirst s x degrees lifts (DegreeOverBound i) =
    ((k : ℕ) → k < length degrees → NeverFalls degrees k) × IsFirst (WithinBound s degrees) (length degrees) i
BreaksFirst s x degrees lifts (LiftShape i) =
    ((k : ℕ) → k < length degrees → NeverFalls degrees k) × ((k : ℕ) → k < length degrees → WithinBound s degrees k)
    × (((HasLifts s x degrees lifts → ⊥) × (i ≡ length lifts))
    ⊎ (HasLifts s x degrees lifts × IsFirst (LiftFits s x degrees lifts) (length lifts) i))
BreaksFirst s x degrees lifts Memory = Unit {0}
