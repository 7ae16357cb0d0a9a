-- Sizes that hold: where each does, no comparison of sizes fails.
use Rattle.std.proofs.Common.{◌≡◌, ℕ, zero, suc, ◌+◌, ◌<◌, ◌≤◌, Bool, true, false, cond, eqb, leb, List, [], ◌∷◌, ◌++◌, None, refl, ◌∙◌, arith, eq-eqb}
use Rattle.std.specs.List.{All}
use Rattle.std.proofs.lemmas.Bool.{le-leb}
use Rattle.std.proofs.lemmas.List.Elements.{All-head, All-tail}
use Rattle.bmp_linear.specs.declared.vector.Entry.{Entry}
use Rattle.bmp_linear.specs.declared.evidence.CoverEvidence.{CoverEvidence}
use Rattle.bmp_linear.specs.declared.evidence.KernelEvidence.{KernelEvidence}
use Rattle.bmp_linear.specs.Evidence.{EvidenceFits}
use Rattle.bmp_linear.specs.SparseVectors.{FitsBelow}
use Rattle.bmp_check.specs.Comparisons.{first_failure}
use Rattle.bmp_check.specs.declared.sizes.BlockSizes.{BlockSizes}
use Rattle.bmp_check.specs.Sizes.{Size, need, need_of_places, listed, each_at_most, pivot_sizes, kernel_sizes, cover_sizes, size_comparison, numbered}
use Rattle.bmp_check.proofs.SizeCheckLemmas.{first_passes}

abbrev pub Holds : Bool → ℕ → ℕ → Type 0
Holds true m n = m ≡ n
Holds false m n = m ≤ n

abbrev pub AllHold : List Size → Type 0
AllHold [] = Unit {0}
AllHold (s ∷ ss) = Holds s.exact s.left s.right × AllHold ss

holding_passes : (exact : Bool) (m n : ℕ) → Holds exact m n → cond exact (eqb m n) (leb m n) ≡ true
holding_passes true m n h = eq-eqb m n h
holding_passes false m n h = le-leb m n h

pub none_fails : (x d : ℕ) (sizes : List Size) (i : ℕ) → AllHold sizes → first_failure (numbered x d i sizes) ≡ None
none_fails x d [] i h = refl
none_fails x d (s ∷ ss) i h =
    first_passes (size_comparison x d i s) (numbered x d (i + 1) ss) (holding_passes s.exact s.left s.right h.0)
    ∙ none_fails x d ss (i + 1) h.1

pub hold_both : (a b : List Size) → AllHold a → AllHold b → AllHold (a ++ b)
hold_both [] b h k = k
hold_both (s ∷ a) b h k = (h.0, hold_both a b h.1 k)

-- ---- needs

pub need_from_fits : (v : List Entry) (n : ℕ) → FitsBelow v n → need v ≤ n
unfolding need
need_from_fits [] n h = omega arith
need_from_fits (e ∷ es) n h =
    let here : e.place < n = All-head (λ (d : Entry). d.place < n) e es h in
    let rest : need es ≤ n = need_from_fits es n (All-tail (λ (d : Entry). d.place < n) e es h) in
    omega (arith, here, rest)

pub need_from_below : (ps : List ℕ) (n : ℕ) → All (λ k. k < n) ps → need_of_places ps ≤ n
unfolding need_of_places
need_from_below [] n h = omega arith
need_from_below (p ∷ ps) n h =
    let here : p < n = All-head (λ k. k < n) p ps h in
    let rest : need_of_places ps ≤ n = need_from_below ps n (All-tail (λ k. k < n) p ps h) in
    omega (arith, here, rest)

pub each_holds : (vs : List (List Entry)) (n : ℕ) → All (λ v. FitsBelow v n) vs → AllHold (each_at_most vs n)
each_holds [] n h = tt
each_holds (v ∷ vs) n h = (
  need_from_fits v n (All-head (λ (w : List Entry). FitsBelow w n) v vs h),
  each_holds vs n (All-tail (λ (w : List Entry). FitsBelow w n) v vs h),
)

pub listed_hold : (f : ℕ → Size) (n : ℕ) → ((i : ℕ) → i < n → Holds (f i).exact (f i).left (f i).right) →
    AllHold (listed f n)
listed_hold f zero h = tt
listed_hold f (suc n) h =
    hold_both (listed f n) (f n ∷ []) (listed_hold f n (λ i l. h i (omega arith))) (h n (omega arith), tt)

-- ---- of evidence

pub pivots_hold : (n : BlockSizes) (e : KernelEvidence) → EvidenceFits e n.rows n.columns → AllHold (pivot_sizes n e)
pivots_hold n e fits = (fits.in_all, (need_from_below e.pivots n.columns fits.pivots_below, tt))

pub kernel_holds : (n : BlockSizes) (e : KernelEvidence) → EvidenceFits e n.rows n.columns → AllHold (kernel_sizes n e)
kernel_holds n e fits =
    hold_both (each_at_most e.basis n.columns) (each_at_most e.rows n.rows)
    (each_holds e.basis n.columns fits.basis_fits) (each_holds e.rows n.rows fits.rows_fit)

pub covers_hold :
    (n : BlockSizes) (e : CoverEvidence) → All (λ v. FitsBelow v n.stalk) e.covers →
    All (λ v. FitsBelow v n.tuples) e.sources → All (λ v. FitsBelow v n.boundary) e.duals → AllHold (cover_sizes n e)
covers_hold n e covers sources duals =
    hold_both (each_at_most e.covers n.stalk) (each_at_most e.sources n.tuples ++ each_at_most e.duals n.boundary)
    (each_holds e.covers n.stalk covers)
    (hold_both (each_at_most e.sources n.tuples) (each_at_most e.duals n.boundary)
    (each_holds e.sources n.tuples sources) (each_holds e.duals n.boundary duals))
