-- The labels of the roots: a form is zero, or it makes a label.
use Rattle.std.proofs.Common.{◌≡◌, ℕ, ◌+◌, ◌<◌, ◌≤◌, Bool, ℤ, List, [], ◌∷◌, ◌++◌, length, length-append, get_or, Some, slice_get, arith, sym, ap, subst, ◌∙◌, inl, inr}
use Rattle.std.proofs.lemmas.Bool.{cases_eq}
use Rattle.std.proofs.lemmas.List.{get_or_push, get_or_append_left}
use Rattle.std.proofs.lemmas.Option.{get_or_from_slice_get}
use Rattle.bmp_roots.specs.RootPairs.{CartanMatrix, Vector, RootPair}
use Rattle.bmp_roots.specs.Pairs.{coordinates, root_pair, pair_of}
use Rattle.bmp_roots.specs.RootSystems.{matrix_of, positives}
use Rattle.bmp_roots.specs.declared.root_pair.Pair.{Pair}
use Rattle.bmp_roots.specs.declared.root_system.Roots.{Roots}
use Rattle.bmp_poly.specs.Labels.{IsLabelOf as HasParts, IsFault, coordinate_of}
use Rattle.bmp_poly.specs.declared.label.Label.{Label}
use Rattle.bmp_poly.specs.declared.label.LabelFault.TheVariants.{Value, Zero}
use Rattle.bmp_graph.specs.declared.edge.Edge.{Edge}
use Rattle.bmp_bruhat.specs.Labels.{form_in, IsResidue, IsZeroForm, IsFormLabel}
use Rattle.bmp_bruhat.specs.Building.{IsLabeled, AreLabeled, IsFirstZero}
use Rattle.bmp_bruhat.specs.declared.root_edge.RootEdge.{RootEdge}
use Rattle.bmp_bruhat.proofs.EdgeLemmas.{some_at}
use Rattle.bmp_bruhat.proofs.OneResidue.{one_residue}
use Rattle.bmp_bruhat.proofs.ResidueLemmas.{residue_zero, zero_residue, form_of_root}

-- the coordinates of a form, as they are read for a label
pub record AreResidues (p r : ℕ) (b : Vector) (coords : List ℕ) : Type 0 where
  pub residues : (j : ℕ) → j < r → IsResidue p (b j) (get_or coords j 0)
  pub past : (j : ℕ) → r ≤ j → get_or coords j 0 ≡ 0

-- a label of these coordinates is that of the form
pub label_of_form : (p r : ℕ) (b : Vector) (coords : List ℕ) → AreResidues p r b coords → (l : Label) →
    HasParts p r coords l → IsFormLabel p r b l
label_of_form p r b coords are l parts = record {
  rank = parts.rank;
  prime = parts.prime;
  residues = λ j lt.
      let same : coordinate_of l j ≡ get_or coords j 0 = ap (λ (cs : List ℕ). get_or cs j 0) parts.coordinates in
      subst (λ n. IsResidue p (b j) n) (sym same) (are.residues j lt);
}

-- where there is no label the form is zero
pub form_is_zero : (p r : ℕ) (b : Vector) (coords : List ℕ) → AreResidues p r b coords → IsFault p r coords Zero →
    IsZeroForm p r b
form_is_zero p r b coords are fault j lt =
    residue_zero p (b j) (subst (λ n. IsResidue p (b j) n) (fault.1 j) (are.residues j lt))

-- and each coordinate fits
pub no_misfit : (p r place : ℕ) (b : Vector) (coords : List ℕ) → AreResidues p r b coords →
    IsFault p r coords (Value place) → ⊥
no_misfit p r place b coords are fault = fault.misfit ((λ lt. (are.residues place lt).0), (λ le. are.past place le))

-- the residues of the form of a root are those of its pair
pub residues_of_pair :
    (roots : Roots) (i : ℕ) (weight : Bool) (p : ℕ) (root : List ℤ) (coords : List ℕ) (cartan : CartanMatrix) →
    cartan ≡ matrix_of roots
    → ((d : Pair) → root ≡ (get_or (positives roots) i d).root) →
    AreResidues p cartan.rank (form_in cartan weight (root_pair root root)) coords
    → (pair : Pair) → slice_get (positives roots) i ≡ Some pair →
    AreResidues p (matrix_of roots).rank (form_in (matrix_of roots) weight (pair_of pair)) coords
residues_of_pair roots i weight p root coords cartan same root_is are pair at =
    let one : coordinates root ≡ coordinates pair.root =
    ap coordinates (root_is pair
    ∙ ap (λ (q : Pair). q.root) (get_or_from_slice_get (positives roots) i pair pair at)) in
    subst (λ (b : Vector). AreResidues p (matrix_of roots).rank b coords)
    (form_of_root (matrix_of roots) weight (root_pair root root) (pair_of pair) one)
    (subst (λ (m : CartanMatrix). AreResidues p m.rank (form_in m weight (root_pair root root)) coords) same are)

-- a label is not that of a zero form
pub label_not_zero : (p r : ℕ) (b : Vector) (l : Label) → 0 < p → IsFormLabel p r b l → IsZeroForm p r b → ⊥
label_not_zero p r b l some is zeros =
    let inside : l.leading < r = omega (arith, l.leads.here, is.rank) in
    l.leads.first.not_zero
    (one_residue p (b l.leading) (coordinate_of l l.leading) 0 (is.residues l.leading inside)
    (zero_residue p (b l.leading) some (zeros l.leading inside)))

-- what a call on the label of root number i answers
abbrev pub IsZeroAt : Bool → ℕ → ℕ → Roots → Type 0
IsZeroAt weight p i roots = (pair : Pair) → slice_get (positives roots) i ≡ Some pair
    → IsZeroForm p (matrix_of roots).rank (form_in (matrix_of roots) weight (pair_of pair))

abbrev pub IsLabelAt : Bool → ℕ → ℕ → Label → Roots → Type 0
IsLabelAt weight p i l roots = (pair : Pair) → slice_get (positives roots) i ≡ Some pair
    → IsFormLabel p (matrix_of roots).rank (form_in (matrix_of roots) weight (pair_of pair)) l

module _ {roots : Roots} {p : ℕ} {form : RootPair → Vector} {n : ℕ} {found : List RootEdge} {edges : List Edge}
    (so_far : AreLabeled roots p form n found edges) where
  -- one edge more
  pub AreLabeled-more : (new : List Edge) (none : RootEdge) (o : Edge) → n < length found →
      IsLabeled roots p form (get_or found n none) o → new ≡ edges ++ o ∷ []
      → AreLabeled roots p form (n + 1) found new
  AreLabeled-more new none o inside here is =
      subst (λ es. AreLabeled roots p form (n + 1) found es) (sym is) (record {
        as_long = length-append edges (o ∷ []) ∙ ap (λ k. k + 1) so_far.as_long;
        each = λ e c z h there.
            elim (cases_eq e n) [
              | inl same ↦
                  let one : get_or found n none ≡ c = ap (λ k. get_or found k none) (sym same)
                  ∙ get_or_from_slice_get found e c none there in
                  subst (λ x. IsLabeled roots p form c x) (sym (get_or_push edges o z e (so_far.as_long ∙ sym same)))
                  (subst (λ x. IsLabeled roots p form x o) one here)
              | inr apart ↦
                  subst (λ x. IsLabeled roots p form c x)
                  (sym (get_or_append_left edges (o ∷ []) z e (omega (arith, so_far.as_long))))
                  (so_far.each e c z (omega arith) there)
            ];
      })

  -- the next one is the first whose form is zero
  pub first_zero_at : (none : RootEdge) → n < length found → 0 < p
      → ((pair : Pair) → slice_get (positives roots) (get_or found n none).root ≡ Some pair →
      IsZeroForm p (matrix_of roots).rank (form (pair_of pair)))
      → IsFirstZero roots p form found (get_or found n none).lower (get_or found n none).upper
  first_zero_at none inside some zero =
      let s : (d : RootEdge) × (slice_get found n ≡ Some d) = some_at found n inside in
      let same : get_or found n none ≡ s.0 = get_or_from_slice_get found n s.0 none s.1 in
      record {
        place = n;
        edge = s.0;
        edge_is = s.1;
        lower = ap (λ (d : RootEdge). d.lower) same;
        upper = ap (λ (d : RootEdge). d.upper) same;
        zero = subst (λ (d : RootEdge). (pair : Pair) → slice_get (positives roots) d.root ≡ Some pair →
            IsZeroForm p (matrix_of roots).rank (form (pair_of pair))) same zero;
        before = λ e d pair less at pair_is zeros.
            let o : (o : Edge) × (slice_get edges e ≡ Some o) = some_at edges e (omega (arith, so_far.as_long)) in
            label_not_zero p (matrix_of roots).rank (form (pair_of pair)) (get_or edges e o.0).label some
            ((so_far.each e d o.0 less at).label pair pair_is) zeros;
      }
