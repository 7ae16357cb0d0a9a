-- Of a list of tuples the comparisons read the count and the values.
use Rattle.std.proofs.Common.{◌≡◌, ℕ, inl, inr, subst}
use Rattle.bmp_linear.specs.declared.evidence.CoverEvidence.{CoverEvidence}
use Rattle.bmp_graph.specs.Graph.{Graph}
use Rattle.bmp_sheaf.specs.Sheaves.{SheafData}
use Rattle.bmp_sections.specs.TupleLists.{TupleList}
use Rattle.bmp_cover.specs.CoverChecks.{CoverCompares, CoverPasses}
use Rattle.bmp_cover.specs.declared.fault.CoverFault.{CoverFault}
use Rattle.bmp_stalk.specs.Above.{EqualValuesPass}

module _ (G : Graph) (F : SheafData) (x d : ℕ) (list list' : TupleList) (e : CoverEvidence) where
  -- a list with another count and other values
  abbrev with : ℕ → (ℕ → ℕ → ℕ → ℕ) → TupleList
  with n v = record list { count = n; value = v }

  elsewhere : (r : CoverFault) → CoverCompares G F x d list' e r →
      CoverCompares G F x d (with list'.count list'.value) e r
  elsewhere r (inl c) =
      inl (record { kind = c.kind; tuple = c.tuple; place = c.place; left_is = c.left_is; right_is = c.right_is })
  elsewhere r (inr (inl c)) = inr (inl (record {
    kind = c.kind;
    generator = c.generator;
    degree = c.degree;
    place = c.place;
    left_is = c.left_is;
    right_is = c.right_is;
  }))
  elsewhere r (inr (inr c)) = inr (inr c)

  pub passes_with : list.count ≡ list'.count → list.value ≡ list'.value → CoverPasses (CoverCompares G F x d list e) →
      CoverPasses (CoverCompares G F x d list' e)
  passes_with counts values passes =
      let first : CoverPasses (CoverCompares G F x d (with list'.count list.value) e) =
      subst (λ n. CoverPasses (CoverCompares G F x d (with n list.value) e)) counts passes in
      let second : CoverPasses (CoverCompares G F x d (with list'.count list'.value) e) =
      subst (λ v. CoverPasses (CoverCompares G F x d (with list'.count v) e)) values first in
      λ r c. second r (elsewhere r c)

pub equal_values_pass : EqualValuesPass
equal_values_pass G F x d list list' e = passes_with G F x d list list' e
