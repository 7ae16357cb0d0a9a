-- Two lists of the positive roots of one Cartan matrix give the same edges, with the same roots.
use Rattle.std.proofs.Common.{◌≡◌, ℕ, List, arith, subst}
use Rattle.bmp_roots.specs.RootPairs.{CartanMatrix, Vector, RootPair}
use Rattle.bmp_roots.specs.PositiveRoots.{ArePositiveRoots}
use Rattle.bmp_weyl.specs.Words.{IsRootSystem}
use Rattle.bmp_weyl.specs.Elements.{element_length}
use Rattle.bmp_weyl.specs.declared.elem.Elem.{Elem}
use Rattle.bmp_weyl.proofs.OneLength.{one_element_length}
use Rattle.bmp_bruhat.specs.Edges.{IsEdge}
use Rattle.bmp_bruhat.proofs.EdgeLemmas.{edge_is_unique}

module _ (m : CartanMatrix) (roots others : List Vector) (system : IsRootSystem m roots)
    (positive : ArePositiveRoots m others) where
  pub lengths_one : (e : Elem) → element_length roots e ≡ element_length others e
  lengths_one e = one_element_length m roots others system.positive positive e

  -- an edge of the one is an edge of the other
  pub other_edge : (list : List Elem) (x y : ℕ) (q : RootPair) → IsEdge m roots list x y q → IsEdge m others list x y q
  other_edge list x y q a = record {
    low = a.low;
    high = a.high;
    low_is = a.low_is;
    high_is = a.high_is;
    pair = a.pair;
    positive = a.positive;
    reflected = a.reflected;
    longer = let longer = a.longer in omega (arith, lengths_one a.low, lengths_one a.high);
  }

  -- edges with the same ends have one root
  pub one_root_at : (list : List Elem) (x y z w : ℕ) (q p : RootPair) → x ≡ z → y ≡ w → IsEdge m roots list x y q →
      IsEdge m others list z w p → q ≡ p
  one_root_at list x y z w q p lower upper a b =
      edge_is_unique m others (record { form = system.form; finite = system.finite; positive = positive }) list z w q p
      (subst (λ v. IsEdge m others list v w q) lower
      (subst (λ v. IsEdge m others list x v q) upper (other_edge list x y q a))) b
