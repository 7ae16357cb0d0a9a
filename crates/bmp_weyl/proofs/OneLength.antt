-- Two lists of the positive roots of one Cartan matrix have the same members, and so they measure the same lengths.
use Rattle.std.proofs.Common.{◌≡◌, ℕ, List, Bool, count_by, sym, subst}
use Rattle.bmp_math.specs.Lists.{Member}
use Rattle.bmp_math.proofs.OneLists.{count_one}
use Rattle.bmp_roots.specs.RootPairs.{CartanMatrix, Vector, RootPair, IsRootPair, IsPositive}
use Rattle.bmp_roots.specs.PositiveRoots.{has_negative, ArePositiveRoots}
use Rattle.bmp_weyl.specs.Words.{acts, length_of}
use Rattle.bmp_weyl.specs.Matrices.{image}
use Rattle.bmp_weyl.specs.Elements.{element_length}
use Rattle.bmp_weyl.specs.declared.elem.Elem.{Elem}

module _ (m : CartanMatrix) where
  pub root_among : (roots others : List Vector) → ArePositiveRoots m roots → ArePositiveRoots m others → (b : Vector) →
      Member b roots → Member b others
  root_among roots others first second b h =
      let r : (q : RootPair) × IsRootPair m q × (q.root ≡ b) × IsPositive m b = first.each b h in
      subst (λ (v : Vector). Member v others) r.2
      (second.all r.0 r.1 (subst (λ (v : Vector). IsPositive m v) (sym r.2) r.3))

  one_count : (test : Vector → Bool) (roots others : List Vector) → ArePositiveRoots m roots →
      ArePositiveRoots m others → count_by test roots ≡ count_by test others
  one_count test roots others first second =
      count_one test roots others first.once second.once (root_among roots others first second)
      (root_among others roots second first)

  pub one_length : (roots others : List Vector) → ArePositiveRoots m roots → ArePositiveRoots m others → (u : List ℕ) →
      length_of m roots u ≡ length_of m others u
  one_length roots others first second u = one_count (λ b. has_negative m.rank (acts m u b)) roots others first second

  pub one_element_length : (roots others : List Vector) → ArePositiveRoots m roots → ArePositiveRoots m others →
      (e : Elem) → element_length roots e ≡ element_length others e
  one_element_length roots others first second e =
      one_count (λ b. has_negative e.rank (image e.entries b)) roots others first second
