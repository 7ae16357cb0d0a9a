use Rattle.std.proofs.Common.{subst, sym}
use Rattle.bmp_weyl.specs.Elements.{IsProduct}
use Rattle.bmp_weyl.specs.declared.elem.Elem.{Elem}
use Rattle.bmp_weyl.proofs.ElementLemmas.{same_words, same_element}
use Rattle.bmp_weyl.proofs.laws.elements_of_equal_products.Goals as goal

pub returns : goal.returns
returns c m form u w x y first second = (
  (λ e. same_words m form u w x first (subst (λ (z : Elem). IsProduct m w z) (sym e) second)),
  (λ alike. same_element m u w x y first second alike),
)
