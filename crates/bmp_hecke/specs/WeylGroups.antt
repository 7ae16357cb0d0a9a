-- The group of a Cartan matrix, on elements as the machine has them.
--   weyl_group m roots       the group, with the number of these roots that an element makes negative as length
--   group_of roots           that of a root system
use Rattle.std.specs.Prelude.{List}
use Rattle.bmp_roots.specs.RootPairs.{CartanMatrix, Vector}
use Rattle.bmp_roots.specs.RootSystems.{matrix_of, positive_roots_of}
use Rattle.bmp_roots.specs.declared.root_system.Roots.{Roots}
use Rattle.bmp_weyl.specs.Elements.{element_length}
use Rattle.bmp_weyl.specs.SimpleProducts.{identity_element, times_simple}
use Rattle.bmp_weyl.specs.declared.elem.Elem.{Elem}
use Rattle.bmp_hecke.specs.Groups.{Group}

abbrev pub weyl_group : CartanMatrix → List Vector → Group Elem
weyl_group m roots = record {
  rank = m.rank;
  one = identity_element m;
  times = times_simple m;
  length = element_length roots;
}

-- the group of a root system
abbrev pub group_of : Roots → Group Elem
group_of roots = weyl_group (matrix_of roots) (positive_roots_of roots)
