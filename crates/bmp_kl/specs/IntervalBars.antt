-- The bars of the vertices of an interval.
--   vertex_at m list x          vertex number x
--   bars_of m roots list        their bars
--   counts_of m roots list      the coefficients of their bars at the powers of v - v^-1
--   counts_below m roots list y x d   the same, of the bar of vertex y
use Rattle.std.specs.Prelude.{ℕ, List, slice_index_or}
use Rattle.bmp_roots.specs.RootPairs.{CartanMatrix, Vector}
use Rattle.bmp_weyl.specs.declared.elem.Elem.{Elem}
use Rattle.bmp_hecke.specs.Bars.{bar_of}
use Rattle.bmp_weyl.specs.SimpleProducts.{identity_element}
use Rattle.bmp_hecke.specs.WeylGroups.{weyl_group}
use Rattle.bmp_weyl.specs.Elements.{element_length}
use Rattle.bmp_hecke.specs.DifferenceBars.{difference_steps}
use Rattle.bmp_kl.specs.Tables.{Bars}

abbrev pub vertex_at : CartanMatrix → List Elem → ℕ → Elem
vertex_at m list x = slice_index_or list x (identity_element m)

abbrev pub bars_of : CartanMatrix → List Vector → List Elem → Bars
bars_of m roots list x y = bar_of (weyl_group m roots) (vertex_at m list y) (vertex_at m list x)

abbrev pub counts_of : CartanMatrix → List Vector → List Elem → ℕ → ℕ → ℕ → ℕ
counts_of m roots list x y d =
    difference_steps (weyl_group m roots) (element_length roots (vertex_at m list y)) (vertex_at m list y)
    (vertex_at m list x) d

abbrev pub counts_below : CartanMatrix → List Vector → List Elem → ℕ → ℕ → ℕ → ℕ
counts_below m roots list y x d = counts_of m roots list x y d
