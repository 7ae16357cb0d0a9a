use Rattle.std.proofs.Common.{◌∙◌, ap}
use Rattle.bmp_roots.specs.RootSystems.{matrix_of}
use Rattle.bmp_roots.specs.declared.root_system.Roots.{Roots}
use Rattle.bmp_kl.proofs.steps.Steps.of.Goals as goal

pub returns : goal.returns
returns c = record {
  interval = c.vertex_lengths.ensures.interval;
  rank = c.rank.ensures.value ∙ ap (λ (r : Roots). (matrix_of r).rank) c.roots.ensures;
  lengths = c.in_ok-lengths.ensures.lengths;
  places = c.in_ok-products.ensures.places;
  products = c.in_ok-products.ensures.products;
}
