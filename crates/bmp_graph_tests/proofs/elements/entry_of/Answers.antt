use Rattle.bmp_roots.specs.RootSystems.{matrix_of}
use Rattle.bmp_roots.proofs.RootsLemmas.{has_finite_system}
use Rattle.bmp_weyl.specs.Elements.{word_of}
use Rattle.bmp_graph_tests.proofs.elements.entry_of.Goals as goal

pub entry-requires-clause-element : goal.entry-requires-clause-element
entry-requires-clause-element c = record {
  matrix = matrix_of c.args.roots.now;
  form = c.args.roots.now.form;
  finite = has_finite_system c.args.roots.now;
  element = (word_of c.args.word.now, c.in-Ok.ensures.product);
}
