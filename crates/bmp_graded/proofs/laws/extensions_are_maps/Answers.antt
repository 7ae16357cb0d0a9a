use Rattle.bmp_graded.proofs.ExtensionMaps.{extension_map}
use Rattle.bmp_graded.proofs.Generators.{extension_sends}
use Rattle.bmp_graded.proofs.laws.extensions_are_maps.Goals as goal

pub returns-clause-map : goal.returns-clause-map
returns-clause-map c = extension_map

pub returns-clause-generators : goal.returns-clause-generators
returns-clause-generators c = extension_sends
