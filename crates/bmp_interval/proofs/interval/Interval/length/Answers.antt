use Rattle.std.proofs.Common.{ℕ, ap, ◌∙◌, List, get_or}
use Rattle.std.proofs.lemmas.List.{get_or-map}
use Rattle.bmp_roots.specs.RootSystems.{positive_roots_of}
use Rattle.bmp_weyl.specs.Elements.{element_length}
use Rattle.bmp_interval.specs.IntervalViews.{system_of, vertices_of}
use Rattle.bmp_interval.proofs.interval.Interval.length.Goals as goal

pub returns : goal.returns
returns c d =
    c.index.ensures
    ∙ ap (λ (ns : List ℕ). get_or ns c.args.x c.index.result.now) c.args.self.now.measured
    ∙ get_or-map (element_length (positive_roots_of (system_of c.args.self.now))) (vertices_of c.args.self.now) c.args.x
    d c.index.result.now c.requires
