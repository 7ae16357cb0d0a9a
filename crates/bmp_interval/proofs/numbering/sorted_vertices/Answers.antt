use Rattle.std.proofs.Common.{subst, List}
use Rattle.std.specs.List.Sorted.{IsPermutation}
use Rattle.bmp_roots.specs.RootSystems.{matrix_of, positive_roots_of}
use Rattle.bmp_interval.specs.declared.numbering.Vertex.{Vertex}
use Rattle.bmp_interval.proofs.NumberLemmas.{sorted_list}
use Rattle.bmp_interval.proofs.numbering.sorted_vertices.Goals as goal

pub returns : goal.returns
returns c =
    sorted_list (positive_roots_of c.args.roots.now) (matrix_of c.args.roots.now).rank c.args.found.now.keys
    c.sort.new.self.items c.requires.once
    (λ e h. (c.requires.elements e h).1.rank)
    (subst (λ (vs : List Vertex). IsPermutation vs c.sort.new.self.items) c.in_ok-vertices.ensures
    c.sort.ensures.permutation)
    c.in_ok-sort.ensures.sorted
