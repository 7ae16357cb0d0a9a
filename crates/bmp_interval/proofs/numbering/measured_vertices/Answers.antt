use Rattle.std.proofs.Common.{subst, List, [], get_or}
use Rattle.bmp_math.specs.Lists.{Member}
use Rattle.bmp_math.proofs.ListLemmas.{member_at}
use Rattle.bmp_weyl.specs.declared.elem.Elem.{Elem}
use Rattle.bmp_interval.proofs.numbering.measured_vertices.Goals as goal

pub length-length-requires : goal.length-length-requires
length-length-requires c =
    let none : Elem = record { rank = 0; entries = [] } in
    c.requires (get_or c.as_slice-elems.result.now c.loop-elem.elem-index none)
    (subst (λ (es : List Elem). Member (get_or c.as_slice-elems.result.now c.loop-elem.elem-index none) es)
    c.as_slice-elems.ensures.keys
    (member_at c.as_slice-elems.result.now c.loop-elem.elem-index none c.loop-elem-test.true))
