use Rattle.bmp_interval.specs.IntervalViews.{system_of, word_below, vertices_of}
use Rattle.bmp_bruhat.proofs.StepLemmas.{operands, none_added, short_added, edge_added}
use Rattle.bmp_bruhat.proofs.building.add_edge.Goals as goal

pub mul-above-requires : goal.mul-above-requires
mul-above-requires c =
    operands (system_of c.args.interval.now) (vertices_of c.args.interval.now) (word_below c.args.interval.now) c.args.x
    c.args.i c.args.reflection.now c.elem.result.now
    c.requires.root c.requires.reflection c.requires.vertex c.elem.ensures.value c.elem.ensures.vertex

pub returns-in_default : goal.returns-in_default
returns-in_default c =
    none_added (system_of c.args.interval.now) (vertices_of c.args.interval.now) (word_below c.args.interval.now)
    c.args.x c.args.i c.args.reflection.now c.elem.result.now
    c.requires.root c.requires.reflection c.requires.vertex c.elem.ensures.value c.elem.ensures.vertex
    c.requires.interval.interval c.mul-above.result c.mul-above.ensures.product c.args.edges.now.items c.requires.edges
    c.in_default.ensures.none

pub returns-else-length : goal.returns-else-length
returns-else-length c =
    short_added (system_of c.args.interval.now) (vertices_of c.args.interval.now) (word_below c.args.interval.now)
    c.args.x c.args.i c.args.reflection.now c.elem.result.now
    c.requires.root c.requires.reflection c.requires.vertex c.elem.ensures.value c.elem.ensures.vertex
    c.requires.interval.interval c.mul-above.result c.mul-above.ensures.product c.args.edges.now.items c.requires.edges
    c.in-Some.y c.in-Some.ensures.within c.in-Some.ensures.number c.length.result c.length-2.result c.length.ensures
    c.length-2.ensures
    c.if-length.false

pub returns-in_ok-insert : goal.returns-in_ok-insert
returns-in_ok-insert c =
    edge_added (system_of c.args.interval.now) (vertices_of c.args.interval.now) (word_below c.args.interval.now)
    c.args.x c.args.i c.args.reflection.now c.elem.result.now
    c.requires.root c.requires.reflection c.requires.vertex c.elem.ensures.value c.elem.ensures.vertex
    c.requires.interval.interval c.mul-above.result c.mul-above.ensures.product c.args.edges.now.items c.requires.edges
    c.in-Some.y c.in-Some.ensures.within c.in-Some.ensures.number c.length.result c.length-2.result c.length.ensures
    c.length-2.ensures
    c.if-length.true c.deref.result.now c.deref.ensures.value c.place_of-place.result _ c.place_of-place.ensures.within
    c.place_of-place.ensures.after c.place_of-place.ensures.before
    c.in_ok-insert.ensures.items
