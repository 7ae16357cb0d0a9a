use Rattle.std.proofs.Common.{◌≡◌, ◌∙◌, length, refl, sym, ap, subst, arith}
use Rattle.std.specs.Vec.{with_items}
use Rattle.std.proofs.lemmas.List.{with_items_is}
use Rattle.std.proofs.lemmas.Result.{on_ok_weaker, MatchResult-weaker}
use Rattle.bmp_graph.specs.Graph.{Graph, vertex_count}
use Rattle.bmp_levels.specs.Runs.{FamilyTable}
use Rattle.bmp_check.specs.declared.given.Given.{Given}
use Rattle.bmp_check.specs.declared.scratch.BlockScratch.{BlockScratch}
use Rattle.bmp_check.specs.declared.shaped.Shaped.{Shaped}
use Rattle.bmp_check.specs.BlockOrder.{block_count}
use Rattle.bmp_check.specs.Methods.{method_of}
use Rattle.bmp_check.specs.Settings.{HoldsFamilies}
use Rattle.bmp_check.specs.Shaped.{IsRoomFor}
use Rattle.bmp_check.specs.ShapedViews.{graph_in, method_at, cert_in}
use Rattle.bmp_check.specs.Verdicts.{BlockPasses, IsBlockRefusal}
use Rattle.bmp_check.proofs.FamilyLemmas.{set_whole, set_families}
use Rattle.bmp_check.proofs.NumberLemmas.{counted_blocks, at_number}
use Rattle.bmp_check.proofs.RoomLemmas.{same_room}
use Rattle.bmp_check.proofs.block.check_block.Goals as goal

pub block_at-x-requires-clause-block : goal.block_at-x-requires-clause-block
block_at-x-requires-clause-block c =
    let count =
    counted_blocks c.shaped-shaped.ensures c.graph.ensures c.given.ensures c.vertices.ensures.count
    (let same : block_count c.vertices.result c.given.result.now.degree
    ≡ block_count c.vertices.result c.given.result.now.degree = refl in same) in
    omega (arith, c.requires.block, count)

pub check_by_spaces-requires-clause-whole : goal.check_by_spaces-requires-clause-whole
check_by_spaces-requires-clause-whole c = set_whole c.shaped-shaped.ensures c.requires.set

pub check_by_spaces-requires-clause-method : goal.check_by_spaces-requires-clause-method
check_by_spaces-requires-clause-method c =
    ap (λ (g : Given). method_of g.version) (sym c.given-2.ensures) ∙ sym c.method.ensures ∙ c.in-Spaces.is

pub check_by_spaces-requires-clause-block : goal.check_by_spaces-requires-clause-block
check_by_spaces-requires-clause-block c =
    let vertices = c.vertices.ensures.count ∙ ap (λ (H : Graph). vertex_count H) c.graph.ensures in
    let degree = ap (λ (g : Given). g.degree) c.given.ensures in
    let within = c.block_at-x.ensures.within in
    (omega (arith, within.0, vertices), omega (arith, within.1, degree))

pub check_by_spaces-requires-clause-room : goal.check_by_spaces-requires-clause-room
check_by_spaces-requires-clause-room c =
    subst (λ (u : Shaped). IsRoomFor (graph_in u) (method_at u) (cert_in u) c.args.scratch.now)
    (sym c.shaped-shaped.ensures) c.requires.room

pub returns-in-Spaces-clause-ok : goal.returns-in-Spaces-clause-ok
returns-in-Spaces-clause-ok c =
    let vertices = c.vertices.ensures.count ∙ ap (λ (H : Graph). vertex_count H) c.graph.ensures in
    let degree = ap (λ (g : Given). g.degree) c.given.ensures in
    on_ok_weaker c.check_by_spaces.result
    (at_number c.args.i c.shaped-shaped.ensures vertices degree c.block_at-x.ensures.vertex c.block_at-x.ensures.degree
    BlockPasses)
    c.check_by_spaces.ensures.ok

pub returns-in-Spaces-clause-first : goal.returns-in-Spaces-clause-first
returns-in-Spaces-clause-first c =
    let vertices = c.vertices.ensures.count ∙ ap (λ (H : Graph). vertex_count H) c.graph.ensures in
    let degree = ap (λ (g : Given). g.degree) c.given.ensures in
    MatchResult-weaker c.check_by_spaces.result c.check_by_spaces.ensures.first (λ u h. h)
    (λ r h. at_number c.args.i c.shaped-shaped.ensures vertices degree c.block_at-x.ensures.vertex
    c.block_at-x.ensures.degree
    (λ G m w x d. IsBlockRefusal G m w x d r) h)

pub returns-in-Spaces-clause-room : goal.returns-in-Spaces-clause-room
returns-in-Spaces-clause-room c =
    subst (λ (u : Shaped). IsRoomFor (graph_in u) (method_at u) (cert_in u) c.check_by_spaces.new.scratch)
    c.shaped-shaped.ensures c.check_by_spaces.ensures.room

pub family-requires : goal.family-requires
family-requires c =
    let method = ap (λ (g : Given). method_of g.version) (sym c.given-2.ensures) ∙ sym c.method.ensures
    ∙ c.in-Levels.is in
    let families = set_families c.shaped-shaped.ensures c.requires.set method in
    let degree = ap (λ (g : Given). g.degree) c.given.ensures in
    omega (arith, families.sized, degree, c.block_at-x.ensures.within.1)

pub check_by_levels-requires-clause-whole : goal.check_by_levels-requires-clause-whole
check_by_levels-requires-clause-whole c = set_whole c.shaped-shaped.ensures c.requires.set

pub check_by_levels-requires-clause-method : goal.check_by_levels-requires-clause-method
check_by_levels-requires-clause-method c =
    ap (λ (g : Given). method_of g.version) (sym c.given-2.ensures) ∙ sym c.method.ensures ∙ c.in-Levels.is

pub check_by_levels-requires-clause-family : goal.check_by_levels-requires-clause-family
check_by_levels-requires-clause-family c =
    let u = c.shaped-shaped.result.now in
    let method = ap (λ (g : Given). method_of g.version) (sym c.given-2.ensures) ∙ sym c.method.ensures
    ∙ c.in-Levels.is in
    let families = set_families c.shaped-shaped.ensures c.requires.set method in
    let degree = ap (λ (g : Given). g.degree) c.given.ensures in
    subst (λ (f : FamilyTable). HoldsFamilies (graph_in u) (cert_in u) c.block_at-x.result.1 f) (sym c.family.ensures)
    (families.each c.block_at-x.result.1 (omega (arith, degree, c.block_at-x.ensures.within.1)))

pub check_by_levels-requires-clause-block : goal.check_by_levels-requires-clause-block
check_by_levels-requires-clause-block c =
    let vertices = c.vertices.ensures.count ∙ ap (λ (H : Graph). vertex_count H) c.graph.ensures in
    let degree = ap (λ (g : Given). g.degree) c.given.ensures in
    let within = c.block_at-x.ensures.within in
    (omega (arith, within.0, vertices), omega (arith, within.1, degree))

pub check_by_levels-requires-clause-width : goal.check_by_levels-requires-clause-width
check_by_levels-requires-clause-width c =
    (subst (λ (u : Shaped). IsRoomFor (graph_in u) (method_at u) (cert_in u) c.args.scratch.now)
    (sym c.shaped-shaped.ensures) c.requires.room).width

pub returns-in-Levels-clause-ok : goal.returns-in-Levels-clause-ok
returns-in-Levels-clause-ok c =
    let vertices = c.vertices.ensures.count ∙ ap (λ (H : Graph). vertex_count H) c.graph.ensures in
    let degree = ap (λ (g : Given). g.degree) c.given.ensures in
    on_ok_weaker c.check_by_levels.result
    (at_number c.args.i c.shaped-shaped.ensures vertices degree c.block_at-x.ensures.vertex c.block_at-x.ensures.degree
    BlockPasses)
    c.check_by_levels.ensures.ok

pub returns-in-Levels-clause-first : goal.returns-in-Levels-clause-first
returns-in-Levels-clause-first c =
    let vertices = c.vertices.ensures.count ∙ ap (λ (H : Graph). vertex_count H) c.graph.ensures in
    let degree = ap (λ (g : Given). g.degree) c.given.ensures in
    MatchResult-weaker c.check_by_levels.result c.check_by_levels.ensures.first (λ u h. h)
    (λ r h. at_number c.args.i c.shaped-shaped.ensures vertices degree c.block_at-x.ensures.vertex
    c.block_at-x.ensures.degree
    (λ G m w x d. IsBlockRefusal G m w x d r) h)

pub returns-in-Levels-clause-room : goal.returns-in-Levels-clause-room
returns-in-Levels-clause-room c =
    let scratch : BlockScratch = record {
      index = c.args.scratch.now.index;
      numbers = c.check_by_levels.new.numbers;
      sums = with_items c.args.scratch.now.sums c.check_by_levels.new.sums;
    } in
    let long = c.check_by_levels.ensures.sums ∙ c.deref_mut.ensures.len in
    let kept : length (with_items c.args.scratch.now.sums c.check_by_levels.new.sums).items
    ≡ length c.args.scratch.now.sums.items =
    ap length (with_items_is c.args.scratch.now.sums c.check_by_levels.new.sums long) ∙ long
    ∙ c.args.scratch.now.sums.ok.0 in
    same_room c.args.scratch.now scratch refl refl c.check_by_levels.ensures.width kept c.requires.room

pub check_by_levels-requires-clause-sums : goal.check_by_levels-requires-clause-sums
check_by_levels-requires-clause-sums c =
    let method = ap (λ (g : Given). method_of g.version) (sym c.given-2.ensures) ∙ sym c.method.ensures
    ∙ c.in-Levels.is in
    let vertices = c.vertices.ensures.count ∙ ap (λ (H : Graph). vertex_count H) c.graph.ensures in
    let degree = ap (λ (g : Given). g.degree) c.given.ensures in
    let within = c.block_at-x.ensures.within in
    let room = subst (λ (u : Shaped). IsRoomFor (graph_in u) (method_at u) (cert_in u) c.args.scratch.now)
    (sym c.shaped-shaped.ensures) c.requires.room in
    omega (
      arith,
      room.sums method c.block_at-x.result.0 c.block_at-x.result.1
          (omega (arith, within.0, vertices), omega (arith, within.1, degree)),
      ap length c.deref_mut.ensures.value,
    )
