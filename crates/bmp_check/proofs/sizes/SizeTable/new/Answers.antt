use Rattle.std.proofs.Common.{ℕ, ◌+◌, ◌/◌, ◌%◌, ◌≤◌, refl, arith}
use Rattle.std.proofs.lemmas.List.Elements.{All-push, All-same}
use Rattle.bmp_sheaf.specs.Coordinates.{stalk_count, boundary_count}
use Rattle.bmp_check.specs.PartsSheaf.{parts_sheaf}
use Rattle.bmp_check.specs.SizeLists.{MOST_SIZE}
use Rattle.bmp_check.proofs.SizeLemmas.{size_numbers_more, full_list, full_sizes, stalk_number}
use Rattle.bmp_check.specs.ShapedViews.{written_in}
use Rattle.bmp_check.proofs.sizes.SizeTable.new.Goals as goal

abbrev IsWithinMost : ℕ → Type 0
IsWithinMost n = n ≤ MOST_SIZE

pub each-preserved : goal.each-preserved
each-preserved c =
    let G = c.args.graph.now in
    let F = parts_sheaf G (written_in c.args.c.now) in
    let w = c.args.c.now.degree + 1 in
    let x = c.each.k / w in
    let d = c.each.k % w in
    let stalk = stalk_number G (written_in c.args.c.now) c.rank.result x d c.stalk_size.result c.part_of.result.now
    c.rank.ensures.value c.part_of.ensures c.stalk_size.ensures.number in
    let stalks = size_numbers_more (λ y e. stalk_count G.rank (F.degrees y) e) w c.each.k c.stalk_size.result
    c.each.stalks.items c.push.new.self.items c.each.invariant.stalks stalk c.in_ok-push.ensures.items in
    let boundaries = size_numbers_more (λ y e. boundary_count G F y e) w c.each.k c.boundary_size.result
    c.each.boundaries.items c.push-in-each.new.self.items c.each.invariant.boundaries c.boundary_size.ensures.number
    c.in_ok-push-2.ensures.items in
    record {
      stalks = stalks;
      boundaries = boundaries;
      small_stalks = All-same IsWithinMost c.push.new.self.items _ c.in_ok-push.ensures.items
          (All-push IsWithinMost c.each.stalks.items c.stalk_size.result c.each.invariant.small_stalks
          c.stalk_size.ensures.small);
      small_boundaries =
          All-same IsWithinMost c.push-in-each.new.self.items _ c.in_ok-push-2.ensures.items
          (All-push IsWithinMost c.each.boundaries.items c.boundary_size.result c.each.invariant.small_boundaries
          c.boundary_size.ensures.small);
    }

pub invariant_of-result : goal.invariant_of-result
invariant_of-result c =
    let G = c.args.graph.now in
    let width : c.args.c.now.degree + 1 ≤ 7 = omega (arith, c.requires.degree) in
    full_list (λ x d. stalk_count G.rank ((parts_sheaf G (written_in c.args.c.now)).degrees x) d)
    c.vertices-vertices.result (c.args.c.now.degree + 1) c.each.k c.each.stalks.items
    (omega arith) c.each.invariant.stalks c.vertices-vertices.ensures.range width c.each.invariant.small_stalks

pub invariant_of-result-2 : goal.invariant_of-result-2
invariant_of-result-2 c =
    let G = c.args.graph.now in
    let width : c.args.c.now.degree + 1 ≤ 7 = omega (arith, c.requires.degree) in
    full_list (λ x d. boundary_count G (parts_sheaf G (written_in c.args.c.now)) x d) c.vertices-vertices.result
    (c.args.c.now.degree + 1) c.each.k c.each.boundaries.items
    (omega arith) c.each.invariant.boundaries c.vertices-vertices.ensures.range width c.each.invariant.small_boundaries

pub returns : goal.returns
returns c =
    let G = c.args.graph.now in
    record {
      stalks = full_sizes (λ x d. stalk_count G.rank ((parts_sheaf G (written_in c.args.c.now)).degrees x) d)
          c.vertices-vertices.result (c.args.c.now.degree + 1) c.each.k c.each.stalks.items
          (omega arith) c.each.invariant.stalks _ _ c.vertices-vertices.ensures.count refl;
      boundaries = full_sizes (λ x d. boundary_count G (parts_sheaf G (written_in c.args.c.now)) x d)
          c.vertices-vertices.result (c.args.c.now.degree + 1) c.each.k c.each.boundaries.items
          (omega arith) c.each.invariant.boundaries _ _ c.vertices-vertices.ensures.count refl;
      tuples = c.in_ok-new.ensures;
    }
