use Rattle.std.proofs.Common.{◌≡◌, length, ap, ◌∙◌, arith}
use Rattle.std.proofs.lemmas.List.{length-replicate}
use Rattle.bmp_linear.specs.RowTables.{Work}
use Rattle.bmp_check.proofs.scratch.scratch_for.Goals as goal

pub returns : goal.returns
returns c =
    let count : length c.in_ok-new.field-0.first ≡ c.max-numbers.result =
    ap (λ (w : Work). length w.first) c.in_ok-new.ensures ∙ length-replicate c.max-numbers.result 0 in
    record {
      width = record {
        sizes = λ x d block. omega (arith, c.block_room-rows.ensures.sizes x d block, c.max-numbers.ensures, count);
        stalks = λ x d vertex degree. omega (
          arith,
          c.coordinate_room.ensures.stalks x d vertex degree,
          c.max-numbers.ensures,
          count,
        );
        boundaries = λ x d vertex degree. omega (
          arith,
          c.coordinate_room.ensures.boundaries x d vertex degree,
          c.max-numbers.ensures,
          count,
        );
      };
      vertices = c.in_ok-index_for.ensures.vertices;
      equations = λ spaces x d block. omega (
        arith,
        c.block_room-rows.ensures.rows x d block,
        c.in_ok-index_for.ensures.equations spaces,
      );
      sums = λ levels x d block. omega (
        arith,
        c.block_room-rows.ensures.sections x d block,
        c.in_ok-sums_for.ensures levels,
      );
    }
