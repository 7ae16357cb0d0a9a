use Rattle.std.proofs.Common.{[], ◌∷◌, None, length, sym, ap, subst, arith, length-append}
use Rattle.std.proofs.lemmas.List.Elements.{All-push}
use Rattle.bmp_check.specs.declared.pieces.Piece.{Piece}
use Rattle.bmp_check.specs.Pieces.{HaveRoom}
use Rattle.bmp_check.specs.Shaped.{IsRoomFor}
use Rattle.bmp_check.specs.ShapedViews.{graph_in, method_at, cert_in}
use Rattle.bmp_check.proofs.pieces.pieces_for.Goals as goal

pub pieces-preserved : goal.pieces-preserved
pieces-preserved c =
    let s = c.args.s.now in
    let items = c.in_ok-push.ensures.items in
    let piece : Piece = record { scratch = c.in_ok-scratch.scratch; kept = None } in
    record {
      count = omega (
        arith,
        ap length items,
        length-append c.pieces.pieces.items (piece ∷ []),
        c.pieces.invariant.count,
      );
      room = subst (HaveRoom s) (sym items)
          (All-push (λ (p : Piece). IsRoomFor (graph_in s) (method_at s) (cert_in s) p.scratch) c.pieces.pieces.items
          piece
          c.pieces.invariant.room c.in_ok-scratch.ensures);
    }
