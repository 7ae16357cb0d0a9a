use Rattle.std.proofs.Common.{◌≡◌, ◌+◌, length, sym, subst, arith}
use Rattle.bmp_check.specs.FirstRefusals.{IsOwn, IsOfFirst, KeepsFirst}
use Rattle.bmp_check.specs.declared.pieces.Piece.{Piece}
use Rattle.bmp_check.proofs.FirstLemmas.{one_more}
use Rattle.bmp_check.proofs.pieces.first_kept.Goals as goal

pub loop-piece-preserved : goal.loop-piece-preserved
loop-piece-preserved c = λ s workers each.
    subst (KeepsFirst s (IsOfFirst s workers (c.loop-piece.piece-index + 1))) (sym c.earlier_of-first.ensures)
    (one_more s workers c.loop-piece.piece-index c.loop-piece.first _ (c.loop-piece.invariant s workers each)
    (subst (λ (p : Piece). KeepsFirst s (IsOwn s workers c.loop-piece.piece-index) p.kept) (sym c.piece-item.is)
    (each c.loop-piece.piece-index c.piece-item.result c.loop-piece-test.true)))

pub returns : goal.returns
returns c = λ s workers each.
    let all : c.loop-piece.piece-index ≡ length c.args.pieces.now =
    omega (arith, c.loop-piece-test.false, c.loop-piece.auto.piece-index-end) in
    subst (λ n. KeepsFirst s (IsOfFirst s workers n) c.loop-piece.first) all (c.loop-piece.invariant s workers each)
