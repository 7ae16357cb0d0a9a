use Rattle.std.proofs.Common.{ℕ, sym, subst, arith, below_more}
use Rattle.bmp_field.specs.declared.prime.PrimeField.{PrimeField}
use Rattle.bmp_sheaf.specs.States.{SheafState, IsRoom}
use Rattle.bmp_check.specs.Shaped.{IsSheafOf}
use Rattle.bmp_check.specs.ShapedViews.{graph_in, cert_in}
use Rattle.bmp_check.proofs.RoomLemmas.{room_more, written_room}
use Rattle.bmp_check.proofs.scratch.coordinate_room.Goals as goal

pub degrees-preserved : goal.degrees-preserved
degrees-preserved c =
    let s = c.sheaf-sheaf.result.now in
    below_more (λ (e : ℕ). IsRoom s e c.max-most.result) c.degrees.d
    (λ e below. room_more s e c.degrees.most c.max-most.result (omega (arith, c.max-most.ensures))
    (c.degrees.invariant e below))
    (room_more s c.degrees.d c.scratch_len.result c.max-most.result (omega (arith, c.max-most.ensures))
    c.scratch_len.ensures.room)

pub returns-clause-stalks : goal.returns-clause-stalks
returns-clause-stalks c =
    let G = graph_in c.args.s.now in
    let cert = cert_in c.args.s.now in
    let s = c.sheaf-sheaf.result.now in
    let of = subst (λ (t : SheafState PrimeField). IsSheafOf G cert t) (sym c.sheaf-sheaf.ensures) c.requires.sheaf in
    λ x d vertex degree.
    (written_room G cert c.requires.count s of c.degrees.most
    (λ e le. c.degrees.invariant e (omega (arith, le, of.degree, c.degree-degree.ensures.degree))) x d vertex
    degree).0

pub returns-clause-boundaries : goal.returns-clause-boundaries
returns-clause-boundaries c =
    let G = graph_in c.args.s.now in
    let cert = cert_in c.args.s.now in
    let s = c.sheaf-sheaf.result.now in
    let of = subst (λ (t : SheafState PrimeField). IsSheafOf G cert t) (sym c.sheaf-sheaf.ensures) c.requires.sheaf in
    λ x d vertex degree.
    (written_room G cert c.requires.count s of c.degrees.most
    (λ e le. c.degrees.invariant e (omega (arith, le, of.degree, c.degree-degree.ensures.degree))) x d vertex
    degree).1
