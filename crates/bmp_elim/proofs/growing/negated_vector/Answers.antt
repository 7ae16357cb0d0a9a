use Rattle.std.proofs.Common.{◌≡◌, ◌≤◌, length, take, ◌∙◌, subst, arith}
use Rattle.std.proofs.lemmas.List.{length-take-le, get_or-take}
use Rattle.bmp_linear.specs.SparseVectors.{FitsBelow}
use Rattle.bmp_elim.proofs.GrownLemmas.{negated_made}
use Rattle.bmp_elim.proofs.growing.negated_vector.Goals as goal

pub returns : goal.returns
returns g c =
    let two : 2 ≤ g.F.Field.size c.args.f.now = g.met.F.Field.laws.at_least_two c.args.f.now in
    let made = c.multiply.new.numbers in
    let room : c.args.count ≤ length made = omega (arith, c.requires.room, c.multiply.ensures.length_is) in
    let width : length (take c.args.count made) ≡ c.args.count = length-take-le c.args.count made room in
    negated_made two c.one.ensures.number (g.met.F.Field.laws.below_size c.args.f.now c.neg.result c.neg.ensures.value)
    c.neg.ensures.number c.multiply.ensures c.requires.room c.in_ok-of_numbers.ensures.sparse
    (subst (FitsBelow c.in_ok-of_numbers.field-0) width c.in_ok-of_numbers.ensures.fits)
    (λ j l. c.in_ok-of_numbers.ensures.numbers j (rw width l) ∙ get_or-take c.args.count made j 0 l)
