use Rattle.std.proofs.Common.{◌≡◌, ◌-◌, ◌*◌, refl}
use Rattle.bmp_levels.proofs.SumsLemmas.{grown_modulo, grown_within}
use Rattle.bmp_levels.proofs.sums.add_reduced.Goals as goal

pub returns-clause-added : goal.returns-clause-added
returns-clause-added c =
    grown_modulo c.args.factor c.args.numbers.now c.most_for-room.new.sums c.add_multiples.new.sums
    c.add_multiples.ensures.added c.add_multiples.ensures.kept c.args.p c.args.sums.now c.most_for-room.ensures.same

pub returns-clause-within : goal.returns-clause-within
returns-clause-within c =
    let step : c.from.result * c.from-2.result ≡ c.args.factor * (c.args.p - 1) =
    rw (c.from.ensures, c.from-2.ensures) refl in
    grown_within c.args.factor c.args.numbers.now c.most_for-room.new.sums c.add_multiples.new.sums
    c.add_multiples.ensures.added c.add_multiples.ensures.kept c.args.p c.most_for-room.result _ step c.requires.prime
    c.requires.numbers c.most_for-room.ensures.within c.most_for-room.ensures.room c.add_multiples.ensures.sums
