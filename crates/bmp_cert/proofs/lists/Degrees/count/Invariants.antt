use Rattle.std.proofs.Common.{◌≡◌, ◌==◌, count_by, take}
use Rattle.bmp_cert.proofs.lists.Degrees.count.Given as goal

abbrev pub invariant-degrees : goal.invariant-degrees
invariant-degrees l = l.count ≡ count_by (λ e. e == l.degree) (take l.own-index l.self)
