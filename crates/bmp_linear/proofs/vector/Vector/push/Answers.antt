use Rattle.std.proofs.Common.{◌≡◌, ◌<◌, List, [], ◌∷◌, ◌++◌, length, rules, subst, sym}
use Rattle.bmp_linear.specs.SparseVectors.{FitsBelow}
use Rattle.bmp_linear.specs.declared.vector.Entry.{Entry}
use Rattle.bmp_linear.proofs.SparseLemmas.{push_sparse}
use Rattle.bmp_linear.proofs.vector.Vector.push.Goals as goal

pub invariant_of-self-2 : goal.invariant_of-self-2
invariant_of-self-2 c =
    let more : c.push.new.self.items ≡ c.self.inside.entries.items ++ c.args.item ∷ [] = c.in_ok-push.ensures.items in
    let room : length c.push.new.self.items < 4294967296 = search rules in
    let after = subst (λ (v : List Entry). FitsBelow v c.args.item.place) (sym c.self.view_is) c.requires.after in
    (room, rw more (push_sparse c.self.inside.entries.items c.args.item c.self.invariant.1 after c.requires.not_zero))
