use Rattle.std.proofs.Common.{◌-◌, sym, subst, arith, ℕ}
use Rattle.bmp_math.specs.Integers.{IsWithin}
use Rattle.bmp_math.specs.IntegerSums.{integer_unit}
use Rattle.bmp_roots.specs.RootPairs.{Vector, RootPair, across, simple_pair}
use Rattle.bmp_roots.specs.Pairs.{root_pair}
use Rattle.bmp_roots.specs.RootSystems.{matrix_of}
use Rattle.bmp_roots.proofs.ClosingLemmas.{simple_small}
use Rattle.bmp_roots.proofs.PairLemmas.{simple_is_pair}
use Rattle.bmp_weyl.proofs.ReflectingLemmas.{reflection_small}
use Rattle.bmp_weyl.proofs.CallLemmas.{root_system}
use Rattle.bmp_weyl.proofs.elem.Elem.simple.Goals as goal

pub reflection_entries-requires-clause-root : goal.reflection_entries-requires-clause-root
reflection_entries-requires-clause-root c i =
    subst (λ (v : Vector). IsWithin 32 (v i)) (sym c.unit_vector-vector.ensures) (simple_small (c.args.k - 1) i).0

pub reflection_entries-requires-clause-coroot : goal.reflection_entries-requires-clause-coroot
reflection_entries-requires-clause-coroot c i =
    subst (λ (v : Vector). IsWithin 32 (v i)) (sym c.unit_vector-vector.ensures) (simple_small (c.args.k - 1) i).0

pub reflection_entries-requires-clause-fits : goal.reflection_entries-requires-clause-fits
reflection_entries-requires-clause-fits c =
    subst (λ m. (i j : ℕ) →
    IsWithin 32 (across m (root_pair c.unit_vector-vector.result c.unit_vector-vector.result) (integer_unit j) i))
    (sym c.cartan.ensures.matrix)
    (subst (λ (v : Vector). let q : RootPair = record { root = v; coroot = v } in
    (i j : ℕ) → IsWithin 32 (across (matrix_of c.args.roots.now) q (integer_unit j) i))
    (sym c.unit_vector-vector.ensures)
    (reflection_small (matrix_of c.args.roots.now) (root_system c.args.roots.now).form
    (root_system c.args.roots.now).finite (simple_pair (c.args.k - 1))
    (simple_is_pair (matrix_of c.args.roots.now) (c.args.k - 1) (omega (arith, c.requires)))))
