use Rattle.std.proofs.Common.{◌≡◌, ◌%◌, List, length, ℕ, sym, subst}
use Rattle.bmp_math.specs.Integers.{IsWithin}
use Rattle.bmp_math.specs.IntegerSums.{integer_unit}
use Rattle.bmp_roots.specs.RootPairs.{RootPair, across}
use Rattle.bmp_roots.specs.Pairs.{root_pair}
use Rattle.bmp_roots.specs.RootSystems.{matrix_of, positive_roots_of}
use Rattle.bmp_weyl.specs.Words.{acts}
use Rattle.bmp_weyl.specs.Matrices.{HasColumns}
use Rattle.bmp_weyl.specs.Elements.{IsProduct, IsReflection}
use Rattle.bmp_weyl.specs.declared.elem.Elem.{Elem}
use Rattle.bmp_weyl.proofs.ReflectingLemmas.{reflection_small}
use Rattle.bmp_weyl.proofs.ElementLemmas.{reflection_product}
use Rattle.bmp_weyl.proofs.CallLemmas.{root_system}
use Rattle.bmp_weyl.proofs.elem.Elem.reflection.Goals as goal

pub reflection_entries-requires-clause-root : goal.reflection_entries-requires-clause-root
reflection_entries-requires-clause-root c i =
    ((root_system c.args.roots.now).finite.small (root_pair c.pair.result.0 c.pair.result.1) c.pair.ensures.is_pair i).0

pub reflection_entries-requires-clause-coroot : goal.reflection_entries-requires-clause-coroot
reflection_entries-requires-clause-coroot c i =
    ((root_system c.args.roots.now).finite.small (root_pair c.pair.result.0 c.pair.result.1) c.pair.ensures.is_pair i).1

pub reflection_entries-requires-clause-fits : goal.reflection_entries-requires-clause-fits
reflection_entries-requires-clause-fits c =
    subst (λ m. (i j : ℕ) → IsWithin 32 (across m (root_pair c.pair.result.0 c.pair.result.1) (integer_unit j) i))
    (sym c.cartan.ensures.matrix)
    (reflection_small (matrix_of c.args.roots.now) (root_system c.args.roots.now).form
    (root_system c.args.roots.now).finite (root_pair c.pair.result.0 c.pair.result.1) c.pair.ensures.is_pair)

pub returns-clause-element : goal.returns-clause-element
returns-clause-element c =
    let q : RootPair = root_pair c.pair.result.0 c.pair.result.1 in
    let e : Elem = record { rank = c.rank.result; entries = c.reflection_entries.result } in
    let is : IsReflection (matrix_of c.args.roots.now) q e = record {
      rank = c.rank.ensures.value;
      places = c.reflection_entries.ensures.places;
      columns = subst (λ m. HasColumns (across m q) c.reflection_entries.result) c.cartan.ensures.matrix
          c.reflection_entries.ensures.cells;
    } in
    let r : (u : List ℕ) × (length u % 2 ≡ 1) ×
    (acts (matrix_of c.args.roots.now) u ≡ across (matrix_of c.args.roots.now) q) ×
    IsProduct (matrix_of c.args.roots.now) u e =
    reflection_product (matrix_of c.args.roots.now) (positive_roots_of c.args.roots.now) (root_system c.args.roots.now)
    q c.pair.ensures.is_pair e is in
    (r.0, r.3)
