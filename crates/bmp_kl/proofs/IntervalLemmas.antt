-- The bars of the vertices of an interval are triangular.
use Rattle.std.proofs.Common.{◌≡◌, ◌≢◌, ℕ, ◌<◌, ◌≤◌, arith, refl, List, length}
use Rattle.bmp_math.proofs.ListLemmas.{member_at}
use Rattle.bmp_roots.specs.RootPairs.{CartanMatrix, Vector}
use Rattle.bmp_weyl.specs.Words.{IsRootSystem, kept, length_of}
use Rattle.bmp_weyl.specs.Elements.{IsElement, element_length}
use Rattle.bmp_weyl.specs.declared.elem.Elem.{Elem}
use Rattle.bmp_weyl.proofs.LengthLemmas.{length_at_most_36}
use Rattle.bmp_weyl.proofs.ElementLemmas.{element_length-product}
use Rattle.bmp_interval.specs.Vertices.{IsVertex}
use Rattle.bmp_interval.specs.Intervals.{IsInterval}
use Rattle.bmp_interval.proofs.CountLemmas.{once_apart}
use Rattle.bmp_hecke.proofs.BarLemmas.{bar_itself, bar_shorter, bar_span}
use Rattle.bmp_hecke.proofs.WeylLemmas.{weyl_is_group}
use Rattle.bmp_weyl.specs.SimpleProducts.{identity_element}
use Rattle.bmp_kl.specs.Tables.{IsTriangular}
use Rattle.bmp_kl.specs.IntervalBars.{vertex_at, bars_of}

module _ {m : CartanMatrix} {roots : List Vector} (system : IsRootSystem m roots) where
  pub element_within : (e : Elem) → IsElement m e → element_length roots e ≤ 36
  element_within e (u, is) =
      let same : element_length roots e ≡ length_of m roots u = element_length-product m roots system u e is in
      let few : length_of m roots u ≤ 36 = length_at_most_36 m roots system u in
      at_most (element_length roots e) (length_of m roots u) same few
    where
      at_most : (a b : ℕ) → a ≡ b → b ≤ 36 → a ≤ 36
      at_most a b e h = omega arith

  module _ {word : List ℕ} {list : List Elem} (interval : IsInterval m roots word list) where
    pub vertex_in : (x : ℕ) → x < length list → IsElement m (vertex_at m list x)
    vertex_in x below =
        let vertex : IsVertex m word (vertex_at m list x) =
        interval.vertices.each (vertex_at m list x) (member_at list x (identity_element m) below) in
        (kept vertex.choices word, vertex.product)

    pub vertex_apart : (x y : ℕ) → y < x → x < length list → vertex_at m list x ≢ vertex_at m list y
    vertex_apart x y above below same =
        let places : x ≡ y = once_apart list interval.vertices.once x y (identity_element m) below (omega arith) same in
        absurd (omega (arith, places))

    pub interval_triangular : IsTriangular (length list) (λ x. element_length roots (vertex_at m list x))
        (bars_of m roots list)
    interval_triangular = record {
      diagonal = λ x below e. bar_itself (weyl_is_group m roots system) _ (vertex_at m list x) (vertex_in x below) refl
          e;
      below = λ x y above below e.
          bar_shorter (weyl_is_group m roots system) _ (vertex_at m list x) (vertex_at m list y)
          (vertex_in x below) (vertex_in y (omega arith)) refl (vertex_apart x y above below)
          (interval.rising y x (identity_element m) (omega arith) below) e;
      span = λ x y below under e far.
          bar_span (weyl_is_group m roots system) _ (vertex_at m list x) (vertex_at m list y)
          (vertex_in x below) (vertex_in y under) refl e far;
      rising = λ x y above under. interval.rising x y (identity_element m) above under;
      few = λ x below. element_within (vertex_at m list x) (vertex_in x below);
    }
