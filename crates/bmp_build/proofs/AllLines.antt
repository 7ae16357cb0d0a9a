-- Of all parts, where the greatest is top_part: no stalk has too many coordinates, the top passes, and there are lines.
use Rattle.std.proofs.Common.{◌≡◌, ℕ, ◌+◌, ◌-◌, ◌*◌, ◌<◌, ◌≤◌, ◌^◌, Bool, true, false, eqb, [], ◌∷◌, length, get_or, None, refl, sym, ap, subst, ◌∙◌, inl, inr, arith, eq-eqb, ne_eqb}
use Rattle.std.proofs.lemmas.Bool.{cases_eq}
use Rattle.bmp_text.specs.Printing.{Chosen}
use Rattle.bmp_graph.specs.Graph.{Graph, vertex_count}
use Rattle.bmp_poly.proofs.Scanning.{count_small}
use Rattle.bmp_sheaf.specs.Coordinates.{stalk_count}
use Rattle.bmp_cert.specs.declared.cert.VertexPart.{VertexPart}
use Rattle.bmp_cert.specs.Counts.{Written, no_part, part_of}
use Rattle.bmp_cert.specs.CertGrammar.{IsTop, IsPart, IsPartAt, HavePartLines}
use Rattle.bmp_check.specs.Accepted.{IsCheckableGraph}
use Rattle.bmp_check.specs.BlockData.{top_vertex}
use Rattle.bmp_check.specs.Comparisons.{first_failure}
use Rattle.bmp_check.specs.Verdicts.{top_comparison, TopPasses}
use Rattle.bmp_check.proofs.CountBounds.{stalk_start_most}
use Rattle.bmp_build.specs.BuiltGraphs.{top_part}
use Rattle.bmp_build.proofs.Lines.{chain_downward}

chosen_one : (b : Bool) (P Q : Type 0) → b ≡ true → P → Chosen b P Q
chosen_one b P Q is h = subst (λ (t : Bool). Chosen t P Q) (sym is) h

chosen_other : (b : Bool) (P Q : Type 0) → b ≡ false → Q → Chosen b P Q
chosen_other b P Q is h = subst (λ (t : Bool). Chosen t P Q) (sym is) h

-- ---- the greatest vertex

pub top_lines : (degree : ℕ) → IsTop degree top_part
top_lines degree = ((omega arith, ((omega arith, omega arith), tt)), refl)

module _ {G : Graph} (c : Written) (on : IsCheckableGraph G) (top_is : part_of c (top_vertex G) ≡ top_part) where
  -- no stalk has too many coordinates, where no other has
  pub few_coordinates :
      c.degree ≤ 6 →
      ((x d : ℕ) → x + 1 < vertex_count G → d ≤ c.degree → stalk_count G.rank (part_of c x).degrees d < 2 ^ 32) →
      (y d : ℕ) → y < vertex_count G → d ≤ c.degree → stalk_count G.rank (part_of c y).degrees d < 2 ^ 32
  few_coordinates small others y d below within = elim (cases_eq y (top_vertex G)) [
    | inl top ↦
        let most : stalk_count G.rank (0 ∷ []) d ≤ 1 * 462 =
        stalk_start_most G.rank (0 ∷ []) d 462 (λ s. count_small G.rank s on.few_variables)
        (omega (arith, small, within)) 1 in
        let here : part_of c y ≡ top_part = ap (part_of c) top ∙ top_is in
        subst (λ (p : VertexPart). stalk_count G.rank p.degrees d < 2 ^ 32) (sym here) (omega (arith, most))
    | inr other ↦ others y d (omega (arith, below, other)) within
  ]

  module _ (counted : length c.parts ≡ vertex_count G) where
    last_part : part_of c (length c.parts - 1) ≡ top_part
    last_part = ap (λ n. part_of c (n - 1)) counted ∙ top_is

    pub top_passes : TopPasses G c
    top_passes = subst (λ (p : VertexPart). first_failure
        (top_comparison c 0 (length p.degrees) 1 ∷ (top_comparison c 1 (get_or p.degrees 0 0) 0 ∷ [])) ≡ None)
        (sym last_part) refl

    module _ (v : ℕ)
        (lines : (x : ℕ) → x + 1 < vertex_count G → IsPart v (G.prime - 1) c.degree x (part_of c x)) where
      part_at : (x : ℕ) → x < length c.parts → IsPartAt v (length c.parts - 1) (G.prime - 1) c.degree x (part_of c x)
      part_at x below = elim (cases_eq x (length c.parts - 1)) [
        | inl greatest ↦
            chosen_one (eqb x (length c.parts - 1)) (IsTop c.degree (part_of c x))
            (IsPart v (G.prime - 1) c.degree x (part_of c x)) (eq-eqb x (length c.parts - 1) greatest)
            (subst (λ (p : VertexPart). IsTop c.degree p) (sym (ap (part_of c) greatest ∙ last_part))
            (top_lines c.degree))
        | inr other ↦
            chosen_other (eqb x (length c.parts - 1)) (IsTop c.degree (part_of c x))
            (IsPart v (G.prime - 1) c.degree x (part_of c x)) (ne_eqb x (length c.parts - 1) other)
            (lines x (omega (arith, below, other, counted)))
      ]

      pub have_lines : HavePartLines v (G.prime - 1) c.degree c.parts
      have_lines =
          let some = on.graph.has_vertex in
          let few = on.few_vertices in
          record {
            some = omega (arith, some, counted);
            few = omega (arith, few, counted);
            parts = (
              refl,
              chain_downward (IsPartAt v (length c.parts - 1) (G.prime - 1) c.degree) no_part c.parts
                  (length c.parts - 1)
                  (λ k l.
                  let back : length c.parts - 1 - (length c.parts - 1 - k) ≡ k = omega (arith, l) in
                  subst (λ i. IsPartAt v (length c.parts - 1) (G.prime - 1) c.degree (length c.parts - 1 - k)
                  (get_or c.parts i no_part)) back (part_at (length c.parts - 1 - k) (omega (arith, l)))),
            );
          }
