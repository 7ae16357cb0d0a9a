-- The way down by whole spaces: where it begins, one vertex more, and the end.
use Rattle.std.proofs.Common.{◌≡◌, ℕ, ◌+◌, ◌-◌, ◌<◌, ◌≤◌, List, [], ◌∷◌, ◌++◌, length, get_or, take, map, refl, sym, ap, subst, ◌∙◌, inl, inr, arith}
use Rattle.std.proofs.lemmas.Bool.{cases_lt}
use Rattle.std.proofs.lemmas.List.{length-map, length_push, get_or_push, get_or_append_left, take_all, map-append}
use Rattle.bmp_field.specs.declared.prime.PrimeField.{PrimeField}
use Rattle.bmp_graph.specs.Graph.{Graph, IsGraph, vertex_count}
use Rattle.bmp_sheaf.specs.States.{Stalk, SheafState, next_vertex, with_stalk}
use Rattle.bmp_cert.specs.declared.cert.VertexPart.{VertexPart}
use Rattle.bmp_cert.specs.Counts.{Written, no_part, part_of}
use Rattle.bmp_check.specs.Accepted.{IsCheckableGraph}
use Rattle.bmp_check.specs.Shaped.{cert_stalk}
use Rattle.bmp_build.specs.BuiltGraphs.{top_part, IsHeldPart, IsBefore}
use Rattle.bmp_build.specs.Building.{Continues, IsBegun}
use Rattle.bmp_build.specs.WholeSpaces.{IsWholePart, AreWhole, IsWholeIn, AreWholeDown}
use Rattle.bmp_build.specs.Tasks.{Made, IsMadeOver}
use Rattle.bmp_build.proofs.Downward.{part_there, continues_fewer, made_before}

pub whole_begun : {G : Graph} {D : ℕ} {s : SheafState PrimeField} → IsCheckableGraph G → IsBegun G D s →
    AreWholeDown G D s (top_part ∷ [])
whole_begun on begun = record {
  graph = begun.graph;
  degree = begun.degree;
  stalks = begun.stalks;
  some = omega arith;
  few = let some = on.graph.has_vertex in omega (arith, some);
  top = refl;
  vertices = λ x vertex there. absurd (omega (arith, vertex, there));
}

module _ {A : Type 0} {G : Graph} {D : ℕ} {s : SheafState A} {parts : List VertexPart} (h : AreWholeDown G D s parts)
  where
    pub whole_pushed : length s.stalks ≡ length parts
    whole_pushed = ap length h.stalks ∙ length-map parts cert_stalk

    own_vertices : vertex_count s.graph ≡ vertex_count G
    own_vertices = ap (λ (H : Graph). vertex_count H) h.graph

    -- ---- the end

    pub are_whole : vertex_count G ≤ length parts → AreWhole A G (record { degree = D; parts = parts })
    are_whole all =
        let c : Written = record { degree = D; parts = parts } in
        let counted : length parts ≡ vertex_count G = omega (arith, all, h.few) in
        let first : length parts - 1 - (vertex_count G - 1) ≡ 0 = omega (arith, counted) in
        record {
          counted = counted;
          top = ap (λ (k : ℕ). get_or parts k no_part) first ∙ h.top;
          others = λ x vertex.
              (h.vertices x vertex (omega (arith, vertex, counted))).built c
              (record {
                degree = refl;
                counted = counted;
                begins = take_all (length parts) parts (omega arith);
              });
        }

    -- ---- one vertex more

    module _ (is : IsGraph G) (left : length s.stalks < vertex_count s.graph) {k : ℕ} {made : Made A}
        (over : IsMadeOver IsWholePart k s (next_vertex s) made) {new : SheafState A}
        (taken : new ≡ with_stalk s (cert_stalk made.part)) where
      abbrev part : VertexPart
      part = made.part

      more_left : length parts < vertex_count G
      more_left = omega (arith, left, whole_pushed, own_vertices)

      next_is : next_vertex s ≡ vertex_count G - 1 - length parts
      next_is = omega (arith, whole_pushed, own_vertices)

      one_more : length (parts ++ part ∷ []) ≡ length parts + 1
      one_more = length_push parts part

      -- the part of the vertex
      at_vertex : IsWholeIn A G D (parts ++ part ∷ []) (vertex_count G - 1 - length parts)
      at_vertex = record {
        built = λ c more.
            let fewer : Continues G D parts c = continues_fewer part more_left more in
            let place : vertex_count G - 1 - (vertex_count G - 1 - length parts) ≡ length parts =
            omega (arith, more_left) in
            let own : part_of c (vertex_count G - 1 - length parts) ≡ part =
            part_there more (vertex_count G - 1 - length parts) (omega (arith, more_left))
            (omega (arith, more_left, one_more))
            ∙ ap (λ (i : ℕ). get_or (parts ++ part ∷ []) i no_part) place
            ∙ get_or_push parts part no_part (length parts) refl in
            record {
              old = over.old;
              new = made.sheaf;
              before = subst (λ x. IsBefore G c x over.old) next_is
                  (made_before is h.graph h.degree h.stalks next_is over.at fewer);
              built = subst (λ (p : VertexPart). IsWholePart over.old made.sheaf p) (sym own) over.upon.by;
              held = subst IsHeldPart (sym own) over.upon.held;
            };
      }

      pub whole_more : AreWholeDown G D new (parts ++ part ∷ [])
      whole_more = record {
        graph = ap (λ (u : SheafState A). u.graph) taken ∙ h.graph;
        degree = ap (λ (u : SheafState A). u.degree) taken ∙ h.degree;
        stalks =
            ap (λ (u : SheafState A). u.stalks) taken
            ∙ ap (λ (l : List Stalk). l ++ cert_stalk part ∷ []) h.stalks
            ∙ sym (map-append cert_stalk parts (part ∷ []));
        some = omega (arith, one_more);
        few = omega (arith, one_more, more_left);
        top = get_or_append_left parts (part ∷ []) no_part 0 (omega (arith, h.some)) ∙ h.top;
        vertices = λ y vertex there. elim (cases_lt (y + length parts) (vertex_count G)) [
          | inl last ↦
              let is : y ≡ vertex_count G - 1 - length parts = omega (arith, last, there, one_more) in
              subst (IsWholeIn A G D (parts ++ part ∷ [])) (sym is) at_vertex
          | inr before ↦ record {
            built = λ c more. (h.vertices y vertex before).built c (continues_fewer part more_left more);
          }
        ];
      }
