-- From comparisons that all pass to the three conditions at a vertex.
use Rattle.std.proofs.Common.{ℕ, ◌<◌, ◌≤◌, refl, ◌∙◌, arith}
use Rattle.bmp_math.specs.Vectors.{unit}
use Rattle.bmp_graph.specs.Graph.{Graph}
use Rattle.bmp_linear.specs.declared.evidence.CoverEvidence.{CoverEvidence}
use Rattle.bmp_linear.specs.Evidence.{vector_at}
use Rattle.bmp_sheaf.specs.Fields.{IsOverField}
use Rattle.bmp_sheaf.specs.Sheaves.{SheafData}
use Rattle.bmp_sheaf.specs.Coordinates.{element_of}
use Rattle.bmp_sections.specs.Sections.{IsReached, IsLifted, IsMinimal}
use Rattle.bmp_sections.specs.TupleLists.{TupleList, tuples_in}
use Rattle.bmp_cover.specs.Evidence.{CatchAll, AreSections, generator_place}
use Rattle.bmp_cover.specs.CoverChecks.{source_place, ComparesCover, ComparesSource, ComparesDual, CoverPasses}
use Rattle.bmp_cover.specs.declared.kind.Kind.TheVariants.{Cover, Source, Dual}
use Rattle.bmp_cover.proofs.Soundness.{covers_give_lifting, sources_give_reaching}
use Rattle.bmp_cover.proofs.EvidenceLemmas.{numbers_are_covers, numbers_are_sources, combined_boundary, generator_column, duals_give_minimality}
use Rattle.bmp_cover.proofs.CoverSides.{cover_left, cover_right, source_left, source_right, dual_left}

module _ (G : Graph) (F : SheafData) (x d : ℕ) (over : IsOverField G) (small : G.rank ≤ 6) (list : TupleList)
    (e : CoverEvidence) where
  pub passing_covers : CoverPasses (ComparesCover G F x d list e) → CatchAll G F x d (tuples_in G F d list) list.count →
      IsLifted G F x d
  passing_covers passes catch =
      covers_give_lifting G F x d (tuples_in G F d list) list.count
      (λ j. element_of G.rank (F.degrees x) d (vector_at e.covers j)) (omega (arith, over.two)) catch
      (numbers_are_covers G F x d over (tuples_in G F d list) list.count
      (λ j. element_of G.rank (F.degrees x) d (vector_at e.covers j))
      (λ j within k below.
      passes (record {
        kind = Cover;
        index = j;
        place = k;
        left = cover_left G F x d list e j k;
        right = cover_right G F x d list e j k;
      })
      (record { kind = refl; tuple = within; place = below; left_is = refl; right_is = refl })))

  pub passing_sources :
      CoverPasses (ComparesSource G F x d list e) → AreSections G F x d (tuples_in G F d list) list.count →
      ((k : ℕ) → k < d → IsReached G F x k) → IsReached G F x d
  passing_sources passes sections lower =
      sources_give_reaching G F x d (tuples_in G F d list) list.count small sections
      (numbers_are_sources G F x d over (tuples_in G F d list) list.count
      (λ g within is_new. (
        vector_at e.sources (source_place F x d g),
        λ k below.
            generator_column G F x d over g small within is_new k below
            ∙ passes (record {
              kind = Source;
              index = g;
              place = k;
              left = source_left G F x d list e g k;
              right = source_right G F x d list e g k;
            })
            (record {
              kind = refl;
              generator = within;
              degree = is_new;
              place = below;
              left_is = refl;
              right_is = refl;
            })
            ∙ combined_boundary G F x d over (vector_at e.sources (source_place F x d g)) (tuples_in G F d list)
            list.count k below,
      )))
      lower

  pub passing_duals : CoverPasses (ComparesDual G F x d e) → IsMinimal G F x d
  passing_duals passes =
      duals_give_minimality G F x d over small
      (λ g within is_new. (
        vector_at e.duals (source_place F x d g),
        λ k below.
            passes (record {
              kind = Dual;
              index = g;
              place = k;
              left = dual_left G F x d list e g k;
              right = unit (generator_place G F x d g) k;
            })
            (record {
              kind = refl;
              generator = within;
              degree = is_new;
              place = below;
              left_is = refl;
              right_is = refl;
            }),
      ))
