-- Blocks by whole spaces beside a stalk that grows: they pass in the sheaf with the stalk, stay as it grows further,
-- and make the part at the end.
use Rattle.std.proofs.Common.{◌≡◌, ℕ, ◌+◌, ◌-◌, ◌<◌, ◌≤◌, List, [], ◌∷◌, ◌++◌, length, get_or, inl, inr, refl, sym, ap, ap₂, subst, ◌∙◌, arith}
use Rattle.std.specs.Prelude.{All}
use Rattle.std.proofs.lemmas.Bool.{cases_eq}
use Rattle.std.proofs.lemmas.List.{get_or_push, get_or_append_left, get_or_default, length_push}
use Rattle.std.proofs.lemmas.List.Elements.{All-get_or}
use Rattle.bmp_linear.specs.declared.vector.Entry.{Entry}
use Rattle.bmp_linear.specs.declared.blocks.DegreeBlock.{DegreeBlock}
use Rattle.bmp_linear.specs.declared.evidence.CoverEvidence.{CoverEvidence}
use Rattle.bmp_linear.specs.declared.evidence.KernelEvidence.{KernelEvidence}
use Rattle.bmp_linear.specs.SparseVectors.{ValuesBelow}
use Rattle.bmp_linear.proofs.SparseLemmas.{number_at-below}
use Rattle.bmp_graph.specs.Graph.{Graph, IsGraph, vertex_count}
use Rattle.bmp_graph.proofs.GraphLemmas.{IsAbove-higher}
use Rattle.bmp_sheaf.specs.Sheaves.{SheafData}
use Rattle.bmp_sheaf.specs.Written.{up_count}
use Rattle.bmp_sheaf.specs.States.{Stalk, no_stalk, SheafState, stalk_of, next_vertex, with_stalk, sheaf_of}
use Rattle.bmp_sheaf.specs.StalkFaults.{IsStalk}
use Rattle.bmp_sheaf.proofs.NewStalks.{stalk_kept}
use Rattle.bmp_sections.specs.Indexes.{AboveIsThere}
use Rattle.bmp_sections.specs.Numbers.{is_above}
use Rattle.bmp_sections.specs.Positions.{position_start}
use Rattle.bmp_sections.specs.TupleLists.{TupleList, tuples_over}
use Rattle.bmp_sections.proofs.AboveLemmas.{above_from_test}
use Rattle.bmp_cover.specs.CoverInputs.{HasTuples, CoverFits}
use Rattle.bmp_cover.specs.CoverChecks.{CoverCompares, CoverPasses}
use Rattle.bmp_cert.specs.declared.cert.VertexPart.{VertexPart}
use Rattle.bmp_check.specs.BlockData.{no_block}
use Rattle.bmp_stalk.specs.Above.{AgreeAbove}
use Rattle.bmp_stalk.specs.BuiltParts.{IsBuiltBlock}
use Rattle.bmp_stalk.specs.Drafts.{IsNext, IsDraft, IsLonger, IsBuiltDegree, with_draft}
use Rattle.bmp_stalk.proofs.DraftLemmas.{built_degree_passes, built_degree_stays}
use Rattle.bmp_build.specs.WholeSpaces.{IsWholeSpace, sections_of, IsWholeBlock, IsWholePart, IsSameSheaf, IsBuiltSpace}
use Rattle.bmp_build.proofs.VertexStalks.{written_by_stalks, agree_by_stalks}
use Rattle.bmp_build.proofs.WholeBlocks.{space_there, passes_over}

-- ---- the same sheaf in memory twice

module _ {A : Type 0} {s t : SheafState A} (same : IsSameSheaf s t) where
  pub in_same : (P : Graph → SheafData → Type 0) → P s.graph (sheaf_of s) → P t.graph (sheaf_of t)
  in_same P h =
      let Q : Graph → List Stalk → Type 0 = λ H l.
      P H (written_by_stalks H (λ y. get_or l (vertex_count H - 1 - y) no_stalk)) in
      subst (λ l. Q t.graph l) same.stalks (subst (λ H. Q H s.stalks) same.graph h)

  pub same_size : length s.stalks ≡ length t.stalks
  same_size = ap length same.stalks

  -- the stalks above the next vertex are there
  pub there_above : {x : ℕ} → IsNext t x → AboveIsThere s x
  there_above {x = x} at y above =
      let is : IsGraph s.graph = subst IsGraph (sym same.graph) at.state.over.is_graph in
      let higher = IsAbove-higher s.graph is y x (above_from_test s.graph x y above) in (
        higher.is_vertex,
        omega (arith, higher.number, at.next, at.left, same_size, ap (λ (H : Graph). vertex_count H) same.graph),
      )

  pub vertex_there : {x : ℕ} → IsNext t x → x < vertex_count s.graph
  vertex_there at = omega (arith, at.next, at.left, ap (λ (H : Graph). vertex_count H) same.graph)

  -- the sections of the one are those of the other
  pub same_sections : (x d : ℕ) (vs : List (List Entry)) {list : TupleList} →
      list ≡ tuples_over s.graph (sheaf_of s) x d vs → list ≡ tuples_over t.graph (sheaf_of t) x d vs
  same_sections x d vs {list} is =
      in_same (λ H S. list ≡ tuples_over H S x d vs) is

-- they have values above the vertex
pub space_has_tuples : {A : Type 0} {t : SheafState A} {x d : ℕ} {e : KernelEvidence} {list : TupleList} → IsNext t x →
    IsWholeSpace t.graph (sheaf_of t) x d e → list ≡ tuples_over t.graph (sheaf_of t) x d e.basis →
    HasTuples t x d list
space_has_tuples {t = t} {x = x} {d = d} {e = e} at space is =
    let two = at.state.over.two in
    subst (HasTuples t x d) (sym is)
    (λ y above. record {
      has = above;
      size = refl;
      below = λ j k tuple inside.
          number_at-below (get_or e.basis j []) t.graph.prime
          (position_start t.graph (sheaf_of t) (is_above t.graph x) d y + k) (omega (arith, two))
          (All-get_or (λ (v : List Entry). ValuesBelow v t.graph.prime) e.basis j [] tuple space.below.basis_below);
    })

-- ---- beside a stalk

module _ {A : Type 0} {s : SheafState A} {x d : ℕ} {b : DegreeBlock} {t : Stalk} (at : IsNext s x)
    (h : IsBuiltSpace s x d b t) where
  with_it : AgreeAbove s.graph x (with_draft s t) (sheaf_of s)
  with_it = agree_by_stalks s.graph at.state.over.is_graph x (stalk_of (with_stalk s t)) (stalk_of s)
      (λ y past below long. stalk_kept s t at.left y (omega (arith, past, at.next)) below)

  pub built_space_passes : IsWholeBlock s.graph (with_draft s t) x d b
  built_space_passes =
      let made : IsBuiltBlock (with_stalk s t) x d (sections_of s.graph (sheaf_of s) x d b) h.choice =
      built_degree_passes at h.built in
      let fits : CoverFits (with_stalk s t) x d (length b.kernel.basis) b.cover =
      subst (λ (e : CoverEvidence). CoverFits (with_stalk s t) x d (length b.kernel.basis) e) (sym h.cover)
      made.cover_fits in
      record {
        space = space_there with_it d h.space;
        few = made.few;
        few_on_boundary = made.few_on_boundary;
        covers = fits.covers;
        sources = fits.sources;
        duals = fits.duals;
        covers_fit = fits.covers_fit;
        sources_fit = fits.sources_fit;
        duals_fit = fits.duals_fit;
        covers_below = fits.covers_below;
        sources_below = fits.sources_below;
        duals_below = fits.duals_below;
        passes =
            passes_over with_it d (with_draft s t) b.kernel.basis b.cover
            (subst (λ (e : CoverEvidence). CoverPasses (CoverCompares s.graph (with_draft s t) x d
            (sections_of s.graph (sheaf_of s) x d b) e)) (sym h.cover) made.cover);
      }

  pub built_space_stays : (more : Stalk) → IsLonger s.graph x d t more → IsBuiltSpace s x d b more
  built_space_stays more longer = record {
    space = h.space;
    choice = h.choice;
    built = built_degree_stays at h.built more longer;
    cover = h.cover;
  }

-- ---- the blocks of the first degrees

pub record AreSpaces {A : Type 0} (s : SheafState A) (x d : ℕ) (blocks : List DegreeBlock) (t : Stalk) : Type 0 where
  pub counted : length blocks ≡ d
  pub each : (e : ℕ) → e < d → IsBuiltSpace s x e (get_or blocks e no_block) t

pub no_spaces : {A : Type 0} (s : SheafState A) (x : ℕ) (t : Stalk) → AreSpaces s x 0 [] t
no_spaces s x t = record { counted = omega arith; each = λ e below. absurd (omega (arith, below)) }

pub spaces_more : {A : Type 0} {s : SheafState A} {x d : ℕ} {blocks new : List DegreeBlock} {t more : Stalk} →
    IsNext s x → AreSpaces s x d blocks t → ((e : ℕ) → e < d → IsLonger s.graph x e t more) → (b : DegreeBlock) →
    IsBuiltSpace s x d b more → new ≡ blocks ++ b ∷ [] → AreSpaces s x (d + 1) new more
spaces_more {s = s} {x = x} {d = d} {blocks = blocks} {more = more} at h longer b built is =
    subst (λ l. AreSpaces s x (d + 1) l more) (sym is) (record {
      counted = omega (arith, length_push blocks b, h.counted);
      each = λ e below. elim (cases_eq e d) [
        | inl last ↦
            subst (λ z. IsBuiltSpace s x e z more)
            (sym (get_or_push blocks b no_block e (omega (arith, last, h.counted))))
            (subst (λ k. IsBuiltSpace s x k b more) (sym last) built)
        | inr other ↦
            let before : e < d = omega (arith, below, other) in
            subst (λ z. IsBuiltSpace s x e z more)
            (sym (get_or_append_left blocks (b ∷ []) no_block e (omega (arith, before, h.counted))))
            (built_space_stays at (h.each e before) more (longer e before))
      ];
    })

-- when all degrees are done the part is built
pub whole_part_is_built : {A : Type 0} {s new : SheafState A} {x edges : ℕ} {part : VertexPart}
    {blocks : List DegreeBlock} {t : Stalk} → IsNext s x → IsDraft s x (s.degree + 1) t →
    AreSpaces s x (s.degree + 1) blocks t → new ≡ with_stalk s t → edges ≡ up_count s.graph x →
    part ≡ record { degrees = t.degrees; edges = edges; lifts = t.lifts; blocks = blocks } →
    IsWholePart s new part
whole_part_is_built {s = s} {new = new} {x = x} {blocks = blocks} {t = t} at draft h pushed counted made =
    subst (IsWholePart s new) (sym made) (record {
      own = record {
        stalk = pushed;
        is_stalk = subst (λ y. IsStalk s y t.degrees t.lifts) at.next draft.stalk;
        edges = counted ∙ ap (up_count s.graph) at.next;
        bounded = λ i none inside.
            subst (λ z. z ≤ s.degree) (get_or_default t.degrees i 0 none inside) (omega (arith, draft.below i inside));
        values = draft.values;
        blocks = h.counted;
      };
      block = λ d small.
          subst (λ u. IsWholeBlock u.graph (sheaf_of u) (next_vertex s) d (get_or blocks d no_block)) (sym pushed)
          (subst (λ y. IsWholeBlock s.graph (with_draft s t) y d (get_or blocks d no_block)) at.next
          (built_space_passes at (h.each d (omega (arith, small)))));
    })
