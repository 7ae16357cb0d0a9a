-- A sheaf in memory whose last stalk is a draft.
use Rattle.std.proofs.Common.{◌≡◌, ℕ, ◌+◌, ◌-◌, ◌<◌, ◌≤◌, List, [], ◌∷◌, ◌++◌, length, take, sym, ap, subst, ◌∙◌, arith}
use Rattle.std.specs.Prelude.{slice_index}
use Rattle.std.proofs.Math.Seq.{take-append_seam}
use Rattle.bmp_linear.specs.declared.blocks.DegreeBlock.{DegreeBlock}
use Rattle.bmp_graph.specs.Graph.{Graph}
use Rattle.bmp_graph.proofs.GraphLemmas.{IsAbove-higher}
use Rattle.bmp_graded.proofs.CoordinateLemmas.{length_more}
use Rattle.bmp_sheaf.specs.Sheaves.{SheafData}
use Rattle.bmp_sheaf.specs.Coordinates.{stalk_count}
use Rattle.bmp_sheaf.specs.States.{Stalk, no_stalk, SheafState, IsThere, stalk_of, next_vertex, with_stalk, sheaf_of}
use Rattle.bmp_sheaf.proofs.NewStalks.{degrees_kept}
use Rattle.bmp_sections.specs.TupleLists.{TupleList}
use Rattle.bmp_sections.specs.Indexes.{AboveIsThere}
use Rattle.bmp_sections.proofs.AboveLemmas.{above_from_test}
use Rattle.bmp_cover.specs.CoverInputs.{HasStalks, HasTuples}
use Rattle.bmp_stalk.specs.Blocks.{IsChosenAt}
use Rattle.bmp_stalk.specs.Drafts.{under, IsNext, IsDraft, IsDrafted, AreFew, GrowsBy, IsBuiltDegree}

pub under_is : {F : Type 0} (s : SheafState F) (t : Stalk) → under (with_stalk s t) ≡ s
under_is s t =
    let one : length (s.stalks ++ t ∷ []) - 1 ≡ length s.stalks = omega (arith, length_more s.stalks t) in
    ap (λ ys. record s { stalks = ys })
    (ap (λ n. take n (s.stalks ++ t ∷ [])) one ∙ take-append_seam s.stalks (t ∷ []))

module _ {F : Type 0} {s u : SheafState F} (t : Stalk) (is : u ≡ with_stalk s t) where
  pub under_pushed : under u ≡ s
  under_pushed = ap under is ∙ under_is s t

  pub drafted : {x d : ℕ} → IsNext s x → IsDraft s x d t → IsDrafted u x d t
  drafted {x} {d} next draft = record {
    next = subst (λ w. IsNext w x) (sym under_pushed) next;
    last = is ∙ ap (λ w. with_stalk w t) (sym under_pushed);
    draft = subst (λ w. IsDraft w x d t) (sym under_pushed) draft;
  }

module _ {F : Type 0} {u : SheafState F} {x d : ℕ} {t : Stalk} (h : IsDrafted u x d t) where
  one_more : length u.stalks ≡ length (under u).stalks + 1
  one_more = ap (λ w. length w.stalks) h.last ∙ length_more (under u).stalks t

  pub is_there : IsThere u x
  is_there = (omega (arith, h.next.next, h.next.left), omega (arith, h.next.next, h.next.left, one_more))

  pub there_above : AboveIsThere u x
  there_above y above =
      let higher = IsAbove-higher u.graph h.next.state.over.is_graph y x (above_from_test u.graph x y above) in
      (higher.is_vertex, omega (arith, higher.number, is_there.1))

  pub stalks_on : {e n : ℕ} → e ≤ u.degree → AreFew u.graph (sheaf_of u) x e n → HasStalks u x e
  stalks_on small few = record {
    there = is_there;
    above = there_above;
    degree = small;
    few = omega (arith, few.on_stalk);
    few_on_boundary = few.on_boundary;
  }

  -- the stalks above are those under the draft
  pub tuples_on : {e : ℕ} {list : TupleList} → HasTuples (under u) x e list → HasTuples u x e list
  tuples_on {e} tuples y above =
      let has = tuples y above in
      let higher = IsAbove-higher u.graph h.next.state.over.is_graph y x (above_from_test u.graph x y above) in
      let past : next_vertex (under u) < y = omega (arith, higher.number, h.next.next) in
      let same : (stalk_of u y).degrees ≡ (stalk_of (under u) y).degrees =
      ap (λ w. (stalk_of w y).degrees) h.last ∙ degrees_kept (under u) t h.next.left y past higher.is_vertex in
      record {
        has = has.has;
        size = has.size ∙ ap (λ b. stalk_count u.graph.rank b e) (sym same);
        below = has.below;
      }

  -- what was chosen of the sheaf with the draft was chosen of the draft
  pub built_on : {list : TupleList} {chosen : List ℕ} {b : DegreeBlock} {to : Stalk} →
      AreFew u.graph (sheaf_of u) x d list.count → IsChosenAt u.graph (sheaf_of u) x d list chosen b →
      GrowsBy (under u) x d list chosen t to → IsBuiltDegree (under u) x d list b to
  built_on {list} {chosen} {b} few made grows = record {
    from = t;
    chosen = chosen;
    few = subst (λ w. AreFew u.graph (sheaf_of w) x d list.count) h.last few;
    made = subst (λ w. IsChosenAt u.graph (sheaf_of w) x d list chosen b) h.last made;
    grows = grows;
  }

pub chosen_in_list : {G : Graph} {F : SheafData} {x d : ℕ} {list : TupleList} {chosen : List ℕ} {b : DegreeBlock} →
    IsChosenAt G F x d list chosen b → (i : ℕ) → i < length chosen → slice_index chosen i < list.count
chosen_in_list made i inside = omega (arith, made.read.columns.below i inside, made.so_far.joined.cols)

-- no generators are a draft before all degrees
pub first_draft : {F : Type 0} (s : SheafState F) (x : ℕ) → IsDraft s x 0 no_stalk
first_draft s x = record {
  below = λ g inside. absurd (omega (arith, inside));
  stalk = record {
    rising = λ i inside. absurd (omega (arith, inside));
    bound = λ i inside. absurd (omega (arith, inside));
    counted = omega arith;
    fit = λ i inside. absurd (omega (arith, inside));
  };
  values = λ i none inside. absurd (omega (arith, inside));
}
