-- Room for the check of blocks.
use Rattle.std.proofs.Common.{◌≡◌, ℕ, ◌<◌, ◌≤◌, length, sym, ap, subst, ◌∙◌, arith}
use Rattle.bmp_graph.specs.Graph.{Graph, vertex_count}
use Rattle.bmp_sheaf.specs.Sheaves.{SheafData}
use Rattle.bmp_sheaf.specs.Coordinates.{stalk_count, boundary_count}
use Rattle.bmp_sheaf.specs.States.{SheafState, IsRoom}
use Rattle.bmp_cover.specs.BradenMacPherson.{IsTopVertex}
use Rattle.bmp_cert.specs.Counts.{Written}
use Rattle.bmp_check.specs.declared.scratch.BlockScratch.{BlockScratch}
use Rattle.bmp_check.specs.declared.sizes.BlockSizes.{BlockSizes}
use Rattle.bmp_check.specs.declared.given.Given.{Given}
use Rattle.bmp_check.specs.declared.method.Method.{Method}
use Rattle.bmp_check.specs.declared.sizes.SizeTable.{SizeTable}
use Rattle.bmp_check.specs.BlockData.{top_vertex}
use Rattle.bmp_check.specs.ShapedViews.{method_in, written_in}
use Rattle.bmp_check.specs.SizeTables.{AreSizesOf}
use Rattle.bmp_check.specs.PartsSheaf.{parts_sheaf}
use Rattle.bmp_check.specs.Sizes.{counts_at, largest}
use Rattle.bmp_check.specs.Shaped.{IsSheafOf, HasWidth, IsRoomFor}
use Rattle.bmp_check.specs.Verdicts.{CountPasses}
use Rattle.bmp_check.proofs.BlockLemmas.{HoldsBefore}
use Rattle.bmp_check.proofs.SheafLemmas.{as_written, is_there}

-- the sizes of a block are within these numbers
abbrev pub IsWithin : Graph → Method → Written → ℕ → ℕ → ℕ → ℕ → ℕ → Type 0
IsWithin G m c rows most sections x d =
    let n = counts_at G m c x d in (n.rows ≤ rows) × (largest n ≤ most) × (n.tuples ≤ sections)

pub within_more :
    (G : Graph) (m : Method) (c : Written) (n D i : ℕ) {a b e rows most sections : ℕ} → a ≤ rows → b ≤ most →
    e ≤ sections → HoldsBefore (IsWithin G m c a b e) n D i → HoldsBefore (IsWithin G m c rows most sections) n D i
within_more G m c n D i few small short holds k below =
    let h = holds k below in (omega (arith, h.0, few), omega (arith, h.1, small), omega (arith, h.2, short))

pub same_width : {G : Graph} {m : Method} {c : Written} {a b : ℕ} → b ≡ a → HasWidth G m c a → HasWidth G m c b
same_width {G = G} {m = m} {c = c} same width = subst (HasWidth G m c) (sym same) width

-- the room stays where no list grows shorter
pub same_room :
    {G : Graph} {m : Method} {c : Written} (s t : BlockScratch) →
    length t.index.starts.items ≡ length s.index.starts.items →
    length t.index.places.items ≡ length s.index.places.items → length t.numbers.first ≡ length s.numbers.first →
    length t.sums.items ≡ length s.sums.items → IsRoomFor G m c s → IsRoomFor G m c t
same_room s t starts places numbers sums room = record {
  width = same_width numbers room.width;
  vertices = λ spaces. let h = room.vertices spaces in omega (arith, h, starts);
  equations = λ spaces x d block. let h = room.equations spaces x d block in omega (arith, h, places);
  sums = λ levels x d block. let h = room.sums levels x d block in omega (arith, h, sums);
}

-- room for the coordinates of the sheaf in memory, for larger numbers and for the written sheaf
pub room_more : {F : Type 0} (s : SheafState F) (d n most : ℕ) → n ≤ most → IsRoom s d n → IsRoom s d most
room_more s d n most le room x there = let h = room x there in (omega (arith, h.0, le), omega (arith, h.1, le))

pub written_room :
    (G : Graph) (c : Written) (counted : CountPasses G c) {F : Type 0} (s : SheafState F) (of : IsSheafOf G c s)
    (n : ℕ) →
    ((d : ℕ) → d ≤ c.degree → IsRoom s d n) → (x d : ℕ) → x < vertex_count G → d ≤ c.degree →
    (stalk_count G.rank ((parts_sheaf G c).degrees x) d ≤ n) × (boundary_count G (parts_sheaf G c) x d ≤ n)
written_room G c counted s of n room x d vertex degree =
    as_written G c counted s of (λ (H : Graph) (S : SheafData). (stalk_count H.rank (S.degrees x) d ≤ n) ×
    (boundary_count H S x d ≤ n))
    (room d degree x (is_there G c counted s of x vertex))

-- what the calls on shaped parts read is what they are about
module _ {G H : Graph} {own g : Given} (graph : H ≡ G) (given : g ≡ own) where
  pub table_of : {t u : SizeTable} → t ≡ u → AreSizesOf G (method_in own) (written_in own) u →
      AreSizesOf H (method_in g) (written_in g) t
  table_of {t = t} {u = u} table h =
      subst (λ (K : Graph). AreSizesOf K (method_in g) (written_in g) t) (sym graph)
      (subst (λ (e : Given). AreSizesOf G (method_in e) (written_in e) t) (sym given)
      (subst (λ (v : SizeTable). AreSizesOf G (method_in own) (written_in own) v) (sym table) h))

  pub own_within :
      (x d : ℕ) (n : BlockSizes) → n ≡ counts_at H (method_in g) (written_in g) x d → {rows most sections : ℕ} →
      n.rows ≤ rows → largest n ≤ most → n.tuples ≤ sections →
      IsWithin G (method_in own) (written_in own) rows most sections x d
  own_within x d n is {rows = rows} {most = most} {sections = sections} few small short =
      let here : n ≡ counts_at G (method_in own) (written_in own) x d =
      is ∙ ap (λ (K : Graph). counts_at K (method_in g) (written_in g) x d) graph
      ∙ ap (λ (e : Given). counts_at G (method_in e) (written_in e) x d) given in
      subst (λ (k : BlockSizes). (k.rows ≤ rows) × (largest k ≤ most) × (k.tuples ≤ sections)) here (few, small, short)

pub top_of : {G H : Graph} → H ≡ G → IsTopVertex G (top_vertex G) → IsTopVertex H (top_vertex H)
top_of graph top = subst (λ (K : Graph). IsTopVertex K (top_vertex K)) (sym graph) top
