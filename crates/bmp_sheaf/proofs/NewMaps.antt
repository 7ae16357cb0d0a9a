-- The maps to the modules of the edges going up from a vertex, one after another, where a stalk comes to the vertex.
use Rattle.std.proofs.Common.{◌≡◌, ℕ, ◌+◌, ◌-◌, ◌*◌, ◌/◌, ◌%◌, ◌^◌, ◌<◌, ◌≤◌, cond, leb, List, [], ◌∷◌, ◌++◌, length, take, drop, get_or, refl, sym, ap, ap₂, subst, ◌∙◌, inl, inr, arith}
use Rattle.std.specs.Prelude.{slice_index, slice_range}
use Rattle.std.specs.List.{All}
use Rattle.std.proofs.Math.Path.{fun_ext}
use Rattle.std.proofs.lemmas.Bool.{cases_eq}
use Rattle.std.proofs.lemmas.List.{get_or_push, get_or_append_left, get_or-take, get_or-drop, length-take}
use Rattle.std.proofs.lemmas.Nat.{div-mul-add, mod-mul-add, mul-add-lt}
use Rattle.bmp_math.specs.Matrices.{Matrix, SameMatrix}
use Rattle.bmp_math.proofs.SumLemmas.{sum_below_same}
use Rattle.bmp_linear.specs.declared.vector.Entry.{Entry}
use Rattle.bmp_linear.specs.SparseVectors.{FitsBelow, ValuesBelow, number_at}
use Rattle.bmp_linear.specs.RowTables.{EntryTable, matrix_of_entries}
use Rattle.bmp_poly.specs.Products.{product}
use Rattle.bmp_poly.specs.Labels.{prime_of, leading_of, coordinate_of}
use Rattle.bmp_graph.specs.Graph.{Graph, IsGraph, IsUpRange, vertex_count, edge_count, lower, upper, label}
use Rattle.bmp_graph.proofs.GraphLemmas.{edge_rises}
use Rattle.bmp_graph.proofs.TableLemmas.{IsUpRange-has}
use Rattle.bmp_graded.proofs.CoordinateLemmas.{length_more}
use Rattle.bmp_sheaf.specs.Elements.{Element, extension}
use Rattle.bmp_sheaf.specs.Sheaves.{SheafData}
use Rattle.bmp_sheaf.specs.Coordinates.{stalk_count, element_of, leading}
use Rattle.bmp_sheaf.specs.Numbers.{edge_number, unit_at, lower_matrix}
use Rattle.bmp_sheaf.specs.Written.{first_edge, up_count, IsUpPlace, lift_place}
use Rattle.bmp_module.specs.NormalTables.{label_of}
use Rattle.bmp_module.specs.declared.normal_table.NormalTable.{NormalTable}
use Rattle.bmp_sheaf.specs.LabelTables.{IsTableOf}
use Rattle.bmp_sheaf.specs.EdgeMaps.{LiftsFit, lift_by, lower_map}
use Rattle.bmp_sheaf.specs.States.{Stalk, SheafState, stalk_of, next_vertex, with_stalk, sheaf_of}
use Rattle.bmp_sheaf.specs.StalkFaults.{IsStalk}
use Rattle.bmp_sheaf.specs.StalkTables.{StalkTable, AreMapsUp, IsStalkTable, stalk_in, map_place}
use Rattle.bmp_sheaf.specs.UpperTables.{AreUppers}
use Rattle.bmp_sheaf.proofs.UpEdges.{first_edge_is, up_count_is}
use Rattle.bmp_sheaf.proofs.StalkTableLemmas.{lift_fits}
use Rattle.bmp_sheaf.proofs.NewStalks.{stalk_new, degrees_kept, stalk_still, uppers_still}

-- a map from a free module is known by the images of its generators
extension_images : (r : ℕ) (degrees : List ℕ) (images others : ℕ → Element) (d : ℕ) →
    ((g : ℕ) → g < length degrees → images g ≡ others g) → extension r degrees images d ≡ extension r degrees others d
unfolding extension
extension_images r degrees images others d same =
    let term : (ℕ → Element) → Element → ℕ → List ℕ → ℕ → ℕ =
    λ im u h m g. cond (leb (slice_index degrees g) d) (product 6 r (d - slice_index degrees g) (u g) (im g h) m) 0 in
    fun_ext (λ u. fun_ext
    (λ h. fun_ext (λ m. sum_below_same (term images u h m) (term others u h m) (length degrees)
    (λ g below. ap (λ (a : Element). cond (leb (slice_index degrees g) d)
    (product 6 r (d - slice_index degrees g) (u g) (a h) m) 0) (same g below)))))

-- the maps by a table, by lists of degrees and by lifts, where these are the edge's own
module _ (G : Graph) (F : SheafData) (D e d n : ℕ) (t : NormalTable) (table : IsTableOf G D e t) (rank : n ≡ G.rank)
  where
    pub lower_map_is : (from into : List ℕ) (lifts : List (List Entry)) → from ≡ F.degrees (lower G e) →
        into ≡ F.degrees (upper G e) → ((g : ℕ) → g < length from → lift_by G.rank from into lifts g ≡ F.lift e g)
        → lower_map (prime_of (label_of t)) n (coordinate_of (label_of t)) (leading_of (label_of t)) from into lifts d
        ≡ lower_matrix G F d e
    lower_map_is from into lifts below above same =
        let x = label_of t in
        let M : ℕ → ℕ → (ℕ → ℕ) → ℕ → Matrix = λ p r c l. lower_map p r c l from into lifts d in
        let N : List ℕ → List ℕ → (Element → Element) → Matrix =
        λ a b lift. record {
          rows = stalk_count (G.rank - 1) b d;
          cols = stalk_count G.rank a d;
          entry = λ i j. edge_number G.prime G.rank (label G e) (leading G e) b d (lift (unit_at G.rank a d j)) i;
        } in
        ap (λ p. M p n (coordinate_of x) (leading_of x)) table.prime
        ∙ ap (λ r. M G.prime r (coordinate_of x) (leading_of x)) rank
        ∙ ap (λ c. M G.prime G.rank c (leading_of x)) table.coordinates
        ∙ ap (M G.prime G.rank (label G e)) table.leading
        ∙ ap (N from into) (extension_images G.rank from (lift_by G.rank from into lifts) (F.lift e) d same)
        ∙ ap (λ a. N a into (extension G.rank a (F.lift e) d)) below
        ∙ ap (λ b. N (F.degrees (lower G e)) b (extension G.rank (F.degrees (lower G e)) (F.lift e) d)) above

-- the lifts of one edge among those of all
module _ (lifts own : List (List Entry)) (start n : ℕ) (is : own ≡ slice_range lifts start (start + n)) where
  pub own_read : (g : ℕ) (v : List Entry) → g < n → get_or own g v ≡ get_or lifts (start + g) v
  own_read g v below =
      let many : (start + n) - start ≡ n = omega arith in
      ap (λ xs. get_or xs g v) is ∙ ap (λ k. get_or (take k (drop start lifts)) g v) many
      ∙ get_or-take n (drop start lifts) g v below ∙ get_or-drop start lifts g v

-- maps in the order of their places
pub record MapsBefore (M : ℕ → Matrix) (n : ℕ) (ts : List EntryTable) : Type 0 where
  pub counted : length ts ≡ n
  pub each : (k : ℕ) (t : EntryTable) → k < n → SameMatrix (matrix_of_entries (get_or ts k t)) (M k)

pub maps_none : (M : ℕ → Matrix) → MapsBefore M 0 []
maps_none M = record { counted = refl; each = λ k t below. absurd (let none : k < 0 = below in omega arith) }

pub maps_more : (M : ℕ → Matrix) (n : ℕ) (ts : List EntryTable) (t : EntryTable) → MapsBefore M n ts →
    SameMatrix (matrix_of_entries t) (M n) → MapsBefore M (n + 1) (ts ++ t ∷ [])
maps_more M n ts t h new = record {
  counted = omega (arith, length_more ts t, h.counted);
  each = λ k d below. elim (cases_eq k n) [
    | inl last ↦
        let at : get_or (ts ++ t ∷ []) k d ≡ t = get_or_push ts t d k (omega (arith, h.counted, last)) in
        subst (λ r. SameMatrix (matrix_of_entries r) (M k)) (sym at)
        (subst (λ z. SameMatrix (matrix_of_entries t) (M z)) (sym last) new)
    | inr other ↦
        let earlier : k < n = omega (arith, below, other) in
        let at : get_or (ts ++ t ∷ []) k d ≡ get_or ts k d =
        get_or_append_left ts (t ∷ []) d k (omega (arith, h.counted, earlier)) in
        subst (λ r. SameMatrix (matrix_of_entries r) (M k)) (sym at) (h.each k d earlier)
  ];
}

-- by edge from `from` on, and then by degree up to D
module _ (from D : ℕ) (N : ℕ → ℕ → Matrix) where
  abbrev pub by_edge : ℕ → Matrix
  by_edge k = N (k % (D + 1)) (from + k / (D + 1))

  pub by_edge_at : (e d : ℕ) → from ≤ e → d ≤ D → by_edge ((e - from) * (D + 1) + d) ≡ N d e
  by_edge_at e d past small =
      let below : d < D + 1 = omega (arith, small) in
      let back : from + (e - from) ≡ e = omega (arith, past) in
      ap₂ N (mod-mul-add (e - from) (D + 1) d below) (ap (λ z. from + z) (div-mul-add (e - from) (D + 1) d below)
      ∙ back)

  pub next_edge : (e : ℕ) → from ≤ e → (e - from) * (D + 1) + (D + 1) ≡ (e + 1 - from) * (D + 1)
  next_edge e past = let one : e + 1 - from ≡ (e - from) + 1 = omega (arith, past) in rw one (omega arith)

  pub maps_all : {F : Type 0} (s : SheafState F) (x to : ℕ) (ts : List EntryTable) → IsUpRange s.graph x from to →
      s.degree ≡ D → MapsBefore by_edge ((to - from) * (D + 1)) ts → AreMapsUp s x N ts
  maps_all s x to ts range bound h =
      let first : first_edge s.graph x ≡ from = first_edge_is s.graph x from to range in
      let count : up_count s.graph x ≡ to - from = up_count_is s.graph x from to range in
      record {
        counted = h.counted ∙ sym (ap₂ (λ a b. a * (b + 1)) count bound);
        each = λ e d t below starts small.
            let has = IsUpRange-has s.graph x from to e range below starts in
            let place : map_place s.graph s.degree e d ≡ (e - from) * (D + 1) + d =
            ap₂ (λ a b. (e - a) * (b + 1) + d) (ap (first_edge s.graph) starts ∙ first) bound in
            let within : (e - from) * (D + 1) + d < (to - from) * (D + 1) =
            omega (
              arith,
              mul-add-lt (e - from) (D + 1) d (to - from) (omega (arith, has.0, has.1))
                  (omega (arith, small, bound)),
            ) in
            subst (λ k. SameMatrix (matrix_of_entries (get_or ts k t)) (N d e)) (sym place)
            (subst (SameMatrix (matrix_of_entries (get_or ts ((e - from) * (D + 1) + d) t)))
            (by_edge_at e d has.0 (omega (arith, small, bound))) (h.each ((e - from) * (D + 1) + d) t within));
      }

-- the lower maps of each edge and degree, in this order
module _ {F : Type 0} (s : SheafState F) (from : ℕ) where
  abbrev lower_by_edge : ℕ → Matrix
  lower_by_edge = by_edge from s.degree (lower_matrix s.graph (sheaf_of s))

  abbrev pub LowerBefore : ℕ → List EntryTable → Type 0
  LowerBefore n ls = MapsBefore lower_by_edge n ls

  -- how many maps come before those of the edge e
  abbrev pub before_edge : ℕ → ℕ
  before_edge e = (e - from) * (s.degree + 1)

  pub up_none : LowerBefore (before_edge from) []
  up_none =
      let none : 0 ≡ before_edge from = let zero_of : from - from ≡ 0 = omega arith in rw zero_of (omega arith) in
      subst (λ n. LowerBefore n []) none (maps_none lower_by_edge)

  pub up_starts : (e : ℕ) (ls : List EntryTable) → LowerBefore (before_edge e) ls → LowerBefore (before_edge e + 0) ls
  up_starts e ls h = let same : before_edge e ≡ before_edge e + 0 = omega arith in subst (λ n. LowerBefore n ls) same h

  pub up_more : (e d : ℕ) (ls : List EntryTable) (l : EntryTable) → from ≤ e → d ≤ s.degree →
      SameMatrix (matrix_of_entries l) (lower_matrix s.graph (sheaf_of s) d e) → LowerBefore (before_edge e + d) ls →
      LowerBefore (before_edge e + (d + 1)) (ls ++ l ∷ [])
  up_more e d ls l past small lower_is h =
      let next : (before_edge e + d) + 1 ≡ before_edge e + (d + 1) = omega arith in
      subst (λ n. LowerBefore n (ls ++ l ∷ [])) next
      (maps_more lower_by_edge (before_edge e + d) ls l h
      (subst (λ (a : Matrix). SameMatrix (matrix_of_entries l) a)
      (sym (by_edge_at from s.degree (lower_matrix s.graph (sheaf_of s)) e d past small)) lower_is))

  pub up_ends : (e d : ℕ) (ls : List EntryTable) → from ≤ e → d ≡ s.degree + 1 → LowerBefore (before_edge e + d) ls →
      LowerBefore (before_edge (e + 1)) ls
  up_ends e d ls past last h =
      subst (λ n. LowerBefore n ls)
      (ap (λ z. before_edge e + z) last ∙ next_edge from s.degree (lower_matrix s.graph (sheaf_of s)) e past) h

  pub lower_all : (x to e : ℕ) (ls : List EntryTable) → IsUpRange s.graph x from to → e ≡ to →
      LowerBefore (before_edge e) ls → AreMapsUp s x (lower_matrix s.graph (sheaf_of s)) ls
  lower_all x to e ls range last h =
      maps_all from s.degree (lower_matrix s.graph (sheaf_of s)) s x to ls range refl
      (subst (λ z. LowerBefore (before_edge z) ls) last h)

-- the maps of the edge e, which goes up from the next vertex x as number k, are those of the sheaf with the stalk that
-- comes there
module _ {F : Type 0} (s : SheafState F) (left : length s.stalks < vertex_count s.graph) (is : IsGraph s.graph) (x : ℕ)
    (next : x ≡ next_vertex s) (degrees : List ℕ) (lifts : List (List Entry)) (e k : ℕ) (below : e < edge_count s.graph)
    (at : IsUpPlace s.graph x e k) (starts : lower s.graph e ≡ x) where
  abbrev came : Stalk
  came = record { degrees = degrees; lifts = lifts }

  abbrev pub then_state : SheafState F
  then_state = with_stalk s came

  abbrev then_sheaf : SheafData
  then_sheaf = sheaf_of then_state

  stalk_below : stalk_of then_state (lower s.graph e) ≡ came
  stalk_below = ap (stalk_of then_state) starts ∙ stalk_new s came left x next

  module _ (into : List ℕ) (into_is : into ≡ (stalk_of s (upper s.graph e)).degrees) where
    degrees_above : into ≡ (stalk_of then_state (upper s.graph e)).degrees
    degrees_above =
        let above : next_vertex s < upper s.graph e = omega (arith, edge_rises s.graph is e below, starts, next) in
        into_is ∙ sym (degrees_kept s came left (upper s.graph e) above (is.ends e below).1)

    module _ (n : ℕ) (own : List (List Entry)) (many : n ≡ length degrees)
        (own_is : own ≡ slice_range lifts (k * n) (k * n + n)) where
      lift_is : (g : ℕ) → g < length degrees → lift_by s.graph.rank degrees into own g ≡ then_sheaf.lift e g
      lift_is g inside =
          let element : List ℕ → Stalk → ℕ → Element =
          λ a b i. element_of s.graph.rank a (slice_index b.degrees g) (number_at (get_or b.lifts i [])) in
          let place : k * n + g ≡ lift_place s.graph (λ y. degrees) e g =
          ap₂ (λ a b. a * b + g) (at.place ∙ ap (λ y. e - first_edge s.graph y) (sym starts)) many in
          ap (λ v. element_of s.graph.rank into (slice_index degrees g) (number_at v))
          (own_read lifts own (k * n) n own_is g [] (omega (arith, inside, many)))
          ∙ ap (element into came) place
          ∙ ap (λ a. element a came (lift_place s.graph (λ y. degrees) e g)) degrees_above
          ∙ ap (λ b. element (stalk_of then_state (upper s.graph e)).degrees b
          ((e - first_edge s.graph (lower s.graph e)) * length b.degrees + g)) (sym stalk_below)

      module _ (d r : ℕ) (t : NormalTable) (table : IsTableOf s.graph s.degree e t) (rank : r ≡ s.graph.rank)
          (a : Matrix) where
        pub new_lower : SameMatrix a
            (lower_map (prime_of (label_of t)) r (coordinate_of (label_of t)) (leading_of (label_of t)) degrees into own
            d) → SameMatrix a (lower_matrix s.graph then_sheaf d e)
        new_lower same = subst (SameMatrix a)
            (lower_map_is s.graph then_sheaf s.degree e d r t table rank degrees into own
            (ap (λ (u : Stalk). u.degrees) (sym stalk_below)) degrees_above lift_is) same

      pub own_fit : (r : ℕ) → r ≡ s.graph.rank → IsStalk s x degrees lifts → LiftsFit r degrees into own
      own_fit r rank stalk g inside =
          let within : length own ≤ n =
          omega (arith, ap length own_is, length-take (k * n + n - k * n) (drop (k * n) lifts)) in
          let generator : g < length degrees = omega (arith, inside, within, many) in
          let read : get_or lifts (k * length degrees + g) [] ≡ get_or own g [] =
          sym (own_read lifts own (k * n) n own_is g [] (omega (arith, generator, many))
          ∙ ap (λ z. get_or lifts (k * z + g) []) many) in
          let room : stalk_count s.graph.rank (stalk_of s (upper s.graph e)).degrees (slice_index degrees g)
          ≡ stalk_count r into (slice_index degrees g) =
          ap₂ (λ a b. stalk_count a b (slice_index degrees g)) (sym rank) (sym into_is) in
          subst (FitsBelow (get_or own g [])) room
          (subst (λ v. FitsBelow v
          (stalk_count s.graph.rank (stalk_of s (upper s.graph e)).degrees (slice_index degrees g))) read
          (lift_fits s x degrees lifts stalk e k g at generator))

-- a table of the stalk that comes
pub new_table : {F : Type 0} {s : SheafState F} (left : length s.stalks < vertex_count s.graph) (is : IsGraph s.graph)
    {x : ℕ}
    (next : x ≡ next_vertex s) (t : StalkTable) → t.rank ≡ s.graph.rank → length t.degrees < 2 ^ 32
    → IsStalk s x t.degrees t.lifts → All (λ v. ValuesBelow v s.graph.prime) t.lifts
    → AreMapsUp (with_stalk s (stalk_in t)) x (lower_matrix s.graph (sheaf_of (with_stalk s (stalk_in t)))) t.lower
    → AreUppers s x t.uppers → IsStalkTable (with_stalk s (stalk_in t)) x t
new_table {s = s} left is {x} next t rank few stalk values lower_maps uppers =
    let here : stalk_of (with_stalk s (stalk_in t)) x ≡ stalk_in t = stalk_new s (stalk_in t) left x next in
    let at_least : next_vertex s ≤ x = omega (arith, next) in
    record {
      rank = rank;
      degrees = sym (ap (λ (u : Stalk). u.degrees) here);
      lifts = sym (ap (λ (u : Stalk). u.lifts) here);
      few = few;
      stalk = stalk_still s (stalk_in t) left is x at_least t.degrees t.lifts stalk;
      values = values;
      lower_maps = lower_maps;
      uppers = uppers_still s (stalk_in t) left is x at_least t.uppers uppers;
    }
