-- The sizes of a vertex: lifts by number.
use Rattle.std.proofs.Common.{◌≡◌, ℕ, zero, suc, ◌+◌, ◌-◌, ◌*◌, ◌/◌, ◌%◌, ◌<◌, ◌≤◌, List, [], ◌∷◌, length, get_or, refl, sym, ap, ap₂, subst, ◌∙◌, inl, inr, arith, length-append}
use Rattle.std.proofs.lemmas.Bool.{cases_lt}
use Rattle.std.proofs.lemmas.List.{get_or_append_left, get_or-append_right}
use Rattle.std.proofs.lemmas.List.Elements.{All-get_or}
use Rattle.std.proofs.lemmas.Nat.{div_below, mod_below}
use Rattle.bmp_linear.specs.declared.vector.Entry.{Entry}
use Rattle.bmp_graph.specs.Graph.{Graph, IsGraph, IsUpRange, vertex_count, upper}
use Rattle.bmp_sheaf.specs.Coordinates.{stalk_count}
use Rattle.bmp_sheaf.specs.Written.{first_edge, up_count}
use Rattle.bmp_sheaf.proofs.UpEdges.{first_edge_is, up_count_is}
use Rattle.bmp_cert.specs.Counts.{Written, part_of}
use Rattle.bmp_cert.specs.declared.cert.VertexPart.{VertexPart}
use Rattle.bmp_cert.specs.CertGrammar.{IsPart}
use Rattle.bmp_check.specs.Sizes.{Size, is, at_most, need, listed, lift_size}
use Rattle.bmp_check.specs.SizeLists.{size_in}
use Rattle.bmp_check.specs.SizeTables.{IsReady}
use Rattle.bmp_check.specs.declared.sizes.SizeTable.{SizeTable}
use Rattle.bmp_check.proofs.FormLemmas.{degrees_most, part_formed}

-- ---- a list by numbers

pub length-listed : (f : ℕ → Size) (n : ℕ) → length (listed f n) ≡ n
length-listed f zero = refl
length-listed f (suc n) = omega (arith, length-append (listed f n) (f n ∷ []), length-listed f n)

pub get_or-listed : (f : ℕ → Size) (n i : ℕ) (d : Size) → i < n → get_or (listed f n) i d ≡ f i
get_or-listed f zero i d within = absurd (omega arith)
get_or-listed f (suc n) i d within = elim (cases_lt i n) [
  | inl before ↦
      let front : i < length (listed f n) = omega (arith, length-listed f n) in
      get_or_append_left (listed f n) (f n ∷ []) d i front ∙ get_or-listed f n i d before
  | inr from ↦
      let none : i - n ≡ 0 = omega arith in
      let last : n ≡ i = omega arith in
      get_or-append_right (listed f n) (f n ∷ []) n i d (length-listed f n) from
      ∙ ap (λ (k : ℕ). get_or (f n ∷ []) k d) none ∙ ap f last
]

-- ---- the edge and the generator of a lift

pub record LiftAt (part : VertexPart) (degree from to i : ℕ) : Type 0 where
  pub some : 0 < length part.degrees
  pub edge : from + i / length part.degrees < to
  pub most : get_or part.degrees (i % length part.degrees) 0 ≤ degree

-- numbers below a product
some_below : (m k i : ℕ) → i < m * k → 0 < k
some_below m zero i below = let none : m * 0 ≡ 0 = grind arith in absurd (omega (arith, none, below))
some_below m (suc k) i below = omega arith

lift_at : {v : ℕ} (part : VertexPart) (most degree x from to i : ℕ) → IsPart v most degree x part →
    part.edges ≡ to - from → i < length part.lifts → LiftAt part degree from to i
lift_at part most degree x from to i formed edges within =
    let k = length part.degrees in
    let below : i < part.edges * k = omega (arith, formed.lifts.0, within) in
    let some : 0 < k = some_below part.edges k i below in
    let row : i / k < part.edges = div_below i k part.edges some below in
    record {
      some = some;
      edge = omega (arith, row, edges);
      most = All-get_or (λ e. e ≤ degree) part.degrees (i % k) 0 (mod_below i k some)
          (degrees_most degree part.degrees formed.degrees);
    }

-- the size stands in the list at its place
pub record StandsIn (sizes : List Size) (i : ℕ) (size : Size) : Type 0 where
  pub within : i < length sizes
  pub read : size ≡ get_or sizes i size

module _ (G : Graph) (c : Written) (t : SizeTable) (x from to : ℕ) (part : VertexPart) {v : ℕ} (ready : IsReady G v c t)
    (graph : IsGraph G) (range : IsUpRange G x from to) (vertex : x + 1 < vertex_count G) (is_part : part ≡ part_of c x)
  where
    -- what holds of the size of the edges, from the numbers at hand
    pub edges_as : (P : List Size → Type 0) (m n : ℕ) → m ≡ part.edges → n ≡ to - from → P (is m n ∷ []) →
        P (is (part_of c x).edges (up_count G x) ∷ [])
    edges_as P m n left right h =
        subst P (ap₂ (λ (a b : ℕ). is a b ∷ []) (left ∙ ap (λ (v : VertexPart). v.edges) is_part)
        (right ∙ sym (up_count_is G x from to range))) h

    module _ (edges : part.edges ≡ to - from) (i : ℕ) (within : i < length part.lifts) where
      pub lift_here : LiftAt part c.degree from to i
      lift_here =
          lift_at part (G.prime - 1) c.degree x from to i
          (subst (IsPart v (G.prime - 1) c.degree x) (sym is_part)
          (part_formed (G.prime - 1) c ready.formed x (omega (arith, vertex, ready.vertices)))) edges within

      -- the size of a lift from its need and its room
      pub lift_stands :
          (needed room : ℕ) (v : List Entry) → v ≡ get_or part.lifts i [] → needed ≡ need v →
          room ≡ size_in t.stalks (upper G (from + i / length part.degrees))
          (get_or part.degrees (i % length part.degrees) 0) →
          StandsIn (listed (lift_size G c x) (length (part_of c x).lifts)) i (at_most needed room)
      lift_stands needed room v read need_is room_is =
          let k = length part.degrees in
          let u = upper G (from + i / k) in
          let e = get_or part.degrees (i % k) 0 in
          let ends : u < vertex_count G = (graph.ends (from + i / k) (omega (arith, lift_here.edge, range.within))).1 in
          let first : from ≡ first_edge G x = sym (first_edge_is G x from to range) in
          let size : at_most needed room ≡ lift_size G c x i =
          ap₂ (λ (a b : ℕ). at_most a b)
          (need_is ∙ ap need read ∙ ap (λ (w : VertexPart). need (get_or w.lifts i [])) is_part)
          (room_is ∙ ready.of.stalks.numbers u e ends lift_here.most
          ∙ ap₂ (λ (a : ℕ) (w : VertexPart). stalk_count G.rank (part_of c (upper G (a + i / length w.degrees))).degrees
          (get_or w.degrees (i % length w.degrees) 0)) first is_part) in
          let below : i < length (part_of c x).lifts =
          omega (arith, within, ap (λ (w : VertexPart). length w.lifts) is_part) in
          record {
            within = omega (arith, below, length-listed (lift_size G c x) (length (part_of c x).lifts));
            read = size ∙ sym
                (get_or-listed (lift_size G c x) (length (part_of c x).lifts) i (at_most needed room) below);
          }
