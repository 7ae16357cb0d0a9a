-- Numbers of sections, degree after degree.
use Rattle.std.proofs.Common.{◌≡◌, ℕ, suc, ◌+◌, ◌-◌, ◌*◌, ◌<◌, ◌≤◌, true, ltb, ◌&&◌, List, ◌++◌, length, get_or, refl, sym, ap, ◌∙◌, inl, inr, arith, length-append}
use Rattle.std.proofs.lemmas.Bool.{cases_eq, and_from, lt-ltb}
use Rattle.std.proofs.lemmas.List.{get_or_append_left, get_or-append_right}
use Rattle.bmp_graph.specs.Graph.{Graph, vertex_count, length_at}
use Rattle.bmp_cover.specs.BradenMacPherson.{IsTopVertex}
use Rattle.bmp_levels.proofs.Families.{families_are_counted}
use Rattle.bmp_cert.specs.Counts.{Written, part_of}
use Rattle.bmp_cert.specs.CertGrammar.{HavePartLines}
use Rattle.bmp_cert.proofs.CountLemmas.{place_below}
use Rattle.bmp_check.specs.declared.method.Method.{Method}
use Rattle.bmp_check.specs.declared.method.Method.TheVariants.{Spaces, Levels}
use Rattle.bmp_check.specs.BlockData.{block_of, top_vertex, tuples_at}
use Rattle.bmp_check.specs.PartsSheaf.{parts_sheaf}
use Rattle.bmp_check.specs.TupleCounts.{tuple_count, CountsDegree, HasTupleCounts}
use Rattle.bmp_check.proofs.FormLemmas.{part_formed}

-- the number from the text is that of the sections
pub tuples_counted :
    (G : Graph) (m : Method) (c : Written) → IsTopVertex G (top_vertex G) → (x d : ℕ) → x + 1 < vertex_count G →
    tuple_count G m c x d ≡ (tuples_at G m c x d).count
tuples_counted G Spaces c top x d vertex = refl
tuples_counted G Levels c top x d vertex =
    sym (families_are_counted G (parts_sheaf G c) d (top_vertex G) (λ y. block_of c y d) (suc (length_at G x))
    (top.longest x (omega (arith, vertex)) (λ same. omega (arith, same, vertex))))

-- one degree more
pub counts_more :
    (G : Graph) (m : Method) (c : Written) (D : ℕ) (numbers counts : List ℕ) {all : List ℕ} → all ≡ numbers ++ counts →
    CountsDegree G m c D counts → HasTupleCounts G m c D numbers → HasTupleCounts G m c (D + 1) all
counts_more G m c D numbers counts {all} joined of has =
    let n = vertex_count G in
    record {
      sized = omega (arith, ap length joined, length-append numbers counts, has.sized, of.sized);
      each = λ x d vertex degree. elim (cases_eq d D) [
        | inl last ↦
            let place : d * n + x - D * n ≡ x = omega (arith, ap (λ e. e * n) last) in
            let past : D * n ≤ d * n + x = omega (arith, ap (λ e. e * n) last) in
            ap (λ (l : List ℕ). get_or l (d * n + x) 0) joined
            ∙ get_or-append_right numbers counts (D * n) (d * n + x) 0 has.sized past
            ∙ ap (λ k. get_or counts k 0) place ∙ of.each x vertex ∙ ap (tuple_count G m c x) (sym last)
        | inr other ↦
            let below : d * n + x < D * n = place_below d D x n (omega arith) vertex in
            ap (λ (l : List ℕ). get_or l (d * n + x) 0) joined
            ∙ get_or_append_left numbers counts 0 (d * n + x) (omega (arith, below, has.sized))
            ∙ has.each x d vertex (omega arith)
      ];
    }

-- a vertex but the greatest has a block
pub has_its_block :
    {most v : ℕ} (c : Written) → HavePartLines v most c.degree c.parts → (d : ℕ) → d ≤ c.degree →
    (x : ℕ) → x + 1 < length c.parts →
    (ltb x (length c.parts) && ltb d (length (part_of c x).blocks)) ≡ true
has_its_block {most = most} c formed d degree x vertex =
    let blocks = (part_formed most c formed x vertex).blocks.0 in
    and_from (ltb x (length c.parts)) (ltb d (length (part_of c x).blocks)) (lt-ltb x (length c.parts) (omega arith))
    (lt-ltb d (length (part_of c x).blocks) (omega (arith, blocks)))

-- a shorter vertex isn't the greatest
pub not_greatest : (G : Graph) (x : ℕ) → x < vertex_count G → length_at G x < length_at G (vertex_count G - 1) →
    x + 1 < vertex_count G
not_greatest G x vertex shorter = elim (cases_eq x (vertex_count G - 1)) [
  | inl last ↦ let same : length_at G x ≡ length_at G (vertex_count G - 1) = ap (length_at G) last in
      absurd (omega (arith, same, shorter))
  | inr other ↦ omega arith
]
