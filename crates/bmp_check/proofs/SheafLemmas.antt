-- The sheaf in memory is the one that the certificate writes down.
use Rattle.std.proofs.Common.{◌≡◌, ℕ, ◌-◌, ◌<◌, List, length, get_or, sym, ap, ap₂, subst, ◌∙◌, arith}
use Rattle.std.proofs.Math.Path.{fun_ext}
use Rattle.std.proofs.Math.ListN.{get_or-map}
use Rattle.std.proofs.lemmas.List.{length-map}
use Rattle.bmp_graph.specs.Graph.{Graph, IsGraph, vertex_count}
use Rattle.bmp_graph.proofs.GraphLemmas.{IsAbove-higher}
use Rattle.bmp_sheaf.specs.Sheaves.{SheafData}
use Rattle.bmp_sheaf.specs.Written.{written_sheaf}
use Rattle.bmp_sheaf.specs.States.{Stalk, no_stalk, SheafState, stalk_of, IsThere, sheaf_of}
use Rattle.bmp_sections.specs.Indexes.{AboveIsThere}
use Rattle.bmp_sections.proofs.AboveLemmas.{above_from_test}
use Rattle.bmp_cert.specs.Counts.{Written, no_part, part_of}
use Rattle.bmp_check.specs.PartsSheaf.{parts_sheaf}
use Rattle.bmp_check.specs.Shaped.{cert_stalk, IsSheafOf}
use Rattle.bmp_check.specs.Verdicts.{CountPasses}

module _ (G : Graph) (c : Written) (counted : CountPasses G c) {F : Type 0} (s : SheafState F) (of : IsSheafOf G c s)
  where
    same_count : vertex_count s.graph ≡ vertex_count G
    same_count = ap (λ (H : Graph). vertex_count H) of.graph

    stalk_is : (x : ℕ) → stalk_of s x ≡ cert_stalk (part_of c x)
    stalk_is x =
        ap₂ (λ (l : List Stalk) (n : ℕ). get_or l (n - 1 - x) no_stalk) of.stalks (same_count ∙ sym counted)
        ∙ get_or-map cert_stalk c.parts (length c.parts - 1 - x) no_part

    pub sheaf_is : sheaf_of s ≡ parts_sheaf G c
    sheaf_is =
        let stalks : (λ (x : ℕ). stalk_of s x) ≡ (λ (x : ℕ). cert_stalk (part_of c x)) = fun_ext stalk_is in
        ap₂ (λ (H : Graph) (at : ℕ → Stalk). written_sheaf H (λ x. (at x).degrees) (λ x. (at x).lifts)) of.graph stalks

    -- what holds of the written sheaf holds of that in memory, and the other way round
    pub in_memory : (P : Graph → SheafData → Type 0) → P G (parts_sheaf G c) → P s.graph (sheaf_of s)
    in_memory P h = subst (λ (H : Graph). P H (sheaf_of s)) (sym of.graph)
        (subst (λ (S : SheafData). P G S) (sym sheaf_is) h)

    pub as_written : (P : Graph → SheafData → Type 0) → P s.graph (sheaf_of s) → P G (parts_sheaf G c)
    as_written P h = subst (λ (S : SheafData). P G S) sheaf_is (subst (λ (H : Graph). P H (sheaf_of s)) of.graph h)

    -- each stalk is there
    pub is_there : (x : ℕ) → x < vertex_count G → IsThere s x
    is_there x below =
        let pushed : length s.stalks ≡ length c.parts = ap length of.stalks ∙ length-map c.parts cert_stalk in
        (omega (arith, same_count, below), omega (arith, same_count, pushed, counted))

    pub above_is_there : IsGraph G → (x : ℕ) → AboveIsThere s x
    above_is_there is x y above =
        let graph : IsGraph s.graph = subst IsGraph (sym of.graph) is in
        let higher = IsAbove-higher s.graph graph y x (above_from_test s.graph x y above) in
        is_there y (omega (arith, higher.is_vertex, same_count))
