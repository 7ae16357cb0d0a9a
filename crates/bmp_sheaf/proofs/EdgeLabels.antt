-- The label of an edge, by its coordinates and the place of the first that is not 0.
use Rattle.std.proofs.Common.{◌≡◌, ℕ, zero, suc, ◌<◌, List, [], ◌∷◌, length, map, subst, arith}
use Rattle.std.specs.Prelude.{slice_index, slice_index_or}
use Rattle.bmp_poly.specs.Coordinates.{IsLeading}
use Rattle.bmp_poly.specs.Forms.{IsLabel}
use Rattle.bmp_poly.specs.Labels.{coordinates_of, rank_of, prime_of, leading_of}
use Rattle.bmp_graded.proofs.PassLaws.{label_cases}
use Rattle.bmp_graph.specs.declared.edge.Edge.{Edge}
use Rattle.bmp_graph.specs.Graph.{Graph, edge_count, label}
use Rattle.bmp_sheaf.specs.Coordinates.{leading}
use Rattle.bmp_sheaf.specs.Fields.{IsOverField}

-- the coordinates of the label of e
abbrev pub label_coordinates : Graph → ℕ → List ℕ
label_coordinates G e = slice_index_or (map (λ (d : Edge). coordinates_of d.label) G.edges) e []

leads_at : (edges : List Edge) (e p r : ℕ) → e < length edges →
    slice_index (map (λ (d : Edge). prime_of d.label) edges) e ≡ p →
    slice_index (map (λ (d : Edge). rank_of d.label) edges) e ≡ r →
    IsLeading p r (slice_index (map (λ (d : Edge). leading_of d.label) edges) e)
    (slice_index_or (map (λ (d : Edge). coordinates_of d.label) edges) e [])
leads_at [] e p r below prime rank = absurd (let none : e < 0 = below in omega arith)
leads_at (d ∷ edges) zero p r below prime rank =
    subst (λ p. IsLeading p r (leading_of d.label) (coordinates_of d.label)) prime
    (subst (λ r. IsLeading (prime_of d.label) r (leading_of d.label) (coordinates_of d.label)) rank d.label.leads)
leads_at (d ∷ edges) (suc e) p r below prime rank = let rest : suc e < suc (length edges) =
    below in leads_at edges e p r (omega arith) prime rank

module _ (G : Graph) (over : IsOverField G) (e : ℕ) (below : e < edge_count G) where
  pub label_leads : IsLeading G.prime G.rank (leading G e) (label_coordinates G e)
  label_leads = let has = over.is_graph.labels e below in leads_at G.edges e G.prime G.rank below has.1 has.0

  pub label_is : IsLabel G.prime G.rank (label G e) (leading G e)
  label_is =
      label_cases (λ p r. IsLabel p r (slice_index (label_coordinates G e)) (leading G e)) G.prime G.rank (leading G e)
      (label_coordinates G e) over.two over.inverses label_leads (λ q r is wide one. is)
