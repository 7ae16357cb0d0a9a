-- A table for each edge, one edge after another.
use Rattle.std.proofs.Common.{◌≡◌, ℕ, ◌+◌, ◌<◌, ◌≤◌, List, [], ◌∷◌, ◌++◌, Some, length, get_or, refl, sym, ap, subst, ◌∙◌, inl, inr, arith}
use Rattle.std.specs.Prelude.{slice_get}
use Rattle.std.specs.List.{All}
use Rattle.std.proofs.lemmas.Bool.{cases_eq}
use Rattle.std.proofs.lemmas.List.{get_or_push, get_or_append_left}
use Rattle.std.proofs.lemmas.List.Elements.{All-push}
use Rattle.std.proofs.lemmas.Option.{get_or_from_slice_get}
use Rattle.bmp_poly.specs.declared.label.Label.{Label}
use Rattle.bmp_poly.specs.Labels.{prime_of, rank_of, leading_of, coordinate_of}
use Rattle.bmp_graph.specs.declared.edge.Edge.{Edge}
use Rattle.bmp_graph.specs.Graph.{Graph, edge_count, label}
use Rattle.bmp_graph.proofs.GraphLemmas.{edge_number}
use Rattle.bmp_graded.proofs.CoordinateLemmas.{length_more}
use Rattle.bmp_module.specs.declared.normal_table.NormalTable.{NormalTable}
use Rattle.bmp_sheaf.specs.Coordinates.{leading}
use Rattle.bmp_module.specs.NormalTables.{label_of, degrees_of}
use Rattle.bmp_sheaf.specs.LabelTables.{IsBy, IsTableOf, HasTable, HasTables, AreByDifferentLabels}

-- the leading variable of an edge's label
pub leading_is : (G : Graph) (e : ℕ) (d : Edge) → e < edge_count G → slice_get G.edges e ≡ Some d →
    leading_of d.label ≡ leading G e
leading_is G e d within read =
    edge_number (λ (d : Edge). leading_of d.label) G.edges e d within (sym (get_or_from_slice_get G.edges e d d read))

-- as long as the tables before, and the same at their numbers
record Extends (old new : List NormalTable) : Type 0 where
  pub longer : length old ≤ length new
  pub same : (k : ℕ) (t : NormalTable) → k < length old → get_or new k t ≡ get_or old k t

extends_itself : (tables : List NormalTable) → Extends tables tables
extends_itself tables = record { longer = omega arith; same = λ k t below. refl }

extends_pushed : (tables : List NormalTable) (u : NormalTable) → Extends tables (tables ++ u ∷ [])
extends_pushed tables u = record {
  longer = omega (arith, length_more tables u);
  same = λ k t below. get_or_append_left tables (u ∷ []) t k below;
}

-- each of the first n edges has its table, and each table has the degrees from 0 to D
pub record IsTabled (G : Graph) (D n : ℕ) (tables : List NormalTable) (numbers : List ℕ) : Type 0 where
  pub each : HasTables G D n tables numbers
  pub degrees : All (λ t. degrees_of t ≡ D + 1) tables
  pub different : AreByDifferentLabels tables

-- another table by a label that none of them is by
different_more : (tables : List NormalTable) (u : NormalTable) → AreByDifferentLabels tables →
    ((k : ℕ) (t : NormalTable) → k < length tables → IsBy (get_or tables k t) (label_of u) → ⊥) →
    AreByDifferentLabels (tables ++ u ∷ [])
different_more tables u h new i j t before inside =
    let most : j < length tables + 1 = omega (arith, inside, length_more tables u) in
    let kept : (k : ℕ) → k < length tables → get_or (tables ++ u ∷ []) k t ≡ get_or tables k t =
    λ k below. get_or_append_left tables (u ∷ []) t k below in
    let first : i < length tables = omega arith in
    elim (cases_eq j (length tables)) [
      | inl last ↦ λ by.
          let at : get_or (tables ++ u ∷ []) j t ≡ u = get_or_push tables u t j (sym last) in
          new i t first (subst (λ z. IsBy (get_or tables i t) (label_of z)) at
          (subst (λ z. IsBy z (label_of (get_or (tables ++ u ∷ []) j t))) (kept i first) by))
      | inr other ↦ λ by.
          let second : j < length tables = omega arith in
          h i j t before second
          (subst (λ z. IsBy (get_or tables i t) (label_of z)) (kept j second)
          (subst (λ z. IsBy z (label_of (get_or (tables ++ u ∷ []) j t))) (kept i first) by))
    ]

module _ (G : Graph) (D : ℕ) where
  pub tabled_none : IsTabled G D 0 [] []
  tabled_none = record {
    each = record { sized = refl; each = λ e below. absurd (omega arith) };
    degrees = λ k d below. absurd (let none : k < 0 = below in omega arith);
    different =
        λ i j t before below. absurd (let none : j < 0 = below in omega arith);
  }

  -- one edge more
  tables_more : (n k : ℕ) (old new : List NormalTable) (numbers : List ℕ) → HasTables G D n old numbers →
      Extends old new → HasTable G D new k n → HasTables G D (n + 1) new (numbers ++ k ∷ [])
  tables_more n k old new numbers h more last =
      let sized : length numbers ≡ n = h.sized in
      record {
        sized = length_more numbers k ∙ ap (λ z. z + 1) sized;
        each = λ e below. elim (cases_eq e n) [
          | inl here ↦ let at : get_or (numbers ++ k ∷ []) e 0 ≡ k = get_or_push numbers k 0 e (sized ∙ sym here) in
              subst (λ z. HasTable G D new z e) (sym at) (subst (HasTable G D new k) (sym here) last)
          | inr other ↦
              let before : e < n = omega arith in
              let at : get_or (numbers ++ k ∷ []) e 0 ≡ get_or numbers e 0 =
              get_or_append_left numbers (k ∷ []) 0 e (omega (arith, sized, before)) in
              let table : HasTable G D old (get_or numbers e 0) e = h.each e before in
              subst (λ z. HasTable G D new z e) (sym at) (record {
                number = omega (arith, table.number, more.longer);
                is = λ t. subst (IsTableOf G D e) (sym (more.same (get_or numbers e 0) t table.number)) (table.is t);
              })
        ];
      }

  module _ (e : ℕ) (x : Label) (prime : prime_of x ≡ G.prime) (rank : rank_of x ≡ G.rank)
      (lead : leading_of x ≡ leading G e) (coordinates : coordinate_of x ≡ label G e) (tables : List NormalTable)
      (numbers : List ℕ) (k : ℕ) (h : IsTabled G D e tables numbers) where
    table_by : (t : NormalTable) → IsBy t x → degrees_of t ≡ D + 1 → IsTableOf G D e t
    table_by t by degrees =
        record {
          prime = ap prime_of by ∙ prime;
          rank = ap rank_of by ∙ rank;
          leading = ap leading_of by ∙ lead;
          coordinates = ap coordinate_of by ∙ coordinates;
          degrees = degrees;
        }

    -- a table that was there
    pub tabled_found : k < length tables → ((t : NormalTable) → k < length tables → IsBy (get_or tables k t) x) →
        IsTabled G D (e + 1) tables (numbers ++ k ∷ [])
    tabled_found below by = record {
      each = tables_more e k tables tables numbers h.each (extends_itself tables)
          (record { number = below; is = λ t. table_by (get_or tables k t) (by t below) (h.degrees k t below) });
      degrees = h.degrees;
      different = h.different;
    }

    -- a table that was made
    pub tabled_made : (u : NormalTable) → k ≡ length tables → label_of u ≡ x → degrees_of u ≡ D + 1 →
        ((i : ℕ) (t : NormalTable) → i < k → IsBy (get_or tables i t) x → ⊥) →
        IsTabled G D (e + 1) (tables ++ u ∷ []) (numbers ++ k ∷ [])
    tabled_made u last is degrees new =
        let table : HasTable G D (tables ++ u ∷ []) k e = record {
          number = omega (arith, last, length_more tables u);
          is = λ t. subst (IsTableOf G D e) (sym (get_or_push tables u t k (sym last))) (table_by u is degrees);
        } in
        record {
          each = tables_more e k tables (tables ++ u ∷ []) numbers h.each (extends_pushed tables u) table;
          degrees = All-push (λ t. degrees_of t ≡ D + 1) tables u h.degrees degrees;
          different = different_more tables u h.different
              (λ i t below by. new i t (omega (arith, below, last)) (subst (IsBy (get_or tables i t)) is by));
        }
