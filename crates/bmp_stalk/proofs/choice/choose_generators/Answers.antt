use Rattle.std.proofs.Common.{◌≡◌, ℕ, ap, subst, ◌∙◌}
use Rattle.bmp_math.specs.Matrices.{Matrix}
use Rattle.bmp_elim.specs.Eliminations.{IsEvidenceOf}
use Rattle.bmp_elim.specs.KeptColumns.{HasColumnDuals, HasColumnSums, AreColumns, kept_columns}
use Rattle.bmp_sheaf.specs.Coordinates.{stalk_count}
use Rattle.bmp_sheaf.specs.States.{sheaf_of}
use Rattle.bmp_stalk.proofs.choice.choose_generators.Goals as goal

pub returns : goal.returns
returns g c =
    let G = c.args.sheaf.now.graph in
    let o : Matrix = g.A.Rows.matrix c.in_ok-o.o in
    let e = c.in_ok-e.e in
    let split : ℕ = c.stalk_len-split.result in
    let prime : g.F.Field.size c.field-f.result.now ≡ G.prime =
    ap g.F.Field.size c.field-f.ensures.field ∙ c.field-f.ensures.size in
    let at : split ≡ stalk_count G.rank ((sheaf_of c.args.sheaf.now).degrees c.args.x) c.args.d =
    c.stalk_len-split.ensures in
    record {
      o = o;
      so_far = c.in_ok-o.ensures.joined;
      read = record {
        columns = subst (λ n. AreColumns n o e.chosen) at c.in_ok-e.ensures.chosen;
        covers = subst (λ n. HasColumnSums G.prime n o e.chosen e.sums) at
            (subst (λ q. HasColumnSums q split o e.chosen e.sums) prime c.in_ok-e.ensures.sums);
        sources = c.in_ok-sources.ensures;
        duals = subst (λ n. HasColumnDuals G.prime n o e.chosen e.duals) at
            (subst (λ q. HasColumnDuals q split o e.chosen e.duals) prime c.in_ok-e.ensures.duals);
      };
      kernel = subst (λ n. IsEvidenceOf G.prime (kept_columns n e.chosen o) e.kernel) at
          (subst (λ q. IsEvidenceOf q (kept_columns split e.chosen o) e.kernel) prime c.in_ok-e.ensures.kernel);
    }
