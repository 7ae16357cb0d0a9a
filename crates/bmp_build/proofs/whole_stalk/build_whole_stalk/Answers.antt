use Rattle.std.proofs.Common.{◌≡◌, ℕ, ◌+◌, ◌-◌, sym, ap, subst, ◌∙◌, arith}
use Rattle.bmp_graph.specs.Graph.{IsUpRange}
use Rattle.bmp_sheaf.specs.States.{with_stalk}
use Rattle.bmp_sheaf.proofs.UpEdges.{up_count_is}
use Rattle.bmp_stalk.specs.Drafts.{IsNext, IsDraft, IsLonger}
use Rattle.bmp_build.specs.WholeSpaces.{IsBuiltSpace}
use Rattle.bmp_build.proofs.WholeGrowth.{AreSpaces, spaces_more, whole_part_is_built}
use Rattle.bmp_build.proofs.whole_stalk.build_whole_stalk.Goals as goal

pub degrees-preserved : goal.degrees-preserved
degrees-preserved g c =
    let h = c.degrees.invariant in
    let d : ℕ = c.degrees.d in
    let x : ℕ = (c.vertices.result - 1) - c.pushed.result in
    let new = c.in_ok-built.built in
    record {
      drafted = c.in_ok-built.ensures.drafted;
      under = c.in_ok-built.ensures.under ∙ h.under;
      built =
          spaces_more (subst (λ w. IsNext w x) h.under h.drafted.next) h.built
          (λ e lower. subst (λ w. IsLonger w.graph x e c.degrees.draft new.draft) h.under
          (c.in_ok-built.ensures.longer e lower)) new.block
          (subst (λ w. IsBuiltSpace w x d new.block new.draft) h.under c.in_ok-built.ensures.built)
          c.in_ok-push.ensures.ok;
    }

pub returns : goal.returns
returns g c =
    let s = c.args.sheaf.now in
    let h = c.degrees.invariant in
    let x : ℕ = (c.vertices.result - 1) - c.pushed.result in
    let first : ℕ = c.up-first.result.0 in
    let past : ℕ = c.up-first.result.1 in
    let draft = c.degrees.draft in
    let range = subst (λ k. IsUpRange k x first past) c.graph-2.ensures.graph c.up-first.ensures.range in
    let bound : c.degree-d-end.result ≡ s.degree =
    c.degree-d-end.ensures.degree ∙ ap (λ w. w.degree) c.in_ok-draft.ensures.under in
    let all : c.degrees.d ≡ s.degree + 1 = omega (arith, c.degrees-test.false, c.degrees.auto.d-end, bound) in
    let end : IsDraft s x (s.degree + 1) draft =
    subst (λ n. IsDraft s x n draft) all (subst (λ w. IsDraft w x c.degrees.d draft) h.under h.drafted.draft) in
    whole_part_is_built (subst (λ w. IsNext w x) h.under h.drafted.next) end
    (subst (λ n. AreSpaces s x n c.degrees.blocks draft) all h.built)
    (h.drafted.last ∙ ap (λ w. with_stalk w draft) h.under) (sym (up_count_is s.graph x first past range))
    c.into_part.ensures
