-- Where all parts of a check pass, no comparison fails; where the blocks alone don't, theirs is the first that fails.
use Rattle.std.proofs.Common.{◌≡◌, ℕ, subst, inr}
use Rattle.bmp_graph.specs.Graph.{Graph}
use Rattle.bmp_cert.specs.Counts.{Written}
use Rattle.bmp_check.specs.declared.refusal.Refusal.{Refusal}
use Rattle.bmp_check.specs.Methods.{method_of}
use Rattle.bmp_check.specs.Verdicts.{BlocksPass, CountPasses, ShapePasses, TopPasses, Passes, IsFirstBlockRefusal, IsFirstRefusal}

-- H, w and e are the graph, the version and the parts of the blocks
module _ (G : Graph) (v : ℕ) (c : Written) {H : Graph} {w : ℕ} {e : Written} (graph : H ≡ G) (version : w ≡ v)
    (cert : e ≡ c) where
  -- what holds of the parts of the blocks
  as_given : (P : Graph → ℕ → Written → Type 0) → P H w e → P G v c
  as_given P h = subst (λ (d : Written). P G v d) cert
      (subst (λ (n : ℕ). P G n e) version (subst (λ (K : Graph). P K w e) graph h))

  pub all_pass : CountPasses G c → ShapePasses G (method_of v) c → TopPasses G c → BlocksPass H (method_of w) e →
      Passes G v c
  all_pass count shape top blocks = record {
    count = count;
    shape = shape;
    top = top;
    blocks = as_given (λ (K : Graph) (n : ℕ) (d : Written). BlocksPass K (method_of n) d) blocks;
  }

  pub block_refused :
      (r : Refusal) → CountPasses G c → ShapePasses G (method_of v) c → TopPasses G c →
      IsFirstBlockRefusal H (method_of w) e r → IsFirstRefusal G v c r
  block_refused r count shape top first =
      inr (
        count,
        inr (
          shape,
          inr (top, as_given (λ (K : Graph) (n : ℕ) (d : Written). IsFirstBlockRefusal K (method_of n) d r) first),
        ),
      )
