-- Where no comparison fails, none is the first that fails.
use Rattle.std.proofs.Common.{ℕ, [], length, sym, ◌∙◌, inl, inr, eq-eqb}
use Rattle.std.proofs.lemmas.Option.{none-some}
use Rattle.bmp_graph.specs.Graph.{Graph, vertex_count}
use Rattle.bmp_cert.specs.Counts.{Written}
use Rattle.bmp_check.specs.declared.refusal.Refusal.{Refusal}
use Rattle.bmp_check.specs.declared.method.Method.TheVariants.{Spaces, Levels}
use Rattle.bmp_check.specs.declared.method.Method.{Method}
use Rattle.bmp_check.specs.Methods.{method_of}
use Rattle.bmp_check.specs.Verdicts.{BlockPasses, IsBlockRefusal, Passes, IsCountRefusal, IsShapeRefusal, IsFirstBlockRefusal, count_comparison}
use Rattle.bmp_check.specs.Accepted.{NoneFailsBesidePasses}
use Rattle.bmp_check.proofs.SizeCheckLemmas.{first_passes}

-- a block that passes refuses nothing
block_refuses_none : (G : Graph) (m : Method) (c : Written) (x d : ℕ) (r : Refusal) → BlockPasses G m c x d →
    IsBlockRefusal G m c x d r → ⊥
block_refuses_none G Spaces c x d r passes (inl kernel) = kernel.1.differs (passes.0 kernel.0 kernel.1.compared)
block_refuses_none G Spaces c x d r passes (inr cover) = cover.1.1.differs (passes.1 cover.1.0 cover.1.1.compared)
block_refuses_none G Levels c x d r passes (inl cover) = cover.1.differs (passes.1 cover.0 cover.1.compared)
block_refuses_none G Levels c x d r passes (inr kernel) = kernel.1.1.differs (passes.0 kernel.1.0 kernel.1.1.compared)

module _ (G : Graph) (v : ℕ) (c : Written) (r : Refusal) (passes : Passes G v c) where
  count_refuses_none : IsCountRefusal G c r → ⊥
  count_refuses_none refused =
      none-some r (sym (first_passes (count_comparison G c) [] (eq-eqb (length c.parts) (vertex_count G) passes.count))
      ∙ refused)

  shape_refuses_none : IsShapeRefusal G (method_of v) c r → ⊥
  shape_refuses_none refused =
      none-some r (sym (passes.shape refused.vertex refused.degree refused.block) ∙ refused.first)

  blocks_refuse_none : IsFirstBlockRefusal G (method_of v) c r → ⊥
  blocks_refuse_none refused =
      block_refuses_none G (method_of v) c refused.vertex refused.degree r
      (passes.blocks refused.vertex refused.degree refused.block) refused.first

pub none_fails : NoneFailsBesidePasses
none_fails G v c r passes (inl refused) = count_refuses_none G v c r passes refused
none_fails G v c r passes (inr later) = elim later.1 [
  | inl refused ↦ shape_refuses_none G v c r passes refused
  | inr blocks ↦ elim blocks.1 [
    | inl refused ↦ none-some r (sym passes.top ∙ refused)
    | inr last ↦ blocks_refuse_none G v c r passes last.1
  ]
]
