-- The sizes of a vertex and degree as one list, and the answer to them.
use Rattle.std.proofs.Common.{◌≡◌, ◌≢◌, ℕ, eqb, List, ◌++◌, None, Some, Result, Ok, Err, MatchResult, sym, ap₂, subst, eq-eqb, ne_eqb}
use Rattle.std.proofs.lemmas.Bool.{cond-true, cond-false}
use Rattle.bmp_linear.specs.declared.blocks.DegreeBlock.{DegreeBlock}
use Rattle.bmp_graph.specs.Graph.{Graph}
use Rattle.bmp_cert.specs.Counts.{Written}
use Rattle.bmp_check.specs.declared.refusal.Refusal.{Refusal}
use Rattle.bmp_check.specs.declared.sizes.BlockSizes.{BlockSizes}
use Rattle.bmp_check.specs.declared.size_check.SizeCheck.{SizeCheck}
use Rattle.bmp_check.specs.Comparisons.{first_failure}
use Rattle.bmp_check.specs.declared.method.Method.{Method}
use Rattle.bmp_check.specs.BlockData.{block_of}
use Rattle.bmp_check.specs.Sizes.{Size, counts_at, sizes_of_block, vertex_sizes, block_sizes, shape_sizes, shape_comparisons, numbered}
use Rattle.bmp_check.specs.SizeChecks.{Compares}
use Rattle.bmp_check.specs.Verdicts.{ShapePassesAt}

abbrev pub start : ℕ → ℕ → SizeCheck
start x d = record { vertex = x; degree = d; index = 0 }

module _ (G : Graph) (m : Method) (c : Written) (x d : ℕ) where
  -- in degree 0 the sizes of the vertex come first
  pub sizes_first : d ≡ 0 → shape_sizes G m c x d ≡ vertex_sizes G c x ++ block_sizes G m c x d
  sizes_first first =
      cond-true {A = List Size} (eqb d 0) (vertex_sizes G c x ++ block_sizes G m c x d) (block_sizes G m c x d)
      (eq-eqb d 0 first)

  pub sizes_later : d ≢ 0 → shape_sizes G m c x d ≡ block_sizes G m c x d
  sizes_later later =
      cond-false {A = List Size} (eqb d 0) (vertex_sizes G c x ++ block_sizes G m c x d) (block_sizes G m c x d)
      (ne_eqb d 0 later)

  abbrev pub AnswersShape : Result (Unit {0}) Refusal → Type 0
  AnswersShape result =
      MatchResult result (λ u. ShapePassesAt G m c x d) (λ r. first_failure (shape_comparisons G m c x d) ≡ Some r)

  pub answers_shape : (new : SizeCheck) (sizes : List Size) (result : Result (Unit {0}) Refusal) →
      shape_sizes G m c x d ≡ sizes → Compares (start x d) new sizes result → AnswersShape result
  answers_shape new sizes (Ok done) same h =
      subst (λ (l : List Size). first_failure (numbered x d 0 l) ≡ None) (sym same) h.0
  answers_shape new sizes (Err r) same h =
      subst (λ (l : List Size). first_failure (numbered x d 0 l) ≡ Some r) (sym same) h

  pub block_compares :
      (s t : SizeCheck) (n : BlockSizes) (b : DegreeBlock) (result : Result (Unit {0}) Refusal) →
      n ≡ counts_at G m c x d → b ≡ block_of c x d →
      Compares s t (sizes_of_block m n b) result → Compares s t (block_sizes G m c x d) result
  block_compares s t n b result counts block h =
      subst (λ (l : List Size). Compares s t l result)
      (ap₂ (λ (k : BlockSizes) (a : DegreeBlock). sizes_of_block m k a) counts block) h
