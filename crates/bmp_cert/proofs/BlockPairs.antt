-- The block of one degree as a pair of a reader and a printed form.
use Rattle.std.proofs.Common.{◌≡◌, ℕ, ◌^◌, ◌<◌, ◌≤◌, Bool, true, false, cond, eqb-true, subst, List, [], ◌∷◌, ◌++◌, length, refl, sym, ap, ◌∙◌, arith, rules, codes}
use Rattle.std.proofs.lemmas.List.{append-nil}
use Rattle.std.specs.Fmt.{decimal}
use Rattle.bmp_cert.proofs.VectorPairs.{vectors_pair, rising_pair}
use Rattle.bmp_cert.specs.BlockGrammar.{space_counts, space_counts_text, level_counts, level_counts_text, line_counts, line_counts_text, kernel_lines, kernel_text, cover_lines, cover_text, space_block, space_block_text, level_block, level_block_text, block, counts_of, evidence_text, block_text, IsBlock}
use Rattle.bmp_cert.specs.VectorGrammar.{MOST, rising_places, rising_text, AreVectors, AreRising}
use Rattle.bmp_cert.specs.Versions.{by_spaces}
use Rattle.bmp_cert.specs.declared.line_counts.LineCounts.{LineCounts}
use Rattle.bmp_linear.specs.declared.blocks.DegreeBlock.{DegreeBlock}
use Rattle.bmp_linear.specs.declared.evidence.CoverEvidence.{CoverEvidence}
use Rattle.bmp_linear.specs.declared.evidence.KernelEvidence.{KernelEvidence}
use Rattle.bmp_text.proofs.LinePairs.{IsAny, IsFrom, natural_pair, line_pair}
use Rattle.bmp_text.proofs.Pairs.{Pair, give_pair, after_pair, pair_as, cond_pair}
use Rattle.bmp_text.proofs.WordLemmas.{IsPlainWord}
use Rattle.bmp_text.specs.Printing.{Chosen, line_text}
use Rattle.bmp_text.specs.Readers.{line}

-- ---- the first line

pub own_is : (d x : ℕ) → IsFrom d d x → d ≡ x
own_is d x h = omega arith

-- how many pivots, vectors and covers there may be
abbrev FewPivots : LineCounts → Type 0
FewPivots n = IsFrom 0 MOST n.pivots

abbrev FewVectors : LineCounts → Type 0
FewVectors n = IsFrom 0 MOST n.vectors

abbrev FewCovers : LineCounts → Type 0
FewCovers n = IsFrom 0 MOST n.covers

same_counts : (n m : LineCounts) → n.pivots ≡ m.pivots → n.vectors ≡ m.vectors → n.covers ≡ m.covers → n ≡ m
same_counts n m p v c =
    ap (λ x. made x n.vectors n.covers) p
    ∙ (ap (λ x. made m.pivots x n.covers) v ∙ ap (λ x. made m.pivots m.vectors x) c)
  where
    made : ℕ → ℕ → ℕ → LineCounts
    made p v c = record { pivots = p; vectors = v; covers = c }

-- by whole section spaces
abbrev AreSpaceCounts : LineCounts → Type 0
AreSpaceCounts n = FewPivots n × FewVectors n × (n.covers ≡ n.vectors)

space_counts_pair : (d : ℕ) → d < 2 ^ 63 → Pair IsPlainWord (space_counts d) (space_counts_text d) AreSpaceCounts
space_counts_pair d small = pair_as IsPlainWord (space_counts d) _ (space_counts_text d) _ AreSpaceCounts (λ n. refl)
    (λ n h. (h.1.0, h.1.1.0, ap (λ (t : LineCounts). t.covers) h.1.1.1))
    (λ n h. (
      (omega arith, omega arith),
      (
        h.0,
        (
          h.1,
          same_counts n (record { pivots = n.pivots; vectors = n.vectors; covers = n.vectors }) refl refl
              h.2,
        ),
      ),
    ))
    (after_pair IsPlainWord (λ (n : LineCounts). d) (natural_pair d d small) (λ own h0.
    after_pair IsPlainWord (λ (n : LineCounts). n.pivots) (natural_pair 0 MOST (omega arith)) (λ pivots h1.
    after_pair IsPlainWord (λ (n : LineCounts). n.vectors) (natural_pair 0 MOST (omega arith)) (λ tuples h2.
    give_pair IsPlainWord (record { pivots = pivots; vectors = tuples; covers = tuples }))
    (λ x n f h. ap (λ (t : LineCounts). t.vectors) h))
    (λ x n f h. ap (λ (t : LineCounts). t.pivots) h.1))
    (λ x n f h. own_is d x f))

-- by levels
abbrev AreLevelCounts : LineCounts → Type 0
AreLevelCounts n = FewPivots n × FewVectors n × FewCovers n

level_counts_pair : (d : ℕ) → d < 2 ^ 63 → Pair IsPlainWord (level_counts d) (level_counts_text d) AreLevelCounts
level_counts_pair d small = pair_as IsPlainWord (level_counts d) _ (level_counts_text d) _ AreLevelCounts (λ n. refl)
    (λ n h. (h.1.1.0, h.1.1.1.0, h.1.0)) (λ n h. ((omega arith, omega arith), (h.2, (h.0, (h.1, refl)))))
    (after_pair IsPlainWord (λ (n : LineCounts). d) (natural_pair d d small) (λ own h0.
    after_pair IsPlainWord (λ (n : LineCounts). n.covers) (natural_pair 0 MOST (omega arith)) (λ members h1.
    after_pair IsPlainWord (λ (n : LineCounts). n.pivots) (natural_pair 0 MOST (omega arith)) (λ pivots h2.
    after_pair IsPlainWord (λ (n : LineCounts). n.vectors) (natural_pair 0 MOST (omega arith)) (λ vectors h3.
    give_pair IsPlainWord (record { pivots = pivots; vectors = vectors; covers = members }))
    (λ x n f h. ap (λ (t : LineCounts). t.vectors) h))
    (λ x n f h. ap (λ (t : LineCounts). t.pivots) h.1))
    (λ x n f h. ap (λ (t : LineCounts). t.covers) h.1.1))
    (λ x n f h. own_is d x f))

abbrev AreLineCounts : ℕ → LineCounts → Type 0
AreLineCounts version n = Chosen (by_spaces version) (AreSpaceCounts n) (AreLevelCounts n)

counts_pair : (version d : ℕ) → d < 2 ^ 63 →
    Pair IsAny (line (codes "block") (line_counts version d))
    (λ n. line_text (codes "block") (line_counts_text version d n)) (AreLineCounts version)
counts_pair version d small =
    line_pair (codes "block") (line_counts version d) (line_counts_text version d) (AreLineCounts version)
    (search rules)
    (cond_pair IsPlainWord (by_spaces version) (space_counts d) (level_counts d) (space_counts_text d)
    (level_counts_text d) AreSpaceCounts AreLevelCounts
    (λ _. space_counts_pair d small) (λ _. level_counts_pair d small))

-- ---- kernel and covers

abbrev IsKernel : ℕ → List ℕ → ℕ → KernelEvidence → Type 0
IsKernel most pivots n k = (k.pivots ≡ pivots) × AreVectors most n k.basis × AreVectors most (length pivots) k.rows

abbrev IsCover : ℕ → ℕ → ℕ → CoverEvidence → Type 0
IsCover most n t e = AreVectors most n e.covers × AreVectors most t e.sources × AreVectors most t e.duals

module _ (most : ℕ) (small : most < 2 ^ 63) where
  kernel_pair : (word pivots : List ℕ) (n : ℕ) → IsPlainWord word →
      Pair IsAny (kernel_lines word most pivots n) (kernel_text word) (IsKernel most pivots n)
  unfolding kernel_lines
  kernel_pair word pivots n keyed =
      pair_as IsAny (kernel_lines word most pivots n) _ (kernel_text word) _ (IsKernel most pivots n)
      (λ k. simp append-nil)
      (λ k h. (ap (λ (t : KernelEvidence). t.pivots) h.1.1, h.0, h.1.0))
      (λ k h. (h.1, (h.2, ap (λ (ps : List ℕ). with_pivots k ps) h.0)))
      (after_pair IsAny (λ (k : KernelEvidence). k.basis) (vectors_pair word most n keyed small) (λ basis h0.
      after_pair IsAny (λ (k : KernelEvidence). k.rows)
      (vectors_pair (codes "row") most (length pivots) (search rules) small) (λ rows h1.
      give_pair IsAny (record { pivots = pivots; basis = basis; rows = rows }))
      (λ x k f h. ap (λ (t : KernelEvidence). t.rows) h))
      (λ x k f h. ap (λ (t : KernelEvidence). t.basis) h.1))
    where
      with_pivots : KernelEvidence → List ℕ → KernelEvidence
      with_pivots k ps = record { pivots = ps; basis = k.basis; rows = k.rows }

  cover_pair : (n t : ℕ) → Pair IsAny (cover_lines most n t) cover_text (IsCover most n t)
  unfolding cover_lines
  cover_pair n t = pair_as IsAny (cover_lines most n t) _ cover_text _ (IsCover most n t) (λ e. simp append-nil)
      (λ e h. (h.0, h.1.0, h.1.1.0)) (λ e h. (h.0, (h.1, (h.2, refl))))
      (after_pair IsAny (λ (e : CoverEvidence). e.covers) (vectors_pair (codes "cover") most n (search rules) small)
      (λ covers h0.
      after_pair IsAny (λ (e : CoverEvidence). e.sources) (vectors_pair (codes "source") most t (search rules) small)
      (λ sources h1.
      after_pair IsAny (λ (e : CoverEvidence). e.duals) (vectors_pair (codes "dual") most t (search rules) small)
      (λ duals h2.
      give_pair IsAny (record { covers = covers; sources = sources; duals = duals }))
      (λ x e f h. ap (λ (t : CoverEvidence). t.duals) h))
      (λ x e f h. ap (λ (t : CoverEvidence). t.sources) h.1))
      (λ x e f h. ap (λ (t : CoverEvidence). t.covers) h.1.1))

  -- ---- both orders

  module _ (t : ℕ) (n : LineCounts) (pivots : List ℕ) where
    abbrev IsEvidence : DegreeBlock → Type 0
    IsEvidence b = IsKernel most pivots n.vectors b.kernel × IsCover most n.covers t b.cover

    space_pair : Pair IsAny (space_block most t n pivots) space_block_text IsEvidence
    unfolding space_block
    space_pair = pair_as IsAny (space_block most t n pivots) _ space_block_text _ IsEvidence (λ b. simp append-nil)
        (λ b h. (h.0, h.1.0)) (λ b h. (h.0, (h.1, refl)))
        (after_pair IsAny (λ (b : DegreeBlock). b.kernel) (kernel_pair (codes "tuple") pivots n.vectors (search rules))
        (λ kernel h0.
        after_pair IsAny (λ (b : DegreeBlock). b.cover) (cover_pair n.covers t) (λ cover h1.
        give_pair IsAny (record { kernel = kernel; cover = cover }))
        (λ x b f h. ap (λ (y : DegreeBlock). y.cover) h))
        (λ x b f h. ap (λ (y : DegreeBlock). y.kernel) h.1))

    level_pair : Pair IsAny (level_block most t n pivots) level_block_text IsEvidence
    unfolding level_block
    level_pair = pair_as IsAny (level_block most t n pivots) _ level_block_text _ IsEvidence (λ b. simp append-nil)
        (λ b h. (h.1.0, h.0)) (λ b h. (h.1, (h.0, refl)))
        (after_pair IsAny (λ (b : DegreeBlock). b.cover) (cover_pair n.covers t) (λ cover h0.
        after_pair IsAny (λ (b : DegreeBlock). b.kernel) (kernel_pair (codes "basis") pivots n.vectors (search rules))
        (λ kernel h1.
        give_pair IsAny (record { kernel = kernel; cover = cover }))
        (λ x b f h. ap (λ (y : DegreeBlock). y.kernel) h))
        (λ x b f h. ap (λ (y : DegreeBlock). y.cover) h.1))

-- ---- the block

-- what is known of the numbers of lines in both versions
few_lines : (spaces : Bool) (n : LineCounts) → Chosen spaces (AreSpaceCounts n) (AreLevelCounts n) → (n.pivots ≤ MOST) ×
    (n.vectors ≤ MOST) × (n.covers ≤ MOST)
few_lines true n h = (h.0.1, h.1.1, omega (arith, h.1.1, h.2))
few_lines false n h = (h.0.1, h.1.1, h.2.1)

as_many : (version : ℕ) (n : LineCounts) → AreLineCounts version n → version ≡ 1 → n.covers ≡ n.vectors
as_many version n h first =
    let by_one : AreLineCounts 1 n = subst (λ (v : ℕ). AreLineCounts v n) first h in
    by_one.2

chosen_counts : (spaces : Bool) (n : LineCounts) → n.pivots ≤ MOST → n.vectors ≤ MOST → n.covers ≤ MOST →
    (spaces ≡ true → n.covers ≡ n.vectors) → Chosen spaces (AreSpaceCounts n) (AreLevelCounts n)
chosen_counts true n p v c many = ((omega arith, p), (omega arith, v), many refl)
chosen_counts false n p v c many = ((omega arith, p), (omega arith, v), (omega arith, c))

are_counts : (version : ℕ) (n : LineCounts) → n.pivots ≤ MOST → n.vectors ≤ MOST → n.covers ≤ MOST →
    (version ≡ 1 → n.covers ≡ n.vectors) → AreLineCounts version n
are_counts version n p v c many = chosen_counts (by_spaces version) n p v c (λ spaces. many (eqb-true version 1 spaces))

either : {A : Type 0} (b : Bool) → Chosen b A A → A
either true h = h
either false h = h

both : {A : Type 0} (b : Bool) → A → Chosen b A A
both true h = h
both false h = h

module _ (version most : ℕ) (at : ℕ → ℕ) (small : most < 2 ^ 63) where
  evidence_pair : (t : ℕ) (n : LineCounts) (pivots : List ℕ)
      → Pair IsAny (cond (by_spaces version) (space_block most t n pivots) (level_block most t n pivots))
      (evidence_text version) (IsEvidence most small t n pivots)
  evidence_pair t n pivots =
      pair_as IsAny _ _ (evidence_text version) _ (IsEvidence most small t n pivots) (λ b. refl)
      (λ b h. either (by_spaces version) h) (λ b h. both (by_spaces version) h)
      (cond_pair IsAny (by_spaces version) (space_block most t n pivots) (level_block most t n pivots) space_block_text
      level_block_text (IsEvidence most small t n pivots) (IsEvidence most small t n pivots)
      (λ _. space_pair most small t n pivots) (λ _. level_pair most small t n pivots))

  -- the parts of a block, one by one
  abbrev AreBlockParts : ℕ → DegreeBlock → Type 0
  AreBlockParts d b = AreLineCounts version (counts_of b) ×
      (AreRising (length b.kernel.pivots) b.kernel.pivots ×
      IsEvidence most small (at d) (counts_of b) b.kernel.pivots b)

  is_block : (d : ℕ) (b : DegreeBlock) → AreBlockParts d b → IsBlock version most at d b
  is_block d b h =
      let few = few_lines (by_spaces version) (counts_of b) h.0 in
      record {
        few_pivots = few.0;
        few_vectors = few.1;
        few_covers = few.2;
        as_many = as_many version (counts_of b) h.0;
        pivots = h.1.0;
        basis = h.1.1.0.1;
        rows = h.1.1.0.2;
        covers = h.1.1.1.0;
        sources = h.1.1.1.1;
        duals = h.1.1.1.2;
      }

  has_parts : (d : ℕ) (b : DegreeBlock) → IsBlock version most at d b → AreBlockParts d b
  has_parts d b h = (
    are_counts version (counts_of b) h.few_pivots h.few_vectors h.few_covers h.as_many,
    (h.pivots, ((refl, h.basis, h.rows), (h.covers, h.sources, h.duals))),
  )

  pub block_pair : (d : ℕ) → d < 2 ^ 63 →
      Pair IsAny (block version most at d) (block_text version d) (IsBlock version most at d)
  unfolding block
  block_pair d few =
      pair_as IsAny (block version most at d) _ (block_text version d) _ (IsBlock version most at d) (λ b. refl)
      (is_block d) (has_parts d)
      (after_pair IsAny counts_of (counts_pair version d few) (λ n h0.
      after_pair IsAny (λ (b : DegreeBlock). b.kernel.pivots)
      (line_pair (codes "pivots") (rising_places n.pivots) rising_text (AreRising n.pivots) (search rules)
      (rising_pair n.pivots)) (λ pivots h1.
      evidence_pair (at d) n pivots)
      (λ x b f h. h.0.0))
      (λ x b f h. same_counts (counts_of b) x h.0.0 h.1.0.1.0 h.1.1.0.0))
