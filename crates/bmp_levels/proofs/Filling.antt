-- An extension in memory, vertex by vertex from the greatest down.
use Rattle.std.proofs.Common.{◌≡◌, ◌≢◌, ℕ, suc, ◌+◌, ◌-◌, ◌<◌, ◌≤◌, length, leb}
use Rattle.std.proofs.Common.{refl, sym, ap, subst, ◌∙◌, inl, inr, arith}
use Rattle.std.proofs.lemmas.Bool.{cases_eq, cases_lt, cond-true, le-leb}
use Rattle.bmp_math.specs.Sums.{sum_below}
use Rattle.bmp_math.proofs.SumLemmas.{sum_below_more, sum_below_joined}
use Rattle.bmp_graph.specs.Graph.{vertex_count, length_at}
use Rattle.bmp_linear.specs.declared.blocks.DegreeBlock.{DegreeBlock}
use Rattle.bmp_linear.specs.Evidence.{vector_at}
use Rattle.bmp_sheaf.specs.States.{SheafState, sheaf_of}
use Rattle.bmp_levels.specs.Levels.{level_vertices}
use Rattle.bmp_levels.specs.Families.{falling, new_at, new_start, new_count, new_value, extended_value, stalk_size}
use Rattle.bmp_levels.specs.Runs.{RunTable, run_value, FamilyTable, IsFamilyTable, run_at, list_of}
use Rattle.bmp_levels.specs.Runs.{joined_value, IsRunAdded}
use Rattle.bmp_levels.specs.Extensions.{IsFirst, HoldsLevel, BlockFits, IsExtension}
use Rattle.bmp_levels.proofs.MemberValues.{sum_none, vector_past, new_at_is, new_at_none, new_before, new_from}
use Rattle.bmp_levels.proofs.MemberValues.{at_level, off_level, old_here, old_away}
use Rattle.bmp_levels.proofs.RunLemmas.{joined_covers, joined_basis}
use Rattle.bmp_levels.proofs.FamilyRuns.{has_from, later_member, one_run_more, run_stays, run_next}

-- the runs of the first b vertices from the greatest down are those of the extension of f
pub record IsFilled {A : Type 0} (s : SheafState A) (k d : ℕ) (block : ℕ → DegreeBlock) (f : FamilyTable) (b : ℕ)
    (new : FamilyTable) : Type 0 where
  pub vertices : new.vertices ≡ vertex_count s.graph
  pub runs : length new.runs ≡ b
  pub count : new.count ≡ f.count + sum_below (λ z. new_at s.graph k block (falling s.graph z)) b
  pub sizes :
      (y : ℕ) → y < vertex_count s.graph → vertex_count s.graph ≤ y + b →
      (run_at new y).size ≡ stalk_size s.graph (sheaf_of s) d y
  pub values :
      (j y c : ℕ) → y < vertex_count s.graph → vertex_count s.graph ≤ y + b →
      run_value (run_at new y) j c ≡ extended_value s.graph k block (list_of f) j y c

module _ {A : Type 0} {s : SheafState A} {k d : ℕ} (block : ℕ → DegreeBlock) {f : FamilyTable} (is : IsFamilyTable f)
    (longer : HoldsLevel s (suc k) d f) where
  -- what stands is as the extension has it
  stays :
      (j y c : ℕ) → y < vertex_count s.graph → vertex_count s.graph ≤ y + length f.runs →
      run_value (run_at f y) j c ≡ extended_value s.graph k block (list_of f) j y c
  stays j y c below there =
      let long : suc k ≤ length_at s.graph y = longer.only y below there in
      let other : length_at s.graph y ≢ k = λ same. omega arith in
      elim (cases_lt j f.count) [
        | inl old ↦ sym (ap (λ (v : ℕ → ℕ). v c) (old_away s.graph k block (list_of f) j y old other))
        | inr new ↦
            later_member f is j y c (omega (arith, longer.vertices, below)) (omega (arith, longer.vertices, there)) new
            ∙ sym (ap (λ (v : ℕ → ℕ). v c)
            (off_level s.graph k block (list_of f) j y other
            ∙ cond-true {A = ℕ → ℕ} (leb f.count j) (λ i. 0) ((list_of f).value j y) (le-leb f.count j new)))
      ]

  pub filled_first : IsFilled s k d block f (length f.runs) f
  filled_first =
      let size : ℕ → ℕ = λ z. new_at s.graph k block (falling s.graph z) in
      let none : sum_below size (length f.runs) ≡ 0 =
      sum_none size (length f.runs) (λ z below.
      new_at_none s.graph k block (falling s.graph z)
      (λ same.
      let few = is.few in
      let long : suc k ≤ length_at s.graph (falling s.graph z) =
      longer.only (falling s.graph z) (omega (arith, few, longer.vertices, below))
      (omega (arith, few, longer.vertices, below)) in omega arith)) in
      record {
        vertices = longer.vertices;
        runs = refl;
        count = omega (arith, none);
        sizes = λ y below there. longer.sizes y (below, longer.only y below there);
        values = stays;
      }

module _ {A : Type 0} {s : SheafState A} {k d : ℕ} {block : ℕ → DegreeBlock} {f old new : FamilyTable} {b y : ℕ}
    (h : IsFilled s k d block f b old) (at : y + suc b ≡ vertex_count s.graph) (here : length_at s.graph y ≡ k)
    (fits : BlockFits s d f.count y (block y))
    (added :
    IsRunAdded (stalk_size s.graph (sheaf_of s) d y) (block y).cover.covers (block y).kernel.basis old new) where
  before_is : old.count ≡ f.count + new_start s.graph k block y
  before_is =
      let turned : falling s.graph y ≡ b = omega arith in
      h.count ∙ ap (λ n. f.count + sum_below (λ z. new_at s.graph k block (falling s.graph z)) n) (sym turned)

  abbrev covers_basis : ℕ → ℕ → ℕ
  covers_basis = joined_value old.count (block y).cover.covers (block y).kernel.basis

  -- a member that there was
  old_value : (j c : ℕ) → j < f.count → covers_basis j c ≡ extended_value s.graph k block (list_of f) j y c
  old_value j c before =
      joined_covers old.count (block y).cover.covers (block y).kernel.basis j c (omega (arith, before, before_is))
      ∙ sym (ap (λ (v : ℕ → ℕ). v c) (old_here s.graph k block (list_of f) j y before here))

  -- a new one
  new_is :
      (j c : ℕ) → f.count ≤ j →
      extended_value s.graph k block (list_of f) j y c ≡ new_value s.graph k block (j - f.count) y c
  new_is j c from =
      ap (λ (v : ℕ → ℕ). v c)
      (at_level s.graph k block (list_of f) j y here
      ∙ cond-true {A = ℕ → ℕ} (leb f.count j) (new_value s.graph k block (j - f.count) y)
      (vector_at (block y).cover.covers j)
      (le-leb f.count j from))

  own_value : (j c : ℕ) → covers_basis j c ≡ extended_value s.graph k block (list_of f) j y c
  own_value j c = elim (cases_lt j f.count) [
    | inl before ↦ old_value j c before
    | inr from ↦ elim (cases_lt j old.count) [
      | inl earlier ↦
          joined_covers old.count (block y).cover.covers (block y).kernel.basis j c earlier
          ∙ vector_past (block y).cover.covers j c (omega (arith, fits.covers, from))
          ∙ sym (new_is j c from
          ∙ new_before s.graph k block (j - f.count) y c (omega (arith, earlier, from, before_is)))
      | inr own ↦
          let place : (j - f.count) - new_start s.graph k block y ≡ j - old.count = omega (arith, before_is) in
          joined_basis old.count (block y).cover.covers (block y).kernel.basis j c own
          ∙ sym (new_is j c from
          ∙ ap (λ (v : ℕ → ℕ). v c)
          (new_from s.graph k block (j - f.count) y (omega (arith, own, from, before_is)))
          ∙ ap (λ n. vector_at (block y).kernel.basis n c) place)
    ]
  ]

  pub filled_more : IsFilled s k d block f (b + 1) new
  filled_more =
      let last : y + (length old.runs + 1) ≡ old.vertices = omega (arith, at, h.runs, h.vertices) in
      record {
        vertices = added.vertices ∙ h.vertices;
        runs = one_run_more added ∙ ap (λ n. n + 1) h.runs;
        count =
            let turned : falling s.graph b ≡ y = omega (arith, at) in
            omega (
              arith,
              added.count,
              h.count,
              sum_below_more (λ z. new_at s.graph k block (falling s.graph z)) b,
              ap (new_at s.graph k block) turned,
              new_at_is s.graph k block y here,
            );
        sizes = λ z below there. elim (cases_eq z y) [
          | inl same ↦
              ap (λ n. (run_at new n).size) same ∙ ap (λ (r : RunTable). r.size) (run_next added y last)
              ∙ added.is_run.size ∙ ap (stalk_size s.graph (sheaf_of s) d) (sym same)
          | inr other ↦
              ap (λ (r : RunTable). r.size)
              (run_stays added z (omega (arith, below, h.vertices))
              (omega (arith, there, at, other, h.vertices, h.runs)))
              ∙ h.sizes z below (omega (arith, there, at, other))
        ];
        values = λ j z c below there. elim (cases_eq z y) [
          | inl same ↦
              ap (λ n. run_value (run_at new n) j c) same
              ∙ ap (λ r. run_value r j c) (run_next added y last)
              ∙ added.is_run.value j c ∙ own_value j c
              ∙ ap (λ n. extended_value s.graph k block (list_of f) j n c) (sym same)
          | inr other ↦
              ap (λ r. run_value r j c)
              (run_stays added z (omega (arith, below, h.vertices))
              (omega (arith, there, at, other, h.vertices, h.runs)))
              ∙ h.values j z c below (omega (arith, there, at, other))
        ];
      }

-- the same of what was added from a block that equals that of y
pub filled_next :
    {A : Type 0} {s : SheafState A} {k d : ℕ} {block : ℕ → DegreeBlock} {f old new : FamilyTable} {b : ℕ} (y size : ℕ)
    (own : DegreeBlock) → IsFilled s k d block f b old → y + suc b ≡ vertex_count s.graph → length_at s.graph y ≡ k →
    BlockFits s d f.count y (block y) → size ≡ stalk_size s.graph (sheaf_of s) d y → own ≡ block y →
    IsRunAdded size own.cover.covers own.kernel.basis old new → IsFilled s k d block f (b + 1) new
filled_next {s = s} {d = d} {block = block} {old = old} {new = new} y size own h at here fits size_is own_is added =
    filled_more h at here fits
    (subst (λ n. IsRunAdded n (block y).cover.covers (block y).kernel.basis old new) size_is
    (subst (λ (g : DegreeBlock). IsRunAdded size g.cover.covers g.kernel.basis old new) own_is added))

-- ---- the whole level

module _ {A : Type 0} {s : SheafState A} {k d first : ℕ} {f : FamilyTable} (longer_held : HoldsLevel s (suc k) d f)
    (is_first : IsFirst s.graph k first) where
  -- the vertices that stand are among those of the level
  pub starts_within : (few : length f.runs ≤ f.vertices) → length f.runs ≤ vertex_count s.graph - first
  starts_within few = elim (cases_lt (vertex_count s.graph - first) (length f.runs)) [
    | inl beyond ↦
        absurd (let y = vertex_count s.graph - length f.runs in
        let long : suc k ≤ length_at s.graph (vertex_count s.graph - length f.runs) =
        longer_held.only (vertex_count s.graph - length f.runs) (omega (arith, beyond, is_first.within))
        (omega (arith, few, longer_held.vertices)) in
        let short = is_first.shorter y (omega (arith, beyond, is_first.within)) in
        omega (arith, long, short))
    | inr inside ↦ inside
  ]

  -- the others have length k
  pub of_length :
      (b y : ℕ) → y + suc b ≡ vertex_count s.graph → length f.runs ≤ b → b < vertex_count s.graph - first →
      length_at s.graph y ≡ k
  of_length b y at from below =
      let long = is_first.longer y (omega (arith, at, below)) (omega (arith, at)) in
      elim (cases_lt k (length_at s.graph y)) [
        | inl longer_than ↦
            absurd (let there = longer_held.has y (omega (arith, at), longer_than) in omega (arith, there, at, from))
        | inr short ↦ omega (arith, long, short)
      ]

  -- where the loop over the vertices ends
  pub level_filled :
      {block : ℕ → DegreeBlock} {new : FamilyTable} {start end b : ℕ} → IsFamilyTable f → start ≡ length f.runs →
      end ≡ vertex_count s.graph - first → (start ≤ end → b ≤ end) → end ≤ b → IsFilled s k d block f b new →
      IsFilled s k d block f (vertex_count s.graph - first) new
  level_filled {block = block} {new = new} {start = start} {end = end} {b = b} table start_is end_is ends past h =
      let inside = starts_within table.few in
      let last : b ≤ end = ends (omega (arith, start_is, end_is, inside)) in
      let all : b ≡ vertex_count s.graph - first = omega (arith, last, past, end_is) in
      subst (λ n. IsFilled s k d block f n new) all h

  module _ {block : ℕ → DegreeBlock} {new : FamilyTable}
      (h : IsFilled s k d block f (vertex_count s.graph - first) new) where
    inside_first : (y : ℕ) → level_vertices s.graph k y → first ≤ y
    inside_first y inside = elim (cases_lt y first) [
      | inl before ↦ absurd (let short = is_first.shorter y before in omega (arith, short, inside.1))
      | inr from ↦ from
    ]

    there : (y : ℕ) → level_vertices s.graph k y → vertex_count s.graph ≤ y + (vertex_count s.graph - first)
    there y inside = let from = inside_first y inside in omega (arith, from, is_first.within)

    pub holds_level : HoldsLevel s k d new
    holds_level = record {
      vertices = h.vertices;
      has = λ y inside. omega (arith, there y inside, h.runs);
      only = λ y below from. is_first.longer y (omega (arith, from, h.runs, is_first.within)) below;
      sizes = λ y inside. h.sizes y inside.0 (there y inside);
    }

    abbrev size : ℕ → ℕ
    size z = new_at s.graph k block (falling s.graph z)

    none_behind : sum_below (λ i. size (vertex_count s.graph - first + i)) first ≡ 0
    none_behind =
        sum_none (λ i. size (vertex_count s.graph - first + i)) first
        (λ i below.
        let z = falling s.graph (vertex_count s.graph - first + i) in
        new_at_none s.graph k block (falling s.graph (vertex_count s.graph - first + i))
        (λ same. let short = is_first.shorter z (omega (arith, below, is_first.within)) in omega (arith, short, same)))

    counted : new.count ≡ f.count + new_count s.graph k block
    counted =
        let whole : vertex_count s.graph - first + first ≡ vertex_count s.graph = omega (arith, is_first.within) in
        omega (
          arith,
          h.count,
          none_behind,
          sum_below_joined size (vertex_count s.graph - first) first,
          ap (sum_below size) whole,
        )

    pub is_extension : IsExtension s k d block f new
    is_extension = record {
      count = counted;
      has = λ y inside.
          has_from new y (omega (arith, inside.0, h.vertices)) (omega (arith, there y inside, h.runs, h.vertices));
      size = λ y inside. h.sizes y inside.0 (there y inside);
      value = λ j y c is_member inside coordinate. h.values j y c inside.0 (there y inside);
    }
