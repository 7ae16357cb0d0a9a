-- The first comparison that fails, found index by index and place by place.
use Rattle.std.proofs.Common.{◌≡◌, ◌≢◌, ℕ, ◌+◌, ◌<◌, inl, inr, sym, ap, ◌∙◌, arith, Result, Ok, Err, IfErr}
use Rattle.std.proofs.lemmas.Bool.{cases_eq}
use Rattle.bmp_cover.specs.Kinds.{kind_number}
use Rattle.bmp_cover.specs.declared.fault.CoverFault.{CoverFault}
use Rattle.bmp_cover.specs.declared.kind.Kind.{Kind}
use Rattle.bmp_cover.specs.declared.compare.Difference.{Difference}
use Rattle.bmp_cover.specs.Differences.{IsFirstDifference}
use Rattle.bmp_cover.specs.CoverChecks.{CoverPasses, IsFirstCoverFailure}

-- what follows from what an `Err` says
pub on_err : {E : Type 0} (r : Result (Unit {0}) E) (P Q : E → Type 0) → ((e : E) → P e → Q e) → IfErr r P → IfErr r Q
on_err (Ok u) P Q f h = h
on_err (Err e) P Q f h = f e h

-- the two sides agree at each of n places
abbrev pub AgreeBelow : ℕ → (ℕ → ℕ) → (ℕ → ℕ) → Type 0
AgreeBelow n left right = (k : ℕ) → k < n → left k ≡ right k

pub difference_moved : (left right first second : ℕ → ℕ) (n : ℕ) (d : Difference) → AgreeBelow n left first →
    AgreeBelow n right second → IsFirstDifference left right n d → IsFirstDifference first second n d
difference_moved left right first second n d lefts rights is = record {
  below = is.below;
  left_is = is.left_is ∙ lefts d.place is.below;
  right_is = is.right_is ∙ rights d.place is.below;
  differs = is.differs;
  earlier = λ k before.
      let within : k < n = omega (arith, is.below) in
      sym (lefts k within) ∙ is.earlier k before ∙ rights k within;
}

-- the comparisons below an index have equal sides
abbrev pub PassBefore : ℕ → (CoverFault → Type 0) → Type 0
PassBefore n Compares = (r : CoverFault) → Compares r → r.index < n → r.left ≡ r.right

pub pass_none : (Compares : CoverFault → Type 0) → PassBefore 0 Compares
pass_none Compares r compared within = absurd (omega arith)

pub pass_all : (Compares : CoverFault → Type 0) (n : ℕ) → ((r : CoverFault) → Compares r → r.index < n) →
    PassBefore n Compares → CoverPasses Compares
pass_all Compares n within before r compared = before r compared (within r compared)

-- an index without comparisons
pub index_skipped : (Compares : CoverFault → Type 0) (index : ℕ) →
    ((r : CoverFault) → Compares r → r.index ≡ index → ⊥) → PassBefore index Compares → PassBefore (index + 1) Compares
index_skipped Compares index none before r compared within = elim (cases_eq r.index index) [
  | inl here ↦ absurd (none r compared here)
  | inr other ↦ before r compared (omega arith)
]

-- the comparisons of one index, all of one kind, have these two sides at n places
pub record AreSides (Compares : CoverFault → Type 0) (kind : Kind) (index n : ℕ) (left right : ℕ → ℕ) : Type 0 where
  pub kinds : (r : CoverFault) → Compares r → r.kind ≡ kind
  pub sides : (r : CoverFault) → Compares r → r.index ≡ index → (r.place < n) × (r.left ≡ left r.place) ×
      (r.right ≡ right r.place)
  pub compared : (k : ℕ) → k < n →
      Compares (record { kind = kind; index = index; place = k; left = left k; right = right k })

module _ (Compares : CoverFault → Type 0) (kind : Kind) (index n : ℕ) (left right : ℕ → ℕ)
    (are : AreSides Compares kind index n left right) (before : PassBefore index Compares) where
  pub index_passes : AgreeBelow n left right → PassBefore (index + 1) Compares
  index_passes same r compared within = elim (cases_eq r.index index) [
    | inl here ↦ let s = are.sides r compared here in s.1 ∙ same r.place s.0 ∙ sym s.2
    | inr other ↦ before r compared (omega arith)
  ]

  first_failure : (k : ℕ) → k < n → left k ≢ right k → ((j : ℕ) → j < k → left j ≡ right j) →
      IsFirstCoverFailure Compares (record { kind = kind; index = index; place = k; left = left k; right = right k })
  first_failure k below differs earlier = record {
    compared = are.compared k below;
    differs = differs;
    earlier = λ r compared is_before. elim is_before [
      | inl lower_kind ↦ let same : kind_number r.kind ≡ kind_number kind = ap kind_number (are.kinds r compared) in
          absurd (omega arith)
      | inr same_kind ↦
          elim same_kind.1 [
            | inl lower ↦ before r compared lower
            | inr here ↦ let s = are.sides r compared here.0 in s.1 ∙ earlier r.place here.1 ∙ sym s.2
          ]
    ];
  }

  pub index_fails : (d : Difference) → IsFirstDifference left right n d →
      IsFirstCoverFailure Compares
      (record { kind = kind; index = index; place = d.place; left = d.left; right = d.right })
  index_fails d is =
      let fault : ℕ → ℕ → CoverFault =
      λ a b. record { kind = kind; index = index; place = d.place; left = a; right = b } in
      let found : IsFirstCoverFailure Compares
      (record { kind = kind; index = index; place = d.place; left = left d.place; right = right d.place }) =
      first_failure d.place is.below (λ same. is.differs (is.left_is ∙ same ∙ sym is.right_is)) is.earlier in
      rw (is.left_is, is.right_is) found
