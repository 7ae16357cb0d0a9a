-- Printing the rows of a matrix: what is printed so far, and what is still to come, are all.
use Rattle.std.proofs.Common.{◌≡◌, ℕ, ℤ, suc, ◌+◌, ◌*◌, List, ◌++◌, take, drop, sym, ap, ◌∙◌, append_assoc, arith}
use Rattle.std.proofs.lemmas.List.{append-nil, drop-drop}
use Rattle.bmp_cert.specs.JobGrammar.{cut_rows, row_text, row_lists_text}

pub rows_on : (out all : List ℕ) (width n k i : ℕ) (zs row : List ℤ) → n ≡ suc k →
    row ≡ take width (drop (i * width) zs)
    → out ++ row_lists_text (cut_rows n width (drop (i * width) zs)) ≡ all
    → (out ++ row_text row) ++ row_lists_text (cut_rows k width (drop ((i + 1) * width) zs)) ≡ all
rows_on out all width n k i zs row less is so_far =
    let at : drop width (drop (i * width) zs) ≡ drop ((i + 1) * width) zs =
    drop-drop width (i * width) zs ∙ ap (λ (j : ℕ). drop j zs) (grind arith) in
    append_assoc out (row_text row) (row_lists_text (cut_rows k width (drop ((i + 1) * width) zs)))
    ∙ (ap (λ (t : List ℤ). out ++ (row_text t ++ row_lists_text (cut_rows k width (drop ((i + 1) * width) zs)))) is
    ∙ (ap (λ (t : List ℤ). out ++ (row_text (take width (drop (i * width) zs)) ++ row_lists_text (cut_rows k width t)))
    (sym at)
    ∙ (ap (λ (j : ℕ). out ++ row_lists_text (cut_rows j width (drop (i * width) zs))) (sym less) ∙ so_far)))

pub rows_end : (out all : List ℕ) (width n : ℕ) (zs : List ℤ) → n ≡ 0 → out ++ row_lists_text (cut_rows n width zs)
    ≡ all → out ≡ all
rows_end out all width n zs none so_far =
    sym (append-nil out) ∙ (ap (λ (j : ℕ). out ++ row_lists_text (cut_rows j width zs)) (sym none) ∙ so_far)
