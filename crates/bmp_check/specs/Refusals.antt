-- Refusals, and their printed form.
--   named_text name n     a name and a number, each behind a space
--   refusal_text r        the line of a refusal
use Rattle.std.specs.Prelude.{ℕ, List, [], ◌∷◌, ◌++◌, codes}
use Rattle.std.specs.Fmt.{decimal}
use Rattle.bmp_cover.specs.Kinds.{kind_name}
use Rattle.bmp_check.specs.declared.refusal.Refusal.{Refusal}

abbrev pub named_text : List ℕ → ℕ → List ℕ
named_text name n = 32 ∷ name ++ (32 ∷ decimal n)

abbrev pub refusal_text : Refusal → List ℕ
refusal_text r = codes "refused" ++ (named_text (codes "vertex") r.vertex ++ (named_text (codes "degree") r.degree
    ++ (codes " kind " ++
    (kind_name r.kind ++ (named_text (codes "index") r.index ++ (named_text (codes "place") r.place
    ++ (named_text (codes "left") r.left ++ (named_text (codes "right") r.right ++ (10 ∷ [])))))))))
