use Rattle.std.proofs.Common.{◌↔◌, Bool, IsTrue, sym, subst, arith}
use Rattle.std.proofs.lemmas.Bool.{ne_eqb}
use Rattle.bmp_text.specs.Printing.{Chosen}
use Rattle.bmp_cert.specs.CertGrammar.{IsTop, IsPart}
use Rattle.bmp_cert.proofs.cert_formed.is_part_at.Goals as goal

pub returns-else-number-last : goal.returns-else-number-last
returns-else-number-last c =
    subst (λ (b : Bool). IsTrue c.is_part.result ↔
    Chosen b (IsTop c.args.degree c.args.v.now)
    (IsPart c.args.version c.args.most c.args.degree c.args.number c.args.v.now))
    (sym (ne_eqb c.args.number c.args.last (λ e. absurd (omega (arith, e, c.if-number-last.false)))))
    (c.is_part.ensures c.args.number)
