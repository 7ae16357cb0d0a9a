use Rattle.std.proofs.Common.{◌≡◌, ◌+◌, ◌++◌, ◌∷◌, [], length, arith}
use Rattle.std.proofs.lemmas.List.{length-append}
use Rattle.bmp_text.proofs.AheadLemmas.{read_more}
use Rattle.bmp_cert.specs.VectorGrammar.{entry_text, IsEntry, behind_place}
use Rattle.bmp_cert.proofs.VectorLemmas.{fits_behind}
use Rattle.bmp_cert.proofs.vector.entries_ahead.Goals as goal

pub entries-preserved : goal.entries-preserved
entries-preserved c =
    let v = c.entries.invariant in
    let one = c.in-Some.entry in
    let more : length (c.entries.entries ++ one ∷ []) ≡ length c.entries.entries + length (one ∷ []) =
    length-append c.entries.entries (one ∷ []) in
    rw (c.in_ok-push.ensures.ok, c.from-next.ensures)
    (record {
      small = omega arith;
      behind = fits_behind c.entries.entries c.entries.next one v.behind c.in-Some.ensures.entry.0;
      count = omega (arith, more, v.count);
      read = read_more entry_text (IsEntry c.args.most) behind_place 0 c.entries.entries c.entries.next c.args.ahead.now
          c.entries.ahead c.entry_ahead.new.ahead one v.read c.in-Some.ensures.entry c.in-Some.ensures.read;
    })
