use Rattle.std.proofs.Common.{◌≡◌, ◌<◌, length, get_or, sym, arith}
use Rattle.std.proofs.lemmas.Option.{get_or_from_slice_get}
use Rattle.bmp_cert.specs.VectorGrammar.{IsEntry, IsVector, behind_place}
use Rattle.bmp_cert.proofs.FormedLemmas.{fits_on, fits_stop, failed}
use Rattle.bmp_cert.proofs.cert_formed.is_vector.Goals as goal

pub entries-preserved : goal.entries-preserved
entries-preserved c =
    let within : c.entries.i < length c.args.v.now = omega (arith, c.len-i-end.ensures, c.entries-test.true) in
    let is : c.at-entry.result ≡ get_or c.args.v.now c.entries.i c.at-entry.result =
    sym (get_or_from_slice_get c.args.v.now c.entries.i c.at-entry.result c.at-entry.result
    c.at-entry.ensures.entry) in
    rw c.from-next.ensures
    (fits_on (IsVector c.args.most c.args.v.now) (IsEntry c.args.most) behind_place c.args.v.now c.entries.i
    c.entries.next c.at-entry.result c.at-entry.result within is
    (c.is_entry.ensures.0 c.if-not-is_entry.false) c.entries.invariant)

pub returns-then-not-is_entry : goal.returns-then-not-is_entry
returns-then-not-is_entry c =
    let within : c.entries.i < length c.args.v.now = omega (arith, c.len-i-end.ensures, c.entries-test.true) in
    let is : c.at-entry.result ≡ get_or c.args.v.now c.entries.i c.at-entry.result =
    sym (get_or_from_slice_get c.args.v.now c.entries.i c.at-entry.result c.at-entry.result
    c.at-entry.ensures.entry) in
    fits_stop (IsVector c.args.most c.args.v.now) (IsEntry c.args.most) behind_place c.args.v.now c.entries.i
    c.entries.next c.at-entry.result c.at-entry.result within is
    (failed c.is_entry.result c.is_entry.ensures c.if-not-is_entry.true) c.entries.invariant
