use Rattle.std.proofs.Common.{◌≡◌, ◌+◌, ◌-◌, ◌*◌, ap, drop, take, arith}
use Rattle.bmp_cert.proofs.JobPrinting.{rows_on, rows_end}
use Rattle.bmp_cert.proofs.print.push_rows.Goals as goal

pub rows-preserved : goal.rows-preserved
rows-preserved c =
    let w = c.args.rank in
    let i = c.rows.i in
    let wide : (i + 1) * w - i * w ≡ w = grind arith in
    rw c.in_ok-push_row.ensures
    (rows_on c.rows.out.items _ w (w - i) (w - (i + 1)) i c.args.entries.now _ (omega arith)
    (ap (λ k. take k (drop (i * w) c.args.entries.now)) wide) c.rows.invariant)

pub returns : goal.returns
returns c = rows_end c.rows.out.items _ c.args.rank (c.args.rank - c.rows.i)
    (drop (c.rows.i * c.args.rank) c.args.entries.now) (omega arith) c.rows.invariant
