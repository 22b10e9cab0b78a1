use Rattle.std.proofs.Common.{◌≡◌, ◌≤◌, sum, rules, arith}
use Rattle.std.proofs.iter.runs.Sources.{sums}
use Rattle.std.proofs.lemmas.List.Elements.{All-from_get_or}
use Rattle.std.proofs.lemmas.List.Sums.{sum_by-le}
use Rattle.store.proofs.checked_record.sector_sum.Goals as goal

-- the sum fits, since it is over no more than 1,024 bytes
pub sum-requires-clause-fits : goal.sum-requires-clause-fits
sum-requires-clause-fits c = search (rules, sums)

pub returns-clause-bound : goal.returns-clause-bound
returns-clause-bound c =
    let bytes = c.args.bytes.now in
    let is : c.sum.result ≡ sum bytes = search rules in
    omega (arith, is, sum_by-le (λ x. x) 255 bytes (All-from_get_or (λ x. x ≤ 255) bytes 0 (λ i l. omega (arith, c.fits-bytes i))))
