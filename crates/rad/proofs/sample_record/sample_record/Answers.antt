use Rattle.std.proofs.Common.{rules}
use Rattle.rad.proofs.sample_record.sample_record.Goals as goal

pub returns : goal.returns
returns c k h =
    let (p, q, call) = c.from_fn.ensures.items.at k 0 h in
    search rules
