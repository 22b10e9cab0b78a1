use Rattle.std.proofs.Common.{ap, ◌∙◌}
use Rattle.std.specs.Int.{from_be_bytes, w32}
use Rattle.store.proofs.checked_record.kept_sum.Goals as goal

pub returns : goal.returns
returns c =
    let chunk = rw (c.unwrap.ensures, c.told-bytes) at c.last_chunk.ensures.cases in
    c.from_be_bytes.ensures ∙ ap (from_be_bytes w32) chunk.1.same
