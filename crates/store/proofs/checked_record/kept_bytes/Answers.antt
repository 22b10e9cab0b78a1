use Rattle.std.proofs.Common.{sym, ap, ◌∙◌, arith}
use Rattle.std.specs.Int.{to_be_bytes, w32}
use Rattle.store.proofs.CheckedRecords.{drop-good_record}
use Rattle.store.proofs.checked_record.kept_bytes.Goals as goal

pub returns-clause-rule : goal.returns-clause-rule
returns-clause-rule c =
    c.to_be_bytes.ensures ∙ (ap (to_be_bytes w32) c.sector_sum.ensures.is ∙ sym (drop-good_record c.args.content.now (omega arith)))
