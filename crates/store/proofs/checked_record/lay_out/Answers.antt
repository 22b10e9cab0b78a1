use Rattle.std.proofs.Common.{◌∙◌}
use Rattle.store.proofs.CheckedRecords.{put_mid-layout}
use Rattle.store.proofs.checked_record.lay_out.Goals as goal

pub returns : goal.returns
returns c =
    put_mid-layout _ _ _ _ _ c.told-bytes c.told-content c.copy_from_slice.ensures.after (c.copy_from_slice-2.ensures.after ∙ c.to_be_bytes.ensures)
