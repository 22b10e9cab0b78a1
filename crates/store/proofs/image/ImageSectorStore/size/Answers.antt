use Rattle.std.proofs.Common.{sym, ◌∙◌}
use Rattle.store.proofs.ImageRows.{length-image_sectors}
use Rattle.store.proofs.SoundRows.{IsSound-image_sectors}
use Rattle.store.proofs.image.ImageSectorStore.size.Goals as goal

pub returns : goal.returns
returns g c =
    let counted = c.count_records.ensures in
    let holds = g.met.F.RecordFormat.holds_sectors in
    record {
      count = counted.count ∙ sym (length-image_sectors g.row.W g.F.RecordFormat.format _);
      sound = IsSound-image_sectors g.row.W g.F.RecordFormat.format _ holds.whole holds.bytes counted.bytes;
    }
