use Rattle.store.proofs.ImageRows.{IsRecordOf-between}
use Rattle.store.proofs.image.Image.record_at.Goals as goal

pub returns : goal.returns
returns g c =
    let chunk = rw c.unwrap.ensures at c.as_array.ensures.cases in
    rw chunk.same (IsRecordOf-between g.row.W g.F.RecordFormat.format c.args.bytes.now c.args.n c.requires)
