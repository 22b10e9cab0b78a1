use Rattle.std.proofs.Common.{sym, ◌∙◌, ap, option_map}
use Rattle.store.specs.Sector.{Sector}
use Rattle.store.proofs.ImageRows.{image_sectors-put_mid, IsRecordOf-between}
use Rattle.store.proofs.image.Image.write_at.Goals as goal

pub returns-clause-answer : goal.returns-clause-answer
returns-clause-answer g c =
    let part = IsRecordOf-between g.row.W g.F.RecordFormat.format c.args.bytes.now c.args.n c.requires in
    c.write.ensures.answer ∙ ap (λ (s : Sector). option_map (λ m. tt) s.mark) (sym part.means)

pub returns-clause-sectors : goal.returns-clause-sectors
returns-clause-sectors g c =
    let fmt = g.F.RecordFormat.format in
    let part = IsRecordOf-between g.row.W fmt c.args.bytes.now c.args.n c.requires in
    image_sectors-put_mid g.row.W fmt c.args.bytes.now c.write.new.bytes (fmt.record_of c.args.content.now) c.args.n _ c.write.result c.requires (c.write.auto.bytes ∙ part.whole) c.write.ensures.good c.write.ensures.after
