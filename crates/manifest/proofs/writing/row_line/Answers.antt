use Rattle.manifest.proofs.Texts.{IsUtf8-sum}
use Rattle.manifest.proofs.writing.row_line.Goals as goal

pub as_text-requires-3 : goal.as_text-requires-3
as_text-requires-3 c = IsUtf8-sum c.args.row.now.kind c.args.row.now.sum c.requires.sum
