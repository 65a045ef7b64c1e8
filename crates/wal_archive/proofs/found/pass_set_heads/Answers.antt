use Rattle.std.proofs.Common.{◌-◌, ◌%◌, ap, ◌∙◌}
use Rattle.wal_archive.proofs.Founds.{segment_page}
use Rattle.wal_archive.proofs.found.pass_set_heads.Goals as goal

pub pass_head-requires-after_bounds : goal.pass_head-requires-after_bounds
pass_head-requires-after_bounds g c = λ κ l.
    ap (λ n. (c.args.from - c.args.from % n) % 8192) c.bytes.ensures.bytes
    ∙ segment_page c.args.size c.args.from c.bytes.ensures.some
