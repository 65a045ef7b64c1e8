-- The announcements, and then the bodies, behind what was there.
use Rattle.std.proofs.Common.{ℕ, List, ◌++◌, ap, ◌∙◌}
use Rattle.wal_record.specs.Spelling.{bodies_bytes}
use Rattle.wal_record.proofs.Writing.{blocks_behind}
use Rattle.wal_record.proofs.blocks.add_blocks.Goals as goal

pub returns : goal.returns
returns c =
    c.in_ok-add_bodies.ensures
    ∙ ap (λ (l : List ℕ). l ++ bodies_bytes c.args.blocks.now) c.in_ok-add_heads.ensures
    ∙ blocks_behind c.args.bytes.now.items c.args.blocks.now
