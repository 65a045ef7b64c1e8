use Rattle.std.proofs.Common.{rules}
use Rattle.memory_vault.proofs.MemoryFiles.{counted_more}
use Rattle.memory_vault.proofs.memory_files.count_read.Goals as goal

pub returns : goal.returns
returns c =
    counted_more c.args.name.now c.in_ok-to_vec.field-0.items c.args.count c.count_in-so_far.result c.saturating_add.result c.args.reads.now c.insert.new.self c.count_in-so_far.ensures (c.in_ok-to_vec.ensures.items_if_clones_equal (λ x y e. e)) (search rules) c.in_ok-insert.ensures.updates
