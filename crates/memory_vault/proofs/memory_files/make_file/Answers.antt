use Rattle.std.proofs.Common.{List, ℕ, ap, ◌∙◌}
use Rattle.vault.specs.Area.{file_written}
use Rattle.memory_vault.proofs.MemoryFiles.{made_written}
use Rattle.memory_vault.proofs.memory_files.make_file.Goals as goal

pub returns : goal.returns
returns c =
    made_written c.args.name.now c.in_ok-to_vec.field-0.items c.args.at c.args.piece.now c.args.files.now c.insert.new.self c.write_over.new.bytes c.requires (c.in_ok-to_vec.ensures.items_if_clones_equal (λ x y e. e)) c.in_ok-insert.ensures.updates
    (c.in_ok-write_over.ensures.written ∙ ap (λ (l : List ℕ). file_written l c.args.at c.args.piece.now) c.new-bytes.ensures.items)
