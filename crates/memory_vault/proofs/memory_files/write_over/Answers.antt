use Rattle.std.proofs.Common.{ℕ, List, ◌<◌, length, sym, ap, ◌∙◌, arith}
use Rattle.std.proofs.lemmas.Grind.{common_steps}
use Rattle.lsn_core.specs.byte_words.Pieces.{overwritten}
use Rattle.vault.proofs.Written.{filled_further, file_written-some, whole_slice}
use Rattle.memory_vault.proofs.memory_files.write_over.Goals as goal

pub returns-clause-written : goal.returns-clause-written
returns-clause-written c =
    let filled = c.deref_mut.ensures.value ∙ c.in_ok-zero_fill.ensures.filled in
    let some : 0 < length c.args.piece.now = grind (arith, common_steps, c.if-is_empty.ensures) in
    whole_slice c.zero_fill.new.bytes.items c.overwrite.new.bytes c.zero_fill.new.bytes.len c.zero_fill.new.bytes.ok.0 (c.overwrite.auto.bytes ∙ ap length c.deref_mut.ensures.value)
    ∙ c.overwrite.ensures
    ∙ ap (λ (l : List ℕ). overwritten l c.args.at c.args.piece.now) filled
    ∙ filled_further c.args.bytes.now.items c.args.at c.in-Some.end c.args.piece.now c.in-Some.ensures.1
    ∙ sym (file_written-some c.args.bytes.now.items c.args.at c.args.piece.now some)
