use Rattle.std.proofs.Common.{Some, None, sym, ap, ◌∙◌, length, option_map}
use Rattle.memory_vault.proofs.MemoryFiles.{get_read}
use Rattle.memory_vault.proofs.memory_files.size_in.Goals as goal

pub returns-in-Some : goal.returns-in-Some
returns-in-Some c = ap (λ n. Some n) (c.len.ensures ∙ c.in-Some.bytes.now.ok.0) ∙ sym (ap (option_map length) (get_read c.args.files.now c.args.name.now (Some _) c.in-Some.ensures.value))

pub returns-in-None : goal.returns-in-None
returns-in-None c = sym (ap (option_map length) (get_read c.args.files.now c.args.name.now None c.in-None.ensures.value))
