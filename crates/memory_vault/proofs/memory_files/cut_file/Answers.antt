use Rattle.std.proofs.Common.{Some, None, ap, ◌∙◌}
use Rattle.std.specs.FinMap.{insert}
use Rattle.memory_vault.specs.Memory.{files_in}
use Rattle.memory_vault.proofs.MemoryFiles.{cut_read, files-through}
use Rattle.memory_vault.proofs.memory_files.cut_file.Goals as goal

pub returns-in-Some : goal.returns-in-Some
returns-in-Some c =
    let files = c.args.files.now in
    let name = c.args.name.now in
    let cut = c.truncate.new.self in
    files-through name files (c.get_mut.follows.lender cut) c.in-Some.bytes.now cut c.in-Some.ensures.value (c.get_mut.follows.holds cut)
    ∙ ap (insert (files_in files) name) c.truncate.ensures.items
    ∙ cut_read files name c.args.size (Some c.in-Some.bytes.now) c.in-Some.ensures.value

pub returns-in_default : goal.returns-in_default
returns-in_default c = ap files_in c.get_mut.follows.holds-at-none ∙ cut_read c.args.files.now c.args.name.now c.args.size None c.in_default.ensures.value
