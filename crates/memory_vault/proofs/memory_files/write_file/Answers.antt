use Rattle.std.proofs.Common.{None, ap, ◌∙◌}
use Rattle.std.specs.BTreeMap.{BTreeMap}
use Rattle.std.specs.Global.{Vec}
use Rattle.std.proofs.Common.{ℕ}
use Rattle.std.specs.FinMap.{get}
use Rattle.memory_vault.specs.Memory.{files_in}
use Rattle.memory_vault.proofs.MemoryFiles.{get_read, through_file}
use Rattle.memory_vault.proofs.memory_files.write_file.Goals as goal

pub make_file-requires : goal.make_file-requires
make_file-requires c = ap (λ (m : BTreeMap (Vec ℕ) (Vec ℕ)). get (files_in m) c.args.name.now) c.get_mut.follows.holds-at-none ∙ get_read c.args.files.now c.args.name.now None c.in-None.ensures.value

pub returns-in-Some : goal.returns-in-Some
returns-in-Some c =
    let now = c.write_over.new.bytes in
    through_file c.args.name.now c.args.at c.args.piece.now c.args.files.now (c.get_mut.follows.lender now) c.in-Some.bytes.now now c.write_over.result c.in-Some.ensures.value (c.get_mut.follows.holds now) c.write_over.ensures.written c.write_over.ensures.same
