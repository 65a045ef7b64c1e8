use Rattle.std.proofs.Common.{string_bytes, length}
use Rattle.vault_os.specs.Paths.{told_in}
use Rattle.vault_os.proofs.Common.{on_err}
use Rattle.vault_os.proofs.Below.{write_file_told, tear_file_told}
use Rattle.vault_os.proofs.Made.{write_made, tear_made, may_make_tears}
use Rattle.vault_os.proofs.writing.write_to.Goals as goal

pub returns-in_err-file-clause-failed : goal.returns-in_err-file-clause-failed
returns-in_err-file-clause-failed g c =
    let root = string_bytes c.args.root.now.path in
    let name = c.args.name.now in
    let before = told_in root (g.S.System.files c.args.system.now) in
    let between = told_in root (g.S.System.files c.take_to_write.new.system) in
    on_err c.from_residual.result (may_make_tears name c.args.at (length c.args.piece.now) before between c.take_to_write.ensures.made)

pub returns-in_err-write_open-clause-failed : goal.returns-in_err-write_open-clause-failed
returns-in_err-write_open-clause-failed g c =
    let root = string_bytes c.args.root.now.path in
    let name = c.args.name.now in
    let before = told_in root (g.S.System.files c.args.system.now) in
    let between = told_in root (g.S.System.files c.take_to_write.new.system) in
    on_err c.from_residual-in_err-write_open.result (tear_made name c.args.at (length c.args.piece.now) before between _ c.take_to_write.ensures.made
    (tear_file_told (g.S.System.is_at c.take_to_write.new.system) root name c.args.at (length c.args.piece.now) (g.S.System.files c.take_to_write.new.system) (g.S.System.files c.write_open.new.system) c.in_ok-file.file c.in_ok-file.ensures.open c.in_err-write_open.ensures.failed))

pub returns-clause-written : goal.returns-clause-written
returns-clause-written g c =
    let root = string_bytes c.args.root.now.path in
    let name = c.args.name.now in
    let before = told_in root (g.S.System.files c.args.system.now) in
    let between = told_in root (g.S.System.files c.take_to_write.new.system) in
    write_made name c.args.at c.args.piece.now before between _ c.take_to_write.ensures.made
    (write_file_told (g.S.System.is_at c.take_to_write.new.system) root name c.args.at c.args.piece.now (g.S.System.files c.take_to_write.new.system) (g.S.System.files c.write_open.new.system) c.in_ok-file.file c.in_ok-file.ensures.open c.in_ok-write_open.ensures.written)
