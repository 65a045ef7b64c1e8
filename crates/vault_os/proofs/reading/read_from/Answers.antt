use Rattle.std.proofs.Common.{sym, string_bytes, subst, ◌∙◌, ◌≡◌, List, Some, position, bytes_eq}
use Rattle.vault_os.specs.declared.open_files.OpenFile.{OpenFile}
use Rattle.vault_os.specs.Open.{IsOpenAt}
use Rattle.vault_os.proofs.Kept.{kept_more, kept_fewer, file_at, opened, read_file_told, read_open_told}
use Rattle.vault_os.proofs.reading.read_from.Goals as goal

pub returns-in-Some-clause-read : goal.returns-in-Some-clause-read
returns-in-Some-clause-read g c =
    read_open_told (g.S.System.is_at c.args.system.now) _ _ _ _ _ _ c.index.result.now _
    (file_at (IsOpenAt (g.S.System.is_at c.args.system.now) (string_bytes c.args.root.now.path)) c.args.name.now c.args.kept.now.read.items c.in-Some.place c.index.result.now
    (subst (λ (xs : List (OpenFile _)). position (λ f. bytes_eq c.args.name.now f.name.items) xs ≡ Some c.in-Some.place) c.deref.ensures.value (sym c.place_of.ensures ∙ c.in-Some.is))
    c.index.ensures c.requires.kept.0)
    c.read_open.ensures.read

pub returns-in_err-keep-clause-kept : goal.returns-in_err-keep-clause-kept
returns-in_err-keep-clause-kept g c = kept_fewer (g.S.System.is_at c.args.system.now) _ c.args.kept.now c.keep.new.self c.requires.kept c.in_err-keep.ensures.left c.in_err-keep.ensures.written

pub returns-clause-read : goal.returns-clause-read
returns-clause-read g c =
    read_file_told (g.S.System.is_at c.args.system.now) _ _ _ _ _ _ _ c.in-Some-2.file
    (opened (g.S.System.is_at c.args.system.now) (string_bytes c.args.root.now.path) (g.S.System.files c.args.system.now) c.args.name.now c.args.at c.in_ok-file.field-0 c.in-Some-2.file c.in-Some-2.is c.in_ok-file.ensures)
    c.in_ok-count.ensures.read

pub returns-clause-kept : goal.returns-clause-kept
returns-clause-kept g c =
    kept_more (g.S.System.is_at c.args.system.now) _ c.args.kept.now c.keep.new.self c.in-Some-2.file c.requires.kept c.in_ok-keep.ensures.kept c.in_ok-keep.ensures.written
    (opened (g.S.System.is_at c.args.system.now) (string_bytes c.args.root.now.path) (g.S.System.files c.args.system.now) c.args.name.now c.args.at c.in_ok-file.field-0 c.in-Some-2.file c.in-Some-2.is c.in_ok-file.ensures).0
