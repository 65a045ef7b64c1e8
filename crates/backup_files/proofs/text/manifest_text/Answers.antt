use Rattle.std.proofs.Common.{◌≡◌, arith}
use Rattle.manifest.specs.Text.{manifest_text}
use Rattle.backup_files.specs.Directory.{listing_with}
use Rattle.backup_files.specs.Rows.{ListsRows}
use Rattle.backup_files.proofs.Listable.{lists_rows, manifest_good}
use Rattle.backup_files.proofs.Passed.{ok_more}
use Rattle.backup_files.proofs.text.manifest_text.Goals as goal

pub write_manifest-requires : goal.write_manifest-requires
write_manifest-requires c = manifest_good c.args.system c.args.rows.items c.sort_rows.new.rows.items c.args.start c.args.end c.requires.rows c.requires.rises c.sort_rows.ensures.same c.sort_rows.ensures.sorted

pub returns : goal.returns
returns c =
    ok_more c.write_manifest.result (λ text. text.items ≡ manifest_text (listing_with c.args.system c.sort_rows.new.rows.items c.args.start c.args.end))
    (λ text. ListsRows c.args.system c.args.rows.items c.args.start c.args.end text.items)
    (λ text is.
    lists_rows c.manifests_are_read_again.ensures.written c.args.system c.args.rows.items c.sort_rows.new.rows.items c.args.start c.args.end text.items c.requires.rows c.requires.rises (omega arith) (omega arith) (omega arith) c.sort_rows.ensures.same
    c.sort_rows.ensures.sorted is)
    c.write_manifest.ensures
