use Rattle.std.proofs.Common.{subst}
use Rattle.manifest.specs.Listing.{Listing}
use Rattle.backup_files.specs.Rows.{ListsRows}
use Rattle.backup_files.proofs.Passed.{ok_more}
use Rattle.directory_files.specs.Written.{Relists}
use Rattle.directory_files.proofs.text.relisted_text.Goals as goal

pub returns : goal.returns
returns c =
    ok_more c.manifest_text.result (λ text. ListsRows c.unwrap.result c.args.rows.items c.m.inside.start c.m.inside.end text.items) (λ text. Relists c.args.m.now c.args.rows.items text.items)
    (λ text lists. subst (λ (m : Listing). Relists m c.args.rows.items text.items) c.m.view_is (record { system = c.unwrap.result; told = c.unwrap.ensures; lists = lists })) c.manifest_text.ensures
