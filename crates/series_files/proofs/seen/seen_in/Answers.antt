-- The form by the incremental path.
use Rattle.std.proofs.Common.{rules, ◌≡◌, true, Option, IfOk, IfSome, subst}
use Rattle.lsn_core.specs.Files.{Files}
use Rattle.vault.specs.Area.{bytes_of}
use Rattle.chain_files.specs.Segments.{form_at, HasForms}
use Rattle.chain_files.specs.Paths.{file_path}
use Rattle.series_files.specs.Inside.{IsHeadSeen, IsSeen}
use Rattle.series_files.proofs.ByPaths.{part_seen, ok_more}
use Rattle.series_files.proofs.seen.seen_in.Goals as goal

pub returns-in-Some-clause-seen : goal.returns-in-Some-clause-seen
returns-in-Some-clause-seen g c =
    let old = g.V.Vault.files c.args.area.now in
    let one : c.as_bytes.result.now ≡ file_path c.args.folder.now c.args.name.now true = search rules in
    let two : c.as_bytes-in-Some.result.now ≡ file_path c.args.folder.now c.args.name.now true = search rules in
    ok_more c.head_at.result (λ s. IfSome old (λ m. IsHeadSeen (bytes_of m c.as_bytes-in-Some.result.now) c.in-Some.size s)) (λ s. IfSome old (λ m. HasForms m → IsSeen (form_at c.args.folder.now c.args.name.now m) s))
    (λ s head. part_seen old c.args.folder.now c.args.name.now c.as_bytes.result.now c.as_bytes-in-Some.result.now c.in_ok-size.field-0 c.in-Some.size s c.requires one two c.in-Some.is c.in_ok-size.ensures.size head)
    (subst (λ (o : Option Files). IfOk c.head_at.result (λ s. IfSome o (λ m. IsHeadSeen (bytes_of m c.as_bytes-in-Some.result.now) c.in-Some.size s))) c.size.ensures.same c.head_at.ensures.seen)
