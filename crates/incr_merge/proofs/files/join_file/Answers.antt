use Rattle.std.proofs.Common.{rules, ◌≡◌, List, Option, true, false, take, IfOk, IfSome, refl, subst, arith}
use Rattle.lsn_core.specs.Files.{Files}
use Rattle.incr_file.specs.Form.{pages_bytes}
use Rattle.backup_files.proofs.Passed.{err_more}
use Rattle.chain_files.specs.Segments.{chain_pages}
use Rattle.chain_files.specs.Sources.{OfChain}
use Rattle.chain_files.specs.Told.{chain_told}
use Rattle.chain_files.proofs.Told.{reads_told, reads_trans}
use Rattle.combine.proofs.Contents.{made_more}
use Rattle.directory_files.specs.Faults.{WriteCause}
use Rattle.directory_files.specs.Written.{IsMade}
use Rattle.directory_files.proofs.Failed.{write_behind}
use Rattle.incr_merge.specs.Inside.{IsJoined}
use Rattle.incr_merge.proofs.Contents.{JoinedFor, merged_joined, rebuilt_joined}
use Rattle.incr_merge.proofs.PartFiles.{IsUnrebuilt}
use Rattle.incr_merge.proofs.files.join_file.Goals as goal

pub returns-then-branch-clause-reads : goal.returns-then-branch-clause-reads
returns-then-branch-clause-reads g c = reads_trans g.V.Vault c.args.areas.now c.is_rebuilt.new.areas c.rebuild_file.new.areas c.is_rebuilt.ensures.reads c.rebuild_file.ensures.reads

pub returns-then-branch-clause-cause : goal.returns-then-branch-clause-cause
returns-then-branch-clause-cause g c =
    err_more c.rebuild_file.result (WriteCause g.V.Vault c.is_rebuilt.new.areas c.args.out.now c.rebuild_file.new.areas c.rebuild_file.new.out) (WriteCause g.V.Vault c.args.areas.now c.args.out.now c.rebuild_file.new.areas c.rebuild_file.new.out)
    (λ why cause. write_behind g.V.Vault c.args.areas.now c.is_rebuilt.new.areas c.rebuild_file.new.areas c.args.out.now c.args.out.now c.rebuild_file.new.out why c.is_rebuilt.ensures.reads (omega arith) cause) c.rebuild_file.ensures.cause

pub returns-then-branch-clause-made : goal.returns-then-branch-clause-made
returns-then-branch-clause-made g c =
    let told = chain_told g.V.Vault c.args.areas.now c.args.places.now in
    let whole : c.in_ok-is_rebuilt.field-0 ≡ true = search rules in
    made_more (λ bytes. OfChain told (λ series. IfSome (chain_pages series c.args.folder.now c.args.name.now) (λ pages. bytes ≡ pages_bytes (take 131072 pages)))) (λ bytes. OfChain told (λ series. JoinedFor series bytes c.args.folder.now c.args.name.now)) c.args.path.now c.args.path.now (g.V.Vault.files c.args.out.now)
    (g.V.Vault.files c.rebuild_file.new.out) c.rebuild_file.result refl (λ bytes is. rebuilt_joined told c.args.folder.now c.args.name.now c.in_ok-is_rebuilt.field-0 bytes whole c.in_ok-is_rebuilt.ensures.whole is)
    (subst
    (λ (o : Option (List Files)).
    IfOk c.rebuild_file.result
    (IsMade (λ bytes. OfChain o (λ series. IfSome (chain_pages series c.args.folder.now c.args.name.now) (λ pages. bytes ≡ pages_bytes (take 131072 pages)))) c.args.path.now (g.V.Vault.files c.args.out.now) (g.V.Vault.files c.rebuild_file.new.out)))
    (reads_told g.V.Vault c.args.areas.now c.is_rebuilt.new.areas c.is_rebuilt.ensures.reads c.args.places.now) c.rebuild_file.ensures.made)

pub returns-clause-reads : goal.returns-clause-reads
returns-clause-reads g c = reads_trans g.V.Vault c.args.areas.now c.is_rebuilt.new.areas c.merge_file.new.areas c.is_rebuilt.ensures.reads c.merge_file.ensures.reads

pub returns-clause-cause : goal.returns-clause-cause
returns-clause-cause g c =
    err_more c.merge_file.result (WriteCause g.V.Vault c.is_rebuilt.new.areas c.args.out.now c.merge_file.new.areas c.merge_file.new.out) (WriteCause g.V.Vault c.args.areas.now c.args.out.now c.merge_file.new.areas c.merge_file.new.out)
    (λ why cause. write_behind g.V.Vault c.args.areas.now c.is_rebuilt.new.areas c.merge_file.new.areas c.args.out.now c.args.out.now c.merge_file.new.out why c.is_rebuilt.ensures.reads (omega arith) cause) c.merge_file.ensures.cause

pub returns-clause-made : goal.returns-clause-made
returns-clause-made g c =
    let told = chain_told g.V.Vault c.args.areas.now c.args.places.now in
    let part : c.in_ok-is_rebuilt.field-0 ≡ false = search rules in
    made_more (λ bytes. IsUnrebuilt told c.args.folder.now c.args.name.now (λ series. IsJoined series c.args.folder.now c.args.name.now false bytes)) (λ bytes. OfChain told (λ series. JoinedFor series bytes c.args.folder.now c.args.name.now)) c.args.path.now c.args.path.now (g.V.Vault.files c.args.out.now)
    (g.V.Vault.files c.merge_file.new.out) c.merge_file.result refl (λ bytes is. merged_joined told c.args.folder.now c.args.name.now c.in_ok-is_rebuilt.field-0 bytes part c.in_ok-is_rebuilt.ensures.whole is)
    (subst
    (λ (o : Option (List Files)).
    IfOk c.merge_file.result (IsMade (λ bytes. IsUnrebuilt o c.args.folder.now c.args.name.now (λ series. IsJoined series c.args.folder.now c.args.name.now false bytes)) c.args.path.now (g.V.Vault.files c.args.out.now) (g.V.Vault.files c.merge_file.new.out)))
    (reads_told g.V.Vault c.args.areas.now c.is_rebuilt.new.areas c.is_rebuilt.ensures.reads c.args.places.now) c.merge_file.ensures.made)
