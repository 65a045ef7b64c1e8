use Rattle.std.proofs.Common.{◌≡◌, List, Option, false, IfOk, refl, subst, arith}
use Rattle.lsn_core.specs.Files.{Files}
use Rattle.backup_files.proofs.Passed.{err_more}
use Rattle.chain_files.specs.Segments.{forms_at}
use Rattle.chain_files.specs.Sources.{OfChain, IsSourceAt}
use Rattle.chain_files.specs.Told.{chain_told}
use Rattle.chain_files.specs.declared.source.SegmentSource.{SegmentSource}
use Rattle.chain_files.proofs.Told.{fails_later, reads_told, reads_trans}
use Rattle.combine.proofs.Contents.{made_more}
use Rattle.directory_files.specs.Faults.{WriteCause}
use Rattle.directory_files.specs.Written.{IsMade}
use Rattle.directory_files.proofs.Failed.{member_failed, write_behind}
use Rattle.series_files.specs.Heads.{merged_head_of}
use Rattle.incr_merge.specs.Inside.{IsJoined, IsPartOf}
use Rattle.incr_merge.proofs.PartFiles.{IsUnrebuilt, joined_content}
use Rattle.incr_merge.proofs.parts.merge_file.Goals as goal

pub returns-in_err-head-clause-reads : goal.returns-in_err-head-clause-reads
returns-in_err-head-clause-reads g c = reads_trans g.V.Vault c.args.areas.now c.open_file.new.areas c.merged_head.new.areas c.open_file.ensures.reads c.merged_head.ensures.reads

pub returns-in_err-head-clause-cause : goal.returns-in_err-head-clause-cause
returns-in_err-head-clause-cause g c =
    member_failed g.V.Vault c.args.areas.now c.merged_head.new.areas c.args.out.now c.args.out.now c.from_residual-in_err-head.result c.in_err-head.field-0.0 c.from_residual-in_err-head.ensures.1
    (fails_later g.V.Vault c.args.areas.now c.open_file.new.areas c.merged_head.new.areas c.in_err-head.field-0.0 c.open_file.ensures.reads c.in_err-head.ensures.cause)

pub returns-clause-reads : goal.returns-clause-reads
returns-clause-reads g c =
    reads_trans g.V.Vault c.args.areas.now c.merged_head.new.areas c.write_part.new.areas
    (reads_trans g.V.Vault c.args.areas.now c.open_file.new.areas c.merged_head.new.areas c.open_file.ensures.reads c.merged_head.ensures.reads) c.write_part.ensures.reads

pub returns-clause-cause : goal.returns-clause-cause
returns-clause-cause g c =
    err_more c.write_part.result (WriteCause g.V.Vault c.merged_head.new.areas c.args.out.now c.write_part.new.areas c.write_part.new.out) (WriteCause g.V.Vault c.args.areas.now c.args.out.now c.write_part.new.areas c.write_part.new.out)
    (λ why cause.
    write_behind g.V.Vault c.args.areas.now c.merged_head.new.areas c.write_part.new.areas c.args.out.now c.args.out.now c.write_part.new.out why
    (reads_trans g.V.Vault c.args.areas.now c.open_file.new.areas c.merged_head.new.areas c.open_file.ensures.reads c.merged_head.ensures.reads) (omega arith) cause)
    c.write_part.ensures.cause

pub returns-clause-made : goal.returns-clause-made
returns-clause-made g c =
    let told = chain_told g.V.Vault c.args.areas.now c.args.places.now in
    let first = c.open_file.ensures.reads in
    let both = reads_trans g.V.Vault c.args.areas.now c.open_file.new.areas c.merged_head.new.areas first c.merged_head.ensures.reads in
    made_more (IsPartOf told c.in-Some.source c.in_ok-head.head) (λ bytes. IsUnrebuilt told c.args.folder.now c.args.name.now (λ series. IsJoined series c.args.folder.now c.args.name.now false bytes)) c.args.path.now c.args.path.now (g.V.Vault.files c.args.out.now) (g.V.Vault.files c.write_part.new.out) c.write_part.result refl
    (λ bytes is.
    joined_content told c.in-Some.source c.args.folder.now c.args.name.now c.pages.result c.min-count.result c.in_ok-head.head bytes
    (subst (λ (o : Option SegmentSource). OfChain told (λ chain. IsSourceAt chain c.args.folder.now c.args.name.now o)) c.in-Some.is c.in_ok-source.ensures.source) c.pages.ensures (omega (arith, c.min-count.ensures))
    (subst (λ (o : Option (List Files)). IsUnrebuilt o c.args.folder.now c.args.name.now (λ series. c.in_ok-head.head ≡ merged_head_of (forms_at series c.args.folder.now c.args.name.now) c.min-count.result)) (reads_told g.V.Vault c.args.areas.now c.open_file.new.areas first c.args.places.now) c.in_ok-head.ensures.head) is)
    (subst (λ (o : Option (List Files)). IfOk c.write_part.result (IsMade (IsPartOf o c.in-Some.source c.in_ok-head.head) c.args.path.now (g.V.Vault.files c.args.out.now) (g.V.Vault.files c.write_part.new.out))) (reads_told g.V.Vault c.args.areas.now c.merged_head.new.areas both c.args.places.now) c.write_part.ensures.made)
