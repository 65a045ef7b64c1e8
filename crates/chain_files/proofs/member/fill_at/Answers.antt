-- A read of one area.
use Rattle.std.proofs.Common.{rules, sym, subst, Option, IfSome, refl}
use Rattle.lsn_core.specs.Files.{Files}
use Rattle.vault.specs.Area.{bytes_of, IsRead}
use Rattle.lsn_core.specs.byte_words.Told.{when_told}
use Rattle.chain_files.specs.Told.{told_at}
use Rattle.chain_files.proofs.Told.{reads_set, told_here, fails_here}
use Rattle.chain_files.proofs.Overs.{is_over}
use Rattle.chain_files.proofs.member.fill_at.Goals as goal

pub returns-in-Ok-clause-reads : goal.returns-in-Ok-clause-reads
returns-in-Ok-clause-reads g c =
    reads_set g.V.Vault c.args.areas.now c.args.place c.index-areas-place.result _ c.requires.place refl
    (record { files = c.read_at.ensures.same; past = c.read_at.ensures.quiet; faults = c.read_at.ensures.cause.later })

pub returns-in-Err-clause-reads : goal.returns-in-Err-clause-reads
returns-in-Err-clause-reads g c =
    reads_set g.V.Vault c.args.areas.now c.args.place c.index-areas-place.result _ c.requires.place refl
    (record { files = c.read_at.ensures.same; past = c.read_at.ensures.quiet; faults = c.read_at.ensures.cause.later })

pub returns-in-Err-clause-cause : goal.returns-in-Err-clause-cause
returns-in-Err-clause-cause g c =
    fails_here g.V.Vault c.args.areas.now c.args.place c.index-areas-place.result _ _ c.requires.place refl (λ failed. c.in-Err.ensures.cause.failed (search rules))

pub returns-in-Ok-clause-filled : goal.returns-in-Ok-clause-filled
returns-in-Ok-clause-filled g c =
    when_told (told_at g.V.Vault c.args.areas.now c.args.place) (λ m. IsRead m c.args.path.now c.args.at c.args.into.now c.read_at.new.into c.in-Ok.field-0) _
    (λ m read. is_over (bytes_of m c.args.path.now) c.args.into.now c.read_at.new.into c.args.at c.in-Ok.field-0 read.counted read.bytes)
    (subst (λ (o : Option Files). IfSome o (λ m. IsRead m c.args.path.now c.args.at c.args.into.now c.read_at.new.into c.in-Ok.field-0)) (sym (told_here g.V.Vault c.args.areas.now c.args.place c.index-areas-place.result c.requires.place)) c.in-Ok.ensures.read)
