-- One member's form.
use Rattle.std.proofs.Common.{rules, sym, subst, Option, IfSome, refl}
use Rattle.std.specs.FinMap.{get}
use Rattle.lsn_core.specs.Files.{Files}
use Rattle.chain_files.specs.Inside.{IsFormSeen}
use Rattle.chain_files.proofs.Told.{reads_set, told_here, fails_here}
use Rattle.chain_files.proofs.member.form_at.Goals as goal

pub returns-in-Ok-clause-seen : goal.returns-in-Ok-clause-seen
returns-in-Ok-clause-seen g c =
    subst (λ (o : Option Files). IfSome o (λ m. IsFormSeen (get m c.args.paths.now.incr) (get m c.args.paths.now.plain) c.in-Ok.form)) (sym (told_here g.V.Vault c.args.areas.now c.args.place c.index-areas-place.result c.requires)) c.in-Ok.ensures.seen

pub returns-in-Ok-clause-reads : goal.returns-in-Ok-clause-reads
returns-in-Ok-clause-reads g c =
    reads_set g.V.Vault c.args.areas.now c.args.place c.index-areas-place.result _ c.requires refl c.form_in.ensures.reads

pub returns-in-Err-clause-reads : goal.returns-in-Err-clause-reads
returns-in-Err-clause-reads g c =
    reads_set g.V.Vault c.args.areas.now c.args.place c.index-areas-place.result _ c.requires refl c.form_in.ensures.reads

pub returns-in-Err-clause-cause : goal.returns-in-Err-clause-cause
returns-in-Err-clause-cause g c =
    fails_here g.V.Vault c.args.areas.now c.args.place c.index-areas-place.result _ _ c.requires refl (λ failed. c.in-Err.ensures.cause.failed (search rules))
