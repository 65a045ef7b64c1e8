-- One member's form.
use Rattle.std.proofs.Common.{rules, sym, subst, Option, IfSome, refl}
use Rattle.lsn_core.specs.Files.{Files}
use Rattle.chain_files.specs.Segments.{form_at, HasForms}
use Rattle.chain_files.proofs.Told.{reads_set, told_here, fails_here}
use Rattle.series_files.specs.Inside.{IsSeen}
use Rattle.series_files.proofs.seen.seen_at.Goals as goal

pub returns-in-Ok-clause-seen : goal.returns-in-Ok-clause-seen
returns-in-Ok-clause-seen g c =
    subst (λ (o : Option Files). IfSome o (λ m. HasForms m → IsSeen (form_at c.args.folder.now c.args.name.now m) c.in-Ok.seen)) (sym (told_here g.V.Vault c.args.areas.now c.args.place c.index-areas-place.result c.requires.place)) c.in-Ok.ensures.seen

pub returns-in-Ok-clause-reads : goal.returns-in-Ok-clause-reads
returns-in-Ok-clause-reads g c =
    reads_set g.V.Vault c.args.areas.now c.args.place c.index-areas-place.result _ c.requires.place refl c.seen_in.ensures.reads

pub returns-in-Err-clause-reads : goal.returns-in-Err-clause-reads
returns-in-Err-clause-reads g c =
    reads_set g.V.Vault c.args.areas.now c.args.place c.index-areas-place.result _ c.requires.place refl c.seen_in.ensures.reads

pub returns-in-Err-clause-cause : goal.returns-in-Err-clause-cause
returns-in-Err-clause-cause g c =
    fails_here g.V.Vault c.args.areas.now c.args.place c.index-areas-place.result _ _ c.requires.place refl (λ failed. c.in-Err.ensures.cause.failed (search rules))
