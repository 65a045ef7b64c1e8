use Rattle.std.proofs.Common.{rules, refl}
use Rattle.chain_files.proofs.Told.{reads_set, fails_here}
use Rattle.directory_files.proofs.reading.size_at.Goals as goal

pub returns-in-Ok-clause-reads : goal.returns-in-Ok-clause-reads
returns-in-Ok-clause-reads g c =
    reads_set g.V.Vault c.args.areas.now c.args.place c.index-areas-place.result _ c.requires refl (record { files = c.size.ensures.same; past = c.size.ensures.quiet; faults = c.size.ensures.cause.later })

pub returns-in-Err-clause-reads : goal.returns-in-Err-clause-reads
returns-in-Err-clause-reads g c =
    reads_set g.V.Vault c.args.areas.now c.args.place c.index-areas-place.result _ c.requires refl (record { files = c.size.ensures.same; past = c.size.ensures.quiet; faults = c.size.ensures.cause.later })

pub returns-in-Err-clause-cause : goal.returns-in-Err-clause-cause
returns-in-Err-clause-cause g c = fails_here g.V.Vault c.args.areas.now c.args.place c.index-areas-place.result _ _ c.requires refl (λ failed. c.in-Err.ensures.cause.failed (search rules))
