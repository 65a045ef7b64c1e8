-- The names of the newest directory are those of the area at the last place.
use Rattle.std.proofs.Common.{◌≡◌, length, ◌-◌, Option, IfSome, Err, refl, sym, ap, subst}
use Rattle.std.specs.FinMap.{keys}
use Rattle.lsn_core.specs.Files.{Files}
use Rattle.chain_files.specs.Told.{told_at}
use Rattle.chain_files.proofs.Told.{reads_refl, reads_set, told_here, fails_here, place_within}
use Rattle.backup_restore.proofs.Chains.{newest_named, none_named}
use Rattle.backup_restore.proofs.copying.names_of_newest.Goals as goal

pub returns-in_default-clause-names : goal.returns-in_default-clause-names
returns-in_default-clause-names g c =
    none_named (told_at g.V.Vault c.args.areas.now) c.args.places.now c.new.result.items (sym c.in_default.ensures.value) c.new.ensures.items

pub returns-in_default-clause-reads : goal.returns-in_default-clause-reads
returns-in_default-clause-reads g c = reads_refl g.V.Vault c.args.areas.now

pub returns-in-Ok-clause-names : goal.returns-in-Ok-clause-names
returns-in-Ok-clause-names g c =
    let within = place_within (length c.args.areas.now) c.args.places.now (length c.args.places.now - 1) c.in-Some.field-0.now c.requires (sym c.in-Some.ensures.value) in
    newest_named (told_at g.V.Vault c.args.areas.now) c.args.places.now c.in-Some.field-0.now c.in-Ok.names.items (sym c.in-Some.ensures.value)
    (subst (λ (o : Option Files). IfSome o (λ m. c.in-Ok.names.items ≡ keys m)) (sym (told_here g.V.Vault c.args.areas.now c.in-Some.field-0.now c.index-areas-area.result within)) c.in-Ok.ensures.names)

pub returns-in-Ok-clause-reads : goal.returns-in-Ok-clause-reads
returns-in-Ok-clause-reads g c =
    let within = place_within (length c.args.areas.now) c.args.places.now (length c.args.places.now - 1) c.in-Some.field-0.now c.requires (sym c.in-Some.ensures.value) in
    reads_set g.V.Vault c.args.areas.now c.in-Some.field-0.now c.index-areas-area.result c.names_in.new.held within c.in-Ok.ensures.same c.in-Ok.ensures.reads

pub returns-in-Err-clause-reads : goal.returns-in-Err-clause-reads
returns-in-Err-clause-reads g c =
    let within = place_within (length c.args.areas.now) c.args.places.now (length c.args.places.now - 1) c.in-Some.field-0.now c.requires (sym c.in-Some.ensures.value) in
    reads_set g.V.Vault c.args.areas.now c.in-Some.field-0.now c.index-areas-area.result c.names_in.new.held within c.in-Err.ensures.same c.in-Err.ensures.reads

pub returns-in-Err-clause-cause : goal.returns-in-Err-clause-cause
returns-in-Err-clause-cause g c =
    let within = place_within (length c.args.areas.now) c.args.places.now (length c.args.places.now - 1) c.in-Some.field-0.now c.requires (sym c.in-Some.ensures.value) in
    fails_here g.V.Vault c.args.areas.now c.in-Some.field-0.now c.index-areas-area.result c.names_in.new.held (record { area = c.in-Some.field-0.now; why = c.in-Err.why }) within refl (λ failed. c.in-Err.ensures.cause.failed (ap (λ e. Err e) failed))
