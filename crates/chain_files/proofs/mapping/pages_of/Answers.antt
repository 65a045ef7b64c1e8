-- The form of the newest member's file decides.
use Rattle.std.proofs.Common.{◌≡◌, ◌∙◌, ◌+◌, Some, None, IfSome, sym, subst, arith, length, get_or}
use Rattle.std.specs.Prelude.{slice_get}
use Rattle.std.proofs.lemmas.List.{length-map}
use Rattle.std.specs.List.{AllByRecursion}
use Rattle.std.specs.FinMap.{get}
use Rattle.chain_files.specs.Told.{told_at, chain_told, FailsAt}
use Rattle.chain_files.specs.Sources.{slot_page}
use Rattle.chain_files.specs.declared.form.FileForm.{FileForm}
use Rattle.chain_files.specs.declared.form.FileForm.TheVariants.{Absent, Plain, Part}
use Rattle.chain_files.specs.declared.mapping.SourcePages.TheVariants.{Plain as InPlain, Mapped}
use Rattle.chain_files.specs.Inside.{HasPart, IsFormSeen, AreAllSaid, IsFormIn, ArePagesOf}
use Rattle.chain_files.proofs.Told.{reads_refl, reads_trans, fails_later, members_told, reads_told}
use Rattle.chain_files.proofs.Members.{when_all, some_of, some_is, member_seen, handed_on}
use Rattle.chain_files.proofs.Blocks.{part_pages, plain_pages, absent_pages}
use Rattle.chain_files.proofs.mapping.pages_of.Goals as goal

pub returns-in_default-clause-reads : goal.returns-in_default-clause-reads
returns-in_default-clause-reads g c = reads_refl g.V.Vault c.args.areas.now

pub returns-in_err-slots-in-Part-clause-reads : goal.returns-in_err-slots-in-Part-clause-reads
returns-in_err-slots-in-Part-clause-reads g c = reads_trans g.V.Vault c.args.areas.now c.form_at.new.areas c.map_of.new.areas c.in_ok-form_at.ensures.reads c.in_err-slots-in-Part.ensures.reads

pub returns-in_ok-slots-in-Part-clause-reads : goal.returns-in_ok-slots-in-Part-clause-reads
returns-in_ok-slots-in-Part-clause-reads g c = reads_trans g.V.Vault c.args.areas.now c.form_at.new.areas c.map_of.new.areas c.in_ok-form_at.ensures.reads c.in_ok-slots-in-Part.ensures.reads

pub returns-in_err-slots-in-Part-clause-cause : goal.returns-in_err-slots-in-Part-clause-cause
returns-in_err-slots-in-Part-clause-cause g c =
    handed_on c.from_residual-in_err-slots-in-Part.result c.in_err-slots-in-Part.field-0.0 (FailsAt g.V.Vault c.args.areas.now c.map_of.new.areas) c.from_residual-in_err-slots-in-Part.ensures.1
    (fails_later g.V.Vault c.args.areas.now c.form_at.new.areas c.map_of.new.areas c.in_err-slots-in-Part.field-0.0 c.in_ok-form_at.ensures.reads c.in_err-slots-in-Part.ensures.cause)

pub returns-in-Absent-clause-pages : goal.returns-in-Absent-clause-pages
returns-in-Absent-clause-pages g c =
    when_all (chain_told g.V.Vault c.args.areas.now c.args.places.now) (λ chain. AllByRecursion (HasPart c.args.paths.now) chain → ArePagesOf chain c.args.paths.now None)
    (λ chain told all.
    let long = members_told g.V.Vault c.args.areas.now c.args.places.now chain told in
    let newest = c.in-Some.ensures in
    let size : length chain ≡ c.in-Some.newest + 1 = omega (arith, long, newest.0, newest.1) in
    let seen = member_seen g.V.Vault c.args.areas.now c.args.places.now (λ m. IsFormSeen (get m c.args.paths.now.incr) (get m c.args.paths.now.plain) (Absent)) chain c.in-Some.newest told (omega (arith, newest.0, newest.1))
    (subst (λ (f : FileForm). IfSome (told_at g.V.Vault c.args.areas.now (get_or c.args.places.now c.in-Some.newest 0)) (λ m. IsFormSeen (get m c.args.paths.now.incr) (get m c.args.paths.now.plain) f)) c.in-Absent.is c.in_ok-form_at.ensures.seen) in
    absent_pages chain c.args.paths.now c.in-Some.newest seen.0 size seen.1 seen.2)

pub returns-in-Plain-clause-pages : goal.returns-in-Plain-clause-pages
returns-in-Plain-clause-pages g c =
    when_all (chain_told g.V.Vault c.args.areas.now c.args.places.now) (λ chain. AllByRecursion (HasPart c.args.paths.now) chain → ArePagesOf chain c.args.paths.now (Some (InPlain c.in-Some.newest c.in-Plain.count)))
    (λ chain told all.
    let long = members_told g.V.Vault c.args.areas.now c.args.places.now chain told in
    let newest = c.in-Some.ensures in
    let size : length chain ≡ c.in-Some.newest + 1 = omega (arith, long, newest.0, newest.1) in
    let seen = member_seen g.V.Vault c.args.areas.now c.args.places.now (λ m. IsFormSeen (get m c.args.paths.now.incr) (get m c.args.paths.now.plain) (Plain c.in-Plain.count)) chain c.in-Some.newest told (omega (arith, newest.0, newest.1))
    (subst (λ (f : FileForm). IfSome (told_at g.V.Vault c.args.areas.now (get_or c.args.places.now c.in-Some.newest 0)) (λ m. IsFormSeen (get m c.args.paths.now.incr) (get m c.args.paths.now.plain) f)) c.in-Plain.is c.in_ok-form_at.ensures.seen) in
    plain_pages chain c.args.paths.now c.in-Some.newest seen.0 c.in-Plain.count size seen.1 seen.2)

pub returns-in_ok-slots-in-Part-clause-pages : goal.returns-in_ok-slots-in-Part-clause-pages
returns-in_ok-slots-in-Part-clause-pages g c =
    when_all (chain_told g.V.Vault c.args.areas.now c.args.places.now) (λ chain. AllByRecursion (HasPart c.args.paths.now) chain → ArePagesOf chain c.args.paths.now (Some (Mapped c.in_ok-slots-in-Part.slots)))
    (λ chain told all.
    let long = members_told g.V.Vault c.args.areas.now c.args.places.now chain told in
    let newest = c.in-Some.ensures in
    let size : length chain ≡ c.in-Some.newest + 1 = omega (arith, long, newest.0, newest.1) in
    let seen = member_seen g.V.Vault c.args.areas.now c.args.places.now (λ m. IsFormSeen (get m c.args.paths.now.incr) (get m c.args.paths.now.plain) (Part c.in-Part.view)) chain c.in-Some.newest told (omega (arith, newest.0, newest.1))
    (subst (λ (f : FileForm). IfSome (told_at g.V.Vault c.args.areas.now (get_or c.args.places.now c.in-Some.newest 0)) (λ m. IsFormSeen (get m c.args.paths.now.incr) (get m c.args.paths.now.plain) f)) c.in-Part.is c.in_ok-form_at.ensures.seen) in
    let told_then = reads_told g.V.Vault c.args.areas.now c.form_at.new.areas c.in_ok-form_at.ensures.reads c.args.places.now ∙ told in
    let said = some_of (chain_told g.V.Vault c.form_at.new.areas c.args.places.now) chain (λ ch. AllByRecursion (HasPart c.args.paths.now) ch → IsFormIn ch c.args.paths.now c.in-Some.newest (Part c.in-Part.view) → AreAllSaid ch c.args.paths.now c.in_ok-slots-in-Part.slots.items) told_then c.in_ok-slots-in-Part.ensures.map all
    (some_is (slice_get chain c.in-Some.newest) seen.0 (λ files. IsFormSeen (get files c.args.paths.now.incr) (get files c.args.paths.now.plain) (Part c.in-Part.view)) seen.1 seen.2) in
    (part_pages chain c.args.paths.now c.in-Some.newest seen.0 c.in-Part.view c.in_ok-slots-in-Part.slots.items size seen.1 seen.2 all c.in_ok-slots-in-Part.ensures.long said, sym (length-map c.in_ok-slots-in-Part.slots.items (slot_page chain c.args.paths.now))))
