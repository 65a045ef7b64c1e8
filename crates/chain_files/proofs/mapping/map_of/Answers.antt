-- The newest member's file is asked first, the older ones after it.
use Rattle.std.proofs.Common.{◌∙◌, ◌+◌, List, sym, subst, ap, arith, replicate, length, IfSome}
use Rattle.std.specs.List.{AllByRecursion}
use Rattle.std.specs.Prelude.{slice_get}
use Rattle.std.specs.FinMap.{get}
use Rattle.incr_file.specs.Form.{rebuilt_length}
use Rattle.chain_files.specs.Told.{chain_told}
use Rattle.chain_files.specs.Inside.{HasPart, AreSaid, AreAllSaid, IsFormIn, IsFormSeen}
use Rattle.chain_files.specs.declared.slot.Slot.{Slot}
use Rattle.chain_files.specs.declared.slot.Slot.TheVariants.{Open}
use Rattle.chain_files.specs.declared.form.FileForm.TheVariants.{Part}
use Rattle.chain_files.proofs.Told.{reads_refl, members_told}
use Rattle.chain_files.proofs.Members.{written_back, when_all, there_is, some_of}
use Rattle.chain_files.proofs.Blocks.{said_first, said_more}
use Rattle.chain_files.proofs.mapping.map_of.Goals as goal

pub returns-in_err-slots-clause-reads : goal.returns-in_err-slots-clause-reads
returns-in_err-slots-clause-reads g c = reads_refl g.V.Vault c.args.areas.now

pub returns-clause-map : goal.returns-clause-map
returns-clause-map g c =
    subst (λ (l : List Slot). IfSome (chain_told g.V.Vault c.args.areas.now c.args.places.now) (λ chain. AllByRecursion (HasPart c.args.paths.now) chain → IsFormIn chain c.args.paths.now c.args.newest (Part c.args.view) → AreAllSaid chain c.args.paths.now l))
    (sym (written_back c.settle_all.new.slots c.in_ok-slots.slots.items c.in_ok-slots.slots.len (c.settle_all.ensures.kept ∙ ap length c.deref_mut.ensures.value) c.in_ok-slots.slots.ok.0)) (when_all (chain_told g.V.Vault c.args.areas.now c.args.places.now) (λ chain. AllByRecursion (HasPart c.args.paths.now) chain → IsFormIn chain c.args.paths.now c.args.newest (Part c.args.view) → AreAllSaid chain c.args.paths.now c.settle_all.new.slots)
    (λ chain told all seen.
    let long = members_told g.V.Vault c.args.areas.now c.args.places.now chain told in
    let there = there_is chain c.args.newest (omega (arith, long, c.requires.newest)) in
    let first = said_first chain c.args.paths.now (c.args.newest + 1) (rebuilt_length c.args.view.head) (omega (arith, long, c.requires.newest)) in
    let next = said_more chain c.args.paths.now (Part c.args.view) c.args.newest there.0 (replicate (rebuilt_length c.args.view.head) Open) c.in_ok-slots.slots.items there.1
    (some_of (slice_get chain c.args.newest) there.0 (λ files. IsFormSeen (get files c.args.paths.now.incr) (get files c.args.paths.now.plain) (Part c.args.view)) there.1 seen) all c.in_ok-slots.ensures.slots first in
    some_of (chain_told g.V.Vault c.args.areas.now c.args.places.now) chain (λ ch. AllByRecursion (HasPart c.args.paths.now) ch → AreSaid ch c.args.paths.now c.args.newest c.deref_mut.result.now → AreAllSaid ch c.args.paths.now c.settle_all.new.slots) told c.in_ok-settle_all.ensures.said all
    (subst (AreSaid chain c.args.paths.now c.args.newest) (sym c.deref_mut.ensures.value) next)))
