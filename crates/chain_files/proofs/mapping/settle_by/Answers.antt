-- One more member is asked.
use Rattle.std.proofs.Common.{◌+◌}
use Rattle.std.specs.List.{AllByRecursion}
use Rattle.std.specs.FinMap.{get}
use Rattle.chain_files.specs.Told.{chain_told}
use Rattle.chain_files.specs.Inside.{HasPart, AreSaid, IsFormSeen}
use Rattle.chain_files.proofs.Members.{when_all, member_seen}
use Rattle.chain_files.proofs.Blocks.{said_more}
use Rattle.chain_files.proofs.mapping.settle_by.Goals as goal

pub returns-clause-said : goal.returns-clause-said
returns-clause-said g c =
    when_all (chain_told g.V.Vault c.args.areas.now c.args.places.now) (λ chain. AllByRecursion (HasPart c.args.paths.now) chain → AreSaid chain c.args.paths.now (c.args.member + 1) c.args.slots.now → AreSaid chain c.args.paths.now c.args.member c.settle.new.slots)
    (λ chain told all before.
    let seen = member_seen g.V.Vault c.args.areas.now c.args.places.now (λ m. IsFormSeen (get m c.args.paths.now.incr) (get m c.args.paths.now.plain) c.in_ok-form.form) chain c.args.member told c.requires.member c.in_ok-form.ensures.seen in
    said_more chain c.args.paths.now c.in_ok-form.form c.args.member seen.0 c.args.slots.now c.settle.new.slots seen.1 seen.2 all c.settle.ensures before)
