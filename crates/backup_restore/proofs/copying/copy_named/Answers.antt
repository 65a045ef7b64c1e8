-- A name is that of one fork's first file, or of none.
use Rattle.std.proofs.Common.{subst, sym, ap, ◌∙◌}
use Rattle.lsn_core.specs.Names.{IsNamed, fork_path_bytes}
use Rattle.lsn_core.proofs.ForkPaths.{one_place}
use Rattle.chain_files.specs.Told.{chain_told}
use Rattle.chain_files.proofs.Told.{reads_refl}
use Rattle.backup_restore.specs.Inside.{area_shows}
use Rattle.backup_restore.proofs.StoreCopies.{one_named, none_named}
use Rattle.backup_restore.proofs.copying.copy_named.Goals as goal

pub returns-then-seg-ne0-clause-added : goal.returns-then-seg-ne0-clause-added
returns-then-seg-ne0-clause-added g c =
    none_named (area_shows g.V.Vault c.args.relseg) c.args.relseg (chain_told g.V.Vault c.args.areas.now c.args.places.now) c.args.name.now c.args.out.now c.args.tally.now (λ fork first.
    let one = one_place fork c.in-Some.fork 0 c.in-Some.seg first.incr c.in-Some.field-0-2 first.named c.in-Some.ensures.named (sym first.is ∙ c.in-Some.ensures.found) in
    absurd (c.if-seg-ne0.true (sym one.1.0)))

pub returns-clause-added : goal.returns-clause-added
returns-clause-added g c =
    one_named (area_shows g.V.Vault c.args.relseg) c.args.relseg (chain_told g.V.Vault c.args.areas.now c.args.places.now) c.args.name.now c.in-Some.fork c.in-Some.field-0-2 c.args.out.now c.copy_fork.new.out c.in_ok-count.count c.args.tally.now c.recount.new.self
    (subst (IsNamed c.in-Some.fork) c.if-seg-ne0.false c.in-Some.ensures.named)
    (c.in-Some.ensures.found ∙ ap (λ n. fork_path_bytes c.in-Some.fork n c.in-Some.field-0-2) c.if-seg-ne0.false)
    c.in_ok-count.ensures.put c.in_ok-recount.ensures

pub returns-in_default-clause-added : goal.returns-in_default-clause-added
returns-in_default-clause-added g c =
    none_named (area_shows g.V.Vault c.args.relseg) c.args.relseg (chain_told g.V.Vault c.args.areas.now c.args.places.now) c.args.name.now c.args.out.now c.args.tally.now (λ fork first. c.in_default.ensures.none fork 0 first.incr first.named first.is)

pub returns-in_default-clause-reads : goal.returns-in_default-clause-reads
returns-in_default-clause-reads g c = reads_refl g.V.Vault c.args.areas.now

pub returns-then-seg-ne0-clause-reads : goal.returns-then-seg-ne0-clause-reads
returns-then-seg-ne0-clause-reads g c = reads_refl g.V.Vault c.args.areas.now
