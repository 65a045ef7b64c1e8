use Rattle.wal_archive.proofs.Scans.{why_torn, why_short, why_gone}
use Rattle.wal_archive.proofs.taking.why_missing.Goals as goal

pub returns-then-not-branch-clause-why : goal.returns-then-not-branch-clause-why
returns-then-not-branch-clause-why g c =
    why_torn (g.V.Vault.files c.args.area.now) c.args.size c.args.begin c.args.x
    c.in_ok-is_held_from.field-0 c.if-not-branch.true c.in_ok-is_held_from.ensures.held

pub returns-in-Some-clause-why : goal.returns-in-Some-clause-why
returns-in-Some-clause-why g c =
    why_short (g.V.Vault.files c.args.area.now) (g.V.Vault.files c.is_held_from.new.area)
    c.args.size
    c.args.begin c.args.x c.segment_of-number.result c.bytes.result c.in-Some.count
    c.in_ok-is_held_from.field-0 c.in_ok-count.field-0 c.in_ok-is_held_from.ensures.reads.files
    c.if-not-branch.false c.segment_of-number.ensures.number c.bytes.ensures.bytes c.in-Some.is
    c.in_ok-is_held_from.ensures.held c.in_ok-count.ensures.held

pub returns-in-None-clause-why : goal.returns-in-None-clause-why
returns-in-None-clause-why g c =
    why_gone (g.V.Vault.files c.args.area.now) (g.V.Vault.files c.is_held_from.new.area) c.args.size
    c.args.begin c.args.x c.segment_of-number.result c.in_ok-is_held_from.field-0
    c.in_ok-count.field-0 c.in_ok-is_held_from.ensures.reads.files c.if-not-branch.false
    c.segment_of-number.ensures.number c.in-None.is c.in_ok-is_held_from.ensures.held
    c.in_ok-count.ensures.held
