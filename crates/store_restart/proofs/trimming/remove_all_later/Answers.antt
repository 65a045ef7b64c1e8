-- The names are gone through, the last one first.
use Rattle.std.proofs.Common.{ℕ, List, Option, sym, subst}
use Rattle.lsn_core.specs.Files.{Files}
use Rattle.vault.specs.Area.{Related}
use Rattle.vault.proofs.Through.{adds_none, adds_on}
use Rattle.vault.proofs.Changed.{changes_on}
use Rattle.store_restart.specs.Trimmed.{IsArchiveFile, IsTrim}
use Rattle.store_restart.specs.Trimming.{DropsLater}
use Rattle.store_restart.proofs.Trimmed.{IsClearing, clearing_starts, clearing_on}
use Rattle.store_restart.proofs.TrimCalls.{same_changes}
use Rattle.store_restart.proofs.trimming.remove_all_later.Goals as goal

pub loop-name-init : goal.loop-name-init
loop-name-init g c =
    let mib = c.args.size in
    let own = c.args.own in
    let names : List (List ℕ) = c.in_ok-names.names.items in
    let old : Option Files = g.V.Vault.files c.args.wal.now in
    let e = c.names.ensures in
    record {
      clears = subst (Related (IsClearing mib own names) old) (sym e.same) (clearing_starts mib own names old c.in_ok-names.ensures.names);
      events = λ end is. adds_none (IsTrim mib end) (g.V.Vault.past c.args.wal.now) (g.V.Vault.past c.names.new.self) e.quiet;
      changes = same_changes g.V.Vault (IsArchiveFile mib) c.args.wal.now c.names.new.self e.same e.quiet e.cause.later;
    }

pub returns-in_err-remove_later-clause-events : goal.returns-in_err-remove_later-clause-events
returns-in_err-remove_later-clause-events g c end is =
    let p = g.V.Vault.past in
    adds_on (IsTrim c.args.size end) (p c.args.wal.now) (p c.loop-name.wal) (p c.remove_later.new.wal) (c.loop-name.invariant.events end is) (c.in_err-remove_later.ensures.events end is)

pub returns-in_err-remove_later-clause-changes : goal.returns-in_err-remove_later-clause-changes
returns-in_err-remove_later-clause-changes g c =
    changes_on g.V.Vault (IsArchiveFile c.args.size) c.args.wal.now c.loop-name.wal c.remove_later.new.wal c.loop-name.invariant.changes c.in_err-remove_later.ensures.changes

pub loop-name-preserved : goal.loop-name-preserved
loop-name-preserved g c =
    let mib = c.args.size in
    let own = c.args.own in
    let f = g.V.Vault.files in
    let p = g.V.Vault.past in
    let e = c.in_ok-remove_later.ensures in
    record {
      clears = clearing_on mib own c.in-Some.name c.loop-name.names.items c.pop.new.self.items (f c.args.wal.now) (f c.loop-name.wal) (f c.remove_later.new.wal) c.in-Some.ensures.items
          (subst (λ (q : List ℕ). DropsLater mib own q (f c.loop-name.wal) (f c.remove_later.new.wal)) c.as_bytes.ensures e.removed) c.loop-name.invariant.clears;
      events = λ end is. adds_on (IsTrim mib end) (p c.args.wal.now) (p c.loop-name.wal) (p c.remove_later.new.wal) (c.loop-name.invariant.events end is) (e.events end is);
      changes = changes_on g.V.Vault (IsArchiveFile mib) c.args.wal.now c.loop-name.wal c.remove_later.new.wal c.loop-name.invariant.changes e.changes;
    }
