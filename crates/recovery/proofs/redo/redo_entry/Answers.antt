-- An entry that only marks a place changes nothing.
use Rattle.std.proofs.Common.{refl}
use Rattle.wal_record.specs.declared.record.Kind.TheVariants.{Shutdown, Online, RedoMark, NoOp, BackupEnd}
use Rattle.recovery.proofs.Redoing.{still_redone}
use Rattle.recovery.proofs.redo.redo_entry.Goals as goal

pub returns-in-Shutdown-clause-done : goal.returns-in-Shutdown-clause-done
returns-in-Shutdown-clause-done g c = still_redone g.P.Pages.shows c.args.target.now c.args.tally.now c.args.entry.now (Shutdown c.in-Shutdown.field-0) c.in-Shutdown.is (λ s. refl)

pub returns-in-Online-clause-done : goal.returns-in-Online-clause-done
returns-in-Online-clause-done g c = still_redone g.P.Pages.shows c.args.target.now c.args.tally.now c.args.entry.now (Online c.in-Online.field-0) c.in-Online.is (λ s. refl)

pub returns-in-RedoMark-clause-done : goal.returns-in-RedoMark-clause-done
returns-in-RedoMark-clause-done g c = still_redone g.P.Pages.shows c.args.target.now c.args.tally.now c.args.entry.now (RedoMark c.in-RedoMark.field-0) c.in-RedoMark.is (λ s. refl)

pub returns-in-NoOp-clause-done : goal.returns-in-NoOp-clause-done
returns-in-NoOp-clause-done g c = still_redone g.P.Pages.shows c.args.target.now c.args.tally.now c.args.entry.now NoOp c.in-NoOp.is (λ s. refl)

pub returns-in-BackupEnd-clause-done : goal.returns-in-BackupEnd-clause-done
returns-in-BackupEnd-clause-done g c = still_redone g.P.Pages.shows c.args.target.now c.args.tally.now c.args.entry.now (BackupEnd c.in-BackupEnd.field-0) c.in-BackupEnd.is (λ s. refl)
