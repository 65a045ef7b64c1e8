-- What a stop leaves of an open store is a stopped store's.
use Rattle.std.proofs.Common.{ℕ, List, ◌++◌, Option, Some, sym, subst}
use Rattle.lsn_core.specs.Files.{Files}
use Rattle.vault.specs.Frame.{LeavesNow}
use Rattle.vault.specs.Stops.{Event}
use Rattle.vault.specs.declared.area.Vault.{Ghosts}
use Rattle.wal_record.specs.declared.record.Record.{Record}
use Rattle.history.specs.fuzzy_copies.Logged.{log_of}
use Rattle.wal_archive.specs.Archive.{archive_of}
use Rattle.wal_writer.specs.Stops.{Holds, HasRest}
use Rattle.stop_comebacks.specs.Laws.{OpenStoresAreStopped}
use Rattle.stop_comebacks.specs.Open.{IsLeftBehind}
use Rattle.stop_comebacks.specs.Stopped.{IsPartLeft, IsWalLeft}
use Rattle.stop_comebacks.proofs.Parts.{parts_left}
use Rattle.stop_comebacks.proofs.WalParts.{wals_left}

left_now : (P : Files → Type 0) (past : Option (List Event)) (files : Files) → LeavesNow P past → IsLeftBehind past files → P files
left_now P past files leaves left =
    let now : LeavesNow P (Some left.events) = subst (LeavesNow P) left.told leaves in
    now files left.may

pub open_stopped : {V : Type 0} (g : Ghosts V) → OpenStoresAreStopped g
open_stopped g s found own log past part areas wal is told left chance parts =
    let w = is.wal in
    let records : List Record = log_of log.mib found own in
    let here : IsWalLeft log.mib log.system (w.stable ++ w.waiting) log.flushed wal =
    wals_left log w.files wal w.stable w.waiting w.tip w.is_log w.known w.waits
    (left_now (λ c. Holds log.mib (archive_of log.mib w.files) log.flushed c) past wal w.holds left)
    (left_now (λ c. HasRest log.mib (archive_of log.mib w.files) log.tip.end c) past wal w.rest left) chance in
    record {
      files = wal;
      told = told;
      wal =
          subst (λ (n : ℕ). IsWalLeft s.segment n records log.flushed wal) is.system_is
          (subst (λ (n : ℕ). IsWalLeft n log.system records log.flushed wal) is.mib_is
          (subst (λ (rs : List Record). IsWalLeft log.mib log.system rs log.flushed wal) (sym w.parts) here));
      partitions = λ q less.
          let d = parts q less in
          let p = is.parts q less in (
            d.0,
            (
              d.1.0,
              subst (λ (n : ℕ). IsPartLeft n q records log.flushed d.0) p.relseg_is
                  (left_now (IsPartLeft (part q).relseg q records log.flushed) (part q).past d.0
                  (parts_left log.mib q log.flushed found own p.known p.later p.store p.mid p.now (part q) is.orderly is.logged p.parts p.parted p.window p.past_redo p.keeps p.own_files) d.1.1),
            ),
          );
    }
