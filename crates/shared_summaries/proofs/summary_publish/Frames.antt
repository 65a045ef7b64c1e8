-- Calls on the files of summaries change no other file.
use Rattle.std.proofs.Common.{◌≡◌, ℕ, ◌≤◌, List, Option, Some, None, Result, Err, OnOk, OnErr, refl, sym, subst, arith}
use Rattle.lsn_core.specs.Files.{Files}
use Rattle.lsn_core.specs.declared.fault.AreaFault.{AreaFault}
use Rattle.lsn_core.specs.declared.fault.AreaFault.TheVariants.{NoMemory}
use Rattle.vault.specs.declared.area.Vault.{Ghosts}
use Rattle.vault.specs.Area.{Related, Writes, MayTear, Cuts, MayCut}
use Rattle.vault.specs.Stops.{wrote, cut, synced, noted, Notes, Tries}
use Rattle.vault.specs.Frame.{OnlyReads, AgreeBut, ChangesOnly, IsAmong}
use Rattle.vault.proofs.Through.{adds_none, adds_by, adds_sync}
use Rattle.vault.proofs.Changed.{changes_on, write_agrees, cut_agrees}
use Rattle.summary_store.specs.Expiry.{IsSummaryName}

agree_none : (x : Option Files) → Related (AgreeBut IsSummaryName) x x
agree_none None = tt
agree_none (Some m) = λ q out. refl

pub reads_change : {V : Type 0} (g : Ghosts V) (x y : V) → OnlyReads g x y → ChangesOnly g IsSummaryName x y
reads_change g x y reads = record {
  files = subst (Related (AgreeBut IsSummaryName) (g.files x)) (sym reads.files) (agree_none (g.files x));
  past = adds_none (IsAmong IsSummaryName) (g.past x) (g.past y) reads.past;
  faults = reads.faults;
}

pub changes_none : {V : Type 0} (g : Ghosts V) (x : V) → ChangesOnly g IsSummaryName x x
changes_none g x = reads_change g x x (record { files = refl; past = refl; faults = omega arith })

pub then_reads : {V : Type 0} (g : Ghosts V) (x y z : V) → ChangesOnly g IsSummaryName x y → OnlyReads g y z → ChangesOnly g IsSummaryName x z
then_reads g x y z changes reads = changes_on g IsSummaryName x y z changes (reads_change g y z reads)

widened : (name : List ℕ) (x y : Option Files) → IsSummaryName name → Related (AgreeBut (λ q. q ≡ name)) x y → Related (AgreeBut IsSummaryName) x y
widened name None None is agree = tt
widened name (Some a) (Some b) is agree = λ q out. agree q (λ e. out (subst IsSummaryName (sym e) is))
widened name None (Some b) is agree = absurd agree
widened name (Some a) None is agree = absurd agree

pub write_changes : {V T : Type 0} (g : Ghosts V) (name : List ℕ) (at : ℕ) (piece : List ℕ) (x y : V) (result : Result T AreaFault) → IsSummaryName name
    → Writes name at piece (g.files x) (g.files y) result → (result ≡ Err NoMemory → g.files y ≡ g.files x) → MayTear name at piece (g.files x) (g.files y) result
    → Notes (wrote name at piece) (g.past x) (g.past y) result → Tries (wrote name at piece) (g.past x) (g.past y) result → g.faults x ≤ g.faults y → ChangesOnly g IsSummaryName x y
write_changes g name at piece x y result is ok memory failed notes tries later = record {
  files = widened name (g.files x) (g.files y) is (write_agrees name at piece (g.files x) (g.files y) result ok memory failed);
  past = adds_by (IsAmong IsSummaryName) (wrote name at piece) (g.past x) (g.past y) result is notes tries;
  faults = later;
}

pub cut_changes : {V T : Type 0} (g : Ghosts V) (name : List ℕ) (size : ℕ) (x y : V) (result : Result T AreaFault) → IsSummaryName name
    → Cuts name size (g.files x) (g.files y) result → (result ≡ Err NoMemory → g.files y ≡ g.files x) → MayCut name size (g.files x) (g.files y) result
    → Notes (cut name size) (g.past x) (g.past y) result → Tries (cut name size) (g.past x) (g.past y) result → g.faults x ≤ g.faults y → ChangesOnly g IsSummaryName x y
cut_changes g name size x y result is ok memory failed notes tries later = record {
  files = widened name (g.files x) (g.files y) is (cut_agrees name size (g.files x) (g.files y) result ok memory failed);
  past = adds_by (IsAmong IsSummaryName) (cut name size) (g.past x) (g.past y) result is notes tries;
  faults = later;
}

pub sync_changes : {V T : Type 0} (g : Ghosts V) (x y : V) (result : Result T AreaFault) → g.files y ≡ g.files x → OnOk result (g.past y ≡ noted (synced (g.files x)) (g.past x)) → OnErr result (g.past y ≡ g.past x) → g.faults x ≤ g.faults y
    → ChangesOnly g IsSummaryName x y
sync_changes g x y result same ok err later = record {
  files = subst (Related (AgreeBut IsSummaryName) (g.files x)) (sym same) (agree_none (g.files x));
  past = adds_sync (IsAmong IsSummaryName) (g.files x) (g.past x) (g.past y) result tt ok err;
  faults = later;
}
