-- Calls on segment files of forks change no other file.
use Rattle.std.proofs.Common.{◌≡◌, ℕ, ◌≤◌, List, Option, Some, None, Result, Err, OnOk, OnErr, refl, sym, subst, ◌∙◌, arith}
use Rattle.lsn_core.specs.Files.{Files}
use Rattle.lsn_core.specs.declared.fault.AreaFault.{AreaFault}
use Rattle.lsn_core.specs.declared.fault.AreaFault.TheVariants.{NoMemory}
use Rattle.vault.specs.declared.area.Vault.{Ghosts}
use Rattle.vault.specs.Area.{Related, Writes, MayTear, Cuts, MayCut, Removes, MayRemove}
use Rattle.vault.specs.Stops.{wrote, cut, removed, synced, noted, Notes, Tries}
use Rattle.vault.specs.Frame.{OnlyReads, AgreeBut, ChangesOnly, IsAmong}
use Rattle.vault.proofs.Through.{adds_none, adds_by, adds_sync}
use Rattle.vault.proofs.Changed.{write_agrees, cut_agrees, remove_agrees}
use Rattle.rel_files.specs.Forks.{IsForkPath}

agree_none : (Among : List ℕ → Type 0) (x : Option Files) → Related (AgreeBut Among) x x
agree_none Among None = tt
agree_none Among (Some m) = λ q out. refl

pub reads_change : {V : Type 0} (g : Ghosts V) (Among : List ℕ → Type 0) (x y : V) → OnlyReads g x y → ChangesOnly g Among x y
reads_change g Among x y reads = record {
  files = subst (Related (AgreeBut Among) (g.files x)) (sym reads.files) (agree_none Among (g.files x));
  past = adds_none (IsAmong Among) (g.past x) (g.past y) reads.past;
  faults = reads.faults;
}

-- what agrees but for one of some names agrees but for these
widened : (Among : List ℕ → Type 0) (name : List ℕ) (x y : Option Files) → Among name → Related (AgreeBut (λ q. q ≡ name)) x y → Related (AgreeBut Among) x y
widened Among name None None is agree = tt
widened Among name (Some a) (Some b) is agree = λ q out. agree q (λ e. out (subst Among (sym e) is))
widened Among name None (Some b) is agree = absurd agree
widened Among name (Some a) None is agree = absurd agree

pub write_changes : {V T : Type 0} (g : Ghosts V) (name : List ℕ) (at : ℕ) (piece : List ℕ) (x y : V) (result : Result T AreaFault) → IsForkPath name
    → Writes name at piece (g.files x) (g.files y) result → (result ≡ Err NoMemory → g.files y ≡ g.files x) → MayTear name at piece (g.files x) (g.files y) result
    → Notes (wrote name at piece) (g.past x) (g.past y) result → Tries (wrote name at piece) (g.past x) (g.past y) result → g.faults x ≤ g.faults y → ChangesOnly g IsForkPath x y
write_changes g name at piece x y result is ok memory failed notes tries later = record {
  files = widened IsForkPath name (g.files x) (g.files y) is (write_agrees name at piece (g.files x) (g.files y) result ok memory failed);
  past = adds_by (IsAmong IsForkPath) (wrote name at piece) (g.past x) (g.past y) result is notes tries;
  faults = later;
}

pub cut_changes : {V T : Type 0} (g : Ghosts V) (name : List ℕ) (size : ℕ) (x y : V) (result : Result T AreaFault) → IsForkPath name
    → Cuts name size (g.files x) (g.files y) result → (result ≡ Err NoMemory → g.files y ≡ g.files x) → MayCut name size (g.files x) (g.files y) result
    → Notes (cut name size) (g.past x) (g.past y) result → Tries (cut name size) (g.past x) (g.past y) result → g.faults x ≤ g.faults y → ChangesOnly g IsForkPath x y
cut_changes g name size x y result is ok memory failed notes tries later = record {
  files = widened IsForkPath name (g.files x) (g.files y) is (cut_agrees name size (g.files x) (g.files y) result ok memory failed);
  past = adds_by (IsAmong IsForkPath) (cut name size) (g.past x) (g.past y) result is notes tries;
  faults = later;
}

pub removal_changes : {V T : Type 0} (g : Ghosts V) (name : List ℕ) (x y : V) (result : Result T AreaFault) → IsForkPath name
    → Removes name (g.files x) (g.files y) result → (result ≡ Err NoMemory → g.files y ≡ g.files x) → MayRemove name (g.files x) (g.files y) result
    → Notes (removed name) (g.past x) (g.past y) result → Tries (removed name) (g.past x) (g.past y) result → g.faults x ≤ g.faults y → ChangesOnly g IsForkPath x y
removal_changes g name x y result is ok memory failed notes tries later = record {
  files = widened IsForkPath name (g.files x) (g.files y) is (remove_agrees name (g.files x) (g.files y) result ok memory failed);
  past = adds_by (IsAmong IsForkPath) (removed name) (g.past x) (g.past y) result is notes tries;
  faults = later;
}

pub changes_none : {V : Type 0} (g : Ghosts V) (Among : List ℕ → Type 0) (x : V) → ChangesOnly g Among x x
changes_none g Among x = reads_change g Among x x (record { files = refl; past = refl; faults = omega arith })

-- reads one after the other
pub reads_on : {V : Type 0} (g : Ghosts V) (x y z : V) → OnlyReads g x y → OnlyReads g y z → OnlyReads g x z
reads_on g x y z first second = record { files = second.files ∙ first.files; past = second.past ∙ first.past; faults = omega (arith, first.faults, second.faults) }

-- a sync changes no file
pub sync_changes : {V T : Type 0} (g : Ghosts V) (x y : V) (result : Result T AreaFault) → g.files y ≡ g.files x → OnOk result (g.past y ≡ noted (synced (g.files x)) (g.past x)) → OnErr result (g.past y ≡ g.past x) → g.faults x ≤ g.faults y → ChangesOnly g IsForkPath x y
sync_changes g x y result same ok err later = record {
  files = subst (Related (AgreeBut IsForkPath) (g.files x)) (sym same) (agree_none IsForkPath (g.files x));
  past = adds_sync (IsAmong IsForkPath) (g.files x) (g.past x) (g.past y) result tt ok err;
  faults = later;
}
