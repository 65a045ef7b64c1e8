-- The manifest's file stays as it is.
use Rattle.std.proofs.Common.{◌≡◌, ℕ, ◌≤◌, ◌≢◌, false, cond, List, length, Option, Some, None, Result, Ok, Err, refl, sym, ap, subst, ◌∙◌, arith}
use Rattle.std.specs.Option.{option_map}
use Rattle.std.specs.Cmp.Lexicographic.{nat_list_cmp_total}
use Rattle.std.specs.FinMap.{get, insert, get-insert}
use Rattle.std.proofs.lemmas.Bool.{false_from_ne_true}
use Rattle.lsn_core.specs.Causes.{Rose, HasCause}
use Rattle.lsn_core.specs.Files.{Files}
use Rattle.lsn_core.specs.declared.fault.AreaFault.{AreaFault}
use Rattle.lsn_core.specs.declared.fault.AreaFault.TheVariants as area
use Rattle.lsn_core.proofs.StoreFiles.{same_name, names_tie}
use Rattle.vault.specs.declared.area.Vault.{Ghosts}
use Rattle.vault.specs.Area.{Related, IsTorn, Writes, MayTear, after_write, bytes_of, file_written}
use Rattle.backup_files.specs.Directory.{manifest_name}
use Rattle.backup_files.specs.Area.{KeepsManifest, SparesManifest}

pub kept_still : (files : Option Files) → KeepsManifest files files
kept_still None = tt
kept_still (Some m) = refl

pub kept_same : (old new : Option Files) → new ≡ old → KeepsManifest old new
kept_same old new e = subst (λ (o : Option Files). KeepsManifest old o) (sym e) (kept_still old)

pub kept_on : (a b c : Option Files) → KeepsManifest a b → KeepsManifest b c → KeepsManifest a c
kept_on None None None x y = tt
kept_on (Some l) (Some m) (Some n) x y = y ∙ x
kept_on None None (Some n) x y = absurd y
kept_on None (Some m) c x y = absurd x
kept_on (Some l) None c x y = absurd x
kept_on (Some l) (Some m) None x y = absurd y

-- ---- a write of another file

other_name : (name : List ℕ) → name ≢ manifest_name → same_name manifest_name name ≡ false
other_name name other = false_from_ne_true (same_name manifest_name name) (λ e. other (sym (names_tie manifest_name name e)))

put_beside : (m : Files) (name bytes : List ℕ) → name ≢ manifest_name → get (insert m name bytes) manifest_name ≡ get m manifest_name
put_beside m name bytes other = get-insert nat_list_cmp_total m name bytes manifest_name ∙ ap (λ b. cond b (Some bytes) (get m manifest_name)) (other_name name other)

kept_written : (files : Option Files) (name piece : List ℕ) (at : ℕ) → name ≢ manifest_name → KeepsManifest files (option_map (after_write name at piece) files)
kept_written None name piece at other = tt
kept_written (Some m) name piece at other = put_beside m name (file_written (bytes_of m name) at piece) other

kept_torn : (old new : Option Files) (name : List ℕ) (at count : ℕ) → name ≢ manifest_name → Related (IsTorn name at count) old new → KeepsManifest old new
kept_torn None None name at count other torn = tt
kept_torn (Some m) (Some n) name at count other torn = torn.others manifest_name (λ e. other (sym e))
kept_torn None (Some n) name at count other torn = absurd torn
kept_torn (Some m) None name at count other torn = absurd torn

abbrev pub err : (T : Type 0) → AreaFault → Result T AreaFault
err T why = Err why

pub kept_by : {T : Type 0} (old new : Option Files) (name piece : List ℕ) (at : ℕ) (r : Result T AreaFault) → name ≢ manifest_name → Writes name at piece old new r → (r ≡ err T area.NoMemory → new ≡ old) → MayTear name at piece old new r → KeepsManifest old new
kept_by old new name piece at (Ok x) other written memory torn = subst (KeepsManifest old) (sym written) (kept_written old name piece at other)
kept_by old new name piece at (Err area.Failed) other written memory torn = kept_torn old new name at (length piece) other (torn refl)
kept_by old new name piece at (Err area.NoMemory) other written memory torn = kept_same old new (memory refl)

-- ---- the count, too

pub spares_still : {V : Type 0} (g : Ghosts V) (out : V) → SparesManifest g out out
spares_still g out = record { manifest = kept_still (g.files out); faults = omega arith }

pub spares_on : {V : Type 0} (g : Ghosts V) (a b c : V) → SparesManifest g a b → SparesManifest g b c → SparesManifest g a c
spares_on g a b c x y = record { manifest = kept_on (g.files a) (g.files b) (g.files c) x.manifest y.manifest; faults = omega (arith, x.faults, y.faults) }

-- whatever a write answers
pub spares_write : {V T : Type 0} (g : Ghosts V) (old new : V) (name piece : List ℕ) (at : ℕ) (r : Result T AreaFault) → name ≢ manifest_name → Writes name at piece (g.files old) (g.files new) r → (r ≡ err T area.NoMemory → g.files new ≡ g.files old)
    → MayTear name at piece (g.files old) (g.files new) r → HasCause (g.faults old) (g.faults new) r → SparesManifest g old new
spares_write g old new name piece at r other written memory torn cause = record { manifest = kept_by (g.files old) (g.files new) name piece at r other written memory torn; faults = cause.later }

-- ---- counts

pub rose_later : (a b c : ℕ) → a ≤ b → Rose b c → Rose a c
rose_later a b c le rose = omega (arith, le, rose)
