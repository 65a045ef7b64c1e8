-- What writing a manifest leaves of it.
use Rattle.std.proofs.Common.{◌≡◌, ℕ, ◌≤◌, cond, List, Option, Some, None, sym, ap, subst, ◌∙◌, arith, inl, inr}
use Rattle.std.specs.Option.{option_map}
use Rattle.std.specs.Cmp.Lexicographic.{nat_list_cmp_total}
use Rattle.std.specs.FinMap.{get, insert, remove, get-remove}
use Rattle.lsn_core.specs.Causes.{Rose}
use Rattle.lsn_core.specs.Files.{Files}
use Rattle.lsn_core.specs.declared.fault.AreaFault.{AreaFault}
use Rattle.lsn_core.specs.declared.fault.AreaFault.TheVariants as area
use Rattle.lsn_core.proofs.StoreFiles.{name_itself}
use Rattle.vault.specs.declared.area.Vault.{Ghosts}
use Rattle.vault.specs.Area.{after_remove}
use Rattle.backup_files.specs.Area.{KeepsManifest, RoseTwice, Lacks, LeavesText, TellAlike, with_file}
use Rattle.backup_files.specs.Directory.{manifest_name}
use Rattle.backup_files.specs.Inside.{FailsToWrite, Withdraws}
use Rattle.backup_files.proofs.Kept.{kept_same}

-- ---- areas that tell alike

alike_map : (f : Files → Files) (files : Option Files) → TellAlike files (option_map f files)
alike_map f None = tt
alike_map f (Some m) = tt

alike_still : (files : Option Files) → TellAlike files files
alike_still None = tt
alike_still (Some m) = tt

pub alike_by : (f : Files → Files) (old new : Option Files) → new ≡ option_map f old → TellAlike old new
alike_by f old new e = subst (λ (o : Option Files). TellAlike old o) (sym e) (alike_map f old)

pub alike_same : (old new : Option Files) → new ≡ old → TellAlike old new
alike_same old new e = subst (λ (o : Option Files). TellAlike old o) (sym e) (alike_still old)

-- ---- the manifest's removal

gone : (m : Files) → get (remove m manifest_name) manifest_name ≡ None
gone m = get-remove nat_list_cmp_total m manifest_name manifest_name ∙ ap (λ b. cond b None (get m manifest_name)) (name_itself manifest_name)

removed_in : (old mid : Option Files) → Lacks old manifest_name → TellAlike old mid → KeepsManifest old (option_map (after_remove manifest_name) mid)
removed_in None None lacks tells = tt
removed_in (Some m) (Some n) lacks tells = gone n ∙ sym lacks
removed_in None (Some n) lacks tells = absurd tells
removed_in (Some m) None lacks tells = absurd tells

pub kept_removed : (old mid new : Option Files) → Lacks old manifest_name → TellAlike old mid → new ≡ option_map (after_remove manifest_name) mid → KeepsManifest old new
kept_removed old mid new lacks tells e = subst (KeepsManifest old) (sym e) (removed_in old mid lacks tells)

-- ---- what is left

told : {V : Type 0} (g : Ghosts V) (text : List ℕ) (old new : V) (why : AreaFault) → FailsToWrite g text old new why → TellAlike (g.files old) (g.files new)
told g text old new area.Failed fails = fails.1
told g text old new area.NoMemory (inl same) = alike_same (g.files old) (g.files new) same
told g text old new area.NoMemory (inr put) = alike_by (λ m. insert m manifest_name text) (g.files old) (g.files new) put

twice : (a b c : ℕ) → Rose a b → Rose b c → RoseTwice a c
twice a b c one two = omega (arith, one, two)

after : (a b c : ℕ) → Rose a b → b ≤ c → Rose a c
after a b c one le = omega (arith, one, le)

before : (a b c : ℕ) → a ≤ b → Rose b c → Rose a c
before a b c le one = omega (arith, le, one)

kept_left : {V : Type 0} (g : Ghosts V) (text : List ℕ) (old new : V) (answer : AreaFault) → KeepsManifest (g.files old) (g.files new) → LeavesText g text old new answer
kept_left g text old new area.Failed kept = inl kept
kept_left g text old new area.NoMemory kept = inl kept

removal_rose : {V : Type 0} (g : Ghosts V) (text : List ℕ) (old mid new : V) (why : AreaFault) → FailsToWrite g text old mid why → g.faults old ≤ g.faults mid → Rose (g.faults mid) (g.faults new) → LeavesText g text old new why
removal_rose g text old mid new area.Failed fails le rose = inr (twice (g.faults old) (g.faults mid) (g.faults new) fails.0 rose)
removal_rose g text old mid new area.NoMemory fails le rose = inr (inl (before (g.faults old) (g.faults mid) (g.faults new) le rose))

no_memory : {V : Type 0} (g : Ghosts V) (text : List ℕ) (old mid new : V) (why : AreaFault) → FailsToWrite g text old mid why → g.faults mid ≤ g.faults new → g.files new ≡ g.files mid → LeavesText g text old new area.NoMemory
no_memory g text old mid new area.Failed fails le same = inr (inl (after (g.faults old) (g.faults mid) (g.faults new) fails.0 le))
no_memory g text old mid new area.NoMemory (inl kept) le same = inl (kept_same (g.files old) (g.files new) (same ∙ kept))
no_memory g text old mid new area.NoMemory (inr put) le same = inr (inr (same ∙ put))

pub withdrawn : {V : Type 0} (g : Ghosts V) (text : List ℕ) (old mid new : V) (why answer : AreaFault) → Lacks (g.files old) manifest_name → g.faults old ≤ g.faults mid → g.faults mid ≤ g.faults new → FailsToWrite g text old mid why → Withdraws g why mid new answer
    → LeavesText g text old new answer
withdrawn g text old mid new why answer lacks le later fails (inl removed) =
    kept_left g text old new answer (kept_removed (g.files old) (g.files mid) (g.files new) lacks (told g text old mid why fails) removed.1)
withdrawn g text old mid new why answer lacks le later fails (inr (inl failed)) =
    subst (LeavesText g text old new) (sym failed.0) (removal_rose g text old mid new why fails le failed.1)
withdrawn g text old mid new why answer lacks le later fails (inr (inr none)) =
    subst (LeavesText g text old new) (sym none.0) (no_memory g text old mid new why fails later none.1)

-- the files were synced before
pub left_behind : {V : Type 0} (g : Ghosts V) (text : List ℕ) (a b c : V) (why : AreaFault) → g.files b ≡ g.files a → g.faults a ≤ g.faults b → LeavesText g text b c why → LeavesText g text a c why
left_behind g text a b c area.Failed files le (inl kept) = inl (subst (λ (o : Option Files). KeepsManifest o (g.files c)) files kept)
left_behind g text a b c area.Failed files le (inr rose) = inr (omega (arith, le, rose))
left_behind g text a b c area.NoMemory files le (inl kept) = inl (subst (λ (o : Option Files). KeepsManifest o (g.files c)) files kept)
left_behind g text a b c area.NoMemory files le (inr (inl rose)) = inr (inl (before (g.faults a) (g.faults b) (g.faults c) le rose))
left_behind g text a b c area.NoMemory files le (inr (inr put)) = inr (inr (put ∙ ap (with_file manifest_name text) files))
