-- Calls that change one file, and the mark that they make or remove.
use Rattle.std.proofs.Common.{◌≡◌, ℕ, ◌≤◌, cond, List, [], Option, Some, None, IfSome, Result, Ok, Err, OnOk, OnErr, option_map, refl, sym, ap, subst, ◌∙◌}
use Rattle.std.specs.Cmp.{eq_by_cmp_equiv}
use Rattle.std.specs.Cmp.Lexicographic.{nat_list_cmp_total}
use Rattle.std.specs.FinMap.{get, insert, get-insert, get-remove}
use Rattle.lsn_core.specs.Files.{Files}
use Rattle.lsn_core.specs.declared.fault.AreaFault.{AreaFault}
use Rattle.lsn_core.specs.declared.fault.AreaFault.TheVariants.{NoMemory}
use Rattle.vault.specs.declared.area.Vault.{Ghosts}
use Rattle.vault.specs.Area.{bytes_of, file_written, after_write, after_remove, Related, Writes, MayTear, Removes, MayRemove}
use Rattle.vault.specs.Stops.{Event, wrote, removed, synced, noted, Notes, Tries}
use Rattle.vault.specs.Frame.{AgreeBut, ChangesOnly, IsAmong, LeavesNow, Has}
use Rattle.vault.proofs.Through.{adds_by, adds_sync}
use Rattle.vault.proofs.Changed.{write_agrees, remove_agrees}

agree_none : (Among : List ℕ → Type 0) (x : Option Files) → Related (AgreeBut Among) x x
agree_none Among None = tt
agree_none Among (Some m) = λ q out. refl

-- what agrees but for one of some names agrees but for these
widened : (Among : List ℕ → Type 0) (name : List ℕ) (x y : Option Files) → Among name → Related (AgreeBut (λ q. q ≡ name)) x y → Related (AgreeBut Among) x y
widened Among name None None is agree = tt
widened Among name (Some a) (Some b) is agree = λ q out. agree q (λ e. out (subst Among (sym e) is))
widened Among name None (Some b) is agree = absurd agree
widened Among name (Some a) None is agree = absurd agree

-- a write of one of some files, whatever it answers, changes only these
pub write_changes : {V T : Type 0} (g : Ghosts V) (Among : List ℕ → Type 0) (name : List ℕ) (at : ℕ) (piece : List ℕ) (x y : V) (result : Result T AreaFault) → Among name
    → Writes name at piece (g.files x) (g.files y) result → (result ≡ Err NoMemory → g.files y ≡ g.files x) → MayTear name at piece (g.files x) (g.files y) result
    → Notes (wrote name at piece) (g.past x) (g.past y) result → Tries (wrote name at piece) (g.past x) (g.past y) result → g.faults x ≤ g.faults y → ChangesOnly g Among x y
write_changes g Among name at piece x y result is ok memory failed notes tries later = record {
  files = widened Among name (g.files x) (g.files y) is (write_agrees name at piece (g.files x) (g.files y) result ok memory failed);
  past = adds_by (IsAmong Among) (wrote name at piece) (g.past x) (g.past y) result is notes tries;
  faults = later;
}

-- and so does a removal
pub removal_changes : {V T : Type 0} (g : Ghosts V) (Among : List ℕ → Type 0) (name : List ℕ) (x y : V) (result : Result T AreaFault) → Among name
    → Removes name (g.files x) (g.files y) result → (result ≡ Err NoMemory → g.files y ≡ g.files x) → MayRemove name (g.files x) (g.files y) result
    → Notes (removed name) (g.past x) (g.past y) result → Tries (removed name) (g.past x) (g.past y) result → g.faults x ≤ g.faults y → ChangesOnly g Among x y
removal_changes g Among name x y result is ok memory failed notes tries later = record {
  files = widened Among name (g.files x) (g.files y) is (remove_agrees name (g.files x) (g.files y) result ok memory failed);
  past = adds_by (IsAmong Among) (removed name) (g.past x) (g.past y) result is notes tries;
  faults = later;
}

-- a sync changes no file
pub sync_changes : {V T : Type 0} (g : Ghosts V) (Among : List ℕ → Type 0) (x y : V) (result : Result T AreaFault) → g.files y ≡ g.files x
    → OnOk result (g.past y ≡ noted (synced (g.files x)) (g.past x)) → OnErr result (g.past y ≡ g.past x) → g.faults x ≤ g.faults y → ChangesOnly g Among x y
sync_changes g Among x y result same ok err later = record {
  files = subst (Related (AgreeBut Among) (g.files x)) (sym same) (agree_none Among (g.files x));
  past = adds_sync (IsAmong Among) (g.files x) (g.past x) (g.past y) result tt ok err;
  faults = later;
}

-- what holds anyway holds after a success
pub anyway : {T E : Type 0} (result : Result T E) (P : Type 0) → P → OnOk result P
anyway (Ok done) P holds = holds
anyway (Err fault) P holds = tt

-- a file that was written is there
has_some : (name bytes : List ℕ) (files : Files) → get files name ≡ Some bytes → Has name files
has_some name bytes files there none = absurd (let e = sym there ∙ none in cc)

written_there : (name : List ℕ) (files : Files) → Has name (after_write name 0 [] files)
written_there name files =
    let bytes = file_written (bytes_of files name) 0 [] in
    has_some name bytes (insert files name bytes)
    (get-insert nat_list_cmp_total files name bytes name ∙ ap (λ c. cond c (Some bytes) (get files name)) ((eq_by_cmp_equiv nat_list_cmp_total).refl name))

pub made_there : (name : List ℕ) (x y z : Option Files) → y ≡ option_map (after_write name 0 []) x → z ≡ y → IfSome z (Has name)
made_there name None y z made same = subst (λ (o : Option Files). IfSome o (Has name)) (sym (same ∙ made)) tt
made_there name (Some files) y z made same = subst (λ (o : Option Files). IfSome o (Has name)) (sym (same ∙ made)) (written_there name files)

-- and a file that was removed is not
removed_gone : (name : List ℕ) (files : Files) → get (after_remove name files) name ≡ None
removed_gone name files = get-remove nat_list_cmp_total files name name ∙ ap (λ c. cond c None (get files name)) ((eq_by_cmp_equiv nat_list_cmp_total).refl name)

pub gone : (name : List ℕ) (x y z : Option Files) → y ≡ option_map (after_remove name) x → z ≡ y → IfSome z (λ m. get m name ≡ None)
gone name None y z made same = subst (λ (o : Option Files). IfSome o (λ m. get m name ≡ None)) (sym (same ∙ made)) tt
gone name (Some files) y z made same = subst (λ (o : Option Files). IfSome o (λ m. get m name ≡ None)) (sym (same ∙ made)) (removed_gone name files)

-- where a stop leaves what a read gives, it leaves what is seen of that
pub left_seen : (P : Files → Type 0) (m : Files) (past : Option (List Event)) → P m → LeavesNow (λ c. c ≡ m) past → LeavesNow P past
left_seen P m None holds left = tt
left_seen P m (Some events) holds left = λ c may. subst P (sym (left c may)) holds

pub durable : {T E : Type 0} (P : Files → Type 0) (result : Result T E) (now : Option Files) (past : Option (List Event))
    → OnOk result (IfSome now (λ m. LeavesNow (λ c. c ≡ m) past)) → IfSome now P → OnOk result (IfSome now (λ m. LeavesNow P past))
durable P (Ok done) None past settled holds = tt
durable P (Ok done) (Some m) past settled holds = left_seen P m past holds settled
durable P (Err fault) now past settled holds = tt
