-- Calls that change only some files: what a call leaves of the others, and several calls as one.
use Rattle.std.proofs.Common.{◌≡◌, ℕ, List, length, Option, Some, None, option_map}
use Rattle.std.proofs.Common.{Result, Ok, Err, OnOk, refl, sym, ap, subst, ◌∙◌, arith, inl, inr}
use Rattle.std.specs.FinMap.{get}
use Rattle.lsn_core.specs.Files.{Files}
use Rattle.lsn_core.specs.declared.fault.AreaFault.{AreaFault}
use Rattle.lsn_core.specs.declared.fault.AreaFault.TheVariants.{Failed, NoMemory}
use Rattle.vault.specs.declared.area.Vault.{Ghosts}
use Rattle.vault.specs.Area.{after_cut, after_remove, Related, IsTorn, IsUndecided}
use Rattle.vault.specs.Area.{Writes, MayTear, Cuts, MayCut, Removes, MayRemove}
use Rattle.vault.specs.Frame.{AgreeBut, ChangesOnly, IsAmong}
use Rattle.vault.proofs.Torn.{written_is_related}
use Rattle.vault.proofs.Undone.{cut_is_cut, removed_is_removed}
use Rattle.vault.proofs.Through.{adds_on}

agree_none : (Among : List ℕ → Type 0) (x : Option Files) → Related (AgreeBut Among) x x
agree_none Among None = tt
agree_none Among (Some m) = λ q out. refl

agree_on : (Among : List ℕ → Type 0) (x y z : Option Files) → Related (AgreeBut Among) x y → Related (AgreeBut Among) y z → Related (AgreeBut Among) x z
agree_on Among None None None first second = tt
agree_on Among (Some a) (Some b) (Some c) first second = λ q out. second q out ∙ first q out
agree_on Among None None (Some c) first second = absurd second
agree_on Among None (Some b) c first second = absurd first
agree_on Among (Some a) None c first second = absurd first
agree_on Among (Some a) (Some b) None first second = absurd second

-- changes of some files, and then again of some of them
pub changes_on : {V : Type 0} (g : Ghosts V) (Among : List ℕ → Type 0) (x y z : V) → ChangesOnly g Among x y → ChangesOnly g Among y z → ChangesOnly g Among x z
changes_on g Among x y z first second = record {
  files = agree_on Among (g.files x) (g.files y) (g.files z) first.files second.files;
  past = adds_on (IsAmong Among) (g.past x) (g.past y) (g.past z) first.past second.past;
  faults = omega (arith, first.faults, second.faults);
}

torn_agrees : (name : List ℕ) (at n : ℕ) (x y : Option Files) → Related (IsTorn name at n) x y → Related (AgreeBut (λ q. q ≡ name)) x y
torn_agrees name at n None None torn = tt
torn_agrees name at n (Some a) (Some b) torn = λ q out. torn.others q out
torn_agrees name at n None (Some b) torn = absurd torn
torn_agrees name at n (Some a) None torn = absurd torn

-- a write, whatever it answers, changes only its file
pub write_agrees : {T : Type 0} (name : List ℕ) (at : ℕ) (piece : List ℕ) (x y : Option Files) (result : Result T AreaFault)
    → Writes name at piece x y result → (result ≡ Err NoMemory → y ≡ x) → MayTear name at piece x y result → Related (AgreeBut (λ q. q ≡ name)) x y
write_agrees name at piece x y (Ok done) ok memory failed = torn_agrees name at (length piece) x y (subst (Related (IsTorn name at (length piece)) x) (sym ok) (written_is_related name at piece x))
write_agrees name at piece x y (Err NoMemory) ok memory failed = subst (Related (AgreeBut (λ q. q ≡ name)) x) (sym (memory refl)) (agree_none _ x)
write_agrees name at piece x y (Err Failed) ok memory failed = torn_agrees name at (length piece) x y (failed refl)

-- a step that changes only this file
abbrev IsStepAt : List ℕ → (Files → Files) → Type 0
IsStepAt name step = (m : Files) (q : List ℕ) → (q ≡ name → ⊥) → get (step m) q ≡ get m q

step_agrees : (name : List ℕ) (step : Files → Files) (x : Option Files) → IsStepAt name step → Related (AgreeBut (λ q. q ≡ name)) x (option_map step x)
step_agrees name step None alone = tt
step_agrees name step (Some m) alone = λ q out. alone m q out

undecided : (name : List ℕ) (step : Files → Files) (x y : Option Files) → IsStepAt name step → Related (IsUndecided step) x y → Related (AgreeBut (λ q. q ≡ name)) x y
undecided name step None None alone either = tt
undecided name step (Some a) (Some b) alone (inl same) = λ q out. ap (λ (m : Files). get m q) same
undecided name step (Some a) (Some b) alone (inr made) = λ q out. ap (λ (m : Files). get m q) made ∙ alone a q out
undecided name step None (Some b) alone either = absurd either
undecided name step (Some a) None alone either = absurd either

by_step : {T : Type 0} (name : List ℕ) (step : Files → Files) (x y : Option Files) (result : Result T AreaFault) → IsStepAt name step
    → OnOk result (y ≡ option_map step x) → (result ≡ Err NoMemory → y ≡ x) → (result ≡ Err Failed → Related (IsUndecided step) x y) → Related (AgreeBut (λ q. q ≡ name)) x y
by_step name step x y (Ok done) alone ok memory failed = subst (Related (AgreeBut (λ q. q ≡ name)) x) (sym ok) (step_agrees name step x alone)
by_step name step x y (Err NoMemory) alone ok memory failed = subst (Related (AgreeBut (λ q. q ≡ name)) x) (sym (memory refl)) (agree_none _ x)
by_step name step x y (Err Failed) alone ok memory failed = undecided name step x y alone (failed refl)

cut_alone : (name : List ℕ) (size : ℕ) → IsStepAt name (after_cut name size)
cut_alone name size m q out = (cut_is_cut name size m).others q out

remove_alone : (name : List ℕ) → IsStepAt name (after_remove name)
remove_alone name m q out = (removed_is_removed name m).others q out

-- a cut and a removal, whatever they answer, change only their file
pub cut_agrees : {T : Type 0} (name : List ℕ) (size : ℕ) (x y : Option Files) (result : Result T AreaFault)
    → Cuts name size x y result → (result ≡ Err NoMemory → y ≡ x) → MayCut name size x y result → Related (AgreeBut (λ q. q ≡ name)) x y
cut_agrees name size x y result ok memory failed = by_step name (after_cut name size) x y result (cut_alone name size) ok memory failed

pub remove_agrees : {T : Type 0} (name : List ℕ) (x y : Option Files) (result : Result T AreaFault)
    → Removes name x y result → (result ≡ Err NoMemory → y ≡ x) → MayRemove name x y result → Related (AgreeBut (λ q. q ≡ name)) x y
remove_agrees name x y result ok memory failed = by_step name (after_remove name) x y result (remove_alone name) ok memory failed
