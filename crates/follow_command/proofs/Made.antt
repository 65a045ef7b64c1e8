-- What the pages of a store leave that were put into the forks of an area without files.
use Rattle.std.proofs.Common.{◌≡◌, ℕ, ◌<◌, List, Option, Some, None, IfSome, Result, Ok, Err, IfOk, option_map, refl, sym, ap, subst, ◌∙◌}
use Rattle.std.specs.Prelude.{OnOk}
use Rattle.std.specs.Ordering.{nat_cmp}
use Rattle.std.specs.Cmp.Lexicographic.{slice_cmp}
use Rattle.std.specs.FinMap.{empty, get, get-empty}
use Rattle.lsn_core.specs.Files.{Files}
use Rattle.lsn_core.specs.Store.{Store, fork_cmp, files_of}
use Rattle.lsn_core.specs.declared.fault.AreaFault.{AreaFault}
use Rattle.vault.specs.Area.{Related}
use Rattle.vault.specs.Frame.{AgreeBut, IsDurable}
use Rattle.vault.specs.declared.area.Vault.{Ghosts}
use Rattle.rel_files.specs.Forks.{IsForkPath, Holds, HasWholePages}
use Rattle.rel_files.specs.Shown.{AreFilesOf, HoldsStore, ShowsStore, KeepsOthers}
use Rattle.rel_files.specs.declared.forks.Forks.{Forks}
use Rattle.rel_files.proofs.WholeStores.{nothing_is_held, files_are_exact}
use Rattle.follow_command.specs.declared.output.Written.{Written}
use Rattle.follow_command.specs.Output.{CopiesStore, IsMade}

none_some : {X : Type 0} (x : X) → None ≡ Some x → ⊥
none_some x e = absurd cc

-- forks that hold the empty store show it
empty_whole : HasWholePages empty
empty_whole fork pages is = absurd (none_some pages (sym (get-empty fork_cmp fork) ∙ is))

empty_held : (relseg : ℕ) (told : Option Files) → told ≡ Some empty → AreFilesOf relseg told empty
empty_held relseg told is = record { files = empty; are_told = is; hold = nothing_is_held relseg empty (λ path named. get-empty (slice_cmp nat_cmp) path) }

-- files that differ from none in segment files alone are just those of the store that they hold
only_forks : (new : Files) → AgreeBut IsForkPath empty new → (path : List ℕ) → (IsForkPath path → ⊥) → get new path ≡ None
only_forks new same path other = same path other ∙ get-empty (slice_cmp nat_cmp) path

related_to : (R : Files → Files → Type 0) (old new : Option Files) (m n : Files) → old ≡ Some m → new ≡ Some n → Related R old new → R m n
related_to R old new m n is now related = subst (λ (o : Option Files). Related R (Some m) o) now (subst (λ (o : Option Files). Related R o new) is related)

none_after : (R : Files → Files → Type 0) (old new : Option Files) → old ≡ None → Related R old new → new ≡ None
none_after R old None is related = refl
none_after R old (Some n) is related = elim (subst (λ (o : Option Files). Related R o (Some n)) is related) [ ]

module _ {V : Type 0} (g : Ghosts V) (out : V) (old new : Forks V) (relseg : ℕ) (store : Store) where
  -- the forks of an area, and these later
  pub record Put (written : Written) : Type 0 where
    pub some : 0 < relseg
    pub area : old.area ≡ out
    pub relseg_is : old.relseg ≡ relseg
    pub held : (s : Store) → AreFilesOf relseg (g.files out) s → HoldsStore g old s
    pub kept : KeepsOthers g old new
    pub copies : CopiesStore (ShowsStore g) store old new written
    pub durable : IsDurable (g.files new.area) (g.past new.area)

  shown : (w : Written) → Put w → g.files out ≡ Some empty → ShowsStore g new store
  shown w p none = p.copies.copied (record { holds = p.held empty (empty_held relseg (g.files out) none); whole = empty_whole })

  files_put : (w : Written) → Put w → g.files out ≡ Some empty → g.files new.area ≡ Some (files_of relseg store)
  files_put w p none =
      let shows = shown w p none in
      let held = shows.holds.files in
      let size : new.relseg ≡ relseg = p.kept.relseg ∙ p.relseg_is in
      let same : Holds relseg held.files store = subst (λ (n : ℕ). Holds n held.files store) size held.hold in
      let agree : AgreeBut IsForkPath empty held.files = related_to (AgreeBut IsForkPath) (g.files old.area) (g.files new.area) empty held.files (ap g.files p.area ∙ none) held.are_told p.kept.area.files in
      held.are_told ∙ ap (λ (m : Files). Some m) (files_are_exact relseg held.files store p.some same (only_forks held.files agree))

  files_made : (w : Written) → Put w → (told : Option Files) → g.files out ≡ told → IfSome told (λ m. m ≡ empty) → g.files new.area ≡ option_map (λ m. files_of relseg store) told
  files_made w p None is clear = none_after (AgreeBut IsForkPath) (g.files old.area) (g.files new.area) (ap g.files p.area ∙ is) p.kept.area.files
  files_made w p (Some m) is clear = files_put w p (is ∙ ap (λ (f : Files). Some f) clear)

  pub made : (w : Written) → Put w → IsMade g relseg store out new.area w
  made w p = record {
    files = λ clear. files_made w p (g.files out) refl clear;
    durable = p.durable;
    forks = p.copies.forks;
    pages = p.copies.pages;
  }

-- and where that came to an end
pub made_of : {V : Type 0} (g : Ghosts V) (out : V) (old new : Forks V) (now : V) (relseg : ℕ) (store : Store) (came : Result Written AreaFault) → now ≡ new.area → 0 < relseg → old.area ≡ out → old.relseg ≡ relseg → ((s : Store) → AreFilesOf relseg (g.files out) s → HoldsStore g old s) → KeepsOthers g old new → IfOk came (CopiesStore (ShowsStore g) store old new) → OnOk came (IsDurable (g.files new.area) (g.past new.area))
    → IfOk came (IsMade g relseg store out now)
made_of g out old new now relseg store (Ok w) same some area relseg_is held kept copies durable =
    subst (λ v. IsMade g relseg store out v w) (sym same)
    (made g out old new relseg store w (record { some = some; area = area; relseg_is = relseg_is; held = held; kept = kept; copies = copies; durable = durable }))
made_of g out old new now relseg store (Err why) same some area relseg_is held kept copies durable = tt

-- a sync shows what was shown
pub still_shown : {V : Type 0} (g : Ghosts V) (old mid new : Forks V) (store : Store) (w : Written) → ((s : Store) → HoldsStore g mid s → HoldsStore g new s) → CopiesStore (ShowsStore g) store old mid w → CopiesStore (ShowsStore g) store old new w
still_shown g old mid new store w held copies = record {
  copied = λ shown. let s = copies.copied shown in record { holds = held store s.holds; whole = s.whole };
  forks = copies.forks;
  pages = copies.pages;
}
