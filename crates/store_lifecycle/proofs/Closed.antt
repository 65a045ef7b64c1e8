-- What closing a store leaves of its areas.
use Rattle.std.proofs.Common.{◌≡◌, ℕ, ◌≤◌, List, Option, Some, None, IsSome, IfSome, sym, ap, subst, ◌∙◌, arith}
use Rattle.std.specs.FinMap.{empty}
use Rattle.lsn_core.specs.Files.{Files}
use Rattle.lsn_core.specs.Segment.{StoreSettings}
use Rattle.lsn_core.specs.Store.{Store, files_of}
use Rattle.vault.specs.Frame.{AgreeBut}
use Rattle.vault.specs.declared.area.Vault.{Ghosts}
use Rattle.wal_writer.specs.declared.state.Flushed.{Flushed}
use Rattle.rel_files.specs.Forks.{Holds, IsForkPath}
use Rattle.rel_files.specs.Laws.{HasOnlyForks}
use Rattle.rel_files.proofs.WholeStores.{files_are_exact}
use Rattle.history.specs.Entry.{Entry}
use Rattle.history.specs.Written.{tip_of}
use Rattle.history.specs.partitions.Parts.{IsPart}
use Rattle.history.proofs.partitions.Folds.{parts_fold}
use Rattle.history.specs.fuzzy_copies.Orderly.{AllEndBy}
use Rattle.journal.specs.Lawful.{IsLawful}
use Rattle.journal.specs.Journal.{IsJournal, IsEndOf, Written}
use Rattle.journal.proofs.Follows.{empty_part}
use Rattle.page_pool.specs.Part.{Part, newest_end}
use Rattle.page_pool.specs.Calls.{IsAllWritten, ChangesForks, MayWriteAll}
use Rattle.page_pool.proofs.Ends.{unwritten_of_history}
use Rattle.page_pool.specs.Facts.{IsPartOf}
use Rattle.store_locks.specs.Open.{IsWalOf}
use Rattle.store_lifecycle.specs.Close.{HoldsPart}
use Rattle.store_lifecycle.specs.Ended.{IsAllFlushed}
use Rattle.store_locks.proofs.Recorded.{IsHeld, history_held}
use Rattle.store_locks.proofs.Kept.{end_within, some_on, forks_kept}
use Rattle.store_locks.proofs.Behind.{part_made}

-- ---- a partition

pub all_reached : (q relseg at flushed : ℕ) (tells : Type 0) (history : List Entry) (part : Part) → AllEndBy at history → at ≤ flushed → IsPartOf q relseg tells history part → MayWriteAll part flushed
all_reached q relseg at flushed tells history part all reach p = go (newest_end part) (unwritten_of_history q history part p.follows).1
  where
    go : (o : Option ℕ) → IfSome o (IsEndOf history) → IfSome o (λ end. end ≤ flushed)
    go None is = tt
    go (Some end) is = (let le = end_within history end at all is in omega (arith, le, reach))

exact : (relseg : ℕ) (o : Option Files) (frames : Store) → 1 ≤ relseg → IsSome o → IfSome o (λ files. Holds relseg files frames) → IfSome o HasOnlyForks → o ≡ Some (files_of relseg frames)
exact relseg (Some files) frames some told held alone = ap Some (files_are_exact relseg files frames some held alone)
exact relseg None frames some told held alone = absurd cc

pub part_whole : (q relseg redo : ℕ) (tells : Type 0) (history : List Entry) (old new : Part) → 1 ≤ relseg → IsAllWritten redo old new → ChangesForks old new → IsPartOf q relseg tells history old → tells → new.disk ≡ Some (files_of relseg old.frames)
part_whole q relseg redo tells history old new some written area p t =
    let size : new.relseg ≡ relseg = area.relseg ∙ p.relseg_is in
    exact relseg new.disk old.frames some (some_on (AgreeBut IsForkPath) old.disk new.disk area.files (p.told t))
    (subst (λ n. IfSome new.disk (λ files. Holds n files old.frames)) size (subst (λ s. IfSome new.disk (λ files. Holds new.relseg files s)) written.frames written.held))
    (forks_kept old.disk new.disk area.files (p.alone t))

same_store : (a b : Store) → Some a ≡ Some b → a ≡ b
same_store a b e = cc

part_held : (mib q relseg : ℕ) (tells : Type 0) (history : List Entry) (part : Part) → (lawful : IsLawful mib history) → IsPartOf q relseg tells history part → tells → IsPart q lawful.store part.frames
part_held mib q relseg tells history part lawful p t =
    let folded = parts_fold q empty lawful.store empty history (empty_part q) lawful.made in
    subst (IsPart q lawful.store) (same_store folded.0 part.frames (sym folded.1 ∙ part_made q relseg tells history part p t)) folded.2

pub holds_part : (mib q relseg : ℕ) (tells : Type 0) (history : List Entry) (part : Part) (files : Option Files) → (lawful : IsLawful mib history) → IsPartOf q relseg tells history part → tells → files ≡ Some (files_of relseg part.frames)
    → HoldsPart relseg q lawful.store files
holds_part mib q relseg tells history part files lawful p t are = record { part = part.frames; is = part_held mib q relseg tells history part lawful p t; files_are = are }

-- ---- the whole

pub held_at : {V : Type 0} (g : Ghosts V) (settings : StoreSettings) (tells : Type 0) (old new : Written V) (mark at : ℕ) (files : Files) (flushed : Flushed) → IsWalOf g settings tells old.wal at → IsAllFlushed g old new flushed → new.pen ≡ old.pen
    → IsJournal g new.wal new.pen new.pages → g.files new.wal.area ≡ Some files → IsHeld settings.segment settings.system old.pen files
held_at g settings tells old new mark at files flushed w f pen told e =
    let h = history_held new.wal.tail (g.files new.wal.area) files new.pen new.pages f.known e told f.all in
    subst (λ l. IsHeld settings.segment settings.system l files) pen
    (subst (λ n. IsHeld settings.segment n new.pen files) (f.system ∙ w.system)
    (subst (λ n. IsHeld n new.wal.tail.system new.pen files) (f.segment ∙ w.segment) h))

pub top_at : {V : Type 0} (g : Ghosts V) (segment : ℕ) (old new : Written V) (flushed : Flushed) → old.wal.tail.mib ≡ segment → IsAllFlushed g old new flushed → new.pen ≡ old.pen → flushed.to.0 ≡ (tip_of segment old.pen).end
top_at g segment old new flushed same f pen =
    f.place ∙ sym (ap (λ (n : ℕ). (tip_of n old.pen).end) (sym (f.segment ∙ same)) ∙ ap (λ (l : List Entry). (tip_of new.wal.tail.mib l).end) (sym pen) ∙ f.ended.end)
