-- What a mark that failed leaves.
use Rattle.std.proofs.Common.{◌≡◌, ℕ, ◌+◌, ◌≤◌, List, [], ◌∷◌, ◌++◌, length, slice_get, Some, Result, Ok, Err, refl, sym, ap, subst, ◌∙◌, arith, inl, inr}
use mathlib.Core.List.{IsPrefix}
use Rattle.timeline.proofs.Prefixes.{prefix_get, prefix_length, prefix_trans}
use Rattle.lsn_core.specs.declared.lsn.Place.{Place}
use Rattle.wal_writer.specs.declared.state.Flushed.{Flushed}
use Rattle.lsn_core.specs.declared.fault.StoreFault.{StoreFault}
use Rattle.lsn_core.specs.declared.fault.StoreFault.TheVariants as store
use Rattle.lsn_core.specs.declared.fault.MarkFault.TheVariants as mark
use Rattle.lsn_core.specs.declared.fault.MarkFault.{MarkFault}
use Rattle.history.specs.Entry.{Entry, Marking, Mark, RedoMark, Online, BackupEnd}
use Rattle.store_locks.specs.Calls.{HasNoRoom}
use Rattle.store_locks.specs.Inside.{IsFullFor, mark_fault}
use Rattle.store_locks.specs.Seen.{Seen}
use Rattle.store_locks.specs.Locked.{Standing, Follows, GoesOn, HasMarked, AppendsMark, FlushesMark}
use Rattle.shared_store.specs.Shared.{own_of, FindsNoRoomIn, MayFindNoRoom, MayHaveStarted, MayHaveEnded}

-- nothing but what was seen since
pub not_started : (worker mib : ℕ) (old new : Seen) (fault : MarkFault) → AppendsMark mib (RedoMark 1) (own_of old) (own_of new) (Err fault) → MayHaveStarted worker old.list new.list
not_started worker mib old new fault none = record { before = new.list; past = none.was.seen; left = inl refl }

-- the entry, where the flush behind it failed, or nothing
pub ended_not : (mib start : ℕ) (old new : Seen) (fault : MarkFault) → FlushesMark mib (BackupEnd start) (own_of old) (own_of new) (Err fault) → MayHaveEnded old.worker start old.list new.list
ended_not mib start old new fault (inl none) = record { before = new.list; past = none.0.was.seen; left = inl refl }
ended_not mib start old new fault (inr x) = record { before = x.1.before; past = x.1.past; left = inr (x.1.mark.entry, x.1.mark.is, x.1.mark.grown) }

-- one mark at most
pub flushed_marks : (mib : ℕ) (marking : Marking) (old new : Standing) (r : Result (Place × Flushed) MarkFault) → FlushesMark mib marking old new r → new.marks ≤ old.marks + 1
flushed_marks mib marking old new (Ok x) is = omega (arith, is.0.marks)
flushed_marks mib marking old new (Err fault) (inl none) = omega (arith, none.0.was.marks)
flushed_marks mib marking old new (Err fault) (inr x) = omega (arith, x.1.marks)

-- ---- where want of room is why

-- an area that failed, or want of memory, is none
pub fault_not_full : (mib worker before : ℕ) (new : List Entry) (why : StoreFault) → MayFindNoRoom mib worker before new (mark_fault why)
fault_not_full mib worker before new (store.Failed area) = tt
fault_not_full mib worker before new store.NoMemory = tt

-- a start finds none
pub start_full : (mib worker before : ℕ) (new : List Entry) (fault : MarkFault) → IsFullFor (Mark (RedoMark 1)) mib new fault → MayFindNoRoom mib worker before new fault
start_full mib worker before new (mark.Failed area) full = tt
start_full mib worker before new (mark.WalFull n) full = (full.0, inl full.1)
start_full mib worker before new mark.NoMemory full = tt

get_at : (xs ys : List Entry) (e : Entry) → slice_get (xs ++ (e ∷ ys)) (length xs) ≡ Some e
get_at [] ys e = refl
get_at (x ∷ xs) ys e = get_at xs ys e

-- the start of a checkpoint, and what came behind it
finds_none : (mib : ℕ) (a b d : Standing) (start : Place) → HasMarked (RedoMark 1) a b start → IsPrefix b.list d.list → HasNoRoom mib d.list (Mark (Online start.start.0)) → FindsNoRoomIn mib a.worker (length a.list) d.list
finds_none mib a b d start m on full =
    let first : Entry = m.mark.entry in
    let there : slice_get b.list (length m.before) ≡ Some first = ap (λ (l : List Entry). slice_get l (length m.before)) m.mark.grown ∙ get_at m.before [] first in
    inr (
      first,
      length m.before,
      prefix_length a.list m.before m.past,
      prefix_get b.list d.list (length m.before) first on there,
      m.mark.is,
      subst (λ (n : ℕ). HasNoRoom mib d.list (Mark (Online n))) m.mark.start full,
    )

none_for : (mib : ℕ) (a b d : Standing) (start : Place) (fault : MarkFault) → HasMarked (RedoMark 1) a b start → IsPrefix b.list d.list → IsFullFor (Mark (Online start.start.0)) mib d.list fault → MayFindNoRoom mib a.worker (length a.list) d.list fault
none_for mib a b d start (mark.Failed area) m on full = tt
none_for mib a b d start (mark.WalFull n) m on full = (full.0, finds_none mib a b d start m on full.1)
none_for mib a b d start mark.NoMemory m on full = tt

-- an end finds none behind the start
pub end_full : (mib : ℕ) (a b c d : Standing) (start : Place) (fault : MarkFault) → HasMarked (RedoMark 1) a b start → Follows b c → GoesOn c d → FlushesMark mib (Online start.start.0) c d (Err fault) → MayFindNoRoom mib a.worker (length a.list) d.list fault
end_full mib a b c d start fault m one two (inl none) = none_for mib a b d start fault m (prefix_trans b.list c.list d.list one.seen two.seen) none.0.full
end_full mib a b c d start fault m one two (inr x) = subst (MayFindNoRoom mib a.worker (length a.list) d.list) (sym x.3) (fault_not_full mib a.worker (length a.list) d.list x.2)
