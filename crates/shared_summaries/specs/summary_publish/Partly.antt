-- What a publishing leaves that may have failed.
use Rattle.std.specs.Prelude.{◌≡◌, ◌≢◌, ◌⊎◌, ℕ, List, ◌++◌, Option, Some, None}
use Rattle.std.specs.List.{AllByRecursion}
use Rattle.std.specs.FinMap.{get}
use Rattle.lsn_core.specs.Files.{Files}
use Rattle.vault.specs.Area.{Related}
use Rattle.history.specs.Entry.{Entry}
use Rattle.wal_summary.specs.declared.summary.Summary.{Summary}
use Rattle.summary_file.specs.File.{IsFileOf, summary_bytes}
use Rattle.summary_file.specs.Name.{summary_name_bytes}
use Rattle.summary_store.specs.Kept.{end_behind}
use Rattle.shared_summaries.specs.summary_publish.Entries.{first_start}
use Rattle.shared_summaries.specs.summary_publish.Published.{IsNext, AreNext, IsWhole, CanFollow, AreFollowing, AreKnown, AreListed, AreNow, with_files}
use Rattle.shared_summaries.specs.declared.summary_publish.known.Known.{Known}
use Rattle.summary_store.specs.Expiry.{MayExpire}

-- a file was written anew, or not to its end: no other file changed; and where a summary's file
-- stands under the name now, it is the one that was to be written, or the one that stood there
-- before
pub record MayWrite (name bytes : List ℕ) (old new : Files) : Type 0 where
  pub others : (q : List ℕ) → q ≢ name → get new q ≡ get old q
  pub missing : get new name ≡ None → get old name ≡ None
  pub file : (held : List ℕ) (t : Summary) → get new name ≡ Some held → IsFileOf t held
      → (held ≡ bytes) ⊎ (get old name ≡ Some held)

-- the same of the file of a summary
abbrev pub MayWriteSummary : Summary → Files → Files → Type 0
MayWriteSummary sum old new =
    MayWrite (summary_name_bytes sum.start.0 sum.end.0) (summary_bytes sum) old new

-- the files behind so many that were published, and maybe the next one, or a part of it
abbrev pub LeavesFiles :
    Type 0 → List Entry → ℕ → ℕ → List Summary → Files → Files → Type 0
LeavesFiles told history made place sums old new =
    (new ≡ with_files sums old)
    ⊎ ((sum : Summary) × CanFollow place sum × (told → IsNext history made place sum)
    × IsWhole sum × MayWriteSummary sum (with_files sums old) new)

-- of the summaries of the ranges behind those that are kept the first ones were published, which
-- are kept then, and maybe the next one, or a part of it
pub record LeavesFirst (told : Type 0) (history : List Entry) (made first : ℕ)
    (old new : Option Files) (kept now : List Summary) : Type 0 where
  pub sums : List Summary
  pub now_is : now ≡ kept ++ sums
  pub follow : AreFollowing (end_behind first kept) sums
  pub next : told → AreNext history made (end_behind first kept) sums
  pub whole : AllByRecursion IsWhole sums
  pub left : Related (LeavesFiles told history made (end_behind (end_behind first kept) sums) sums)
      old new

-- so it was, and of those that were kept then the first expired ones were removed, and maybe the
-- next one
pub record AdvancesPartly (told : Type 0) (history : List Entry) (made limit : ℕ)
    (old new : Option Files) (kept now : List Summary) : Type 0 where
  pub first : ℕ
  pub first_is : told → first ≡ first_start history
  pub mid : Option Files
  pub between : List Summary
  pub some : LeavesFirst told history made first old mid kept between
  pub expiry : MayExpire limit mid new between now

-- so it was, behind what was known
pub record AdvancesKnown (told : Type 0) (history : List Entry) (made limit : ℕ)
    (old new : Option Files) (before known : Known) : Type 0 where
  pub kept : List Summary
  pub known_before : AreKnown old before kept
  pub listed : AreListed old kept
  pub now : List Summary
  pub known_now : AreNow known now
  pub advances : AdvancesPartly told history made limit old new kept now

-- or nothing was done
abbrev pub MayAdvance : Type 0 → List Entry → ℕ → ℕ → Option Files → Option Files → Known → Known
    → Type 0
MayAdvance told history made limit old new before known =
    ((new ≡ old) × (known ≡ before)) ⊎ AdvancesKnown told history made limit old new before known
