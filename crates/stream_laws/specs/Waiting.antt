-- An archive whose bytes come one behind the other: what is read of it and stays so, whatever
-- comes.
use Rattle.std.specs.Prelude.{◌≡◌, ◌≤◌, ◌<◌, ℕ, ◌+◌, Some, None}
use Rattle.lsn_core.specs.Segment.{segment_bytes}
use Rattle.lsn_core.specs.Tip.{Tip}
use Rattle.wal_record.specs.Tips.{first_tip}
use Rattle.wal_archive.specs.Archive.{Archive, IsArchive}
use Rattle.wal_archive.specs.Rules.{Judge, Found, End, Gives, Bad, broken_at, next_in}
use Rattle.wal_archive.specs.declared.fault.Damage.{Damage}
use Rattle.wal_archive.specs.declared.fault.Broken.TheVariants as broken

-- the archive ends within an entry or a head
abbrev pub IsCutShort : Damage → Type 0
IsCutShort d = (at : ℕ) × (d ≡ broken_at at broken.Torn)

-- what is found stays: an entry, or damage other than that the archive ends there
abbrev pub Stays : Found → Type 0
Stays End = ⊥
Stays (Gives r) = Unit {0}
Stays (Bad d) = IsCutShort d → ⊥

-- from a place on no byte is missing before the archive's end
pub record IsSolid (a : Archive) (e : ℕ) : Type 0 where
  pub ends : (x : ℕ) → e ≤ x → a.byte x ≡ None → a.top ≤ x

-- from a place on an archive holds all that another one holds
abbrev pub HoldsFrom : Archive → Archive → ℕ → Type 0
HoldsFrom old new e = (x b : ℕ) → e ≤ x → old.byte x ≡ Some b → new.byte x ≡ Some b

-- two archives from a place on, both without a gap, of which one holds all that the other holds
pub record HoldsMore (mib : ℕ) (old new : Archive) (e : ℕ) : Type 0 where
  pub some : 1 ≤ mib
  pub before : IsArchive mib old
  pub behind : IsArchive mib new
  pub solid_before : IsSolid old e
  pub solid_behind : IsSolid new e
  pub holds : HoldsFrom old new e

-- what stays is found in each archive that goes on
abbrev pub FoundStays : Type 0
FoundStays =
    (judge : Judge) (mib system : ℕ) (old new : Archive) (tip : Tip)
    → HoldsMore mib old new tip.end → Stays (next_in judge mib system old tip)
    → next_in judge mib system new tip ≡ next_in judge mib system old tip

-- an end stays one where only zeros came
abbrev pub EndStays : Type 0
EndStays =
    (judge : Judge) (mib system : ℕ) (old new : Archive) (tip : Tip)
    → HoldsMore mib old new tip.end
    → ((x b : ℕ) → tip.end ≤ x → new.byte x ≡ Some b → 0 < b → old.byte x ≡ Some b)
    → next_in judge mib system old tip ≡ End → next_in judge mib system new tip ≡ End

-- what is found behind a tip is decided by the bytes from its end on
abbrev pub BytesDecide : Type 0
BytesDecide =
    (judge : Judge) (mib system : ℕ) (one other : Archive) (tip : Tip)
    → HoldsMore mib one other tip.end → HoldsFrom other one tip.end
    → next_in judge mib system one tip ≡ next_in judge mib system other tip

-- of what stays nothing is found behind the first tip before the first page's head is held
abbrev pub FinalNeedsHead : Type 0
FinalNeedsHead =
    (judge : Judge) (mib system : ℕ) (a : Archive) → 1 ≤ mib → IsSolid a (segment_bytes mib)
    → IsArchive mib a → Stays (next_in judge mib system a (first_tip mib))
    → (b : ℕ) × (a.byte (segment_bytes mib + 39) ≡ Some b)
