-- What functions inside the crate answer. No public contract cites these.
use Rattle.std.specs.Prelude.{◌≡◌, ℕ, ◌<◌, ◌⊎◌, List, [], ◌∷◌, ◌++◌, true, Option, Some, None}
use Rattle.std.specs.List.{filter}
use Rattle.std.specs.Option.{option_map}
use Rattle.lsn_core.specs.Files.{Files}
use Rattle.lsn_core.specs.Causes.{Rose}
use Rattle.lsn_core.specs.declared.fault.AreaFault.{AreaFault}
use Rattle.lsn_core.specs.declared.fault.AreaFault.TheVariants.{Failed}
use Rattle.vault.specs.Area.{Related}
use Rattle.vault.specs.declared.area.Vault.{Ghosts}
use Rattle.wal_summary.specs.declared.summary.Summary.{Summary}
use Rattle.wal_summary.specs.Summary.{AreSorted}
use Rattle.wal_summary.specs.Kept.{AreInOrder}
use Rattle.summary_file.specs.File.{IsFileOf}
use Rattle.summary_file.specs.Name.{summary_name_bytes}
use Rattle.summary_store.specs.Kept.{IsSummaryIn, IsKeptPast, IsPassedOver, end_behind}
use Rattle.summary_store.specs.Expiry.{is_expired, without, AreHeld, AreTaken, MayExpire}

-- a summary's range isn't empty, and its forks are in order
pub record HasRange (sum : Summary) : Type 0 where
  pub rises : sum.start.0 < sum.end.0
  pub sorted : AreSorted sum.forks

-- bytes are the file of a summary, under the name of its range
pub record IsNamedFile (name bytes : List ℕ) (sum : Summary) : Type 0 where
  pub named : name ≡ summary_name_bytes sum.start.0 sum.end.0
  pub file : IsFileOf sum bytes

-- the summary whose file this is, under the name of its range, where there is one
abbrev pub NamedAnswer : List ℕ → List ℕ → Option Summary → Type 0
NamedAnswer name bytes (Some sum) = IsNamedFile name bytes sum
NamedAnswer name bytes None = (sum : Summary) → IsNamedFile name bytes sum → ⊥

-- the same of a file of an area
abbrev pub FoundIn : Files → List ℕ → Option Summary → Type 0
FoundIn files name (Some sum) = IsSummaryIn files name sum
FoundIn files name None = (sum : Summary) → IsSummaryIn files name sum → ⊥

-- one more file is kept behind those kept, or passed over
abbrev pub KeepsNext : Files → List ℕ → List Summary → List Summary → Type 0
KeepsNext files name old new =
    ((sum : Summary) × IsKeptPast (end_behind 0 old) files name sum × (new ≡ old ++ (sum ∷ [])))
    ⊎ (IsPassedOver (end_behind 0 old) files name × (new ≡ old))

-- the first one of those that are expired was taken
pub record TakesOne (limit : ℕ) (old new : List Summary) (sum : Summary) : Type 0 where
  pub front : List Summary
  pub back : List Summary
  pub was : old ≡ front ++ (sum ∷ back)
  pub now : new ≡ front ++ back
  pub first : filter (is_expired limit old) front ≡ []
  pub old_one : is_expired limit old sum ≡ true

-- the file of a summary may be gone, and no other one is
abbrev pub MayLose : Summary → Files → Files → Type 0
MayLose sum old new = (new ≡ old) ⊎ (new ≡ without (sum ∷ []) old)

-- some were removed so far
pub record IsExpiring {V : Type 0} (g : Ghosts V) (limit : ℕ) (before now : V)
    (old new : List Summary) : Type 0 where
  pub gone : List Summary
  pub taken : AreTaken limit old new gone
  pub files : g.files now ≡ option_map (without gone) (g.files before)
  pub still : gone ≡ [] → g.past now ≡ g.past before

-- some were removed so far, of those that were passed just what stays is in front, and the others
-- stand behind
pub record HasExpired {V : Type 0} (g : Ghosts V) (limit : ℕ) (before now : V)
    (old front back : List Summary) : Type 0 where
  pub expiring : IsExpiring g limit before now old (front ++ back)
  pub clean : filter (is_expired limit old) front ≡ []
  pub held : Related (λ m n. AreInOrder 0 old → AreHeld m old → AreHeld n (front ++ back))
      (g.files before) (g.files now)

-- the same where a removal may have failed, behind which none is tried
abbrev pub ExpiresSoFar : {V : Type 0} → Ghosts V → ℕ → V → V → List Summary
    → List Summary → List Summary → Option AreaFault → Type 0
ExpiresSoFar g limit before now old front back None =
    HasExpired g limit before now old front back
ExpiresSoFar g limit before now old front back (Some fault) =
    MayExpire limit (g.files before) (g.files now) old (front ++ back)
    × (fault ≡ Failed → Rose (g.faults before) (g.faults now))
