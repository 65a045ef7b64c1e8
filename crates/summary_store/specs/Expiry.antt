-- Which kept summaries are old, and what stands when the old ones are removed.
use Rattle.std.specs.Prelude.{◌≡◌, ◌⊎◌, ◌≤◌, ℕ, zero, suc, ◌+◌, ◌-◌, ◌*◌, ◌&&◌, Bool, not, nat_lt, List, [], ◌∷◌, ◌++◌, length, Option}
use Rattle.std.specs.List.{AllByRecursion, filter}
use Rattle.std.specs.Option.{option_map}
use Rattle.lsn_core.specs.Files.{Files}
use Rattle.vault.specs.Area.{Related, after_remove}
use Rattle.vault.specs.declared.area.Vault.{Ghosts}
use Rattle.wal_summary.specs.declared.summary.Summary.{Summary}
use Rattle.wal_summary.specs.Kept.{AreInOrder}
use Rattle.summary_file.specs.Name.{summary_name_bytes}
use Rattle.summary_store.specs.Kept.{IsSummaryIn, end_behind}

-- the moment before which a summary is old that was made then, where so many days are kept. With no
-- days none is
abbrev pub age_limit : ℕ → ℕ → ℕ
age_limit zero when = 0
age_limit (suc n) when = when + 1 - 86400 * suc n

-- a summary was made before a moment
abbrev pub is_old : ℕ → Summary → Bool
is_old limit sum = nat_lt sum.made limit

-- it is expired among those that are kept: it was, and ends below the greatest kept end
abbrev pub is_expired : ℕ → List Summary → Summary → Bool
is_expired limit kept sum = is_old limit sum && nat_lt sum.end.0 (end_behind 0 kept)

-- those that are, and those that aren't
abbrev pub expired : ℕ → List Summary → List Summary
expired limit kept = filter (is_expired limit kept) kept

abbrev pub unexpired : ℕ → List Summary → List Summary
unexpired limit kept = filter (λ sum. not (is_expired limit kept sum)) kept

-- those that weren't made before a moment, wherever they end
abbrev pub young : ℕ → List Summary → List Summary
young limit sums = filter (λ sum. not (is_old limit sum)) sums

-- files without those of summaries
abbrev pub without : List Summary → Files → Files
without [] files = files
without (sum ∷ sums) files =
    without sums (after_remove (summary_name_bytes sum.start.0 sum.end.0) files)

-- the name of the file of a range's summary
abbrev pub IsSummaryName : List ℕ → Type 0
IsSummaryName name = (start : ℕ) × (end : ℕ) × (name ≡ summary_name_bytes start end)

-- each summary has its file there, under the name of its range
abbrev pub AreHeld : Files → List Summary → Type 0
AreHeld files sums =
    AllByRecursion (λ sum. IsSummaryIn files (summary_name_bytes sum.start.0 sum.end.0) sum) sums

-- the first ones of those that are expired were taken out of a list, in order, and no other one
pub record AreTaken (limit : ℕ) (old new gone : List Summary) : Type 0 where
  pub first : expired limit old ≡ gone ++ expired limit new
  pub others : unexpired limit new ≡ unexpired limit old
  pub counted : length old ≡ length gone + length new
  pub end : (low : ℕ) → end_behind low new ≡ end_behind low old
  pub order : (low : ℕ) → AreInOrder low old → AreInOrder low new

-- what an expiry answers that came to its end: just the expired ones are gone, with their files,
-- and so many they were
pub record Expires {V : Type 0} (g : Ghosts V) (limit : ℕ) (before now : V)
    (old new : List Summary) (count : ℕ) : Type 0 where
  pub kept : new ≡ unexpired limit old
  pub files : g.files now ≡ option_map (without (expired limit old)) (g.files before)
  pub counted : count ≡ length (expired limit old)
  pub still : count ≡ 0 → g.past now ≡ g.past before

-- the files behind an expiry: those of the summaries that it removed are gone, and that of the one
-- at fault, if there is one, may be
abbrev pub AreGone : List Summary → List Summary → Files → Files → Type 0
AreGone gone at old new = (new ≡ without gone old) ⊎ (new ≡ without (gone ++ at) old)

-- what an expiry leaves, whatever it answers: those that it removed aren't kept, and the one at
-- fault isn't either; those that are kept still have their files
pub record MayExpire (limit : ℕ) (before now : Option Files) (old new : List Summary) : Type 0 where
  pub gone : List Summary
  pub at : List Summary
  pub few : length at ≤ 1
  pub taken : AreTaken limit old new (gone ++ at)
  pub young : young limit new ≡ young limit old
  pub files : Related (AreGone gone at) before now
  pub held : Related (λ m n. AreInOrder 0 old → AreHeld m old → AreHeld n new) before now
