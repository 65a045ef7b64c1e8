-- The whole of merging.
use Rattle.std.proofs.Common.{ℕ, ◌≤◌, List, Option, IfSome, subst, sym}
use Rattle.lsn_core.specs.byte_words.Told.{when_told}
use Rattle.lsn_core.specs.Files.{Files}
use Rattle.vault.specs.Frame.{OnlyReads}
use Rattle.vault.specs.declared.area.Vault.{Ghosts}
use Rattle.vault.specs.declared.lending.Held.{Held}
use Rattle.manifest.specs.Listing.{Listing}
use Rattle.backup_files.proofs.Kept.{rose_later}
use Rattle.chain_check.specs.Directory.{IsAsListed}
use Rattle.chain_check.specs.declared.member.Member.{Member}
use Rattle.chain_files.specs.Segments.{AllHaveForms}
use Rattle.chain_files.specs.Sources.{OfChain}
use Rattle.chain_files.specs.Told.{chain_told, faults_at, AllOnlyRead}
use Rattle.chain_files.proofs.Told.{reads_faults, reads_told}
use Rattle.combine.proofs.Whole.{has_files}
use Rattle.combine.specs.Inside.{WorkCause}
use Rattle.combine.specs.declared.fault.CombineFault.{CombineFault}
use Rattle.combine.specs.declared.fault.CombineFault.TheVariants as fault
use Rattle.directory_files.specs.Relisted.{other_rows}
use Rattle.directory_files.specs.declared.targets.Target.{Target}
use Rattle.merge_laws.specs.Merged.{BeginsWith, EndsWith, IsMerged}
use Rattle.incr_merge.specs.Calls.{Merges, MergeCause}
use Rattle.incr_merge.specs.Inside.{CanPut, HasFiles, PutsAll}

pub merges : {V : Type 0} (g : Ghosts V) (places : List ℕ) (member : Member) (when : ℕ) (areas : List (Held V)) (out : V) (count : ℕ) → PutsAll g places member.manifest when areas out count → Merges g places member when areas out count
merges g places member when areas out count puts =
    when_told (chain_told g areas places)
    (λ series. AllHaveForms series → (first newest : Files) → BeginsWith series first → EndsWith series newest → HasFiles newest (other_rows member.manifest.files) → IfSome (g.files out) (IsMerged series first newest member.manifest when count))
    (λ series. AllHaveForms series → (first newest : Files) → BeginsWith series first → EndsWith series newest → IsAsListed newest member → IfSome (g.files out) (IsMerged series first newest member.manifest when count))
    (λ series holds forms first newest begins ends listed. holds forms first newest begins ends (has_files newest member.manifest.files listed.rows)) puts

-- ---- behind the search for targets

module _ {V : Type 0} (g : Ghosts V) where
  pub merges_then : (places : List ℕ) (member : Member) (when : ℕ) (areas mid : List (Held V)) (out : V) (count : ℕ) → AllOnlyRead g areas mid → PutsAll g places member.manifest when mid out count → Merges g places member when areas out count
  merges_then places member when areas mid out count reads puts =
      merges g places member when areas out count
      (subst (λ (o : Option (List Files)). OfChain o (λ series. (first newest : Files) → BeginsWith series first → EndsWith series newest → HasFiles newest (other_rows member.manifest.files) → IfSome (g.files out) (IsMerged series first newest member.manifest when count)))
      (reads_told g areas mid reads places) puts)

  pub can_still : (areas mid : List (Held V)) (places : List ℕ) (m : Listing) (out out_mid : V) (targets : List Target) → AllOnlyRead g areas mid → OnlyReads g out out_mid → CanPut (chain_told g areas places) m (g.files out) targets → CanPut (chain_told g mid places) m (g.files out_mid) targets
  can_still areas mid places m out out_mid targets reads quiet can =
      subst (λ (o : Option (List Files)). CanPut o m (g.files out_mid) targets) (sym (reads_told g areas mid reads places))
      (subst (λ (o : Option Files). CanPut (chain_told g areas places) m o targets) (sym quiet.files) can)

  -- writing failed
  pub merge_behind : (places : List ℕ) (m : Listing) (a b c : List (Held V)) (x y z : V) (why : CombineFault) → AllOnlyRead g a b → g.faults x ≤ g.faults y → WorkCause g b y c z why → MergeCause g places m a x c z why
  merge_behind places m a b c x y z fault.NotEmpty read le cause = absurd cause
  merge_behind places m a b c x y z fault.Unlisted read le cause = absurd cause
  merge_behind places m a b c x y z (fault.MemberFailed place) read le cause = rose_later (faults_at g a place) (faults_at g b place) (faults_at g c place) (reads_faults g a b read place) cause
  merge_behind places m a b c x y z fault.OutFailed read le cause = rose_later (g.faults x) (g.faults y) (g.faults z) le cause
  merge_behind places m a b c x y z fault.NoMemory read le cause = tt
