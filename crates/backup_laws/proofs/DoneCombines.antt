-- An accepted chain is combined, and an accepted series merged, to an output that holds no file.
use Rattle.std.proofs.Common.{◌≡◌, ℕ, List, [], ◌∷◌, ◌++◌, Option, Some, Ok, Err, subst}
use Rattle.std.specs.List.{AllByRecursion}
use Rattle.lsn_core.specs.Files.{Files}
use Rattle.vault.specs.Lending.{Names}
use Rattle.vault.specs.Site.{AreaState}
use Rattle.chain_files.specs.Segments.{AllHaveForms}
use Rattle.chain_check.specs.Chain.{AreLinked}
use Rattle.chain_check.specs.Directory.{IsAsListed}
use Rattle.chain_check.specs.declared.member.Member.{Member}
use Rattle.combine.specs.Combined.{EndsWith}
use Rattle.merge_laws.specs.Members.{AreAsListed}
use Rattle.command_base.specs.Areas.{backup_name}
use Rattle.command_base.specs.Outside.{Outside}
use Rattle.chain_commands.specs.Chain.{backup_areas, files_told, IsAcceptedAs, IsJoinedTo}
use Rattle.chain_commands.specs.Combine.{combine_status}
use Rattle.chain_commands.specs.Joined.{CombineResult, IsUnlistable, JoinDoes}
use Rattle.chain_commands.specs.declared.chain.Joining.{Joining}
use Rattle.chain_commands.specs.declared.chain.Joining.TheVariants as join
use Rattle.chain_commands.specs.declared.combining.CombineFault.TheVariants as combine
use Rattle.backup_laws.specs.Success.{IsDoneOrFails, TellsEmpty, HaveTextNames, AcceptedChainsAreCombined, AcceptedSeriesAreMerged}
use Rattle.backup_laws.proofs.ChainMembers.{members_listed, all_forms}
use Rattle.backup_laws.proofs.CombinedChains.{newest_listed}
use Rattle.backup_laws.proofs.DoneCommands.{area_fails, not_full}
use Rattle.backup_laws.proofs.ListablePaths.{never_unlisted, never_unmerged}
use Rattle.backup_laws.proofs.TakenMembers.{KnownOfChecks, each_told, members_done}

all_last : (P : Files → Type 0) (older : List Files) (last : Files) → AllByRecursion P (older ++ (last ∷ [])) → P last
all_last P [] last all = all.0
all_last P (f ∷ older) last all = all_last P older last all.1

of_last : (P : Files → Type 0) (chain : List Files) (last : Files) → EndsWith chain last → AllByRecursion P chain → P last
of_last P chain last ends all = all_last P ends.0 last (subst (AllByRecursion P) ends.1 all)

-- each accepted member has a manifest of version 2
last_linked : (prior : Member) (older : List Member) (last : Member) → AreLinked prior (older ++ (last ∷ [])) → last.manifest.version ≡ 2
last_linked prior [] last links = links.0.version
last_linked prior (m ∷ older) last links = last_linked m older last links.1

last_version : (joining : Joining) (older : List Member) (last : Member) → IsAcceptedAs joining (older ++ (last ∷ [])) → last.manifest.version ≡ 2
last_version join.Chain [] last is = is.chain.0.version
last_version join.Chain (m ∷ older) last is = last_linked m older last is.chain.1
last_version join.Series [] last is = is.series.0.version
last_version join.Series (m ∷ older) last is = last_linked m older last is.series.1

-- a member that is the last of some directories can be listed
abbrev IsNeverUnlisted : Joining → Type 0
IsNeverUnlisted joining =
    (chain : List Files) (last : Files) (m : Member) → AllHaveForms chain → IsAsListed last m → m.manifest.version ≡ 2 → HaveTextNames last → IsUnlistable joining (Some chain) m.manifest → ⊥

module _ (joining : Joining) (checks : KnownOfChecks joining) (never : IsNeverUnlisted joining) (names : Names) (out : List ℕ) (old new : Outside) (chain : List Files) (newest : Member) where
  abbrev areas : List AreaState
  areas = backup_areas names old.areas

  joined : (r : CombineResult) → files_told areas ≡ Some chain → IsJoinedTo joining names areas newest → AllByRecursion HaveTextNames chain → TellsEmpty (old.areas (backup_name out)) → JoinDoes joining out names old new r → IsDoneOrFails (combine_status r)
  joined (Ok report) stand is text no_out does = tt
  joined (Err (combine.Site fault)) stand is text no_out does = area_fails fault.why
  joined (Err (combine.Members why)) stand is text no_out does =
      members_done joining checks names areas (backup_areas names new.areas) chain newest why (each_told areas chain stand) is does.3.0
  joined (Err combine.NotEmpty) stand is text no_out does = absurd (not_full (old.areas (backup_name out)) no_out does.3.0.holds)
  joined (Err (combine.Unlisted place)) stand is text no_out does =
      let of = does.3.0 in
      let all : List Member = of.chain.older ++ (of.newest ∷ []) in
      let listed : AreAsListed chain all = members_listed names areas all chain of.chain.are stand in
      let last = newest_listed chain of.chain.older of.newest listed in
      absurd (never chain last.files of.newest (all_forms checks.forms chain all listed) last.listed (last_version joining of.chain.older of.newest of.chain.accepted) (of_last HaveTextNames chain last.files last.ends text)
      (subst (λ (o : Option (List Files)). IsUnlistable joining o of.newest.manifest) stand of.holds.cause))
  joined (Err (combine.Backup place why)) stand is text no_out does = area_fails why
  joined (Err (combine.Out why)) stand is text no_out does = area_fails why

pub chains_combined : KnownOfChecks join.Chain → AcceptedChainsAreCombined
chains_combined checks names out old new chain newest r =
    joined join.Chain checks (λ files last m forms listed new text cause. never_unlisted last m listed new text cause) names out old new chain newest r

pub series_merged : KnownOfChecks join.Series → AcceptedSeriesAreMerged
series_merged checks names out old new series newest r =
    joined join.Series checks (λ files last m forms listed new text cause. never_unmerged files last m listed new text (cause forms)) names out old new series newest r
