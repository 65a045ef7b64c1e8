-- What `combine` made of a chain of backups is one as a chain of one, and sound where the chain was.
use Rattle.std.proofs.Common.{◌≡◌, ℕ, List, [], ◌∷◌, ◌++◌, IfSome, refl, sym, ap, ◌∙◌}
use Rattle.lsn_core.specs.Files.{Files}
use Rattle.lsn_core.specs.Names.{IsNamed}
use Rattle.lsn_core.specs.declared.ids.ForkId.{ForkId}
use Rattle.vault.specs.Lending.{Names}
use Rattle.chain_files.specs.Segments.{AllHaveForms, chain_segments}
use Rattle.chain_files.specs.Paths.{fork_folder, fork_name}
use Rattle.chain_files.proofs.Placed.{fork_placed}
use Rattle.chain_check.specs.Chain.{IsAccepted}
use Rattle.chain_check.specs.Directory.{IsAsListed}
use Rattle.chain_check.specs.Laws.{DirectoriesAreOneMember, ListedHaveForms}
use Rattle.chain_check.specs.declared.member.Member.{Member}
use Rattle.chain_laws.specs.Laws.{ChainsCombinedAlikeAreSoundAlike}
use Rattle.combine.specs.Combined.{EndsWith, IsCombined}
use Rattle.combine.specs.Laws.{CombinedHoldsTheSame, CombinedIsAsListed, FullMembersAreChains, full_member}
use Rattle.command_base.specs.Areas.{backup_name}
use Rattle.command_base.specs.Outside.{Outside}
use Rattle.command_base.proofs.Told.{at_told}
use Rattle.recovery.proofs.OneWal.{same_lsn}
use Rattle.chain_commands.specs.declared.combining.CombineReport.{CombineReport}
use Rattle.chain_commands.specs.Chain.{IsOfChain, files_told}
use Rattle.chain_commands.specs.Combine.{CombineSeen, CombinesChain, combine_seen}
use Rattle.backup_laws.specs.CombinedChains.{HasCombined, CombinedChainsStaySound}
use Rattle.merge_laws.specs.Members.{AreAsListed}
use Rattle.backup_laws.proofs.ChainMembers.{members_listed, all_forms}

-- what is known of lower crates
pub record KnownOfCombining : Type 0 where
  pub forms : ListedHaveForms
  pub member : DirectoriesAreOneMember
  pub same : CombinedHoldsTheSame
  pub listed : CombinedIsAsListed
  pub chains : FullMembersAreChains
  pub alike : ChainsCombinedAlikeAreSoundAlike

-- ---- the members that were combined

-- the newest directory of a chain is as listed
pub record HasNewest (chain : List Files) (newest : Member) : Type 0 where
  pub files : Files
  pub ends : EndsWith chain files
  pub listed : IsAsListed files newest

pub newest_listed : (chain : List Files) (older : List Member) (newest : Member) → AreAsListed chain (older ++ (newest ∷ [])) → HasNewest chain newest
newest_listed [] [] newest listed = absurd listed
newest_listed [] (m ∷ older) newest listed = absurd listed
newest_listed (f ∷ []) [] newest listed = record { files = f; ends = ([], refl); listed = listed.0 }
newest_listed (f ∷ (g ∷ chain)) [] newest listed = absurd listed.1
newest_listed (f ∷ chain) (m ∷ older) newest listed =
    let is = newest_listed chain older newest listed.1 in
    record { files = is.files; ends = (f ∷ is.ends.0, ap (λ (fs : List Files). f ∷ fs) is.ends.1); listed = is.listed }

-- what was combined, and to what
pub record IsMadeOf (chain : List Files) (made : Files) (report : CombineReport) : Type 0 where
  pub older : List Member
  pub newest : Member
  pub listed : AreAsListed chain (older ++ (newest ∷ []))
  pub accepted : IsAccepted (older ++ (newest ∷ []))
  pub last : HasNewest chain newest
  pub when : ℕ
  pub rows : ℕ
  pub combined : IsCombined chain last.files newest.manifest when rows made
  pub starts : newest.label.start ≡ report.start
  pub ends : newest.manifest.end ≡ report.end.0

pub made_of : ListedHaveForms → (members : Names) (chain : List Files) (name : List ℕ) (made : Files) (old new : Outside) (report : CombineReport) → HasCombined members chain name made old new report → IsMadeOf chain made report
made_of law members chain name made old new report has =
    let was : CombineSeen = combine_seen members (backup_name name) old in
    let now : CombineSeen = combine_seen members (backup_name name) new in
    let of : IsOfChain members was.members (CombinesChain has.does.0 was now report) = has.does.3 in
    let all : List Member = of.chain.older ++ (of.newest ∷ []) in
    let listed : AreAsListed chain all = members_listed members was.members all chain of.chain.are has.were in
    let last : HasNewest chain of.newest = newest_listed chain of.chain.older of.newest listed in
    let does : CombinesChain has.does.0 was now report of.newest = of.holds in
    let forms : AllHaveForms chain = all_forms law chain all listed in
    record {
      older = of.chain.older;
      newest = of.newest;
      listed = listed;
      accepted = of.chain.accepted;
      last = last;
      when = has.does.0;
      rows = does.rows;
      combined =
          at_told now.out.files made (λ out. IsCombined chain last.files of.newest.manifest has.does.0 does.rows out) has.is
          (at_told (files_told was.members) chain
          (λ files. AllHaveForms files → (newest : Files) → EndsWith files newest → IsAsListed newest of.newest → IfSome now.out.files (IsCombined files newest of.newest.manifest has.does.0 does.rows))
          has.were does.combined forms last.files last.ends last.listed);
      starts = same_lsn of.newest.label.start report.start (last.listed.label.1 ∙ ap (λ (r : CombineReport). r.start.0) (sym does.told));
      ends = ap (λ (r : CombineReport). r.end.0) (sym does.told);
    }

-- ---- the law

-- what was made stands for the same segment files
pub made_alike : KnownOfCombining → (chain : List Files) (made : Files) (report : CombineReport) → IsMadeOf chain made report → (fork : ForkId) (seg : ℕ) → IsNamed fork seg → chain_segments chain fork seg ≡ chain_segments (made ∷ []) fork seg
made_alike known chain made report is fork seg named = sym (known.same chain is.last.files is.newest is.when is.rows made is.last.ends is.last.listed is.combined (fork_folder fork) (fork_name fork seg) (fork_placed fork seg named))

-- and is as its manifest lists it
pub made_listed : KnownOfCombining → (chain : List Files) (made : Files) (report : CombineReport) (name : List ℕ) (is : IsMadeOf chain made report) → IsAsListed made (full_member name is.newest is.combined.rows)
made_listed known chain made report name is = known.listed chain is.last.files is.newest is.when is.rows made name is.last.listed is.combined

pub combined_sound : KnownOfCombining → CombinedChainsStaySound
combined_sound known members chain name made old new report relseg history some has sound =
    let is : IsMadeOf chain made report = made_of known.forms members chain name made old new report has in
    record {
      member = full_member name is.newest is.combined.rows;
      named = refl;
      starts = is.starts;
      ends = is.ends;
      listed = made_listed known chain made report name is;
      accepted = known.chains is.older is.newest name is.combined.rows is.accepted;
      sound = known.alike relseg history chain (made ∷ []) report.start.0 report.end.0 some (made_alike known chain made report is) sound;
    }
