-- What `merge-incr` made of a series of backups: in a chain it stands for the series, whichever members
-- stand before and behind it.
use Rattle.std.proofs.Common.{◌≡◌, ℕ, List, [], ◌∷◌, ◌++◌, Some, None, IfSome, refl, sym, ap, subst, ◌∙◌}
use Rattle.std.specs.Prelude.{max}
use Rattle.lsn_core.specs.Files.{Files}
use Rattle.lsn_core.specs.declared.lsn.Lsn.{Lsn}
use Rattle.vault.specs.Lending.{Names}
use Rattle.chain_files.specs.Segments.{AllHaveForms}
use Rattle.chain_check.specs.Directory.{IsAsListed}
use Rattle.chain_check.specs.Laws.{DirectoriesAreOneMember, ListedHaveForms}
use Rattle.chain_check.specs.declared.member.Member.{Member}
use Rattle.series_check.specs.Series.{IsSeries}
use Rattle.merge_laws.specs.Merged.{BeginsWith, EndsWith, IsMerged}
use Rattle.merge_laws.specs.Members.{last_member, merged_member, AreAsListed}
use Rattle.merge_laws.specs.Laws.{IsMergedOf, MergedStandsForSeries, MergedIsAsListed}
use Rattle.command_base.specs.Areas.{backup_name}
use Rattle.command_base.specs.Outside.{Outside}
use Rattle.command_base.proofs.Told.{at_told}
use Rattle.chain_commands.specs.declared.combining.CombineReport.{CombineReport}
use Rattle.chain_commands.specs.Chain.{IsOfSeries, files_told}
use Rattle.chain_commands.specs.Joined.{CombineSeen, combine_seen}
use Rattle.chain_commands.specs.Merge.{MergesSeries}
use Rattle.backup_laws.specs.MergedSeries.{HasMerged}
use Rattle.backup_laws.proofs.ChainMembers.{members_listed, all_forms}
use Rattle.backup_laws.proofs.CombinedChains.{HasNewest, newest_listed}
use Rattle.backup_laws.proofs.SoundSoFar.{AreInTurn, last_places, last_same, last_both, last_is, turn_both, listed_both, listed_rise}

-- what is known of lower crates
pub record KnownOfMerging : Type 0 where
  pub member : DirectoriesAreOneMember
  pub stands : MergedStandsForSeries
  pub listed : MergedIsAsListed

-- ---- the members that were merged

-- what was merged, and to what
pub record IsMadeOfSeries (series : List Files) (made : Files) : Type 0 where
  pub first : Member
  pub later : List Member
  pub when : ℕ
  pub count : ℕ
  pub is : IsMergedOf series first later when count made

-- the members of a series, its first one apart
record IsFromFirst (all : List Member) (newest : Member) : Type 0 where
  first : Member
  later : List Member
  are : all ≡ first ∷ later
  last : last_member first later ≡ newest

from_first : (older : List Member) (newest : Member) → IsFromFirst (older ++ (newest ∷ [])) newest
from_first [] newest = record { first = newest; later = []; are = refl; last = refl }
from_first (m ∷ older) newest = record { first = m; later = older ++ (newest ∷ []); are = refl; last = last_is m older newest }

-- a series' directories, its first one apart
first_of : (series : List Files) (first : Member) (later : List Member) → AreAsListed series (first ∷ later) → (f : Files) × BeginsWith series f
first_of [] first later listed = absurd listed
first_of (f ∷ fs) first later listed = (f, (fs, refl))

pub made_of_series : ListedHaveForms → (members : Names) (series : List Files) (name : List ℕ) (made : Files) (old new : Outside) (report : CombineReport) → HasMerged members series name made old new report → IsMadeOfSeries series made
made_of_series law members series name made old new report has =
    let was : CombineSeen = combine_seen members (backup_name name) old in
    let now : CombineSeen = combine_seen members (backup_name name) new in
    let of : IsOfSeries members was.members (MergesSeries has.does.0 was now report) = has.does.3 in
    let all : List Member = of.chain.older ++ (of.newest ∷ []) in
    let all_listed : AreAsListed series all = members_listed members was.members all series of.chain.are has.were in
    let end : HasNewest series of.newest = newest_listed series of.chain.older of.newest all_listed in
    let does : MergesSeries has.does.0 was now report of.newest = of.holds in
    let forms : AllHaveForms series = all_forms law series all all_listed in
    let by : IsFromFirst all of.newest = from_first of.chain.older of.newest in
    let listed : AreAsListed series (by.first ∷ by.later) = subst (AreAsListed series) by.are all_listed in
    let begin = first_of series by.first by.later listed in
    let linked : IsSeries (by.first ∷ by.later) = subst (λ (ms : List Member). IsSeries ms) by.are of.chain.accepted.series in
    record {
      first = by.first;
      later = by.later;
      when = has.does.0;
      count = does.rows;
      is = record {
        oldest = begin.0;
        rest = begin.1.0;
        newest = end.files;
        before = end.ends.0;
        begins = begin.1.1;
        ends = end.ends.1;
        listed = listed;
        incremental = linked.0;
        linked = linked.1;
        is =
            subst (λ (m : Member). IsMerged series begin.0 end.files m.manifest has.does.0 does.rows made) (sym by.last)
            (at_told now.out.files made (λ out. IsMerged series begin.0 end.files of.newest.manifest has.does.0 does.rows out) has.is
            (at_told (files_told was.members) series
            (λ files. AllHaveForms files → (first last : Files) → BeginsWith files first → EndsWith files last → IsAsListed last of.newest → IfSome now.out.files (IsMerged files first last of.newest.manifest has.does.0 does.rows))
            has.were does.combined forms begin.0 end.files begin.1 end.ends end.listed));
      };
    }

-- ---- its member

module _ (known : KnownOfMerging) (series : List Files) (made : Files) (is : IsMadeOfSeries series made) where
  abbrev newest : Member
  newest = last_member is.first is.later

  one_member : (m : Member) → IsAsListed made m → m ≡ merged_member m.name is.first is.later is.is.is.rows
  one_member m listed = known.member made m (merged_member m.name is.first is.later is.is.is.rows) refl listed (known.listed series is.first is.later is.when is.count made m.name is.is)

  pub names_prior : (m : Member) → IsAsListed made m → m.label.prior ≡ None → ⊥
  names_prior m listed none =
      let i = is.is.incremental in
      let e : Some i.prior ≡ None = sym i.named ∙ (sym (ap (λ (x : Member). x.label.prior) (one_member m listed)) ∙ none) in
      cc

  -- in its place come those of the series
  pub record AreInstead (files : List Files) (start : Lsn) (end : ℕ) (last : Lsn × ℕ) : Type 0 where
    pub members : List Member
    pub listed : AreAsListed files members
    pub turn : AreInTurn start members
    pub ends : last_places start end members ≡ last

  here : (behind : List Files) (start : Lsn) (end : ℕ) (m : Member) (members : List Member) → AreAsListed (made ∷ behind) (m ∷ members) → AreInTurn start (m ∷ members) → AreInstead (series ++ behind) start end (last_places start end (m ∷ members))
  here behind start end m members listed turn =
      let one = one_member m listed.0 in
      let starts : newest.label.start ≡ m.label.start = sym (ap (λ (x : Member). x.label.start) one) in
      let stops : newest.manifest.end ≡ m.manifest.end = sym (ap (λ (x : Member). x.manifest.end) one) in
      let named : is.first.label.prior ≡ m.label.prior = sym (ap (λ (x : Member). x.label.prior) one) in
      let rise = listed_rise series (is.first ∷ is.later) is.is.listed in
      record {
        members = (is.first ∷ is.later) ++ members;
        listed = listed_both series behind (is.first ∷ is.later) members is.is.listed listed.1;
        turn = (
          record { timeline = turn.0.timeline; named = named ∙ turn.0.named },
          turn_both is.first is.later members is.is.linked (subst (λ (l : Lsn). AreInTurn l members) (sym starts) turn.1),
        );
        ends =
            last_both end is.first is.later members is.is.linked rise.1
            ∙ last_same newest.label.start m.label.start (max end newest.manifest.end) (max end m.manifest.end) members starts (ap (λ (n : ℕ). max end n) stops);
      }

  pub instead : (before behind : List Files) (start : Lsn) (end : ℕ) (members : List Member) → AreAsListed (before ++ (made ∷ behind)) members → AreInTurn start members → AreInstead (before ++ (series ++ behind)) start end (last_places start end members)
  instead [] behind start end [] listed turn = absurd listed
  instead [] behind start end (m ∷ members) listed turn = here behind start end m members listed turn
  instead (f ∷ before) behind start end [] listed turn = absurd listed
  instead (f ∷ before) behind start end (m ∷ members) listed turn =
      let more = instead before behind m.label.start (max end m.manifest.end) members listed.1 turn.1 in
      record { members = m ∷ more.members; listed = (listed.0, more.listed); turn = (turn.0, more.turn); ends = more.ends }
