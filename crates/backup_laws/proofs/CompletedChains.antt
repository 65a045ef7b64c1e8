-- Chains of completed backups are sound so far, where those are that runs alone answered.
use Rattle.std.proofs.Common.{◌≡◌, ℕ, List, [], ◌∷◌, ◌++◌, append-nil, append_assoc, refl, sym, ap, subst, ◌∙◌, inl, inr}
use Rattle.std.specs.List.{AllByRecursion}
use Rattle.lsn_core.specs.Files.{Files}
use Rattle.lsn_core.specs.Segment.{IsRelseg}
use Rattle.lsn_core.specs.declared.lsn.Lsn.{Lsn}
use Rattle.history.specs.Entry.{Entry}
use Rattle.chain_files.specs.Paths.{fork_folder, fork_name}
use Rattle.chain_files.proofs.Placed.{fork_placed}
use Rattle.chain_check.specs.Directory.{IsAsListed}
use Rattle.chain_check.specs.declared.member.Member.{Member}
use Rattle.combine.specs.Laws.{full_member}
use Rattle.chain_commands.specs.declared.combining.CombineReport.{CombineReport}
use Rattle.backup_laws.specs.Restores.{PastRun}
use Rattle.backup_laws.specs.ChainRestores.{Combining, Merging, Making, Combined, Merged, IsTakenByOne, IsCompletedBackup}
use Rattle.merge_laws.specs.Members.{AreAsListed}
use Rattle.backup_laws.proofs.ChainMembers.{first_listed}
use Rattle.backup_laws.proofs.CombinedChains.{KnownOfCombining, IsMadeOf, made_of, made_alike, made_listed}
use Rattle.backup_laws.proofs.LongerChains.{longer_alike}
use Rattle.backup_laws.proofs.MergedSeries.{KnownOfMerging, IsMadeOfSeries, made_of_series, names_prior, instead}
use Rattle.backup_laws.proofs.SoundSoFar.{AreInTurn, IsSoundSoFar, last_places, last_same, along_on, all_both, listed_both, none_next, along_to}

-- what a combined directory's member is
made_member : KnownOfCombining → (chain : List Files) (made : Files) (report : CombineReport) (is : IsMadeOf chain made report) (m : Member) → IsAsListed made m → m ≡ full_member m.name is.newest is.combined.rows
made_member known chain made report is m listed = known.member made m (full_member m.name is.newest is.combined.rows) refl listed (made_listed known chain made report m.name is)

module _ (known : KnownOfCombining) (merging : KnownOfMerging) (relseg : ℕ) (some : IsRelseg relseg) (history : List Entry) where
  -- what directories were combined to stands for them
  made_so_far : (chain behind : List Files) (made : Files) (report : CombineReport) → IsMadeOf chain made report → IsSoundSoFar relseg history (chain ++ behind) → IsSoundSoFar relseg history (made ∷ behind)
  made_so_far chain behind made report is so_far files m others listed full turn =
      let one : m ≡ full_member m.name is.newest is.combined.rows = made_member known chain made report is m listed.0 in
      let starts : m.label.start ≡ is.newest.label.start = ap (λ (x : Member). x.label.start) one in
      let stops : m.manifest.end ≡ is.newest.manifest.end = ap (λ (x : Member). x.manifest.end) one in
      let all : AreAsListed ((chain ++ behind) ++ files) ((is.older ++ (is.newest ∷ [])) ++ others) =
      subst (λ (fs : List Files). AreAsListed fs ((is.older ++ (is.newest ∷ [])) ++ others)) (sym (append_assoc chain behind files)) (listed_both chain (behind ++ files) (is.older ++ (is.newest ∷ [])) others is.listed listed.1) in
      let turned : AreInTurn is.newest.label.start others = subst (λ (l : Lsn). AreInTurn l others) starts turn in
      along_on relseg relseg history history (chain ++ behind) (made ∷ behind) files (last_places is.newest.label.start is.newest.manifest.end others) (last_places m.label.start m.manifest.end others)
      (λ from to. known.alike relseg history (chain ++ behind) (made ∷ behind) from to some (λ fork seg named. longer_alike chain (made ∷ []) behind fork seg (made_alike known chain made report is fork seg named)))
      (last_same is.newest.label.start m.label.start is.newest.manifest.end m.manifest.end others (sym starts) (sym stops))
      (along_to relseg history (chain ++ behind) files is.older is.newest others so_far all is.accepted.chain turned)

  -- and what a series was merged to stands for it, behind another directory
  merged_so_far : (f : Files) (before behind series : List Files) (made : Files) → IsMadeOfSeries series made → IsSoundSoFar relseg history ((f ∷ before) ++ (series ++ behind)) → IsSoundSoFar relseg history ((f ∷ before) ++ (made ∷ behind))
  merged_so_far f before behind series made is so_far files m members listed full turn =
      let there : AreAsListed (before ++ (made ∷ (behind ++ files))) members = subst (λ (fs : List Files). AreAsListed fs members) (append_assoc before (made ∷ behind) files) listed.1 in
      let i = instead merging series made is before (behind ++ files) m.label.start m.manifest.end members there turn in
      let all : AreAsListed ((before ++ (series ++ behind)) ++ files) i.members =
      subst (λ (fs : List Files). AreAsListed fs i.members) (ap (λ (fs : List Files). before ++ fs) (sym (append_assoc series behind files)) ∙ sym (append_assoc before (series ++ behind) files)) i.listed in
      let one : List Files = (f ∷ before) ++ (series ++ behind) in
      let other : List Files = (f ∷ before) ++ (made ∷ behind) in
      along_on relseg relseg history history one other files (last_places m.label.start m.manifest.end i.members) (last_places m.label.start m.manifest.end members)
      (λ from to. known.alike relseg history one other from to some (λ fork seg named. sym (merging.stands (f ∷ before) series behind is.first is.later is.when is.count made is.is (fork_folder fork) (fork_name fork seg) (fork_placed fork seg named))))
      i.ends (so_far files m i.members (listed.0, all) full i.turn)

  module _ (runs : List PastRun) (taken : (f : Files) (fs : List Files) → AllByRecursion (IsTakenByOne runs) (f ∷ fs) → IsSoundSoFar relseg history (f ∷ fs)) where
    abbrev Completed : List Making → List Files → Type 0
    Completed makings fs = AllByRecursion (IsCompletedBackup runs makings) fs

    abbrev AreSound : List Making → Type 0
    AreSound makings = (f : Files) (fs : List Files) → Completed makings (f ∷ fs) → IsSoundSoFar relseg history (f ∷ fs)

    -- ---- combinings

    abbrev combined_by : (c : Combining) → IsMadeOf c.chain c.made c.report
    combined_by c = made_of known.forms c.members c.chain c.name c.made c.old c.new c.report c.done

    -- behind others none stands that `combine` made
    not_made : (c : Combining) (earlier : List Making) (fs files : List Files) (start : Lsn) (members : List Member) → Completed (Combined c ∷ earlier) fs → AreAsListed (fs ++ files) members → AreInTurn start members → Completed earlier fs
    not_made c earlier [] files start members all listed turn = tt
    not_made c earlier (f ∷ fs) files start [] all listed turn = absurd listed
    not_made c earlier (f ∷ fs) files start (m ∷ members) all listed turn = (
      elim all.0 [
        | inl old ↦ old
        | inr new ↦
            let is : IsMadeOf c.chain c.made c.report = combined_by c in
            let one : m ≡ full_member m.name is.newest is.combined.rows = made_member known c.chain c.made c.report is m (subst (λ (g : Files). IsAsListed g m) new.0 listed.0) in
            absurd (none_next start m (ap (λ (x : Member). x.label.prior) one) turn.0)
      ],
      not_made c earlier fs files m.label.start members all.1 listed.1 turn.1,
    )

    combined_on : (c : Combining) (earlier : List Making) → AreSound earlier → AreSound (Combined c ∷ earlier)
    combined_on c earlier sound f fs all = λ files m members listed full turn.
        let behind : Completed earlier fs = not_made c earlier fs files m.label.start members all.1 listed.1 turn in
        elim all.0 [
          | inl old ↦ sound f fs (old, behind) files m members listed full turn
          | inr new ↦
              let is : IsMadeOf c.chain c.made c.report = combined_by c in
              let parts = first_listed is.older is.newest c.chain is.listed in
              let front : Completed earlier (parts.0 ∷ parts.1) = subst (Completed earlier) parts.2 new.1 in
              let whole : IsSoundSoFar relseg history ((parts.0 ∷ parts.1) ++ fs) = sound parts.0 (parts.1 ++ fs) (all_both (IsCompletedBackup runs earlier) (parts.0 ∷ parts.1) fs front behind) in
              let so_far : IsSoundSoFar relseg history (c.made ∷ fs) = made_so_far c.chain fs c.made c.report is (subst (λ (gs : List Files). IsSoundSoFar relseg history (gs ++ fs)) (sym parts.2) whole) in
              subst (λ (g : Files). IsSoundSoFar relseg history (g ∷ fs)) (sym new.0) so_far files m members listed full turn
        ]

    -- ---- mergings

    abbrev merged_by : (g : Merging) → IsMadeOfSeries g.series g.made
    merged_by g = made_of_series known.forms g.members g.series g.name g.made g.old g.new g.report g.done

    -- so many behind earlier ones
    merged_behind : (g : Merging) (earlier : List Making) → AreSound earlier → (f : Files) (front fs : List Files) → Completed earlier (f ∷ front) → Completed (Merged g ∷ earlier) fs → IsSoundSoFar relseg history ((f ∷ front) ++ fs)
    merged_behind g earlier sound f front [] before all = subst (IsSoundSoFar relseg history) (sym (append-nil (f ∷ front))) (sound f front before)
    merged_behind g earlier sound f front (x ∷ fs) before all = elim all.0 [
      | inl old ↦
          subst (IsSoundSoFar relseg history) (append_assoc (f ∷ front) (x ∷ []) fs)
          (merged_behind g earlier sound f (front ++ (x ∷ [])) fs (all_both (IsCompletedBackup runs earlier) (f ∷ front) (x ∷ []) before (old, tt)) all.1)
      | inr new ↦
          let both : Completed earlier ((f ∷ front) ++ g.series) = all_both (IsCompletedBackup runs earlier) (f ∷ front) g.series before new.1 in
          subst (λ (y : Files). IsSoundSoFar relseg history ((f ∷ front) ++ (y ∷ fs))) (sym new.0)
          (merged_so_far f front fs g.series g.made (merged_by g)
          (subst (IsSoundSoFar relseg history) (append_assoc (f ∷ front) g.series fs) (merged_behind g earlier sound f (front ++ g.series) fs both all.1)))
    ]

    -- none stands first that `merge-incr` made
    merged_on : (g : Merging) (earlier : List Making) → AreSound earlier → AreSound (Merged g ∷ earlier)
    merged_on g earlier sound f fs all = elim all.0 [
      | inl old ↦ merged_behind g earlier sound f [] fs (old, tt) all.1
      | inr new ↦ λ files m members listed full turn. absurd (names_prior merging g.series g.made (merged_by g) m (subst (λ (y : Files). IsAsListed y m) new.0 listed.0) full)
    ]

    -- ---- all

    -- chains of completed ones are sound so far
    pub completed_so_far : (makings : List Making) → AreSound makings
    completed_so_far [] = taken
    completed_so_far (Combined c ∷ earlier) = combined_on c earlier (completed_so_far earlier)
    completed_so_far (Merged g ∷ earlier) = merged_on g earlier (completed_so_far earlier)
