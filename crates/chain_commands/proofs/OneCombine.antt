-- A combining of what the areas hold has one answer, and so has a merging.
use Rattle.std.proofs.Common.{◌≡◌, ℕ, ◌+◌, ◌⊎◌, inl, inr, true, List, length, IsSome, Ok, Err, refl, sym, ap, ◌∙◌, arith, Option, Some, subst}
use Rattle.lsn_core.specs.Files.{Files}
use Rattle.vault.specs.Lending.{Names}
use Rattle.vault.specs.declared.lending.TakeFault.{TakeFault}
use Rattle.chain_check.specs.Laws.{DirectoriesAreOneMember, ListedIsNotRefused, RefusalsAreOne, ListedHaveForms, AcceptedIsNotRefused, ChainRefusalsAreOne}
use Rattle.manifest.specs.Listing.{Listing}
use Rattle.chain_check.specs.declared.member.Member.{Member}
use Rattle.chain_files.specs.Segments.{AllHaveForms}
use Rattle.directory_files.specs.Relisted.{other_rows}
use Rattle.series_check.specs.Series.{AcceptedSeriesIsNotRefused, SeriesRefusalsAreOne}
use Rattle.command_base.specs.Areas.{backup_name, IsClear, IsFull}
use Rattle.command_base.specs.Outside.{IsUntaken}
use Rattle.chain_commands.specs.declared.chain.MembersFault.{MembersFault}
use Rattle.chain_commands.specs.declared.combining.CombineReport.{CombineReport}
use Rattle.chain_commands.specs.declared.combining.CombineFault.TheVariants as combine
use Rattle.chain_commands.specs.declared.chain.Joining.{Joining}
use Rattle.chain_commands.specs.declared.chain.Joining.TheVariants as join
use Rattle.chain_commands.specs.Chain.{files_told, IsOfJoined}
use Rattle.chain_commands.specs.Combine.{combine_status}
use Rattle.chain_commands.specs.Joined.{CombineSeen, CombineResult, JoinsMembers, IsListable, IsUnlistable, IsUnlisted, JoinAnswer, JoinDoes, combine_report, combine_seen, combine_asks}
use Rattle.command_base.specs.Decided.{is_decided, HasOne}
use Rattle.chain_commands.specs.Laws.{HasOneCombine, HasOneMerge}
use Rattle.command_base.proofs.Decided.{clear_or_not, undecided}
use Rattle.chain_commands.proofs.OneChain.{either_way, AcceptedAsIsNotRefused, RefusalsAsAreOne, AreTold, Members, all_told_is, each_told, have_forms, one_answer, refused_course, chain_course, chain_few}

refused_by : MembersFault → CombineResult
refused_by fault = Err (combine.Members fault)

unlisted_at : ℕ → CombineResult
unlisted_at place = Err (combine.Unlisted place)

done_with : CombineReport → CombineResult
done_with report = Ok report

-- ---- what an answer says of what is told, from the first test on to the last

-- what can be listed isn't refused for it
listable_or_not : (joining : Joining) (files : List Files) (m : Listing) → AllHaveForms files → IsUnlistable joining (Some files) m → IsListable joining (Some files) m → ⊥
listable_or_not join.Chain files m forms cannot can = can cannot
listable_or_not join.Series files m forms cannot can = (let why = cannot forms in why.2 (can forms why.0 why.1))

module _ (joining : Joining) (names : Names) (old : CombineSeen) (files : List Files) where
  -- no manifest can list the files
  record IsRefused (m : Member) (a : CombineResult) : Type 0 where
    cause : IsUnlistable joining (Some files) m.manifest
    place : ℕ
    last : place + 1 ≡ length names
    is : a ≡ unlisted_at place

  -- one can, and lists them
  record IsDone (m : Member) (a : CombineResult) : Type 0 where
    listable : IsListable joining (Some files) m.manifest
    is : a ≡ done_with (combine_report m (length (other_rows m.manifest.files)))

  abbrev Lists : Member → CombineResult → Type 0
  Lists m a = IsRefused m a ⊎ IsDone m a

  abbrev Fills : Member → CombineResult → Type 0
  Fills m a = (IsFull old.out × (a ≡ Err combine.NotEmpty)) ⊎ (IsClear old.out × Lists m a)

  abbrev Course : CombineResult → Type 0
  Course a = Members joining refused_by Fills names files a

  -- ---- two of them are the same

  one_place : (p q : ℕ) → p + 1 ≡ length names → q + 1 ≡ length names → p ≡ q
  one_place p q here there = omega (arith, here, there)

  one_lists : AllHaveForms files → (m : Member) (a b : CombineResult) → Lists m a → Lists m b → a ≡ b
  one_lists forms m a b x y =
      either_way a b x y
      (λ u v. u.is ∙ ap unlisted_at (one_place u.place v.place u.last v.last) ∙ sym v.is)
      (λ u v. listable_or_not joining files m.manifest forms u.cause v.listable) (λ u v. listable_or_not joining files m.manifest forms u.cause v.listable)
      (λ u v. u.is ∙ sym v.is)

  record IsTold : Type 0 where
    members_are : AreTold old.members files
    out_is : IsSome old.out.files

  module _ (told : IsTold) where
    one_fills : AllHaveForms files → (m : Member) (a b : CombineResult) → Fills m a → Fills m b → a ≡ b
    one_fills forms m a b x y =
        either_way a b x y (λ u v. u.1 ∙ sym v.1) (λ u v. clear_or_not old.out told.out_is v.0 u.0) (λ u v. clear_or_not old.out told.out_is v.0 u.0) (λ u v. one_lists forms m a b u.1 v.1)

    one_course : ListedHaveForms → DirectoriesAreOneMember → ListedIsNotRefused → RefusalsAreOne → AcceptedAsIsNotRefused joining → RefusalsAsAreOne joining → (a b : CombineResult) → Course a → Course b → a ≡ b
    one_course law one_member not_refused one_refusal not_none one_none a b x y =
        one_answer joining refused_by Fills names files one_member not_refused one_refusal not_none one_none a b (λ ms are m. one_fills (have_forms law names files ms are) m a b) x y

    -- ---- and each answer says so

    files_are : files_told old.members ≡ Some files
    files_are = all_told_is old.members files told.members_are

    joined : (when : ℕ) (new : CombineSeen) (m : Member) (report : CombineReport) → JoinsMembers joining when old new report m → Fills m (Ok report)
    unfolding done_with
    joined when new m report is =
        inr (is.clear, inr (record { listable = subst (λ (o : Option (List Files)). IsListable joining o m.manifest) files_are is.listable; is = ap done_with (is.told ∙ ap (combine_report m) is.counted) }))

    unlisted : (place : ℕ) (m : Member) → IsUnlisted joining names old place m → Fills m (Err (combine.Unlisted place))
    unfolding unlisted_at
    unlisted place m is = inr (is.clear, inl (record { cause = subst (λ (o : Option (List Files)). IsUnlistable joining o m.manifest) files_are is.cause; place = place; last = is.last; is = refl }))

    -- of what the members are
    chain_of : (P : Member → Type 0) (a : CombineResult) (of : IsOfJoined joining names old.members P) → Fills of.newest a → Course a
    chain_of P a of fills =
        chain_course joining refused_by Fills names files old.members old.members told.members_are a of.newest of.chain (chain_few joining names old.members of.newest of.chain) fills

    course : (when : ℕ) (Untaken : TakeFault → Type 0) (new : CombineSeen) (a : CombineResult) → JoinAnswer joining when names Untaken old new a → is_decided (combine_status a) ≡ true → Course a
    unfolding refused_by
    course when Untaken new (Ok report) answer own = chain_of (JoinsMembers joining when old new report) (Ok report) answer (joined when new answer.newest report answer.holds)
    course when Untaken new (Err (combine.Site fault)) answer own = absurd (undecided fault.why own)
    course when Untaken new (Err (combine.Members fault)) answer own = refused_course joining refused_by Fills names files old.members new.members told.members_are fault answer.0 own
    course when Untaken new (Err combine.NotEmpty) answer own = chain_of (λ newest. IsFull old.out) (Err combine.NotEmpty) answer.0 (inl (answer.0.holds, refl))
    course when Untaken new (Err (combine.Unlisted place)) answer own =
        chain_of (IsUnlisted joining names old place) (Err (combine.Unlisted place)) answer.0 (unlisted place answer.0.newest answer.0.holds)
    course when Untaken new (Err (combine.Backup place why)) answer own = absurd (undecided why own)
    course when Untaken new (Err (combine.Out why)) answer own = absurd (undecided why own)

one_join : (joining : Joining) → ListedHaveForms → DirectoriesAreOneMember → ListedIsNotRefused → RefusalsAreOne → AcceptedAsIsNotRefused joining → RefusalsAsAreOne joining → (out : List ℕ) (names : Names) → HasOne (JoinDoes joining out names) combine_status
one_join joining law one_member not_refused one_refusal not_none one_none out names old new other a b told first second own also =
    let output : List ℕ = backup_name out in
    let files = each_told names old.areas told.files in
    let seen : CombineSeen = combine_seen names output old in
    let are : IsTold joining names seen files.0 = record { members_are = files.1; out_is = told.files output } in
    one_course joining names seen files.0 are law one_member not_refused one_refusal not_none one_none a b
    (course joining names seen files.0 are first.0 (IsUntaken (combine_asks names output) old new) (combine_seen names output new) a first.3 own)
    (course joining names seen files.0 are second.0 (IsUntaken (combine_asks names output) old other) (combine_seen names output other) b second.3 also)

pub one_combine : ListedHaveForms → DirectoriesAreOneMember → ListedIsNotRefused → RefusalsAreOne → AcceptedIsNotRefused → ChainRefusalsAreOne → HasOneCombine
one_combine law one_member not_refused one_refusal not_none one_none out names = one_join join.Chain law one_member not_refused one_refusal not_none one_none out names

pub one_merge : ListedHaveForms → DirectoriesAreOneMember → ListedIsNotRefused → RefusalsAreOne → AcceptedSeriesIsNotRefused → SeriesRefusalsAreOne → HasOneMerge
one_merge law one_member not_refused one_refusal not_none one_none out names = one_join join.Series law one_member not_refused one_refusal not_none one_none out names
