-- Commands are done where areas hold what they ask for.
use Rattle.std.proofs.Common.{◌≡◌, ◌≢◌, ℕ, ◌≤◌, Bool, true, false, List, length, Option, Some, IsSome, Ok, Err, refl, sym, ap, subst, ◌∙◌, arith}
use Rattle.std.specs.FinMap.{empty}
use Rattle.std.proofs.lemmas.List.{take_all}
use Rattle.lsn_core.specs.Files.{Files}
use Rattle.lsn_core.specs.declared.fault.AreaFault.{AreaFault}
use Rattle.lsn_core.specs.declared.fault.AreaFault.TheVariants as area
use Rattle.lsn_core.specs.declared.lsn.Lsn.{Lsn}
use Rattle.vault.specs.Site.{AreaState}
use Rattle.wal_archive.specs.declared.fault.Damage.{Damage}
use Rattle.wal_reader.specs.Wal.{IsDamaged}
use Rattle.wal_reader.proofs.OneReading.{ends_or_is_damaged}
use Rattle.wal_summary.specs.Kept.{is_covered}
use Rattle.wal_summary.specs.declared.summary.Summary.{Summary}
use Rattle.recovery.specs.declared.fault.RecoveryFault.{RecoveryFault}
use Rattle.recovery.specs.declared.fault.RecoveryFault.TheVariants as wal
use Rattle.recovery.specs.Causes.{WalCause}
use Rattle.stream_laws.specs.Streams.{stream_files}
use Rattle.follow_laws.specs.Followed.{stream_settings, BadDelta, IsFollowed, AwaitsMore}
use Rattle.follow_laws.specs.Followed as law
use Rattle.follow_laws.proofs.Apart.{followed_or_refused}
use Rattle.follow_command.specs.Input.{most_input}
use Rattle.follow_command.specs.Followed.{followed, IsDamagedStream, IsLongStream}
use Rattle.chain_check.specs.Laws.{ListedIsNotRefused}
use Rattle.chain_check.specs.Refusals.{HasRefusal}
use Rattle.command_base.specs.Areas.{wal_name, sums_name, output_name, backup_name, IsFull}
use Rattle.command_base.specs.Faults.{area_status, wal_status}
use Rattle.command_base.proofs.Told.{at_told}
use Rattle.store_commands.specs.declared.new_store.InitFault.TheVariants as init
use Rattle.store_commands.specs.declared.replaying.ReplayFault.TheVariants as replay
use Rattle.store_commands.specs.declared.follow_stream.FollowFault.TheVariants as follow
use Rattle.store_commands.specs.declared.range_summary.WalsummaryFault.TheVariants as walsummary
use Rattle.store_commands.specs.Follow.{IsUnfollowed}
use Rattle.store_commands.specs.Walsummary.{IsKeptGap}
use Rattle.chain_commands.specs.declared.verifying.VerifyFault.TheVariants as verify
use Rattle.backup_laws.specs.Success.{IsDoneOrFails, TellsEmpty, IsReplayable, NewStoresAreMade, SoundWalsAreReplayed, SoundStreamsAreFollowed, CoveredRangesAreTold, ListedBackupsAreVerified}
use Rattle.backup_laws.proofs.Gaps.{one_list}
use Rattle.backup_laws.proofs.NotRefused.{wal_not_refused}
use Rattle.backup_laws.proofs.TakenMembers.{directory_done}

pub area_fails : (why : AreaFault) → IsDoneOrFails (area_status why)
area_fails area.Failed = tt
area_fails area.NoMemory = tt

pub not_full : (a : AreaState) → TellsEmpty a → IsFull a → ⊥
not_full a told full = at_told a.files empty (λ m. m ≢ empty) told full refl

pub told_some : (o : Option Files) (m : Files) → o ≡ Some m → IsSome o
told_some o m told = subst IsSome (sym told) refl

-- ---- the store's commands

pub stores_made : NewStoresAreMade
stores_made options old new (Ok end) no_wal no_sums does = tt
stores_made options old new (Err (init.Site fault)) no_wal no_sums does = area_fails fault.why
stores_made options old new (Err init.AlreadyInit) no_wal no_sums does = absurd (not_full (old.areas wal_name) no_wal does.1.2.0)
stores_made options old new (Err init.SumsNotEmpty) no_wal no_sums does = absurd (not_full (old.areas sums_name) no_sums does.1.2.1)
stores_made options old new (Err (init.Wal why)) no_wal no_sums does = area_fails why
stores_made options old new (Err (init.Sums why)) no_wal no_sums does = area_fails why

pub wals_replayed : SoundWalsAreReplayed
wals_replayed upto out old new files end (Ok report) told sound within no_out does = tt
wals_replayed upto out old new files end (Err (replay.Site fault)) told sound within no_out does = area_fails fault.why
wals_replayed upto out old new files end (Err replay.NotEmpty) told sound within no_out does = absurd (not_full (old.areas (output_name out)) no_out does.1.0)
wals_replayed upto out old new files end (Err (replay.Wal why)) told sound within no_out does =
    let before : ℕ = (old.areas wal_name).faults in
    let now : ℕ = (new.areas wal_name).faults in
    let cause : WalCause upto (old.areas wal_name).files before now why = does.1.2 (λ pages. told_some (old.areas (output_name out)).files empty no_out) in
    wal_not_refused end files sound upto before now why within (subst (λ (o : Option Files). WalCause upto o before now why) told cause)
wals_replayed upto out old new files end (Err (replay.Out why)) told sound within no_out does = area_fails why

-- ---- streams

module _ (mib relseg end : ℕ) (bytes : List ℕ) (few : length bytes ≤ most_input) (is : IsReplayable (stream_settings mib relseg bytes) (stream_files mib bytes) end) where
  all_of : followed bytes ≡ bytes
  all_of = take_all most_input bytes few

  not_damaged : (d : Damage) → IsDamagedStream mib relseg bytes d → ⊥
  not_damaged d damaged =
      ends_or_is_damaged (stream_settings mib relseg bytes) (stream_files mib bytes) is.records damaged.rs is.last d is.read
      (subst (λ (b : List ℕ). IsDamaged (stream_settings mib relseg b) (stream_files mib b) damaged.rs d) all_of damaged.damaged)

  is_followed : IsFollowed mib relseg bytes is.records is.last is.store
  is_followed = record {
    read = record { walk = is.read.walk; makes = is.applied };
    waits = subst AwaitsMore (sym is.read.ended) tt;
  }

  not_bad : (at : Lsn) → law.IsUnfollowed mib relseg (followed bytes) (BadDelta at) → ⊥
  not_bad at un =
      followed_or_refused mib relseg bytes is.records is.last is.store (BadDelta at) is_followed (subst (λ (b : List ℕ). law.IsUnfollowed mib relseg b (BadDelta at)) all_of un)

  stream_done : (why : RecoveryFault) → IsUnfollowed mib relseg why bytes → IsDoneOrFails (wal_status why)
  stream_done (wal.Damaged size d) un = absurd (not_damaged d un.1)
  stream_done (wal.BadDelta at) un = absurd (not_bad at un)
  stream_done (wal.Short stop target) un = absurd un
  stream_done wal.SettingsDamaged un = absurd un
  stream_done (wal.Timeline name) un = absurd un
  stream_done wal.NotInit un = absurd un
  stream_done wal.Failed un = absurd un
  stream_done wal.NoMemory un = tt

pub streams_followed : SoundStreamsAreFollowed
streams_followed mib relseg end out bytes old new (Ok report) told few is no_out does = tt
streams_followed mib relseg end out bytes old new (Err (follow.Site fault)) told few is no_out does = area_fails fault.why
streams_followed mib relseg end out bytes old new (Err follow.NotEmpty) told few is no_out does = absurd (not_full (old.areas (output_name out)) no_out does.2.0)
streams_followed mib relseg end out bytes old new (Err (follow.Input why)) told few is no_out does = area_fails why
streams_followed mib relseg end out bytes old new (Err (follow.Long most)) told few is no_out does =
    let long = at_told old.left bytes (λ b. (most ≡ most_input) × IsLongStream mib relseg b) told does.2.0 in
    let more = long.1.more in
    absurd (omega (arith, few, more))
streams_followed mib relseg end out bytes old new (Err (follow.Wal why)) told few is no_out does =
    stream_done mib relseg end bytes few is why (at_told old.left bytes (IsUnfollowed mib relseg why) told does.2.0)
streams_followed mib relseg end out bytes old new (Err (follow.Out why)) told few is no_out does = area_fails why

-- ---- summaries

both_ways : (b : Bool) → b ≡ true → b ≡ false → ⊥
both_ways b is isnt = (let never : true ≡ false = sym is ∙ isnt in cc)

pub ranges_told : CoveredRangesAreTold
ranges_told from to old new files (Ok sum) told is does = tt
ranges_told from to old new files (Err (walsummary.Site fault)) told is does = area_fails fault.why
ranges_told from to old new files (Err (walsummary.Gap place)) told is does =
    let gap = at_told (old.areas sums_name).files files (IsKeptGap from.0 to.0 place.0) told does.1 in
    let same = one_list files gap.sums is.sums gap.kept is.kept in
    absurd (both_ways (is_covered is.sums place.0) (is.covered place.0 gap.gap.later gap.gap.below) (ap (λ (sums : List Summary). is_covered sums place.0) (sym same) ∙ gap.gap.uncovered))
ranges_told from to old new files (Err (walsummary.Sums why)) told is does = area_fails why

-- ---- one backup

pub backups_verified : ListedIsNotRefused → ListedBackupsAreVerified
backups_verified law name old new files member (Ok report) told is does = tt
backups_verified law name old new files member (Err (verify.Site fault)) told is does = area_fails fault.why
backups_verified law name old new files member (Err (verify.Directory refusal)) told is does =
    directory_done refusal.fault (λ own. law files member refusal.fault own is (at_told (old.areas (backup_name name)).files files (λ m. HasRefusal m refusal) told does.1.refused).0)
