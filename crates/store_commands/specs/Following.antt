-- What `follow` has to do with `replay`; and what private functions of `follow` answer to those
-- that call them, of which none stands in the contract of a public call.
use Rattle.std.specs.Prelude.{◌≡◌, ℕ, List, [], Some, None, Result, Ok, Err, IfSome}
use Rattle.std.specs.Option.{option_map}
use Rattle.lsn_core.specs.declared.lsn.Lsn.{Lsn}
use Rattle.lsn_core.specs.Files.{Files}
use Rattle.vault.specs.Site.{state_in}
use Rattle.vault.specs.declared.area.Vault.{Ghosts as Vaults}
use Rattle.vault.specs.declared.stream.Source.{Ghosts as Sources}
use Rattle.wal_archive.specs.Archive.{archive_of}
use Rattle.recovery.specs.Causes.{HasSettings}
use Rattle.stream_laws.specs.Streams.{stream_files}
use Rattle.follow_laws.specs.Followed.{stream_settings}
use Rattle.wal_follow.specs.Following.{Following}
use Rattle.follow_command.specs.Followed.{IsReplayed}
use Rattle.command_base.specs.Areas.{IsClear}
use Rattle.store_commands.specs.declared.follow_stream.FollowFault.{FollowFault}
use Rattle.store_commands.specs.declared.replaying.ReplayReport.{ReplayReport}
use Rattle.store_commands.specs.Replay.{ReplayAreas, ReplayDone}
use Rattle.store_commands.specs.Follow.{FollowDone, FollowResult, FollowSeen, FollowAnswer}
use Rattle.command_base.specs.Outside.{Never}

-- files have the archive of a stream, and the settings that it is followed with
pub record HasStream (mib relseg : ℕ) (bytes : List ℕ) (files : Files) : Type 0 where
  pub archive : archive_of mib files ≡ archive_of mib (stream_files mib bytes)
  pub settings : HasSettings (Some files) (stream_settings mib relseg bytes)

-- where an area of a WAL has them, what `follow` did is what `replay` to the WAL's end does
abbrev pub FollowsAsReplay : Type 0
FollowsAsReplay =
    (mib relseg : ℕ) (bytes : List ℕ) (files : Files) (old new : ReplayAreas)
    (report : ReplayReport)
    → HasStream mib relseg bytes files → old.wal.files ≡ Some files
    → FollowDone mib relseg bytes old.out new.out report → ReplayDone None old new report

-- ---- inside

abbrev pub follow_seen_in : {V I : Type 0} → Vaults V → Sources I → V → I → FollowSeen
follow_seen_in vaults sources out input = record {
  out = state_in vaults out;
  left = sources.left input;
  reads = sources.faults input;
}

-- why `follow` comes to its answer over the area of the output and an input
abbrev pub AnswersFollow : {V I : Type 0} → Vaults V → Sources I → ℕ → ℕ
    → V → I → V → I → FollowResult → Type 0
AnswersFollow vaults sources mib relseg out input out_now input_now r =
    FollowAnswer mib relseg Never
    (follow_seen_in vaults sources out input) (follow_seen_in vaults sources out_now input_now) r

-- the input was followed to its end, and nothing written; or why it wasn't
abbrev pub AnswersStream : {V I : Type 0} → Vaults V → Sources I → ℕ → ℕ
    → V → I → V → I → Result (Following × Lsn) FollowFault → Type 0
AnswersStream vaults sources mib relseg out input out_now input_now (Ok came) =
    IfSome (sources.left input) (λ bytes. IsReplayed mib relseg bytes came.0 came.1)
    × IsClear (state_in vaults out) × (vaults.files out_now ≡ vaults.files out)
    × (sources.left input_now ≡ option_map (λ bytes. []) (sources.left input))
AnswersStream vaults sources mib relseg out input out_now input_now (Err fault) =
    AnswersFollow vaults sources mib relseg out input out_now input_now (Err fault)
