-- That a command comes to one answer.
use Rattle.std.specs.Prelude.{◌<◌, ℕ, Option, List}
use Rattle.lsn_core.specs.declared.lsn.Lsn.{Lsn}
use Rattle.command_line.specs.declared.options.InitOptions.{InitOptions}
use Rattle.command_base.specs.Decided.{HasOne}
use Rattle.store_commands.specs.Init.{InitDoes, init_status}
use Rattle.store_commands.specs.Replay.{ReplayDoes, replay_status}
use Rattle.store_commands.specs.Walsummary.{WalsummaryDoes, walsummary_status}
use Rattle.store_commands.specs.Follow.{FollowDoes, follow_status}

abbrev pub HasOneInit : Type 0
HasOneInit = (options : InitOptions) → HasOne (InitDoes options) init_status

abbrev pub HasOneReplay : Type 0
HasOneReplay =
    (upto : Option Lsn) (name : List ℕ) → HasOne (ReplayDoes upto name) replay_status

-- of a range with a place
abbrev pub HasOneWalsummary : Type 0
HasOneWalsummary =
    (from to : Lsn) → from.0 < to.0 → HasOne (WalsummaryDoes from to) walsummary_status

-- with segments of so many MiB, to an output of a name, so many blocks of a fork in each file
abbrev pub HasOneFollow : Type 0
HasOneFollow =
    (mib relseg : ℕ) (name : List ℕ) → HasOne (FollowDoes mib relseg name) follow_status
