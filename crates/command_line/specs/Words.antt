-- What the words of the command line ask for (profile): they are taken exactly where each is text,
-- the command of `clap` takes them, and each value is one of its option's or of its word's.
use Rattle.std.specs.Prelude.{ℕ, ◌+◌, ◌*◌, ◌^◌, ◌<◌, ◌≤◌, List, [], length, Option, Some, None, codes, bytes_eq, nat_lt, ◌&&◌, if◌then◌else◌}
use Rattle.std.specs.List.{list_all}
use Rattle.std.specs.Option.{unwrap_or}
use Rattle.std.specs.Str.{is_utf8}
use Rattle.lsn_core.specs.byte_words.Numbers.{◌>>=◌}
use Rattle.lsn_core.specs.byte_words.Cuts.{cut_at}
use Rattle.lsn_core.specs.text_numbers.Numbers.{hex_number_of}
use Rattle.lsn_core.specs.declared.lsn.Lsn.{Lsn}
use Rattle.lsn_core.specs.Segment.{IsSegmentMib, IsRelseg}
use Rattle.clap.specs.Walk.{Row, Text, first_of, all_of}
use Rattle.clap.specs.Simple.{subcommand_of}
use Rattle.scripts.specs.Cuts.{is_name}
use Rattle.command_line.specs.App.{app, is_taken}
use Rattle.command_line.specs.declared.options.InitOptions.{InitOptions}
use Rattle.command_line.specs.declared.words.Command.{Command}
use Rattle.command_line.specs.declared.words.Command.TheVariants as command
use Rattle.command_line.specs.Members.{are_members, are_series}
use Rattle.command_line.specs.Options.{segment_value, relseg_value, decimal_number, frames_value, days_value, most_days, drill_number, given, IsFrameCount, IsInRange}

-- a new store, a script to be run with so many frames of each partition and summaries that are kept
-- for so many days, a replay to an output of that name, up to a target where one is given, the
-- check of the backup of a name, the chain of the backups of some names restored to an output of a
-- name, up to a target where one is given, such a chain combined to a backup of a name, a series of
-- incremental ones merged to one, the summary of a range of the WAL, the stream of a WAL with
-- segments of so many MiB followed to an output of a name, so many blocks of a fork in each file,
-- the drill of a number, or the store brought back after a stop
pub data Asked : Type 0 where
  Init : InitOptions → Asked
  Run : ℕ → ℕ → Asked
  Replay : Option Lsn → List ℕ → Asked
  Verify : List ℕ → Asked
  Restore : Option Lsn → List ℕ → List (List ℕ) → Asked
  Combine : List ℕ → List (List ℕ) → Asked
  Merge : List ℕ → List (List ℕ) → Asked
  Walsummary : Lsn → Lsn → Asked
  Follow : ℕ → ℕ → List ℕ → Asked
  Drill : ℕ → Asked
  Restart : Asked

-- the word of an argument that has to be there
abbrev pub word_of : Text → List Row → Text
word_of id rows = unwrap_or (first_of id rows) []

-- the words of an argument of one or more
abbrev pub words_of : Text → List Row → List Text
words_of id rows = unwrap_or (all_of id rows) []

-- an LSN: 1 to 8 hexadecimal digits on each side of a slash
abbrev pub lsn_of : ℕ → ℕ → Lsn
lsn_of high low = record { 0 = high * 4294967296 + low }

abbrev pub lsn_value : List ℕ → Option Lsn
lsn_value text = do
  parts ← cut_at 47 text
  high ← hex_number_of parts.0
  low ← hex_number_of parts.1
  Some (lsn_of high low)

-- what the values of a subcommand ask
abbrev pub init_asked : List Row → Option Asked
init_asked rows = do
  segment ← given segment_value (first_of (codes "segment-mib") rows)
  relseg ← given relseg_value (first_of (codes "relseg") rows)
  system ← given decimal_number (first_of (codes "system-id") rows)
  Some (Init (record { segment = segment; relseg = relseg; system = system }))

-- the frames of a partition where none are asked for
abbrev pub usual_frames : ℕ
usual_frames = 4096

-- the days for which summaries are kept where none are asked for
abbrev pub usual_days : ℕ
usual_days = 10

abbrev pub run_asked : List Row → Option Asked
run_asked rows = do
  frames ← given frames_value (first_of (codes "frames") rows)
  days ← given days_value (first_of (codes "keep-days") rows)
  Some (Run (unwrap_or frames usual_frames) (unwrap_or days usual_days))

abbrev pub replay_to : Option Lsn → List ℕ → Option Asked
replay_to target name = if is_name name then Some (Replay target name) else None

abbrev pub replay_asked : List Row → Option Asked
replay_asked rows = do
  target ← given lsn_value (first_of (codes "target") rows)
  replay_to target (word_of (codes "OUT") rows)

abbrev pub verify_name : List ℕ → Option Asked
verify_name name = if is_name name then Some (Verify name) else None

abbrev pub verify_asked : List Row → Option Asked
verify_asked rows = verify_name (word_of (codes "NAME") rows)

abbrev pub restore_to : Option Lsn → List ℕ → List (List ℕ) → Option Asked
restore_to target out members =
    if is_name out && are_members members then Some (Restore target out members) else None

abbrev pub restore_asked : List Row → Option Asked
restore_asked rows = do
  target ← given lsn_value (first_of (codes "target") rows)
  restore_to target (word_of (codes "OUT") rows) (words_of (codes "MEMBER") rows)

abbrev pub combine_to : List ℕ → List (List ℕ) → Option Asked
combine_to out members =
    if is_name out && are_members members then Some (Combine out members) else None

abbrev pub combine_asked : List Row → Option Asked
combine_asked rows = combine_to (word_of (codes "OUT") rows) (words_of (codes "MEMBER") rows)

-- a series has two members at least
abbrev pub merge_to : List ℕ → List (List ℕ) → Option Asked
merge_to out members =
    if is_name out && are_series members then Some (Merge out members) else None

abbrev pub merge_asked : List Row → Option Asked
merge_asked rows = merge_to (word_of (codes "OUT") rows) (words_of (codes "MEMBER") rows)

-- a range has a place at least
abbrev pub walsummary_of : Lsn → Lsn → Option Asked
walsummary_of from to = if nat_lt from.0 to.0 then Some (Walsummary from to) else None

abbrev pub walsummary_asked : List Row → Option Asked
walsummary_asked rows = do
  from ← lsn_value (word_of (codes "FROM") rows)
  to ← lsn_value (word_of (codes "TO") rows)
  walsummary_of from to

-- the sizes are those that are given, or 16 MiB and 131072 blocks
abbrev pub follow_to : Option ℕ → Option ℕ → List ℕ → Option Asked
follow_to segment relseg name =
    if is_name name
    then Some (Follow (unwrap_or segment 16) (unwrap_or relseg 131072) name)
    else None

abbrev pub follow_asked : List Row → Option Asked
follow_asked rows = do
  segment ← given segment_value (first_of (codes "segment-mib") rows)
  relseg ← given relseg_value (first_of (codes "relseg") rows)
  follow_to segment relseg (word_of (codes "OUT") rows)

abbrev pub drill_asked : List Row → Option Asked
drill_asked rows = do
  n ← drill_number (word_of (codes "N") rows)
  Some (Drill n)

-- what the subcommand of this name asks
abbrev pub asked_by : Text → List Row → Option Asked
asked_by name rows =
    if bytes_eq name (codes "init") then init_asked rows
    else (if bytes_eq name (codes "run") then run_asked rows
    else (if bytes_eq name (codes "replay") then replay_asked rows
    else (if bytes_eq name (codes "verify") then verify_asked rows
    else (if bytes_eq name (codes "restore") then restore_asked rows
    else (if bytes_eq name (codes "combine") then combine_asked rows
    else (if bytes_eq name (codes "merge-incr") then merge_asked rows
    else (if bytes_eq name (codes "walsummary") then walsummary_asked rows
    else (if bytes_eq name (codes "follow") then follow_asked rows
    else (if bytes_eq name (codes "drill") then drill_asked rows
    else (if bytes_eq name (codes "restart") then Some Restart else None))))))))))

-- what words that are text ask
abbrev pub texts_ask : List Text → Option Asked
texts_ask words =
    if is_taken words
    then (subcommand_of app words >>= λ found. asked_by found.0 found.1)
    else None

-- what the words ask, None where they aren't taken
abbrev pub asked : List (List ℕ) → Option Asked
asked words = if list_all is_utf8 words then texts_ask words else None

-- a command asks for this
abbrev pub asks : Command → Asked
asks (command.Init options) = Init options
asks (command.Run options) = Run options.frames options.days
asks (command.Replay upto name) = Replay upto name
asks (command.Verify name) = Verify name
asks (command.Restore upto out members) = Restore upto out members.items
asks (command.Combine out members) = Combine out members.items
asks (command.Merge out members) = Merge out members.items
asks (command.Walsummary from to) = Walsummary from to
asks (command.Follow sizes name) = Follow sizes.segment sizes.relseg name
asks (command.Drill n) = Drill n
asks command.Restart = Restart

-- the options of a command are in their ranges, a range has a place, a chain a member, and a series
-- two
abbrev pub HasRange : Command → Type 0
HasRange (command.Init options) = IsInRange options
HasRange (command.Run options) = IsFrameCount options.frames × (options.days ≤ most_days)
HasRange (command.Replay upto name) = Unit {0}
HasRange (command.Verify name) = Unit {0}
HasRange (command.Restore upto out members) = 1 ≤ length members.items
HasRange (command.Combine out members) = 1 ≤ length members.items
HasRange (command.Merge out members) = 2 ≤ length members.items
HasRange (command.Walsummary from to) = from.0 < to.0
HasRange (command.Follow sizes name) = IsSegmentMib sizes.segment × IsRelseg sizes.relseg
HasRange (command.Drill n) = n < 2 ^ 32
HasRange command.Restart = Unit {0}
