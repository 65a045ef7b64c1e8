-- The command of `clap` that reads the words (profile): a subcommand for each command. An option is
-- a long one with one value, and every other word has its place.
use Rattle.std.specs.Prelude.{◌≡◌, Bool, true, false, List, [], ◌∷◌, Some, codes}
use Rattle.std.specs.List.{fold}
use Rattle.clap.specs.Lexer.{usize_max}
use Rattle.clap.specs.Walk.{Rule, Text, is_empty}
use Rattle.clap.specs.Simple.{App, app_of, new_app, new_rule, on_top, with_rule, with_subcommand}
use Rattle.clap.specs.Faults.{fault_of}
use Rattle.clap.specs.declared.builder.command.Command.{Command}
use Rattle.clap.specs.declared.builder.command.Command.TheViews.{out-Command}

-- `--name value`, at most once
abbrev pub option_rule : Text → Rule
option_rule name = record (new_rule name) { long = Some name }

-- a word that has to be there
abbrev pub word_rule : Text → Rule
word_rule name = record (new_rule name) { required = true }

-- one word or more
abbrev pub words_rule : Text → Rule
words_rule name = record (new_rule name) {
  range = Some (record { start_inclusive = 1; end_inclusive = usize_max });
  required = true;
}

-- a subcommand of this name, with these options and words
abbrev pub command_with : Text → List Rule → App
command_with name rules = fold with_rule (new_app name) rules

abbrev pub init_app : App
init_app = command_with (codes "init") (option_rule (codes "segment-mib")
    ∷ (option_rule (codes "relseg") ∷ (option_rule (codes "system-id") ∷ [])))

abbrev pub run_app : App
run_app = command_with (codes "run")
    (option_rule (codes "frames") ∷ (option_rule (codes "keep-days") ∷ []))

abbrev pub replay_app : App
replay_app = command_with (codes "replay") (option_rule (codes "target")
    ∷ (word_rule (codes "OUT") ∷ []))

abbrev pub verify_app : App
verify_app = command_with (codes "verify") (word_rule (codes "NAME") ∷ [])

abbrev pub restore_app : App
restore_app = command_with (codes "restore") (option_rule (codes "target")
    ∷ (word_rule (codes "OUT") ∷ (words_rule (codes "MEMBER") ∷ [])))

abbrev pub combine_app : App
combine_app = command_with (codes "combine")
    (word_rule (codes "OUT") ∷ (words_rule (codes "MEMBER") ∷ []))

abbrev pub merge_app : App
merge_app = command_with (codes "merge-incr")
    (word_rule (codes "OUT") ∷ (words_rule (codes "MEMBER") ∷ []))

abbrev pub walsummary_app : App
walsummary_app = command_with (codes "walsummary")
    (word_rule (codes "FROM") ∷ (word_rule (codes "TO") ∷ []))

abbrev pub follow_app : App
follow_app = command_with (codes "follow") (option_rule (codes "segment-mib")
    ∷ (option_rule (codes "relseg") ∷ (word_rule (codes "OUT") ∷ [])))

abbrev pub drill_app : App
drill_app = command_with (codes "drill") (word_rule (codes "N") ∷ [])

abbrev pub restart_app : App
restart_app = new_app (codes "restart")

-- a subcommand has to be named, and no request for help is taken
abbrev pub top_app : App
top_app = on_top (λ s. record s {
  no_binary_name = true;
  disable_help_flag = true;
  disable_help_subcommand = true;
  subcommand_required = true;
}) (new_app (codes "pgbackup"))

-- the command, with its subcommands
abbrev pub app : App
app = fold (λ a sub. with_subcommand a sub) top_app (init_app.top ∷ (run_app.top
    ∷ (replay_app.top ∷ (verify_app.top ∷ (restore_app.top ∷ (combine_app.top
    ∷ (merge_app.top ∷ (walsummary_app.top ∷ (follow_app.top ∷ (drill_app.top
    ∷ (restart_app.top ∷ [])))))))))))

-- a command of `clap` is the one that is defined
abbrev pub IsApp : App → Command → Type 0
IsApp a c = (app_of c ≡ a) × ((out-Command c).has_globals ≡ false)

-- the command takes the words
abbrev pub is_taken : List Text → Bool
is_taken words = is_empty (fault_of app words)
