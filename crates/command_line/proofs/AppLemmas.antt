-- A command with one more argument, or one more subcommand.
use Rattle.std.proofs.Common.{◌≡◌, ◌∙◌, ◌||◌, false, ap, ap₂}
use Rattle.clap.specs.Walk.{Rule, rule_of}
use Rattle.clap.specs.Simple.{App, with_rule, with_subcommand}
use Rattle.clap.specs.Built.{AddsArg, AddsSubcommand}
use Rattle.clap.specs.declared.builder.arg.Arg.{Arg}
use Rattle.clap.specs.declared.builder.command.Command.{Command}
use Rattle.command_line.specs.App.{IsApp}

pub with_arg : (old : Command) (a : Arg) (new : Command) (x : App) (rule : Rule) → IsApp x old → rule_of a ≡ rule → a.global ≡ false → AddsArg old a new → IsApp (with_rule x rule) new
with_arg old a new x rule is same local adds = (adds.shape local ∙ ap₂ with_rule is.0 same, adds.globals ∙ ap₂ (λ p q. p || q) is.1 local)

pub with_sub : (old sub new : Command) (x y : App) → IsApp x old → IsApp y sub → AddsSubcommand old sub new → IsApp (with_subcommand x y.top) new
with_sub old sub new x y is is_sub adds = (adds.shape is_sub.1 ∙ ap₂ with_subcommand is.0 (ap (λ (z : App). z.top) is_sub.0), adds.globals ∙ ap₂ (λ p q. p || q) is.1 is_sub.1)
