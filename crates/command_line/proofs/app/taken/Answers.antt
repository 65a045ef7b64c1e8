use Rattle.std.proofs.Common.{rules, ◌≡◌, ◌∙◌, ap, sym, map, ℕ, List, Bor}
use Rattle.clap.specs.Walk.{Text, is_empty}
use Rattle.clap.specs.Values.{kind_of}
use Rattle.clap.specs.Simple.{App, app_of, is_simple, subcommand_of}
use Rattle.clap.specs.Faults.{fault_of, is_simple_and_free}
use Rattle.clap.specs.declared.error.kind.ErrorKind.TheVariants.{OutOfMemory}
use Rattle.command_line.specs.App.{app}
use Rattle.command_line.proofs.Simply.{app_is_simple, app_is_free, one_among}
use Rattle.command_line.proofs.app.taken.Goals as goal

abbrev texts_in : List (Bor (List ℕ)) → List Text
texts_in = map (λ w. w.now)

pub returns-in-Ok-clause-some : goal.returns-in-Ok-clause-some
returns-in-Ok-clause-some c =
    let is : app_of c.in_ok-command.command ≡ app = c.in_ok-command.ensures.0 in
    let words : List Text = texts_in c.args.words.now in
    (ap is_empty (sym (ap (λ (a : App). fault_of a words) is) ∙ c.in-Ok.ensures.kinds (ap is_simple_and_free is ∙ app_is_free)), (c.in-Ok.ensures.matches (ap is_simple is ∙ app_is_simple)).1 ∙ ap (λ (a : App). subcommand_of a words) is)

pub returns-else-eq-clause-none : goal.returns-else-eq-clause-none
returns-else-eq-clause-none c =
    let is : app_of c.in_ok-command.command ≡ app = c.in_ok-command.ensures.0 in
    let words : List Text = texts_in c.args.words.now in
    let other : kind_of c.in-Err.error ≡ OutOfMemory → ⊥ = search rules in
    sym (ap (λ (a : App). is_empty (fault_of a words)) is) ∙ one_among (fault_of (app_of c.in_ok-command.command) words) (kind_of c.in-Err.error) OutOfMemory other (c.in-Err.ensures.kinds (ap is_simple_and_free is ∙ app_is_free))
