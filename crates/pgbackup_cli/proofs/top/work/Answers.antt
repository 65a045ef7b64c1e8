-- What a command asks, its words ask.
use Rattle.std.proofs.Common.{◌≡◌, ◌⊎◌, sym, subst, Option}
use Rattle.std.specs.Option.{option_map}
use Rattle.command_line.specs.declared.words.Command.{Command}
use Rattle.command_line.specs.Words.{asks}
use Rattle.pgbackup_cli.specs.Top.{ReadsInput, ReadsClock}
use Rattle.pgbackup_cli.proofs.top.work.Goals as goal

pub returns-in-Some-clause-input : goal.returns-in-Some-clause-input
returns-in-Some-clause-input g c =
    subst (λ (o : Option Command). ReadsInput (option_map asks o) ⊎ (c.done.new.input ≡ c.args.input.now)) (sym c.in-Some.is) c.done.ensures.input

pub returns-in-Some-clause-clock : goal.returns-in-Some-clause-clock
returns-in-Some-clause-clock g c =
    subst (λ (o : Option Command). ReadsClock (option_map asks o) ⊎ (c.done.new.clock ≡ c.args.clock.now)) (sym c.in-Some.is) c.done.ensures.clock
