-- What the command is that was read, the words ask.
use Rattle.std.proofs.Common.{◌≡◌, ◌⊎◌, inr, subst, refl, Option}
use Rattle.command_line.specs.Words.{Asked}
use Rattle.command_base.specs.Outside.{Outside}
use Rattle.command_base.specs.declared.status.Status.{Status}
use Rattle.pgbackup_cli.specs.declared.command_answers.answer.Answer.{Answer}
use Rattle.pgbackup_cli.specs.Top.{ComesTo, ReadsInput, ReadsClock}
use Rattle.pgbackup_cli.proofs.top.answered.Goals as goal

same_comes : (asks words : Option Asked) (old new : Outside) (came : Answer) (ended : Status) → asks ≡ words → ComesTo asks old new came ended → ComesTo words old new came ended
same_comes asks words old new came ended e comes = subst (λ (a : Option Asked). ComesTo a old new came ended) e comes

pub returns-in-Ok-clause-comes : goal.returns-in-Ok-clause-comes
returns-in-Ok-clause-comes g c = same_comes _ _ _ _ _ _ c.in-Ok.ensures.asked c.carried_out.ensures.comes

pub returns-in-Ok-clause-input : goal.returns-in-Ok-clause-input
returns-in-Ok-clause-input g c =
    subst (λ (a : Option Asked). ReadsInput a ⊎ (c.carried_out.new.input ≡ c.args.input.now)) c.in-Ok.ensures.asked c.carried_out.ensures.input

pub returns-in-Ok-clause-clock : goal.returns-in-Ok-clause-clock
returns-in-Ok-clause-clock g c =
    subst (λ (a : Option Asked). ReadsClock a ⊎ (c.carried_out.new.clock ≡ c.args.clock.now)) c.in-Ok.ensures.asked c.carried_out.ensures.clock

pub returns-in-Err-clause-comes : goal.returns-in-Err-clause-comes
returns-in-Err-clause-comes g c = record {
  telling = c.tell-telling.result;
  work = inr (refl, (refl, refl));
  line = c.tell-telling.ensures.told;
  ended = c.exit_status-status.ensures;
}
