-- The command's own clause, whatever is printed.
use Rattle.std.proofs.Common.{inl}
use Rattle.std.specs.Option.{option_map}
use Rattle.command_line.specs.Words.{asks}
use Rattle.pgbackup_cli.proofs.Sinks.{whatever_is_printed}
use Rattle.pgbackup_cli.proofs.top.carried_out.Goals as goal

pub returns-clause-comes : goal.returns-clause-comes
returns-clause-comes g c = record {
  telling = c.tell-telling.result;
  work = inl (whatever_is_printed (option_map asks c.args.command.now) _ _ _ _ _ _ c.work-answer.result c.work-answer.ensures.does);
  line = c.tell-telling.ensures.told;
  ended = c.exit_status-status.ensures;
}
