use Rattle.incr_file.proofs.Heads.{head_again, head_text}
use Rattle.incr_file.proofs.Files.{part_again}
use Rattle.incr_file.proofs.Answers.{one_answer}
use Rattle.incr_file.proofs.laws.heads_are_read_as_written.Goals as goal

pub returns-clause-written : goal.returns-clause-written
returns-clause-written c = head_again

pub returns-clause-files : goal.returns-clause-files
returns-clause-files c = part_again

pub returns-clause-text : goal.returns-clause-text
returns-clause-text c = head_text

pub returns-clause-one : goal.returns-clause-one
returns-clause-one c = one_answer
