use Rattle.std.proofs.Common.{sym}
use Rattle.summary_file.specs.File.{summary_bytes}
use Rattle.summary_file.proofs.Decoding.{written_is_file, one_answer, file_once}
use Rattle.summary_file.proofs.laws.summaries_are_read_again.Goals as goal

pub returns-clause-written : goal.returns-clause-written
returns-clause-written c = λ s r writable room answer. one_answer s (summary_bytes s) r (written_is_file s writable room) answer

pub returns-clause-read : goal.returns-clause-read
returns-clause-read c = λ bytes s file. (file.writable, sym file.spelled, λ t other. file_once bytes t s other file)
