-- Summaries that a worker publishes.
use Rattle.std.proofs.Common.{ℕ, [], refl, inr}
use Rattle.lsn_core.specs.declared.fault.StoreFault.{StoreFault}
use Rattle.store_locks.specs.Seen.{Seen, TakesFault}
use Rattle.shared_summaries.specs.Shelf.{HasPublished}
use Rattle.shared_summaries.specs.summary_publish.Published.{LooksOn}
use Rattle.scripts.specs.declared.script.Command.TheVariants as command
use Rattle.run_answers.specs.declared.answer.Answer.TheVariants.{Published, CallFailed}
use Rattle.crew.specs.Run.{Basis}
use Rattle.crew.specs.Running.{WentOn, RunsAlone}
use Rattle.crew.proofs.Marks.{told_fault}
use Rattle.crew.proofs.Shares.{fault_rose}
use Rattle.crew.proofs.Steps.{none_marked, went_still}

looked : (old new : Seen) → LooksOn old new → WentOn 0 old new []
looked old new l = went_still old new (record { seen = l.seen; worker = l.worker }) l.accepted (none_marked old.marks new.marks l.marks) l.shares

pub published : (tells : Type 0) (b : Basis) (old new : Seen) (count : ℕ) → HasPublished tells b.found b.sums new.list b.when b.limit count → LooksOn old new → RunsAlone tells b command.Summarise old new (Published count)
published tells b old new count p l = λ held. record {
  made = [];
  went = looked old new l;
  answered = (refl, refl, p, refl);
  risen = λ area t. absurd cc;
  run = refl;
}

pub failed : (tells : Type 0) (b : Basis) (old new : Seen) (why : StoreFault) → LooksOn old new → TakesFault old new why → RunsAlone tells b command.Summarise old new (CallFailed why)
failed tells b old new why l takes = λ held. record {
  made = [];
  went = looked old new l;
  answered = (refl, inr refl, refl);
  risen = λ area t. fault_rose old new why area takes (told_fault why area t);
  run = refl;
}
