-- The area that comes back was only read.
use Rattle.std.proofs.Common.{arith, IfOk, IfSome}
use Rattle.lsn_core.specs.Causes.{HasCause}
use Rattle.vault.specs.Site.{IsStill}
use Rattle.vault.proofs.LentAreas.{taken_one, lent_named, site_cause, only_reads}
use Rattle.chain_view.specs.Asked.{asks}
use Rattle.chain_view.specs.Answers.{IsAnswer}
use Rattle.chain_view.proofs.answer.answer_in.Goals as goal

pub give-requires : goal.give-requires
give-requires g c =
    let took = c.in_ok-area.ensures in
    let out = (taken_one g.S.Site g.S.Area.Vault c.args.site.now c.take.new.self c.args.asked.now.folder.now c.in_ok-area.area took.taken took.away took.cause.later).out.0 in
    record { taken = out.out; later = omega (arith, out.later, c.answer_of-answer.ensures.cause.later) }

pub returns : goal.returns
returns g c =
    let took = c.in_ok-area.ensures in
    let read = c.answer_of-answer.ensures in
    let folder = c.args.asked.now.folder.now in
    let done = lent_named g.S.Site g.S.Area.Vault (λ p q. IsStill p q × IfOk c.answer_of-answer.result (λ text. IfSome p.files (λ m. IsAnswer (asks c.args.asked.now) m text)) × HasCause p.faults q.faults c.answer_of-answer.result) c.args.site.now c.take.new.self c.give.new.self folder c.in_ok-area.area c.answer_of-answer.new.area c.requires took.taken took.away took.cause.later read.cause.later c.give.ensures.areas c.give.ensures.take_faults (record { files = read.reads.files; past = read.reads.past }, read.answer, read.cause) in
    let site = only_reads folder (g.S.Site.areas c.args.site.now) (g.S.Site.areas c.give.new.self) done.0 done.1.0 in
    record {
      answer = done.1.1;
      site = site;
      home = site.home;
      cause = site_cause g.S.Site c.args.site.now c.take.new.self c.give.new.self folder c.answer_of-answer.result took.cause.later c.give.ensures.take_faults done.1.2;
    }
