-- The members, and what they are joined to.
use Rattle.std.proofs.Common.{Err, sym, subst}
use Rattle.chain_files.proofs.Told.{reads_trans}
use Rattle.command_line.specs.Members.{names_in}
use Rattle.chain_commands.specs.declared.combining.CombineFault.{CombineFault}
use Rattle.chain_commands.specs.Inner.{AnswersJoin}
use Rattle.chain_commands.proofs.CombinedOut.{joined, unjoined_by}
use Rattle.chain_commands.proofs.combining.combine_areas.Goals as goal

pub returns-in-Ok-clause-answer : goal.returns-in-Ok-clause-answer
returns-in-Ok-clause-answer g c =
    joined g.V.Vault c.args.joining c.args.when (names_in c.args.names.now) c.args.places.now c.args.areas.now c.args.out.now c.join_into.new.areas c.join_into.new.out c.in_ok-newest.newest
    (record {
      each = c.requires.each;
      some = c.requires.some;
      own = c.requires.own;
      found = c.in_ok-newest.ensures.answer;
      areas_read = c.newest_at.new.areas;
      before = c.in_ok-newest.ensures.reads;
      after = c.join_into.ensures.reads;
    })
    c.report_of.result c.in-Ok.rows c.report_of.ensures c.in-Ok.ensures.joined c.in-Ok.ensures.empty c.in-Ok.ensures.counted c.in-Ok.ensures.listable c.in-Ok.ensures.synced

pub returns-in-Ok-clause-areas : goal.returns-in-Ok-clause-areas
returns-in-Ok-clause-areas g c = reads_trans g.V.Vault c.args.areas.now c.newest_at.new.areas c.join_into.new.areas c.in_ok-newest.ensures.reads c.join_into.ensures.reads

pub returns-clause-answer : goal.returns-clause-answer
returns-clause-answer g c =
    subst (λ (f : CombineFault). AnswersJoin g.V.Vault c.args.joining c.args.when (names_in c.args.names.now) c.args.places.now c.args.areas.now c.args.out.now c.join_into.new.areas c.join_into.new.out (Err f)) (sym c.combine_fault.ensures)
    (unjoined_by g.V.Vault c.args.joining c.args.when (names_in c.args.names.now) c.args.places.now c.args.areas.now c.args.out.now c.join_into.new.areas c.join_into.new.out c.in_ok-newest.newest
    (record {
      each = c.requires.each;
      some = c.requires.some;
      own = c.requires.own;
      found = c.in_ok-newest.ensures.answer;
      areas_read = c.newest_at.new.areas;
      before = c.in_ok-newest.ensures.reads;
      after = c.join_into.ensures.reads;
    })
    c.in-Err.why c.in-Err.ensures.cause c.in-Err.ensures.kept c.in-Err.ensures.full c.in-Err.ensures.manifest)

pub returns-clause-areas : goal.returns-clause-areas
returns-clause-areas g c = reads_trans g.V.Vault c.args.areas.now c.newest_at.new.areas c.join_into.new.areas c.in_ok-newest.ensures.reads c.join_into.ensures.reads
