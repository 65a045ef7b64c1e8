-- What was known before anything was written, what was restored, and how that ends.
use Rattle.chain_files.proofs.Told.{reads_trans}
use Rattle.command_line.specs.Members.{names_in}
use Rattle.chain_commands.proofs.RestoredOut.{answered}
use Rattle.chain_commands.proofs.restoring.restore_areas.Goals as goal

pub returns-clause-answer : goal.returns-clause-answer
returns-clause-answer g c =
    answered g.V.Vault c.args.upto (names_in c.args.names.now) c.args.places.now c.args.wal.now c.args.areas.now c.args.out c.restore-out.new.wal c.restore-out.new.areas c.finish-answer.new.out c.restore-out.result.1 c.finish-answer.result (record {
      member = c.in-Ok.prepared.0;
      settings = c.in-Ok.prepared.1;
      wal_read = c.prepare.new.wal;
      areas_read = c.prepare.new.areas;
      out_seen = c.prepare.new.out;
      made = c.restore-out.result.0;
      own = c.requires.own;
      found = c.in-Ok.ensures.answer.0;
      ready = c.in-Ok.ensures.answer.1;
      wal_same = c.in-Ok.ensures.wal;
      areas_same = c.in-Ok.ensures.areas;
      out_same = c.in-Ok.ensures.out;
      out_later = c.in-Ok.ensures.out_later;
      restores = c.restore-out.ensures.answer;
      areas_after = c.restore-out.ensures.areas;
      kept = c.restore-out.ensures.kept;
      ends = c.finish-answer.ensures.answer;
      later = c.finish-answer.ensures.later;
    })

pub returns-clause-areas : goal.returns-clause-areas
returns-clause-areas g c =
    reads_trans g.V.Vault c.args.areas.now c.prepare.new.areas c.restore-out.new.areas c.in-Ok.ensures.areas c.restore-out.ensures.areas
