-- A call on the files of the fork's partition.
use Rattle.std.proofs.Common.{rules, sym}
use Rattle.std.specs.Prelude.{slice_index_or}
use Rattle.data_areas.proofs.Turned.{called, call_keeps, call_turns, put_changes, on_success}
use Rattle.restart_areas.specs.Pages.{seen, faults_seen}
use Rattle.restart_areas.proofs.store_pages.StorePagesPages.write_block.Goals as goal

pub returns-clause-written : goal.returns-clause-written
returns-clause-written g c =
    let call = called g.V.Vault c.partition_of-q.result c.index-self-q.result c.write_block-answer.new.self (seen c.args.self.now) (faults_seen c.note.new.self) c.err.result c.write_block-answer.result (search rules) c.partition_of-q.ensures.below c.write_block-answer.ensures.kept c.write_block-answer.ensures.cause c.note.ensures c.err.ensures.value in
    on_success c.write_block-answer.result _ _ (call_turns g.V.Vault c.partition_of-q.result (slice_index_or c.args.self.now.parts c.partition_of-q.result c.index-self-q.result) c.write_block-answer.new.self (seen c.args.self.now) _ c.write_block-answer.result call c.args.at.fork (sym c.partition_of-q.ensures.number) _ (put_changes c.args.at c.args.from.now)) c.write_block-answer.ensures.written

pub returns-clause-kept : goal.returns-clause-kept
returns-clause-kept g c =
    let call = called g.V.Vault c.partition_of-q.result c.index-self-q.result c.write_block-answer.new.self (seen c.args.self.now) (faults_seen c.note.new.self) c.err.result c.write_block-answer.result (search rules) c.partition_of-q.ensures.below c.write_block-answer.ensures.kept c.write_block-answer.ensures.cause c.note.ensures c.err.ensures.value in
    call_keeps g.V.Vault c.partition_of-q.result (slice_index_or c.args.self.now.parts c.partition_of-q.result c.index-self-q.result) c.write_block-answer.new.self (seen c.args.self.now) _ c.write_block-answer.result call
