-- A call on the files of the fork's partition.
use Rattle.std.proofs.Common.{rules, sym}
use Rattle.std.specs.Prelude.{slice_index_or}
use Rattle.data_areas.proofs.Turned.{called, call_keeps, call_turns, making_changes, on_success}
use Rattle.restart_areas.specs.Pages.{seen, faults_seen}
use Rattle.restart_areas.proofs.store_pages.StorePagesPages.make.Goals as goal

pub returns-clause-made : goal.returns-clause-made
returns-clause-made g c =
    let call = called g.V.Vault c.partition_of-q.result c.index-self-q.result c.make-answer.new.self (seen c.args.self.now) (faults_seen c.note.new.self) c.err.result c.make-answer.result (search rules) c.partition_of-q.ensures.below c.make-answer.ensures.kept c.make-answer.ensures.cause c.note.ensures c.err.ensures.value in
    on_success c.make-answer.result _ _ (call_turns g.V.Vault c.partition_of-q.result (slice_index_or c.args.self.now.parts c.partition_of-q.result c.index-self-q.result) c.make-answer.new.self (seen c.args.self.now) _ c.make-answer.result call c.args.fork (sym c.partition_of-q.ensures.number) _ (making_changes c.args.fork)) c.make-answer.ensures.made

pub returns-clause-kept : goal.returns-clause-kept
returns-clause-kept g c =
    let call = called g.V.Vault c.partition_of-q.result c.index-self-q.result c.make-answer.new.self (seen c.args.self.now) (faults_seen c.note.new.self) c.err.result c.make-answer.result (search rules) c.partition_of-q.ensures.below c.make-answer.ensures.kept c.make-answer.ensures.cause c.note.ensures c.err.ensures.value in
    call_keeps g.V.Vault c.partition_of-q.result (slice_index_or c.args.self.now.parts c.partition_of-q.result c.index-self-q.result) c.make-answer.new.self (seen c.args.self.now) _ c.make-answer.result call
