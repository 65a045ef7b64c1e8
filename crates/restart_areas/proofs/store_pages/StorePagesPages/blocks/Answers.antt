-- A call on the files of the fork's partition.
use Rattle.std.proofs.Common.{rules, sym}
use Rattle.std.specs.Prelude.{slice_index_or}
use Rattle.data_areas.proofs.Turned.{called, call_keeps, call_turns, reading_changes, on_answer, call_counts}
use Rattle.restart_areas.specs.Pages.{seen, faults_seen}
use Rattle.restart_areas.proofs.store_pages.StorePagesPages.blocks.Goals as goal

pub returns-clause-blocks : goal.returns-clause-blocks
returns-clause-blocks g c =
    let call = called g.V.Vault c.partition_of-q.result c.index-self-q.result c.blocks-answer.new.self (seen c.args.self.now) (faults_seen c.note.new.self) c.err.result c.blocks-answer.result (search rules) c.partition_of-q.ensures.below c.blocks-answer.ensures.kept c.blocks-answer.ensures.cause c.note.ensures c.err.ensures.value in
    on_answer c.blocks-answer.result _ _ (call_counts g.V.Vault c.partition_of-q.result (slice_index_or c.args.self.now.parts c.partition_of-q.result c.index-self-q.result) c.blocks-answer.new.self (seen c.args.self.now) _ c.blocks-answer.result call c.args.fork (sym c.partition_of-q.ensures.number)) c.blocks-answer.ensures.blocks

pub returns-clause-same : goal.returns-clause-same
returns-clause-same g c =
    let call = called g.V.Vault c.partition_of-q.result c.index-self-q.result c.blocks-answer.new.self (seen c.args.self.now) (faults_seen c.note.new.self) c.err.result c.blocks-answer.result (search rules) c.partition_of-q.ensures.below c.blocks-answer.ensures.kept c.blocks-answer.ensures.cause c.note.ensures c.err.ensures.value in
    call_turns g.V.Vault c.partition_of-q.result (slice_index_or c.args.self.now.parts c.partition_of-q.result c.index-self-q.result) c.blocks-answer.new.self (seen c.args.self.now) _ c.blocks-answer.result call c.args.fork (sym c.partition_of-q.ensures.number) _ (reading_changes c.args.fork) c.blocks-answer.ensures.same

pub returns-clause-kept : goal.returns-clause-kept
returns-clause-kept g c =
    let call = called g.V.Vault c.partition_of-q.result c.index-self-q.result c.blocks-answer.new.self (seen c.args.self.now) (faults_seen c.note.new.self) c.err.result c.blocks-answer.result (search rules) c.partition_of-q.ensures.below c.blocks-answer.ensures.kept c.blocks-answer.ensures.cause c.note.ensures c.err.ensures.value in
    call_keeps g.V.Vault c.partition_of-q.result (slice_index_or c.args.self.now.parts c.partition_of-q.result c.index-self-q.result) c.blocks-answer.new.self (seen c.args.self.now) _ c.blocks-answer.result call
