-- A call on the files of the fork's partition.
use Rattle.std.proofs.Common.{rules, sym}
use Rattle.std.specs.Prelude.{slice_index_or}
use Rattle.data_areas.proofs.Turned.{called, call_keeps, call_turns, cut_changes, on_success}
use Rattle.restart_areas.specs.Pages.{seen, faults_seen}
use Rattle.restart_areas.proofs.store_pages.StorePagesPages.cut.Goals as goal

pub returns-clause-cut : goal.returns-clause-cut
returns-clause-cut g c =
    let call = called g.V.Vault c.partition_of-q.result c.index-self-q.result c.cut-answer.new.self (seen c.args.self.now) (faults_seen c.note.new.self) c.err.result c.cut-answer.result (search rules) c.partition_of-q.ensures.below c.cut-answer.ensures.kept c.cut-answer.ensures.cause c.note.ensures c.err.ensures.value in
    on_success c.cut-answer.result _ _ (call_turns g.V.Vault c.partition_of-q.result (slice_index_or c.args.self.now.parts c.partition_of-q.result c.index-self-q.result) c.cut-answer.new.self (seen c.args.self.now) _ c.cut-answer.result call c.args.fork (sym c.partition_of-q.ensures.number) _ (cut_changes c.args.fork c.args.to)) c.cut-answer.ensures.cut

pub returns-clause-kept : goal.returns-clause-kept
returns-clause-kept g c =
    let call = called g.V.Vault c.partition_of-q.result c.index-self-q.result c.cut-answer.new.self (seen c.args.self.now) (faults_seen c.note.new.self) c.err.result c.cut-answer.result (search rules) c.partition_of-q.ensures.below c.cut-answer.ensures.kept c.cut-answer.ensures.cause c.note.ensures c.err.ensures.value in
    call_keeps g.V.Vault c.partition_of-q.result (slice_index_or c.args.self.now.parts c.partition_of-q.result c.index-self-q.result) c.cut-answer.new.self (seen c.args.self.now) _ c.cut-answer.result call
