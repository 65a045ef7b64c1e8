-- Where a gap lies that a line of a run was refused for.
use Rattle.std.proofs.Common.{◌≡◌, ℕ, ◌<◌, List, length, map, take, sym, ap, subst, ◌∙◌, arith}
use Rattle.std.proofs.lemmas.List.{length-map}
use Rattle.history.specs.Entry.{Entry}
use Rattle.history.specs.Whole.{entry_of}
use Rattle.summary_store.specs.Honest.{is_redo_start}
use Rattle.shared_summaries.specs.summary_publish.Entries.{first_start}
use Rattle.shared_summaries.specs.Grown.{IsOldGap}
use Rattle.store_faults.specs.declared.incr_fault.IncrFault.TheVariants.{Gap}
use Rattle.run_answers.specs.declared.answer.Answer.TheVariants.{IncrRefused}
use Rattle.crew.specs.Run.{Basis}
use Rattle.run_command.specs.Run.{AreTold, run_basis}
use Rattle.backup_laws.specs.Gaps.{GapsOfRunsAreOld}
use Rattle.backup_laws.proofs.Gaps.{IsGapFound, gap_found, first_found, first_of_front, any_of_front}
use Rattle.backup_laws.proofs.Moments.{moment_of}

pub runs_gaps_old : GapsOfRunsAreOld
runs_gaps_old when old new report run place kept told refused before =
    let b : Basis = run_basis run.settings when run.limit run.found old in
    let w : ℕ = refused.worker in
    let h : List Entry = run.history in
    let found : List Entry = map entry_of run.found in
    let is = run.happened.answered w refused.by refused.there in
    let m = moment_of (AreTold old) b w h (length found) (length found) refused.by.task.lines refused.by.answers _ is.to (run.held w) (run.kept w) is.answered (omega arith) refused.number refused.line refused.behind (IncrRefused (Gap place)) refused.later refused.lines refused.answers in
    let a = m.answered in
    let leaves = a.7.1 in
    let now : List Entry = take m.next h in
    let some : 0 < length found = omega (arith, run.some, length-map run.found entry_of) in
    let whole : first_start found ≡ first_start h = first_found found run.happened.own some ∙ ap first_start (sym run.happened.grown) in
    let front : first_start now ≡ first_start h = first_of_front m.next h (omega (arith, some, m.late, m.up)) in
    let gap : IsGapFound b.limit now kept leaves.manifest.start leaves.start place.0 = gap_found (AreTold old) found b.sums when b.limit w m.from now leaves.start leaves.manifest.start place before.files kept told some (whole ∙ sym front) before.told before.held leaves.summed in
    record {
      name = a.0;
      prior = a.1;
      takes = a.2;
      areas = m.before;
      manifest = leaves.manifest;
      start = leaves.start;
      taken = leaves.prior;
      redo = any_of_front (is_redo_start leaves.start) m.next h gap.marked;
      gap = subst (λ (n : ℕ). IsOldGap n b.limit kept leaves.manifest.start leaves.start place.0) front gap.gap;
    }
