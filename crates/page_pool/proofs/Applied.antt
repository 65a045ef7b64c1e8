-- What a partition holds after a command was applied.
use Rattle.std.proofs.Common.{◌≡◌, ℕ, ◌<◌, ◌^◌, List, refl, sym, subst}
use Rattle.std.specs.Global.{Vec}
use Rattle.vault.specs.declared.area.Vault.{Ghosts}
use Rattle.history.specs.Op.{act_of_op}
use Rattle.history.specs.declared.op.Op.{Op}
use Rattle.page_frames.specs.Marks.{DirtyMarks}
use Rattle.page_frames.specs.Framed.{Framed}
use Rattle.page_frames.specs.Overlay.{pages_over, marks_over}
use Rattle.page_pool.specs.declared.ready.Ready.{Ready}
use Rattle.page_pool.specs.declared.work.Pending.{Pending}
use Rattle.page_pool.specs.declared.partition.Partition.TheInside.{Inside}
use Rattle.page_pool.specs.Part.{LacksUnwritten}
use Rattle.page_pool.specs.Told.{told_page}
use Rattle.page_pool.specs.Calls.{AreWholePages}
use Rattle.page_pool.specs.Partition.{pages_in, part_in, IsPartition}
use Rattle.page_pool.specs.Steps.{marks_after}
use Rattle.page_pool.specs.Ready.{IsReady, done_at}
use Rattle.page_pool.specs.Inside.{marks_done, works_done}
use Rattle.page_pool.proofs.Behind.{acts_entered}
use Rattle.page_pool.proofs.Doing.{ready_is_applied}
use Rattle.page_pool.proofs.Lifted.{whole_done}

pub applied_holds : {V : Type 0} {Q : ℕ} (g : Ghosts V) (p : Inside V Q) → IsPartition g p → (frames : Framed) (works : Vec Pending) (end : ℕ) (command : Op) (ready : Ready) → IsReady (part_in g p) command ready → end < 2 ^ 64
    → pages_over (told_page p.disk.relseg (g.files p.disk.area)) frames ≡ done_at end ready.done (pages_in g p)
    → marks_over frames ≡ marks_done end (pages_in g p) (marks_over p.frames) ready.done
    → works.items ≡ works_done end (pages_in g p) p.works.items ready.done
    → IsPartition {V = V} {Q = Q} g (record { disk = p.disk; frames = frames; works = works; point = p.point; flushed = p.flushed })
applied_holds {V = V} {Q = Q} g p inv frames works end command ready is fits pages marks entered = record {
  some = inv.some;
  holds = λ told.
      let h = inv.holds told in
      let new : Inside V Q = record { disk = p.disk; frames = frames; works = works; point = p.point; flushed = p.flushed } in
      let a = ready_is_applied end (part_in g p) (part_in g new) command ready is fits pages marks entered refl refl in
      let lacks = acts_entered h.raw (pages_in g p) (pages_in g new) (marks_over p.frames) p.works.items end (act_of_op command) is.tidy a.frames h.lacks in
      record {
        raw = h.raw;
        held = h.held;
        lacks = subst (λ (ms : DirtyMarks). LacksUnwritten h.raw (pages_in g new) ms works.items) (sym a.marks)
            (subst (λ (ws : List Pending). LacksUnwritten h.raw (pages_in g new) (marks_after end (pages_in g p) (marks_over p.frames) (act_of_op command)) ws) (sym a.works) lacks);
        whole = subst AreWholePages (sym pages) (whole_done end ready.done (pages_in g p) is.good h.whole);
      };
}
