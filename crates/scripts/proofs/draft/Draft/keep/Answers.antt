use Rattle.std.proofs.Common.{◌≡◌, ◌∙◌, List, length, Some, ap, subst, sym}
use Rattle.std.proofs.lemmas.List.{with_items_is}
use Rattle.std.specs.Vec.{with_items}
use Rattle.scripts.specs.declared.meaning.Said.{Said}
use Rattle.scripts.specs.declared.script.Line.{Line}
use Rattle.scripts.specs.declared.script.Task.{Task}
use Rattle.scripts.specs.Draft.{closed, with_line, with_says}
use Rattle.scripts.specs.Inside.{said, AreTaken}
use Rattle.scripts.proofs.Closed.{knows_line}
use Rattle.scripts.proofs.Drafts.{line_length}
use Rattle.scripts.proofs.draft.Draft.keep.Goals as goal

pub returns-in_ok-add-in-Does : goal.returns-in_ok-add-in-Does
returns-in_ok-add-in-Does c =
    let tasks : List Task = c.args.self.now.tasks.items in
    let line : Line = record { number = c.args.number; command = c.in-Does.command } in
    let more : c.add.new.tasks ≡ with_line tasks line = c.in_ok-add-in-Does.ensures ∙ ap (λ (ts : List Task). with_line ts line) c.deref_mut.ensures.value in
    let size : length c.add.new.tasks ≡ c.args.self.now.tasks.len = ap length more ∙ line_length tasks line ∙ sym c.args.self.now.tasks.ok.0 in
    let whole : (with_items c.args.self.now.tasks c.add.new.tasks).items ≡ with_line tasks line = with_items_is c.args.self.now.tasks c.add.new.tasks size ∙ more in
    record {
      tasks = subst (λ (what : Said). (with_items c.args.self.now.tasks c.add.new.tasks).items ≡ with_says tasks c.args.number (Some (said what))) (sym c.in-Does.is) whole;
      knows = subst (λ (ts : List Task). AreTaken c.args.self.now.taken (closed ts)) (sym whole) (knows_line tasks line c.args.self.now.taken c.requires);
    }
