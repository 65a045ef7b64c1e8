-- Lines as far as they were run.
use Rattle.std.proofs.Common.{◌≡◌, ℕ, Bool, true, false, List, [], ◌∷◌, ◌++◌, length, refl, sym, subst, ◌∙◌}
use Rattle.std.specs.List.{sum_by}
use Rattle.std.proofs.lemmas.List.Sums.{sum_by_push}
use Rattle.std.proofs.lemmas.List.Elements.{All-nil, All-push}
use Rattle.lsn_core.specs.declared.fault.StoreArea.{StoreArea}
use Rattle.vault.specs.Site.{Areas}
use Rattle.history.specs.Entry.{Entry}
use Rattle.store_locks.specs.Seen.{Seen, SharesStay, ShareRose}
use Rattle.scripts.specs.declared.script.Command.{Command}
use Rattle.scripts.specs.declared.script.Line.{Line}
use Rattle.run_answers.specs.declared.answer.Answer.{Answer}
use Rattle.run_answers.specs.declared.answer.Answer.TheVariants.{NotRun}
use Rattle.crew.specs.Run.{Basis, LineAnswer, Answered, RunsLines, InOrder, TellsFault, SharesRose, marks_allowed}
use Rattle.run_answers.specs.Stopping.{stops_with}
use Rattle.crew.specs.Running.{WentOn, LineRuns}
use Rattle.crew.proofs.Moments.{answered_more, order_more, stopped_by, stopped_more}
use Rattle.crew.proofs.Shares.{rose_on, rose_from}
use Rattle.crew.proofs.Steps.{went_nowhere, went_further}

-- a line that isn't run
pub not_run : (tells : Type 0) (b : Basis) (line : Command) (seen : Seen) (held : Areas) → LineRuns tells b line true seen seen held held NotRun
not_run tells b line seen held = record { made = []; went = went_nowhere seen; answered = (refl, refl); risen = λ area t. absurd cc; run = refl }

pub record IsRunning (tells : Type 0) (b : Basis) (old now : Seen) (held kept : Areas) (lines : List Line) (answers : List Answer) (stopped : Bool) : Type 0 where
  pub made : List Entry
  pub went : WentOn (sum_by marks_allowed answers) old now made
  pub answered : Answered tells b old.worker now.list (length old.list) lines answers made (length now.list) held kept
  pub order : InOrder false answers
  pub stopped_is : stopped ≡ stopped_by false answers
  pub risen : SharesRose answers old now

pub runs_none : (tells : Type 0) (b : Basis) (seen : Seen) (held : Areas) (answers : List Answer) → answers ≡ [] → IsRunning tells b seen seen held held [] answers false
runs_none tells b seen held answers e =
    subst (λ (xs : List Answer). IsRunning tells b seen seen held held [] xs false) (sym e)
    (record { made = []; went = went_nowhere seen; answered = (refl, refl, refl); order = tt; stopped_is = refl; risen = All-nil (λ (answer : Answer). (area : StoreArea) → TellsFault area answer → ShareRose area seen seen) })

-- what the answers told to have failed, and what one more tells
risen_more : (old now new : Seen) (answers : List Answer) (answer : Answer) → SharesStay old.faults now.faults → SharesStay now.faults new.faults → SharesRose answers old now → ((area : StoreArea) → TellsFault area answer → ShareRose area now new)
    → SharesRose (answers ++ (answer ∷ [])) old new
risen_more old now new answers answer early late risen one =
    All-push (λ (x : Answer). (area : StoreArea) → TellsFault area x → ShareRose area old new) answers answer
    (λ k d lt area t. rose_on area old now new (risen k d lt area t) late)
    (λ area t. rose_from area old now new early (one area t))

pub runs_more : (tells : Type 0) (b : Basis) (old now new : Seen) (held kept last : Areas) (lines more : List Line) (line : Line) (answers after : List Answer) (answer : Answer) (stopped next : Bool)
    → IsRunning tells b old now held kept lines answers stopped → LineRuns tells b line.command stopped now new kept last answer
    → more ≡ lines ++ (line ∷ []) → after ≡ answers ++ (answer ∷ []) → next ≡ stops_with answer → IsRunning tells b old new held last more after next
runs_more tells b old now new held kept last lines more line answers after answer stopped next r l e f s =
    let here : LineAnswer tells b old.worker (length now.list) new.list line.command answer l.made kept last =
    subst (λ (n : ℕ). LineAnswer tells b n (length now.list) new.list line.command answer l.made kept last) r.went.stays.worker l.answered in
    let grown : IsRunning tells b old new held last (lines ++ (line ∷ [])) (answers ++ (answer ∷ [])) (stops_with answer) = record {
      made = r.made ++ l.made;
      went = subst (λ n. WentOn n old new (r.made ++ l.made)) (sym (sum_by_push marks_allowed answers answer)) (went_further old now new r.made l.made r.went l.went);
      answered = answered_more tells b old.worker now.list new.list (length old.list) lines answers r.made line answer l.made held kept last l.went.stays.seen here r.answered;
      order = order_more false answers answer r.order (l.run ∙ r.stopped_is);
      stopped_is = sym (stopped_more false answers answer);
      risen = risen_more old now new answers answer r.went.shares l.went.shares r.risen l.risen;
    } in
    subst (λ (ls : List Line). IsRunning tells b old new held last ls after next) (sym e)
    (subst (λ (xs : List Answer). IsRunning tells b old new held last (lines ++ (line ∷ [])) xs next) (sym f)
    (subst (λ (o : Bool). IsRunning tells b old new held last (lines ++ (line ∷ [])) (answers ++ (answer ∷ [])) o) (sym s) grown))

-- all of them were
pub runs_all : (tells : Type 0) (b : Basis) (old new : Seen) (held mid : Areas) (lines : List Line) (answers : List Answer) (stopped : Bool) → IsRunning tells b old new held mid lines answers stopped → RunsLines tells b lines old new held mid answers
runs_all tells b old new held mid lines answers stopped r = record {
  stays = r.went.stays;
  made = r.made;
  answered = r.answered;
  counted = r.went.counted;
  marked = r.went.marked;
  order = r.order;
  risen = r.risen;
}
