-- Steps taken in turn by a machine in memory.
use Rattle.std.proofs.Common.{◌≡◌, ℕ, ◌+◌, ◌<◌, ◌≤◌, List, [], ◌∷◌, ◌++◌, take, length, get_or, refl, ap, sym, subst, ◌∙◌}
use Rattle.std.proofs.lemmas.List.{take_more, take_all}
use Rattle.std.proofs.lemmas.List.Elements.{All-push}
use Rattle.core_machine.specs.declared.machine.Machine.{Machine}
use Rattle.store_core.specs.declared.reply.Reply.{Reply}
use Rattle.store_core.specs.declared.step.Step.{Step}
use Rattle.store_core.specs.State.{State, first_state}
use Rattle.store_core.specs.Laws.{PutsPages}
use Rattle.store_core.specs.Steps.{step_of, behind_steps, replies_of}
use Rattle.core_machine.specs.Shown.{Shows, ShowsRun, IsReached, HasStepped}

-- it shows what the steps leave, answered them so, and is reached by them
pub record HasRun (m : Machine) (s : State) (steps : List Step) (replies : List Reply) : Type 0 where
  pub run : ShowsRun m s steps replies
  pub reached : IsReached (behind_steps s steps)

-- one step more
behind_push : (s : State) (steps : List Step) (x : Step) → behind_steps s (steps ++ (x ∷ [])) ≡ (step_of (behind_steps s steps) x).0
behind_push s [] x = refl
behind_push s (y ∷ steps) x = behind_push (step_of s y).0 steps x

replies_push : (s : State) (steps : List Step) (x : Step) → replies_of s (steps ++ (x ∷ [])) ≡ replies_of s steps ++ ((step_of (behind_steps s steps) x).1 ∷ [])
replies_push s [] x = refl
replies_push s (y ∷ steps) x = ap (λ (rs : List Reply). (step_of s y).1 ∷ rs) (replies_push (step_of s y).0 steps x)

reached_push : (s : State) (x : Step) → PutsPages x → IsReached s → IsReached (step_of s x).0
reached_push s x pages r = record {
  mib = r.mib;
  relseg = r.relseg;
  steps = r.steps ++ (x ∷ []);
  may = record { segment = r.may.segment; pages = All-push PutsPages r.steps x r.may.pages pages };
  is = ap (λ (t : State). (step_of t x).0) r.is ∙ sym (behind_push (first_state r.mib r.relseg) r.steps x);
}

pub run_begins : (m : Machine) (s : State) (replies : List Reply) → IsReached s → Shows m s → replies ≡ [] → HasRun m s [] replies
run_begins m s replies r shown none = record { run = record { machine = shown; answers = none }; reached = r }

pub run_on : (m new : Machine) (s : State) (steps : List Step) (at : ℕ) (x : Step) (before replies : List Reply) (answer : Reply) → at < length steps → x ≡ get_or steps at x → PutsPages x → HasRun m s (take at steps) before
    → ((t : State) → IsReached t → Shows m t → HasStepped new (step_of t x) answer) → replies ≡ before ++ (answer ∷ []) → HasRun new s (take (at + 1) steps) replies
run_on m new s steps at x before replies answer l is pages h step pushed =
    let some = take at steps in
    let t = behind_steps s some in
    let one = step t h.reached h.run.machine in
    let more : take (at + 1) steps ≡ some ++ (x ∷ []) = take_more steps at x l ∙ ap (λ (y : Step). some ++ (y ∷ [])) (sym is) in
    subst (λ (ss : List Step). HasRun new s ss replies) (sym more) (record {
      run = record {
        machine = subst (Shows new) (sym (behind_push s some x)) one.0;
        answers = pushed ∙ ap (λ (rs : List Reply). rs ++ (answer ∷ [])) h.run.answers ∙ ap (λ (a : Reply). replies_of s some ++ (a ∷ [])) one.1 ∙ sym (replies_push s some x);
      };
      reached = subst IsReached (sym (behind_push s some x)) (reached_push t x pages h.reached);
    })

pub run_ends : (m : Machine) (s : State) (steps : List Step) (at : ℕ) (replies : List Reply) → length steps ≤ at → HasRun m s (take at steps) replies → ShowsRun m s steps replies
run_ends m s steps at replies all h = subst (λ (ss : List Step). ShowsRun m s ss replies) (take_all at steps all) h.run
