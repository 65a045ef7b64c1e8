-- Workers in a list.
use Rattle.std.proofs.Common.{◌≡◌, ℕ, zero, suc, ◌+◌, ◌<◌, ◌≤◌, cond, List, [], ◌∷◌, ◌++◌, length, get_or, slice_set, Option, Some, None, option_map, refl, ap, sym, subst, ◌∙◌, arith, true≢false, inl, inr, eqb-true, get_or-set_same, get_or-set_other}
use Rattle.std.specs.Prelude.{◌==◌, slice_get}
use Rattle.std.proofs.lemmas.Bool.{eq-eqb, ne_eqb, cases_lt}
use Rattle.std.proofs.lemmas.List.{length-set}
use Rattle.std.proofs.lemmas.Option.{slice_get-get_or, slice_get_past}
use Rattle.lsn_core.specs.declared.lsn.Lsn.{Lsn}
use Rattle.history.proofs.Stores.{by_test}
use Rattle.core_machine.specs.declared.backup.Underway.{Underway}
use Rattle.core_machine.specs.declared.crew.Crewman.{Crewman}
use Rattle.store_core.specs.State.{Worker, idle_worker}
use Rattle.core_machine.specs.Inside.{underway_in, worker_in, worker_at, commands_in, commands_at, HasReached, IsCrewWith, IsCrewCounted}

pub got_set : {X : Type 0} (xs : List X) (i : ℕ) (y : X) (w : ℕ) → i < length xs → slice_get (slice_set xs i y) w ≡ cond (w == i) (Some y) (slice_get xs w)
got_set xs i y w l = by_test (w == i)
    (λ here.
    let same : w ≡ i = eqb-true w i here in
    ap (slice_get (slice_set xs i y)) same ∙ slice_get-get_or (slice_set xs i y) i y (omega (arith, l, length-set xs i y)) ∙ ap (λ (z : _). Some z) (get_or-set_same xs i y y l)
    ∙ sym (ap (λ c. cond c (Some y) (slice_get xs w)) here))
    (λ away.
    let other : w ≡ i → ⊥ = λ e. true≢false (sym (eq-eqb w i e) ∙ away) in
    elim (cases_lt w (length xs)) [
      | inl within ↦ slice_get-get_or (slice_set xs i y) w y (omega (arith, within, length-set xs i y)) ∙ ap (λ (z : _). Some z) (get_or-set_other xs i w y y other) ∙ sym (slice_get-get_or xs w y within)
      | inr past ↦ slice_get_past (slice_set xs i y) w (omega (arith, past, length-set xs i y)) ∙ sym (slice_get_past xs w past)
    ] ∙ sym (ap (λ c. cond c (Some y) (slice_get xs w)) away))

pub got_push : {X : Type 0} (xs : List X) (y : X) (w : ℕ) → slice_get (xs ++ (y ∷ [])) w ≡ cond (w == length xs) (Some y) (slice_get xs w)
got_push [] y zero = refl
got_push [] y (suc w) = sym (ap (λ c. cond c (Some y) None) (ne_eqb (suc w) 0 (λ e. absurd (omega (arith, e)))))
got_push (x ∷ xs) y zero = sym (ap (λ c. cond c (Some y) (Some x)) (ne_eqb 0 (length (x ∷ xs)) (λ e. absurd (omega (arith, e)))))
got_push (x ∷ xs) y (suc w) = got_push xs y w ∙ ap (λ c. cond c (Some y) (slice_get xs w)) (by_test (w == length xs)
    (λ here. here ∙ sym (eq-eqb (suc w) (suc (length xs)) (ap suc (eqb-true w (length xs) here))))
    (λ away. away ∙ sym (by_test (suc w == suc (length xs)) (λ e. absurd (true≢false (sym (eq-eqb w (length xs) (let k = eqb-true (suc w) (suc (length xs)) e in omega (arith, k))) ∙ away))) (λ e. e))))

past_end : {X : Type 0} (xs : List X) → slice_get xs (length xs) ≡ None
past_end xs = slice_get_past xs (length xs) (omega arith)

-- what stands at an index
pub found_here : {X : Type 0} (xs : List X) (i : ℕ) (x : X) → i < length xs → x ≡ get_or xs i x → slice_get xs i ≡ Some x
found_here xs i x l e = slice_get-get_or xs i x l ∙ ap (λ (z : _). Some z) (sym e)

pub one_found : {X : Type 0} (o : Option X) (a b : X) → o ≡ Some a → o ≡ Some b → a ≡ b
one_found o a b e f = cc

pub none_past : {X : Type 0} (xs : List X) (i : ℕ) → length xs ≤ i → None ≡ slice_get xs i
none_past xs i past = sym (slice_get_past xs i past)

-- one that did nothing yet
abbrev pub IsIdle : Crewman → Type 0
IsIdle man = (worker_in (Some man) ≡ idle_worker) × (commands_in (Some man) ≡ 0)

pub pushed_worker : (xs : List Crewman) (y : Crewman) (w : ℕ) → worker_in (Some y) ≡ idle_worker → worker_at (xs ++ (y ∷ [])) w ≡ worker_at xs w
pushed_worker xs y w idle = ap worker_in (got_push xs y w) ∙ by_test (w == length xs)
    (λ here. ap (λ c. worker_in (cond c (Some y) (slice_get xs w))) here ∙ idle ∙ sym (ap worker_in (ap (slice_get xs) (eqb-true w (length xs) here) ∙ past_end xs)))
    (λ away. ap (λ c. worker_in (cond c (Some y) (slice_get xs w))) away)

pub pushed_commands : (xs : List Crewman) (y : Crewman) (w : ℕ) → commands_in (Some y) ≡ 0 → commands_at (xs ++ (y ∷ [])) w ≡ commands_at xs w
pushed_commands xs y w idle = ap commands_in (got_push xs y w) ∙ by_test (w == length xs)
    (λ here. ap (λ c. commands_in (cond c (Some y) (slice_get xs w))) here ∙ idle ∙ sym (ap commands_in (ap (slice_get xs) (eqb-true w (length xs) here) ∙ past_end xs)))
    (λ away. ap (λ c. commands_in (cond c (Some y) (slice_get xs w))) away)

idle_is : (y : Crewman) → y.redo ≡ None → y.backup ≡ None → worker_in (Some y) ≡ idle_worker
idle_is y redo backup = λ i. record { redo = option_map (λ (l : Lsn). l.0) (redo i); backup = option_map underway_in (backup i) }

pub record Reaching (start now : List Crewman) (place : ℕ) : Type 0 where
  pub long : length now ≡ place
  pub workers : (w : ℕ) → worker_at now w ≡ worker_at start w
  pub commands : (w : ℕ) → commands_at now w ≡ commands_at start w

pub reached_on : (start before now : List Crewman) (place : ℕ) (y : Crewman) → length before ≡ place → ((w : ℕ) → worker_at before w ≡ worker_at start w) → ((w : ℕ) → commands_at before w ≡ commands_at start w)
    → y.redo ≡ None → y.backup ≡ None → y.commands ≡ 0 → now ≡ before ++ (y ∷ []) → Reaching start now (place + 1)
reached_on start before now place y long workers commands redo backup none is = subst (λ (xs : List Crewman). Reaching start xs (place + 1)) (sym is) (record {
  long = length_pushed before ∙ ap (λ (n : ℕ). n + 1) long;
  workers = λ w. pushed_worker before y w (idle_is y redo backup) ∙ workers w;
  commands = λ w. pushed_commands before y w none ∙ commands w;
})
  where
    length_pushed : (xs : List Crewman) → length (xs ++ (y ∷ [])) ≡ length xs + 1
    length_pushed [] = refl
    length_pushed (x ∷ xs) = ap suc (length_pushed xs) ∙ (omega arith)

-- a worker that is set
pub crew_set : (old reached : List Crewman) (number : ℕ) (y : Crewman) (commands : ℕ) → HasReached old reached number → commands ≡ commands_at reached number → y.commands ≡ commands → IsCrewWith old (slice_set reached number y) number (worker_in (Some y))
crew_set old reached number y commands has is here = record {
  workers = λ w. ap worker_in (got_set reached number y w has.there) ∙ by_test (w == number)
      (λ same. ap (λ c. worker_in (cond c (Some y) (slice_get reached w))) same ∙ sym (ap (λ c. cond c (worker_in (Some y)) (worker_at old w)) same))
      (λ away. ap (λ c. worker_in (cond c (Some y) (slice_get reached w))) away ∙ has.workers w ∙ sym (ap (λ c. cond c (worker_in (Some y)) (worker_at old w)) away));
  commands = λ w. ap commands_in (got_set reached number y w has.there) ∙ by_test (w == number)
      (λ same. ap (λ c. commands_in (cond c (Some y) (slice_get reached w))) same ∙ here ∙ is ∙ ap (commands_at reached) (sym (eqb-true w number same)) ∙ has.commands w)
      (λ away. ap (λ c. commands_in (cond c (Some y) (slice_get reached w))) away ∙ has.commands w);
}

-- one more command
pub crew_counted : (old reached : List Crewman) (number : ℕ) (y before : Crewman) → HasReached old reached number → slice_get reached number ≡ Some before → y.redo ≡ before.redo → y.backup ≡ before.backup → y.commands ≡ before.commands + 1
    → IsCrewCounted old (slice_set reached number y) number
crew_counted old reached number y before has was redo backup more = record {
  workers = λ w. ap worker_in (got_set reached number y w has.there) ∙ by_test (w == number)
      (λ same.
      ap (λ c. worker_in (cond c (Some y) (slice_get reached w))) same ∙ worker_same y before redo backup ∙ sym (ap worker_in was) ∙ ap (worker_at reached) (sym (eqb-true w number same)) ∙ has.workers w)
      (λ away. ap (λ c. worker_in (cond c (Some y) (slice_get reached w))) away ∙ has.workers w);
  commands = λ w. ap commands_in (got_set reached number y w has.there) ∙ by_test (w == number)
      (λ same.
      ap (λ c. commands_in (cond c (Some y) (slice_get reached w))) same ∙ more ∙ ap (λ (n : ℕ). n + 1) (sym (ap commands_in was) ∙ ap (commands_at reached) (sym (eqb-true w number same)) ∙ has.commands w)
      ∙ sym (ap (λ c. cond c (commands_at old w + 1) (commands_at old w)) same))
      (λ away. ap (λ c. commands_in (cond c (Some y) (slice_get reached w))) away ∙ has.commands w ∙ sym (ap (λ c. cond c (commands_at old w + 1) (commands_at old w)) away));
}
  where
    worker_same : (a b : Crewman) → a.redo ≡ b.redo → a.backup ≡ b.backup → worker_in (Some a) ≡ worker_in (Some b)
    worker_same a b redo backup = λ i. record { redo = option_map (λ (l : Lsn). l.0) (redo i); backup = option_map underway_in (backup i) }

-- a backup that is taken away
within : {X : Type 0} (xs : List X) (w : ℕ) (x : X) → slice_get xs w ≡ Some x → w < length xs
within [] w x e = absurd cc
within (x ∷ xs) zero y e = omega arith
within (x ∷ xs) (suc w) y e = (let k = within xs w y e in omega (arith, k))

pub crew_taken : (old : List Crewman) (number : ℕ) (man : Crewman) (left : Option Underway) → Some man ≡ slice_get old number → left ≡ None
    → IsCrewWith old (slice_set old number (record { redo = man.redo; backup = left; commands = man.commands })) number (record { redo = (worker_at old number).redo; backup = None })
crew_taken old number man left was none =
    let y : Crewman = record { redo = man.redo; backup = left; commands = man.commands } in
    let made = crew_set old old number y man.commands (record { there = within old number man (sym was); workers = λ w. refl; commands = λ w. refl }) (ap commands_in was) refl in
    subst (λ (x : Worker). IsCrewWith old (slice_set old number y) number x)
    (λ i. record { redo = ap (λ (o : Option Crewman). (worker_in o).redo) was i; backup = option_map underway_in (none i) }) made

pub crew_none : (old : List Crewman) (number : ℕ) → None ≡ slice_get old number → IsCrewWith old old number (record { redo = (worker_at old number).redo; backup = None })
crew_none old number was = record {
  workers = λ w. by_test (w == number)
      (λ same.
      let here : worker_at old number ≡ idle_worker = ap worker_in (sym was) in
      ap (worker_at old) (eqb-true w number same) ∙ here ∙ sym (ap (λ c. cond c (record { redo = (worker_at old number).redo; backup = None }) (worker_at old w)) same ∙ (λ i. record { redo = (here i).redo; backup = None })))
      (λ away. sym (ap (λ c. cond c (record { redo = (worker_at old number).redo; backup = None }) (worker_at old w)) away));
  commands = λ w. refl;
}

pub none_there : (old : List Crewman) (number : ℕ) → None ≡ slice_get old number → None ≡ (worker_at old number).backup
none_there old number was = ap (λ (o : Option Crewman). (worker_in o).backup) was
