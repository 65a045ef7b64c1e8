-- Each step keeps an area safe.
use Rattle.std.proofs.Common.{◌≡◌, ℕ, ◌<◌, ◌≤◌, Bool, true, cond, List, [], ◌∷◌, ◌++◌, Option, Some, is_some, refl, sym, ap, subst, ◌∙◌, arith, append-nil}
use Rattle.std.specs.Prelude.{nat_lt, nat_le, slice_get}
use Rattle.std.specs.FinMap.{empty}
use Rattle.std.proofs.lemmas.Bool.{le-ltb}
use Rattle.std.proofs.lemmas.List.Elements.{filter-append, All-push}
use Rattle.lsn_core.specs.declared.ids.ForkId.{ForkId}
use Rattle.lsn_core.specs.Files.{Files}
use Rattle.lsn_core.specs.byte_words.Numbers.{◌>>=◌}
use Rattle.lsn_core.specs.Store.{Store, ForkPages}
use Rattle.lsn_core.specs.Blocks.{block_of}
use Rattle.vault.specs.Stops.{Event, synced}
use Rattle.vault.specs.Frame.{Each, LeavesNow, LeavesOnly}
use Rattle.history.specs.Entry.{Entry}
use Rattle.history.specs.Apply.{apply_all}
use Rattle.history.specs.fuzzy_copies.Sound.{state_before, entries_before}
use Rattle.history.specs.fuzzy_copies.Taken.{since}
use Rattle.history.proofs.fuzzy_copies.Kept.{entries_keep, forks_keep}
use Rattle.stop_areas.specs.Left.{Base, HasWhatStays, IsLeftOf}
use Rattle.stop_areas.specs.Keeps.{Keeps}
use Rattle.stop_areas.proofs.Kept.{stops_keep_pages}
use Rattle.stop_laws.specs.Window.{base_of}
use Rattle.stop_areas.proofs.Held.{held_left, less_stays}
use Rattle.stop_laws.proofs.Windows.{grow}
use Rattle.stop_machine.specs.Area.{Area, Append, Flush, Write, Clean, after, IsLeftAt, IsCleaned, IsSafe}
use Rattle.stop_machine.specs.Laws.{StepsAreSafe, RunsAreSafe}

one_store : (s t : Store) (m : Option Store) → m ≡ Some s → m ≡ Some t → s ≡ t
one_store s t m e f = cc

first_empty : (xs ys : List Entry) → xs ++ ys ≡ [] → xs ≡ []
first_empty [] ys e = refl
first_empty (x ∷ xs) ys e = absurd cc

second_empty : (xs ys : List Entry) → xs ++ ys ≡ [] → ys ≡ []
second_empty [] ys e = e
second_empty (x ∷ xs) ys e = absurd cc

-- by events that keep what stays
by_events : (relseg : ℕ) (base : Base) (events past : List Event) → 0 < relseg → Each (Keeps relseg base) events → LeavesNow (IsLeftOf relseg base) (Some past) → LeavesOnly (IsLeftOf relseg base) (Some past) (Some (events ++ past))
by_events relseg base events past some each left = stops_keep_pages relseg base (Some past) (Some (events ++ past)) some (record { events = events; each = each; past = refl }) left

-- what stays by one store stays by the same one
at_store : (ours : ForkId → Bool) (relseg : ℕ) (a : Area) (safe : IsSafe ours relseg a) (store : Store) → state_before a.known a.from ≡ Some store → LeavesNow (IsLeftAt ours relseg a store) (Some a.past)
at_store ours relseg a safe store defined = subst (λ (s : Store). LeavesNow (IsLeftAt ours relseg a s) (Some a.past)) (one_store safe.store store (state_before a.known a.from) safe.defined defined) safe.left

moments_by : (ours : ForkId → Bool) (relseg : ℕ) (a : Area) (events : List Event) → 0 < relseg → IsSafe ours relseg a → ((store : Store) → state_before a.known a.from ≡ Some store → Each (Keeps relseg (base_of ours store (since a.from a.known))) events)
    → (store : Store) → state_before a.known a.from ≡ Some store → LeavesOnly (IsLeftAt ours relseg a store) (Some a.past) (Some (events ++ a.past))
moments_by ours relseg a events some safe each store defined = by_events relseg (base_of ours store (since a.from a.known)) events a.past some (each store defined) (at_store ours relseg a safe store defined)

last_late : (from : ℕ) (later : List Entry) (e : Entry) → from ≤ e.start → entries_before later from ≡ [] → entries_before (later ++ (e ∷ [])) from ≡ []
last_late from later e start late =
    filter-append (λ (x : Entry). nat_lt x.start from) later (e ∷ [])
    ∙ ap (λ (l : List Entry). l ++ entries_before (e ∷ []) from) late
    ∙ ap (λ (b : Bool). cond b (e ∷ []) []) (le-ltb e.start from start)

-- what the known entries make has what stays
cleaned_has : (ours : ForkId → Bool) (relseg : ℕ) (a : Area) (from : ℕ) (known later : List Entry) (files : Files) (c : IsCleaned ours relseg a from known later files) → HasWhatStays (base_of ours c.store (since from known)) c.held
cleaned_has ours relseg a from known later files c =
    let w = c.window in
    record {
      pages = λ fork block page stays. block_now fork block stays.ours ∙ entries_keep c.store c.now (since from known) fork block w.tidy w.done stays.kept ∙ stays.there;
      missing = λ fork block stays. block_now fork block stays.ours ∙ entries_keep c.store c.now (since from known) fork block w.tidy w.done stays.kept ∙ stays.none;
      forks = λ fork mine unsettled. ap (λ (o : Option ForkPages). is_some o) (c.ours_held fork mine) ∙ forks_keep c.store c.now (since from known) fork w.tidy w.done unsettled;
    }
  where
    block_now : (fork : ForkId) (block : ℕ) → ours fork ≡ true → block_of c.held fork block ≡ block_of c.now fork block
    block_now fork block mine = ap (λ (o : Option ForkPages). o >>= λ pages. slice_get pages block) (c.ours_held fork mine)

pub steps_safe : StepsAreSafe
steps_safe ours relseg a (Append e) some safe may = record {
  moments = moments_by ours relseg a [] some safe (λ store defined. tt);
  safe = record {
    store = safe.store;
    defined = safe.defined;
    late = last_late a.from a.later e may.1 safe.late;
    ends = All-push (λ (x : Entry). a.mark < x.end) a.later e safe.ends may.0;
    left = safe.left;
  };
}
steps_safe ours relseg a (Flush mark more rest) some safe may =
    let late : entries_before more a.from ++ entries_before rest a.from ≡ [] =
    sym (filter-append (λ (x : Entry). nat_lt x.start a.from) more rest) ∙ ap (λ (l : List Entry). entries_before l a.from) (sym may.0) ∙ safe.late in
    let early : entries_before (a.known ++ more) a.from ≡ entries_before a.known a.from =
    filter-append (λ (x : Entry). nat_lt x.start a.from) a.known more ∙ ap (λ (l : List Entry). entries_before a.known a.from ++ l) (first_empty (entries_before more a.from) (entries_before rest a.from) late) ∙ append-nil (entries_before a.known a.from) in
    let window : since a.from (a.known ++ more) ≡ since a.from a.known ++ since a.from more = filter-append (λ (x : Entry). nat_le a.from x.start) a.known more in
    record {
      moments = moments_by ours relseg a [] some safe (λ store defined. tt);
      safe = record {
        store = safe.store;
        defined = ap (apply_all empty) early ∙ safe.defined;
        late = second_empty (entries_before more a.from) (entries_before rest a.from) late;
        ends = may.1;
        left = λ c may_leave. subst (λ (l : List Entry). IsLeftOf relseg (base_of ours safe.store l) c) (sym window) (less_stays relseg (base_of ours safe.store (since a.from a.known)) (base_of ours safe.store (since a.from a.known ++ since a.from more)) c (grow ours safe.store (since a.from a.known) (since a.from more)) (safe.left c may_leave));
      };
    }
steps_safe ours relseg a (Write events) some safe may = record {
  moments = moments_by ours relseg a events some safe may;
  safe = record {
    store = safe.store;
    defined = safe.defined;
    late = safe.late;
    ends = safe.ends;
    left = (moments_by ours relseg a events some safe may safe.store safe.defined).1;
  };
}
steps_safe ours relseg a (Clean from known later files) some safe may = record {
  moments = moments_by ours relseg a (synced (Some files) ∷ []) some safe (λ store defined. (tt, tt));
  safe = record {
    store = may.store;
    defined = may.window.defined;
    late = may.late;
    ends = may.ends;
    left = λ c left. subst (IsLeftOf relseg (base_of ours may.store (since from known))) (sym left.2.1) (held_left relseg (base_of ours may.store (since from known)) may.held files some may.holds may.whole (cleaned_has ours relseg a from known later files may));
  };
}

pub runs_safe : RunsAreSafe
runs_safe ours relseg a [] some safe may = safe
runs_safe ours relseg a (step ∷ steps) some safe may =
    let one = steps_safe ours relseg a step some safe may.0 in
    runs_safe ours relseg (after a step) steps some one.safe may.1
