-- The workers of a script: the areas that they ask for, and what they hold in their seats.
use Rattle.std.proofs.Common.{◌≡◌, ℕ, zero, suc, ◌+◌, ◌<◌, ◌≤◌, Bool, true, false, ◌||◌, List, [], ◌∷◌, ◌++◌, map, length, length-append, take, drop, append-nil, slice_index_or, refl, sym, ap, subst, ◌∙◌, arith, inl, inr}
use Rattle.std.specs.Prelude.{bytes_eq}
use Rattle.std.specs.List.{All, AllByRecursion, flat_map, list_any}
use Rattle.std.proofs.lemmas.List.{append_assoc, drop_all, nil_from_length, take_all}
use Rattle.std.proofs.lemmas.List.Elements.{All-cons}
use Rattle.std.proofs.lemmas.List.Sums.{sum_by-cons}
use Rattle.std.proofs.lemmas.Slice.Eq.{bytes_eq-Decides}
use Rattle.store_locks.specs.Seen.{Seen}
use Rattle.vault.specs.declared.area.Vault.{Ghosts as Vaults}
use Rattle.vault.specs.declared.lending.Held.{Held}
use Rattle.vault.specs.Lending.{Names, IsOneOf, IsNoneOf, AreLater, names_of}
use Rattle.vault.proofs.LentAreas.{one_or_none}
use Rattle.command_base.specs.Areas.{backup_name, sums_name}
use Rattle.scripts.specs.declared.script.Command.{Command}
use Rattle.scripts.specs.declared.script.Command.TheVariants as command
use Rattle.scripts.specs.declared.script.Line.{Line}
use Rattle.scripts.specs.declared.script.Task.{Task}
use Rattle.crew.specs.declared.crewing.Worker.{Worker}
use Rattle.scripts.specs.Apart.{AreApart, ShareNone}
use Rattle.crew.specs.Backups.{area_asked, areas_asked}
use Rattle.scripts.specs.Named.{HaveOtherPriors}
use Rattle.crew.specs.Crewing.{AllRan, HasRun, IsReady as IsReadyWorker}
use Rattle.scripts.specs.Named.{backups_named, is_named_by, names_backup}
use Rattle.crew.specs.Run.{Basis}
use Rattle.run_command.specs.declared.seats.Seat.{Seat}
use Rattle.run_answers.specs.declared.told.Told.{Told}
use Rattle.run_command.specs.Run.{backups_asked, store_asks, tasks_told}
use Rattle.run_command.specs.Inner.{AddsSeat, AreAsked, AreEachOnce, AreNamesFor, AreReady, AreSeated, IsReady, IsSeated, SitOn, Part, RunsCrew, RunsPart, areas_counted, areas_held, passes_of, tasks_of, told_of}
use Rattle.run_command.proofs.Noted.{distinct_both}
use Rattle.run_command.proofs.StoreLent.{both_later, later_length, names_of_both, one_either}
use Rattle.run_command.proofs.ToldLess.{one_front, one_back}

-- ---- names

-- the names of one seat more stand behind those of the others
pub names_more : {V : Type 0} (seats : List (Seat V)) (seat : Seat V) (names new : Names) → AreNamesFor seats names → AddsSeat seat names new → AreNamesFor (seats ++ seat ∷ []) new
names_more [] seat names new are adds =
    (adds.mine, [], adds.added ∙ (ap (λ (ns : Names). ns ++ adds.mine) are ∙ sym (append-nil adds.mine)), adds.many, adds.each, refl)
names_more (s ∷ seats) seat names new (mine, rest, is, many, each, more) adds = (
  mine,
  rest ++ adds.mine,
  adds.added ∙ (ap (λ (ns : Names). ns ++ adds.mine) is ∙ append_assoc mine rest adds.mine),
  many,
  each,
  names_more seats seat rest (rest ++ adds.mine) more (record { mine = adds.mine; added = refl; many = adds.many; each = adds.each }),
)

pub names_counted : {V : Type 0} (seats : List (Seat V)) (names : Names) → AreNamesFor seats names → length names ≡ areas_counted seats
names_counted [] names are = ap (λ (ns : Names). length ns) are
names_counted (seat ∷ seats) names (mine, rest, is, many, each, more) =
    omega (arith, ap (λ (ns : Names). length ns) is, length-append mine rest, many, names_counted seats rest more, sum_by-cons (λ (s : Seat _). s.count) seat seats)

length_names : {V : Type 0} (held : List (Held V)) → length (names_of held) ≡ length held
length_names [] = refl
length_names (one ∷ held) = ap suc (length_names held)

-- so many areas are held as the seats ask for
pub areas_enough : {V : Type 0} (seats : List (Seat V)) (held : List (Held V)) → AreNamesFor seats (names_of held) → length held ≡ areas_counted seats
areas_enough seats held are = sym (length_names held) ∙ names_counted seats (names_of held) are

-- ---- no area is asked for by two workers

left_true : (a b : Bool) → a ≡ true → (a || b) ≡ true
left_true a b e = rw e refl

right_true : (a b : Bool) → b ≡ true → (a || b) ≡ true
right_true true b e = refl
right_true false b e = e

same_bytes : (name : List ℕ) → bytes_eq name name ≡ true
same_bytes name = (bytes_eq-Decides name name).1 refl

-- an area that a command asks for is that of a backup that it names
named_in : (c : Command) (n : List ℕ) → IsOneOf n (area_asked c) → (name : List ℕ) × (n ≡ backup_name name) × (list_any (bytes_eq name) (backups_named c) ≡ true)
named_in (command.Insert order) n one = absurd one
named_in (command.Grow at count shape) n one = absurd one
named_in command.Checkpoint n one = absurd one
named_in (command.Flush count) n one = absurd one
named_in command.Summarise n one = absurd one
named_in (command.Full name) n (inl is) = (name, is, left_true (bytes_eq name name) false (same_bytes name))
named_in (command.Full name) n (inr none) = absurd none
named_in (command.Incr name prior) n (inl is) = (name, is, left_true (bytes_eq name name) (list_any (bytes_eq name) (prior ∷ [])) (same_bytes name))
named_in (command.Incr name prior) n (inr (inl is)) = (prior, is, right_true (bytes_eq prior name) (list_any (bytes_eq prior) (prior ∷ [])) (left_true (bytes_eq prior prior) false (same_bytes prior)))
named_in (command.Incr name prior) n (inr (inr none)) = absurd none

named_by : (lines : List Line) (n : List ℕ) → IsOneOf n (areas_asked lines) → (name : List ℕ) × (n ≡ backup_name name) × (list_any (names_backup name) lines ≡ true)
named_by [] n one = absurd one
named_by (line ∷ lines) n one =
    elim (one_either n (area_asked line.command) (areas_asked lines) one) [
      | inl here ↦ let x = named_in line.command n here in (x.0, x.1, left_true (names_backup x.0 line) (list_any (names_backup x.0) lines) x.2)
      | inr later ↦ let x = named_by lines n later in (x.0, x.1, right_true (names_backup x.0 line) (list_any (names_backup x.0) lines) x.2)
    ]

same_name : (a b : List ℕ) → backup_name a ≡ backup_name b → a ≡ b
same_name a b e = ap (drop 2) e

apart : (task : Task) (tasks : List Task) (n : List ℕ) → AllByRecursion (ShareNone task) tasks → IsOneOf n (areas_asked task.lines) → IsOneOf n (backups_asked tasks) → ⊥
apart task [] n none one more = absurd more
apart task (other ∷ tasks) n none one more =
    elim (one_either n (areas_asked other.lines) (backups_asked tasks) more) [
      | inl here ↦
          let x = named_by task.lines n one in
          let y = named_by other.lines n here in
          let same : x.0 ≡ y.0 = same_name x.0 y.0 (sym x.1 ∙ y.1) in
          none.0 x.0 x.2 (subst (λ (m : List ℕ). is_named_by m other ≡ true) (sym same) y.2)
      | inr later ↦ apart task tasks n none.1 one later
    ]

none_else : (n : List ℕ) (names : Names) → (IsOneOf n names → ⊥) → IsNoneOf n names
none_else n names none =
    elim (one_or_none n names) [
      | inl one ↦ absurd (none one)
      | inr is ↦ is
    ]

-- the names of all are each once
pub names_once : {V : Type 0} (seats : List (Seat V)) (names : Names) → AreNamesFor seats names → AreApart (tasks_of seats) → AreEachOnce (backups_asked (tasks_of seats)) names
names_once [] names are all = subst (λ (ns : Names). AreEachOnce [] ns) (sym are) (record { distinct = tt; all = λ n one. one; only = λ n one. one })
names_once (seat ∷ seats) names (mine, rest, is, many, each, more) all =
    let once : AreEachOnce (backups_asked (tasks_of seats)) rest = names_once seats rest more all.1 in
    subst (λ (ns : Names). AreEachOnce (backups_asked (tasks_of (seat ∷ seats))) ns) (sym is) (record {
      distinct = distinct_both mine rest each.distinct once.distinct (λ n one. none_else n rest (λ two. apart seat.task (tasks_of seats) n all.0 (each.only n one) (once.only n two)));
      all = λ n one. elim (one_either n (areas_asked seat.task.lines) (backups_asked (tasks_of seats)) one) [
        | inl here ↦ one_front n mine rest (each.all n here)
        | inr later ↦ one_back n mine rest (once.all n later)
      ];
      only = λ n one. elim (one_either n mine rest one) [
        | inl here ↦ one_front n (areas_asked seat.task.lines) (backups_asked (tasks_of seats)) (each.only n here)
        | inr later ↦ one_back n (areas_asked seat.task.lines) (backups_asked (tasks_of seats)) (once.only n later)
      ];
    })

-- with those of the run beside them
pub asked_by : {V : Type 0} (script : List Task) (seats : List (Seat V)) (backups names : Names) → tasks_of seats ≡ script → AreNamesFor seats backups → AreApart script → names ≡ (backups ++ sums_name ∷ []) ++ store_asks → AreAsked script names
asked_by script seats backups names same for all is = record {
  backups = backups;
  each = subst (λ (ts : List Task). AreEachOnce (backups_asked ts) backups) same (names_once seats backups for (subst AreApart (sym same) all));
  names_are = is;
}

-- ---- seats

pub ready_more : {V : Type 0} (seats : List (Seat V)) (seat : Seat V) → AreReady seats → IsReady seat → AreReady (seats ++ seat ∷ [])
ready_more [] seat all one = (one, tt)
ready_more (s ∷ seats) seat all one = (all.0, ready_more seats seat all.1 one)

pub tasks_more : {V : Type 0} (seats : List (Seat V)) (seat : Seat V) → tasks_of (seats ++ seat ∷ []) ≡ tasks_of seats ++ seat.task ∷ []
tasks_more [] seat = refl
tasks_more (s ∷ seats) seat = ap (λ (ts : List Task). s.task ∷ ts) (tasks_more seats seat)

pub ready_last : {V : Type 0} (seats : List (Seat V)) (seat : Seat V) → AreReady (seats ++ seat ∷ []) → AreReady seats × IsReady seat
ready_last [] seat all = (tt, all.0)
ready_last (s ∷ seats) seat all = let rest = ready_last seats seat all.1 in ((all.0, rest.0), rest.1)

pub counted_more : {V : Type 0} (seats : List (Seat V)) (seat : Seat V) → areas_counted (seats ++ seat ∷ []) ≡ areas_counted seats + seat.count
counted_more [] seat = omega (arith, sum_by-cons (λ (s : Seat _). s.count) seat [])
counted_more (s ∷ seats) seat =
    omega (arith, sum_by-cons (λ (s : Seat _). s.count) s (seats ++ seat ∷ []), sum_by-cons (λ (s : Seat _). s.count) s seats, counted_more seats seat)

pub seated_length : {J V : Type 0} (seats : List (Seat V)) (crew : List (Worker J V)) → AreSeated seats crew → length crew ≡ length seats
seated_length [] [] are = refl
seated_length [] (w ∷ crew) are = absurd are
seated_length (s ∷ seats) [] are = absurd are
seated_length (s ∷ seats) (w ∷ crew) are = ap suc (seated_length seats crew are.1)

pub seated_areas : {J V : Type 0} (seats : List (Seat V)) (crew : List (Worker J V)) → AreSeated seats crew → length (areas_held crew) ≡ areas_counted seats
seated_areas [] [] are = refl
seated_areas [] (w ∷ crew) are = absurd are
seated_areas (s ∷ seats) [] are = absurd are
seated_areas (s ∷ seats) (w ∷ crew) are =
    omega (arith, length-append w.areas.items (areas_held crew), are.0.many, seated_areas seats crew are.1, sum_by-cons (λ (s : Seat _). s.count) s seats)

-- lists that are the same in two parts
split_same : {A : Type 0} (xs us ys vs : List A) → length xs ≡ length us → xs ++ ys ≡ us ++ vs → (xs ≡ us) × (ys ≡ vs)
split_same [] [] ys vs same e = (refl, e)
split_same [] (u ∷ us) ys vs same e = absurd (omega (arith, same))
split_same (x ∷ xs) [] ys vs same e = absurd (omega (arith, same))
split_same (x ∷ xs) (u ∷ us) ys vs same e =
    let head : x ≡ u = cc in
    let tail : xs ++ ys ≡ us ++ vs = cc in
    let rest = split_same xs us ys vs (omega (arith, same)) tail in
    (ap (λ a. a ∷ xs) head ∙ ap (λ (l : List _). u ∷ l) rest.0, rest.1)

-- each worker in its seat holds its areas, and has room for its answers
seated_ready : {J V : Type 0} (seat : Seat V) (worker : Worker J V) (mine : Names) → IsSeated seat worker → IsReady seat → names_of worker.areas.items ≡ mine → AreEachOnce (areas_asked seat.task.lines) mine → IsReadyWorker worker
seated_ready seat worker mine is ready named each = record {
  held = λ n one. subst (λ (ns : Names). IsOneOf n ns) (sym named) (each.all n (subst (λ (t : Task). IsOneOf n (areas_asked t.lines)) is.task one));
  priors = subst (λ (t : Task). HaveOtherPriors t.lines) (sym is.task) ready.priors;
  none = rw (is.answers) ready.answers.0;
  empty = rw (is.answers) ready.answers.1;
  room = rw (is.answers, is.task) ready.answers.2;
}

pub crew_ready : {J V : Type 0} (seats : List (Seat V)) (crew : List (Worker J V)) (names : Names) → AreSeated seats crew → AreReady seats → AreNamesFor seats names → names_of (areas_held crew) ≡ names → AllByRecursion IsReadyWorker crew
crew_ready [] [] names are ready for is = tt
crew_ready [] (w ∷ crew) names are ready for is = absurd are
crew_ready (s ∷ seats) [] names are ready for is = absurd are
crew_ready (s ∷ seats) (w ∷ crew) names are ready (mine, rest, cut, many, each, more) is =
    let both : names_of w.areas.items ++ names_of (areas_held crew) ≡ mine ++ rest = sym (names_of_both w.areas.items (areas_held crew)) ∙ (is ∙ cut) in
    let parts = split_same (names_of w.areas.items) mine (names_of (areas_held crew)) rest (length_names w.areas.items ∙ (are.0.many ∙ sym many)) both in
    (seated_ready s w mine are.0 ready.0 parts.0 each, crew_ready seats crew rest are.1 ready.1 more parts.1)

-- ---- what they did

abbrev pub part_of : {J V : Type 0} → Worker J V → Worker J V → Part V
part_of old new = record {
  told = record { task = new.task; answers = new.answers.items };
  from = old.pass;
  to = new.pass;
  held = old.areas.items;
  kept = new.areas.items;
}

abbrev pub parts_of : {J V : Type 0} → List (Worker J V) → List (Worker J V) → List (Part V)
parts_of [] news = []
parts_of (old ∷ olds) [] = []
parts_of (old ∷ olds) (new ∷ news) = part_of old new ∷ parts_of olds news

ran_part : {J V : Type 0} (g : Vaults V) (tells : Type 0) (b : Basis) (old new : Worker J V) → HasRun g tells b old new → IsReadyWorker old → RunsPart g tells b (part_of old new)
ran_part g tells b old new ran ready = record {
  run = rw ran.task ran.run;
  mine = rw ran.task ready.held;
  later = ran.later;
}

pub ran_parts : {J V : Type 0} (g : Vaults V) (tells : Type 0) (b : Basis) (olds news : List (Worker J V)) → length news ≡ length olds
    → ((i : ℕ) (d : Worker J V) → i < length olds → HasRun g tells b (slice_index_or olds i d) (slice_index_or news i d)) → AllByRecursion IsReadyWorker olds → AllByRecursion (RunsPart g tells b) (parts_of olds news)
ran_parts g tells b [] news many all ready = tt
ran_parts g tells b (old ∷ olds) [] many all ready = absurd (omega (arith, many))
ran_parts g tells b (old ∷ olds) (new ∷ news) many all ready = (
  ran_part g tells b old new (all zero old (omega arith)) ready.0,
  ran_parts g tells b olds news (omega (arith, many)) (λ i d lt. all (suc i) d (omega (arith, lt))) ready.1,
)

pub parts_told : {J V : Type 0} (olds news : List (Worker J V)) → length news ≡ length olds → told_of news ≡ map (λ part. part.told) (parts_of olds news)
parts_told [] [] many = refl
parts_told [] (new ∷ news) many = absurd (omega (arith, many))
parts_told (old ∷ olds) [] many = absurd (omega (arith, many))
parts_told (old ∷ olds) (new ∷ news) many = ap (λ (ts : List Told). (part_of old new).told ∷ ts) (parts_told olds news (omega (arith, many)))

pub parts_from : {J V : Type 0} (olds news : List (Worker J V)) → length news ≡ length olds → passes_of olds ≡ map (λ part. part.from) (parts_of olds news)
parts_from [] news many = refl
parts_from (old ∷ olds) [] many = absurd (omega (arith, many))
parts_from (old ∷ olds) (new ∷ news) many = ap (λ (ps : List Seen). old.pass ∷ ps) (parts_from olds news (omega (arith, many)))

pub parts_to : {J V : Type 0} (olds news : List (Worker J V)) → length news ≡ length olds → passes_of news ≡ map (λ part. part.to) (parts_of olds news)
parts_to [] [] many = refl
parts_to [] (new ∷ news) many = absurd (omega (arith, many))
parts_to (old ∷ olds) [] many = absurd (omega (arith, many))
parts_to (old ∷ olds) (new ∷ news) many = ap (λ (ps : List Seen). new.pass ∷ ps) (parts_to olds news (omega (arith, many)))

pub parts_held : {J V : Type 0} (olds news : List (Worker J V)) → length news ≡ length olds → areas_held olds ≡ flat_map (λ part. part.held) (parts_of olds news)
parts_held [] news many = refl
parts_held (old ∷ olds) [] many = absurd (omega (arith, many))
parts_held (old ∷ olds) (new ∷ news) many = ap (λ (hs : List (Held _)). old.areas.items ++ hs) (parts_held olds news (omega (arith, many)))

pub parts_kept : {J V : Type 0} (olds news : List (Worker J V)) → length news ≡ length olds → areas_held news ≡ flat_map (λ part. part.kept) (parts_of olds news)
parts_kept [] [] many = refl
parts_kept [] (new ∷ news) many = absurd (omega (arith, many))
parts_kept (old ∷ olds) [] many = absurd (omega (arith, many))
parts_kept (old ∷ olds) (new ∷ news) many = ap (λ (hs : List (Held _)). new.areas.items ++ hs) (parts_kept olds news (omega (arith, many)))

-- what they were told is of their tasks
pub told_tasks : {J V : Type 0} (g : Vaults V) (tells : Type 0) (b : Basis) (seats : List (Seat V)) (olds news : List (Worker J V)) → AreSeated seats olds → length news ≡ length olds
    → ((i : ℕ) (d : Worker J V) → i < length olds → HasRun g tells b (slice_index_or olds i d) (slice_index_or news i d)) → tasks_told (told_of news) ≡ tasks_of seats
told_tasks g tells b [] [] [] are many all = refl
told_tasks g tells b [] [] (new ∷ news) are many all = absurd (omega (arith, many))
told_tasks g tells b [] (old ∷ olds) news are many all = absurd are
told_tasks g tells b (s ∷ seats) [] news are many all = absurd are
told_tasks g tells b (s ∷ seats) (old ∷ olds) [] are many all = absurd (omega (arith, many))
told_tasks g tells b (s ∷ seats) (old ∷ olds) (new ∷ news) are many all =
    let first : new.task ≡ s.task = (all zero old (omega arith)).task ∙ are.0.task in
    ap (λ (t : Task). t ∷ tasks_told (told_of news)) first
    ∙ ap (λ (ts : List Task). s.task ∷ ts) (told_tasks g tells b seats olds news are.1 (omega (arith, many)) (λ i d lt. all (suc i) d (omega (arith, lt))))

-- none of their areas has failed less often since
pub parts_later : {V : Type 0} (g : Vaults V) (tells : Type 0) (b : Basis) (parts : List (Part V)) → AllByRecursion (RunsPart g tells b) parts → AreLater g (flat_map (λ part. part.held) parts) (flat_map (λ part. part.kept) parts)
parts_later g tells b [] ran = tt
parts_later g tells b (part ∷ parts) ran =
    both_later g part.held part.kept (flat_map (λ p. p.held) parts) (flat_map (λ p. p.kept) parts) ran.0.later (parts_later g tells b parts ran.1)

-- ---- lists that go over one by one

pub pushed : {A : Type 0} (xs xs2 ys : List A) (y : A) (zs : List A) → xs2 ≡ xs ++ y ∷ [] → xs ++ y ∷ ys ≡ zs → xs2 ++ ys ≡ zs
pushed xs xs2 ys y zs is all = ap (λ (l : List _). l ++ ys) is ∙ (append_assoc xs (y ∷ []) ys ∙ all)

pub pushed_more : {A : Type 0} (xs xs2 ys more zs : List A) → xs2 ≡ xs ++ more → xs ++ (more ++ ys) ≡ zs → xs2 ++ ys ≡ zs
pushed_more xs xs2 ys more zs is all = ap (λ (l : List _). l ++ ys) is ∙ (append_assoc xs more ys ∙ all)

pub at_end : {A : Type 0} (xs rest zs : List A) → length rest ≡ 0 → xs ++ rest ≡ zs → xs ≡ zs
at_end xs rest zs none all = sym (append-nil xs) ∙ (ap (λ (l : List _). xs ++ l) (sym (nil_from_length rest none)) ∙ all)

-- the last seats of these are taken by a crew, on the last passes, with the last areas
pub record SatSoFar {J V : Type 0} (all left : List (Seat V)) (crew : List (Worker J V)) (passes now : List Seen) (held rest : List (Held V)) : Type 0 where
  pub done : List (Seat V)
  pub cut : all ≡ left ++ done
  pub seated : AreSeated done crew
  pub sit : SitOn crew passes now held rest
  pub ready : AreReady left
  pub passes_enough : length left ≤ length now
  pub held_enough : areas_counted left ≤ length rest

pub sat_none : {J V : Type 0} (all : List (Seat V)) (passes : List Seen) (held : List (Held V)) → AreReady all → length all ≤ length passes → areas_counted all ≤ length held → SatSoFar {J = J} {V = V} all all [] passes passes held held
sat_none all passes held ready enough areas = record {
  done = [];
  cut = sym (append-nil all);
  seated = tt;
  sit = record { passes_are = sym (append-nil passes); held_are = sym (append-nil held) };
  ready = ready;
  passes_enough = enough;
  held_enough = areas;
}

-- one seat more
pub sat_more : {J V : Type 0} (all left less : List (Seat V)) (seat : Seat V) (crew : List (Worker J V)) (worker : Worker J V) (passes now then : List Seen) (held rest fewer : List (Held V)) → SatSoFar all left crew passes now held rest → left ≡ less ++ seat ∷ [] → now ≡ then ++ worker.pass ∷ [] → rest ≡ fewer ++ worker.areas.items
    → IsSeated seat worker → SatSoFar all less (worker ∷ crew) passes then held fewer
sat_more all left less seat crew worker passes now then held rest fewer so cut took held_is is = record {
  done = seat ∷ so.done;
  cut = so.cut ∙ (ap (λ (l : List (Seat _)). l ++ so.done) cut ∙ append_assoc less (seat ∷ []) so.done);
  seated = (is, so.seated);
  sit = record {
    passes_are = so.sit.passes_are ∙ (ap (λ (l : List Seen). l ++ passes_of crew) took ∙ append_assoc then (worker.pass ∷ []) (passes_of crew));
    held_are = so.sit.held_are ∙ (ap (λ (l : List (Held _)). l ++ areas_held crew) held_is ∙ append_assoc fewer worker.areas.items (areas_held crew));
  };
  ready = (ready_last less seat (subst AreReady cut so.ready)).0;
  passes_enough = omega (arith, so.passes_enough, ap (λ (l : List (Seat _)). length l) cut, length-append less (seat ∷ []), ap (λ (l : List Seen). length l) took, length-append then (worker.pass ∷ []));
  held_enough = omega (arith, so.held_enough, ap (λ (l : List (Seat _)). areas_counted l) cut, counted_more less seat, ap (λ (l : List (Held _)). length l) held_is, length-append fewer worker.areas.items, is.many);
}

-- the last one is ready
pub sat_ready : {J V : Type 0} (all left less : List (Seat V)) (seat : Seat V) (crew : List (Worker J V)) (passes now : List Seen) (held rest : List (Held V)) → SatSoFar all left crew passes now held rest → left ≡ less ++ seat ∷ [] → IsReady seat
sat_ready all left less seat crew passes now held rest so cut = (ready_last less seat (subst AreReady cut so.ready)).1

pub sat_count : {J V : Type 0} (all left less : List (Seat V)) (seat : Seat V) (crew : List (Worker J V)) (passes now : List Seen) (held rest : List (Held V)) → SatSoFar all left crew passes now held rest → left ≡ less ++ seat ∷ [] → seat.count ≤ length rest
sat_count all left less seat crew passes now held rest so cut = omega (arith, so.held_enough, ap (λ (l : List (Seat _)). areas_counted l) cut, counted_more less seat)

pub sat_pass : {J V : Type 0} (all left less : List (Seat V)) (seat : Seat V) (crew : List (Worker J V)) (passes now : List Seen) (held rest : List (Held V)) → SatSoFar all left crew passes now held rest → left ≡ less ++ seat ∷ [] → 1 ≤ length now
sat_pass all left less seat crew passes now held rest so cut = omega (arith, so.passes_enough, ap (λ (l : List (Seat _)). length l) cut, length-append less (seat ∷ []))

-- all are taken
pub sat_all : {J V : Type 0} (all left : List (Seat V)) (crew : List (Worker J V)) (passes now : List Seen) (held rest : List (Held V)) → SatSoFar all left crew passes now held rest → left ≡ [] → AreSeated all crew
sat_all all left crew passes now held rest so none =
    subst (λ (l : List (Seat _)). AreSeated l crew) (sym (so.cut ∙ ap (λ (l : List (Seat _)). l ++ so.done) none)) so.seated

pub sat_length : {J V : Type 0} (all left : List (Seat V)) (crew : List (Worker J V)) (passes now : List Seen) (held rest : List (Held V)) → SatSoFar all left crew passes now held rest → length all ≡ length left + length crew
sat_length all left crew passes now held rest so = omega (arith, ap (λ (l : List (Seat _)). length l) so.cut, length-append left so.done, seated_length so.done crew so.seated)

-- ---- a crew's run

pub all_from : {A : Type 0} (P : A → Type 0) (xs : List A) → AllByRecursion P xs → All P xs
all_from P [] all = λ k d within. absurd (omega (arith, within))
all_from P (x ∷ xs) all = All-cons P x xs all.0 (all_from P xs all.1)

-- no area is left where all seats are taken
pub none_left : {J V : Type 0} (seats : List (Seat V)) (crew : List (Worker J V)) (held rest : List (Held V)) → AreSeated seats crew → held ≡ rest ++ areas_held crew → AreNamesFor seats (names_of held) → rest ≡ []
none_left seats crew held rest are is for =
    nil_from_length rest (omega (arith, ap (λ (hs : List (Held _)). length hs) is, length-append rest (areas_held crew), areas_enough seats held for, seated_areas seats crew are))

all_held : {J V : Type 0} (seats : List (Seat V)) (crew : List (Worker J V)) (held rest : List (Held V)) → AreSeated seats crew → held ≡ rest ++ areas_held crew → AreNamesFor seats (names_of held) → held ≡ areas_held crew
all_held seats crew held rest are is for = is ∙ ap (λ (hs : List (Held _)). hs ++ areas_held crew) (none_left seats crew held rest are is for)

-- each worker is ready to run
pub ready_crew : {J V : Type 0} (seats : List (Seat V)) (crew : List (Worker J V)) (held rest : List (Held V)) → AreSeated seats crew → AreReady seats → held ≡ rest ++ areas_held crew → AreNamesFor seats (names_of held) → All IsReadyWorker crew
ready_crew seats crew held rest are ready is for =
    all_from IsReadyWorker crew (crew_ready seats crew (names_of held) are ready for (ap names_of (sym (all_held seats crew held rest are is for))))

pub crew_ran : {J V : Type 0} (g : Vaults V) (tells : Type 0) (b : Basis) (seats : List (Seat V)) (olds news : List (Worker J V)) (passes mid now : List Seen) (held rest kept : List (Held V)) (told : List Told) → AreSeated seats olds → SitOn olds passes mid held rest → AreReady seats → AreNamesFor seats (names_of held)
    → AllRan g tells b olds news → now ≡ mid ++ passes_of news → kept ≡ rest ++ areas_held news → told ≡ told_of news → RunsCrew g tells b passes now held kept told
crew_ran g tells b seats olds news passes mid now held rest kept told are sit ready for ran back gave tell =
    let many : length news ≡ length olds = ran.0 in
    let none : rest ≡ [] = none_left seats olds held rest are sit.held_are for in
    let all : held ≡ areas_held olds = all_held seats olds held rest are sit.held_are for in
    record {
      parts = parts_of olds news;
      has = record {
        told_are = tell ∙ parts_told olds news many;
        held_are = all ∙ parts_held olds news many;
        kept_are = gave ∙ (ap (λ (hs : List (Held _)). hs ++ areas_held news) none ∙ parts_kept olds news many);
        ran = ran_parts g tells b olds news many ran.1 (crew_ready seats olds (names_of held) are ready for (ap names_of (sym all)));
      };
      rest = mid;
      before = sit.passes_are ∙ ap (λ (ps : List Seen). mid ++ ps) (parts_from olds news many);
      behind = back ∙ ap (λ (ps : List Seen). mid ++ ps) (parts_to olds news many);
    }

-- of what they held none has failed less often since
pub crew_later : {V : Type 0} (g : Vaults V) (tells : Type 0) (b : Basis) (passes now : List Seen) (held kept : List (Held V)) (told : List Told) → RunsCrew g tells b passes now held kept told → AreLater g held kept
crew_later g tells b passes now held kept told ran =
    subst (λ (hs : List (Held _)). AreLater g hs kept) (sym ran.has.held_are)
    (subst (λ (ks : List (Held _)). AreLater g (flat_map (λ part. part.held) ran.parts) ks) (sym ran.has.kept_are) (parts_later g tells b ran.parts ran.has.ran))

pub written_all : {A : Type 0} (xs ys : List A) (n : ℕ) → n ≡ length xs → length ys ≡ length xs → take n (ys ++ drop (length ys) xs) ≡ ys
written_all xs ys n many same =
    ap (λ (zs : List _). take n (ys ++ zs)) (drop_all (length ys) xs (omega (arith, same))) ∙ (ap (take n) (append-nil ys) ∙ take_all n ys (omega (arith, same, many)))

-- as many areas are kept as were held
pub areas_kept : {J V : Type 0} (g : Vaults V) (tells : Type 0) (b : Basis) (olds news : List (Worker J V)) → length news ≡ length olds
    → ((i : ℕ) (d : Worker J V) → i < length olds → HasRun g tells b (slice_index_or olds i d) (slice_index_or news i d)) → length (areas_held news) ≡ length (areas_held olds)
areas_kept g tells b [] [] many all = refl
areas_kept g tells b [] (new ∷ news) many all = absurd (omega (arith, many))
areas_kept g tells b (old ∷ olds) [] many all = absurd (omega (arith, many))
areas_kept g tells b (old ∷ olds) (new ∷ news) many all =
    let first : length new.areas.items ≡ length old.areas.items = later_length g old.areas.items new.areas.items (all zero old (omega arith)).later in
    omega (arith, first, length-append new.areas.items (areas_held news), length-append old.areas.items (areas_held olds), areas_kept g tells b olds news (omega (arith, many)) (λ i d lt. all (suc i) d (omega (arith, lt))))

-- what stands behind what went back, of a crew that is this one
pub told_is : {J V : Type 0} (before told : List Told) (taken news : List (Worker J V)) → told ≡ before ++ told_of taken → before ≡ [] → taken ≡ news → told ≡ told_of news
told_is before told taken news is none same = is ∙ (ap (λ (ts : List Told). ts ++ told_of taken) none ∙ ap told_of same)

pub passes_is : {J V : Type 0} (mid now : List Seen) (taken news : List (Worker J V)) → now ≡ mid ++ passes_of taken → taken ≡ news → now ≡ mid ++ passes_of news
passes_is mid now taken news is same = is ∙ ap (λ ws. mid ++ passes_of ws) same

pub held_is : {J V : Type 0} (rest kept : List (Held V)) (taken news : List (Worker J V)) → kept ≡ rest ++ areas_held taken → taken ≡ news → kept ≡ rest ++ areas_held news
held_is rest kept taken news is same = is ∙ ap (λ ws. rest ++ areas_held ws) same
