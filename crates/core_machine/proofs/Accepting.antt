-- What a machine in memory shows behind a command, refused or accepted.
use Rattle.std.proofs.Common.{◌≡◌, ℕ, ◌+◌, ◌<◌, ◌≤◌, Bool, true, false, cond, List, [], ◌∷◌, ◌++◌, get_or, slice_set, map, length, Option, Some, None, option_map, unwrap_or, refl, ap, sym, subst, ◌∙◌}
use Rattle.std.specs.Prelude.{◌==◌, nat_lt, slice_get}
use Rattle.std.specs.Option.{option_or}
use Rattle.std.proofs.lemmas.Bool.{lt-ltb, le-ltb}
use Rattle.lsn_core.proofs.byte_words.Fields.{bind_some}
use Rattle.lsn_core.specs.declared.lsn.Place.{Place}
use Rattle.lsn_core.specs.Store.{Store}
use Rattle.lsn_core.specs.Tip.{Tip}
use Rattle.wal_record.specs.declared.record.Record.{Record}
use Rattle.wal_record.specs.declared.record.Kind.{Kind}
use Rattle.wal_record.specs.Tips.{wal_limit, record_at_tip, tip_after}
use Rattle.history.specs.declared.op.Item.{Item}
use Rattle.history.specs.declared.op.Op.{Op}
use Rattle.history.specs.declared.op.Op.TheVariants as op
use Rattle.history.specs.Apply.{apply_item, apply_items}
use Rattle.history.specs.Op.{act_of_op, apply_op}
use Rattle.history.specs.Pages.{page_count}
use Rattle.history.specs.Written.{kind_of, record_of}
use Rattle.history.proofs.Stores.{by_test}
use Rattle.history.proofs.WrittenLaws.{commands_done}
use Rattle.core_machine.specs.declared.crew.Crew.{Crew}
use Rattle.core_machine.specs.declared.machine.Machine.{Machine}
use Rattle.core_machine.specs.declared.pool.Pool.{Pool}
use Rattle.store_core.specs.declared.reply.Refusal.{Refusal}
use Rattle.store_core.specs.declared.reply.Refusal.TheVariants.{StoreFull, WalFull}
use Rattle.store_core.specs.declared.reply.Reply.TheVariants as reply
use Rattle.store_core.specs.State.{Part, State, end_of_wal, records_of}
use Rattle.store_core.specs.Parts.{dirty_after, works_after, part_after}
use Rattle.store_core.specs.Refusals.{most_pages, part_of_op, frames_for, page_total, judged_op, judged_total, judged_room, judged, command_record, is_past_room}
use Rattle.store_core.specs.Steps.{command_count, inserted, accepted}
use Rattle.core_machine.specs.Inside.{done_op, part_in, part_behind, worker_at, commands_at, HasGoodEdits, IsCrewCounted, HasAppended}
use Rattle.store_core.specs.InMemory.{done_items, published_in}
use Rattle.core_machine.specs.Shown.{finished_in, Shows, IsReached, HasStepped}
use Rattle.store_core.proofs.Judged.{judged-fit, judged-fresh, judged-own, part_below, formed}
use Rattle.store_core.proofs.Keeps.{kinds_same}
use Rattle.core_machine.proofs.Crews.{got_set}
use Rattle.core_machine.proofs.Showing.{reached_machine, records_push, tip_on, commands_more, entries_are, part_is, part_there}

-- ---- it is judged

frames_are : (m : Machine) (s : State) (q : ℕ) (d : Pool) (command : Op) → Shows m s → q ≡ part_of_op command → q < 4 → (get_or m.parts q d).frames ≡ frames_for s command
frames_are m s q d command shown is l = ap (λ (p : Part). p.frames) (part_is m s q d shown l) ∙ ap (λ (k : ℕ). (s.parts k).frames) is

pub judged_here : (m : Machine) (s : State) (q entries : ℕ) (d : Pool) (command : Op) (r : Option Refusal) → Shows m s → q ≡ part_of_op command → q < 4 → entries ≡ m.tip.count → r ≡ judged_op entries (get_or m.parts q d).frames command
    → judged_op (length s.history) (frames_for s command) command ≡ r
judged_here m s q entries d command r shown is l count told =
    sym (told ∙ ap (λ (n : ℕ). judged_op n (get_or m.parts q d).frames command) (entries_are m s entries shown count) ∙ ap (λ (x : Store). judged_op (length s.history) x command) (frames_are m s q d command shown is l))

pub good_edits : (entries : ℕ) (store : Store) (command : Op) → judged_op entries store command ≡ None → HasGoodEdits command
good_edits entries store (op.Create fork) e = tt
good_edits entries store (op.Truncate rel count) e = tt
good_edits entries store (op.Change items) e = (formed entries store items e).edits
good_edits entries store (op.Drop rel) e = tt

refused_as : (m : Machine) (s : State) (worker : ℕ) (command : Op) (why : Refusal) → Shows m s → judged s command ≡ Some why → HasStepped m (inserted s worker command (judged s command)) (reply.Refused why)
refused_as m s worker command why shown is = subst (λ (o : Option Refusal). HasStepped m (inserted s worker command o) (reply.Refused why)) (sym is) (shown, refl)

pub refused_step : (m : Machine) (s : State) (worker q entries : ℕ) (d : Pool) (command : Op) (why : Refusal) → Shows m s → q ≡ part_of_op command → q < 4 → entries ≡ m.tip.count → Some why ≡ judged_op entries (get_or m.parts q d).frames command
    → HasStepped m (inserted s worker command (judged s command)) (reply.Refused why)
refused_step m s worker q entries d command why shown is l count told =
    refused_as m s worker command why shown (ap (λ (o : Option Refusal). option_or o (option_or (judged_total s command) (judged_room s command))) (judged_here m s q entries d command (Some why) shown is l count told))

pub full_step : (m : Machine) (s : State) (worker q entries : ℕ) (d : Pool) (command : Op) (full : Bool) → Shows m s → q ≡ part_of_op command → q < 4 → entries ≡ m.tip.count → None ≡ judged_op entries (get_or m.parts q d).frames command
    → judged_total s command ≡ cond full (Some (StoreFull (length s.history))) None → full ≡ true → HasStepped m (inserted s worker command (judged s command)) (reply.Refused (StoreFull entries))
full_step m s worker q entries d command full shown is l count told total is_full =
    subst (λ (n : ℕ). HasStepped m (inserted s worker command (judged s command)) (reply.Refused (StoreFull n))) (sym (entries_are m s entries shown count))
    (refused_as m s worker command (StoreFull (length s.history)) shown
    (ap (λ (o : Option Refusal). option_or o (option_or (judged_total s command) (judged_room s command))) (judged_here m s q entries d command None shown is l count told)
    ∙ ap (λ (o : Option Refusal). option_or o (judged_room s command)) (total ∙ ap (λ c. cond c (Some (StoreFull (length s.history))) None) is_full)))

-- the record of a command
record_is : (m : Machine) (s : State) (q : ℕ) (d : Pool) (command : Op) (kind : Kind) → Shows m s → q ≡ part_of_op command → q < 4 → kind ≡ kind_of (get_or m.parts q d).frames m.tip.redo (act_of_op command)
    → record_at_tip m.settings.segment m.tip kind ≡ command_record s command
record_is m s q d command kind shown is l told =
    ap (λ (n : ℕ). record_at_tip n m.tip kind) shown.mib ∙ ap (record_at_tip s.mib m.tip) (told ∙ ap (λ (x : Store). kind_of x m.tip.redo (act_of_op command)) (frames_are m s q d command shown is l))
    ∙ ap (λ (t : Tip). record_at_tip s.mib t (kind_of (frames_for s command) t.redo (act_of_op command))) shown.tip

pub no_room_step : (m new : Machine) (s : State) (worker q entries : ℕ) (d e : Pool) (command : Op) (full : Bool) (kind : Kind) → Shows m s → q ≡ part_of_op command → q < 4 → entries ≡ m.tip.count → None ≡ judged_op entries (get_or m.parts q d).frames command
    → judged_total s command ≡ cond full (Some (StoreFull (length s.history))) None → full ≡ false → kind ≡ kind_of (get_or m.parts q e).frames m.tip.redo (act_of_op command)
    → wal_limit m.settings.segment < (record_at_tip m.settings.segment m.tip kind).end.0 → new ≡ m → HasStepped new (inserted s worker command (judged s command)) (reply.Refused (WalFull entries))
no_room_step m new s worker q entries d e command full kind shown is l count told total is_none kind_is past same =
    let r = record_is m s q e command kind shown is l kind_is in
    let out : is_past_room s (command_record s command) ≡ true =
    lt-ltb (wal_limit s.mib) (command_record s command).end.0 (subst (λ (n : ℕ). wal_limit n < (command_record s command).end.0) shown.mib (subst (λ (x : Record). wal_limit m.settings.segment < x.end.0) r past)) in
    subst (λ (x : Machine). HasStepped x (inserted s worker command (judged s command)) (reply.Refused (WalFull entries))) (sym same)
    (subst (λ (n : ℕ). HasStepped m (inserted s worker command (judged s command)) (reply.Refused (WalFull n))) (sym (entries_are m s entries shown count))
    (refused_as m s worker command (WalFull (length s.history)) shown
    (ap (λ (o : Option Refusal). option_or o (option_or (judged_total s command) (judged_room s command))) (judged_here m s q entries d command None shown is l count told)
    ∙ ap (λ (o : Option Refusal). option_or o (judged_room s command)) (total ∙ ap (λ c. cond c (Some (StoreFull (length s.history))) None) is_none)
    ∙ ap (λ c. cond c (Some (WalFull (length s.history))) None) out)))

-- ---- it is done

some_of : (o : Option Store) (store next : Store) → o ≡ Some next → unwrap_or o store ≡ next
some_of o store next e = rw e refl

items_done : (end : ℕ) (store next : Store) (items : List Item) → apply_items end store items ≡ Some next → done_items end store items ≡ next
items_done end store next [] e = cc
items_done end store next (item ∷ items) e =
    let b = bind_some (apply_item end store item) (λ x. apply_items end x items) next e in
    ap (λ (x : Store). done_items end x items) (some_of (apply_item end store item) store b.0 b.1) ∙ items_done end b.0 next items b.2

op_done : (entries end : ℕ) (store : Store) (command : Op) → judged_op entries store command ≡ None → done_op end store command ≡ unwrap_or (apply_op end store command) store
op_done entries end store (op.Create fork) e = refl
op_done entries end store (op.Truncate rel count) e = refl
op_done entries end store (op.Drop rel) e = refl
op_done entries end store (op.Change items) e =
    let done = commands_done end store (op.Change items) (judged-fit entries store (op.Change items) e) (judged-fresh entries store (op.Change items) e) in
    items_done end store done.0 items done.1 ∙ sym (some_of (apply_op end store (op.Change items)) store done.0 done.1)

pub total_is : (m : Machine) (s : State) (q total : ℕ) (d : Pool) (items : List Item) (pages : Store) → Shows m s → q ≡ part_of_op (op.Change items) → q < 4 → judged_op (length s.history) (frames_for s (op.Change items)) (op.Change items) ≡ None
    → pages ≡ done_items 0 (get_or m.parts q d).frames items → total ≡ page_total s q pages → judged_total s (op.Change items) ≡ cond (nat_lt most_pages total) (Some (StoreFull (length s.history))) None
total_is m s q total d items pages shown is l fit pages_is sum_is =
    let command = op.Change items in
    let done : pages ≡ unwrap_or (apply_op 0 (frames_for s command) command) (frames_for s command) =
    pages_is ∙ ap (λ (x : Store). done_items 0 x items) (frames_are m s q d command shown is l) ∙ op_done (length s.history) 0 (frames_for s command) command fit in
    ap (λ (n : ℕ). cond (nat_lt most_pages n) (Some (StoreFull (length s.history))) None)
    (sym (sum_is ∙ ap (page_total s q) done ∙ ap (λ (k : ℕ). page_total s k (unwrap_or (apply_op 0 (frames_for s command) command) (frames_for s command))) is))

pub count_is : (m : Machine) (s : State) (at part : ℕ) (d : Pool) (pages : Store) → Shows m s → at < 4 → (at == part) ≡ false → page_count (get_or m.parts at d).frames ≡ page_count (cond (at == part) pages (s.parts at).frames)
count_is m s at part d pages shown l away = ap (λ (p : Part). page_count p.frames) (part_is m s at d shown l) ∙ sym (ap (λ c. page_count (cond c pages (s.parts at).frames)) away)

part_same : (end entries : ℕ) (command : Op) (part : Part) → judged_op entries part.frames command ≡ None → part_behind end command part ≡ part_after end (act_of_op command) part
part_same end entries command part e =
    ap (λ (x : Store). record { frames = x; disk = part.disk; dirty = dirty_after part.dirty (act_of_op command); works = works_after part.frames part.works (act_of_op command); point = part.point }) (op_done entries end part.frames command e)

-- an accepted command
pub accept_step : (m a : Machine) (crew : Crew) (s : State) (worker q entries seq : ℕ) (d e f new : Pool) (command : Op) (full : Bool) (kind : Kind) (place : Place) → IsReached s → Shows m s → q ≡ part_of_op command → q < 4 → entries ≡ m.tip.count
    → None ≡ judged_op entries (get_or m.parts q d).frames command → judged_total s command ≡ cond full (Some (StoreFull (length s.history))) None → full ≡ false → kind ≡ kind_of (get_or m.parts q e).frames m.tip.redo (act_of_op command)
    → HasAppended m a kind place → part_in new ≡ part_behind place.end.0 command (part_in (get_or a.parts q f)) → seq ≡ commands_at a.crew.list.items worker → IsCrewCounted a.crew.list.items crew.list.items worker
    → HasStepped (record { settings = a.settings; records = a.records; tip = a.tip; summaries = a.summaries; summed = a.summed; parts = slice_set a.parts q new; crew = crew; finished = a.finished }) (inserted s worker command (judged s command)) (reply.Accepted (record { number = entries; seq = seq; place = place }))
accept_step m a crew s worker q entries seq d e f new command full kind place reached shown is l count told total is_none kind_is app part_new seq_is counted =
    let machine = reached_machine s reached in
    let act = act_of_op command in
    let k = part_of_op command in
    let r = command_record s command in
    let same : record_at_tip m.settings.segment m.tip kind ≡ r = record_is m s q e command kind shown is l kind_is in
    let none : judged_op (length s.history) (frames_for s command) command ≡ None = judged_here m s q entries d command None shown is l count told in
    let room : is_past_room s r ≡ false =
    le-ltb (wal_limit s.mib) r.end.0 (subst (λ (n : ℕ). r.end.0 ≤ wal_limit n) shown.mib (subst (λ (x : Record). x.end.0 ≤ wal_limit m.settings.segment) same app.room)) in
    let taken : judged s command ≡ None =
    ap (λ (o : Option Refusal). option_or o (option_or (judged_total s command) (judged_room s command))) none
    ∙ ap (λ (o : Option Refusal). option_or o (judged_room s command)) (total ∙ ap (λ c. cond c (Some (StoreFull (length s.history))) None) is_none) ∙ ap (λ c. cond c (Some (WalFull (length s.history))) None) room in
    let own = judged-own (length s.history) (frames_for s command) command none in
    let follows = machine.parts k (part_below command) in
    let written : r ≡ record_of s.mib machine.run.store (end_of_wal s) act = ap (record_at_tip s.mib (end_of_wal s)) (kinds_same k (end_of_wal s).redo machine.run.store (frames_for s command) act follows.frames own) in
    let n = command_count worker s.history in
    let number : seq ≡ n = seq_is ∙ ap (λ (x : Crew). commands_at x.list.items worker) app.crew ∙ shown.commands worker in
    let start : place.start ≡ r.start = app.start ∙ ap (λ (x : Record). x.start) same in
    let end : place.end ≡ r.end = app.end ∙ ap (λ (x : Record). x.end) same in
    let old : part_in (get_or a.parts q f) ≡ s.parts k = ap (λ (ps : List Pool). part_in (get_or ps q f)) app.parts ∙ part_is m s q f shown l ∙ ap (λ (j : ℕ). s.parts j) is in
    let behind : part_in new ≡ part_after r.end.0 act (s.parts k) =
    part_new ∙ ap (λ (x : _). part_behind x.0 command (part_in (get_or a.parts q f))) end ∙ ap (part_behind r.end.0 command) old ∙ part_same r.end.0 (length s.history) command (s.parts k) none in
    let there : q < length a.parts = subst (λ (ps : List Pool). q < length ps) (sym app.parts) (part_there m s q shown l) in
    let last : Machine = record { settings = a.settings; records = a.records; tip = a.tip; summaries = a.summaries; summed = a.summed; parts = slice_set a.parts q new; crew = crew; finished = a.finished } in
    let shown_last : Shows last (accepted s worker command r).0 = record {
      mib = ap (λ (x : _). x.segment) app.settings ∙ shown.mib;
      relseg = ap (λ (x : _). x.relseg) app.settings ∙ shown.relseg;
      published = ap (λ (x : _). map published_in x.items) app.summaries ∙ shown.published;
      summed = ap (λ (x : _). x.0) app.summed ∙ shown.summed;
      records = app.records ∙ ap (λ (rs : List Record). rs ++ (record_at_tip m.settings.segment m.tip kind ∷ [])) shown.records ∙ ap (λ (x : Record). records_of s ++ (x ∷ [])) same ∙ sym (records_push s act r worker (Some n) machine.run written);
      tip = app.tip ∙ ap (λ (x : Record). tip_after m.tip x) same ∙ ap (λ (t : Tip). tip_after t r) shown.tip ∙ sym (tip_on s act r worker (Some n) machine.run written);
      parts = λ p less. ap (option_map part_in) (got_set a.parts q new p there) ∙ by_test (p == q)
          (λ here.
          ap (λ c. option_map part_in (cond c (Some new) (slice_get a.parts p))) here ∙ ap (λ (x : Part). Some x) behind
          ∙ sym (ap (λ c. Some (cond c (part_after r.end.0 act (s.parts k)) (s.parts p))) (ap (λ (j : ℕ). p == j) (sym is) ∙ here)))
          (λ away.
          ap (λ c. option_map part_in (cond c (Some new) (slice_get a.parts p))) away ∙ ap (λ (ps : List Pool). option_map part_in (slice_get ps p)) app.parts ∙ shown.parts p less
          ∙ sym (ap (λ c. Some (cond c (part_after r.end.0 act (s.parts k)) (s.parts p))) (ap (λ (j : ℕ). p == j) (sym is) ∙ away)));
      workers = λ v. counted.workers v ∙ ap (λ (x : Crew). worker_at x.list.items v) app.crew ∙ shown.workers v;
      commands = λ v. counted.commands v ∙ ap (λ (x : Crew). cond (v == worker) (commands_at x.list.items v + 1) (commands_at x.list.items v)) app.crew
          ∙ ap (λ (j : ℕ). cond (v == worker) (j + 1) j) (shown.commands v) ∙ sym (commands_more s.history r act worker n v);
      finished = ap (λ (x : _). map finished_in x.items) app.finished ∙ shown.finished;
    } in
    subst (λ (o : Option Refusal). HasStepped last (inserted s worker command o) (reply.Accepted (record { number = entries; seq = seq; place = place }))) (sym taken)
    (shown_last, λ i. reply.Accepted (record { number = entries_are m s entries shown count i; seq = number i; place = record { start = start i; end = end i } }))
