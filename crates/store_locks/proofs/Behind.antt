-- A command judged by a partition's pages, behind a history that the partition follows.
use Rattle.std.proofs.Common.{◌≡◌, ℕ, zero, suc, ◌+◌, ◌-◌, ◌^◌, ◌<◌, ◌≤◌, min, ◌&&◌, Bool, true, false, cond, List, [], ◌∷◌, ◌++◌, map, length, take, Option, Some, None, option_map, unwrap_or, refl, sym, ap, subst, ◌∙◌, arith, inl, inr}
use Rattle.std.specs.Prelude.{nat_lt}
use Rattle.std.specs.Option.{option_or}
use Rattle.std.specs.FinMap.{empty, get}
use Rattle.std.proofs.lemmas.Bool.{cases_lt, lt-ltb, le-ltb, ltb-false}
use Rattle.lsn_core.specs.Files.{Files}
use Rattle.lsn_core.specs.declared.ids.ForkId.{ForkId}
use Rattle.lsn_core.specs.declared.ids.BlockId.{BlockId}
use Rattle.lsn_core.specs.Store.{Store, ForkPages}
use Rattle.lsn_core.specs.Blocks.{with_cut_pages, without_fork}
use Rattle.lsn_core.specs.Tip.{Tip}
use Rattle.wal_record.specs.Tips.{wal_limit, record_at_tip}
use Rattle.wal_record.specs.declared.record.Kind.{Kind}
use Rattle.wal_writer.specs.Log.{Log, next_record}
use Rattle.history.specs.declared.op.Op.{Op}
use Rattle.history.specs.declared.op.Op.TheVariants as op
use Rattle.history.specs.declared.op.Item.{Item}
use Rattle.history.specs.Entry.{Entry}
use Rattle.history.specs.Apply.{main_fork, init_fork, apply_act, apply_all}
use Rattle.history.specs.Op.{act_of_op, apply_op, IsTidy}
use Rattle.history.specs.Whole.{is_named, is_patch}
use Rattle.history.specs.Laws.{IsFresh, AreFresh, HasGoodPages}
use Rattle.history.specs.Pages.{page_count}
use Rattle.history.specs.Written.{record_of, tip_of}
use Rattle.history.proofs.Counts.{page_count-insert, page_count-with_fork}
use Rattle.history.specs.partitions.Parts.{part_of, IsPart, ConcernsNoOther}
use Rattle.history.proofs.partitions.Folds.{parts_fold}
use Rattle.history.proofs.partitions.OwnActs.{own_done}
use Rattle.journal.specs.Journal.{IsTold, MayFollow}
use Rattle.journal.proofs.Follows.{empty_part, parts_follow}
use Rattle.journal.proofs.Parting.{kinds_told}
use Rattle.command_judging.specs.declared.fault.OpFault.{OpFault}
use Rattle.command_judging.specs.declared.fault.OpFault.TheVariants as why
use Rattle.page_pool.specs.declared.ready.Ready.{Ready}
use Rattle.page_pool.specs.Part.{Part}
use Rattle.command_judging.specs.Refusals.{judged_alone, judged_blocks, judged_edits, judged_items, judged_op, IsRefusedOp}
use Rattle.page_pool.specs.Ready.{IsChecked, done_at}
use Rattle.command_judging.proofs.Counted.{gone_pages}
use Rattle.command_judging.proofs.Items.{first_none}
use Rattle.command_judging.proofs.Judged.{blocks_on}
use Rattle.page_pool.proofs.PartsAlike.{judged_alike, counted_alike}
use Rattle.page_pool.proofs.Followed.{told}
use Rattle.store_faults.specs.declared.insert_fault.InsertFault.{InsertFault}
use Rattle.store_faults.specs.declared.insert_fault.InsertFault.TheVariants as fault
use Rattle.store_locks.specs.Refusals.{most_pages, fault_at, judged_form, judged_total, judged_room, judged_at, IsRefused, IsRefusedBehind}
use Rattle.page_pool.specs.Facts.{IsPartOf}
use Rattle.store_locks.specs.Inside.{pages_behind, is_over, IsAdmitted}

-- ---- the store behind a history, and a partition's part of it

pub record Known (q : ℕ) (log : Log) (history : List Entry) (pages : ℕ) (part : Store) : Type 0 where
  pub store : Store
  pub state : apply_all empty history ≡ Some store
  pub is : IsPart q store part
  pub tip : log.tip ≡ tip_of log.mib history
  pub counted : page_count store ≡ pages

same_store : (a b : Store) → Some a ≡ Some b → a ≡ b
same_store a b e = cc

pub known_of : (q : ℕ) (log : Log) (o : Option Files) (history : List Entry) (pages : ℕ) (part : Store) → IsTold log o history pages → apply_all empty (map (part_of q) history) ≡ Some part → Known q log history pages part
known_of q log o history pages part is made =
    let folded = parts_fold q empty is.lawful.store empty history (empty_part q) is.lawful.made in
    let same : folded.0 ≡ part = same_store folded.0 part (sym folded.1 ∙ made) in
    record { store = is.lawful.store; state = is.lawful.made; is = subst (IsPart q is.lawful.store) same folded.2; tip = is.tip; counted = is.counted }

pub part_made : (q relseg : ℕ) (tells : Type 0) (history : List Entry) (part : Part) → IsPartOf q relseg tells history part → tells → apply_all empty (map (part_of q) history) ≡ Some part.frames
part_made q relseg tells history part p tell = told part.disk (apply_all empty (map (part_of q) history) ≡ Some part.frames) (p.told tell) p.follows.made

-- ---- refusals

pub refused_is : (mib : ℕ) (store : Store) (tip : Tip) (command : Op) (f : InsertFault) → judged_at mib store tip command ≡ Some f → IsRefused mib store tip command f
refused_is mib store tip command (fault.NoFork n) e = e
refused_is mib store tip command (fault.ForkExists n) e = e
refused_is mib store tip command (fault.PastEnd n) e = e
refused_is mib store tip command (fault.NoBlock n) e = e
refused_is mib store tip command (fault.BadPage i n) e = e
refused_is mib store tip command (fault.BadFragment i j) e = e
refused_is mib store tip command fault.BlockCount e = e
refused_is mib store tip command fault.TwoRelations e = e
refused_is mib store tip command (fault.ForkFull n) e = e
refused_is mib store tip command (fault.StoreFull n) e = e
refused_is mib store tip command (fault.CutPastEnd n) e = e
refused_is mib store tip command (fault.Failed area) e = tt
refused_is mib store tip command fault.NoMemory e = tt
refused_is mib store tip command (fault.SameBlock i) e = e
refused_is mib store tip command (fault.WalFull n) e = e

-- behind a history whose WAL ends there
refused_behind : (log : Log) (history : List Entry) (store : Store) (command : Op) (f : InsertFault) → apply_all empty history ≡ Some store → log.tip ≡ tip_of log.mib history → IsRefused log.mib store log.tip command f
    → IsRefusedBehind log.mib history command f
refused_behind log history store command f state tip why = record { store = store; state = state; why = subst (λ t. IsRefused log.mib store t command f) tip why }

pub form_refuses : (log : Log) (o : Option Files) (history : List Entry) (pages : ℕ) (command : Op) (f : InsertFault) → IsTold log o history pages → Some f ≡ judged_form command → IsRefusedBehind log.mib history command f
form_refuses log o history pages command f is e =
    refused_behind log history is.lawful.store command f is.lawful.made is.tip (refused_is log.mib is.lawful.store log.tip command f (first_is (judged_form command) _ f (sym e)))
  where
    first_is : (a b : Option InsertFault) (f : InsertFault) → a ≡ Some f → option_or a b ≡ Some f
    first_is a b f e = rw e refl

pub memory_refuses : (log : Log) (history : List Entry) (store : Store) (command : Op) → apply_all empty history ≡ Some store → log.tip ≡ tip_of log.mib history → IsRefusedBehind log.mib history command fault.NoMemory
memory_refuses log history store command state tip = refused_behind log history store command fault.NoMemory state tip tt

second_is : (a : Option InsertFault) (b : Option OpFault) (c : Option InsertFault) (g : OpFault → InsertFault) (f : OpFault) → a ≡ None → b ≡ Some f → option_or a (option_or (option_map g b) c) ≡ Some (g f)
second_is a b c g f e d = rw (e, d) refl

-- it shows by itself that it can't be done
or_front : (a b c : Option OpFault) (f : OpFault) → option_or a b ≡ Some f → option_or a (option_or b c) ≡ Some f
or_front (Some x) b c f e = e
or_front None (Some y) c f e = e
or_front None None c f e = absurd cc

alone_first : (store : Store) (command : Op) (f : OpFault) → judged_alone command ≡ Some f → judged_op store command ≡ Some f
alone_first store (op.Create fork) f e = absurd cc
alone_first store (op.Truncate rel count) f e = absurd cc
alone_first store (op.Change items) f e = or_front (judged_blocks 0 [] items) (judged_edits 0 items) (judged_items 0 store items) f e
alone_first store (op.Drop rel) f e = absurd cc

pub alone_refuses : (log : Log) (o : Option Files) (history : List Entry) (pages : ℕ) (command : Op) (f : OpFault) (tip : Tip) (answer : InsertFault) → IsTold log o history pages → judged_form command ≡ None → judged_alone command ≡ Some f → tip ≡ log.tip
    → answer ≡ fault_at tip.count f → IsRefusedBehind log.mib history command answer
alone_refuses log o history pages command f tip answer is form alone same answer_is =
    subst (IsRefusedBehind log.mib history command) (ap (λ (t : Tip). fault_at t.count f) (sym same) ∙ sym answer_is)
    (refused_behind log history is.lawful.store command (fault_at log.tip.count f) is.lawful.made is.tip
    (refused_is log.mib is.lawful.store log.tip command (fault_at log.tip.count f)
    (second_is (judged_form command) (judged_op is.lawful.store command) _ (fault_at log.tip.count) f form (alone_first is.lawful.store command f alone))))

-- a partition refuses it
pub part_refuses : (q : ℕ) (log : Log) (history : List Entry) (pages : ℕ) (part : Store) (command : Op) (f : OpFault) → Known q log history pages part → ConcernsNoOther q (act_of_op command) → judged_form command ≡ None → IsRefusedOp part command f
    → IsRefusedBehind log.mib history command (fault_at log.tip.count f)
part_refuses q log history pages part command f k alone form refused = go f refused
  where
    by : (g : OpFault) → judged_op part command ≡ Some g → IsRefusedBehind log.mib history command (fault_at log.tip.count g)
    by g e =
        refused_behind log history k.store command (fault_at log.tip.count g) k.state k.tip
        (refused_is log.mib k.store log.tip command (fault_at log.tip.count g)
        (second_is (judged_form command) (judged_op k.store command) _ (fault_at log.tip.count) g form (sym (judged_alike q k.store part command k.is alone) ∙ e)))

    go : (g : OpFault) → IsRefusedOp part command g → IsRefusedBehind log.mib history command (fault_at log.tip.count g)
    go why.NoFork e = by why.NoFork e
    go why.ForkExists e = by why.ForkExists e
    go why.PastEnd e = by why.PastEnd e
    go why.NoBlock e = by why.NoBlock e
    go (why.BadPage i) e = by (why.BadPage i) e
    go (why.BadFragment i j) e = by (why.BadFragment i j) e
    go why.ForkFull e = by why.ForkFull e
    go why.CutPastEnd e = by why.CutPastEnd e
    go (why.SameBlock i) e = by (why.SameBlock i) e
    go why.NoMemory e = memory_refuses log history k.store command k.state k.tip

-- ---- how many pages there are

take_short : (n : ℕ) (xs : ForkPages) → length (take n xs) ≤ length xs
take_short zero xs = omega arith
take_short (suc n) [] = omega arith
take_short (suc n) (x ∷ xs) = (let rest = take_short n xs in omega (arith, rest))

cut_less : (store : Store) (fork : ForkId) (count : ℕ) (o : Option ForkPages) → get store fork ≡ o → page_count (with_cut_pages store fork count o) ≤ page_count store
cut_less store fork count None is = omega arith
cut_less store fork count (Some pages) is =
    let lost = page_count-insert store fork (take count pages) in
    let there = ap (λ (x : Option ForkPages). length (unwrap_or x [])) is in
    omega (arith, lost, there, take_short count pages)

-- behind a command
pub record Behind (store : Store) (command : Op) (pages added gone : ℕ) : Type 0 where
  pub last : Store
  pub done : apply_op 0 store command ≡ Some last
  pub before : page_count store ≡ pages
  pub counted : page_count last + gone ≡ pages + added

pub behind_of : (q : ℕ) (log : Log) (history : List Entry) (pages redo : ℕ) (old new : Part) (command : Op) (ready : Ready) → (k : Known q log history pages old.frames) → ConcernsNoOther q (act_of_op command) → new.frames ≡ old.frames
    → IsChecked old new command redo ready → Behind k.store command pages ready.added ready.gone
behind_of q log history pages redo old new command ready k alone same checked =
    let next : Store = done_at 0 ready.done old.frames in
    let made : apply_act 0 old.frames (act_of_op command) ≡ Some next = subst (λ s. apply_act 0 s (act_of_op command) ≡ Some (done_at 0 ready.done s)) same (checked.prepared.same 0 (omega arith)) in
    let on = own_done q 0 k.store old.frames next (act_of_op command) k.is alone made in
    let alike = counted_alike q 0 k.store old.frames next on.0 (act_of_op command) k.is alone made on.1 in
    record {
      last = on.0;
      done = on.1;
      before = k.counted;
      counted = omega (arith, alike, checked.counted 0 next made, k.counted);
    }

over_same : (m : ℕ) → nat_lt most_pages (min m (2 ^ 64 - 1)) ≡ nat_lt most_pages m
over_same m =
    elim (cases_lt most_pages m) [
      | inl lt ↦ lt-ltb most_pages (min m (2 ^ 64 - 1)) (omega (arith, lt)) ∙ sym (lt-ltb most_pages m lt)
      | inr le ↦ le-ltb most_pages (min m (2 ^ 64 - 1)) (omega (arith, le)) ∙ sym (le-ltb most_pages m le)
    ]

pub total_is : (n : ℕ) (store : Store) (command : Op) (pages added gone : ℕ) → Behind store command pages added gone
    → judged_total n store command ≡ cond (is_over command (pages_behind pages added gone)) (Some (fault.StoreFull n)) None
total_is n store (op.Create fork) pages added gone b = refl
total_is n store (op.Truncate rel count) pages added gone b = refl
total_is n store (op.Drop rel) pages added gone b = refl
total_is n store (op.Change items) pages added gone b =
    let there : page_count (unwrap_or (apply_op 0 store (op.Change items)) store) ≡ pages + added - gone =
    ap (λ (o : Option Store). page_count (unwrap_or o store)) b.done ∙ (let c = b.counted in omega (arith, c)) in
    ap (λ t. cond t (Some (fault.StoreFull n)) None) (ap (nat_lt most_pages) there ∙ sym (over_same (pages + added - gone)))

exact_less : (n pages added gone : ℕ) → n ≤ pages → pages < 2 ^ 64 → n + gone ≡ pages + added → min (pages + added - gone) (2 ^ 64 - 1) + gone ≡ pages + added
exact_less n pages added gone less fits counted = omega (arith, less, fits, counted)

exact_most : (n pages added gone : ℕ) → n + gone ≡ pages + added → min (pages + added - gone) (2 ^ 64 - 1) ≤ most_pages → min (pages + added - gone) (2 ^ 64 - 1) + gone ≡ pages + added
exact_most n pages added gone counted most = omega (arith, counted, most)

some_is : (a b : Store) → Some a ≡ Some b → a ≡ b
some_is a b e = cc

pub exact : (store : Store) (command : Op) (pages added gone : ℕ) → Behind store command pages added gone → pages < 2 ^ 64 → is_over command (pages_behind pages added gone) ≡ false → pages_behind pages added gone + gone ≡ pages + added
exact store (op.Create fork) pages added gone b fits over =
    exact_less (page_count b.last) pages added gone (omega (arith, page_count-with_fork store fork, ap page_count (some_is _ b.last b.done), b.before)) fits b.counted
exact store (op.Truncate rel count) pages added gone b fits over =
    exact_less (page_count b.last) pages added gone (omega (arith, cut_less store (main_fork rel) count (get store (main_fork rel)) refl, ap page_count (some_is _ b.last b.done), b.before)) fits b.counted
exact store (op.Drop rel) pages added gone b fits over =
    exact_less (page_count b.last) pages added gone (omega (arith, gone_pages store (main_fork rel), gone_pages (without_fork store (main_fork rel)) (init_fork rel), ap page_count (some_is _ b.last b.done), b.before)) fits b.counted
exact store (op.Change items) pages added gone b fits over = exact_most (page_count b.last) pages added gone b.counted (ltb-false most_pages (pages_behind pages added gone) over)

third_is : (a : Option InsertFault) (b : Option OpFault) (c d : Option InsertFault) (g : OpFault → InsertFault) (f : InsertFault) → a ≡ None → b ≡ None → c ≡ Some f → option_or a (option_or (option_map g b) (option_or c d)) ≡ Some f
third_is a b c d g f e h i = rw (e, h, i) refl

taken_by : (q : ℕ) (log : Log) (history : List Entry) (pages : ℕ) (part : Store) (command : Op) → (k : Known q log history pages part) → ConcernsNoOther q (act_of_op command) → judged_op part command ≡ None → judged_op k.store command ≡ None
taken_by q log history pages part command k alone e = sym (judged_alike q k.store part command k.is alone) ∙ e

-- the store would have too many
pub full_refuses : (q : ℕ) (log : Log) (history : List Entry) (pages redo : ℕ) (old new : Part) (command : Op) (ready : Ready) → Known q log history pages old.frames → ConcernsNoOther q (act_of_op command) → new.frames ≡ old.frames → judged_form command ≡ None
    → IsChecked old new command redo ready → is_over command (pages_behind pages ready.added ready.gone) ≡ true → IsRefusedBehind log.mib history command (fault.StoreFull log.tip.count)
full_refuses q log history pages redo old new command ready k alone same form checked over =
    let b = behind_of q log history pages redo old new command ready k alone same checked in
    let total : judged_total log.tip.count k.store command ≡ Some (fault.StoreFull log.tip.count) =
    total_is log.tip.count k.store command pages ready.added ready.gone b ∙ ap (λ t. cond t (Some (fault.StoreFull log.tip.count)) None) over in
    refused_behind log history k.store command (fault.StoreFull log.tip.count) k.state k.tip
    (refused_is log.mib k.store log.tip command (fault.StoreFull log.tip.count)
    (third_is (judged_form command) (judged_op k.store command) _ _ (fault_at log.tip.count) (fault.StoreFull log.tip.count) form (taken_by q log history pages old.frames command k alone checked.taken) total))

-- ---- a command that nothing but the WAL's room refuses

pub admitted : (q : ℕ) (log : Log) (history : List Entry) (pages : ℕ) (old new : Part) (command : Op) (ready : Ready) → Known q log history pages old.frames → ConcernsNoOther q (act_of_op command) → new.frames ≡ old.frames → judged_form command ≡ None
    → IsChecked old new command log.tip.redo ready → is_over command (pages_behind pages ready.added ready.gone) ≡ false → IsAdmitted log history command ready.kind
admitted q log history pages old new command ready k alone same form checked over =
    let b = behind_of q log history pages log.tip.redo old new command ready k alone same checked in
    record {
      store = k.store;
      state = k.state;
      tip = k.tip;
      form = form;
      taken = taken_by q log history pages old.frames command k alone checked.taken;
      total = total_is log.tip.count k.store command pages ready.added ready.gone b ∙ ap (λ t. cond t (Some (fault.StoreFull log.tip.count)) None) over;
      kind_is = checked.kind ∙ kinds_told q log.tip.redo k.store old.frames (act_of_op command) k.is alone;
    }

no_repeat : (a b : Bool) → b ≡ false → (a && b) ≡ false
no_repeat true b e = e
no_repeat false b e = refl

fresh_items : (i : ℕ) (named : List BlockId) (items : List Item) → judged_blocks i named items ≡ None → AreFresh named items
fresh_items i named [] e = tt
fresh_items i named (item ∷ items) e =
    let parts = blocks_on i named item items e in
    (no_repeat (is_patch item.edit) (is_named item.at named) parts.0, fresh_items (i + 1) (named ++ (item.at ∷ [])) items parts.1)

fresh_act : (store : Store) (command : Op) → judged_op store command ≡ None → IsFresh (act_of_op command)
fresh_act store (op.Create fork) e = tt
fresh_act store (op.Truncate rel count) e = tt
fresh_act store (op.Drop rel) e = tt
fresh_act store (op.Change items) e = fresh_items 0 [] items (first_none (judged_blocks 0 [] items) (option_or (judged_edits 0 items) (judged_items 0 store items)) e).0

pub may_follow : (q : ℕ) (log : Log) (o : Option Files) (history : List Entry) (pages : ℕ) (old new : Part) (command : Op) (ready : Ready) → IsTold log o history pages → (k : Known q log history pages old.frames)
    → apply_all empty (map (part_of q) history) ≡ Some old.frames → ConcernsNoOther q (act_of_op command) → new.frames ≡ old.frames → HasGoodPages (act_of_op command) → IsChecked old new command log.tip.redo ready → pages < 2 ^ 64
    → is_over command (pages_behind pages ready.added ready.gone) ≡ false → MayFollow log.mib history (act_of_op command) ready.kind (pages_behind pages ready.added ready.gone)
may_follow q log o history pages old new command ready is k made alone same good checked fits over =
    let b = behind_of q log history pages log.tip.redo old new command ready k alone same checked in
    let done : (end : ℕ) → end < 2 ^ 64 → apply_act end old.frames (act_of_op command) ≡ Some (done_at end ready.done old.frames) =
    λ end small. subst (λ s. apply_act end s (act_of_op command) ≡ Some (done_at end ready.done s)) same (checked.prepared.same end small) in
    parts_follow log o history pages q ready.gone ready.added (pages_behind pages ready.added ready.gone) old.frames (act_of_op command) ready.kind is made alone checked.kind (subst (λ s. IsTidy s (act_of_op command)) same checked.prepared.tidy)
    (fresh_act old.frames command checked.taken) good (λ end small. (done_at end ready.done old.frames, done end small, checked.counted end _ (done end small))) (exact k.store command pages ready.added ready.gone b fits over)

-- ---- the room of the WAL

fourth_is : (a : Option InsertFault) (b : Option OpFault) (c d : Option InsertFault) (g : OpFault → InsertFault) → a ≡ None → b ≡ None → c ≡ None → option_or a (option_or (option_map g b) (option_or c d)) ≡ d
fourth_is a b c d g e h i = rw (e, h, i) refl

pub judged_there : (log : Log) (history : List Entry) (command : Op) (kind : Kind) → (a : IsAdmitted log history command kind) → judged_at log.mib a.store log.tip command ≡ judged_room log.mib a.store log.tip command
judged_there log history command kind a = fourth_is (judged_form command) (judged_op a.store command) (judged_total log.tip.count a.store command) (judged_room log.mib a.store log.tip command) (fault_at log.tip.count) a.form a.taken a.total

pub record_is : (log : Log) (history : List Entry) (command : Op) (kind : Kind) → (a : IsAdmitted log history command kind) → next_record log kind ≡ record_of log.mib a.store log.tip (act_of_op command)
record_is log history command kind a = ap (record_at_tip log.mib log.tip) a.kind_is

pub room_refuses : (log : Log) (history : List Entry) (command : Op) (kind : Kind) → IsAdmitted log history command kind → wal_limit log.mib < (next_record log kind).end.0 → IsRefusedBehind log.mib history command (fault.WalFull log.tip.count)
room_refuses log history command kind a past =
    let r = record_is log history command kind a in
    let over : nat_lt (wal_limit log.mib) (record_of log.mib a.store log.tip (act_of_op command)).end.0 ≡ true = lt-ltb _ _ (subst (λ x. wal_limit log.mib < x.end.0) r past) in
    refused_behind log history a.store command (fault.WalFull log.tip.count) a.state a.tip
    (refused_is log.mib a.store log.tip command (fault.WalFull log.tip.count) (judged_there log history command kind a ∙ ap (λ t. cond t (Some (fault.WalFull log.tip.count)) None) over))
