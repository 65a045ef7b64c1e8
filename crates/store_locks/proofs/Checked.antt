-- What judging a command in a partition answers, and its entry.
use Rattle.std.proofs.Common.{◌≡◌, ℕ, ◌^◌, ◌<◌, ◌≤◌, Bool, true, false, cond, List, [], ◌∷◌, ◌++◌, length, Option, Some, None, Err, refl, sym, ap, subst, ◌∙◌, arith}
use Rattle.std.specs.Prelude.{nat_lt}
use Rattle.std.proofs.lemmas.Bool.{le-ltb}
use Rattle.lsn_core.specs.Files.{Files}
use Rattle.lsn_core.specs.Tip.{Tip, tip_with}
use Rattle.wal_record.specs.Spelling.{total_of}
use Rattle.wal_record.specs.Tips.{first_tip, wal_limit}
use Rattle.wal_record.specs.declared.record.Record.{Record}
use Rattle.wal_record.specs.declared.record.Kind.{Kind}
use Rattle.wal_writer.specs.declared.fault.AppendFault.{AppendFault}
use Rattle.wal_writer.specs.declared.fault.AppendFault.TheVariants.{WalFull}
use Rattle.wal_writer.specs.Answers.{AppendAnswer}
use Rattle.wal_writer.specs.Log.{Log, IsLog, next_record}
use Rattle.history.specs.declared.op.Op.{Op}
use Rattle.history.specs.Entry.{Entry}
use Rattle.history.specs.Op.{act_of_op}
use Rattle.history.specs.Laws.{HasGoodPages}
use Rattle.history.specs.Written.{record_of, tip_past, tip_over, tip_of}
use Rattle.history.specs.partitions.Parts.{ConcernsNoOther}
use Rattle.journal.specs.Journal.{EndsWith, IsTold, MayFollow, entry_at}
use Rattle.journal.proofs.Stands.{start_later, end_later}
use Rattle.command_judging.specs.declared.fault.OpFault.{OpFault}
use Rattle.page_pool.specs.declared.ready.Ready.{Ready}
use Rattle.page_pool.specs.Part.{Part}
use Rattle.page_pool.specs.Facts.{history_end}
use Rattle.page_pool.specs.Steps.{HasApplied}
use Rattle.page_pool.specs.Calls.{SameUnwritten, SameDisk}
use Rattle.command_judging.specs.Refusals.{IsRefusedOp}
use Rattle.page_pool.specs.Ready.{IsReady, IsChecked, IsOfOp, AreGoodPages, HasRoomFor, done_at}
use Rattle.store_faults.specs.declared.insert_fault.InsertFault.{InsertFault}
use Rattle.store_faults.specs.declared.insert_fault.InsertFault.TheVariants as fault
use Rattle.store_locks.specs.Seen.{accepted_by}
use Rattle.store_locks.specs.Refusals.{fault_at, judged_form, judged_at, IsRefusedBehind}
use Rattle.page_pool.specs.Facts.{IsPartOf}
use Rattle.store_locks.specs.Calls.{IsReceipt, IsTaken}
use Rattle.store_locks.specs.Inside.{pages_behind, is_over, IsAdmitted, IsNextOf}
use Rattle.store_locks.proofs.Kept.{own_kept}
use Rattle.store_locks.proofs.Behind.{Known, known_of, part_made, part_refuses, full_refuses, admitted, may_follow, judged_there, record_is, room_refuses, memory_refuses}

-- ---- judging

pub refused_in : (q relseg : ℕ) (log : Log) (o : Option Files) (history : List Entry) (pages : ℕ) (tells : Type 0) (part : Part) (command : Op) (f : OpFault) (tip : Tip) (answer : InsertFault) → IsTold log o history pages → IsPartOf q relseg tells history part → tells
    → ConcernsNoOther q (act_of_op command) → judged_form command ≡ None → IsRefusedOp part.frames command f → tip ≡ log.tip → answer ≡ fault_at tip.count f → IsRefusedBehind log.mib history command answer
refused_in q relseg log o history pages tells part command f tip answer is p tell alone form why same answer_is =
    subst (IsRefusedBehind log.mib history command) (ap (λ (t : Tip). fault_at t.count f) (sym same) ∙ sym answer_is)
    (part_refuses q log history pages part.frames command f (known_of q log o history pages part.frames is (part_made q relseg tells history part p tell)) alone form why)

-- what is known of the judging where areas tell their files
record Judging (q : ℕ) (log : Log) (history : List Entry) (pages : ℕ) (old new : Part) (command : Op) (ready : Ready) (over : Bool) : Type 0 where
  known : Known q log history pages old.frames
  checked : IsChecked old new command log.tip.redo ready
  over_is : is_over command (pages_behind pages ready.added ready.gone) ≡ over

behind_as : (p a g n pages added gone : ℕ) → p ≡ pages → a ≡ added → g ≡ gone → n ≡ pages_behind p a g → pages_behind pages added gone ≡ n
behind_as p a g n pages added gone e f h is = ap (λ x. pages_behind x added gone) (sym e) ∙ (ap (λ x. pages_behind p x gone) (sym f) ∙ (ap (pages_behind p a) (sym h) ∙ sym is))

judging : (q relseg : ℕ) (log : Log) (o : Option Files) (history : List Entry) (pages : ℕ) (tells : Type 0) (old new : Part) (command : Op) (ready : Ready) (tip : Tip) (n : ℕ) (over : Bool) → IsTold log o history pages → IsPartOf q relseg tells history old
    → tells → tip ≡ log.tip → IsChecked old new command tip.redo ready → pages_behind pages ready.added ready.gone ≡ n → is_over command n ≡ over → Judging q log history pages old new command ready over
judging q relseg log o history pages tells old new command ready tip n over is p tell same checked n_is over_is = record {
  known = known_of q log o history pages old.frames is (part_made q relseg tells history old p tell);
  checked = subst (λ (t : Tip). IsChecked old new command t.redo ready) same checked;
  over_is = ap (is_over command) n_is ∙ over_is;
}

pub full_in : (q relseg : ℕ) (log : Log) (o : Option Files) (history : List Entry) (pages : ℕ) (tells : Type 0) (old new : Part) (command : Op) (ready : Ready) (tip : Tip) (p a g n : ℕ) → IsTold log o history pages → IsPartOf q relseg tells history old → tells
    → ConcernsNoOther q (act_of_op command) → judged_form command ≡ None → SameUnwritten old new → tip ≡ log.tip → IsChecked old new command tip.redo ready → p ≡ pages → a ≡ ready.added → g ≡ ready.gone → n ≡ pages_behind p a g → is_over command n ≡ true
    → IsRefusedBehind log.mib history command (fault.StoreFull tip.count)
full_in q relseg log o history pages tells old new command ready tip p a g n is of tell alone form kept same checked e f h n_is over =
    let j = judging q relseg log o history pages tells old new command ready tip n true is of tell same checked (behind_as p a g n pages ready.added ready.gone e f h n_is) over in
    subst (λ (t : Tip). IsRefusedBehind log.mib history command (fault.StoreFull t.count)) (sym same)
    (full_refuses q log history pages log.tip.redo old new command ready j.known alone kept.frames form j.checked j.over_is)

pub admitted_in : (q relseg : ℕ) (log : Log) (o : Option Files) (history : List Entry) (pages : ℕ) (tells : Type 0) (old new : Part) (command : Op) (ready : Ready) (tip : Tip) (p a g n : ℕ) → IsTold log o history pages → IsPartOf q relseg tells history old → tells
    → ConcernsNoOther q (act_of_op command) → judged_form command ≡ None → SameUnwritten old new → tip ≡ log.tip → IsChecked old new command tip.redo ready → p ≡ pages → a ≡ ready.added → g ≡ ready.gone → n ≡ pages_behind p a g → is_over command n ≡ false
    → IsAdmitted log history command ready.kind
admitted_in q relseg log o history pages tells old new command ready tip p a g n is of tell alone form kept same checked e f h n_is over =
    let j = judging q relseg log o history pages tells old new command ready tip n false is of tell same checked (behind_as p a g n pages ready.added ready.gone e f h n_is) over in
    admitted q log history pages old new command ready j.known alone kept.frames form j.checked j.over_is

pub follows_in : (q relseg : ℕ) (log : Log) (o : Option Files) (history : List Entry) (pages : ℕ) (tells : Type 0) (old new : Part) (command : Op) (ready : Ready) (tip : Tip) (p a g n : ℕ) → IsTold log o history pages → IsPartOf q relseg tells history old → tells
    → ConcernsNoOther q (act_of_op command) → HasGoodPages (act_of_op command) → p < 2 ^ 64 → SameUnwritten old new → tip ≡ log.tip → IsChecked old new command tip.redo ready → p ≡ pages → a ≡ ready.added → g ≡ ready.gone → n ≡ pages_behind p a g
    → is_over command n ≡ false → MayFollow log.mib history (act_of_op command) ready.kind n
follows_in q relseg log o history pages tells old new command ready tip p a g n is of tell alone good fits kept same checked e f h n_is over =
    let n_as = behind_as p a g n pages ready.added ready.gone e f h n_is in
    let j = judging q relseg log o history pages tells old new command ready tip n false is of tell same checked n_as over in
    subst (MayFollow log.mib history (act_of_op command) ready.kind) n_as
    (may_follow q log o history pages old new command ready is j.known (part_made q relseg tells history old of tell) alone kept.frames good j.checked (omega (arith, fits, e)) j.over_is)

-- ---- what appending it answers

pub room_in : (log new : Log) (history : List Entry) (command : Op) (kind : Kind) (tip : Tip) (f : AppendFault) → IsAdmitted log history command kind → tip ≡ log.tip → f ≡ WalFull → AppendAnswer kind log new (Err f)
    → IsRefusedBehind log.mib history command (fault.WalFull tip.count)
room_in log new history command kind tip f a same full answer =
    let past = subst (λ x. AppendAnswer kind log new (Err x)) full answer in
    subst (λ (t : Tip). IsRefusedBehind log.mib history command (fault.WalFull t.count)) (sym same) (room_refuses log history command kind a past.1)

pub memory_in : (log : Log) (history : List Entry) (command : Op) (kind : Kind) → IsAdmitted log history command kind → IsRefusedBehind log.mib history command fault.NoMemory
memory_in log history command kind a = memory_refuses log history a.store command a.state a.tip

pub receipt_of : (worker : ℕ) (command : Op) (old new : List Entry) (r : Record) (n seq : ℕ) → new ≡ old ++ (entry_at r (act_of_op command) worker (Some seq) ∷ []) → n ≡ length old → seq ≡ length (accepted_by worker old)
    → IsReceipt worker command old new (record { number = n; seq = seq; place = record { start = r.start; end = r.end } })
receipt_of worker command old new r n seq grown number next = record {
  entry = entry_at r (act_of_op command) worker (Some seq);
  grown = grown;
  act = refl;
  by = refl;
  seq = refl;
  number = number;
  next = next;
  start = refl;
  end = refl;
}

pub taken_of : (log : Log) (command : Op) (history : List Entry) (kind : Kind) (r : Record) (n seq : ℕ) → IsAdmitted log history command kind → r ≡ next_record log kind → r.end.0 ≤ wal_limit log.mib
    → IsTaken log.mib command history (record { number = n; seq = seq; place = record { start = r.start; end = r.end } })
taken_of log command history kind r n seq a r_is room =
    let there : r ≡ record_of log.mib a.store log.tip (act_of_op command) = r_is ∙ record_is log history command kind a in
    let fits : nat_lt (wal_limit log.mib) (record_of log.mib a.store log.tip (act_of_op command)).end.0 ≡ false = le-ltb _ _ (subst (λ (x : Record). x.end.0 ≤ wal_limit log.mib) there room) in
    let taken : judged_at log.mib a.store log.tip command ≡ None = judged_there log history command kind a ∙ ap (λ t. cond t (Some (fault.WalFull log.tip.count)) None) fits in
    record {
      store = a.store;
      state = a.state;
      taken = subst (λ t. judged_at log.mib a.store t command ≡ None) a.tip taken;
      start = ap (λ (x : Record). x.start) there ∙ ap (λ t. (record_of log.mib a.store t (act_of_op command)).start) a.tip;
      end = ap (λ (x : Record). x.end) there ∙ ap (λ t. (record_of log.mib a.store t (act_of_op command)).end) a.tip;
    }

-- ---- its entry

over_end : (a b : Tip) (es : List Entry) → a.end ≡ b.end → (tip_over a es).end ≡ (tip_over b es).end
over_end a b [] e = e
over_end a b (x ∷ es) e = over_end (tip_past a x) (tip_past b x) es refl

pub history_within : (mib : ℕ) (history : List Entry) → history_end history ≤ (tip_of mib history).end
history_within mib [] = omega arith
history_within mib (e ∷ es) = (let same = over_end (tip_past (tip_with 0 0 0 0) e) (tip_past (first_tip mib) e) es refl in omega (arith, same))

-- an entry that comes next starts behind the history, and ends past its start
pub comes_behind : (log : Log) (history : List Entry) (kind : Kind) (r : Record) → IsLog log → EndsWith log history → r ≡ next_record log kind → (history_end history ≤ r.start.0) × (r.start.0 < r.end.0)
comes_behind log history kind r is ends r_is =
    let start : log.tip.end ≤ (next_record log kind).start.0 = start_later log.mib log.tip.end in
    let end : (next_record log kind).start.0 < (next_record log kind).end.0 = end_later log.mib log.tip.end (total_of kind) is.segment.least (omega arith) in
    let at = ap (λ (x : Record). x.start.0) r_is in
    let to = ap (λ (x : Record). x.end.0) r_is in
    (omega (arith, history_within log.mib history, ends.end, start, at), omega (arith, end, at, to))

pub next_of : (log : Log) (command : Op) (old new : List Entry) (kind : Kind) (worker seq : ℕ) (r : Record) → IsLog log → EndsWith log old → r ≡ next_record log kind → new ≡ old ++ (entry_at r (act_of_op command) worker (Some seq) ∷ []) → IsNextOf command old new
next_of log command old new kind worker seq r is ends r_is grown =
    let behind = comes_behind log old kind r is ends r_is in
    record { entry = entry_at r (act_of_op command) worker (Some seq); grown = grown; act = refl; own = refl; late = omega (arith, behind.0, behind.1) }

pub ready_as : (part : Part) (command : Op) (a b : Ready) → b.done ≡ a.done → IsReady part command a → IsReady part command b
ready_as part command a b same is = record {
  tidy = is.tidy;
  same = λ end small. is.same end small ∙ ap (λ d. Some (done_at end d part.frames)) (sym same);
  named = subst (IsOfOp command) (sym same) is.named;
  good = subst AreGoodPages (sym same) is.good;
  room = subst (HasRoomFor part.framed part.work_room) (sym same) is.room;
}

pub done_in : (q relseg : ℕ) (tells : Type 0) (log : Log) (command : Op) (history new_history : List Entry) (kind : Kind) (worker seq : ℕ) (r : Record) (old new : Part) → IsLog log → EndsWith log history → r ≡ next_record log kind
    → new_history ≡ history ++ (entry_at r (act_of_op command) worker (Some seq) ∷ []) → ConcernsNoOther q (act_of_op command) → HasApplied r.end.0 (act_of_op command) old new → SameDisk old new → IsPartOf q relseg tells history old
    → IsPartOf q relseg tells new_history new
done_in q relseg tells log command history new_history kind worker seq r old new is ends r_is grown alone applied area p =
    let behind = comes_behind log history kind r is ends r_is in
    subst (λ h. IsPartOf q relseg tells h new) (sym grown) (own_kept q relseg tells history (entry_at r (act_of_op command) worker (Some seq)) old new behind.0 (omega (arith, behind.1)) alone refl applied area p)
