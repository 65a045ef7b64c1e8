-- What the value under the WAL's lock keeps, behind entries and flushes.
use Rattle.std.proofs.Common.{◌≡◌, ℕ, ◌+◌, ◌<◌, ◌≤◌, Bool, true, false, List, [], ◌∷◌, ◌++◌, length, Option, Some, None, refl, sym, ap, subst, ◌∙◌, arith, inl, inr, is_some, true≢false, ◌||◌, ◌&&◌, not, cond, length-append}
use Rattle.std.specs.Prelude.{◌==◌}
use Rattle.std.specs.List.{list_any, filter}
use Rattle.std.proofs.lemmas.List.Elements.{filter-append}
use Rattle.std.proofs.lemmas.Bool.{eq-eqb, eqb-true}
use Rattle.lsn_core.specs.Segment.{StoreSettings}
use Rattle.lsn_core.specs.declared.lsn.Place.{Place}
use Rattle.vault.specs.declared.area.Vault.{Ghosts}
use Rattle.history.specs.declared.op.Op.{Op}
use Rattle.history.specs.declared.op.Op.TheVariants as op
use Rattle.history.specs.Entry.{Entry, Marking, is_of_run}
use Rattle.history.specs.Op.{act_of_op}
use Rattle.history.specs.partitions.Parts.{concerns, act_concerns, is_item_of, is_rel_of, partition_of, ConcernsNoOther}
use Rattle.journal.specs.Journal.{Written}
use Rattle.command_judging.specs.Refusals.{HasItems}
use Rattle.store_ledgers.specs.Counts.{Counts, Held, count_at, counted}
use Rattle.store_locks.specs.Open.{IsWalOf, AreCounts}
use Rattle.page_pool.specs.Facts.{IsPartOf}
use Rattle.store_locks.specs.Calls.{MayWriteWal, IsReceipt, IsMarkOf, IsMarkBy}
use Rattle.store_locks.specs.Inside.{AddsOnly, KeepsWal, IsNextOf, HasMark, written_end}
use Rattle.journal.specs.Lawful.{IsLawful}
use Rattle.page_pool.specs.Part.{Part}
use Rattle.store_locks.specs.declared.receipt.Receipt.{Receipt}
use Rattle.store_locks.specs.Seen.{is_by, is_mark_by, is_number, accepted_by, marks_by}
use Rattle.store_locks.specs.Locked.{RunsOn, IsDesk, IsHeldPart, WalStart, Standing, HasMoreMarks, HasRisen, made_in, own_count}
use Rattle.store_locks.proofs.Growths.{RunsBy, runs_more, runs_by_more, counts_more, counts_same}
use Rattle.store_locks.proofs.Keeping.{counted_here, counted_there, risen_stays}
use Rattle.store_locks.proofs.Goes.{writes_on, writes_none}
use Rattle.store_locks.proofs.Kept.{wal_after, resized}
use Rattle.store_locks.proofs.Tallies.{one_if, kept_more, counts_marked}

module _ {W : Type 0} (g : Ghosts W) (settings : StoreSettings) (tells : Type 0) (found : List Entry) (workers : ℕ) (from : WalStart) (start : ℕ) where
  since_adds : (mark : ℕ) (old new : Written W) → IsWalOf g settings tells old.wal mark → from.flushed ≤ old.wal.tail.flushed → AddsOnly old new → MayWriteWal settings.segment from.flushed (written_end old) from.files (g.files old.wal.area)
      → MayWriteWal settings.segment from.flushed (written_end new) from.files (g.files new.wal.area)
  since_adds mark old new wal within adds since =
      subst (λ (a : W). MayWriteWal settings.segment from.flushed (written_end new) from.files (g.files a)) (sym adds.area)
      (writes_on settings.segment from.flushed (written_end old) old.wal.tail.flushed (written_end new) from.files (g.files old.wal.area) (g.files old.wal.area)
      within (omega (arith, adds.within, adds.top)) adds.top since (writes_none settings.segment old.wal.tail.flushed (written_end new) (g.files old.wal.area)))

  -- behind more entries
  pub desk_adds : (old new : Written W) (mark faults : ℕ) (counts counts_now : List ℕ) (entries entries_now : Counts) (made made_now : ℕ) → IsDesk g settings tells found workers from start old mark counts entries made faults → AddsOnly old new
      → RunsBy workers found new.pen → AreCounts counts_now new.pen → length counts_now ≡ length counts → made_now ≡ length (made_in new.pen) → ((q : ℕ) → q < 4 → count_at q entries_now ≡ own_count q found new.pen)
      → IsDesk g settings tells found workers from start new mark counts_now entries_now made_now faults
  desk_adds old new mark faults counts counts_now entries entries_now made made_now d adds grown counted crew booked concerned = record {
    wal = wal_after g settings mark tells old new adds d.wal;
    grown = grown.0;
    of_run = grown.1;
    counted = counted;
    crew = crew ∙ d.crew;
    booked = booked;
    concerned_are = concerned;
    risen = subst (λ (a : W). HasRisen start faults (g.faults a)) (sym adds.area) d.risen;
    within = subst (λ n. from.flushed ≤ n) (sym adds.flushed) d.within;
    since = since_adds mark old new d.wal d.within adds d.since;
  }

  -- behind a flush
  pub desk_flushed : (old new : Written W) (mark mark_now faults faults_now : ℕ) (counts : List ℕ) (entries : Counts) (made : ℕ) → IsDesk g settings tells found workers from start old mark counts entries made faults → KeepsWal g old new
      → mark_now ≤ new.wal.tail.flushed → HasRisen start faults_now (g.faults new.wal.area) → IsDesk g settings tells found workers from start new mark_now counts entries made faults_now
  desk_flushed old new mark mark_now faults faults_now counts entries made d keeps marked risen =
      let ends : written_end new ≡ written_end old = cc (keeps.pen, keeps.segment) in
      record {
        wal = record {
          segment = keeps.segment ∙ d.wal.segment;
          system = keeps.system ∙ d.wal.system;
          flushed = marked;
          told = λ t. keeps.told (d.wal.told t);
        };
        grown = record { own = d.grown.own; all = keeps.pen ∙ d.grown.all; by = d.grown.by };
        of_run = d.of_run;
        counted = subst (AreCounts counts) (sym keeps.pen) d.counted;
        crew = d.crew;
        booked = d.booked ∙ ap (λ (h : List Entry). length (made_in h)) (sym keeps.pen);
        concerned_are = λ q lt. d.concerned_are q lt ∙ ap (own_count q found) (sym keeps.pen);
        risen = risen;
        within = omega (arith, d.within, keeps.flushed);
        since = subst (λ n. MayWriteWal settings.segment from.flushed n from.files (g.files new.wal.area)) (sym ends)
            (writes_on settings.segment from.flushed (written_end old) old.wal.tail.flushed (written_end old) from.files (g.files old.wal.area) (g.files new.wal.area)
            d.within (omega (arith, keeps.flushed, keeps.within)) (omega arith) d.since
            (subst (λ mib. MayWriteWal mib old.wal.tail.flushed (written_end old) (g.files old.wal.area) (g.files new.wal.area)) d.wal.segment keeps.files));
      }

pub wal_stays : {W : Type 0} (g : Ghosts W) (start booked : ℕ) (old new : Written W) → KeepsWal g old new → HasRisen start booked (g.faults old.wal.area) → HasRisen start booked (g.faults new.wal.area)
wal_stays g start booked old new keeps h = risen_stays start booked (g.faults old.wal.area) (g.faults new.wal.area) h keeps.faults

-- ---- an entry of a command

own_of : (q p : ℕ) → ((other : ℕ) → (other ≡ q → ⊥) → (p == other) ≡ false) → (p == q) ≡ true
own_of q p alone =
    elim (p == q) as (λ b. (p == q) ≡ b → b ≡ true) [
      | true ↦ λ e. refl
      | false ↦ λ e. absurd (true≢false (sym (eq-eqb p p refl) ∙ alone p (λ same. absurd (true≢false (sym (eq-eqb p q same) ∙ e)))))
    ] refl

or_none : (a b : Bool) → (a || b) ≡ false → a ≡ false
or_none true b e = absurd cc
or_none false b e = refl

or_some : (a b : Bool) → a ≡ true → (a || b) ≡ true
or_some a b e = rw e refl

-- the act of a command that concerns no other partition concerns this one
pub concerns_own : (q : ℕ) (command : Op) → HasItems command → ConcernsNoOther q (act_of_op command) → act_concerns q (act_of_op command) ≡ true
concerns_own q (op.Create fork) items alone = own_of q (partition_of fork.rel) alone
concerns_own q (op.Truncate rel count) items alone = own_of q (partition_of rel) alone
concerns_own q (op.Drop rel) items alone =
    or_some (is_rel_of q rel) false (own_of q (partition_of rel) (λ other apart. or_none (is_rel_of other rel) false (alone other apart)))
concerns_own q (op.Change []) items alone = absurd (omega (arith, items.0))
concerns_own q (op.Change (item ∷ items)) has alone =
    or_some (is_item_of q item) (list_any (is_item_of q) items)
    (own_of q (partition_of item.at.fork.rel) (λ other apart. or_none (is_item_of other item) (list_any (is_item_of other) items) (alone other apart)))

-- how many entries concern each partition, behind a command's and behind a mark
pub concerned_by : (q : ℕ) (found old new : List Entry) (command : Op) (c : Counts) → q < 4 → RunsOn found old → IsNextOf command old new → HasItems command → ConcernsNoOther q (act_of_op command) → ((p : ℕ) → p < 4 → count_at p c ≡ own_count p found old)
    → (p : ℕ) → p < 4 → count_at p (counted q c) ≡ own_count p found new
concerned_by q found old new command c lt runs next items alone are p less =
    let e : Entry = next.entry in
    elim (p == q) as (λ b. (p == q) ≡ b → count_at p (counted q c) ≡ own_count p found new) [
      | true ↦ λ is.
          let same : p ≡ q = eqb-true p q is in
          let here : concerns q e ≡ true = ap (act_concerns q) next.act ∙ concerns_own q command items alone in
          subst (λ n. count_at n (counted q c) ≡ own_count n found new) (sym same) (counted_here c q lt ∙ (ap (λ n. n + 1) (are q lt) ∙ sym (counts_more (concerns q) found old new e runs next.grown here)))
      | false ↦ λ is.
          let apart : p ≡ q → ⊥ = λ s. true≢false (sym (eq-eqb p q s) ∙ is) in
          let there : concerns p e ≡ false = ap (act_concerns p) next.act ∙ alone p apart in
          counted_there c q p lt less apart ∙ (are p less ∙ sym (counts_same (concerns p) found old new e runs next.grown there))
    ] refl

pub concerned_marked : (found old new : List Entry) (worker : ℕ) (marking : Marking) (place : Place) (c : Counts) → RunsOn found old → HasMark worker marking old new place → ((p : ℕ) → p < 4 → count_at p c ≡ own_count p found old)
    → (p : ℕ) → p < 4 → count_at p c ≡ own_count p found new
concerned_marked found old new worker marking place c runs mark are p less = are p less ∙ sym (counts_same (concerns p) found old new mark.entry runs mark.grown (ap (act_concerns p) mark.is.0))

some_worker : (o : Option ℕ) (worker : ℕ) → o ≡ Some worker → is_some o ≡ true
some_worker o worker e = ap (λ (x : Option ℕ). is_some x) e

mark_by : (a b : Option ℕ) (worker : ℕ) → a ≡ Some worker → b ≡ None → (is_number worker a && not (is_some b)) ≡ true
mark_by a b worker e f = rw (e, f, eq-eqb worker worker refl) refl

runs_marked : (workers : ℕ) (found old new : List Entry) (worker : ℕ) (marking : Marking) (place : Place) → worker < workers → ((e : Entry) → IsMarkOf worker marking e → IsMarkBy worker e) → RunsBy workers found old → HasMark worker marking old new place → RunsBy workers found new
runs_marked workers found old new worker marking place less kind runs mark =
    runs_by_more workers found old new mark.entry runs mark.grown (some_worker mark.entry.worker worker mark.is.1) (worker, less, inr (kind mark.entry mark.is))

by_both : (a : Option ℕ) (b : Option ℕ) (worker seq : ℕ) → a ≡ Some worker → b ≡ Some seq → (is_number worker a && is_some b) ≡ true
by_both a b worker seq e f = rw (e, f, eq-eqb worker worker refl) refl

runs_received : (workers : ℕ) (found old new : List Entry) (worker : ℕ) (command : Op) (receipt : Receipt) → worker < workers → RunsBy workers found old → IsReceipt worker command old new receipt → RunsBy workers found new
runs_received workers found old new worker command receipt less runs r =
    runs_by_more workers found old new r.entry runs r.grown (some_worker r.entry.worker worker r.by) (worker, less, inl (by_both r.entry.worker r.entry.seq worker receipt.seq r.by r.seq))

-- workers made one more entry
made_more : (old new : List Entry) (e : Entry) (worker made made_now : ℕ) → new ≡ old ++ (e ∷ []) → e.worker ≡ Some worker → made ≡ length (made_in old) → made_now ≡ made + 1 → made_now ≡ length (made_in new)
made_more old new e worker made made_now grown by all more =
    let one : one_if (is_of_run e) ≡ one_if true = ap one_if (some_worker e.worker worker by) in
    omega (arith, ap (λ (h : List Entry). length (made_in h)) grown, kept_more is_of_run old e, one, all, more)

-- behind a mark, which is booked
pub desk_marked : {W : Type 0} (g : Ghosts W) (settings : StoreSettings) (tells : Type 0) (found : List Entry) (workers : ℕ) (from : WalStart) (start : ℕ) (worker : ℕ) (marking : Marking) (place : Place) (old new last : Written W) (mark faults : ℕ) (counts : List ℕ) (entries : Counts) (made made_now : ℕ)
    → worker < workers → ((e : Entry) → IsMarkOf worker marking e → IsMarkBy worker e) → IsDesk g settings tells found workers from start old mark counts entries made faults → HasMark worker marking old.pen new.pen place → AddsOnly old new → last ≡ new → made_now ≡ made + 1
    → IsDesk g settings tells found workers from start last mark counts entries made_now faults
desk_marked {W} g settings tells found workers from start worker marking place old new last mark faults counts entries made made_now less kind d is adds same more =
    subst (λ (j : Written W). IsDesk g settings tells found workers from start j mark counts entries made_now faults) (sym same)
    (desk_adds g settings tells found workers from start old new mark faults counts counts entries entries made made_now d adds
    (runs_marked workers found old.pen new.pen worker marking place less kind (d.grown, d.of_run) is) (counts_marked counts old.pen new.pen is.entry d.counted is.grown is.is.2) refl
    (made_more old.pen new.pen is.entry worker made made_now is.grown is.is.1 d.booked more)
    (concerned_marked found old.pen new.pen worker marking place entries d.grown is d.concerned_are))

-- a mark is one that its worker hasn't seen
pub more_marks : (own : Standing) (old new : List Entry) (marking : Marking) (place : Place) → own.list ≡ old → HasMark own.worker marking old new place → HasMoreMarks own new
more_marks own old new marking place same is =
    let e : Entry = is.entry in
    let one : one_if (is_mark_by own.worker e) ≡ one_if true = ap one_if (mark_by e.worker e.seq own.worker is.is.1 is.is.2) in
    record {
      seen = (e ∷ [], ap (λ (l : List Entry). l ++ (e ∷ [])) same ∙ sym is.grown);
      more = omega (arith, ap (λ (l : List Entry). length (marks_by own.worker l)) same, ap (λ (l : List Entry). length (marks_by own.worker l)) is.grown, kept_more (is_mark_by own.worker) old e, one);
    }

pub runs_on_mark : (found old new : List Entry) (worker : ℕ) (marking : Marking) (place : Place) → RunsOn found old → HasMark worker marking old new place → RunsOn found new
runs_on_mark found old new worker marking place runs is = runs_more found old new is.entry runs is.grown (some_worker is.entry.worker worker is.is.1)

pub runs_next : (found old new : List Entry) (command : Op) → RunsOn found old → IsNextOf command old new → RunsOn found new
runs_next found old new command runs next = runs_more found old new next.entry runs next.grown next.own

pub desk_same : {W : Type 0} (g : Ghosts W) (settings : StoreSettings) (tells : Type 0) (found : List Entry) (workers : ℕ) (from : WalStart) (start : ℕ) (old new : Written W) (mark faults : ℕ) (counts counts_now : List ℕ) (entries : Counts) (made : ℕ) → new ≡ old → counts_now ≡ counts
    → IsDesk g settings tells found workers from start old mark counts entries made faults → IsDesk g settings tells found workers from start new mark counts_now entries made faults
desk_same {W} g settings tells found workers from start old new mark faults counts counts_now entries made same counted d =
    subst (λ (j : Written W). IsDesk g settings tells found workers from start j mark counts_now entries made faults) (sym same)
    (subst (λ l. IsDesk g settings tells found workers from start old mark l entries made faults) (sym counted) d)

-- the value under the WAL's lock behind a command
pub desk_inserted : {W : Type 0} (g : Ghosts W) (settings : StoreSettings) (tells : Type 0) (found : List Entry) (workers : ℕ) (from : WalStart) (start : ℕ) (q : ℕ) (command : Op) (worker : ℕ) (receipt : Receipt) (old new last : Written W) (mark faults : ℕ) (counts counts_now : List ℕ) (entries entries_now : Counts) (made made_now : ℕ)
    → IsDesk g settings tells found workers from start old mark counts entries made faults → AddsOnly old new → IsNextOf command old.pen new.pen → q < 4 → HasItems command → ConcernsNoOther q (act_of_op command) → worker < workers
    → IsReceipt worker command old.pen new.pen receipt → AreCounts counts_now new.pen → length counts_now ≡ length counts → entries_now ≡ counted q entries → made_now ≡ made + 1 → last ≡ new
    → IsDesk g settings tells found workers from start last mark counts_now entries_now made_now faults
desk_inserted {W} g settings tells found workers from start q command worker receipt old new last mark faults counts counts_now entries entries_now made made_now d adds next lt items alone known is are long entries_are made_are same =
    subst (λ (j : Written W). IsDesk g settings tells found workers from start j mark counts_now entries_now made_now faults) (sym same)
    (desk_adds g settings tells found workers from start old new mark faults counts counts_now entries entries_now made made_now d adds (runs_received workers found old.pen new.pen worker command receipt known (d.grown, d.of_run) is) are long
    (made_more old.pen new.pen is.entry worker made made_now is.grown is.by d.booked made_are)
    (λ p less. ap (λ c. count_at p c) entries_are ∙ concerned_by q found old.pen new.pen command entries lt d.grown next items alone d.concerned_are p less))

-- that under the partition's lock
pub held_inserted : (q start : ℕ) (settings : StoreSettings) (tells : Type 0) (found list old new last : List Entry) (command : Op) (part part_now : Part) (share share_now : Held) (faults : ℕ) → q < 4 → IsHeldPart q settings tells found start part list share faults → list ≡ old
    → RunsOn found old → IsNextOf command old new → HasItems command → ConcernsNoOther q (act_of_op command) → IsPartOf q part.relseg tells new part_now → (tells → IsLawful settings.segment new) → part_now.faults ≡ part.faults
    → share_now.amounts ≡ counted q share.amounts → share_now.parts ≡ share.parts → last ≡ new → IsHeldPart q settings tells found start part_now last share_now faults
held_inserted q start settings tells found list old new last command part part_now share share_now faults lt h up runs next items alone is lawful same amounts parts whole =
    let e : Entry = next.entry in
    let here : concerns q e ≡ true = ap (act_concerns q) next.act ∙ concerns_own q command items alone in
    subst (λ l. IsHeldPart q settings tells found start part_now l share_now faults) (sym whole)
    (record {
      is = resized q part.relseg settings.relseg tells new part_now h.is.relseg_is is;
      lawful = lawful;
      grown = runs_next found old new command runs next;
      whole = ap (λ c. count_at q c) parts ∙ h.whole;
      counted = ap (λ c. count_at q c) amounts ∙ (counted_here share.amounts q lt ∙ (ap (λ n. n + 1) (h.counted ∙ ap (own_count q found) up) ∙ sym (counts_more (concerns q) found old new e runs next.grown here)));
      risen = subst (λ n. HasRisen start faults n) (sym same) h.risen;
    })

-- and a worker that sees its command
pub accepted_more : (worker : ℕ) (command : Op) (old new : List Entry) (receipt : Receipt) → IsReceipt worker command old new receipt → length (accepted_by worker new) ≡ length (accepted_by worker old) + 1
accepted_more worker command old new receipt r =
    let is : is_by worker r.entry ≡ true = by_both r.entry.worker r.entry.seq worker receipt.seq r.by r.seq in
    let one : filter (is_by worker) (r.entry ∷ []) ≡ r.entry ∷ [] = ap (λ b. cond b (r.entry ∷ []) []) is in
    ap (λ (l : List Entry). length (accepted_by worker l)) r.grown
    ∙ (ap (λ (l : List Entry). length l) (filter-append (is_by worker) old (r.entry ∷ []))
    ∙ (length-append (filter (is_by worker) old) (filter (is_by worker) (r.entry ∷ [])) ∙ ap (λ (l : List Entry). length (accepted_by worker old) + length l) one))

pub no_fewer_marks : (worker : ℕ) (command : Op) (old new : List Entry) (receipt : Receipt) → IsReceipt worker command old new receipt → length (marks_by worker old) ≤ length (marks_by worker new)
no_fewer_marks worker command old new receipt r = omega (arith, ap (λ (l : List Entry). length (marks_by worker l)) r.grown, kept_more (is_mark_by worker) old r.entry)
