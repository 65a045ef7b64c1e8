-- A journal's log tells its history: with one more entry, after a flush, and after one that failed.
use Rattle.std.proofs.Common.{◌≡◌, ℕ, ◌+◌, ◌-◌, ◌^◌, ◌<◌, ◌≤◌, max, Bool, true, cond, List, [], ◌∷◌, ◌++◌, length, Option, Some, None, option_map, Result, Ok, Err, OnOk, OnErr, refl, sym, ap, subst, ◌∙◌, arith, append_assoc, inl, inr}
use Rattle.std.specs.Prelude.{IfSome}
use Rattle.std.proofs.lemmas.Bool.{cases_lt, ne_eqb}
use Rattle.std.proofs.lemmas.List.{map-append}
use Rattle.std.proofs.lemmas.List.Elements.{All-push, All-weaker}
use Rattle.lsn_core.specs.byte_words.Told.{when_told}
use Rattle.lsn_core.specs.Files.{Files}
use Rattle.lsn_core.specs.Segment.{segment_bytes}
use Rattle.lsn_core.specs.Store.{Store}
use Rattle.lsn_core.specs.Tip.{Tip}
use Rattle.lsn_core.specs.declared.lsn.Lsn.{Lsn}
use Rattle.vault.specs.Area.{Related}
use Rattle.vault.specs.Frame.{OnlyReads}
use Rattle.vault.specs.declared.area.Vault.{Ghosts}
use Rattle.wal_record.specs.declared.record.Record.{Record}
use Rattle.wal_record.specs.declared.record.Kind.{Kind}
use Rattle.wal_record.specs.Decoding.{is_own_redo, may_come, record_at}
use Rattle.wal_record.specs.Spelling.{IsWritable, total_of}
use Rattle.wal_record.specs.Tips.{first_tip, tip_after, record_at_tip, wal_limit}
use Rattle.wal_archive.specs.Archive.{archive_of}
use Rattle.wal_archive.specs.Rules.{lsn}
use Rattle.wal_archive.specs.Writing.{IsNext, IsLeft}
use Rattle.wal_archive.specs.Laws.{HasNoGap}
use Rattle.wal_archive.proofs.Judged.{record_is_fair}
use Rattle.wal_archive.proofs.Left.{left_kept}
use Rattle.wal_writer.specs.declared.state.WalState.{WalState}
use Rattle.wal_writer.specs.Log.{Log, IsLog, next_record, appended, flush_end, flushed_to, touched_to}
use Rattle.wal_writer.specs.declared.fault.AppendFault.{AppendFault}
use Rattle.wal_writer.specs.declared.fault.AppendFault.TheVariants.{WalFull, NoMemory}
use Rattle.wal_writer.specs.Answers.{AppendAnswer, after_flush, Flushes, Tears}
use Rattle.wal_writer.specs.Stops.{Leaves}
use Rattle.wal_writer.specs.Laws.{IsEndAmong}
use Rattle.wal_writer.proofs.NextRead.{next_comes}
use Rattle.wal_writer.proofs.Waiting.{waits_more, waits_still}
use Rattle.history.specs.Entry.{Act, Mark, Marking, Entry}
use Rattle.history.specs.Pages.{page_count}
use Rattle.history.specs.Written.{mark_kind, tip_past, tip_over, tip_of}
use Rattle.history.specs.fuzzy_copies.Orderly.{AllEndBy}
use Rattle.history.specs.fuzzy_copies.Logged.{log_of}
use Rattle.journal.specs.Lawful.{IsLawful}
use Rattle.journal.specs.Journal.{HoldsLog, EndsWith, IsTold, IsJournal, Written, IsEndOf, MayFollow, entry_at}
use Rattle.journal.specs.Laws.{GoesOn, IsKeptTo}
use Rattle.journal.proofs.Stands.{start_later, end_later, prev_some}
use Rattle.journal.proofs.Goes.{lawful_goes}
use Rattle.journal.proofs.Flushes.{flushed_is_kept}
use Rattle.journal.proofs.Ends.{entry_ends, record_ends, has, Rise, ends_rise, among_rest, end_among, walk_end, log_ends, end_has, history_some, ends_at_entry}

-- ---- what a log holds

pub holds_more : (log : Log) (files : Files) (records : List Record) (r : Record) → HoldsLog log files records → IsNext record_at log.mib log.tip r → HoldsLog (appended log r) files (records ++ (r ∷ []))
holds_more log files records r h next = record {
  stable = h.stable;
  waiting = h.waiting ++ (r ∷ []);
  all = ap (λ (rs : List Record). rs ++ (r ∷ [])) h.all ∙ append_assoc h.stable h.waiting (r ∷ []);
  tip = h.tip;
  known = record { limit = h.known.limit; kept = h.known.kept; within = h.known.within };
  waits = waits_more record_at log h.tip h.waiting r h.waits next;
  ended = h.ended;
}

-- a place above what is flushed where an entry ends is one where an entry ends that waits
place_among : (log : Log) (files : Files) (records : List Record) (to : ℕ) → (h : HoldsLog log files records) → Rise (segment_bytes log.mib) (record_ends records) → has to (record_ends records) ≡ true → log.flushed < to
    → IsEndAmong h.tip h.waiting to
place_among log files records to h rise there above =
    let split : record_ends records ≡ record_ends h.stable ++ record_ends h.waiting = ap record_ends h.all ∙ map-append (λ (r : Record). r.end.0) h.stable h.waiting in
    let last = walk_end record_at log.mib log.system (archive_of log.mib files) (first_tip log.mib) h.stable h.tip h.known.kept.walk in
    end_among h.tip h.waiting to
    (among_rest (segment_bytes log.mib) (record_ends h.stable) (record_ends h.waiting) to (subst (Rise (segment_bytes log.mib)) split rise) (omega (arith, last, above, h.waits.from))
    (sym (ap (has to) split) ∙ there))

pub holds_flushed : (log : Log) (files : Files) (records : List Record) (to : ℕ) → IsLog log → (h : HoldsLog log files records) → log.flushed < to → IsEndAmong h.tip h.waiting to
    → HoldsLog (flushed_to log (flush_end log to)) (after_flush log (flush_end log to) files) records
holds_flushed log files records to is h above among =
    let k : IsKeptTo record_at log files h.stable h.waiting h.tip (flush_end log to) = flushed_is_kept record_at log files h.stable h.waiting h.tip to record_is_fair is h.known h.waits above among in
    record {
      stable = h.stable ++ k.done;
      waiting = k.behind;
      all = h.all ∙ (ap (λ (rs : List Record). h.stable ++ rs) k.all ∙ sym (append_assoc h.stable k.done k.behind));
      tip = k.mid;
      known = k.known;
      waits = k.waits;
      ended = λ _ gap. k.ended (subst (λ n. HasNoGap log.mib (archive_of log.mib (after_flush log (flush_end log to) files)) n) k.place gap);
    }

pub holds_torn : (log : Log) (old new : Files) (records : List Record) (to : ℕ) → IsLog log → (h : HoldsLog log old records) → log.flushed < to → IsEndAmong h.tip h.waiting to
    → IsLeft (archive_of log.mib old) (archive_of log.mib new) log.flushed (flush_end log to - log.flushed) → HoldsLog (touched_to log (flush_end log to)) new records
holds_torn log old new records to is h above among left =
    let count : ℕ = flush_end log to - log.flushed in
    let there : IsLeft (archive_of log.mib old) (archive_of log.mib new) h.tip.end count = subst (λ n. IsLeft (archive_of log.mib old) (archive_of log.mib new) n count) h.waits.from left in
    let kept = left_kept record_at log.mib log.system old new h.stable h.tip h.known.limit count record_is_fair is.segment.least h.known.kept there in
    record {
      stable = h.stable;
      waiting = h.waiting;
      all = h.all;
      tip = h.tip;
      known = record { limit = max h.known.limit (h.tip.end + count); kept = kept; within = omega (arith, h.known.within, h.waits.from, above) };
      waits = waits_still record_at log h.tip h.waiting to h.waits above among;
      ended = λ none gap. absurd (omega (arith, none, above, h.waits.from));
    }

-- ---- what it tells

-- behind the first entry each kind may come
comes_later : (prev : ℕ) (start : Lsn) (kind : Kind) → 0 < prev → may_come (Some (lsn prev)) start kind ≡ true
comes_later prev start kind some = ap (λ (b : Bool). cond b (is_own_redo start kind) true) (ne_eqb prev 0 (λ e. absurd (omega (arith, some, e))))

log_prev : (log : Log) (history : List Entry) → IsLawful log.mib history → log.tip ≡ tip_of log.mib history → 0 < log.tip.prev
log_prev log history lawful tip = subst (λ (t : Tip). 0 < t.prev) (sym tip) (prev_some log.mib (first_tip log.mib) history lawful.places (history_some log.mib history lawful))

pub told_more : (log : Log) (o : Option Files) (history : List Entry) (before pages : ℕ) (act : Act) (kind : Kind) (worker : ℕ) (seq : Option ℕ) (r : Record) → IsLog log → IsWritable kind → MayFollow log.mib history act kind pages
    → r ≡ next_record log kind → r.end.0 ≤ wal_limit log.mib → IsTold log o history before → IsTold (appended log r) o (history ++ (entry_at r act worker seq ∷ [])) pages
told_more log o history before pages act kind worker seq r is writable may r_is room told =
    let q : Record = record_at_tip log.mib (tip_of log.mib history) kind in
    let same : r ≡ q = r_is ∙ ap (λ (t : Tip). record_at_tip log.mib t kind) told.tip in
    let fits : q.end.0 < 2 ^ 64 = omega (arith, ap (λ (x : Record). x.end.0) same, room, is.segment.most) in
    let on : GoesOn log.mib history told.lawful (entry_at q act worker seq) q pages = lawful_goes log.mib worker pages seq history act kind told.lawful may is.segment.least fits in
    let next : IsNext record_at log.mib log.tip (next_record log kind) =
    next_comes log kind is writable (subst (λ (x : Record). x.end.0 ≤ wal_limit log.mib) r_is room) (comes_later log.tip.prev (next_record log kind).start kind (log_prev log history told.lawful told.tip)) in
    let comes : IsNext record_at log.mib log.tip q = subst (IsNext record_at log.mib log.tip) (sym r_is ∙ same) next in
    let records : List Record = log_of log.mib told.lawful.found told.lawful.own in
    let after : IsTold (appended log q) o (history ++ (entry_at q act worker seq ∷ [])) pages = record {
      lawful = on.lawful;
      tip = ap (λ (t : Tip). tip_after t q) told.tip ∙ sym on.tip;
      counted = on.counted;
      held = when_told o (λ m. HoldsLog log m records) (λ m. HoldsLog (appended log q) m (log_of log.mib on.lawful.found on.lawful.own))
          (λ m h. subst (HoldsLog (appended log q) m) (sym on.records) (holds_more log m records q h comes)) told.held;
    } in
    subst (λ (x : Record). IsTold (appended log x) o (history ++ (entry_at x act worker seq ∷ [])) pages) (sym same) after

-- the places of the records of a history
rise_told : (mib : ℕ) (history : List Entry) → (lawful : IsLawful mib history) → Rise (segment_bytes mib) (record_ends (log_of mib lawful.found lawful.own))
rise_told mib history lawful =
    subst (Rise (segment_bytes mib)) (ap entry_ends lawful.grown ∙ sym (log_ends mib lawful.found lawful.own lawful.logged)) (ends_rise mib (segment_bytes mib) history lawful.places)

has_told : (mib : ℕ) (history : List Entry) (to : ℕ) → (lawful : IsLawful mib history) → IsEndOf history to → has to (record_ends (log_of mib lawful.found lawful.own)) ≡ true
has_told mib history to lawful end =
    ap (has to) (log_ends mib lawful.found lawful.own lawful.logged) ∙ (ap (λ h. has to (entry_ends h)) (sym lawful.grown) ∙ (sym (end_has history to) ∙ end))

mapped_told : (o : Option Files) (f : Files → Files) (P Q : Files → Type 0) → ((m : Files) → P m → Q (f m)) → IfSome o P → IfSome (option_map f o) Q
mapped_told None f P Q step held = tt
mapped_told (Some m) f P Q step held = step m held

related_told : (R : Files → Files → Type 0) (o n : Option Files) (P Q : Files → Type 0) → ((x y : Files) → R x y → P x → Q y) → Related R o n → IfSome o P → IfSome n Q
related_told R None None P Q step related held = tt
related_told R (Some x) (Some y) P Q step related held = step x y related held
related_told R None (Some y) P Q step related held = absurd related
related_told R (Some x) None P Q step related held = tt

pub told_flushed : (log : Log) (o : Option Files) (history : List Entry) (pages to : ℕ) → IsLog log → log.flushed < to → IsEndOf history to → IsTold log o history pages
    → IsTold (flushed_to log (flush_end log to)) (option_map (after_flush log (flush_end log to)) o) history pages
told_flushed log o history pages to is above end told =
    let records : List Record = log_of log.mib told.lawful.found told.lawful.own in
    record {
      lawful = told.lawful;
      tip = told.tip;
      counted = told.counted;
      held = mapped_told o (after_flush log (flush_end log to)) (λ m. HoldsLog log m records) (λ m. HoldsLog (flushed_to log (flush_end log to)) m records)
          (λ m h. holds_flushed log m records to is h above (place_among log m records to h (rise_told log.mib history told.lawful) (has_told log.mib history to told.lawful end) above)) told.held;
    }

pub told_torn : (log : Log) (o n : Option Files) (history : List Entry) (pages to : ℕ) → IsLog log → log.flushed < to → IsEndOf history to
    → Leaves log.mib log.flushed (flush_end log to - log.flushed) o n → IsTold log o history pages → IsTold (touched_to log (flush_end log to)) n history pages
told_torn log o n history pages to is above end left told =
    let records : List Record = log_of log.mib told.lawful.found told.lawful.own in
    record {
      lawful = told.lawful;
      tip = told.tip;
      counted = told.counted;
      held = related_told (λ x y. IsLeft (archive_of log.mib x) (archive_of log.mib y) log.flushed (flush_end log to - log.flushed)) o n (λ m. HoldsLog log m records) (λ m. HoldsLog (touched_to log (flush_end log to)) m records)
          (λ x y torn h. holds_torn log x y records to is h above (place_among log x records to h (rise_told log.mib history told.lawful) (has_told log.mib history to told.lawful end) above) torn) left told.held;
    }

pub told_as : (log now : Log) (o n : Option Files) (history : List Entry) (pages : ℕ) → now ≡ log → n ≡ o → IsTold log o history pages → IsTold now n history pages
told_as log now o n history pages same files told = subst (λ l. IsTold l n history pages) (sym same) (subst (λ x. IsTold log x history pages) (sym files) told)

-- a flush, whatever it answers
pub flush_told : {V A E : Type 0} (g : Ghosts V) (old new : WalState V) (history : List Entry) (pages to : ℕ) (r : Result A E) → IsLog old.tail → (to ≤ old.tail.flushed → new ≡ old) → OnOk r (Flushes g to old new)
    → OnErr r (new.tail ≡ touched_to old.tail (flush_end old.tail to)) → Tears g to old new → IsEndOf history to → IsJournal g old history pages → IsJournal g new history pages
flush_told {V} {A} {E} g old new history pages to r is idle flushes stands torn end told =
    elim (cases_lt old.tail.flushed to) [
      | inr none ↦ subst (λ w. IsJournal g w history pages) (sym (idle none)) told
      | inl above ↦ answered r flushes stands above
    ]
  where
    answered : (x : Result A E) → OnOk x (Flushes g to old new) → OnErr x (new.tail ≡ touched_to old.tail (flush_end old.tail to)) → old.tail.flushed < to → IsJournal g new history pages
    answered (Ok a) done failed above =
        let d = done above in
        told_as (flushed_to old.tail (flush_end old.tail to)) new.tail (option_map (after_flush old.tail (flush_end old.tail to)) (g.files old.area)) (g.files new.area) history pages d.1.0 d.0
        (told_flushed old.tail (g.files old.area) history pages to is above end told)
    answered (Err e) done failed above =
        told_as (touched_to old.tail (flush_end old.tail to)) new.tail (g.files new.area) (g.files new.area) history pages failed refl
        (told_torn old.tail (g.files old.area) (g.files new.area) history pages to is above end torn told)

-- ---- marks

same_store : (a b : Store) → Some a ≡ Some b → a ≡ b
same_store a b e = cc

-- a mark may come next behind each history, and leaves the pages
pub mark_follows : (log : Log) (o : Option Files) (history : List Entry) (pages : ℕ) (marking : Marking) → IsTold log o history pages → MayFollow log.mib history (Mark marking) (mark_kind marking) pages
mark_follows log o history pages marking told store made = record {
  kind_is = refl;
  tidy = tt;
  fresh = tt;
  good = tt;
  done = λ end fits. (store, refl, ap page_count (same_store store told.lawful.store (sym made ∙ told.lawful.made)) ∙ told.counted);
}

-- ---- what a journal keeps

abbrev pub Keeps : {V : Type 0} → Ghosts V → Bool → WalState V → List Entry → ℕ → Type 0
Keeps g tells wal pen pages = EndsWith wal.tail pen × (tells ≡ true → IsTold wal.tail (g.files wal.area) pen pages)

abbrev pub written_with : {V : Type 0} → WalState V → List Entry → ℕ → Written V
written_with wal pen pages = record { wal = wal; pen = pen; pages = pages }

-- as its caller sees it
pub known_of_view : {V : Type 0} (g : Ghosts V) (tells : Bool) (was : Written V) (wal : WalState V) (pen : List Entry) (pages : ℕ) → written_with wal pen pages ≡ was → Keeps g tells wal pen pages
    → tells ≡ true → IsTold was.wal.tail (g.files was.wal.area) was.pen was.pages
known_of_view {V} g tells was wal pen pages view keeps tell = subst (λ (w : Written V). IsTold w.wal.tail (g.files w.wal.area) w.pen w.pages) view (keeps.1 tell)

-- a refusal
unchanged : (kind : Kind) (old new : Log) (fault : AppendFault) → AppendAnswer kind old new (Err fault) → new ≡ old
unchanged kind old new WalFull answer = answer.0
unchanged kind old new NoMemory answer = answer

pub keeps_as : {V : Type 0} (g : Ghosts V) (tells : Bool) (old new : WalState V) (pen next : List Entry) (pages : ℕ) → new.tail ≡ old.tail → new.area ≡ old.area → next ≡ pen → Keeps g tells old pen pages → Keeps g tells new next pages
keeps_as {V} g tells old new pen next pages tail area same keeps = (
  subst (λ es. EndsWith new.tail es) (sym same) (subst (λ (log : Log). EndsWith log pen) (sym tail) keeps.0),
  λ tell. subst (λ es. IsTold new.tail (g.files new.area) es pages) (sym same)
      (told_as old.tail new.tail (g.files old.area) (g.files new.area) pen pages tail (ap (λ (a : V). g.files a) area) (keeps.1 tell)),
)

-- its area was only read
pub keeps_read : {V : Type 0} (g : Ghosts V) (tells : Bool) (old new : WalState V) (pen : List Entry) (pages : ℕ) → new.tail ≡ old.tail → OnlyReads g old.area new.area → Keeps g tells old pen pages → Keeps g tells new pen pages
keeps_read g tells old new pen pages tail reads keeps = (
  subst (λ (log : Log). EndsWith log pen) (sym tail) keeps.0,
  λ tell. told_as old.tail new.tail (g.files old.area) (g.files new.area) pen pages tail reads.files (keeps.1 tell),
)

pub keeps_refused : {V : Type 0} (g : Ghosts V) (tells : Bool) (old new : WalState V) (pen : List Entry) (pages : ℕ) (kind : Kind) (fault : AppendFault) → AppendAnswer kind old.tail new.tail (Err fault) → new.area ≡ old.area
    → Keeps g tells old pen pages → Keeps g tells new pen pages
keeps_refused g tells old new pen pages kind fault answer area keeps = keeps_as g tells old new pen pen pages (unchanged kind old.tail new.tail fault answer) area refl keeps

-- one more entry
one_longer : (xs : List Entry) (x : Entry) → length (xs ++ (x ∷ [])) ≡ length xs + 1
one_longer [] x = refl
one_longer (y ∷ ys) x = (let e = one_longer ys x in omega (arith, e))

one_end : (tip : Tip) (es : List Entry) (e : Entry) → (tip_over tip (es ++ (e ∷ []))).end ≡ e.end
one_end tip [] e = refl
one_end tip (f ∷ es) e = one_end (tip_past tip f) es e

ends_more : (log : Log) (kind : Kind) (act : Act) (worker : ℕ) (seq : Option ℕ) (pen : List Entry) (r : Record) → IsLog log → r ≡ next_record log kind → EndsWith log pen → EndsWith (appended log r) (pen ++ (entry_at r act worker seq ∷ []))
ends_more log kind act worker seq pen r is r_is ends =
    let e : Entry = entry_at r act worker seq in
    let start : log.tip.end ≤ (next_record log kind).start.0 = start_later log.mib log.tip.end in
    let end : (next_record log kind).start.0 < (next_record log kind).end.0 = end_later log.mib log.tip.end (total_of kind) is.segment.least (omega arith) in
    let later : log.tip.end ≤ e.end = omega (arith, start, end, ap (λ (x : Record). x.end.0) r_is) in
    record {
      counted = omega (arith, one_longer pen e, ends.counted);
      end = one_end (first_tip log.mib) pen e;
      within = All-push (λ (x : Entry). x.end ≤ e.end) pen e (All-weaker (λ (x : Entry). x.end ≤ log.tip.end) (λ (x : Entry). x.end ≤ e.end) (λ x le. omega (arith, le, later)) pen ends.within) (omega arith);
    }

-- a log of the same segments and end
ends_as : (old new : Log) (pen : List Entry) → new.mib ≡ old.mib → new.tip ≡ old.tip → EndsWith old pen → EndsWith new pen
ends_as old new pen mib tip ends = record {
  counted = ends.counted ∙ sym (ap (λ (t : Tip). t.count) tip);
  end = ap (λ m. (tip_of m pen).end) mib ∙ ends.end ∙ sym (ap (λ (t : Tip). t.end) tip);
  within = subst (λ (t : Tip). AllEndBy t.end pen) (sym tip) ends.within;
}

keeps_more : {V : Type 0} (g : Ghosts V) (tells : Bool) (old new : WalState V) (pen next : List Entry) (before pages : ℕ) (act : Act) (kind : Kind) (worker : ℕ) (seq : Option ℕ) (r : Record) → IsLog old.tail → IsWritable kind
    → (tells ≡ true → MayFollow old.tail.mib pen act kind pages) → AppendAnswer kind old.tail new.tail (Ok r) → new.area ≡ old.area → next ≡ pen ++ (entry_at r act worker seq ∷ []) → Keeps g tells old pen before
    → Keeps g tells new next pages
keeps_more {V} g tells old new pen next before pages act kind worker seq r is writable may answer area grown keeps =
    let e : Entry = entry_at r act worker seq in (
      subst (λ es. EndsWith new.tail es) (sym grown) (subst (λ (log : Log). EndsWith log (pen ++ (e ∷ []))) (sym answer.1.0) (ends_more old.tail kind act worker seq pen r is answer.0 keeps.0)),
      λ tell. subst (λ es. IsTold new.tail (g.files new.area) es pages) (sym grown)
          (told_as (appended old.tail r) new.tail (g.files old.area) (g.files new.area) (pen ++ (e ∷ [])) pages answer.1.0 (ap (λ (a : V). g.files a) area)
          (told_more old.tail (g.files old.area) pen before pages act kind worker seq r is writable (may tell) answer.0 answer.1.1 (keeps.1 tell))),
    )

-- of a command
pub keeps_command : {V : Type 0} (g : Ghosts V) (tells : Bool) (was : Written V) (old new : WalState V) (pen next : List Entry) (before pages : ℕ) (act : Act) (kind : Kind) (worker : ℕ) (seq : Option ℕ) (r : Record)
    → written_with old pen before ≡ was → IsLog was.wal.tail → IsWritable kind → (tells ≡ true → MayFollow was.wal.tail.mib was.pen act kind pages) → AppendAnswer kind old.tail new.tail (Ok r) → new.area ≡ old.area
    → next ≡ pen ++ (entry_at r act worker seq ∷ []) → Keeps g tells old pen before → Keeps g tells new next pages
keeps_command {V} g tells was old new pen next before pages act kind worker seq r view is writable may answer area grown keeps =
    keeps_more g tells old new pen next before pages act kind worker seq r (subst (λ (w : Written V). IsLog w.wal.tail) (sym view) is) writable
    (subst (λ (w : Written V). tells ≡ true → MayFollow w.wal.tail.mib w.pen act kind pages) (sym view) may) answer area grown keeps

-- of a mark
pub keeps_mark : {V : Type 0} (g : Ghosts V) (tells : Bool) (was : Written V) (old new : WalState V) (pen next : List Entry) (pages : ℕ) (marking : Marking) (kind : Kind) (worker : ℕ) (seq : Option ℕ) (r : Record)
    → written_with old pen pages ≡ was → IsLog was.wal.tail → IsWritable kind → kind ≡ mark_kind marking → AppendAnswer kind old.tail new.tail (Ok r) → new.area ≡ old.area
    → next ≡ pen ++ (entry_at r (Mark marking) worker seq ∷ []) → Keeps g tells old pen pages → Keeps g tells new next pages
keeps_mark {V} g tells was old new pen next pages marking kind worker seq r view is writable kind_is answer area grown keeps =
    keeps_more g tells old new pen next pages pages (Mark marking) kind worker seq r (subst (λ (w : Written V). IsLog w.wal.tail) (sym view) is) writable
    (λ tell. subst (λ k. MayFollow old.tail.mib pen (Mark marking) k pages) (sym kind_is) (mark_follows old.tail (g.files old.area) pen pages marking (keeps.1 tell))) answer area grown keeps

-- after a flush
flush_ends : {V A E : Type 0} (g : Ghosts V) (old new : WalState V) (to : ℕ) (r : Result A E) → (to ≤ old.tail.flushed → new ≡ old) → OnOk r (Flushes g to old new)
    → OnErr r (new.tail ≡ touched_to old.tail (flush_end old.tail to)) → (pen : List Entry) → EndsWith old.tail pen → EndsWith new.tail pen
flush_ends {V} g old new to (Ok a) idle flushes stands pen ends =
    elim (cases_lt old.tail.flushed to) [
      | inr none ↦ subst (λ (w : WalState V). EndsWith w.tail pen) (sym (idle none)) ends
      | inl above ↦ subst (λ (log : Log). EndsWith log pen) (sym (flushes above).1.0) (ends_as old.tail (flushed_to old.tail (flush_end old.tail to)) pen refl refl ends)
    ]
flush_ends g old new to (Err e) idle flushes stands pen ends = subst (λ (log : Log). EndsWith log pen) (sym stands) (ends_as old.tail (touched_to old.tail (flush_end old.tail to)) pen refl refl ends)

pub keeps_flushed : {V A E : Type 0} (g : Ghosts V) (tells : Bool) (was : Written V) (old new : WalState V) (pen : List Entry) (pages to : ℕ) (r : Result A E) → written_with old pen pages ≡ was → IsLog was.wal.tail
    → (to ≤ old.tail.flushed → new ≡ old) → OnOk r (Flushes g to old new) → OnErr r (new.tail ≡ touched_to old.tail (flush_end old.tail to)) → Tears g to old new → (tells ≡ true → IsEndOf was.pen to)
    → Keeps g tells old pen pages → Keeps g tells new pen pages
keeps_flushed {V} g tells was old new pen pages to r view is idle flushes stands torn end keeps = (
  flush_ends g old new to r idle flushes stands pen keeps.0,
  λ tell. flush_told g old new pen pages to r (subst (λ (w : Written V). IsLog w.wal.tail) (sym view) is) idle flushes stands torn
      (subst (λ (w : Written V). IsEndOf w.pen to) (sym view) (end tell)) (keeps.1 tell),
)

-- the last entry of its history ends where the WAL does
pub last_of_view : {V : Type 0} (g : Ghosts V) (tells : Bool) (was : Written V) (wal : WalState V) (pen : List Entry) (pages : ℕ) → written_with wal pen pages ≡ was → Keeps g tells wal pen pages
    → tells ≡ true → IsEndOf was.pen was.wal.tail.tip.end
last_of_view g tells was wal pen pages view keeps tell =
    let told = known_of_view g tells was wal pen pages view keeps tell in
    subst (λ (t : Tip). IsEndOf was.pen t.end) (sym told.tip) (ends_at_entry was.wal.tail.mib was.pen told.lawful)
