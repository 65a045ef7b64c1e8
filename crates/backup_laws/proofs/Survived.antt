-- Which records of a history survived a stop: all that were found, and all that were flushed.
use Rattle.std.proofs.Common.{◌≡◌, ℕ, suc, ◌<◌, ◌≤◌, Bool, false, cond, List, [], ◌∷◌, ◌++◌, map, append-nil, refl, sym, ap, subst, ◌∙◌, arith, inl, inr}
use Rattle.std.specs.Prelude.{nat_le}
use Rattle.std.specs.List.{All}
use Rattle.std.proofs.lemmas.Bool.{cases_Bool, lt-leb, leb-false}
use Rattle.std.proofs.lemmas.List.{map-append}
use Rattle.std.proofs.lemmas.List.Elements.{filter-append}
use Rattle.lsn_core.specs.Tip.{Tip}
use Rattle.wal_record.specs.Tips.{tip_after, tip_behind}
use Rattle.wal_record.specs.declared.record.Record.{Record}
use Rattle.history.specs.Entry.{Entry}
use Rattle.history.specs.Whole.{entry_of}
use Rattle.history.specs.fuzzy_copies.Orderly.{IsOrderly, RecordsRise}
use Rattle.history.proofs.fuzzy_copies.Repeats.{entries_rise}
use Rattle.recovery.specs.Onward.{ending_by}
use Rattle.backup_restore.proofs.Rising.{none_left}
use Rattle.wal_summary.specs.declared.summary.Summary.{Summary}
use Rattle.summary_store.specs.Honest.{IsHonestSummary}
use Rattle.comeback_laws.specs.Restorable.{AreFirst}
use Rattle.shared_summaries.proofs.summary_publish.Honest.{honest_on}

-- ---- records that rise

rise_front : (last : ℕ) (rs more : List Record) → RecordsRise last (rs ++ more) → RecordsRise last rs
rise_front last [] more rise = tt
rise_front last (r ∷ rs) more rise = (rise.0, rise.1, rise.2, rise_front r.end.0 rs more rise.3)

tip_later : (tip : Tip) (rs : List Record) → RecordsRise tip.end rs → tip.end ≤ (tip_behind tip rs).end
tip_later tip [] rise = omega arith
tip_later tip (r ∷ rs) rise = (let more : r.end.0 ≤ (tip_behind (tip_after tip r) rs).end = tip_later (tip_after tip r) rs rise.3 in omega (arith, more, rise.0, rise.1))

cons_alike : (r q : Record) (rs qs : List Record) → r ≡ q → rs ≡ qs → r ∷ rs ≡ q ∷ qs
cons_alike r q rs qs one same = ap (λ (x : Record). x ∷ rs) one ∙ ap (λ (l : List Record). q ∷ l) same

-- ---- what was found survived

-- of records that end by a place all are among the first ones, behind which each ends past it
pub kept_front : (flushed : ℕ) (tip : Tip) (found more records lost : List Record) → RecordsRise tip.end found → (tip_behind tip found).end ≤ flushed → found ++ more ≡ records ++ lost → All (λ r. flushed < r.end.0) lost → (rest : List Record) × (records ≡ found ++ rest)
kept_front flushed tip [] more records lost rise within same late = (records, refl)
kept_front flushed tip (r ∷ found) more [] [] rise within same late = absurd cc
kept_front flushed tip (r ∷ found) more [] (q ∷ lost) rise within same late =
    let one : r ≡ q = cc in
    let past : flushed < q.end.0 = late 0 q (omega arith) in
    let by : r.end.0 ≤ (tip_behind (tip_after tip r) found).end = tip_later (tip_after tip r) found rise.3 in
    absurd (omega (arith, past, by, within, ap (λ (x : Record). x.end.0) one))
kept_front flushed tip (r ∷ found) more (q ∷ records) lost rise within same late =
    let one : r ≡ q = cc in
    let rest : found ++ more ≡ records ++ lost = cc in
    let is = kept_front flushed (tip_after tip r) found more records lost rise.3 within rest late in
    (is.0, cons_alike q r records (found ++ is.0) (sym one) is.1)

-- ---- what was flushed survived

-- those that end by a place are the first ones
flushed_front : (last at : ℕ) (rs : List Record) → RecordsRise last rs → (rest : List Record) × (rs ≡ ending_by at rs ++ rest)
flushed_front last at [] rise = ([], refl)
flushed_front last at (r ∷ rs) rise =
    let more = flushed_front r.end.0 at rs rise.3 in
    elim (cases_Bool (nat_le r.end.0 at)) [
      | inl within ↦ (more.0, ap (λ (l : List Record). r ∷ l) more.1 ∙ sym (ap (λ (b : Bool). cond b (r ∷ ending_by at rs) (ending_by at rs) ++ more.0) within))
      | inr past ↦
          let none : ending_by at rs ≡ [] = none_left r.end.0 at rs (omega (arith, leb-false r.end.0 at past)) rise.3 in
          (r ∷ rs, sym (ap (λ (l : List Record). l ++ (r ∷ rs)) (ap (λ (b : Bool). cond b (r ∷ ending_by at rs) (ending_by at rs)) past ∙ none)))
    ]

-- none of those that end past it
none_late : (at : ℕ) (lost : List Record) → All (λ r. at < r.end.0) lost → ending_by at lost ≡ []
none_late at [] late = refl
none_late at (r ∷ lost) late =
    let past : nat_le r.end.0 at ≡ false = lt-leb r.end.0 at (late 0 r (omega arith)) in
    ap (λ (b : Bool). cond b (r ∷ ending_by at lost) (ending_by at lost)) past ∙ none_late at lost (λ k d within. late (suc k) d (omega (arith, within)))

pub flushed_kept : (last flushed : ℕ) (history records : List Record) → RecordsRise last records → AreFirst history flushed records → (rest : List Record) × (records ≡ ending_by flushed history ++ rest)
flushed_kept last flushed history records rise first =
    let is = flushed_front last flushed records rise in
    let same : ending_by flushed history ≡ ending_by flushed records =
    ap (ending_by flushed) first.parts
    ∙ (filter-append (λ r. nat_le r.end.0 flushed) records first.lost
    ∙ (ap (λ (l : List Record). ending_by flushed records ++ l) (none_late flushed first.lost first.late)
    ∙ append-nil (ending_by flushed records))) in
    (is.0, is.1 ∙ ap (λ (l : List Record). l ++ is.0) (sym same))

-- ---- summaries

-- what is honest for the first of some records is so for all of them
pub summary_on : (front rest records : List Record) (sum : Summary) → RecordsRise 0 records → records ≡ front ++ rest → IsHonestSummary (map entry_of front) sum → IsHonestSummary (map entry_of records) sum
summary_on front rest records sum rise is honest =
    let parts : map entry_of records ≡ map entry_of front ++ map entry_of rest = ap (map entry_of) is ∙ map-append entry_of front rest in
    let all : IsOrderly 0 (map entry_of front ++ map entry_of rest) = subst (IsOrderly 0) parts (entries_rise 0 records rise) in
    let first : IsOrderly 0 (map entry_of front) = entries_rise 0 front (rise_front 0 front rest (subst (RecordsRise 0) is rise)) in
    subst (λ (es : List Entry). IsHonestSummary es sum) (sym parts) (honest_on (map entry_of front) (map entry_of rest) sum all first honest)
