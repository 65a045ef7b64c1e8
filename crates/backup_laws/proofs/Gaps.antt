-- Where a gap lies in what was kept and published.
use Rattle.std.proofs.Common.{◌≡◌, ℕ, zero, suc, ◌-◌, ◌<◌, ◌≤◌, ◌==◌, Bool, true, false, cond, ◌&&◌, ◌||◌, inl, inr, List, [], ◌∷◌, ◌++◌, length, take, drop, Option, Some, None, Err, refl, sym, ap, subst, ◌∙◌, arith, true≢false}
use Rattle.std.specs.Prelude.{nat_le, nat_lt, IsSome}
use Rattle.std.specs.List.{list_any}
use Rattle.std.specs.FinMap.{keys}
use Rattle.std.proofs.lemmas.Bool.{and_parts, and_from, cases_lt, lt-ltb, ltb-true, eqb-true, eq-eqb}
use Rattle.std.proofs.lemmas.List.{take-append-drop}
use Rattle.std.proofs.lemmas.Map.Keys.{any_passes_from_place}
use Rattle.std.proofs.lemmas.Option.{slice_get_within}
use Rattle.lsn_core.specs.Files.{Files}
use Rattle.lsn_core.specs.declared.lsn.Lsn.{Lsn}
use Rattle.vault.specs.declared.area.Vault.{Ghosts}
use Rattle.history.specs.Entry.{Entry}
use Rattle.history.specs.Written.{is_redo}
use Rattle.wal_summary.specs.declared.summary.Summary.{Summary}
use Rattle.wal_summary.specs.Kept.{AreInOrder, covers, is_covered}
use Rattle.summary_store.specs.Kept.{AreKept, end_behind}
use Rattle.summary_store.specs.Honest.{is_redo_start}
use Rattle.shared_summaries.specs.summary_publish.Entries.{first_start, next_redo}
use Rattle.shared_summaries.specs.summary_publish.Published.{ArePublished}
use Rattle.store_faults.specs.declared.advance_fault.AdvanceFault.TheVariants as advance
use Rattle.shared_summaries.proofs.summary_publish.Adding.{end_append}
use Rattle.shared_summaries.proofs.summary_publish.Fitting.{one_of}
use Rattle.shared_summaries.proofs.summary_publish.KeptFiles.{kept_once, next_kept, end_from}
use Rattle.shared_summaries.proofs.summary_publish.Holding.{order_end}
use Rattle.summary_store.specs.Expiry.{young, unexpired}
use Rattle.summary_store.proofs.Expiring.{young_in, end_unexpired}
use Rattle.shared_summaries.specs.Grown.{HasGrown, IsOldGap}
use Rattle.shared_summaries.proofs.Grown.{runs_begin_grown, publishing_grows, gaps_are_old}
use Rattle.backup_sending.specs.Entries.{HasCheckpointAt}
use Rattle.incr_backup.specs.Incr.{SumsUp}
use Rattle.backup_sending.proofs.Marks.{checkpoint_on}
use Rattle.command_base.proofs.Told.{some_told, at_told}
use Rattle.backup_laws.specs.Gaps.{FilesKeepOneList, PublishedAreKept, OldOnesExpire, GapsAreOld, AnswersAreCovered, RefusedGapsAreOld}

-- ---- what is kept

pub one_list : FilesKeepOneList
one_list files one other a b = kept_once 0 files (keys files) one other a b

pub published_kept : PublishedAreKept
published_kept h made files kept sums held p = next_kept h made (end_behind (first_start h) kept) sums kept files held (end_from (first_start h) kept) p.next p.whole

pub old_expire : OldOnesExpire
old_expire limit kept = (young_in limit kept, λ low. end_unexpired limit low kept)

-- ---- redo points

no_next : (t : Bool) (n : ℕ) (rest : Option ℕ) → cond t (Some n) rest ≡ None → (t ≡ false) × (rest ≡ None)
no_next true n rest e = absurd cc
no_next false n rest e = (refl, e)

-- no redo point is past a place behind which there is no next one
last_redo : (place to : ℕ) (h : List Entry) → next_redo place h ≡ None → list_any (is_redo_start to) h ≡ true → to ≤ place
last_redo place to [] none is = absurd (true≢false (sym is))
last_redo place to (e ∷ es) none is =
    let parts = no_next (is_redo e.act && nat_lt place e.start) e.start (next_redo place es) none in
    one_of (to ≤ place) (is_redo_start to e) (list_any (is_redo_start to) es)
    (λ here.
    let at = and_parts (is_redo e.act) (e.start == to) here in
    let same = eqb-true e.start to at.1 in
    elim (cases_lt place e.start) [
      | inl lt ↦ absurd (true≢false (sym (and_from (is_redo e.act) (nat_lt place e.start) at.0 (lt-ltb place e.start lt)) ∙ parts.0))
      | inr le ↦ omega (arith, le, same)
    ])
    (λ behind. last_redo place to es parts.1 behind) is

-- ---- where a gap lies

-- what is kept then reaches up to each redo point
reaches : (h : List Entry) (made limit : ℕ) (kept sums now : List Summary) (was : Files) (to : ℕ) → list_any (is_redo_start to) h ≡ true → ArePublished h made was kept sums → now ≡ unexpired limit (kept ++ sums) → to ≤ end_behind (first_start h) now
reaches h made limit kept sums now was to redo p is =
    let first : ℕ = first_start h in
    let ends : end_behind first now ≡ end_behind (end_behind first kept) sums = ap (end_behind first) is ∙ end_unexpired limit first (kept ++ sums) ∙ end_append first kept sums in
    let up = last_redo (end_behind (end_behind first kept) sums) to h p.last redo in
    omega (arith, ends, up)

pub gaps_old : {V : Type 0} (g : Ghosts V) → GapsAreOld g
gaps_old g tells h made limit from to old new before known place files t le redo told a =
    let d = a.advanced.advances in
    let kept : List Summary = a.advanced.kept in
    let p : ArePublished h made files kept d.sums = at_told (g.files old) files (λ m. ArePublished h made m kept d.sums) told (d.published t) in
    let grown = publishing_grows limit h made kept kept d.sums a.advanced.now le (runs_begin_grown (first_start h) limit kept) p.next (ap (young limit) d.kept_is ∙ young_in limit (kept ++ d.sums))
    (λ low. ap (end_behind low) d.kept_is ∙ end_unexpired limit low (kept ++ d.sums)) in
    gaps_are_old (first_start h) limit kept a.advanced.now from to place.0 grown (reaches h made limit kept d.sums a.advanced.now files to redo p d.kept_is) a.so

-- ---- what covers a range

covered_last : (p low : ℕ) (sums : List Summary) → AreInOrder low sums → is_covered sums p ≡ true → p < end_behind low sums
covered_last p low [] order is = absurd (true≢false (sym is))
covered_last p low (s ∷ ss) order is =
    let r = order.1 in
    let up = order_end s.end.0 ss order.3 in
    one_of (p < end_behind s.end.0 ss) (covers p s) (is_covered ss p)
    (λ here. let lt = ltb-true p s.end.0 (and_parts (nat_le s.start.0 p) (nat_lt p s.end.0) here).1 in omega (arith, lt, up))
    (λ behind. covered_last p s.end.0 ss order.3 behind) is

pub answers_covered : {V : Type 0} (g : Ghosts V) → AnswersAreCovered g
answers_covered g tells h made limit from to old new before known sum lt a order =
    let last = covered_last (to - 1) 0 a.advanced.now order (a.so.covered (to - 1) (omega (arith, lt)) (omega (arith, lt))) in
    omega (arith, last, lt)

-- the first entry of a beginning is that of the history
pub first_of_front : (n : ℕ) (h : List Entry) → 0 < n → first_start (take n h) ≡ first_start h
first_of_front zero h some = absurd (omega (arith, some))
first_of_front (suc n) [] some = refl
first_of_front (suc n) (e ∷ es) some = refl

pub first_found : (found more : List Entry) → 0 < length found → first_start found ≡ first_start (found ++ more)
first_found [] more some = absurd (omega (arith, some))
first_found (e ∷ es) more some = refl

pub any_of_front : (p : Entry → Bool) (n : ℕ) (h : List Entry) → list_any p (take n h) ≡ true → list_any p h ≡ true
any_of_front p zero h is = absurd (true≢false (sym is))
any_of_front p (suc n) [] is = is
any_of_front p (suc n) (e ∷ es) is = or_on (p e) (list_any p (take n es)) (list_any p es) (any_of_front p n es) is
  where
    or_on : (a b c : Bool) → (b ≡ true → c ≡ true) → (a || b) ≡ true → (a || c) ≡ true
    or_on true b c f h = refl
    or_on false b c f h = f h

checkpoint_redo : (worker before : ℕ) (now : List Entry) (redo : ℕ) → HasCheckpointAt worker before now redo → list_any (is_redo_start redo) now ≡ true
checkpoint_redo worker before now redo c =
    any_passes_from_place (is_redo_start redo) now c.number c.first c.there
    (and_from (is_redo c.first.act) (c.first.start == redo) (ap is_redo c.starts.0) (eq-eqb c.first.start redo c.redo_is))

-- what was seen then isn't nothing
pub some_seen : (worker before : ℕ) (seen : ℕ) (now : List Entry) (redo : ℕ) → HasCheckpointAt worker before (take seen now) redo → 0 < seen
some_seen worker before zero now redo c = absurd (let within = slice_get_within (take zero now) c.number c.first c.there in omega (arith, within))
some_seen worker before (suc seen) now redo c = omega arith

-- a gap that a worker's checkpoint leaves, and its redo point
pub record IsGapFound (limit : ℕ) (now : List Entry) (kept : List Summary) (from redo place : ℕ) : Type 0 where
  pub marked : list_any (is_redo_start redo) now ≡ true
  pub gap : IsOldGap (first_start now) limit kept from redo place

-- in what was seen behind what a run found, over an area that told these files when it began
pub gap_found : (tells : Type 0) (found : List Entry) (begun : Option Files) (when limit worker before : ℕ) (now : List Entry) (redo from : ℕ) (place : Lsn) (files : Files) (kept : List Summary) → tells → 0 < length found → first_start found ≡ first_start now → begun ≡ Some files → AreKept files kept → SumsUp tells found begun when limit worker before now redo from (Err (advance.Gap place))
    → IsGapFound limit now kept from redo place.0
gap_found tells found begun when limit worker before now redo from place files kept t some first told held s =
    let seen : List Entry = take s.seen now in
    let p = s.covered.published in
    let front : first_start seen ≡ first_start now = first_of_front s.seen now (some_seen worker before s.seen now redo s.checkpoint) in
    let there : list_any (is_redo_start redo) seen ≡ true = checkpoint_redo worker before seen redo s.checkpoint in
    let was = some_told p.old.files (p.shelved.told (subst IsSome (sym told) refl)) in
    let published : ArePublished seen when was.0 p.kept p.advances.sums = at_told p.old.files was.0 (λ m. ArePublished seen when m p.kept p.advances.sums) was.1 (p.advances.published t) in
    let grown : HasGrown (first_start now) limit kept p.rest = subst (λ (n : ℕ). HasGrown n limit kept p.rest) first (p.goes_on.grown t some files kept told held) in
    let reach : redo ≤ end_behind (first_start now) p.rest = subst (λ (n : ℕ). redo ≤ end_behind n p.rest) front (reaches seen when limit p.kept p.advances.sums p.rest was.0 redo there published p.advances.kept_is) in
    record {
      marked = any_of_front (is_redo_start redo) s.seen now there;
      gap = gaps_are_old (first_start now) limit kept p.rest from redo place.0 grown reach s.covered.covers;
    }

pub refused_gaps_old : {V : Type 0} (g : Ghosts V) → RefusedGapsAreOld g
refused_gaps_old g tells o name when old new place kept t first r =
    let gap = r.cause in
    let s = gap.3 in
    let now : List Entry = new.seen.list in
    let same : first_start o.found ≡ first_start now = first_found o.found first.found.0 first.some ∙ ap first_start first.found.1 in
    let is = gap_found (tells ≡ true) o.found o.sums when o.limit old.seen.worker (length old.seen.list) now gap.1 gap.0.start place first.files kept t first.some same first.told first.held s in
    record {
      prior = gap.0;
      start = gap.1;
      taken = gap.2;
      begins = checkpoint_on old.seen.worker (length old.seen.list) (take s.seen now) now gap.1 (drop s.seen now, take-append-drop s.seen now) s.checkpoint;
      gap = is.gap;
    }
