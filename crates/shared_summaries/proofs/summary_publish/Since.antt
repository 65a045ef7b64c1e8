-- Areas that stay true for a run of several workers.
use Rattle.std.proofs.Common.{◌≡◌, ℕ, ◌≤◌, Bool, true, false, ◌||◌, inl, inr, List, [], ◌∷◌, ◌++◌, Option, None, Some, not, refl, sym, ap, subst, ◌∙◌, ◌⊎◌, ⊎_elim, arith, append_assoc, true≢false}
use Rattle.std.specs.List.{list_any, AllByRecursion}
use Rattle.std.specs.FinMap.{get}
use Rattle.std.proofs.lemmas.List.{append-nil}
use Rattle.lsn_core.specs.Files.{Files}
use Rattle.lsn_core.proofs.StoreFiles.{same_name, names_tie, name_itself}
use Rattle.history.specs.Entry.{Entry}
use Rattle.history.specs.fuzzy_copies.Orderly.{IsOrderly}
use Rattle.history.specs.fuzzy_copies.Summary.{summary_of}
use Rattle.wal_summary.specs.declared.summary.Summary.{Summary}
use Rattle.wal_summary.specs.Summary.{IsSummary}
use Rattle.wal_summary.specs.Kept.{overlapping, AreHonest}
use Rattle.wal_summary.proofs.Ranges.{covering_sums_up}
use Rattle.summary_file.specs.File.{IsFileOf, summary_bytes}
use Rattle.summary_file.specs.Name.{summary_name_bytes}
use Rattle.summary_file.proofs.Decoding.{file_once}
use Rattle.summary_store.specs.Kept.{end_behind}
use Rattle.summary_store.specs.Expiry.{AreHeld, MayExpire, is_expired, unexpired}
use Rattle.summary_store.specs.Honest.{is_redo_start, is_redo_point, IsHonestSummary}
use Rattle.summary_store.proofs.Honest.{Holds}
use Rattle.shared_summaries.specs.summary_publish.Entries.{first_start}
use Rattle.shared_summaries.specs.summary_publish.Published.{IsNext, AreNext, IsWhole, with_files}
use Rattle.shared_summaries.specs.summary_publish.Partly.{MayWriteSummary, LeavesFiles, LeavesFirst}
use Rattle.shared_summaries.specs.summary_publish.True.{IsTrueSummary, IsTrue}
use Rattle.shared_summaries.specs.summary_publish.Partly.{AdvancesPartly}
use Rattle.shared_summaries.specs.summary_publish.Laws.{RunsBeginTrue, TrueIsHonest, TrueStays, PublishingKeepsTrue, CrewSumsUp}
use Rattle.shared_summaries.proofs.summary_publish.Ranges.{any_behind, orderly_front, stop, orderly_behind}
use Rattle.shared_summaries.proofs.summary_publish.Fitting.{one_of}
use Rattle.shared_summaries.proofs.summary_publish.Holding.{all_append, all_filter, holds_held, expired_holds}
use Rattle.shared_summaries.proofs.summary_publish.Honest.{redo_below, point_below, first_point, next_point, honest_on, holds_files, next_least, EndsBy, over_end_by, last_end_by}

pub runs_begin_true : RunsBeginTrue
runs_begin_true found files honest name bytes sum at named file = record {
  honest = subst (λ (es : List Entry). IsHonestSummary es sum) (sym (append-nil found)) (honest name bytes sum at named file);
  unsplit = λ place is. absurd cc;
}

pub true_is_honest : TrueIsHonest
true_is_honest found own files holds name bytes sum at named file = (holds name bytes sum at named file).honest

any_of : (p : Entry → Bool) (P : Type 0) (xs ys : List Entry) → (list_any p xs ≡ true → P) → (list_any p ys ≡ true → P) → list_any p (xs ++ ys) ≡ true → P
any_of p P [] ys f g is = g is
any_of p P (x ∷ xs) ys f g is =
    one_of P (p x) (list_any p (xs ++ ys))
    (λ here. f (ap (λ (b : Bool). b || list_any p xs) here))
    (λ rest. any_of p P xs ys (λ k. f (or_later (p x) (list_any p xs) k)) g rest) is
  where
    or_later : (a b : Bool) → b ≡ true → (a || b) ≡ true
    or_later true b h = refl
    or_later false b h = h

true_on : (found own more : List Entry) (sum : Summary) → IsOrderly 0 (found ++ (own ++ more)) → IsTrueSummary found own sum → IsTrueSummary found (own ++ more) sum
true_on found own more sum order t =
    let all : IsOrderly 0 ((found ++ own) ++ more) = subst (IsOrderly 0) (sym (append_assoc found own more)) order in
    let front = orderly_front 0 (found ++ own) more all in
    let below = point_below 0 sum.end.0 (found ++ own) front t.honest.ends in
    record {
      honest = subst (λ (es : List Entry). IsHonestSummary es sum) (append_assoc found own more) (honest_on (found ++ own) more sum all front t.honest);
      unsplit = λ place is lt.
          any_of (is_redo_start place) (sum.end.0 ≤ place) own more
          (λ here. t.unsplit place here lt)
          (λ later. let late = (redo_below (stop 0 (found ++ own)) place more (orderly_behind 0 (found ++ own) more all) later).0 in omega (arith, below, late)) is;
    }

pub true_stays : TrueStays
true_stays found own more files order holds name bytes sum at named file = true_on found own more sum order (holds name bytes sum at named file)

-- ---- what is published

next_true : (found own : List Entry) (made place : ℕ) (sum : Summary) → IsOrderly 0 (found ++ own) → is_redo_point (found ++ own) place ≡ true → IsNext (found ++ own) made place sum → IsTrueSummary found own sum
next_true found own made place sum order point next =
    let h : List Entry = found ++ own in
    let same = next.starts in
    record {
      honest = record {
        starts = ap (is_redo_point h) next.starts ∙ point;
        ends = next_point place sum.end.0 h next.ends;
        says = subst (λ (n : ℕ). IsSummary (summary_of h n sum.end.0) sum.forks) (sym next.starts) next.says;
      };
      unsplit = λ to is lt. next_least 0 place to sum.end.0 h order (any_behind (is_redo_start to) found own is) (omega (arith, lt, same)) next.ends;
    }

all_true : (found own : List Entry) (made place : ℕ) (sums : List Summary) → IsOrderly 0 (found ++ own) → is_redo_point (found ++ own) place ≡ true → AreNext (found ++ own) made place sums → AllByRecursion (IsTrueSummary found own) sums
all_true found own made place [] order point next = tt
all_true found own made place (s ∷ ss) order point next =
    let one = next_true found own made place s order point next.0 in
    (one, all_true found own made s.end.0 ss order one.honest.ends next.1)

true_point : (found own : List Entry) (low : ℕ) (sums : List Summary) → is_redo_point (found ++ own) low ≡ true → AllByRecursion (IsTrueSummary found own) sums → is_redo_point (found ++ own) (end_behind low sums) ≡ true
true_point found own low [] point all = point
true_point found own low (s ∷ ss) point all = true_point found own s.end.0 ss all.0.honest.ends all.1

-- the place behind which summaries are published is a redo point, where there is any entry
starts_at_point : (found own : List Entry) (h : List Entry) → h ≡ found ++ own → (kept : List Summary) → AllByRecursion (IsTrueSummary found own) kept
    → (h ≡ [] → ⊥) → is_redo_point (found ++ own) (end_behind (first_start h) kept) ≡ true
starts_at_point found own [] same kept all some = absurd (some refl)
starts_at_point found own (e ∷ es) same kept all some =
    true_point found own e.start kept (subst (λ (l : List Entry). is_redo_point l e.start ≡ true) same (first_point e es)) all

some_next : (h : List Entry) (made place : ℕ) (sum : Summary) → IsNext h made place sum → h ≡ [] → ⊥
some_next [] made place sum next none = let e = next.ends in cc
some_next (e ∷ es) made place sum next none = cc

pub published_true : (found own : List Entry) (made : ℕ) (kept sums : List Summary) → IsOrderly 0 (found ++ own) → AllByRecursion (IsTrueSummary found own) kept
    → AreNext (found ++ own) made (end_behind (first_start (found ++ own)) kept) sums → AllByRecursion (IsTrueSummary found own) sums
published_true found own made kept [] order all next = tt
published_true found own made kept (s ∷ ss) order all next =
    let h : List Entry = found ++ own in
    all_true found own made (end_behind (first_start h) kept) (s ∷ ss) order (starts_at_point found own h refl kept all (some_next h made (end_behind (first_start h) kept) s next.0)) next

-- ---- a file that was written in part

torn_step : (P : Summary → Type 0) (s t : Summary) (bytes : List ℕ) → P s → IsWhole s → IsFileOf t bytes → (bytes ≡ summary_bytes s) ⊎ P t → P t
torn_step P s t bytes is whole file (inl same) = subst P (file_once bytes s t (subst (IsFileOf s) (sym same) whole) file) is
torn_step P s t bytes is whole file (inr held) = held

named_step : (P : Summary → Type 0) (old new : Files) (s t : Summary) (name bytes : List ℕ) → Holds P old → P s → IsWhole s → MayWriteSummary s old new
    → get new name ≡ Some bytes → name ≡ summary_name_bytes t.start.0 t.end.0 → IsFileOf t bytes → (same : Bool) → same_name name (summary_name_bytes s.start.0 s.end.0) ≡ same → P t
named_step P old new s t name bytes holds is whole may at named file true same =
    let e = names_tie name (summary_name_bytes s.start.0 s.end.0) same in
    torn_step P s t bytes is whole file
    (⊎_elim (λ k. inl k) (λ k. inr (holds name bytes t (ap (get old) e ∙ k) named file)) (may.file bytes t (sym (ap (get new) e) ∙ at) file))
named_step P old new s t name bytes holds is whole may at named file false other =
    holds name bytes t (sym (may.others name (λ e. absurd (true≢false (sym (name_itself name) ∙ ap (same_name name) e ∙ other)))) ∙ at) named file

pub holds_torn : (P : Summary → Type 0) (old new : Files) (s : Summary) → Holds P old → P s → IsWhole s → MayWriteSummary s old new → Holds P new
holds_torn P old new s holds is whole may name bytes t at named file =
    named_step P old new s t name bytes holds is whole may at named file (same_name name (summary_name_bytes s.start.0 s.end.0)) refl

-- ---- publishing, wholly or in part

-- the files behind a publishing
written_true : (told : Type 0) → told → (found own : List Entry) (made : ℕ) (old new : Files) (kept sums : List Summary) → IsOrderly 0 (found ++ own) → IsTrue found own old → AllByRecursion (IsTrueSummary found own) kept
    → (told → AreNext (found ++ own) made (end_behind (first_start (found ++ own)) kept) sums) → AllByRecursion IsWhole sums
    → LeavesFiles told (found ++ own) made (end_behind (end_behind (first_start (found ++ own)) kept) sums) sums old new → IsTrue found own new
written_true told t found own made old new kept sums order holds all next whole left =
    let h : List Entry = found ++ own in
    let low = end_behind (first_start h) kept in
    let more = published_true found own made kept sums order all (next t) in
    let first : Holds (IsTrueSummary found own) (with_files sums old) = holds_files (IsTrueSummary found own) old sums holds more whole in
    ⊎_elim (λ (same : new ≡ with_files sums old). subst (IsTrue found own) (sym same) first)
    (λ torn.
    let one = torn.2 t in
    let point = true_point found own low sums (starts_at_point found own h refl kept all (some_next h made (end_behind low sums) torn.0 one)) more in
    holds_torn (IsTrueSummary found own) (with_files sums old) new torn.0 first (next_true found own made (end_behind low sums) torn.0 order point one) torn.3 torn.4)
    left

partly_at : (told : Type 0) → told → (found own : List Entry) (made limit first : ℕ) (old new : Files) (kept between now : List Summary) (mid : Option Files) → IsOrderly 0 (found ++ own) → IsTrue found own old → AreHeld old kept
    → first ≡ first_start (found ++ own) → LeavesFirst told (found ++ own) made first (Some old) mid kept between → MayExpire limit mid (Some new) between now → IsTrue found own new
partly_at told t found own made limit first old new kept between now None order holds held is some expiry = absurd some.left
partly_at told t found own made limit first old new kept between now (Some m) order holds held is some expiry =
    let h : List Entry = found ++ own in
    expired_holds (IsTrueSummary found own) limit m new between now expiry
    (written_true told t found own made old m kept some.sums order holds (holds_held (IsTrueSummary found own) old kept holds held)
    (λ u. subst (λ n. AreNext h made (end_behind n kept) some.sums) is (some.next u)) some.whole
    (subst (λ n. LeavesFiles told h made (end_behind (end_behind n kept) some.sums) some.sums old m) is some.left))

pub partly_true : (told : Type 0) → told → (found own : List Entry) (made limit : ℕ) (old new : Files) (kept now : List Summary) → IsOrderly 0 (found ++ own) → IsTrue found own old → AreHeld old kept
    → AdvancesPartly told (found ++ own) made limit (Some old) (Some new) kept now → IsTrue found own new
partly_true told t found own made limit old new kept now order holds held p =
    partly_at told t found own made limit p.first old new kept p.between now p.mid order holds held (p.first_is t) p.some p.expiry

pub publishing_keeps_true : PublishingKeepsTrue
publishing_keeps_true found own made limit old new kept now order holds held p = partly_true (Unit {0}) tt found own made limit old new kept now order holds held p

-- ---- what covers a range

ends_by : (found own : List Entry) (to : ℕ) (sum : Summary) → list_any (is_redo_start to) own ≡ true → IsTrueSummary found own sum → EndsBy to sum
ends_by found own to sum redo t lt = t.unsplit to redo lt

all_end_by : (found own : List Entry) (to : ℕ) (sums : List Summary) → list_any (is_redo_start to) own ≡ true → AllByRecursion (IsTrueSummary found own) sums → AllByRecursion (EndsBy to) sums
all_end_by found own to [] redo all = tt
all_end_by found own to (s ∷ ss) redo all = (ends_by found own to s redo all.0, all_end_by found own to ss redo all.1)

honest_of : (found own : List Entry) (sums : List Summary) → AllByRecursion (IsTrueSummary found own) sums → AreHonest (found ++ own) sums
honest_of found own [] all = tt
honest_of found own (s ∷ ss) all = (all.0.honest.says, honest_of found own ss all.1)

pub crew_sums_up : CrewSumsUp
crew_sums_up found own made limit files kept sums from to sum order redo holds p lt covers =
    let h : List Entry = found ++ own in
    let rest : List Summary = unexpired limit (kept ++ sums) in
    let were = holds_held (IsTrueSummary found own) files kept holds p.held in
    let all = all_append (IsTrueSummary found own) kept sums were (published_true found own made kept sums order were p.next) in
    let rest_true = all_filter (IsTrueSummary found own) (λ s. not (is_expired limit (kept ++ sums) s)) (kept ++ sums) all in
    let begins = covers.begins in
    let ends = covers.ends in
    let same : sum.end.0 ≡ to =
    ⊎_elim (λ le. omega (arith, le, ends)) (λ none. omega (arith, none, begins, ends, lt)) (last_end_by to sum.start.0 sum.end.0 (overlapping from to rest) (over_end_by from to rest (all_end_by found own to rest redo rest_true)) covers.range) in
    (same, covers.begins, subst (λ (n : ℕ). IsSummary (summary_of h sum.start.0 n) sum.forks) same (covering_sums_up h rest from to sum order (honest_of found own rest rest_true) covers))
