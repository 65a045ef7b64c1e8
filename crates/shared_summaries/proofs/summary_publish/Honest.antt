-- Areas of summaries that stay honest, and what covers a range of them.
use Rattle.std.proofs.Common.{◌≡◌, ℕ, ◌<◌, ◌≤◌, Bool, true, false, cond, ◌&&◌, ◌||◌, ◌==◌, inl, inr, List, [], ◌∷◌, ◌++◌, map, Option, Some, refl, sym, ap, subst, ◌∙◌, ◌⊎◌, ⊎_elim, arith, true≢false}
use Rattle.std.specs.Prelude.{nat_lt}
use Rattle.std.specs.List.{list_any, AllByRecursion}
use Rattle.std.specs.Cmp.Lexicographic.{nat_list_cmp_total}
use Rattle.std.specs.FinMap.{get, get-insert}
use Rattle.std.proofs.lemmas.Bool.{and_parts, ltb-true, lt-ltb, eqb-true, eq-eqb}
use Rattle.std.proofs.lemmas.List.{append-nil}
use Rattle.std.proofs.lemmas.List.Elements.{filter-append}
use mathlib.Core.List.{IsPrefix}
use Rattle.lsn_core.specs.Files.{Files}
use Rattle.lsn_core.proofs.StoreFiles.{same_name}
use Rattle.history.specs.Entry.{Entry}
use Rattle.history.specs.Written.{is_redo}
use Rattle.history.specs.fuzzy_copies.Orderly.{IsOrderly}
use Rattle.history.specs.fuzzy_copies.Sound.{is_in, window}
use Rattle.history.specs.fuzzy_copies.Summary.{table_of, summed}
use Rattle.wal_summary.specs.declared.summary.Summary.{Summary}
use Rattle.wal_summary.specs.Summary.{IsSummary}
use Rattle.wal_summary.specs.Kept.{overlaps, overlapping, AreNeighbours}
use Rattle.summary_file.specs.File.{IsFileOf, summary_bytes}
use Rattle.summary_file.specs.Name.{summary_name_bytes}
use Rattle.summary_file.proofs.Decoding.{file_once}
use Rattle.summary_store.specs.Honest.{is_redo_start, is_redo_point, IsHonestSummary, IsHonest}
use Rattle.summary_store.proofs.Honest.{Holds}
use Rattle.shared_summaries.specs.summary_publish.Entries.{next_redo}
use Rattle.shared_summaries.specs.summary_publish.Published.{IsWhole, with_file, with_files}
use Rattle.shared_summaries.proofs.summary_publish.Ranges.{any_left, or_left, or_right, orderly_front, stop, stop_later, orderly_behind, none_past}
use Rattle.shared_summaries.proofs.summary_publish.Fitting.{one_of}

-- ---- redo points

-- a checkpoint that starts in entries starts before their end, and not before the place behind which they are
pub redo_below : (low place : ℕ) (es : List Entry) → IsOrderly low es → list_any (is_redo_start place) es ≡ true → (low ≤ place) × (place < stop low es)
redo_below low place [] o is = absurd cc
redo_below low place (e ∷ es) o is =
    let first = o.0 in
    let up = o.1 in
    let later = stop_later e.end es o.3 in
    one_of ((low ≤ place) × (place < stop low (e ∷ es))) (is_redo_start place e) (list_any (is_redo_start place) es)
    (λ here. let same = eqb-true e.start place (and_parts (is_redo e.act) (e.start == place) here).1 in (omega (arith, first, same), omega (arith, up, later, same)))
    (λ behind. let rest = redo_below e.end place es o.3 behind in let a = rest.0 in (omega (arith, first, up, a), rest.1)) is

pub point_below : (low place : ℕ) (h : List Entry) → IsOrderly low h → is_redo_point h place ≡ true → place < stop low h
point_below low place [] o is = absurd cc
point_below low place (e ∷ es) o is =
    let up = o.1 in
    let later = stop_later e.end es o.3 in
    one_of (place < stop low (e ∷ es)) (e.start == place) (list_any (is_redo_start place) (e ∷ es))
    (λ here. let same = eqb-true e.start place here in omega (arith, up, later, same))
    (λ there. (redo_below low place (e ∷ es) o there).1) is

pub point_stays : (place : ℕ) (h more : List Entry) → is_redo_point h place ≡ true → is_redo_point (h ++ more) place ≡ true
point_stays place [] more is = absurd cc
point_stays place (e ∷ es) more is =
    one_of (is_redo_point ((e ∷ es) ++ more) place ≡ true) (e.start == place) (list_any (is_redo_start place) (e ∷ es))
    (λ here. or_left (e.start == place) (list_any (is_redo_start place) ((e ∷ es) ++ more)) here)
    (λ there. or_right (e.start == place) (list_any (is_redo_start place) ((e ∷ es) ++ more)) (any_left (is_redo_start place) (e ∷ es) more there)) is

pub some_same : (a b : ℕ) → (let o : Option ℕ = Some a in o ≡ Some b) → a ≡ b
some_same a b e = cc

-- the next redo point is one
pub next_here : (t more : Bool) (e : Entry) (place : ℕ) (rest : Option ℕ) → t ≡ is_redo e.act → (u : Bool) → (rest ≡ Some place → more ≡ true) → cond (t && u) (Some e.start) rest ≡ Some place → (is_redo_start place e || more) ≡ true
next_here true more e place rest is true f some =
    let same : (e.start == place) ≡ true = eq-eqb e.start place (some_same e.start place some) in
    or_left (is_redo_start place e) more (ap (λ b. b && (e.start == place)) (sym is) ∙ same)
next_here true more e place rest is false f some = or_right (is_redo_start place e) more (f some)
next_here false more e place rest is u f some = or_right (is_redo_start place e) more (f some)

pub next_starts : (from place : ℕ) (h : List Entry) → next_redo from h ≡ Some place → list_any (is_redo_start place) h ≡ true
next_starts from place [] some = absurd cc
next_starts from place (e ∷ es) some =
    next_here (is_redo e.act) (list_any (is_redo_start place) es) e place (next_redo from es) refl (nat_lt from e.start) (λ k. next_starts from place es k) some

pub next_point : (from place : ℕ) (h : List Entry) → next_redo from h ≡ Some place → is_redo_point h place ≡ true
next_point from place [] some = absurd cc
next_point from place (e ∷ es) some = or_right (e.start == place) (list_any (is_redo_start place) (e ∷ es)) (next_starts from place (e ∷ es) some)

-- and none past the place lies before it
pub next_step : (low from to end : ℕ) (e : Entry) (es : List Entry) → IsOrderly low (e ∷ es) → from < to → (is_redo_start to e || list_any (is_redo_start to) es) ≡ true
    → (list_any (is_redo_start to) es ≡ true → next_redo from es ≡ Some end → end ≤ to) → (r u : Bool) → is_redo e.act ≡ r → nat_lt from e.start ≡ u → cond (r && u) (Some e.start) (next_redo from es) ≡ Some end → end ≤ to
next_step low from to end e es o lt is f true true r u some =
    let same = some_same e.start end some in
    let up = o.1 in
    one_of (end ≤ to) (is_redo_start to e) (list_any (is_redo_start to) es)
    (λ here. let at = eqb-true e.start to (and_parts (is_redo e.act) (e.start == to) here).1 in omega (arith, same, at))
    (λ behind. let late = (redo_below e.end to es o.3 behind).0 in omega (arith, same, up, late)) is
next_step low from to end e es o lt is f true false r u some =
    one_of (end ≤ to) (is_redo_start to e) (list_any (is_redo_start to) es)
    (λ here. let at = eqb-true e.start to (and_parts (is_redo e.act) (e.start == to) here).1 in absurd (true≢false (sym (lt-ltb from e.start (omega (arith, lt, at))) ∙ u)))
    (λ behind. f behind some) is
next_step low from to end e es o lt is f false b r u some =
    one_of (end ≤ to) (is_redo_start to e) (list_any (is_redo_start to) es)
    (λ here. absurd (true≢false (sym (and_parts (is_redo e.act) (e.start == to) here).0 ∙ r)))
    (λ behind. f behind some) is

pub next_least : (low from to end : ℕ) (h : List Entry) → IsOrderly low h → list_any (is_redo_start to) h ≡ true → from < to → next_redo from h ≡ Some end → end ≤ to
next_least low from to end [] o is lt some = absurd cc
next_least low from to end (e ∷ es) o is lt some =
    next_step low from to end e es o lt is (λ behind k. next_least e.end from to end es o.3 behind lt k) (is_redo e.act) (nat_lt from e.start) refl refl some

-- ---- as the history goes on

pub honest_on : (old more : List Entry) (sum : Summary) → IsOrderly 0 (old ++ more) → IsOrderly 0 old → IsHonestSummary old sum → IsHonestSummary (old ++ more) sum
honest_on old more sum order front honest =
    let below = point_below 0 sum.end.0 old front honest.ends in
    let none : window more sum.start.0 sum.end.0 ≡ [] = none_past sum.start.0 sum.end.0 (stop 0 old) more (omega (arith, below)) (orderly_behind 0 old more order) in
    record {
      starts = point_stays sum.start.0 old more honest.starts;
      ends = point_stays sum.end.0 old more honest.ends;
      says = subst (λ (es : List Entry). IsSummary (summed (map table_of es)) sum.forks)
          (sym (filter-append (is_in sum.start.0 sum.end.0) old more ∙ ap (λ (l : List Entry). window old sum.start.0 sum.end.0 ++ l) none ∙ append-nil (window old sum.start.0 sum.end.0)))
          honest.says;
    }

pub stay_honest : (old new : List Entry) (files : Files) → IsOrderly 0 new → IsPrefix old new → IsHonest old files → IsHonest new files
stay_honest old new files order prefix honest name bytes sum at named file =
    let all : IsOrderly 0 (old ++ prefix.0) = subst (IsOrderly 0) (sym prefix.1) order in
    subst (λ (es : List Entry). IsHonestSummary es sum) prefix.1 (honest_on old prefix.0 sum all (orderly_front 0 old prefix.0 all) (honest name bytes sum at named file))

-- ---- as summaries are published

pub some_bytes : (a b : List ℕ) → (let o : Option (List ℕ) = Some a in o ≡ Some b) → a ≡ b
some_bytes a b e = cc

pub file_step : (P : Summary → Type 0) (s t : Summary) (bytes : List ℕ) (held : Option (List ℕ)) (same : Bool) → P s → IsWhole s → IsFileOf t bytes → (held ≡ Some bytes → P t) → cond same (Some (summary_bytes s)) held ≡ Some bytes → P t
file_step P s t bytes held true is whole file f e =
    let bytes_are = some_bytes (summary_bytes s) bytes e in
    subst P (file_once bytes s t (subst (IsFileOf s) bytes_are whole) file) is
file_step P s t bytes held false is whole file f e = f e

pub holds_file : (P : Summary → Type 0) (files : Files) (s : Summary) → Holds P files → P s → IsWhole s → Holds P (with_file s files)
holds_file P files s holds is whole name bytes t at named file =
    let written = summary_name_bytes s.start.0 s.end.0 in
    file_step P s t bytes (get files name) (same_name name written) is whole file (λ there. holds name bytes t there named file)
    (sym (get-insert nat_list_cmp_total files written (summary_bytes s) name) ∙ at)

pub holds_files : (P : Summary → Type 0) (files : Files) (sums : List Summary) → Holds P files → AllByRecursion P sums → AllByRecursion IsWhole sums → Holds P (with_files sums files)
holds_files P files [] holds all whole = holds
holds_files P files (s ∷ ss) holds all whole = holds_files P (with_file s files) ss (holds_file P files s holds all.0 whole.0) all.1 whole.1

pub first_point : (e : Entry) (es : List Entry) → is_redo_point (e ∷ es) e.start ≡ true
first_point e es = or_left (e.start == e.start) (list_any (is_redo_start e.start) (e ∷ es)) (eq-eqb e.start e.start refl)

-- ---- what covers a range

-- a summary that starts before a place ends by it
abbrev pub EndsBy : ℕ → Summary → Type 0
EndsBy to s = s.start.0 < to → s.end.0 ≤ to

pub over_step : (to : ℕ) (s : Summary) (a t : Bool) (some : List Summary) → (t ≡ (a && nat_lt s.start.0 to)) → EndsBy to s → AllByRecursion (λ (x : Summary). x.end.0 ≤ to) some → AllByRecursion (λ (x : Summary). x.end.0 ≤ to) (cond t (s ∷ some) some)
over_step to s a true some is ends rest = (ends (ltb-true s.start.0 to (and_parts a (nat_lt s.start.0 to) (sym is)).1), rest)
over_step to s a false some is ends rest = rest

pub over_end_by : (from to : ℕ) (sums : List Summary) → AllByRecursion (EndsBy to) sums → AllByRecursion (λ (x : Summary). x.end.0 ≤ to) (overlapping from to sums)
over_end_by from to [] all = tt
over_end_by from to (s ∷ ss) all = over_step to s (nat_lt from s.end.0) (overlaps from to s) (overlapping from to ss) refl all.0 (over_end_by from to ss all.1)

pub last_end_by : (to low high : ℕ) (sums : List Summary) → AllByRecursion (λ (x : Summary). x.end.0 ≤ to) sums → AreNeighbours low sums high → (high ≤ to) ⊎ (low ≡ high)
last_end_by to low high [] all range = inr range
last_end_by to low high (s ∷ ss) all range =
    let first = all.0 in
    ⊎_elim (λ le. inl le) (λ same. inl (omega (arith, first, same))) (last_end_by to s.end.0 high ss all.1 range.2)
