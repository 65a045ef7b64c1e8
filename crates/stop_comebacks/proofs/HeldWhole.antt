-- Files that hold what the first records of a history make have what stays of it as of each redo point
-- among them, whatever records come more.
use Rattle.std.proofs.Common.{◌≡◌, ℕ, ◌<◌, ◌≤◌, Bool, true, false, cond, List, [], ◌∷◌, ◌++◌, map, is_some, Option, Some, refl, sym, ap, subst, ◌∙◌, arith, append-nil, append_assoc}
use Rattle.std.specs.Prelude.{nat_le, nat_lt, slice_get}
use Rattle.std.specs.List.{All, filter, list_any}
use Rattle.std.specs.FinMap.{empty}
use Rattle.std.proofs.lemmas.Bool.{le-leb, ltb-true, or_parts}
use Rattle.std.proofs.lemmas.List.{map-append}
use Rattle.std.proofs.lemmas.List.Elements.{All-nil, All-cons, filter-append}
use Rattle.std.proofs.lemmas.List.Folds.{list_any-append}
use Rattle.lsn_core.specs.Blocks.{block_of}
use Rattle.lsn_core.specs.Files.{Files}
use Rattle.lsn_core.specs.Segment.{StoreSettings}
use Rattle.lsn_core.specs.Store.{Store, ForkPages}
use Rattle.lsn_core.specs.Tip.{Tip}
use Rattle.lsn_core.specs.byte_words.Numbers.{◌>>=◌}
use Rattle.lsn_core.specs.declared.ids.ForkId.{ForkId}
use Rattle.lsn_core.specs.declared.lsn.Lsn.{Lsn}
use Rattle.wal_record.specs.Tips.{tip_after}
use Rattle.wal_record.specs.declared.record.Record.{Record}
use Rattle.wal_reader.specs.Wal.{ReadsOn}
use Rattle.history.specs.Apply.{apply_all}
use Rattle.history.specs.Entry.{Entry}
use Rattle.history.specs.Whole.{entry_of, whole}
use Rattle.history.specs.fuzzy_copies.Covers.{AreTidy}
use Rattle.history.specs.fuzzy_copies.Orderly.{IsOrderly, RecordsRise}
use Rattle.history.specs.fuzzy_copies.Sound.{entries_before, state_before}
use Rattle.history.specs.fuzzy_copies.Taken.{since}
use Rattle.history.specs.fuzzy_copies.Touches.{resets, settles}
use Rattle.history.specs.partitions.Parts.{IsPart, is_of}
use Rattle.history.proofs.Pushes.{all_first, all_rest}
use Rattle.history.proofs.fuzzy_copies.Kept.{entries_keep, forks_keep, tidy_behind, tidy_front}
use Rattle.history.proofs.fuzzy_copies.Repeats.{entries_rise}
use Rattle.history.proofs.fuzzy_copies.Taken.{in_parts, rising_front, two_parts}
use Rattle.history.proofs.fuzzy_copies.View.{middle}
use Rattle.history.proofs.partitions.Puts.{own}
use Rattle.rel_files.specs.Forks.{HasWholePages, Holds}
use Rattle.stop_areas.specs.Left.{HasWhatStays, IsLeftOf}
use Rattle.stop_areas.proofs.Held.{held_left}
use Rattle.stop_laws.specs.Window.{window_base}
use Rattle.data_areas.specs.Areas.{area_of}
use Rattle.data_areas.specs.declared.areas.DataAreas.{DataAreas}
use Rattle.restart_areas.specs.Pages.{HoldParts}
use Rattle.neat_laws.specs.Room.{AreOwnFiles}
use Rattle.store_restart.specs.Moments.{as_left}
use Rattle.store_restart.proofs.Upto.{reach_on}
use Rattle.comeback_laws.specs.Restorable.{AreLeftSince}
use Rattle.stop_comebacks.specs.Stopped.{IsStoreHistory}
use Rattle.stop_comebacks.proofs.Areas.{front_of}
use Rattle.stop_comebacks.proofs.Own.{own_now}

-- ---- one partition

module _ (relseg q from : ℕ) (found more : List Entry) (base now part : Store) (files : Files) (some : 0 < relseg) (tidy : AreTidy base (since from found)) (done : apply_all base (since from found) ≡ Some now) (is_part : IsPart q now part) (holds : Holds relseg files part) (pages_whole : HasWholePages part) where
  kept : (t : Entry → Bool) → list_any t (since from (found ++ more)) ≡ false → list_any t (since from found) ≡ false
  kept t none =
      (or_parts (list_any t (since from found)) (list_any t (since from more))
      (sym (list_any-append t (since from found) (since from more)) ∙ sym (ap (list_any t) (filter-append (λ (e : Entry). nat_le from e.start) found more)) ∙ none)).0

  same_block : (fork : ForkId) (block : ℕ) → is_of q fork ≡ true → list_any (resets fork block) (since from (found ++ more)) ≡ false → block_of part fork block ≡ block_of base fork block
  same_block fork block mine none =
      ap (λ (o : Option ForkPages). o >>= λ ps. slice_get ps block) (own q now part fork is_part mine)
      ∙ entries_keep base now (since from found) fork block tidy done (kept (resets fork block) none)

  has : HasWhatStays (window_base q from (found ++ more) base) part
  has = record {
    pages = λ fork block page stays. same_block fork block stays.ours stays.kept ∙ stays.there;
    missing = λ fork block stays. same_block fork block stays.ours stays.kept ∙ stays.none;
    forks = λ fork mine unsettled.
        ap (λ (o : Option ForkPages). is_some o) (own q now part fork is_part mine)
        ∙ forks_keep base now (since from found) fork tidy done (kept (settles fork) unsettled);
  }

  pub held_has : IsLeftOf relseg (window_base q from (found ++ more) base) files
  held_has = held_left relseg (window_base q from (found ++ more) base) part files some holds pages_whole has

-- ---- all of them

one_of : (a b : Files) → ◌≡◌ {A = Option Files} (Some a) (Some b) → a ≡ b
one_of a b e = cc

module _ (relseg : ℕ) (some : 0 < relseg) (history : List Record) (h : IsStoreHistory history) (records more lost : List Record) (parts : history ≡ (records ++ more) ++ lost) (rise : RecordsRise 0 (records ++ more)) (now : Store) (all : apply_all empty (map entry_of records) ≡ Some now)
    (left : DataAreas Files) (held : HoldParts as_left relseg left now) (from : Lsn) (late : entries_before (map entry_of more) from.0 ≡ []) where
  abbrev found : List Entry
  found = map entry_of records

  entries : map entry_of (records ++ more) ≡ found ++ map entry_of more
  entries = map-append entry_of records more

  orderly : IsOrderly 0 found
  orderly = rising_front 0 found (map entry_of more) (subst (IsOrderly 0) entries (entries_rise 0 (records ++ more) rise))

  before : entries_before (map entry_of (records ++ more)) from.0 ≡ entries_before found from.0
  before =
      ap (λ (l : List Entry). entries_before l from.0) entries ∙ filter-append (λ (e : Entry). nat_lt e.start from.0) found (map entry_of more)
      ∙ ap (λ (l : List Entry). entries_before found from.0 ++ l) late ∙ append-nil (entries_before found from.0)

  tidy_found : AreTidy empty found
  tidy_found =
      let makes = h.makes in
      let two : map entry_of history ≡ (found ++ map entry_of more) ++ map entry_of lost = ap (map entry_of) parts ∙ map-append entry_of (records ++ more) lost ∙ ap (λ (l : List Entry). l ++ map entry_of lost) entries in
      tidy_front empty found (map entry_of more) (tidy_front empty (found ++ map entry_of more) (map entry_of lost) (subst (AreTidy empty) two makes.tidy))

  held_files : (q : ℕ) → q < 4 → (part : Store) × (IsPart q now part × (Holds relseg (area_of left q) part × HasWholePages part))
  held_files q less =
      let has = held q less in
      let holds = has.1.1 in
      let files = holds.files in
      let one : files.files ≡ area_of left q = sym (one_of (area_of left q) files.files files.are_told) in
      (has.0, (has.1.0, (subst (λ (m : Files). Holds relseg m has.0) one files.hold, holds.whole)))

  module _ (base : Store) (defined : state_before found from.0 ≡ Some base) (done : apply_all base (since from.0 found) ≡ Some now) where
    tidy : AreTidy base (since from.0 found)
    tidy = tidy_behind empty base (entries_before found from.0) (since from.0 found) (subst (AreTidy empty) (in_parts from.0 0 found orderly) tidy_found) defined

    made : state_before (map entry_of (records ++ more)) from.0 ≡ Some base
    made = ap (apply_all empty) before ∙ defined

    left_is : (q : ℕ) → q < 4 → IsLeftOf relseg (window_base q from.0 (map entry_of (records ++ more)) base) (area_of left q)
    left_is q less =
        let part = held_files q less in
        subst (λ (es : List Entry). IsLeftOf relseg (window_base q from.0 es base) (area_of left q)) (sym entries)
        (held_has relseg q from.0 found (map entry_of more) base now part.0 (area_of left q) some tidy done part.1.0 part.1.1.0 part.1.1.1)

    own_is : (q : ℕ) → q < 4 → AreOwnFiles relseg q (Some (area_of left q))
    own_is q less =
        let part = held_files q less in
        own_now relseg q now part.0 (area_of left q) some part.1.0 part.1.1.0 part.1.1.1

    with_base : AreLeftSince as_left relseg (records ++ more) left from.0
    with_base =
        let front = front_of from.0 0 (records ++ more) rise in
        record {
          store = base;
          made = made;
          fits = h.fit front.first (front.rest ++ lost) base
              (parts ∙ ap (λ (l : List Record). l ++ lost) front.parts ∙ append_assoc front.first front.rest lost)
              (sym (ap (apply_all empty) front.is) ∙ made);
          left = λ q less. (area_of left q, (refl, left_is q less));
          own = λ q less. own_is q less;
        }

  pub whole_since : AreLeftSince as_left relseg (records ++ more) left from.0
  whole_since = middle (state_before found from.0) (λ t. apply_all t (since from.0 found)) now (sym (two_parts from.0 found orderly) ∙ all) (λ base defined done. with_base base defined done)

-- ---- survivors that all end by their tip

all_end : (s : StoreSettings) (files : Files) (tip last : Tip) (rs : List Record) → RecordsRise tip.end rs → ReadsOn s files tip rs last → filter (λ (r : Record). nat_le r.end.0 last.end) rs ≡ rs
all_end s files tip last [] rise walk = refl
all_end s files tip last (r ∷ rs) rise walk =
    let reach : r.end.0 ≤ last.end = reach_on s files (tip_after tip r) last rs rise.3 walk.1 in
    let rest : List Record = filter (λ (x : Record). nat_le x.end.0 last.end) rs in
    ap (λ (b : Bool). cond b (r ∷ rest) rest) (le-leb r.end.0 last.end reach) ∙ ap (λ (l : List Record). r ∷ l) (all_end s files (tip_after tip r) last rs rise.3 walk.1)

pub whole_is_all : (s : StoreSettings) (files : Files) (tip last : Tip) (rs : List Record) → RecordsRise tip.end rs → ReadsOn s files tip rs last → whole rs last.end ≡ apply_all empty (map entry_of rs)
whole_is_all s files tip last rs rise walk = ap (λ (l : List Record). apply_all empty (map entry_of l)) (all_end s files tip last rs rise walk)

-- ---- records behind a redo point

pub none_before : (from flushed : ℕ) (rs : List Record) → All (λ r. r.start.0 < from → r.end.0 ≤ flushed) rs → All (λ r. flushed < r.end.0) rs → entries_before (map entry_of rs) from ≡ []
none_before from flushed [] done late = refl
none_before from flushed (r ∷ rs) done late =
    let one = all_first (λ (x : Record). x.start.0 < from → x.end.0 ≤ flushed) r rs done in
    let high = all_first (λ (x : Record). flushed < x.end.0) r rs late in
    let rest : List Entry = entries_before (map entry_of rs) from in
    ap (λ (b : Bool). cond b (entry_of r ∷ rest) rest) (past (nat_lt r.start.0 from) refl one high)
    ∙ none_before from flushed rs (all_rest (λ (x : Record). x.start.0 < from → x.end.0 ≤ flushed) r rs done) (all_rest (λ (x : Record). flushed < x.end.0) r rs late)
  where
    past : (b : Bool) → nat_lt r.start.0 from ≡ b → (r.start.0 < from → r.end.0 ≤ flushed) → flushed < r.end.0 → nat_lt r.start.0 from ≡ false
    past false is one high = is
    past true is one high = absurd (let low = one (ltb-true r.start.0 from is) in omega (arith, low, high))

pub all_behind : (P : Record → Type 0) (xs ys : List Record) → All P (xs ++ ys) → All P ys
all_behind P [] ys all = all
all_behind P (x ∷ xs) ys all = all_behind P xs ys (all_rest P x (xs ++ ys) all)

pub all_front : (P : Record → Type 0) (xs ys : List Record) → All P (xs ++ ys) → All P xs
all_front P [] ys all = All-nil P
all_front P (x ∷ xs) ys all = All-cons P x xs (all_first P x (xs ++ ys) all) (all_front P xs ys (all_rest P x (xs ++ ys) all))
