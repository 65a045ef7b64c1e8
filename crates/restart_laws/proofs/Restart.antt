-- Replay over what a stop left makes the whole.
use Rattle.std.proofs.Common.{◌≡◌, ℕ, ◌%◌, ◌<◌, ◌≤◌, Bool, true, false, List, [], ◌∷◌, ◌++◌, map, Option, Some, None, is_some, refl, sym, ap, subst, ◌∙◌, arith, append_assoc, eq-eqb}
use Rattle.std.specs.Prelude.{◌==◌, nat_le, nat_lt, slice_get}
use Rattle.std.specs.List.{list_any, filter}
use Rattle.std.specs.FinMap.{get, contains_key, empty}
use Rattle.std.proofs.lemmas.Bool.{or_parts}
use Rattle.std.proofs.lemmas.List.Folds.{list_any-append}
use Rattle.std.proofs.lemmas.List.Elements.{filter-append}
use Rattle.std.proofs.Math.Nat.{mod-lt}
use Rattle.lsn_core.specs.byte_words.Numbers.{◌>>=◌}
use Rattle.lsn_core.specs.declared.ids.ForkId.{ForkId}
use Rattle.lsn_core.specs.Store.{Store, ForkPages}
use Rattle.lsn_core.specs.Blocks.{block_of}
use Rattle.wal_record.specs.declared.record.Record.{Record}
use Rattle.history.specs.Entry.{Entry}
use Rattle.history.specs.Apply.{apply_all}
use Rattle.history.specs.Whole.{entry_of}
use Rattle.history.specs.partitions.Parts.{partition_of, is_of}
use Rattle.history.specs.fuzzy_copies.Touches.{resets, settles}
use Rattle.history.specs.fuzzy_copies.Orderly.{IsOrderly, RecordsRise}
use Rattle.history.specs.fuzzy_copies.Sound.{window, state_before, entries_before, Agree, IsSoundCopy}
use Rattle.history.specs.fuzzy_copies.Taken.{since}
use Rattle.history.specs.fuzzy_copies.Covers.{AreTidy, AreTidyFrom, AgreesUnlessChanged, Covers}
use Rattle.history.proofs.fuzzy_copies.Replay.{applied_in_two}
use Rattle.history.proofs.fuzzy_copies.Kept.{entries_keep, forks_keep, tidy_front}
use Rattle.history.proofs.fuzzy_copies.Covering.{TwoRanges, two_ranges, lagging}
use Rattle.history.proofs.fuzzy_copies.Records.{records_complete}
use Rattle.restart_laws.specs.Restart.{LeaveAlone, AreTidyBehind, IsCopyOf, AreRestorable}
use Rattle.restart_laws.specs.Laws.{MoreEntriesKeepCovers, EarlierPlacesAreCovered, LostEntriesKeepCovers, RestartsAreWhole}

same_store : (s t : Store) (m : Option Store) → m ≡ Some s → m ≡ Some t → s ≡ t
same_store s t m e f = cc

-- ---- more entries

first_none : (t : Entry → Bool) (xs ys : List Entry) → list_any t (xs ++ ys) ≡ false → list_any t xs ≡ false
first_none t xs ys none = (or_parts (list_any t xs) (list_any t ys) (sym (list_any-append t xs ys) ∙ none)).0

pub more_keep : MoreEntriesKeepCovers
more_keep ours disk last known more from c defined tidy alone =
    let early = entries_before more from in
    let a = c.agrees in
    let base : apply_all c.base early ≡ Some last =
    sym (ap (apply_all empty) (filter-append (λ e. nat_lt e.start from) known more) ∙ applied_in_two empty (entries_before known from) early ∙ ap (λ (m : Option Store). m >>= λ t. apply_all t early) c.defined) ∙ defined in
    let clean = tidy c.base c.defined in
    let parts = λ (t : Entry → Bool) (none : list_any t (since from (known ++ more)) ≡ false). first_none t (since from known) (since from more) (sym (ap (list_any t) (filter-append (λ e. nat_le from e.start) known more)) ∙ none) in
    record {
      base = last;
      defined = defined;
      agrees = record {
        blocks = λ fork block mine none. a.blocks fork block mine (parts (resets fork block) none) ∙ sym (entries_keep c.base last early fork block clean base (alone.blocks fork block mine));
        forks = λ fork mine none. a.forks fork mine (parts (settles fork) none) ∙ sym (forks_keep c.base last early fork clean base (alone.forks fork mine));
      };
    }

-- ---- an earlier place

pub earlier : EarlierPlacesAreCovered
earlier ours disk base history from place r tidy h defined c =
    let ranges = two_ranges history from place r h in
    let between : apply_all base (window history from place) ≡ Some c.base =
    sym (ap (apply_all empty) ranges.early ∙ applied_in_two empty (entries_before history from) (window history from place) ∙ ap (λ (m : Option Store). m >>= λ t. apply_all t (window history from place)) defined) ∙ c.defined in
    let tidy_between = tidy_front base (window history from place) (since place history) (subst (AreTidy base) ranges.all (tidy base defined)) in
    let parts = λ (t : Entry → Bool) (none : list_any t (since from history) ≡ false). or_parts (list_any t (window history from place)) (list_any t (since place history)) (sym (ap (list_any t) ranges.all ∙ list_any-append t (window history from place) (since place history)) ∙ none) in
    let a = c.agrees in
    record {
      base = base;
      defined = defined;
      agrees = record {
        blocks = λ fork block mine none. a.blocks fork block mine (parts (resets fork block) none).1 ∙ entries_keep base c.base (window history from place) fork block tidy_between between (parts (resets fork block) none).0;
        forks = λ fork mine none. a.forks fork mine (parts (settles fork) none).1 ∙ forks_keep base c.base (window history from place) fork tidy_between between (parts (settles fork) none).0;
      };
    }

-- ---- entries that are lost

pub lost_keep : LostEntriesKeepCovers
lost_keep ours disk now base history lost from makes done tidy alone agrees =
    lagging ours disk now history from makes
    (record {
      blocks = λ fork block mine none. agrees.blocks fork block mine refl ∙ entries_keep now base lost fork block tidy done (alone.blocks fork block mine);
      forks = λ fork mine none. agrees.forks fork mine refl ∙ forks_keep now base lost fork tidy done (alone.forks fork mine);
    })

-- ---- four disks

own_part : (fork : ForkId) → is_of (partition_of fork.rel) fork ≡ true
own_part fork = eq-eqb (partition_of fork.rel) (partition_of fork.rel) refl

below_four : (fork : ForkId) → partition_of fork.rel < 4
below_four fork = mod-lt fork.rel.rel (omega arith)

-- the window up to the end has all entries from the place on that the copy asks for
sound : (records : List Record) (disks : ℕ → Store) (copy : Store) (from to : ℕ) → AreRestorable records disks from to → IsCopyOf disks copy
    → ((t : Entry → Bool) → list_any t (window (map entry_of records) from to) ≡ false → list_any t (since from (map entry_of records)) ≡ false) → IsSoundCopy copy (map entry_of records) from to
sound records disks copy from to left is all =
    let first = left.covers 0 (omega arith) in
    record {
      base = first.base;
      defined = first.defined;
      blocks = λ fork block none.
          let c = left.covers (partition_of fork.rel) (below_four fork) in
          let a = c.agrees in
          let one = same_store c.base first.base (state_before (map entry_of records) from) c.defined first.defined in
          ap (λ (o : Option ForkPages). o >>= λ pages. slice_get pages block) (is fork) ∙ a.blocks fork block (own_part fork) (all (resets fork block) none) ∙ ap (λ (s : Store). block_of s fork block) one;
      forks = λ fork none.
          let c = left.covers (partition_of fork.rel) (below_four fork) in
          let a = c.agrees in
          let one = same_store c.base first.base (state_before (map entry_of records) from) c.defined first.defined in
          ap (λ (o : Option ForkPages). is_some o) (is fork) ∙ a.forks fork (own_part fork) (all (settles fork) none) ∙ ap (λ (s : Store). contains_key s fork) one;
      deltas = left.deltas;
      starts = left.starts;
      ends = left.ends;
      above = left.above;
    }

pub restarts_whole : RestartsAreWhole
restarts_whole records disks copy from to place left is h =
    records_complete copy records from to place left.rise (sound records disks copy from to left is left.all) h
