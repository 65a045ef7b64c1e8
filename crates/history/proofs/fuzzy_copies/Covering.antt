-- What a disk that is behind its store covers, and what it answers.
use Rattle.std.proofs.Common.{◌≡◌, ℕ, ◌≤◌, Bool, true, false, ◌&&◌, inl, inr, List, ◌++◌, Option, Some, is_some, refl, sym, ap, subst, ◌∙◌, arith}
use Rattle.std.specs.Prelude.{nat_lt, nat_le}
use Rattle.std.specs.List.{list_any, filter}
use Rattle.std.specs.FinMap.{get, contains_key, empty}
use Rattle.std.proofs.lemmas.Bool.{ltb-true, leb-true, lt-ltb, le-leb, or_parts}
use Rattle.std.proofs.lemmas.List.{append-nil}
use Rattle.std.proofs.lemmas.List.Elements.{filter-append}
use Rattle.std.proofs.lemmas.List.Folds.{list_any-append}
use Rattle.lsn_core.specs.byte_words.Numbers.{◌>>=◌}
use Rattle.lsn_core.specs.declared.ids.ForkId.{ForkId}
use Rattle.lsn_core.specs.Store.{Store}
use Rattle.lsn_core.specs.Blocks.{block_of}
use Rattle.history.specs.Entry.{Entry}
use Rattle.history.specs.Apply.{apply_all}
use Rattle.history.specs.fuzzy_copies.Touches.{resets, settles}
use Rattle.history.specs.fuzzy_copies.Orderly.{IsOrderly}
use Rattle.history.specs.fuzzy_copies.Sound.{entries_before, state_before, is_in, window}
use Rattle.history.specs.fuzzy_copies.Taken.{since}
use Rattle.history.specs.fuzzy_copies.Covers.{AreTidy, AgreesUnlessChanged, Covers}
use Rattle.history.specs.fuzzy_copies.CoverLaws.{MakesTidily, LaggingDisksCover, AddedEntriesKeepCovers, WritesKeepCovers, CoveringDisksAnswer}
use Rattle.history.proofs.fuzzy_copies.View.{middle}
use Rattle.history.proofs.fuzzy_copies.Ranges.{cut_at}
use Rattle.history.proofs.fuzzy_copies.Replay.{applied_in_two}
use Rattle.history.proofs.fuzzy_copies.Taken.{same_filter, two_parts, listed_blocks, listed_fork}
use Rattle.history.proofs.fuzzy_copies.Kept.{entries_keep, forks_keep, tidy_front}

and_turned : (a b : Bool) → (a && b) ≡ (b && a)
and_turned true true = refl
and_turned true false = refl
and_turned false true = refl
and_turned false false = refl

later_too : (from place start : ℕ) → from ≤ place → (nat_le place start && nat_le from start) ≡ nat_le place start
later_too from place start h =
    elim (nat_le place start) as (λ s. nat_le place start ≡ s → (s && nat_le from start) ≡ s) [ true ↦ λ k. le-leb from start (let i = leb-true place start k in omega arith) | false ↦ λ k. refl ] refl

earlier_too : (from place start : ℕ) → from ≤ place → (nat_lt start from && nat_lt start place) ≡ nat_lt start from
earlier_too from place start h =
    elim (nat_lt start from) as (λ s. nat_lt start from ≡ s → (s && nat_lt start place) ≡ s) [ true ↦ λ k. lt-ltb start place (let i = ltb-true start from k in omega arith) | false ↦ λ k. refl ] refl

-- entries from a place on, and those before another, in two parts
pub record TwoRanges (history : List Entry) (from place : ℕ) : Type 0 where
  pub all : since from history ≡ window history from place ++ since place history
  pub early : entries_before history place ≡ entries_before history from ++ window history from place

pub two_ranges : (history : List Entry) (from place : ℕ) → IsOrderly 0 history → from ≤ place → TwoRanges history from place
two_ranges history from place r h = record {
  all = cut_at place (λ e. nat_le from e.start) 0 history r
      ∙ ap (λ (l : List Entry). l ++ filter (λ e. nat_le place e.start && nat_le from e.start) history) (same_filter (λ e. nat_lt e.start place && nat_le from e.start) (is_in from place) history (λ e. and_turned (nat_lt e.start place) (nat_le from e.start)))
      ∙ ap (λ (l : List Entry). window history from place ++ l) (same_filter (λ e. nat_le place e.start && nat_le from e.start) (λ e. nat_le place e.start) history (λ e. later_too from place e.start h));
  early = cut_at from (λ e. nat_lt e.start place) 0 history r
      ∙ ap (λ (l : List Entry). l ++ window history from place) (same_filter (λ e. nat_lt e.start from && nat_lt e.start place) (λ e. nat_lt e.start from) history (λ e. earlier_too from place e.start h));
}

-- the store at a place, and what the entries since then make of it
record Rest (history : List Entry) (from : ℕ) (now : Store) : Type 0 where
  base : Store
  defined : state_before history from ≡ Some base
  rest : apply_all base (since from history) ≡ Some now
  clean : AreTidy base (since from history)

rest_of : (history : List Entry) (from : ℕ) (now : Store) → MakesTidily history from now → Rest history from now
rest_of history from now makes =
    middle (state_before history from) (λ t. apply_all t (since from history)) now (sym (two_parts from history makes.orderly) ∙ makes.made) (λ base defined rest.
    record { base = base; defined = defined; rest = rest; clean = makes.tidy base defined })

pub lagging : LaggingDisksCover
lagging ours disk now history from makes lags =
    let r = rest_of history from now makes in
    record {
      base = r.base;
      defined = r.defined;
      agrees = record {
        blocks = λ fork block mine none. lags.blocks fork block mine none ∙ entries_keep r.base now (since from history) fork block r.clean r.rest none;
        forks = λ fork mine none. lags.forks fork mine none ∙ forks_keep r.base now (since from history) fork r.clean r.rest none;
      };
    }

first_none : (t : Entry → Bool) (history more : List Entry) (from : ℕ) → list_any t (since from (history ++ more)) ≡ false → list_any t (since from history) ≡ false
first_none t history more from none =
    (or_parts (list_any t (since from history)) (list_any t (since from more)) (sym (ap (list_any t) (filter-append (λ e. nat_le from e.start) history more) ∙ list_any-append t (since from history) (since from more)) ∙ none)).0

pub added : AddedEntriesKeepCovers
added ours disk history more from late c =
    let a = c.agrees in
    record {
      base = c.base;
      defined =
          ap (apply_all empty) (filter-append (λ e. nat_lt e.start from) history more ∙ ap (λ (l : List Entry). entries_before history from ++ l) late ∙ append-nil (entries_before history from)) ∙ c.defined;
      agrees = record {
        blocks = λ fork block mine none. a.blocks fork block mine (first_none (resets fork block) history more from none);
        forks = λ fork mine none. a.forks fork mine (first_none (settles fork) history more from none);
      };
    }

same_base : (s t : Store) (m : Option Store) → m ≡ Some s → m ≡ Some t → s ≡ t
same_base s t m e f = cc

pub writes : WritesKeepCovers
writes ours old new now history from makes rewritten c =
    let r = rest_of history from now makes in
    let one : r.base ≡ c.base = same_base r.base c.base (state_before history from) r.defined c.defined in
    let a = c.agrees in
    record {
      base = c.base;
      defined = c.defined;
      agrees = record {
        blocks = λ fork block mine none. elim (rewritten.blocks fork block mine none) [
          | inl same ↦ same ∙ a.blocks fork block mine none
          | inr fresh ↦ fresh ∙ entries_keep r.base now (since from history) fork block r.clean r.rest none ∙ ap (λ (s : Store). block_of s fork block) one
        ];
        forks = λ fork mine none. elim (rewritten.forks fork mine none) [
          | inl same ↦ same ∙ a.forks fork mine none
          | inr fresh ↦ fresh ∙ forks_keep r.base now (since from history) fork r.clean r.rest none ∙ ap (λ (s : Store). contains_key s fork) one
        ];
      };
    }

-- a disk that covers from a place on agrees with the store at an earlier one, unless entries since
-- then change it
kept : (ours : ForkId → Bool) (disk : Store) (seen : List Entry) (from place : ℕ) (base : Store) → IsOrderly 0 seen → from ≤ place → state_before seen from ≡ Some base → AreTidy base (since from seen) → Covers ours disk seen place
    → AgreesUnlessChanged ours disk base (since from seen)
kept ours disk seen from place base r h defined tidy c =
    let ranges = two_ranges seen from place r h in
    let between : apply_all base (window seen from place) ≡ Some c.base =
    sym (ap (apply_all empty) ranges.early ∙ applied_in_two empty (entries_before seen from) (window seen from place) ∙ ap (λ (m : Option Store). m >>= λ t. apply_all t (window seen from place)) defined) ∙ c.defined in
    let tidy_between = tidy_front base (window seen from place) (since place seen) (subst (AreTidy base) ranges.all tidy) in
    let parts = λ (t : Entry → Bool) (none : list_any t (since from seen) ≡ false). or_parts (list_any t (window seen from place)) (list_any t (since place seen)) (sym (ap (list_any t) ranges.all ∙ list_any-append t (window seen from place) (since place seen)) ∙ none) in
    let a = c.agrees in
    record {
      blocks = λ fork block mine none. a.blocks fork block mine (parts (resets fork block) none).1 ∙ entries_keep base c.base (window seen from place) fork block tidy_between between (parts (resets fork block) none).0;
      forks = λ fork mine none. a.forks fork mine (parts (settles fork) none).1 ∙ forks_keep base c.base (window seen from place) fork tidy_between between (parts (settles fork) none).0;
    }

pub answers : CoveringDisksAnswer
answers ours disk seen from place fork r tidy h c mine =
    let at = λ (base : Store) (defined : state_before seen from ≡ Some base). kept ours disk seen from place base r h defined (tidy base defined) c in
    record {
      listed = record {
        there = λ none base defined. let a = at base defined in listed_fork (get disk fork) ∙ a.forks fork mine none;
        reached = λ block none base defined. let a = at base defined in sym (listed_blocks disk fork block) ∙ ap (λ (o : Option (List ℕ)). is_some o) (a.blocks fork block mine none);
      };
      copied = λ block none base defined. let a = at base defined in a.blocks fork block mine none;
    }
