-- What a stop left as of a partition's point, it left as of each earlier place, of the entries that survive it.
use Rattle.std.proofs.Common.{◌≡◌, arith, ℕ, ◌<◌, ◌≤◌, Bool, true, false, cond, ◌&&◌, ◌||◌, true≢false, List, [], ◌∷◌, ◌++◌, Option, Some, refl, sym, ap, subst, ◌∙◌}
use Rattle.std.specs.Prelude.{nat_lt, nat_le}
use Rattle.std.specs.List.{All, AllByRecursion, list_any, filter}
use Rattle.std.specs.FinMap.{empty}
use Rattle.std.proofs.lemmas.Bool.{or_parts, lt-ltb, ltb-true, leb-true}
use Rattle.std.proofs.lemmas.List.Elements.{filter-append, recursion_from_All}
use Rattle.std.proofs.lemmas.List.Folds.{list_any-append}
use Rattle.lsn_core.specs.byte_words.Numbers.{◌>>=◌}
use Rattle.lsn_core.proofs.byte_words.Fields.{bind_some}
use Rattle.lsn_core.specs.declared.ids.ForkId.{ForkId}
use Rattle.lsn_core.specs.Files.{Files}
use Rattle.lsn_core.specs.Store.{Store}
use Rattle.lsn_core.specs.Blocks.{block_of}
use Rattle.history.specs.Entry.{Entry}
use Rattle.history.specs.Apply.{apply_all}
use Rattle.history.proofs.Stores.{by_test}
use Rattle.history.specs.partitions.Parts.{is_of, concerns}
use Rattle.history.specs.fuzzy_copies.Touches.{resets, settles}
use Rattle.history.specs.fuzzy_copies.Orderly.{IsOrderly}
use Rattle.history.specs.fuzzy_copies.Sound.{window, state_before, entries_before}
use Rattle.history.specs.fuzzy_copies.Taken.{since}
use Rattle.history.specs.fuzzy_copies.Covers.{AreTidy}
use Rattle.history.proofs.fuzzy_copies.Replay.{applied_in_two}
use Rattle.history.proofs.fuzzy_copies.Taken.{in_parts, rising_front}
use Rattle.history.proofs.fuzzy_copies.Kept.{entries_keep, forks_keep, tidy_front, tidy_behind}
use Rattle.history.proofs.fuzzy_copies.Covering.{TwoRanges, two_ranges}
use Rattle.stop_areas.specs.Left.{IsLeftOf}
use Rattle.stop_laws.specs.Window.{base_of, window_base}
use Rattle.stop_laws.proofs.Touched.{others_reset, others_settle}
use Rattle.core_stops.specs.Machine.{is_known}
use Rattle.core_stops.proofs.Parted.{knowns, before_known, known_first, later_first, is_lost}

-- ---- entries of two lists

-- of fewer entries none is such
none_of_fewer : (t a b : Entry → Bool) (es : List Entry) → list_any t (filter a es) ≡ false → list_any t (filter a (filter b es)) ≡ false
none_of_fewer t a b [] none = none
none_of_fewer t a b (e ∷ es) none =
    by_test (a e)
    (λ here.
    let p = or_parts (t e) (list_any t (filter a es)) (sym (ap (λ (c : Bool). list_any t (cond c (e ∷ filter a es) (filter a es))) here) ∙ none) in
    let rest = none_of_fewer t a b es p.1 in
    by_test (b e)
    (λ kept. ap (λ (c : Bool). list_any t (filter a (cond c (e ∷ filter b es) (filter b es)))) kept ∙ ap (λ (c : Bool). list_any t (cond c (e ∷ filter a (filter b es)) (filter a (filter b es)))) here
    ∙ ap (λ (c : Bool). c || list_any t (filter a (filter b es))) p.0 ∙ rest)
    (λ gone. ap (λ (c : Bool). list_any t (filter a (cond c (e ∷ filter b es) (filter b es)))) gone ∙ rest))
    (λ away.
    let rest = none_of_fewer t a b es (sym (ap (λ (c : Bool). list_any t (cond c (e ∷ filter a es) (filter a es))) away) ∙ none) in
    either (b e) away rest)
  where
    either : (c : Bool) → a e ≡ false → list_any t (filter a (filter b es)) ≡ false → list_any t (filter a (cond c (e ∷ filter b es) (filter b es))) ≡ false
    either true away rest = ap (λ (d : Bool). list_any t (cond d (e ∷ filter a (filter b es)) (filter a (filter b es)))) away ∙ rest
    either false away rest = rest

-- ---- lost entries

abbrev EndsPast : ℕ → Entry → Type 0
EndsPast flushed e = flushed < e.end

not_flushed : (flushed end : ℕ) → flushed < end → nat_le end flushed ≡ false
not_flushed flushed end less = by_test (nat_le end flushed) (λ so. absurd (apart (leb-true end flushed so))) (λ not_so. not_so)
  where
    apart : end ≤ flushed → ⊥
    apart l = omega (arith, l, less)

module _ (q place flushed : ℕ) where
  -- of those that start below the place, none is the partition's
  quiet_below : (es : List Entry) → AllByRecursion (EndsPast flushed) es → list_any (is_lost q place flushed) (knowns place flushed es) ≡ false → list_any (concerns q) (entries_before es place) ≡ false
  quiet_below [] all none = refl
  quiet_below (e ∷ es) all none =
      by_test (nat_lt e.start place)
      (λ below.
      let known : is_known place flushed e ≡ true = ap (λ (b : Bool). b || nat_le e.end flushed) below in
      let p = or_parts (is_lost q place flushed e) (list_any (is_lost q place flushed) (knowns place flushed es)) (sym (ap (list_any (is_lost q place flushed)) (known_first place flushed e es known).0) ∙ none) in
      let here : concerns q e ≡ false = by_test (concerns q e) (λ so. absurd (true≢false (sym (lost_is so below) ∙ p.0))) (λ not_so. not_so) in
      ap (λ (b : Bool). list_any (concerns q) (cond b (e ∷ entries_before es place) (entries_before es place))) below
      ∙ ap (λ (b : Bool). b || list_any (concerns q) (entries_before es place)) here ∙ quiet_below es all.1 p.1)
      (λ past.
      let later : is_known place flushed e ≡ false = ap (λ (b : Bool). b || nat_le e.end flushed) past ∙ not_flushed flushed e.end all.0 in
      ap (λ (b : Bool). list_any (concerns q) (cond b (e ∷ entries_before es place) (entries_before es place))) past
      ∙ quiet_below es all.1 (sym (ap (list_any (is_lost q place flushed)) (later_first place flushed e es later).0) ∙ none))
    where
      lost_is : concerns q e ≡ true → nat_lt e.start place ≡ true → is_lost q place flushed e ≡ true
      lost_is so below = ap (λ (b : Bool). b && (nat_lt e.start place && nat_lt flushed e.end)) so ∙ (ap (λ (b : Bool). b && nat_lt flushed e.end) below ∙ lt-ltb flushed e.end all.0)

  -- and of those that are known none starts at the place or past it
  none_known_since : (t : Entry → Bool) (es : List Entry) → AllByRecursion (EndsPast flushed) es → list_any t (since place (knowns place flushed es)) ≡ false
  none_known_since t [] all = refl
  none_known_since t (e ∷ es) all =
      by_test (nat_lt e.start place)
      (λ below.
      let known : is_known place flushed e ≡ true = ap (λ (b : Bool). b || nat_le e.end flushed) below in
      ap (λ (l : List Entry). list_any t (since place l)) (known_first place flushed e es known).0
      ∙ ap (λ (b : Bool). list_any t (cond b (e ∷ since place (knowns place flushed es)) (since place (knowns place flushed es)))) (not_since below)
      ∙ none_known_since t es all.1)
      (λ past.
      let later : is_known place flushed e ≡ false = ap (λ (b : Bool). b || nat_le e.end flushed) past ∙ not_flushed flushed e.end all.0 in
      ap (λ (l : List Entry). list_any t (since place l)) (later_first place flushed e es later).0 ∙ none_known_since t es all.1)
    where
      not_since : nat_lt e.start place ≡ true → nat_le place e.start ≡ false
      not_since below = by_test (nat_le place e.start) (λ so. absurd (apart (ltb-true e.start place below) (leb-true place e.start so))) (λ not_so. not_so)
        where
          apart : e.start < place → place ≤ e.start → ⊥
          apart l m = omega (arith, l, m)

-- ---- the passage

module _ (relseg q flushed from place : ℕ) (first lost : List Entry) (base store : Store) (files : Files) (rise : IsOrderly 0 (first ++ lost)) (tidy : AreTidy empty (first ++ lost)) (late : All (EndsPast flushed) lost) (le : from ≤ place)
    (quiet : list_any (is_lost q place flushed) (knowns place flushed (first ++ lost)) ≡ false) (made : state_before first from ≡ Some base) (there : state_before (knowns place flushed (first ++ lost)) place ≡ Some store)
    (left : IsLeftOf relseg (base_of (is_of q) store (since place (knowns place flushed (first ++ lost)))) files) where
  ends_past : AllByRecursion (EndsPast flushed) lost
  ends_past = recursion_from_All (EndsPast flushed) lost late

  known_parts : knowns place flushed (first ++ lost) ≡ knowns place flushed first ++ knowns place flushed lost
  known_parts = filter-append (is_known place flushed) first lost

  ranges : TwoRanges first from place
  ranges = two_ranges first from place (rising_front 0 first lost rise) le

  abbrev below : List Entry
  below = entries_before lost place

  before : entries_before (first ++ lost) place ≡ entries_before first place ++ below
  before = filter-append (λ (e : Entry). nat_lt e.start place) first lost

  reached : apply_all empty (entries_before first place ++ below) ≡ Some store
  reached = sym (ap (apply_all empty) (before_known place flushed (first ++ lost) ∙ before)) ∙ there

  middle_store : (mid : Store) × (apply_all empty (entries_before first place) ≡ Some mid) × (apply_all mid below ≡ Some store)
  middle_store = bind_some (apply_all empty (entries_before first place)) (λ s. apply_all s below) store (sym (applied_in_two empty (entries_before first place) below) ∙ reached)

  abbrev mid : Store
  mid = middle_store.0

  done : apply_all base (window first from place) ≡ Some mid
  done =
      sym (ap (apply_all empty) ranges.early ∙ applied_in_two empty (entries_before first from) (window first from place) ∙ ap (λ (m : Option Store). m >>= λ t. apply_all t (window first from place)) made) ∙ middle_store.1

  tidy_before : AreTidy empty (entries_before first place ++ below)
  tidy_before = subst (AreTidy empty) before (tidy_front empty (entries_before (first ++ lost) place) (since place (first ++ lost)) (subst (AreTidy empty) (in_parts place 0 (first ++ lost) rise) tidy))

  tidy_below : AreTidy mid below
  tidy_below = tidy_behind empty mid (entries_before first place) below tidy_before middle_store.1

  tidy_window : AreTidy base (window first from place)
  tidy_window = tidy_behind empty base (entries_before first from) (window first from place) (subst (AreTidy empty) ranges.early (tidy_front empty (entries_before first place) below tidy_before)) made

  others : list_any (concerns q) below ≡ false
  others =
      quiet_below q place flushed lost ends_past
      (or_parts (list_any (is_lost q place flushed) (knowns place flushed first)) (list_any (is_lost q place flushed) (knowns place flushed lost))
      (sym (ap (list_any (is_lost q place flushed)) known_parts ∙ list_any-append (is_lost q place flushed) (knowns place flushed first) (knowns place flushed lost)) ∙ quiet)).1

  -- what no survivor from the earlier place on does, none does in between, and no known entry from the later one on
  parts : (t : Entry → Bool) → list_any t (since from first) ≡ false → (list_any t (window first from place) ≡ false) × (list_any t (since place (knowns place flushed (first ++ lost))) ≡ false)
  parts t none =
      let p = or_parts (list_any t (window first from place)) (list_any t (since place first)) (sym (ap (list_any t) ranges.all ∙ list_any-append t (window first from place) (since place first)) ∙ none) in
      let here = none_of_fewer t (λ (e : Entry). nat_le place e.start) (is_known place flushed) first p.1 in (
        p.0,
        ap (λ (l : List Entry). list_any t (since place l)) known_parts
            ∙ ap (list_any t) (filter-append (λ (e : Entry). nat_le place e.start) (knowns place flushed first) (knowns place flushed lost))
            ∙ list_any-append t (since place (knowns place flushed first)) (since place (knowns place flushed lost))
            ∙ ap (λ (b : Bool). b || list_any t (since place (knowns place flushed lost))) here
            ∙ none_known_since q place flushed t lost ends_past,
      )

  same_block : (fork : ForkId) (block : ℕ) → is_of q fork ≡ true → list_any (resets fork block) (since from first) ≡ false → block_of store fork block ≡ block_of base fork block
  same_block fork block mine none =
      entries_keep mid store below fork block tidy_below middle_store.2 (others_reset q fork block below mine others)
      ∙ entries_keep base mid (window first from place) fork block tidy_window done (parts (resets fork block) none).0

  pub survivors_left : IsLeftOf relseg (window_base q from first base) files
  survivors_left = record {
    pages = λ fork block page named stays. left.pages fork block page named (record {
      ours = stays.ours;
      kept = (parts (resets fork block) stays.kept).1;
      there = same_block fork block stays.ours stays.kept ∙ stays.there;
    });
    missing = λ fork block named stays. left.missing fork block named (record {
      ours = stays.ours;
      kept = (parts (resets fork block) stays.kept).1;
      none = same_block fork block stays.ours stays.kept ∙ stays.none;
    });
    forks = λ fork named mine unsettled.
        left.forks fork named mine (parts (settles fork) unsettled).1
        ∙ (forks_keep mid store below fork tidy_below middle_store.2 (others_settle q fork below mine others)
        ∙ forks_keep base mid (window first from place) fork tidy_window done (parts (settles fork) unsettled).0);
  }
