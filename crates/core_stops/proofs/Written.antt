-- A write of a partition whose WAL is flushed leaves what stays, at each moment.
use Rattle.std.proofs.Common.{◌≡◌, arith, ℕ, ◌<◌, ◌≤◌, ⊎_elim, Bool, true, false, cond, ◌&&◌, true≢false, List, [], ◌∷◌, ◌++◌, length, Option, None, Some, is_some, refl, sym, ap, subst, ◌∙◌, eqb-true, leb-true, append_assoc}
use Rattle.std.specs.Prelude.{◌==◌, nat_le, slice_get}
use Rattle.std.specs.List.{All, list_any}
use Rattle.std.specs.FinMap.{get}
use Rattle.std.proofs.lemmas.Bool.{and_parts, or_parts, or_left, or_right, le-leb}
use Rattle.std.proofs.lemmas.Bool.Decides.{leb_tells}
use Rattle.std.proofs.lemmas.List.Folds.{list_any-append}
use Rattle.lsn_core.specs.byte_words.Numbers.{◌>>=◌}
use Rattle.lsn_core.specs.declared.ids.ForkId.{ForkId}
use Rattle.lsn_core.specs.declared.ids.BlockId.{BlockId}
use Rattle.lsn_core.specs.Store.{Store, ForkPages}
use Rattle.lsn_core.specs.Blocks.{block_of, page_put, with_cut}
use Rattle.vault.specs.Stops.{Event}
use Rattle.vault.specs.Frame.{Adds, Each, LeavesOnly}
use Rattle.rel_files.specs.Forks.{HasWholePages}
use Rattle.rel_files.proofs.WholePages.{put_whole}
use Rattle.history.specs.Entry.{Act, Create, Truncate, Change, Drop, Mark, Entry}
use Rattle.history.specs.Apply.{main_fork, is_same_fork, is_same_block, page_at}
use Rattle.history.specs.Whole.{is_named}
use Rattle.history.proofs.Stores.{by_test, fork_is, block_is, block_self, page_found}
use Rattle.history.proofs.Pushes.{all_first}
use Rattle.history.specs.partitions.Parts.{is_of}
use Rattle.history.proofs.partitions.Puts.{own}
use Rattle.history.specs.fuzzy_copies.Touches.{act_touches, act_cuts, act_settles, touches, resets, settles}
use Rattle.history.specs.fuzzy_copies.Sound.{state_before}
use Rattle.history.specs.fuzzy_copies.Taken.{since}
use Rattle.history.specs.fuzzy_copies.CoverLaws.{MakesTidily}
use Rattle.history.proofs.fuzzy_copies.Kept.{entries_keep, forks_keep}
use Rattle.store_core.specs.declared.step.Work.{Work}
use Rattle.store_core.specs.declared.step.Work.TheVariants.{Make, Cut, Remove}
use Rattle.store_core.specs.State.{Part}
use Rattle.store_core.specs.Parts.{Turn, with_disk, work_done, next_write}
use Rattle.store_core.specs.Facts.{enters, is_dirty, is_entered}
use Rattle.store_core.proofs.Behind.{page_block, cut_block}
use Rattle.store_core.proofs.Caused.{any_weaker}
use Rattle.store_core.proofs.Follows.{Follows, follows_write}
use Rattle.stop_areas.specs.Left.{Base, Stays, HasPagesThatStay, IsLeftOf}
use Rattle.stop_areas.specs.Keeps.{MayBeThere, MayBeCut, MayBeRemoved, MayWrite}
use Rattle.stop_areas.specs.Laws.{IsAny, KeepsLeft}
use Rattle.stop_areas.proofs.Calls.{puts_keep, makes_keep, cuts_keep, removals_keep}
use Rattle.stop_areas.proofs.Moments.{left_now, in_turn, keeps_none}
use Rattle.stop_areas.proofs.Raw.{pages_make, pages_removal}
use Rattle.stop_laws.specs.Window.{base_of, IsWindow}
use Rattle.stop_laws.proofs.Windows.{have_windows}
use Rattle.stop_laws.proofs.Touched.{was_there, in_fork, lower}
use Rattle.core_stops.specs.Machine.{IsFlushed, entered, IsOfWork, IsNextWrite, part_behind, after_write, AreWrites, after_writes, past_after}
use Rattle.core_stops.proofs.Parted.{knowns, laters, parted, none_later, some_known}
use Rattle.core_stops.proofs.Whole.{work_whole, whole_held, page_size}
use Rattle.core_stops.proofs.Kept.{is_waiting, IsKept, fewer_pages, fewer_works}

one_store : (s t : Store) (m : Option Store) → m ≡ Some s → m ≡ Some t → s ≡ t
one_store s t m e f = cc

-- ---- the pages that stay are on the disk behind a write

page_kept : (base : Base) (at : BlockId) (page : List ℕ) (s : Store) → HasPagesThatStay base s → MayWrite base at → HasPagesThatStay base (page_put at page s)
page_kept base at page s has may fork block old stays =
    let is = has fork block old stays in
    let other : is_same_block (record { fork = fork; block = block }) at ≡ false =
    by_test (is_same_block (record { fork = fork; block = block }) at)
    (λ here. absurd (may.free old (subst (λ (x : BlockId). Stays base x.fork x.block old) (block_is (record { fork = fork; block = block }) at here) stays)))
    (λ apart. apart) in
    (page_block s at page fork block (λ apart same less. ap (λ (o : Option (List ℕ)). is_some o) is.0) ∙ ap (λ (c : Bool). cond c (Some page) (block_of s fork block)) other ∙ is.0, is.1)

cut_kept : (base : Base) (cut : ForkId) (count : ℕ) (s : Store) → HasPagesThatStay base s → MayBeCut base cut count → HasPagesThatStay base (with_cut s cut count)
cut_kept base cut count s has may fork block page stays =
    let is = has fork block page stays in
    let uncut : (is_same_fork fork cut && nat_le count block) ≡ false =
    by_test (is_same_fork fork cut && nat_le count block)
    (λ so.
    let p = and_parts (is_same_fork fork cut) (nat_le count block) so in
    let below = may block page (subst (λ (x : ForkId). Stays base x block page) (fork_is fork cut p.0) stays) in
    let past = leb-true count block p.1 in
    absurd (apart below past))
    (λ not_so. not_so) in
    (cut_block s cut count fork block ∙ ap (λ (c : Bool). cond c None (block_of s fork block)) uncut ∙ is.0, is.1)
  where
    apart : block < count → count ≤ block → ⊥
    apart l m = omega (arith, l, m)

-- ---- what an entry that entered a work did

made_settles : (made : ForkId) (act : Act) → enters (Make made) act ≡ true → act_settles made act ≡ true
made_settles made (Create fork) h = h
made_settles made (Truncate rel count) h = absurd (true≢false (sym h))
made_settles made (Change items) h = absurd (true≢false (sym h))
made_settles made (Drop rels) h = absurd (true≢false (sym h))
made_settles made (Mark marking) h = absurd (true≢false (sym h))

both : (a b : Bool) → a ≡ true → b ≡ true → (a && b) ≡ true
both a b x y = ap (λ (c : Bool). c && b) x ∙ y

cut_cuts : (cut : ForkId) (blocks block : ℕ) (act : Act) → enters (Cut cut blocks) act ≡ true → blocks ≤ block → act_cuts cut block act ≡ true
cut_cuts cut blocks block (Create fork) h l = absurd (true≢false (sym h))
cut_cuts cut blocks block (Truncate rel count) h l =
    let p = and_parts (is_same_fork cut (main_fork rel)) (blocks == count) h in
    both (is_same_fork cut (main_fork rel)) (nat_le count block) p.0 (subst (λ (n : ℕ). nat_le n block ≡ true) (eqb-true blocks count p.1) (le-leb blocks block l))
cut_cuts cut blocks block (Change items) h l = absurd (true≢false (sym h))
cut_cuts cut blocks block (Drop rels) h l = absurd (true≢false (sym h))
cut_cuts cut blocks block (Mark marking) h l = absurd (true≢false (sym h))

removed_cuts : (gone : ForkId) (block : ℕ) (act : Act) → enters (Remove gone) act ≡ true → act_cuts gone block act ≡ true
removed_cuts gone block (Create fork) h = absurd (true≢false (sym h))
removed_cuts gone block (Truncate rel count) h = absurd (true≢false (sym h))
removed_cuts gone block (Change items) h = absurd (true≢false (sym h))
removed_cuts gone block (Drop rels) h = h
removed_cuts gone block (Mark marking) h = absurd (true≢false (sym h))

removed_settles : (gone : ForkId) (act : Act) → enters (Remove gone) act ≡ true → act_settles gone act ≡ true
removed_settles gone (Create fork) h = absurd (true≢false (sym h))
removed_settles gone (Truncate rel count) h = absurd (true≢false (sym h))
removed_settles gone (Change items) h = absurd (true≢false (sym h))
removed_settles gone (Drop rels) h = h
removed_settles gone (Mark marking) h = absurd (true≢false (sym h))

-- ---- one write

-- what a stop leaves at each moment since a place in the area's past
abbrev pub Moments : ℕ → ℕ → ℕ → List Entry → ℕ → List Event → List Event → Type 0
Moments q relseg flushed history from past new =
    (store : Store) → state_before (knowns from flushed history) from ≡ Some store → LeavesOnly (IsLeftOf relseg (base_of (is_of q) store (since from (knowns from flushed history)))) (Some past) (Some new)

-- a partition that is kept
abbrev pub KeptAt : ℕ → ℕ → ℕ → List Entry → List Event → Part → Type 0
KeptAt q relseg flushed history past part = IsKept q relseg (knowns part.point flushed history) (laters part.point flushed history) flushed past part

-- what comes of writes
pub record IsWritten (q relseg mib flushed : ℕ) (history : List Entry) (now : Store) (past : List Event) (part : Part) (more : List Event) (new : Part) : Type 0 where
  pub moments : Moments q relseg flushed history part.point past more
  pub kept : KeptAt q relseg flushed history more new
  pub follows : Follows q mib history now new
  pub point : new.point ≡ part.point
  pub frames : new.frames ≡ part.frames

module _ (q relseg mib flushed : ℕ) (history : List Entry) (now : Store) (some : 0 < relseg) (past : List Event) (part : Part) (makes : MakesTidily history part.point now) (f : Follows q mib history now part) (k : KeptAt q relseg flushed history past part) where
  abbrev known : List Entry
  known = knowns part.point flushed history

  abbrev later : List Entry
  later = laters part.point flushed history

  abbrev entries : List Entry
  entries = since part.point known

  abbrev base : Base
  base = base_of (is_of q) k.store entries

  window : (mid : Store) × IsWindow part.point known later k.store mid now
  window =
      let h = have_windows part.point known later now (subst (λ (l : List Entry). MakesTidily l part.point now) (sym (parted part.point flushed 0 history makes.orderly)) makes) k.late in
      (h.mid, subst (λ (t : Store). IsWindow part.point known later t h.mid now) (one_store h.store k.store (state_before known part.point) h.window.defined k.defined) h.window)

  none_behind : (t : Entry → Bool) (front rest : List Entry) → front ++ rest ≡ later → list_any t later ≡ false → list_any t rest ≡ false
  none_behind t front rest split none = (or_parts (list_any t front) (list_any t rest) (sym (list_any-append t front rest) ∙ (ap (list_any t) split ∙ none))).1

  -- the partition behind a write, where what is written doesn't wait any more
  written : (events : List Event) (disk : Store) (dirty : List BlockId) (works : List Work) → KeepsLeft relseg base (Some past) (Some (events ++ past)) → HasPagesThatStay base disk → HasWholePages disk
      → ((front rest : List Entry) → front ++ rest ≡ later → is_waiting rest part.dirty part.works ≡ true → is_waiting rest dirty works ≡ true)
      → Follows q mib history now (with_disk part disk dirty works) → IsWritten q relseg mib flushed history now past part (events ++ past) (with_disk part disk dirty works)
  written events disk dirty works keeps pages whole fewer follows = record {
    moments = λ store defined.
        subst (λ (s : Store). LeavesOnly (IsLeftOf relseg (base_of (is_of q) s entries)) (Some past) (Some (events ++ past))) (one_store k.store store (state_before known part.point) k.defined defined) (keeps k.left);
    kept = record {
      store = k.store;
      defined = k.defined;
      late = k.late;
      ends = k.ends;
      left = left_now (IsLeftOf relseg base) (Some past) (Some (events ++ past)) (keeps k.left);
      pages = pages;
      waits = λ front rest split some. fewer front rest split (k.waits front rest split some);
      lost = k.lost;
      frames = k.frames;
      disk = whole;
    };
    follows = follows;
    point = refl;
    frames = refl;
  }

  turn_follows : (works : List Work) (dirty : List BlockId) (turn : Turn) → part.works ≡ works → part.dirty ≡ dirty → next_write part works dirty ≡ Some turn → Follows q mib history now turn.part
  turn_follows works dirty turn works_are dirty_are is =
      (follows_write q mib history now part turn (ap (λ (ws : List Work). next_write part ws part.dirty) works_are ∙ (ap (λ (d : List BlockId). next_write part works d) dirty_are ∙ is)) f).0

  -- ---- a dirty page

  module _ (at : BlockId) (named : is_dirty part.dirty at.fork at.block ≡ true) (ok : IsFlushed (touches at.fork at.block) flushed (since part.point history)) where
    changed : list_any (resets at.fork at.block) entries ≡ true
    changed =
        any_weaker (touches at.fork at.block) (resets at.fork at.block) entries (λ e h. or_left (act_touches at.fork at.block e.act) (act_cuts at.fork at.block e.act) h)
        (some_known part.point flushed (touches at.fork at.block) history (f.caused.touched at.fork at.block named) ok)

    quiet : list_any (touches at.fork at.block) later ≡ false
    quiet = none_later part.point flushed (touches at.fork at.block) history ok

    in_frames : is_some (block_of part.frames at.fork at.block) ≡ true
    in_frames = f.unwritten.there at.fork at.block named

    there : is_of q at.fork ≡ true → is_some (block_of window.0 at.fork at.block) ≡ true
    there mine =
        was_there window.0 now later at.fork at.block window.1.tidy_rest window.1.rest quiet
        (ap (λ (o : Option ForkPages). is_some (o >>= λ ps. slice_get ps at.block)) (sym (own q now part.frames at.fork f.frames mine)) ∙ in_frames)

    may_write : MayWrite base at
    may_write = record {
      free = λ page stays. true≢false (sym changed ∙ stays.kept);
      below = λ other stays. lower (get window.0 at.fork) at.block other (there stays.ours) (entries_keep k.store window.0 entries at.fork other window.1.tidy window.1.done stays.kept ∙ stays.none);
      there = λ mine unsettled. sym (forks_keep k.store window.0 entries at.fork window.1.tidy window.1.done unsettled) ∙ in_fork (get window.0 at.fork) at.block (there mine);
    }

    size : length (page_at part.frames at) ≡ 8192
    size = by (block_of part.frames at.fork at.block) refl in_frames
      where
        by : (o : Option (List ℕ)) → block_of part.frames at.fork at.block ≡ o → is_some o ≡ true → length (page_at part.frames at) ≡ 8192
        by None is h = absurd (true≢false (sym h))
        by (Some page) is h = ap (λ (p : List ℕ). length p) (page_found part.frames at page is) ∙ page_size part.frames at.fork at.block page k.frames is

  -- ---- a pending work

  module _ (w : Work) (pending : is_entered (since part.point history) w ≡ true) (ok : IsFlushed (entered w) flushed (since part.point history)) where
    done_early : list_any (entered w) entries ≡ true
    done_early = some_known part.point flushed (entered w) history pending ok

  may_make : (fork : ForkId) → list_any (entered (Make fork)) entries ≡ true → MayBeThere base fork
  may_make fork early mine unsettled = absurd (true≢false (sym (any_weaker (entered (Make fork)) (settles fork) entries (λ e h. made_settles fork e.act h) early) ∙ unsettled))

  may_cut : (fork : ForkId) (count : ℕ) → list_any (entered (Cut fork count)) entries ≡ true → MayBeCut base fork count
  may_cut fork count early block page stays =
      ⊎_elim
      (λ past.
      absurd (true≢false (sym (any_weaker (entered (Cut fork count)) (resets fork block) entries (λ e h. or_right (act_touches fork block e.act) (act_cuts fork block e.act) (cut_cuts fork count block e.act h past.1)) early) ∙ stays.kept)))
      (λ below. omega (arith, below.1))
      (leb_tells count block)

  may_remove : (fork : ForkId) → list_any (entered (Remove fork)) entries ≡ true → MayBeRemoved base fork
  may_remove fork early = record {
    free = λ block page stays.
        true≢false (sym (any_weaker (entered (Remove fork)) (resets fork block) entries (λ e h. or_right (act_touches fork block e.act) (act_cuts fork block e.act) (removed_cuts fork block e.act h)) early) ∙ stays.kept);
    gone = λ mine unsettled. absurd (true≢false (sym (any_weaker (entered (Remove fork)) (settles fork) entries (λ e h. removed_settles fork e.act h) early) ∙ unsettled));
  }

  work_left : (work : Work) (events : List Event) → list_any (entered work) entries ≡ true → Each (IsOfWork relseg part.disk work) events → KeepsLeft relseg base (Some past) (Some (events ++ past))
  work_left (Make fork) events early each = makes_keep relseg base fork (Some past) (Some (events ++ past)) some (may_make fork early) (record { events = events; each = each; past = refl })
  work_left (Cut fork count) events early each =
      cuts_keep relseg count base fork part.disk (Some past) (Some (events ++ past)) some (whole_held part.disk k.disk) k.pages (may_cut fork count early) (record { events = events; each = each; past = refl })
  work_left (Remove fork) events early each = removals_keep relseg base fork (Some past) (Some (events ++ past)) some (may_remove fork early) (record { events = events; each = each; past = refl })

  work_pages : (work : Work) → list_any (entered work) entries ≡ true → HasPagesThatStay base (work_done work part.disk)
  work_pages (Make fork) early = pages_make base fork part.disk k.pages
  work_pages (Cut fork count) early = cut_kept base fork count part.disk k.pages (may_cut fork count early)
  work_pages (Remove fork) early = pages_removal base fork part.disk k.pages (may_remove fork early)

  -- ---- the next write

  next : (works : List Work) (dirty : List BlockId) (events : List Event) → part.works ≡ works → part.dirty ≡ dirty → IsNextWrite relseg flushed (since part.point history) part.disk works dirty events
      → IsWritten q relseg mib flushed history now past part (events ++ past) (part_behind part (next_write part works dirty))
  next (work ∷ works) dirty events works_are dirty_are fits =
      let pending : is_entered (since part.point history) work ≡ true =
      all_first (λ (w : Work). is_entered (since part.point history) w ≡ true) work works (subst (All (λ (w : Work). is_entered (since part.point history) w ≡ true)) works_are f.caused.entered) in
      let early = done_early work pending fits.0 in
      let quiet = none_later part.point flushed (entered work) history fits.0 in
      written events (work_done work part.disk) dirty works (work_left work events early fits.1) (work_pages work early) (work_whole work part.disk k.disk)
      (λ front rest split wait.
      fewer_works rest work dirty works
      (subst (λ (ws : List Work). is_waiting rest dirty ws ≡ true) works_are (subst (λ (d : List BlockId). is_waiting rest d part.works ≡ true) dirty_are wait))
      (none_behind (entered work) front rest split quiet))
      (turn_follows (work ∷ works) dirty _ works_are dirty_are refl)
  next [] (at ∷ dirty) events works_are dirty_are fits =
      let named : is_dirty part.dirty at.fork at.block ≡ true = ap (is_named at) dirty_are ∙ or_left (is_same_block at at) (is_named at dirty) (block_self at) in
      let may = may_write at named fits.0 in
      written events (page_put at (page_at part.frames at) part.disk) dirty []
      (puts_keep relseg base at part.disk (Some past) (Some (events ++ past)) some (whole_held part.disk k.disk) k.pages may (record { events = events; each = fits.1; past = refl }))
      (page_kept base at (page_at part.frames at) part.disk k.pages may)
      (put_whole part.disk at.fork at.block (page_at part.frames at) k.disk (size at named fits.0))
      (λ front rest split wait.
      fewer_pages rest at dirty []
      (subst (λ (ws : List Work). is_waiting rest (at ∷ dirty) ws ≡ true) works_are (subst (λ (d : List BlockId). is_waiting rest d part.works ≡ true) dirty_are wait))
      (none_behind (touches at.fork at.block) front rest split (quiet at named fits.0)))
      (turn_follows [] (at ∷ dirty) _ works_are dirty_are refl)
  next [] [] events works_are dirty_are fits =
      let same : events ++ past ≡ past = ap (λ (es : List Event). es ++ past) fits in
      record {
        moments = λ store defined.
            subst (λ (s : Store). LeavesOnly (IsLeftOf relseg (base_of (is_of q) s entries)) (Some past) (Some (events ++ past))) (one_store k.store store (state_before known part.point) k.defined defined)
            (keeps_none relseg base (Some past) (Some (events ++ past)) (ap (λ (es : List Event). Some es) same) k.left);
        kept = subst (λ (es : List Event). KeptAt q relseg flushed history es part) (sym same) k;
        follows = f;
        point = refl;
        frames = refl;
      }

  pub write_keeps : (events : List Event) → IsNextWrite relseg flushed (since part.point history) part.disk part.works part.dirty events → IsWritten q relseg mib flushed history now past part (events ++ past) (after_write part)
  write_keeps events fits = next part.works part.dirty events refl refl fits

-- ---- several writes

pub any_each : (events : List Event) → Each IsAny events
any_each [] = tt
any_each (event ∷ events) = (tt, any_each events)

pub past_grows : (past : List Event) (writes : List (List Event)) → (events : List Event) × (past_after past writes ≡ events ++ past)
past_grows past [] = ([], refl)
past_grows past (events ∷ writes) =
    let rest = past_grows (events ++ past) writes in
    (rest.0 ++ events, rest.1 ∙ sym (append_assoc rest.0 events past))

pub adds_writes : (past : List Event) (writes : List (List Event)) → Adds IsAny (Some past) (Some (past_after past writes))
adds_writes past writes = let more = past_grows past writes in record { events = more.0; each = any_each more.0; past = ap (λ (es : List Event). Some es) more.1 }

moments_on : (q relseg flushed : ℕ) (history : List Entry) (from : ℕ) (past : List Event) (events : List Event) (writes : List (List Event)) → Moments q relseg flushed history from past (events ++ past) → Moments q relseg flushed history from (events ++ past) (past_after (events ++ past) writes)
    → Moments q relseg flushed history from past (past_after (events ++ past) writes)
moments_on q relseg flushed history from past events writes one rest store defined =
    in_turn (IsLeftOf relseg (base_of (is_of q) store (since from (knowns from flushed history)))) IsAny IsAny (Some past) (Some (events ++ past)) (Some (past_after (events ++ past) writes))
    (record { events = events; each = any_each events; past = refl }) (adds_writes (events ++ past) writes) (one store defined) (rest store defined)

pub writes_keep : (q relseg mib flushed : ℕ) (history : List Entry) (now : Store) (some : 0 < relseg) (past : List Event) (part : Part) (writes : List (List Event)) → MakesTidily history part.point now → Follows q mib history now part → KeptAt q relseg flushed history past part
    → AreWrites relseg flushed (since part.point history) part writes → IsWritten q relseg mib flushed history now past part (past_after past writes) (after_writes part writes)
writes_keep q relseg mib flushed history now some past part [] makes f k fits = record {
  moments = λ store defined.
      subst (λ (s : Store). LeavesOnly (IsLeftOf relseg (base_of (is_of q) s (since part.point (knowns part.point flushed history)))) (Some past) (Some past)) (one_store k.store store (state_before (knowns part.point flushed history) part.point) k.defined defined)
      (keeps_none relseg (base_of (is_of q) k.store (since part.point (knowns part.point flushed history))) (Some past) (Some past) refl k.left);
  kept = k;
  follows = f;
  point = refl;
  frames = refl;
}
writes_keep q relseg mib flushed history now some past part (events ∷ writes) makes f k fits =
    let one = write_keeps q relseg mib flushed history now some past part makes f k events fits.0 in
    let next = after_write part in
    let rest = writes_keep q relseg mib flushed history now some (events ++ past) next writes (subst (λ (n : ℕ). MakesTidily history n now) (sym one.point) makes) one.follows one.kept
    (subst (λ (n : ℕ). AreWrites relseg flushed (since n history) next writes) (sym one.point) fits.1) in
    record {
      moments = moments_on q relseg flushed history part.point past events writes one.moments (subst (λ (n : ℕ). Moments q relseg flushed history n (events ++ past) (past_after (events ++ past) writes)) one.point rest.moments);
      kept = rest.kept;
      follows = rest.follows;
      point = rest.point ∙ one.point;
      frames = rest.frames ∙ one.frames;
    }
