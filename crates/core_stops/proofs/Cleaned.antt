-- A partition that is cleaned: its area is synced, and its point raised.
use Rattle.std.proofs.Common.{◌≡◌, arith, ℕ, ◌<◌, true, false, true≢false, List, [], ◌∷◌, Option, Some, is_some, refl, sym, ap, subst, ◌∙◌}
use Rattle.std.specs.Prelude.{max, slice_get}
use Rattle.std.specs.List.{list_any}
use Rattle.std.proofs.lemmas.Bool.{or_parts}
use Rattle.std.proofs.lemmas.List.Folds.{list_any-append}
use Rattle.lsn_core.specs.byte_words.Numbers.{◌>>=◌}
use Rattle.lsn_core.specs.declared.ids.ForkId.{ForkId}
use Rattle.lsn_core.specs.Files.{Files}
use Rattle.lsn_core.specs.Store.{Store, ForkPages}
use Rattle.lsn_core.specs.Blocks.{block_of}
use Rattle.vault.specs.Stops.{Event, synced}
use Rattle.vault.specs.Frame.{LeavesOnly}
use Rattle.rel_files.specs.Forks.{Holds}
use Rattle.history.specs.Entry.{Entry}
use Rattle.history.proofs.Stores.{by_test}
use Rattle.history.specs.partitions.Parts.{is_of, concerns}
use Rattle.history.proofs.partitions.Puts.{own}
use Rattle.history.specs.fuzzy_copies.Touches.{resets}
use Rattle.history.specs.fuzzy_copies.Sound.{state_before}
use Rattle.history.specs.fuzzy_copies.Taken.{since}
use Rattle.history.specs.fuzzy_copies.CoverLaws.{MakesTidily}
use Rattle.history.proofs.fuzzy_copies.Kept.{entries_keep, forks_keep}
use Rattle.store_core.specs.State.{Part}
use Rattle.store_core.specs.Parts.{cleaned}
use Rattle.store_core.proofs.Follows.{Follows}
use Rattle.stop_areas.specs.Left.{Base, HasWhatStays, IsLeftOf}
use Rattle.stop_areas.proofs.Held.{held_left}
use Rattle.stop_areas.proofs.Kept.{stops_keep_pages}
use Rattle.stop_laws.specs.Window.{base_of}
use Rattle.stop_laws.specs.Laws.{HasWindow}
use Rattle.stop_laws.proofs.Windows.{have_windows}
use Rattle.stop_laws.proofs.Touched.{others_reset, others_settle}
use Rattle.core_stops.specs.Machine.{IsClean, is_known}
use Rattle.core_stops.proofs.Parted.{knowns, laters, parted, late, ends, pass, is_lost, none_filtered, raised_lost}
use Rattle.core_stops.proofs.Whole.{page_size}
use Rattle.core_stops.proofs.Kept.{is_waiting}
use Rattle.core_stops.proofs.Written.{Moments, KeptAt}

one_store : (s t : Store) (m : Option Store) → m ≡ Some s → m ≡ Some t → s ≡ t
one_store s t m e f = cc

module _ (q relseg mib flushed redo : ℕ) (history : List Entry) (now : Store) (some : 0 < relseg) (past : List Event) (part : Part) (files : Files) (makes : MakesTidily history (max part.point redo) now) (f : Follows q mib history now part) (k : KeptAt q relseg flushed history past part)
    (clean : IsClean part) (holds : Holds relseg files part.frames) where
  abbrev from : ℕ
  from = max part.point redo

  abbrev known : List Entry
  known = knowns from flushed history

  abbrev later : List Entry
  later = laters from flushed history

  pub sync_moments : Moments q relseg flushed history part.point past (synced (Some files) ∷ past)
  sync_moments store defined =
      subst (λ (s : Store). LeavesOnly (IsLeftOf relseg (base_of (is_of q) s (since part.point (knowns part.point flushed history)))) (Some past) (Some (synced (Some files) ∷ past)))
      (one_store k.store store (state_before (knowns part.point flushed history) part.point) k.defined defined)
      (stops_keep_pages relseg (base_of (is_of q) k.store (since part.point (knowns part.point flushed history))) (Some past) (Some (synced (Some files) ∷ past)) some
      (record { events = synced (Some files) ∷ []; each = (tt, tt); past = refl }) k.left)

  -- nothing of the partition is later
  none_waits : (rest : List Entry) → is_waiting rest part.dirty part.works ≡ false
  none_waits rest = ap (λ d. is_waiting rest d part.works) clean.dirty ∙ ap (λ w. is_waiting rest [] w) clean.works

  none_before : list_any (concerns q) (laters part.point flushed history) ≡ false
  none_before =
      by_test (list_any (concerns q) (laters part.point flushed history))
      (λ so. absurd (true≢false (sym (k.waits [] (laters part.point flushed history) refl so) ∙ none_waits (laters part.point flushed history))))
      (λ not_so. not_so)

  none_later : list_any (concerns q) later ≡ false
  none_later =
      let p = pass part.point flushed from flushed 0 history (omega arith) (omega arith) makes.orderly in
      (or_parts (list_any (concerns q) p.passed) (list_any (concerns q) later) (sym (list_any-append (concerns q) p.passed later) ∙ (ap (list_any (concerns q)) p.later ∙ none_before))).1

  has : HasWindow from known later now
  has = have_windows from known later now (subst (λ (l : List Entry). MakesTidily l from now) (sym (parted from flushed 0 history makes.orderly)) makes) (late from flushed history)

  abbrev base : Base
  base = base_of (is_of q) has.store (since from known)

  block_is : (fork : ForkId) (block : ℕ) → is_of q fork ≡ true → list_any (resets fork block) (since from known) ≡ false → block_of part.frames fork block ≡ block_of has.store fork block
  block_is fork block mine kept =
      let w = has.window in
      ap (λ (o : Option ForkPages). o >>= λ ps. slice_get ps block) (own q now part.frames fork f.frames mine)
      ∙ (entries_keep has.mid now later fork block w.tidy_rest w.rest (others_reset q fork block later mine none_later)
      ∙ entries_keep has.store has.mid (since from known) fork block w.tidy w.done kept)

  what_stays : HasWhatStays base part.frames
  what_stays = record {
    pages = λ fork block page stays. block_is fork block stays.ours stays.kept ∙ stays.there;
    missing = λ fork block stays. block_is fork block stays.ours stays.kept ∙ stays.none;
    forks = λ fork mine unsettled.
        let w = has.window in
        ap (λ (o : Option ForkPages). is_some o) (own q now part.frames fork f.frames mine)
        ∙ (forks_keep has.mid now later fork w.tidy_rest w.rest (others_settle q fork later mine none_later)
        ∙ forks_keep has.store has.mid (since from known) fork w.tidy w.done unsettled);
  }

  pub clean_keeps : KeptAt q relseg flushed history (synced (Some files) ∷ past) (cleaned redo part)
  clean_keeps = record {
    store = has.store;
    defined = has.window.defined;
    late = late from flushed history;
    ends = ends from flushed history;
    left = λ c left. subst (IsLeftOf relseg base) (sym left.2.1) (held_left relseg base part.frames files some holds k.frames what_stays);
    pages = λ fork block page stays. let there = what_stays.pages fork block page stays in (there, page_size part.frames fork block page k.frames there);
    waits = λ front rest split so.
        absurd (true≢false (sym so ∙ (or_parts (list_any (concerns q) front) (list_any (concerns q) rest) (sym (list_any-append (concerns q) front rest) ∙ (ap (list_any (concerns q)) split ∙ none_later))).1));
    lost = none_filtered (is_lost q from flushed) (is_known from flushed) history (raised_lost q part.point flushed from history k.lost none_before);
    frames = k.frames;
    disk = k.frames;
  }
