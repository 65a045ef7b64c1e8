-- What a partition has dirty or pending by flushed entries may be written.
use Rattle.std.proofs.Common.{◌≡◌, ℕ, ◌<◌, ◌≤◌, ⊎_elim, Bool, true, false, ◌&&◌, ◌||◌, true≢false, List, [], ◌∷◌, ◌++◌, map, is_some, Option, Some, None, refl, sym, ap, subst, ◌∙◌, arith, eqb-true}
use Rattle.std.specs.Prelude.{◌==◌, nat_le, slice_get}
use Rattle.std.specs.List.{AllByRecursion, list_any}
use Rattle.std.specs.FinMap.{get, empty}
use Rattle.std.proofs.lemmas.Bool.{and_parts, le-leb}
use Rattle.std.proofs.lemmas.Bool.Decides.{leb_tells}
use Rattle.std.proofs.lemmas.List.{map-append}
use Rattle.std.proofs.lemmas.List.Elements.{filter-append, recursion_from_All}
use Rattle.std.proofs.lemmas.List.Folds.{list_any-append}
use Rattle.std.proofs.lemmas.List.Sums.{fold-append}
use Rattle.lsn_core.specs.byte_words.Numbers.{◌>>=◌}
use Rattle.lsn_core.specs.declared.ids.ForkId.{ForkId}
use Rattle.lsn_core.specs.declared.ids.BlockId.{BlockId}
use Rattle.lsn_core.specs.Store.{Store, ForkPages}
use Rattle.lsn_core.specs.Blocks.{block_of}
use Rattle.history.specs.Entry.{Entry}
use Rattle.history.specs.Apply.{apply_all}
use Rattle.history.proofs.Stores.{by_test, fork_self}
use Rattle.history.proofs.Pushes.{all_weaker}
use Rattle.history.specs.partitions.Parts.{is_of, part_of, IsPart}
use Rattle.history.proofs.partitions.Puts.{own}
use Rattle.history.specs.fuzzy_copies.Touches.{act_cuts, touches, resets, settles}
use Rattle.history.specs.fuzzy_copies.Taken.{since}
use Rattle.history.proofs.fuzzy_copies.Kept.{entries_keep, forks_keep}
use Rattle.page_frames.specs.Marks.{DirtyMarks, touch_end, is_dirty}
use Rattle.page_frames.specs.Overlay.{marks_over}
use Rattle.page_frames.proofs.Overlays.{block_over, dirty_there}
use Rattle.stop_areas.specs.Left.{Base}
use Rattle.stop_areas.specs.Keeps.{MayWrite}
use Rattle.page_pool.specs.declared.work.Work.{Work}
use Rattle.page_pool.specs.declared.work.Work.TheVariants.{Make, Cut, Remove}
use Rattle.page_pool.specs.declared.work.Pending.{Pending}
use Rattle.page_pool.specs.Part.{Part, work_settles, work_cuts, is_to_settle, is_to_cut}
use Rattle.page_pool.specs.Facts.{touch_over, last_touch, enters, is_entered, own_since}
use Rattle.page_pool.specs.Stops.{MayDo}
use Rattle.page_pool.proofs.Windows.{any_part, part_touches, touches_to, touch_in, entered_by, entered_cuts, entered_settles}
use Rattle.page_pool.proofs.Followed.{told}
use Rattle.stop_laws.specs.Window.{window_base}
use Rattle.stop_laws.specs.Laws.{IsFlushedTo, FlushedWritesMayBeDone, CallsKeepWindows}
use Rattle.stop_laws.proofs.Windows.{all_since}
use Rattle.stop_laws.proofs.Touched.{part_now, EndBehind, later_leave, part_ends, untouched, was_there, in_fork, lower}

own_parts : (q from : ℕ) (known later : List Entry) → own_since q from (known ++ later) ≡ own_since q from known ++ own_since q from later
own_parts q from known later =
    ap (map (part_of q)) (filter-append (λ (e : Entry). nat_le from e.start) known later) ∙ map-append (part_of q) (since from known) (since from later)

module _ (q flushed : ℕ) (known later : List Entry) (store mid now : Store) (part : Part) (f : IsFlushedTo q flushed known later store mid now part) where
  abbrev entries : List Entry
  entries = since part.point known

  abbrev base : Base
  base = window_base q part.point known store

  later_ends : AllByRecursion (EndBehind flushed) (since part.point later)
  later_ends = subst (AllByRecursion (EndBehind flushed)) (sym (all_since part.point later f.window.late)) (recursion_from_All (EndBehind flushed) later f.parted.later_end)

  own_later : AllByRecursion (EndBehind flushed) (own_since q part.point later)
  own_later = part_ends q flushed (since part.point later) later_ends

  -- ---- a dirty page

  frames_are : IsPart q now part.frames
  frames_are = part_now q (known ++ later) part.frames now f.window.made (told part.disk (apply_all empty (map (part_of q) (known ++ later)) ≡ Some part.frames) f.told f.follows.made)

  module _ (at : BlockId) (end : ℕ) (dirty : touch_end part.marks at.fork at.block ≡ Some end) (le : end ≤ flushed) where
    last : (list_any (touches at.fork at.block) (own_since q part.point later) ≡ false) × (last_touch at.fork at.block (own_since q part.point known) ≡ Some end)
    last =
        later_leave at.fork at.block flushed end (own_since q part.point later) (last_touch at.fork at.block (own_since q part.point known)) own_later
        (sym (fold-append (touch_over at.fork at.block) None (own_since q part.point known) (own_since q part.point later))
        ∙ ap (last_touch at.fork at.block) (sym (own_parts q part.point known later)) ∙ f.follows.unwritten.touched at.fork at.block end dirty) le

    changed : list_any (resets at.fork at.block) entries ≡ true
    changed =
        any_part q (touches_to at.fork at.block end) (resets at.fork at.block) entries
        (λ x t. ap (λ c. c || act_cuts at.fork at.block x.act) (part_touches q at.fork at.block x.act (and_parts (touches at.fork at.block (part_of q x)) (x.end == end) t).0))
        (touch_in at.fork at.block end (own_since q part.point known) last.1)

    there_now : is_some (block_of part.frames at.fork at.block) ≡ true
    there_now =
        let framed = f.framed in
        let marked : is_dirty (marks_over part.framed) at.fork at.block ≡ true = ap (λ (ms : DirtyMarks). is_dirty ms at.fork at.block) (sym framed.marks) ∙ ap (λ (o : Option ℕ). is_some o) dirty in
        ap (λ (s : Store). is_some (block_of s at.fork at.block)) framed.frames ∙ ap (λ (o : Option (List ℕ)). is_some o) (block_over framed.behind part.framed at (dirty_there part.framed at marked).0)

    there : is_of q at.fork ≡ true → is_some (block_of mid at.fork at.block) ≡ true
    there mine =
        let w = f.window in
        let quiet : list_any (touches at.fork at.block) later ≡ false =
        untouched q at.fork at.block later mine (ap (λ (es : List Entry). list_any (touches at.fork at.block) (map (part_of q) es)) (sym (all_since part.point later w.late)) ∙ last.0) in
        was_there mid now later at.fork at.block w.tidy_rest w.rest quiet
        (ap (λ (o : Option ForkPages). is_some (o >>= λ ps. slice_get ps at.block)) (sym (own q now part.frames at.fork frames_are mine)) ∙ there_now)

    may_write : MayWrite base at
    may_write = record {
      free = λ page stays. true≢false (sym changed ∙ stays.kept);
      below = λ other stays. lower (get mid at.fork) at.block other (there stays.ours) (entries_keep store mid entries at.fork other f.window.tidy f.window.done stays.kept ∙ stays.none);
      there = λ mine unsettled. sym (forks_keep store mid entries at.fork f.window.tidy f.window.done unsettled) ∙ in_fork (get mid at.fork) at.block (there mine);
    }

  -- ---- a pending work

  module _ (w : Pending) (entered : is_entered (own_since q part.point (known ++ later)) w ≡ true) (le : w.end.0 ≤ flushed) where
    not_later : (es : List Entry) → AllByRecursion (EndBehind flushed) es → list_any (entered_by w) es ≡ false
    not_later [] all = refl
    not_later (e ∷ es) all =
        by_test (entered_by w e)
        (λ some. let late : flushed < e.end = all.0 in let is = eqb-true e.end w.end.0 (and_parts (enters e.act w.work) (e.end == w.end.0) some).1 in absurd (omega (arith, late, is, le)))
        (λ none. ap (λ (c : Bool). c || list_any (entered_by w) es) none ∙ not_later es all.1)

    first : (a b : Bool) → (a || b) ≡ true → b ≡ false → a ≡ true
    first true b k none = refl
    first false b k none = absurd (true≢false (sym k ∙ none))

    entered_early : is_entered (own_since q part.point known) w ≡ true
    entered_early =
        first (is_entered (own_since q part.point known) w) (is_entered (own_since q part.point later) w)
        (sym (list_any-append (entered_by w) (own_since q part.point known) (own_since q part.point later)) ∙ ap (λ (es : List Entry). is_entered es w) (sym (own_parts q part.point known later)) ∙ entered)
        (not_later (own_since q part.point later) own_later)

    cuts : (fork : ForkId) (block : ℕ) → is_to_cut (w ∷ []) fork block ≡ true → list_any (resets fork block) entries ≡ true
    cuts fork block = entered_cuts q fork block entries (w ∷ []) (entered_early, tt)

    settled : (fork : ForkId) → is_to_settle (w ∷ []) fork ≡ true → list_any (settles fork) entries ≡ true
    settled fork = entered_settles q fork entries (w ∷ []) (entered_early, tt)

    may_do : (work : Work) → w.work ≡ work → MayDo base work
    may_do (Make fork) is = λ mine unsettled.
        absurd (true≢false (sym (settled fork (ap (λ (x : Work). work_settles fork x || false) is ∙ ap (λ (c : Bool). c || false) (fork_self fork))) ∙ unsettled))
    may_do (Cut fork count) is = λ block page stays.
        ⊎_elim (λ x. absurd (true≢false (sym (cuts fork block (ap (λ (x : Work). work_cuts fork block x || false) is
        ∙ ap (λ (c : Bool). (c && nat_le count block) || false) (fork_self fork) ∙ ap (λ (c : Bool). c || false) (le-leb count block x.1))) ∙ stays.kept))) (λ x. omega (arith, x.1)) (leb_tells count block)
    may_do (Remove fork) is = record {
      free = λ block page stays.
          true≢false (sym (cuts fork block (ap (λ (x : Work). work_cuts fork block x || false) is ∙ ap (λ (c : Bool). c || false) (fork_self fork))) ∙ stays.kept);
      gone = λ mine unsettled.
          absurd (true≢false (sym (settled fork (ap (λ (x : Work). work_settles fork x || false) is ∙ ap (λ (c : Bool). c || false) (fork_self fork))) ∙ unsettled));
    }

pub may_be_done : FlushedWritesMayBeDone
may_be_done q flushed known later store mid now part f = record {
  pages = λ at end dirty le. may_write q flushed known later store mid now part f at end dirty le;
  works = all_weaker (λ (w : Pending). is_entered (own_since q part.point (known ++ later)) w ≡ true) (λ (w : Pending). w.end.0 ≤ flushed → MayDo (window_base q part.point known store) w.work) part.works
      (λ w entered le. may_do q flushed known later store mid now part f w entered le w.work refl) f.follows.unwritten.entered;
}

pub keep_windows : CallsKeepWindows
keep_windows q flushed known later store mid now old new f keeps kept = keeps (window_base q old.point known store) (may_be_done q flushed known later store mid now old f) kept.0 kept.1
