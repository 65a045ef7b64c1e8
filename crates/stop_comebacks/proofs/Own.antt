-- A partition writes files of its own forks alone, and none past the most pages.
use Rattle.std.proofs.Common.{◌≡◌, ℕ, suc, ◌/◌, ◌<◌, ◌≤◌, ◌||◌, Bool, true, false, cond, not, true≢false, List, [], ◌∷◌, map, length, is_some, IsSome, IfSome, Option, Some, None, refl, sym, ap, subst, ◌∙◌, arith, eqb-true, eq-eqb}
use Rattle.std.specs.Prelude.{◌==◌, slice_get}
use Rattle.std.specs.List.{All, list_any, filter}
use Rattle.std.specs.FinMap.{get, empty, get-empty}
use Rattle.std.proofs.lemmas.Bool.{and_parts}
use Rattle.std.proofs.lemmas.List.Elements.{All-nil, All-cons}
use Rattle.std.proofs.lemmas.Option.{slice_get_past}
use Rattle.lsn_core.specs.Files.{Files}
use Rattle.lsn_core.specs.Names.{fork_path_bytes}
use Rattle.lsn_core.specs.Store.{Store, ForkPages, fork_cmp}
use Rattle.lsn_core.specs.Blocks.{block_of}
use Rattle.lsn_core.specs.byte_words.Numbers.{◌>>=◌}
use Rattle.lsn_core.specs.declared.ids.BlockId.{BlockId}
use Rattle.lsn_core.specs.declared.ids.ForkId.{ForkId}
use Rattle.vault.specs.Frame.{LeavesNow, LeavesOnly}
use Rattle.vault.specs.Stops.{Event}
use Rattle.rel_files.specs.Forks.{Holds, HasWholePages}
use Rattle.rel_files.proofs.SegmentFiles.{renamed, less_by}
use Rattle.history.specs.declared.op.Item.{Item}
use Rattle.history.specs.Entry.{Act, Create, Truncate, Change, Drop, Mark, NoOp, Entry}
use Rattle.history.specs.Apply.{main_fork, is_same_fork, apply_all}
use Rattle.history.proofs.Stores.{by_test, fork_is, block_is}
use Rattle.history.proofs.Pushes.{all_weaker}
use Rattle.history.specs.partitions.Parts.{is_of, is_item_of, act_part, part_of, IsPart}
use Rattle.history.specs.fuzzy_copies.Touches.{is_at, act_touches, touches}
use Rattle.history.specs.fuzzy_copies.Taken.{since}
use Rattle.history.proofs.fuzzy_copies.Completed.{or_second}
use Rattle.page_frames.specs.Marks.{DirtyMarks, touch_end, is_dirty}
use Rattle.page_frames.specs.Overlay.{marks_over}
use Rattle.page_frames.proofs.Overlays.{dirty_there}
use Rattle.stop_areas.specs.Left.{Base, Stays, IsLeftOf, HasWhatStays, LacksPage}
use Rattle.stop_areas.specs.Keeps.{MayWrite}
use Rattle.stop_areas.proofs.Held.{held_left}
use Rattle.page_pool.specs.declared.work.Work.{Work}
use Rattle.page_pool.specs.declared.work.Work.TheVariants.{Make, Cut, Remove}
use Rattle.page_pool.specs.declared.work.Pending.{Pending}
use Rattle.page_pool.specs.Part.{Part}
use Rattle.page_pool.specs.Calls.{AreWholePages, HoldsPart}
use Rattle.page_pool.specs.Facts.{enters, is_entered, own_since}
use Rattle.page_pool.specs.Stops.{MayDo, Allows, RawKeeps}
use Rattle.page_pool.proofs.Windows.{touches_to, touch_in, entered_by}
use Rattle.page_pool.proofs.Followed.{told}
use Rattle.stop_laws.proofs.Touched.{part_now}
use Rattle.neat_laws.specs.Room.{page_limit}
use Rattle.neat_laws.proofs.Held.{limit_is}
use Rattle.stop_comebacks.specs.Stopped.{HasOwnFiles}
use Rattle.stop_comebacks.specs.Laws.{IsOwnPart, CallsKeepOwnFiles, CleanPartitionsHaveOwnFiles}

-- ---- what stays

abbrev no_forks : Store
no_forks = empty

-- nothing stays but that no fork has the last page of all, and that forks of others are missing
abbrev own_base : ℕ → Base
own_base q = record {
  ours = λ fork. true;
  store = no_forks;
  changed = λ fork block. not (block == page_limit);
  settled = λ fork. is_of q fork;
}

kept_one : (b : Bool) → not b ≡ false → b ≡ true
kept_one true e = refl
kept_one false e = absurd (true≢false e)

some_none : {A : Type 0} {P : Type 0} (x : A) → ◌≡◌ {A = Option A} None (Some x) → P
some_none x e = absurd cc

not_there : {A : Type 0} (o : Option A) → is_some o ≡ false → o ≡ None
not_there None e = refl
not_there (Some x) e = absurd (true≢false e)

missing_in : (fork : ForkId) → is_some (get no_forks fork) ≡ false
missing_in fork = ap (λ (o : Option ForkPages). is_some o) (get-empty fork_cmp fork)

none_in : (fork : ForkId) (block : ℕ) → block_of no_forks fork block ≡ None
none_in fork block = ap (λ (o : Option ForkPages). o >>= λ ps. slice_get ps block) (get-empty fork_cmp fork)

none_stays : (q : ℕ) (fork : ForkId) (block : ℕ) (page : List ℕ) {P : Type 0} → Stays (own_base q) fork block page → P
none_stays q fork block page stays = some_none page (sym (none_in fork block) ∙ stays.there)

own_left : (relseg q : ℕ) (files : Files) → HasOwnFiles relseg q files → IsLeftOf relseg (own_base q) files
own_left relseg q files own =
    let one : files ≡ own.files = same files own.files own.are_told in
    record {
      pages = λ fork block page named stays. none_stays q fork block page stays;
      missing = λ fork block named stays.
          let at = eqb-true block page_limit (kept_one (block == page_limit) stays.kept) in
          subst (λ (m : Files). LacksPage relseg m fork block) (sym one) (subst (LacksPage relseg own.files fork) (sym at) (own.room fork (renamed fork (block / relseg) 0 named (omega arith))));
      forks = λ fork named mine unsettled.
          ap (λ (m : Files). is_some (get m (fork_path_bytes fork 0 false))) one ∙ ap is_some (own.own fork named unsettled) ∙ sym (missing_in fork);
    }
  where
    same : (a b : Files) → ◌≡◌ {A = Option Files} (Some a) (Some b) → a ≡ b
    same a b e = cc

left_own : (relseg q : ℕ) (files : Files) → 0 < relseg → IsLeftOf relseg (own_base q) files → HasOwnFiles relseg q files
left_own relseg q files some left = record {
  files = files;
  are_told = refl;
  room = λ fork named.
      let less = less_by page_limit relseg some in
      left.missing fork page_limit (renamed fork 0 (page_limit / relseg) named (omega (arith, less, limit_is))) (record {
        ours = refl;
        kept = ap (λ (b : Bool). not b) (eq-eqb page_limit page_limit refl);
        none = none_in fork page_limit;
      });
  own = λ fork named other. not_there (get files (fork_path_bytes fork 0 false)) (left.forks fork named refl other ∙ missing_in fork);
}

-- ---- what a stop leaves

now_weaker : (P Q : Files → Type 0) (past : Option (List Event)) → ((c : Files) → P c → Q c) → LeavesNow P past → LeavesNow Q past
now_weaker P Q None f leaves = tt
now_weaker P Q (Some events) f leaves = λ c may. f c (leaves c may)

only_weaker : (P Q : Files → Type 0) (old new : Option (List Event)) → ((c : Files) → P c → Q c) → LeavesOnly P old new → LeavesOnly Q old new
only_weaker P Q None None f leaves = tt
only_weaker P Q None (Some new) f leaves = absurd leaves
only_weaker P Q (Some old) None f leaves = absurd leaves
only_weaker P Q (Some old) (Some new) f leaves = (λ c might. f c (leaves.0 c might), λ c may. f c (leaves.1 c may))

-- ---- what comes of own entries

-- where a part of an entry passes a test, and all that do have it
found_part : (q : ℕ) (t : Entry → Bool) (es : List Entry) {P : Type 0} → ((e : Entry) → t (part_of q e) ≡ true → P) → list_any t (map (part_of q) es) ≡ true → P
found_part q t [] f h = absurd (true≢false (sym h))
found_part q t (e ∷ es) f h =
    by_test (t (part_of q e)) (λ now. f e now) (λ not_now. found_part q t es f (or_second (t (part_of q e)) (list_any t (map (part_of q) es)) h not_now))

items_own : (q : ℕ) (fork : ForkId) (block : ℕ) (items : List Item) → list_any (is_at fork block) (filter (is_item_of q) items) ≡ true → is_of q fork ≡ true
items_own q fork block [] h = absurd (true≢false (sym h))
items_own q fork block (item ∷ items) h =
    let rest = filter (is_item_of q) items in
    by_test (is_item_of q item)
    (λ kept.
    let some : (is_at fork block item || list_any (is_at fork block) rest) ≡ true = sym (ap (λ (c : Bool). list_any (is_at fork block) (cond c (item ∷ rest) rest)) kept) ∙ h in
    by_test (is_at fork block item)
    (λ here. ap (λ (at : BlockId). is_of q at.fork) (block_is (record { fork = fork; block = block }) item.at here) ∙ kept)
    (λ away. items_own q fork block items (or_second (is_at fork block item) (list_any (is_at fork block) rest) some away)))
    (λ out. items_own q fork block items (sym (ap (λ (c : Bool). list_any (is_at fork block) (cond c (item ∷ rest) rest)) out) ∙ h))

none_kept : (fork : ForkId) (block : ℕ) (c : Bool) (act : Act) → act_touches fork block act ≡ false → act_touches fork block (cond c act (Mark NoOp)) ≡ false
none_kept fork block true act none = none
none_kept fork block false act none = refl

touch_own : (q : ℕ) (fork : ForkId) (block : ℕ) (act : Act) → act_touches fork block (act_part q act) ≡ true → is_of q fork ≡ true
touch_own q fork block (Create made) h = absurd (true≢false (sym h ∙ none_kept fork block (is_of q made) (Create made) refl))
touch_own q fork block (Truncate rel count) h = absurd (true≢false (sym h ∙ none_kept fork block (is_of q (main_fork rel)) (Truncate rel count) refl))
touch_own q fork block (Change items) h = items_own q fork block items h
touch_own q fork block (Drop rels) h = absurd (true≢false (sym h))
touch_own q fork block (Mark marking) h = absurd (true≢false (sym h))

no_make : (made : ForkId) (c : Bool) (rel_act : Act) → enters rel_act (Make made) ≡ false → enters (cond c rel_act (Mark NoOp)) (Make made) ≡ false
no_make made true act none = none
no_make made false act none = refl

make_own : (q : ℕ) (made : ForkId) (act : Act) → enters (act_part q act) (Make made) ≡ true → is_of q made ≡ true
make_own q made (Create fork) h =
    by_test (is_of q fork)
    (λ kept.
    let same : is_same_fork made fork ≡ true = sym (ap (λ (c : Bool). enters (cond c (Create fork) (Mark NoOp)) (Make made)) kept) ∙ h in
    ap (is_of q) (fork_is made fork same) ∙ kept)
    (λ out. absurd (true≢false (sym h ∙ ap (λ (c : Bool). enters (cond c (Create fork) (Mark NoOp)) (Make made)) out)))
make_own q made (Truncate rel count) h = absurd (true≢false (sym h ∙ no_make made (is_of q (main_fork rel)) (Truncate rel count) refl))
make_own q made (Change items) h = absurd (true≢false (sym h))
make_own q made (Drop rels) h = absurd (true≢false (sym h))
make_own q made (Mark marking) h = absurd (true≢false (sym h))

module _ (q : ℕ) (history : List Entry) (part : Part) (p : IsOwnPart q history part) where
  mark_own : (at : BlockId) (end : ℕ) → touch_end part.marks at.fork at.block ≡ Some end → is_of q at.fork ≡ true
  mark_own at end dirty =
      let follows = p.follows in
      let unwritten = follows.unwritten in
      found_part q (touches_to at.fork at.block end) (since part.point history)
      (λ e t. touch_own q at.fork at.block e.act (and_parts (touches at.fork at.block (part_of q e)) (e.end == end) t).0)
      (touch_in at.fork at.block end (own_since q part.point history) (unwritten.touched at.fork at.block end dirty))

  mark_low : (at : BlockId) (end : ℕ) → touch_end part.marks at.fork at.block ≡ Some end → at.block < page_limit
  mark_low at end dirty =
      let framed = p.framed in
      let bounds = p.bounds in
      let marked : is_dirty (marks_over part.framed) at.fork at.block ≡ true = ap (λ (ms : DirtyMarks). is_dirty ms at.fork at.block) (sym framed.marks) ∙ ap (λ (o : Option ℕ). is_some o) dirty in
      let there = (dirty_there part.framed at marked).0 in
      let within = there.within in
      let small = bounds.narrow at.fork there.count there.long in
      omega (arith, within, small, limit_is)

  may_write : (at : BlockId) (end : ℕ) → touch_end part.marks at.fork at.block ≡ Some end → MayWrite (own_base q) at
  may_write at end dirty = record {
    free = λ page stays. none_stays q at.fork at.block page stays;
    below = λ other stays.
        let is = eqb-true other page_limit (kept_one (other == page_limit) stays.kept) in
        let low = mark_low at end dirty in
        omega (arith, is, low);
    there = λ mine unsettled. absurd (true≢false (sym (mark_own at end dirty) ∙ unsettled));
  }

  may_do : (w : Pending) → is_entered (own_since q part.point history) w ≡ true → (work : Work) → w.work ≡ work → MayDo (own_base q) work
  may_do w entered (Make fork) is = λ mine unsettled.
      let own : is_of q fork ≡ true =
      found_part q (entered_by w) (since part.point history)
      (λ e t. make_own q fork e.act (sym (ap (enters (act_part q e.act)) is) ∙ (and_parts (enters (act_part q e.act) w.work) (e.end == w.end.0) t).0)) entered in
      absurd (true≢false (sym own ∙ unsettled))
  may_do w entered (Cut fork count) is = λ block page stays. none_stays q fork block page stays
  may_do w entered (Remove fork) is = record {
    free = λ block page stays. none_stays q fork block page stays;
    gone = λ mine unsettled. missing_in fork;
  }

  allows : (mark : ℕ) → Allows mark (own_base q) part
  allows mark = record {
    pages = λ at end dirty le. may_write at end dirty;
    works =
        (let follows = p.follows in
        let unwritten = follows.unwritten in
        all_weaker (λ (w : Pending). is_entered (own_since q part.point history) w ≡ true) (λ (w : Pending). w.end.0 ≤ mark → MayDo (own_base q) w.work) part.works (λ w entered le. may_do w entered w.work refl) unwritten.entered);
  }

  raw_of : (o : Option Files) → part.disk ≡ o → IsSome o → IfSome o (HoldsPart part) → RawKeeps (own_base q) part
  raw_of None is tells held = absurd (true≢false (sym tells))
  raw_of (Some files) is tells held = record {
    raw = held.raw;
    held = record { files = files; are_told = is; hold = held.held };
    pages = λ fork block page stays. none_stays q fork block page stays;
  }

  raw_keeps : RawKeeps (own_base q) part
  raw_keeps = raw_of part.disk refl p.told p.held

pub keep_own : CallsKeepOwnFiles
keep_own q flushed history old new some p keeps own =
    only_weaker (IsLeftOf old.relseg (own_base q)) (HasOwnFiles old.relseg q) old.past new.past (λ c left. left_own old.relseg q c some left)
    (keeps (own_base q) (allows q history old p flushed) (raw_keeps q history old p)
    (now_weaker (HasOwnFiles old.relseg q) (IsLeftOf old.relseg (own_base q)) old.past (λ c has. own_left old.relseg q c has) own)).1

-- ---- a clean partition

module _ (relseg q : ℕ) (now frames : Store) (files : Files) (some : 0 < relseg) (is_part : IsPart q now frames) (holds : Holds relseg files frames) (whole : HasWholePages frames) where
  not_last : (fork : ForkId) (o : Option ForkPages) → get frames fork ≡ o → block_of frames fork page_limit ≡ None
  not_last fork None is = ap (λ (o : Option ForkPages). o >>= λ ps. slice_get ps page_limit) is
  not_last fork (Some pages) is =
      let fits = holds.named fork pages is in
      let small = fits.seg_fits in
      ap (λ (o : Option ForkPages). o >>= λ ps. slice_get ps page_limit) is ∙ slice_get_past pages page_limit (omega (arith, small, limit_is))

  others_missing : (fork : ForkId) → is_of q fork ≡ false → get frames fork ≡ None
  others_missing fork other = is_part fork ∙ ap (λ (c : Bool). cond c (get now fork) None) other

  has : HasWhatStays (own_base q) frames
  has = record {
    pages = λ fork block page stays. none_stays q fork block page stays;
    missing = λ fork block stays.
        let at = eqb-true block page_limit (kept_one (block == page_limit) stays.kept) in
        subst (λ (b : ℕ). block_of frames fork b ≡ None) (sym at) (not_last fork (get frames fork) refl);
    forks = λ fork mine unsettled. ap (λ (o : Option ForkPages). is_some o) (others_missing fork unsettled) ∙ sym (missing_in fork);
  }

  pub own_now : HasOwnFiles relseg q files
  own_now = left_own relseg q files some (held_left relseg (own_base q) frames files some holds whole has)

all_by : (P : List ℕ → Type 0) (pages : ForkPages) → ((block : ℕ) (page : List ℕ) → slice_get pages block ≡ Some page → P page) → All P pages
all_by P [] each = All-nil P
all_by P (page ∷ pages) each = All-cons P page pages (each 0 page refl) (all_by P pages (λ block other at. each (suc block) other at))

whole_store : (store : Store) → AreWholePages store → HasWholePages store
whole_store store whole fork pages there =
    all_by (λ page. length page ≡ 8192) pages (λ block page at. whole fork block page (ap (λ (o : Option ForkPages). o >>= λ ps. slice_get ps block) there ∙ at))

durable_left : (P : Files → Type 0) (files : Files) (past : Option (List Event)) → LeavesNow (λ left. left ≡ files) past → P files → LeavesNow P past
durable_left P files None leaves held = tt
durable_left P files (Some events) leaves held = λ left may. subst P (sym (leaves left may)) held

pub clean_own : CleanPartitionsHaveOwnFiles
clean_own q history now part some made follows tells whole held durable = by part.disk tells held durable
  where
    is_part : IsPart q now part.frames
    is_part = part_now q history part.frames now made (told part.disk (apply_all empty (map (part_of q) history) ≡ Some part.frames) tells follows.made)

    by : (o : Option Files) → IsSome o → IfSome o (λ files. Holds part.relseg files part.frames) → IfSome o (λ files. LeavesNow (λ left. left ≡ files) part.past) → LeavesNow (HasOwnFiles part.relseg q) part.past
    by None is holds leaves = absurd (true≢false (sym is))
    by (Some files) is holds leaves =
        durable_left (HasOwnFiles part.relseg q) files part.past leaves (own_now part.relseg q now part.frames files some is_part holds (whole_store part.frames whole))
