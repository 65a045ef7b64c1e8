-- What a partition and its area keep, while entries are appended and flushed.
use Rattle.std.proofs.Common.{◌≡◌, ℕ, ◌<◌, ◌≤◌, ◌⊎◌, ⊎_elim, inl, inr, Bool, true, false, cond, ◌&&◌, ◌||◌, true≢false, List, [], ◌∷◌, ◌++◌, Option, None, Some, is_some, refl, sym, ap, subst, ◌∙◌, append-nil, append_assoc}
use Rattle.std.specs.Prelude.{◌==◌, nat_lt, nat_le}
use Rattle.std.specs.List.{All, list_any}
use Rattle.std.specs.FinMap.{empty, get, contains_key}
use Rattle.std.proofs.lemmas.Bool.{le-ltb, or_parts, or_left, or_right, eq-eqb}
use Rattle.std.proofs.lemmas.List.Elements.{filter-append, All-push}
use Rattle.std.proofs.lemmas.List.Folds.{list_any-append}
use Rattle.lsn_core.specs.Relation.{Relation}
use Rattle.lsn_core.specs.declared.ids.ForkId.{ForkId}
use Rattle.lsn_core.specs.declared.ids.BlockId.{BlockId}
use Rattle.lsn_core.specs.Store.{Store, ForkPages}
use Rattle.lsn_core.specs.Blocks.{without_fork}
use Rattle.wal_record.specs.declared.record.Record.{Record}
use Rattle.vault.specs.Stops.{Event}
use Rattle.vault.specs.Frame.{LeavesNow}
use Rattle.rel_files.specs.Forks.{HasWholePages}
use Rattle.history.specs.declared.op.Item.{Item}
use Rattle.history.specs.declared.op.Op.{Op}
use Rattle.history.specs.declared.op.Op.TheVariants as op
use Rattle.history.specs.Entry.{Entry}
use Rattle.history.specs.Apply.{main_fork, init_fork, is_same_fork, is_fork_of, is_same_block, apply_all}
use Rattle.history.specs.Op.{act_of_op}
use Rattle.history.specs.Whole.{is_named}
use Rattle.history.proofs.Stores.{by_test, fork_is, fork_self, block_is, block_self}
use Rattle.history.specs.partitions.Parts.{is_of, concerns}
use Rattle.history.specs.fuzzy_copies.Touches.{is_at, touches, resets}
use Rattle.history.specs.fuzzy_copies.Sound.{state_before, entries_before}
use Rattle.history.specs.fuzzy_copies.Taken.{since}
use Rattle.store_core.specs.declared.step.Work.{Work}
use Rattle.store_core.specs.declared.step.Work.TheVariants.{Make, Cut, Remove}
use Rattle.store_core.specs.State.{Part}
use Rattle.store_core.specs.declared.reply.Refusal.TheVariants.{NoFork}
use Rattle.store_core.specs.Parts.{with_dirty, items_dirty, dirty_after, with_removal, works_after}
use Rattle.store_core.specs.Refusals.{judged_op}
use Rattle.store_core.specs.Steps.{entry_at}
use Rattle.store_core.proofs.Dirty.{named_dirty}
use Rattle.store_core.proofs.Caused.{any_weaker}
use Rattle.store_core.proofs.Behind.{removed}
use Rattle.stop_areas.specs.Left.{HasPagesThatStay, IsLeftOf}
use Rattle.stop_areas.proofs.Held.{more_left}
use Rattle.stop_laws.specs.Window.{base_of}
use Rattle.stop_laws.proofs.Windows.{grow}
use Rattle.stop_machine.specs.Area.{IsSafe}
use Rattle.core_stops.specs.Machine.{entered}
use Rattle.core_stops.proofs.Parted.{is_lost, none_weaker, lost_before, none_lost}

-- ---- what waits

-- some of the entries touched what is dirty or entered what is pending
abbrev pub is_waiting : List Entry → List BlockId → List Work → Bool
is_waiting rest dirty works = list_any (λ at. list_any (touches at.fork at.block) rest) dirty || list_any (λ w. list_any (entered w) rest) works

-- so it is of the last ones of the later entries, wherever they concern the partition
abbrev pub Waits : ℕ → List Entry → List BlockId → List Work → Type 0
Waits q later dirty works = (front rest : List Entry) → front ++ rest ≡ later → list_any (concerns q) rest ≡ true → is_waiting rest dirty works ≡ true

-- ---- what is kept

-- the area is safe, the disk has the pages that stay, all later entries wait, no entry of the partition
-- below the point is lost, and all pages are whole
pub record IsKept (q relseg : ℕ) (known later : List Entry) (flushed : ℕ) (past : List Event) (part : Part) : Type 0 where
  pub store : Store
  pub defined : state_before known part.point ≡ Some store
  pub late : entries_before later part.point ≡ []
  pub ends : All (λ e. flushed < e.end) later
  pub left : LeavesNow (IsLeftOf relseg (base_of (is_of q) store (since part.point known))) (Some past)
  pub pages : HasPagesThatStay (base_of (is_of q) store (since part.point known)) part.disk
  pub waits : Waits q later part.dirty part.works
  pub lost : list_any (is_lost q part.point flushed) known ≡ false
  pub frames : HasWholePages part.frames
  pub disk : HasWholePages part.disk

pub safe : (q relseg flushed : ℕ) (known later : List Entry) (past : List Event) (part : Part) → IsKept q relseg known later flushed past part → IsSafe (is_of q) relseg (record { known = known; later = later; from = part.point; mark = flushed; past = past })
safe q relseg flushed known later past part k = record { store = k.store; defined = k.defined; late = k.late; ends = k.ends; left = k.left }

-- ---- flushes

first_empty : (xs ys : List Entry) → xs ++ ys ≡ [] → xs ≡ []
first_empty [] ys e = refl
first_empty (x ∷ xs) ys e = absurd cc

pub second_empty : (xs ys : List Entry) → xs ++ ys ≡ [] → ys ≡ []
second_empty [] ys e = e
second_empty (x ∷ xs) ys e = absurd cc

none_first : (t : Entry → Bool) (xs ys : List Entry) → list_any t (xs ++ ys) ≡ false → list_any t xs ≡ false
none_first t xs ys none = (or_parts (list_any t xs) (list_any t ys) (sym (list_any-append t xs ys) ∙ none)).0

pub flush_keeps : (q relseg flushed further : ℕ) (known later passed rest : List Entry) (past : List Event) (part : Part) → IsKept q relseg known later flushed past part → flushed ≤ further → passed ++ rest ≡ later → All (λ e. further < e.end) rest → IsKept q relseg (known ++ passed) rest further past part
flush_keeps q relseg flushed further known later passed rest past part k rises split ends =
    let from = part.point in
    let none : entries_before passed from ++ entries_before rest from ≡ [] =
    sym (filter-append (λ (e : Entry). nat_lt e.start from) passed rest) ∙ ap (λ (l : List Entry). entries_before l from) split ∙ k.late in
    let early : entries_before (known ++ passed) from ≡ entries_before known from =
    filter-append (λ (e : Entry). nat_lt e.start from) known passed ∙ ap (λ (l : List Entry). entries_before known from ++ l) (first_empty (entries_before passed from) (entries_before rest from) none) ∙ append-nil (entries_before known from) in
    let window : since from (known ++ passed) ≡ since from known ++ since from passed = filter-append (λ (e : Entry). nat_le from e.start) known passed in
    record {
      store = k.store;
      defined = ap (apply_all empty) early ∙ k.defined;
      late = second_empty (entries_before passed from) (entries_before rest from) none;
      ends = ends;
      left = subst (λ (l : List Entry). LeavesNow (IsLeftOf relseg (base_of (is_of q) k.store l)) (Some past)) (sym window)
          (more_left relseg (base_of (is_of q) k.store (since from known)) (base_of (is_of q) k.store (since from known ++ since from passed)) (Some past) (grow (is_of q) k.store (since from known) (since from passed)) k.left);
      pages = subst (λ (l : List Entry). HasPagesThatStay (base_of (is_of q) k.store l) part.disk) (sym window)
          (λ fork block page stays. k.pages fork block page (record { ours = stays.ours; kept = none_first (resets fork block) (since from known) (since from passed) stays.kept; there = stays.there }));
      waits = λ front r into. k.waits (passed ++ front) r (append_assoc passed front r ∙ (ap (λ (l : List Entry). passed ++ l) into ∙ split));
      lost = list_any-append (is_lost q from further) known passed
          ∙ ap (λ (b : Bool). b || list_any (is_lost q from further) passed) (none_weaker (is_lost q from flushed) (is_lost q from further) known (lost_before q from flushed further rises) k.lost)
          ∙ none_lost q from further passed (first_empty (entries_before passed from) (entries_before rest from) none);
      frames = k.frames;
      disk = k.disk;
    }

-- ---- entries that are appended

none_right : (xs ys : List Entry) → xs ++ ys ≡ [] → ys ≡ []
none_right [] ys h = h
none_right (x ∷ xs) ys h = absurd cc

heads : (a b : Entry) (xs ys : List Entry) → a ∷ xs ≡ b ∷ ys → a ≡ b
heads a b xs ys h = cc

tails : (a b : Entry) (xs ys : List Entry) → a ∷ xs ≡ b ∷ ys → xs ≡ ys
tails a b xs ys h = cc

joined : (a b : Entry) (xs ys : List Entry) → a ≡ b → xs ≡ ys → a ∷ xs ≡ b ∷ ys
joined a b xs ys h t = cc

split_push : (front rest xs : List Entry) (e : Entry) → front ++ rest ≡ xs ++ (e ∷ []) → (rest ≡ []) ⊎ ((r : List Entry) × (rest ≡ r ++ (e ∷ [])) × (front ++ r ≡ xs))
split_push [] rest xs e h = inr (xs, h, refl)
split_push (f ∷ fs) rest [] e h = inl (none_right fs rest (tails f e (fs ++ rest) [] h))
split_push (f ∷ fs) rest (x ∷ xs) e h =
    ⊎_elim (λ none. inl none) (λ w. inr (w.0, w.1, joined f x (fs ++ w.0) xs (heads f x (fs ++ rest) (xs ++ (e ∷ [])) h) w.2))
    (split_push fs rest xs e (tails f x (fs ++ rest) (xs ++ (e ∷ [])) h))

last_late : (from : ℕ) (later : List Entry) (e : Entry) → from ≤ e.start → entries_before later from ≡ [] → entries_before (later ++ (e ∷ [])) from ≡ []
last_late from later e start late =
    filter-append (λ (x : Entry). nat_lt x.start from) later (e ∷ [])
    ∙ ap (λ (l : List Entry). l ++ entries_before (e ∷ []) from) late
    ∙ ap (λ (b : Bool). cond b (e ∷ []) []) (le-ltb e.start from start)

-- the partition behind an entry that leaves its disk and its point
abbrev pub with_frames : Part → Store → List BlockId → List Work → Part
with_frames part frames dirty works = record { frames = frames; disk = part.disk; dirty = dirty; works = works; point = part.point }

-- what waits behind an entry
abbrev pub WaitsOn : ℕ → Entry → Part → List BlockId → List Work → Type 0
WaitsOn q e part dirty works = (r : List Entry) → (list_any (concerns q) r ≡ true → is_waiting r part.dirty part.works ≡ true) → list_any (concerns q) (r ++ (e ∷ [])) ≡ true → is_waiting (r ++ (e ∷ [])) dirty works ≡ true

pub push_keeps : (q relseg flushed : ℕ) (known later : List Entry) (past : List Event) (part : Part) (e : Entry) (frames : Store) (dirty : List BlockId) (works : List Work) → IsKept q relseg known later flushed past part → flushed < e.end → part.point ≤ e.start → HasWholePages frames → WaitsOn q e part dirty works
    → IsKept q relseg known (later ++ (e ∷ [])) flushed past (with_frames part frames dirty works)
push_keeps q relseg flushed known later past part e frames dirty works k end start whole on = record {
  store = k.store;
  defined = k.defined;
  late = last_late part.point later e start k.late;
  ends = All-push (λ (x : Entry). flushed < x.end) later e k.ends end;
  left = k.left;
  pages = k.pages;
  waits = λ front rest into some.
      ⊎_elim
      (λ none. absurd (true≢false (sym some ∙ ap (list_any (concerns q)) none)))
      (λ w. subst (λ (l : List Entry). is_waiting l dirty works ≡ true) (sym w.1) (on w.0 (k.waits front w.0 w.2) (sym (ap (list_any (concerns q)) w.1) ∙ some)))
      (split_push front rest later e into);
  lost = k.lost;
  frames = whole;
  disk = k.disk;
}

-- ---- which of them wait

of_first : (a b : Bool) → (a || b) ≡ true → b ≡ false → a ≡ true
of_first true b k none = refl
of_first false b k none = absurd (true≢false (sym k ∙ none))

of_second : (a b : Bool) → (a || b) ≡ true → a ≡ false → b ≡ true
of_second true b k none = absurd (true≢false none)
of_second false b k none = k

-- what more entries did
more_wait : (r s : List Entry) (dirty : List BlockId) (works : List Work) → ((t : Entry → Bool) → list_any t r ≡ true → list_any t s ≡ true) → is_waiting r dirty works ≡ true → is_waiting s dirty works ≡ true
more_wait r s dirty works more some =
    let pages = λ (l : List Entry) (at : BlockId). list_any (touches at.fork at.block) l in
    let done = λ (l : List Entry) (w : Work). list_any (entered w) l in
    by_test (list_any (pages r) dirty)
    (λ hit. or_left (list_any (pages s) dirty) (list_any (done s) works) (any_weaker (pages r) (pages s) dirty (λ at h. more (touches at.fork at.block) h) hit))
    (λ miss. or_right (list_any (pages s) dirty) (list_any (done s) works) (any_weaker (done r) (done s) works (λ w h. more (entered w) h) (of_second (list_any (pages r) dirty) (list_any (done r) works) some miss)))

in_front : (r : List Entry) (e : Entry) (t : Entry → Bool) → list_any t r ≡ true → list_any t (r ++ (e ∷ [])) ≡ true
in_front r e t some = list_any-append t r (e ∷ []) ∙ or_left (list_any t r) (list_any t (e ∷ [])) some

at_last : (r : List Entry) (e : Entry) (t : Entry → Bool) → list_any t (e ∷ []) ≡ true → list_any t (r ++ (e ∷ [])) ≡ true
at_last r e t some = list_any-append t r (e ∷ []) ∙ or_right (list_any t r) (list_any t (e ∷ [])) some

-- an entry of another partition
pub others_wait : (q : ℕ) (e : Entry) (part : Part) → concerns q e ≡ false → WaitsOn q e part part.dirty part.works
others_wait q e part none r before some =
    let here = of_first (list_any (concerns q) r) (list_any (concerns q) (e ∷ [])) (sym (list_any-append (concerns q) r (e ∷ [])) ∙ some) (ap (λ (b : Bool). b || false) none) in
    more_wait r (r ++ (e ∷ [])) part.dirty part.works (in_front r e) (before here)

-- a command's own entry
last_work : (t : Work → Bool) (works : List Work) (w : Work) → t w ≡ true → list_any t (works ++ (w ∷ [])) ≡ true
last_work t works w now = list_any-append t works (w ∷ []) ∙ or_right (list_any t works) (t w || false) (or_left (t w) false now)

found_named : (t : BlockId → Bool) (at : BlockId) (dirty : List BlockId) → is_named at dirty ≡ true → t at ≡ true → list_any t dirty ≡ true
found_named t at [] named here = absurd (true≢false (sym named))
found_named t at (first ∷ dirty) named here =
    by_test (is_same_block at first)
    (λ same. or_left (t first) (list_any t dirty) (ap t (sym (block_is at first same)) ∙ here))
    (λ other. or_right (t first) (list_any t dirty) (found_named t at dirty (of_second (is_same_block at first) (is_named at dirty) named other) here))

still_named : (at : BlockId) (dirty : List BlockId) (items : List Item) → is_named at dirty ≡ true → is_named at (items_dirty dirty items) ≡ true
still_named at dirty [] named = named
still_named at dirty (item ∷ items) named = still_named at (with_dirty item.at dirty) items (named_dirty at item.at dirty ∙ or_right (is_same_block at item.at) (is_named at dirty) named)

kept_work : (t : Work → Bool) (frames : Store) (works : List Work) (gone : ForkId) → list_any t works ≡ true → list_any t (with_removal frames works gone) ≡ true
kept_work t frames works gone some = by (contains_key frames gone)
  where
    by : (b : Bool) → list_any t (cond b (works ++ (Remove gone ∷ [])) works) ≡ true
    by true = list_any-append t works (Remove gone ∷ []) ∙ or_left (list_any t works) (t (Remove gone) || false) some
    by false = some

new_work : (t : Work → Bool) (frames : Store) (works : List Work) (gone : ForkId) → contains_key frames gone ≡ true → t (Remove gone) ≡ true → list_any t (with_removal frames works gone) ≡ true
new_work t frames works gone there now = ap (λ (b : Bool). list_any t (cond b (works ++ (Remove gone ∷ [])) works)) there ∙ last_work t works (Remove gone) now

both : (a b : Bool) → a ≡ true → b ≡ true → (a && b) ≡ true
both a b x y = ap (λ (c : Bool). c && b) x ∙ y

taken : (b : Bool) (n : ℕ) → cond b None (Some (NoFork n)) ≡ None → b ≡ true
taken true n e = refl
taken false n e = absurd cc

drop_waits : (t : Work → Bool) (frames : Store) (works : List Work) (rel : Relation) (n : ℕ) → judged_op n frames (op.Drop rel) ≡ None → t (Remove (main_fork rel)) ≡ true → t (Remove (init_fork rel)) ≡ true
    → list_any t (with_removal (without_fork frames (main_fork rel)) (with_removal frames works (main_fork rel)) (init_fork rel)) ≡ true
drop_waits t frames works rel n fine main init =
    let less = without_fork frames (main_fork rel) in
    let more = with_removal frames works (main_fork rel) in
    let some : (contains_key frames (main_fork rel) || contains_key frames (init_fork rel)) ≡ true = taken (contains_key frames (main_fork rel) || contains_key frames (init_fork rel)) n fine in
    by_test (contains_key frames (main_fork rel))
    (λ there. kept_work t less more (init_fork rel) (new_work t frames works (main_fork rel) there main))
    (λ missing.
    let other = of_second (contains_key frames (main_fork rel)) (contains_key frames (init_fork rel)) some missing in
    by_test (is_same_fork (init_fork rel) (main_fork rel))
    (λ same. absurd (true≢false (sym other ∙ (ap (λ (f : ForkId). contains_key frames f) (fork_is (init_fork rel) (main_fork rel) same) ∙ missing))))
    (λ apart. new_work t less more (init_fork rel)
    (ap (λ (o : Option ForkPages). is_some o) (removed frames (main_fork rel) (init_fork rel) ∙ ap (λ (b : Bool). cond b None (get frames (init_fork rel))) apart) ∙ other) init))

entry_waits : (frames : Store) (dirty : List BlockId) (works : List Work) (r : Record) (worker n : ℕ) (seq : Option ℕ) (command : Op) → judged_op n frames command ≡ None
    → is_waiting (entry_at r (act_of_op command) worker seq ∷ []) (dirty_after dirty (act_of_op command)) (works_after frames works (act_of_op command)) ≡ true
entry_waits frames dirty works r worker n seq (op.Create fork) fine =
    let e = entry_at r (act_of_op (op.Create fork)) worker seq in
    or_right (list_any (λ at. list_any (touches at.fork at.block) (e ∷ [])) dirty) (list_any (λ w. list_any (entered w) (e ∷ [])) (works ++ (Make fork ∷ [])))
    (last_work (λ w. list_any (entered w) (e ∷ [])) works (Make fork) (or_left (entered (Make fork) e) false (fork_self fork)))
entry_waits frames dirty works r worker n seq (op.Truncate rel count) fine =
    let act = act_of_op (op.Truncate rel count) in
    let e = entry_at r act worker seq in
    let w = Cut (main_fork rel) count in
    or_right (list_any (λ at. list_any (touches at.fork at.block) (e ∷ [])) (dirty_after dirty act)) (list_any (λ w. list_any (entered w) (e ∷ [])) (works ++ (w ∷ [])))
    (last_work (λ w. list_any (entered w) (e ∷ [])) works w (or_left (entered w e) false (both (is_same_fork (main_fork rel) (main_fork rel)) (count == count) (fork_self (main_fork rel)) (eq-eqb count count refl))))
entry_waits frames dirty works r worker n seq (op.Change []) fine = absurd cc
entry_waits frames dirty works r worker n seq (op.Change (item ∷ items)) fine =
    let e = entry_at r (act_of_op (op.Change (item ∷ items))) worker seq in
    let all = items_dirty (with_dirty item.at dirty) items in
    or_left (list_any (λ at. list_any (touches at.fork at.block) (e ∷ [])) all) (list_any (λ w. list_any (entered w) (e ∷ [])) works)
    (found_named (λ at. list_any (touches at.fork at.block) (e ∷ [])) item.at all
    (still_named item.at (with_dirty item.at dirty) items (named_dirty item.at item.at dirty ∙ or_left (is_same_block item.at item.at) (is_named item.at dirty) (block_self item.at)))
    (or_left (touches item.at.fork item.at.block e) false (or_left (is_at item.at.fork item.at.block item) (list_any (is_at item.at.fork item.at.block) items) (block_self item.at))))
entry_waits frames dirty works r worker n seq (op.Drop rel) fine =
    let act = act_of_op (op.Drop rel) in
    let e = entry_at r act worker seq in
    let t = λ (w : Work). list_any (entered w) (e ∷ []) in
    let main = main_fork rel in
    let init = init_fork rel in
    or_right (list_any (λ at. list_any (touches at.fork at.block) (e ∷ [])) (dirty_after dirty act)) (list_any t (works_after frames works act))
    (drop_waits t frames works rel n fine
    (or_left (entered (Remove main) e) false (or_left (is_fork_of main rel) false (or_left (is_same_fork main main) (is_same_fork main init) (fork_self main))))
    (or_left (entered (Remove init) e) false (or_left (is_fork_of init rel) false (or_right (is_same_fork init main) (is_same_fork init init) (fork_self init)))))

pub own_wait : (q : ℕ) (part : Part) (r : Record) (worker n : ℕ) (seq : Option ℕ) (command : Op) → judged_op n part.frames command ≡ None
    → WaitsOn q (entry_at r (act_of_op command) worker seq) part (dirty_after part.dirty (act_of_op command)) (works_after part.frames part.works (act_of_op command))
own_wait q part r worker n seq command fine rest before some =
    let e = entry_at r (act_of_op command) worker seq in
    more_wait (e ∷ []) (rest ++ (e ∷ [])) (dirty_after part.dirty (act_of_op command)) (works_after part.frames part.works (act_of_op command)) (at_last rest e) (entry_waits part.frames part.dirty part.works r worker n seq command fine)

-- ---- what is written doesn't wait any more

pub fewer_pages : (rest : List Entry) (at : BlockId) (dirty : List BlockId) (works : List Work) → is_waiting rest (at ∷ dirty) works ≡ true → list_any (touches at.fork at.block) rest ≡ false → is_waiting rest dirty works ≡ true
fewer_pages rest at dirty works some none =
    sym (ap (λ (b : Bool). (b || list_any (λ (x : BlockId). list_any (touches x.fork x.block) rest) dirty) || list_any (λ (w : Work). list_any (entered w) rest) works) none) ∙ some

pub fewer_works : (rest : List Entry) (work : Work) (dirty : List BlockId) (works : List Work) → is_waiting rest dirty (work ∷ works) ≡ true → list_any (entered work) rest ≡ false → is_waiting rest dirty works ≡ true
fewer_works rest work dirty works some none =
    sym (ap (λ (b : Bool). list_any (λ (x : BlockId). list_any (touches x.fork x.block) rest) dirty || (b || list_any (λ (w : Work). list_any (entered w) rest) works)) none) ∙ some
