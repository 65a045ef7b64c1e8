-- What a partition keeps of its history over entries and writes.
use Rattle.std.proofs.Common.{◌≡◌, ℕ, ◌≤◌, Bool, true, false, cond, ◌&&◌, ◌||◌, List, [], ◌∷◌, ◌++◌, map, drop, Option, Some, None, is_some, IsSome, IfSome, refl, ap, sym, subst, ◌∙◌, arith, true≢false}
use Rattle.std.specs.Prelude.{◌==◌, nat_le}
use Rattle.std.specs.List.{All, list_any, filter}
use Rattle.std.specs.FinMap.{empty, contains_key}
use Rattle.std.proofs.Math.Bool.{or-true}
use Rattle.lsn_core.specs.Relation.{Relation}
use Rattle.lsn_core.specs.Blocks.{without_fork}
use Rattle.lsn_core.specs.declared.ids.ForkId.{ForkId}
use Rattle.std.proofs.Math.Nat.{max-le}
use Rattle.std.proofs.lemmas.Bool.{le-leb, eq-eqb}
use Rattle.std.proofs.lemmas.List.{map-append}
use Rattle.std.proofs.lemmas.List.Elements.{filter-append, All-nil, All-push, All-same, All-weaker, All-drop}
use Rattle.std.proofs.lemmas.List.Folds.{list_any-append}
use Rattle.std.proofs.lemmas.List.Sums.{fold-append}
use Rattle.lsn_core.specs.byte_words.Numbers.{◌>>=◌}
use Rattle.lsn_core.specs.Store.{Store}
use Rattle.lsn_core.specs.Tip.{Tip, tip_with}
use Rattle.history.specs.declared.op.Item.{Item}
use Rattle.history.specs.Entry.{Act, Create, Truncate, Change, Drop, Mark, NoOp, Entry}
use Rattle.history.specs.Apply.{main_fork, init_fork, without_rel, is_same_fork, is_fork_of, is_of_any, is_same_block, apply, apply_act, apply_all}
use Rattle.history.proofs.Stores.{by_test, fork_self}
use Rattle.history.proofs.Histories.{tip_over-append}
use Rattle.history.specs.partitions.Parts.{is_item_of, act_part, part_of, concerns, ConcernsNoOther}
use Rattle.history.proofs.partitions.Folds.{none_kept, passed_over}
use Rattle.history.proofs.partitions.OwnActs.{all_kept, own_fork, OfNoOther, first_own, others_own}
use Rattle.history.specs.fuzzy_copies.Touches.{act_touches, act_cuts}
use Rattle.history.specs.fuzzy_copies.Taken.{since}
use Rattle.history.proofs.fuzzy_copies.Replay.{applied_in_two}
use Rattle.page_frames.specs.Marks.{DirtyMarks, touch_end}
use Rattle.page_frames.proofs.Marks.{mark_set}
use Rattle.page_pool.specs.declared.work.Work.{Work}
use Rattle.page_pool.specs.declared.work.Work.TheVariants.{Make, Cut, Remove}
use Rattle.page_pool.specs.declared.turn.Wrote.TheVariants as wrote
use Rattle.page_pool.specs.declared.work.Pending.{Pending}
use Rattle.page_pool.specs.Part.{Part}
use Rattle.page_pool.specs.Steps.{with_removal, works_dropped, marks_after, works_after, HasApplied, HasWritten, IsClean}
use Rattle.page_pool.specs.Facts.{history_end, touch_over, last_touch, enters, is_entered, IsSince, own_since}
use Rattle.page_pool.specs.Calls.{HasDone}
use Rattle.page_pool.specs.Laws.{OwnEntriesAreFollowed, OtherEntriesAreFollowed, OneWrittenIsWritten, WritesAreFollowed, CleaningIsFollowed, CleanPartsFollow}
use Rattle.page_pool.proofs.Marks.{mark_after, dropped_mark}
use Rattle.page_pool.proofs.Windows.{or_true, any_filtered, others_touch, entered_by}

-- where a history ends that has one entry more
last_end : (history : List Entry) (e : Entry) → history_end (history ++ (e ∷ [])) ≡ e.end
last_end history e = ap (λ (t : Tip). t.end) (tip_over-append (tip_with 0 0 0 0) history (e ∷ []))

-- what is known where an area tells its files
where_told : {A : Type 0} (o : Option A) (P : Type 0) → (IsSome o → P) → IfSome o (λ x. P)
where_told (Some x) P k = k refl
where_told None P k = tt

pub told : {A : Type 0} (o : Option A) (P : Type 0) → IsSome o → IfSome o (λ x. P) → P
told (Some x) P some k = k
told None P some k = absurd (true≢false (sym some))

over_told : {A B : Type 0} (o : Option A) (p : Option B) (P Q : Type 0) → (IsSome p → IsSome o) → (P → Q) → IfSome o (λ x. P) → IfSome p (λ x. Q)
over_told o p P Q back f k = where_told p Q (λ some. f (told o P (back some) k))

-- the same, where more follows of it
over_more : {A B : Type 0} (o : Option A) (p : Option B) (P Q : Type 0) → (IsSome p → IsSome o) → (IsSome o → P → Q) → IfSome o (λ x. P) → IfSome p (λ x. Q)
over_more o p P Q back f k = where_told p Q (λ some. f (back some) (told o P (back some) k))

-- an entry more
touched_last : (cut touch : Bool) (new end : ℕ) (old last : Option ℕ) → cond cut None (cond touch (Some new) old) ≡ Some end → (old ≡ Some end → last ≡ Some end) → cond touch (Some new) last ≡ Some end
touched_last true touch new end old last e before = absurd cc
touched_last false true new end old last e before = e
touched_last false false new end old last e before = before e

-- works that entries entered, one more entry among them
abbrev IsEnteredIn : List Entry → Pending → Type 0
IsEnteredIn window w = is_entered window w ≡ true

longer_window : (xs ys : List Entry) (works : List Pending) → All (IsEnteredIn xs) works → All (IsEnteredIn (xs ++ ys)) works
longer_window xs ys works all = All-weaker (IsEnteredIn xs) (IsEnteredIn (xs ++ ys)) (λ w h. list_any-append (entered_by w) xs ys ∙ ap (λ c. c || list_any (entered_by w) ys) h) works all

removed_works : (P : Pending → Type 0) (end : ℕ) (frames : Store) (works : List Pending) (fork : ForkId) → All P works → P (record { work = Remove fork; end = record { 0 = end } }) → All P (with_removal end frames works fork)
removed_works P end frames works fork all new = go (contains_key frames fork)
  where
    go : (c : Bool) → All P (cond c (works ++ (record { work = Remove fork; end = record { 0 = end } } ∷ [])) works)
    go true = All-push P works (record { work = Remove fork; end = record { 0 = end } }) all new
    go false = all

dropped_works : (P : Pending → Type 0) (end : ℕ) (frames : Store) (works : List Pending) (rels : List Relation) → All P works → ((fork : ForkId) → is_of_any fork rels ≡ true → P (record { work = Remove fork; end = record { 0 = end } })) → All P (works_dropped end frames works rels)
dropped_works P end frames works [] all new = all
dropped_works P end frames works (rel ∷ rels) all new =
    let main = main_fork rel in
    let init = init_fork rel in
    let first = removed_works P end frames works main all (new main (ap (λ c. (c || is_same_fork main init) || is_of_any main rels) (fork_self main))) in
    let second = removed_works P end (without_fork frames main) (with_removal end frames works main) init first (new init (ap (λ c. (is_same_fork init main || c) || is_of_any init rels) (fork_self init) ∙ ap (λ c. c || is_of_any init rels) (or-true (is_same_fork init main)))) in
    dropped_works P end (without_rel frames rel) (with_removal end (without_fork frames main) (with_removal end frames works main) init) rels second (λ fork of. new fork (or_true (is_fork_of fork rel) (is_of_any fork rels) of))

new_works : (P : Pending → Type 0) (end : ℕ) (frames : Store) (works : List Pending) (act : Act) → All P works → ((w : Pending) → enters act w.work ≡ true → end ≡ w.end.0 → P w) → All P (works_after end frames works act)
new_works P end frames works (Create fork) all new =
    let w : Pending = record { work = Make fork; end = record { 0 = end } } in
    All-push P works w all (new w (fork_self fork) refl)
new_works P end frames works (Truncate rel count) all new =
    let w : Pending = record { work = Cut (main_fork rel) count; end = record { 0 = end } } in
    All-push P works w all (new w (ap (λ c. c && (count == count)) (fork_self (main_fork rel)) ∙ eq-eqb count count refl) refl)
new_works P end frames works (Change items) all new = all
new_works P end frames works (Drop rels) all new = dropped_works P end frames works rels all (λ fork of. new (record { work = Remove fork; end = record { 0 = end } }) of refl)
new_works P end frames works (Mark marking) all new = all

last_entered : (xs : List Entry) (e : Entry) (w : Pending) → enters e.act w.work ≡ true → e.end ≡ w.end.0 → IsEnteredIn (xs ++ (e ∷ [])) w
last_entered xs e w entered end =
    let now : entered_by w e ≡ true = ap (λ c. c && (e.end == w.end.0)) entered ∙ eq-eqb e.end w.end.0 end in
    list_any-append (entered_by w) xs (e ∷ []) ∙ or_true (list_any (entered_by w) xs) (list_any (entered_by w) (e ∷ [])) (ap (λ c. c || false) now)

marked_before : (end : ℕ) (frames : Store) (marks : DirtyMarks) (act : Act) (fork : ForkId) (b last : ℕ) (before : Option ℕ) → touch_end (marks_after end frames marks act) fork b ≡ Some last → (touch_end marks fork b ≡ Some last → before ≡ Some last) → cond (act_touches fork b act) (Some end) before ≡ Some last
marked_before end frames marks (Create made) fork b last before m k = touched_last (act_cuts fork b (Create made)) false end last (touch_end marks fork b) before (sym (mark_after end frames marks (Create made) fork b tt) ∙ m) k
marked_before end frames marks (Truncate rel count) fork b last before m k = touched_last (act_cuts fork b (Truncate rel count)) false end last (touch_end marks fork b) before (sym (mark_after end frames marks (Truncate rel count) fork b tt) ∙ m) k
marked_before end frames marks (Change items) fork b last before m k = touched_last false (act_touches fork b (Change items)) end last (touch_end marks fork b) before (sym (mark_after end frames marks (Change items) fork b tt) ∙ m) k
marked_before end frames marks (Drop rels) fork b last before m k = k (dropped_mark frames marks rels fork b last m)
marked_before end frames marks (Mark marking) fork b last before m k = k m

since_last : (xs : List Entry) (e : Entry) (frames : Store) (marks : DirtyMarks) (works : List Pending) → IsSince xs marks works → IsSince (xs ++ (e ∷ [])) (marks_after e.end frames marks e.act) (works_after e.end frames works e.act)
since_last xs e frames marks works s = record {
  touched = λ fork b end m. fold-append (touch_over fork b) None xs (e ∷ [])
      ∙ marked_before e.end frames marks e.act fork b end (last_touch fork b xs) m (s.touched fork b end);
  entered = new_works (IsEnteredIn (xs ++ (e ∷ []))) e.end frames works e.act (longer_window xs (e ∷ []) works s.entered) (last_entered xs e);
}

-- entries of others more
since_others : (q : ℕ) (xs es : List Entry) (marks : DirtyMarks) (works : List Pending) → list_any (concerns q) es ≡ false → IsSince xs marks works → IsSince (xs ++ map (part_of q) es) marks works
since_others q xs es marks works none s = record {
  touched = λ fork b end m. fold-append (touch_over fork b) None xs (map (part_of q) es) ∙ others_touch q fork b (last_touch fork b xs) es none ∙ s.touched fork b end m;
  entered = longer_window xs (map (part_of q) es) works s.entered;
}

-- an act of the partition alone
items_own : (q : ℕ) (items : List Item) → OfNoOther q items → filter (is_item_of q) items ≡ items
items_own q [] none = refl
items_own q (item ∷ items) none =
    ap (λ c. cond c (item ∷ filter (is_item_of q) items) (filter (is_item_of q) items)) (first_own q item items none) ∙ ap (λ (is : List Item). item ∷ is) (items_own q items (others_own q item items none))

act_own : (q : ℕ) (act : Act) → ConcernsNoOther q act → act_part q act ≡ act
act_own q (Create fork) none = ap (λ c. cond c (Create fork) (Mark NoOp)) (own_fork q fork none)
act_own q (Truncate rel count) none = ap (λ c. cond c (Truncate rel count) (Mark NoOp)) (own_fork q (main_fork rel) none)
act_own q (Change items) none = ap (λ (is : List Item). Change is) (items_own q items none)
act_own q (Drop rels) none = ap (λ (l : List Relation). Drop l) (all_kept q rels none)
act_own q (Mark marking) none = refl

-- the fold of a history's part that goes on
abbrev IsMadeOf : ℕ → List Entry → Store → Type 0
IsMadeOf q history frames = apply_all empty (map (part_of q) history) ≡ Some frames

goes_on : (q : ℕ) (xs ys : List Entry) (store next : Store) → apply_all empty (map (part_of q) xs) ≡ Some store → apply_all store (map (part_of q) ys) ≡ Some next → apply_all empty (map (part_of q) (xs ++ ys)) ≡ Some next
goes_on q xs ys store next first rest =
    ap (apply_all empty) (map-append (part_of q) xs ys) ∙ applied_in_two empty (map (part_of q) xs) (map (part_of q) ys) ∙ ap (λ (o : Option Store). o >>= λ s. apply_all s (map (part_of q) ys)) first ∙ rest

one_on : (q : ℕ) (e : Entry) (store next : Store) → ConcernsNoOther q e.act → apply store e ≡ Some next → apply_all store (map (part_of q) (e ∷ [])) ≡ Some next
one_on q e store next none done = ap (λ (o : Option Store). o >>= λ s. Some s) (ap (apply_act e.end store) (act_own q e.act none) ∙ done)

since_more : (point : ℕ) (xs ys : List Entry) → since point (xs ++ ys) ≡ since point xs ++ since point ys
since_more point xs ys = filter-append (λ (e : Entry). nat_le point e.start) xs ys

own_more : (q point : ℕ) (xs ys : List Entry) → own_since q point (xs ++ ys) ≡ own_since q point xs ++ own_since q point ys
own_more q point xs ys = ap (map (part_of q)) (since_more point xs ys) ∙ map-append (part_of q) (since point xs) (since point ys)

whole_part : (q : ℕ) (e : Entry) → ConcernsNoOther q e.act → part_of q e ≡ e
whole_part q e none = ap (λ (act : Act). record { act = act; start = e.start; end = e.end; worker = e.worker; seq = e.seq }) (act_own q e.act none)

own_last : (q point : ℕ) (e : Entry) → ConcernsNoOther q e.act → point ≤ e.start → own_since q point (e ∷ []) ≡ e ∷ []
own_last q point e none late = ap (λ c. map (part_of q) (cond c (e ∷ []) [])) (le-leb point e.start late) ∙ ap (λ (x : Entry). x ∷ []) (whole_part q e none)

own_unwritten : (q : ℕ) (history : List Entry) (e : Entry) (old new : Part) → ConcernsNoOther q e.act → old.point ≤ e.start → HasApplied e.end e.act old new → IsSince (own_since q old.point history) old.marks old.works → IsSince (own_since q new.point (history ++ (e ∷ []))) new.marks new.works
own_unwritten q history e old new none late a u =
    let before = own_since q old.point history in
    let window : own_since q new.point (history ++ (e ∷ [])) ≡ before ++ (e ∷ []) =
    ap (λ (n : ℕ). own_since q n (history ++ (e ∷ []))) a.point ∙ own_more q old.point history (e ∷ []) ∙ ap (λ (es : List Entry). before ++ es) (own_last q old.point e none late) in
    let s = since_last before e old.frames old.marks old.works u in
    subst (λ (w : List Entry). IsSince w new.marks new.works) (sym window)
    (subst (λ (m : DirtyMarks). IsSince (before ++ (e ∷ [])) m new.works) (sym a.marks) (subst (λ (ws : List Pending). IsSince (before ++ (e ∷ [])) (marks_after e.end old.frames old.marks e.act) ws) (sym a.works) s))

pub own_followed : OwnEntriesAreFollowed
own_followed q history e old new start end none a f =
    let late = f.late in
    record {
      late = subst (λ (n : ℕ). n ≤ history_end (history ++ (e ∷ []))) (sym a.point) (omega (arith, late, start, end, last_end history e));
      unwritten = own_unwritten q history e old new none (omega (arith, late, start)) a f.unwritten;
      made = over_told old.disk new.disk (IsMadeOf q history old.frames) (IsMadeOf q (history ++ (e ∷ [])) new.frames) (λ some. sym (ap (λ o. is_some o) a.disk) ∙ some)
          (λ made. goes_on q history (e ∷ []) old.frames new.frames made (one_on q e old.frames new.frames none a.frames)) f.made;
    }

pub others_followed : OtherEntriesAreFollowed
others_followed q history more part later none f =
    let late = f.late in
    let few = since part.point more in
    let unconcerned : list_any (concerns q) few ≡ false =
    by_test (list_any (concerns q) few) (λ some. absurd (true≢false (sym (any_filtered (concerns q) (λ (e : Entry). nat_le part.point e.start) more some) ∙ none))) (λ no. no) in
    record {
      late = omega (arith, late, later);
      unwritten = subst (λ (w : List Entry). IsSince w part.marks part.works) (sym (own_more q part.point history more)) (since_others q (own_since q part.point history) few part.marks part.works unconcerned f.unwritten);
      made = over_told part.disk part.disk (IsMadeOf q history part.frames) (IsMadeOf q (history ++ more) part.frames) (λ some. some)
          (λ made. goes_on q history more part.frames part.frames made (passed_over q part.frames more ∙ ap (λ (es : List Entry). apply_all part.frames (map (part_of q) es)) (none_kept (concerns q) more none))) f.made;
    }

fewer : (window : List Entry) (old new : Part) → HasWritten old new → IsSince window old.marks old.works → IsSince window new.marks new.works
fewer window old new w s = record {
  touched = λ fork b end m. s.touched fork b end (w.marks fork b end m);
  entered = All-same (IsEnteredIn window) new.works (drop w.done old.works) w.works (All-drop (IsEnteredIn window) w.done old.works s.entered);
}

-- a block that was cleaned is clean, and the others are as they were
still_dirty : (here : Bool) (end : ℕ) (mark : Option ℕ) → cond here None mark ≡ Some end → mark ≡ Some end
still_dirty true end mark e = absurd cc
still_dirty false end mark e = e

done_first : (done : Work) (old new : Part) → new.frames ≡ old.frames → new.point ≡ old.point → HasDone done old new → is_some new.disk ≡ is_some old.disk → HasWritten old new
done_first done old new frames point d disk = record {
  frames = λ some. frames;
  marks = λ fork b end m. ap (λ (ms : DirtyMarks). touch_end ms fork b) (sym d.marks) ∙ m;
  done = 1;
  works = ap (λ (ws : List Pending). drop 1 ws) (sym d.works);
  point = point;
  told = disk;
}

pub one_written : OneWrittenIsWritten
one_written None old new w disk = record {
  frames = λ some. w.frames;
  marks = λ fork b end m. ap (λ (ms : DirtyMarks). touch_end ms fork b) (sym w.next.1) ∙ m;
  done = 0;
  works = w.next.2;
  point = w.point;
  told = disk;
}
one_written (Some (wrote.Made fork)) old new w disk = done_first (Make fork) old new w.frames w.point w.next disk
one_written (Some (wrote.Cut fork count)) old new w disk = done_first (Cut fork count) old new w.frames w.point w.next disk
one_written (Some (wrote.Removed fork)) old new w disk = done_first (Remove fork) old new w.frames w.point w.next disk
one_written (Some (wrote.Wrote at)) old new w disk = record {
  frames = λ some. w.frames;
  marks = λ fork b end m.
      still_dirty (is_same_block (record { fork = fork; block = b }) at) end (touch_end old.marks fork b) (sym (mark_set old.marks at None fork b) ∙ ap (λ (ms : DirtyMarks). touch_end ms fork b) (sym w.next.marks) ∙ m);
  done = 0;
  works = w.next.works ∙ sym w.next.none;
  point = w.point;
  told = disk;
}

pub writes_followed : WritesAreFollowed
writes_followed q history old new w f = record {
  late = subst (λ (n : ℕ). n ≤ history_end history) (sym w.point) f.late;
  unwritten = subst (λ (n : ℕ). IsSince (own_since q n history) new.marks new.works) (sym w.point) (fewer (own_since q old.point history) old new w f.unwritten);
  made = over_more old.disk new.disk (IsMadeOf q history old.frames) (IsMadeOf q history new.frames) (λ some. sym w.told ∙ some) (λ some made. made ∙ ap (λ (s : Store). Some s) (sym (w.frames some))) f.made;
}

none_since : (window : List Entry) (part : Part) → IsClean part → IsSince window part.marks part.works
none_since window part clean = record {
  touched = λ fork b end m. absurd (true≢false (sym (ap (λ (o : Option ℕ). is_some o) m) ∙ clean.marks fork b));
  entered = All-same (IsEnteredIn window) part.works [] clean.works (All-nil (IsEnteredIn window));
}

pub clean_follow : CleanPartsFollow
clean_follow q history part made clean late = record { late = late; unwritten = none_since (own_since q part.point history) part clean; made = made }

pub cleaning_followed : CleaningIsFollowed
cleaning_followed q redo history old new frames clean point disk late f = record {
  late = subst (λ (n : ℕ). n ≤ history_end history) (sym point) (max-le f.late late);
  unwritten = none_since (own_since q new.point history) new clean;
  made = over_told old.disk new.disk (IsMadeOf q history old.frames) (IsMadeOf q history new.frames) disk (λ made. made ∙ ap (λ (s : Store). Some s) (sym frames)) f.made;
}
