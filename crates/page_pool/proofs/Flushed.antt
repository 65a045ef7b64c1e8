-- How far the WAL is flushed where a partition is written.
use Rattle.std.proofs.Common.{◌≡◌, ℕ, ◌≤◌, max, true, false, ◌||◌, true≢false, zero, suc, List, [], ◌∷◌, ◌++◌, map, fold, drop, get_or, Option, Some, None, IfSome, is_some, unwrap_or, refl, ap, sym, subst, ◌∙◌, arith}
use Rattle.std.specs.Prelude.{slice_get}
use Rattle.std.specs.List.{All, AllByRecursion, list_any, flat_map, filter_map, reduce}
use Rattle.std.specs.FinMap.{get, keys, contains_key, contains_key-keys}
use Rattle.std.proofs.lemmas.List.Elements.{All-nil, All-cons, All-same, All-drop, filter_map-append}
use Rattle.lsn_core.specs.declared.ids.ForkId.{ForkId}
use Rattle.lsn_core.specs.declared.ids.BlockId.{BlockId}
use Rattle.history.specs.Apply.{is_same_fork}
use Rattle.history.proofs.Stores.{by_test, fork_is}
use Rattle.history.proofs.Pushes.{all_first, all_weaker}
use Rattle.page_frames.specs.Marks.{DirtyMarks, fork_marks, dirty_ends, touch_end, is_dirty}
use Rattle.page_frames.specs.Framed.{Framed}
use Rattle.page_frames.specs.Overlay.{marks_over}
use Rattle.stop_areas.specs.Left.{Base}
use Rattle.stop_areas.specs.Keeps.{MayWrite}
use Rattle.page_pool.specs.declared.work.Work.{Work}
use Rattle.page_pool.specs.declared.work.Pending.{Pending}
use Rattle.page_pool.specs.Part.{Part}
use Rattle.page_pool.specs.Steps.{HasWritten}
use Rattle.page_pool.specs.Calls.{MayWriteNext, MayWriteAll}
use Rattle.page_pool.specs.Room.{ends_at, newest_written, room_victims}
use Rattle.page_pool.specs.Writing.{IsFirstWork, IsFirstPage}
use Rattle.page_pool.specs.Stops.{MayDo, Allows, MayDoWorks, MayWritePage, MayWritePages, MayClear, MayClearAll, MayMakeRoom}

-- ---- bounds of all ends

abbrev UpTo : ℕ → List ℕ → Type 0
UpTo m xs = AllByRecursion (λ (k : ℕ). k ≤ m) xs

fold_bounds : (m n : ℕ) (ns : List ℕ) → fold max n ns ≤ m → (n ≤ m) × UpTo m ns
fold_bounds m n [] le = (le, tt)
fold_bounds m n (k ∷ ns) le = let r = fold_bounds m (max n k) ns le in let l = r.0 in (omega (arith, l), (omega (arith, l), r.1))

newest_bounds : (m : ℕ) (xs : List ℕ) → IfSome (reduce max xs) (λ end. end ≤ m) → UpTo m xs
newest_bounds m [] h = tt
newest_bounds m (x ∷ xs) h = fold_bounds m x xs h

both_parts : (m : ℕ) (xs ys : List ℕ) → UpTo m (xs ++ ys) → UpTo m xs × UpTo m ys
both_parts m [] ys all = (tt, all)
both_parts m (x ∷ xs) ys all = let r = both_parts m xs ys all.1 in ((all.0, r.0), r.1)

works_upto : (m : ℕ) (works : List Pending) → UpTo m (map (λ (w : Pending). w.end.0) works) → All (λ (w : Pending). w.end.0 ≤ m) works
works_upto m [] all = All-nil (λ (w : Pending). w.end.0 ≤ m)
works_upto m (w ∷ works) all = All-cons (λ (w : Pending). w.end.0 ≤ m) w works all.0 (works_upto m works all.1)

mark_upto : (m : ℕ) (ms : List (Option ℕ)) → UpTo m (filter_map (λ (x : Option ℕ). x) ms) → (i end : ℕ) → get_or ms i None ≡ Some end → end ≤ m
mark_upto m [] all i end e = let no : None ≡ Some end = e in absurd cc
mark_upto m (Some end ∷ ms) all zero at e = let same : Some end ≡ Some at = e in let is : end ≡ at = cc in let l = all.0 in omega (arith, l, is)
mark_upto m (Some end ∷ ms) all (suc i) at e = mark_upto m ms all.1 i at e
mark_upto m (None ∷ ms) all zero at e = let no : None ≡ Some at = e in absurd cc
mark_upto m (None ∷ ms) all (suc i) at e = mark_upto m ms all i at e

listed_upto : (m : ℕ) (f : ForkId → List ℕ) (fork : ForkId) (forks : List ForkId) → UpTo m (flat_map f forks) → list_any (is_same_fork fork) forks ≡ true → UpTo m (f fork)
listed_upto m f fork [] all listed = absurd (true≢false (sym listed))
listed_upto m f fork (x ∷ forks) all listed =
    let two = both_parts m (f x) (flat_map f forks) all in
    by_test (is_same_fork fork x)
    (λ here. subst (λ (q : ForkId). UpTo m (f q)) (sym (fork_is fork x here)) two.0)
    (λ apart. listed_upto m f fork forks two.1 (sym (ap (λ c. c || list_any (is_same_fork fork) forks) apart) ∙ listed))

unmarked : (marks : DirtyMarks) (fork : ForkId) → contains_key marks fork ≡ false → fork_marks marks fork ≡ []
unmarked marks fork none = elim (get marks fork) as (λ (o : Option (List (Option ℕ))). is_some o ≡ false → unwrap_or o [] ≡ []) [ None ↦ λ e. refl | Some ms ↦ λ e. absurd (true≢false e) ] none

fork_upto : (m : ℕ) (marks : DirtyMarks) (fork : ForkId) → UpTo m (flat_map (dirty_ends marks) (keys marks)) → UpTo m (dirty_ends marks fork)
unfolding is_same_fork
fork_upto m marks fork all =
    by_test (contains_key marks fork)
    (λ there. listed_upto m (dirty_ends marks) fork (keys marks) all (sym (contains_key-keys marks fork) ∙ there))
    (λ away. subst (λ (ms : List (Option ℕ)). UpTo m (filter_map (λ (x : Option ℕ). x) ms)) (sym (unmarked marks fork away)) tt)

-- ---- all that isn't written

pub all_flushed : (m : ℕ) (part : Part) → MayWriteAll part m → MayDoWorks part m × MayWritePages part m
all_flushed m part may =
    let ends = map (λ (w : Pending). w.end.0) part.works in
    let dirty = flat_map (dirty_ends part.marks) (keys part.marks) in
    let two = both_parts m ends dirty (newest_bounds m (ends ++ dirty) may) in
    (works_upto m part.works two.0, λ at end e. mark_upto m (fork_marks part.marks at.fork) (fork_upto m part.marks at.fork two.1) at.block end e)

-- ---- what is written first

first_flushed : (m : ℕ) (part : Part) (work : Work) (f : IsFirstWork work part) → MayWriteNext part m → f.first.end.0 ≤ m
first_flushed m part work f may =
    subst (λ (ws : List Pending). IfSome (slice_get (map (λ (w : Pending). w.end.0) ws ++ flat_map (dirty_ends part.marks) (keys part.marks)) 0) (λ end. end ≤ m)) f.works may

-- a work that is first may be done
pub work_allowed : (m : ℕ) (base : Base) (part : Part) (work : Work) → IsFirstWork work part → MayWriteNext part m → Allows m base part → MayDo base work
work_allowed m base part work f may allows =
    subst (MayDo base) f.is
    (all_first (λ (w : Pending). w.end.0 ≤ m → MayDo base w.work) f.first f.rest
    (subst (λ (ws : List Pending). All (λ (w : Pending). w.end.0 ≤ m → MayDo base w.work) ws) f.works allows.works)
    (first_flushed m part work f may))

pub first_work_flushed : (m : ℕ) (part : Part) (work : Work) → IsFirstWork work part → MayDoWorks part m → MayWriteNext part m
first_work_flushed m part work f may =
    subst (λ (ws : List Pending). IfSome (slice_get (map (λ (w : Pending). w.end.0) ws ++ flat_map (dirty_ends part.marks) (keys part.marks)) 0) (λ end. end ≤ m)) (sym f.works)
    (all_first (λ (w : Pending). w.end.0 ≤ m) f.first f.rest (subst (λ (ws : List Pending). All (λ (w : Pending). w.end.0 ≤ m) ws) f.works may))

same_end : (m : ℕ) (o p : Option ℕ) (a b : ℕ) → o ≡ Some a → p ≡ Some b → a ≡ b → IfSome o (λ end. end ≤ m) → b ≤ m
same_end m o p a b e f same may = let l : a ≤ m = subst (λ (x : Option ℕ). IfSome x (λ end. end ≤ m)) e may in omega (arith, l, same)

some_same : (a b : ℕ) → Some a ≡ Some b → a ≡ b
some_same a b e = cc

-- and so the first dirty page, where no work is pending
pub first_page_flushed : (m : ℕ) (part : Part) (at : BlockId) → part.works ≡ [] → IsFirstPage at part → MayWriteNext part m → MayWritePage part at m
first_page_flushed m part at none f may end e =
    let here : IfSome (slice_get (flat_map (dirty_ends part.marks) (keys part.marks)) 0) (λ end. end ≤ m) =
    subst (λ (ws : List Pending). IfSome (slice_get (map (λ (w : Pending). w.end.0) ws ++ flat_map (dirty_ends part.marks) (keys part.marks)) 0) (λ end. end ≤ m)) none may in
    same_end m (slice_get (flat_map (dirty_ends part.marks) (keys part.marks)) 0) (touch_end part.marks at.fork at.block) f.end end f.first.first e (some_same f.end end (sym f.first.dirty ∙ e)) here

some_end : (o : Option ℕ) → is_some o ≡ true → (end : ℕ) × (o ≡ Some end)
some_end None e = absurd (true≢false (sym e))
some_end (Some end) e = (end, refl)

-- a dirty page may be written
pub page_allowed : (m : ℕ) (base : Base) (part : Part) (at : BlockId) → is_dirty part.marks at.fork at.block ≡ true → MayWritePage part at m → Allows m base part → MayWrite base at
page_allowed m base part at dirty may allows =
    let s = some_end (touch_end part.marks at.fork at.block) dirty in
    allows.pages at s.0 s.1 (may s.0 s.1)

-- where a block is dirty, all works may be done before its page is written
pub dirty_works : (m : ℕ) (part : Part) (at : BlockId) → is_dirty part.marks at.fork at.block ≡ true → MayClear part at m → MayDoWorks part m
dirty_works m part at dirty may =
    let s = some_end (touch_end part.marks at.fork at.block) dirty in
    (may s.0 s.1).1

-- ---- after some of it was written

pub works_later : (m : ℕ) (a b : Part) → HasWritten a b → MayDoWorks a m → MayDoWorks b m
works_later m a b written may =
    All-same (λ (w : Pending). w.end.0 ≤ m) b.works (drop written.done a.works) written.works (All-drop (λ (w : Pending). w.end.0 ≤ m) written.done a.works may)

pub page_later : (m : ℕ) (a b : Part) (at : BlockId) → HasWritten a b → MayWritePage a at m → MayWritePage b at m
page_later m a b at written may end e = may end (written.marks at.fork at.block end e)

pub clear_later : (m : ℕ) (a b : Part) (at : BlockId) → HasWritten a b → MayClear a at m → MayClear b at m
clear_later m a b at written may end e =
    let was = may end (written.marks at.fork at.block end e) in
    (was.0, works_later m a b written was.1)

pub clear_all_later : (m : ℕ) (a b : Part) (blocks : List BlockId) → HasWritten a b → MayClearAll a blocks m → MayClearAll b blocks m
clear_all_later m a b blocks written may =
    all_weaker (λ (at : BlockId). MayClear a at m) (λ (at : BlockId). MayClear b at m) blocks (λ at one. clear_later m a b at written one) may

pub allows_later : (m : ℕ) (base : Base) (a b : Part) → HasWritten a b → Allows m base a → Allows m base b
allows_later m base a b written allows = record {
  pages = λ at end e le. allows.pages at end (written.marks at.fork at.block end e) le;
  works = All-same (λ (w : Pending). w.end.0 ≤ m → MayDo base w.work) b.works (drop written.done a.works) written.works
      (All-drop (λ (w : Pending). w.end.0 ≤ m → MayDo base w.work) written.done a.works allows.works);
}

-- ---- for room

ends_split : (f : Framed) (at : BlockId) (blocks : List BlockId) → ends_at f (at ∷ blocks) ≡ ends_at f (at ∷ []) ++ ends_at f blocks
ends_split f at blocks = filter_map-append (λ (b : BlockId). touch_end (marks_over f) b.fork b.block) (at ∷ []) blocks

-- the end of a block is among those of blocks with it
one_upto : (m : ℕ) (o : Option ℕ) (end : ℕ) → o ≡ Some end → UpTo m (filter_map (λ (x : Option ℕ). x) (o ∷ [])) → end ≤ m
one_upto m o end e all = (subst (λ (x : Option ℕ). UpTo m (filter_map (λ (y : Option ℕ). y) (x ∷ []))) e all).0

-- where there are ends, all works are flushed too
abbrev Flushes : ℕ → List Pending → List ℕ → Type 0
Flushes m works ends = IfSome (newest_written works ends) (λ end. end ≤ m)

flushes_all : (m : ℕ) (works : List Pending) (end : ℕ) (ends : List ℕ) → Flushes m works (end ∷ ends) → All (λ (w : Pending). w.end.0 ≤ m) works × UpTo m (end ∷ ends)
flushes_all m works end ends may =
    let two = both_parts m (map (λ (w : Pending). w.end.0) works) (end ∷ ends) (newest_bounds m (map (λ (w : Pending). w.end.0) works ++ (end ∷ ends)) may) in
    (works_upto m works two.0, two.1)

upto_ends : (m : ℕ) (works : List Pending) (ends : List ℕ) → Flushes m works ends → UpTo m ends × ((end : ℕ) (rest : List ℕ) → ends ≡ end ∷ rest → All (λ (w : Pending). w.end.0 ≤ m) works)
upto_ends m works [] may = (tt, λ end rest e. absurd (let no : [] ≡ end ∷ rest = e in cc))
upto_ends m works (end ∷ ends) may = let all = flushes_all m works end ends may in (all.1, λ first rest e. all.0)

abbrev MayClearIn : Framed → List Pending → ℕ → BlockId → Type 0
MayClearIn f works m at = (end : ℕ) → touch_end (marks_over f) at.fork at.block ≡ Some end → (end ≤ m) × All (λ (w : Pending). w.end.0 ≤ m) works

-- each of the blocks, where the works are flushed if there is an end among these
clear_each : (m : ℕ) (f : Framed) (works : List Pending) (blocks : List BlockId) → UpTo m (ends_at f blocks) → ((end : ℕ) (rest : List ℕ) → ends_at f blocks ≡ end ∷ rest → All (λ (w : Pending). w.end.0 ≤ m) works) → All (MayClearIn f works m) blocks
clear_each m f works [] all flushed = All-nil (MayClearIn f works m)
clear_each m f works (at ∷ blocks) all flushed =
    let two = both_parts m (ends_at f (at ∷ [])) (ends_at f blocks) (subst (UpTo m) (ends_split f at blocks) all) in
    All-cons (MayClearIn f works m) at blocks
    (λ end e.
    let here : ends_at f (at ∷ []) ≡ end ∷ [] = ap (λ (x : Option ℕ). filter_map (λ (y : Option ℕ). y) (x ∷ [])) e in
    (one_upto m (touch_end (marks_over f) at.fork at.block) end e two.0, flushed end (ends_at f blocks) (ends_split f at blocks ∙ ap (λ (xs : List ℕ). xs ++ ends_at f blocks) here)))
    (clear_each m f works blocks two.1 (behind (ends_at f (at ∷ [])) (ends_at f blocks) (λ end rest e. flushed end rest (ends_split f at blocks ∙ e))))
  where
    behind : (xs ys : List ℕ) → ((end : ℕ) (rest : List ℕ) → xs ++ ys ≡ end ∷ rest → All (λ (w : Pending). w.end.0 ≤ m) works) → (end : ℕ) (rest : List ℕ) → ys ≡ end ∷ rest → All (λ (w : Pending). w.end.0 ≤ m) works
    behind [] ys k end rest e = k end rest e
    behind (x ∷ xs) ys k end rest e = k x (xs ++ ys) refl

-- so the victims may be cleared
pub room_flushed : (m : ℕ) (part after : Part) (blocks victims : List BlockId) → victims ≡ room_victims part.framed blocks → after.marks ≡ marks_over part.framed → HasWritten part after → MayMakeRoom part blocks m → MayClearAll after victims m
room_flushed m part after blocks victims is marks written may =
    let chosen = room_victims part.framed blocks in
    let ends = upto_ends m part.works (ends_at part.framed chosen) may in
    subst (λ (bs : List BlockId). MayClearAll after bs m) (sym is)
    (all_weaker (MayClearIn part.framed part.works m) (λ (at : BlockId). MayClear after at m) chosen
    (λ at one end e. let was = one end (ap (λ (ms : DirtyMarks). touch_end ms at.fork at.block) (sym marks) ∙ e) in (was.0, works_later m part after written was.1))
    (clear_each m part.framed part.works chosen ends.0 ends.1))
