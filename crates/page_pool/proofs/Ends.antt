-- The entries of what isn't written are entries of the history.
use Rattle.std.proofs.Common.{◌≡◌, ℕ, max, true, List, [], ◌∷◌, ◌++◌, map, fold, inl, inr, Option, Some, None, IfSome, refl, ap, sym, subst, ◌∙◌, arith}
use Rattle.std.specs.Prelude.{◌==◌, nat_le, slice_get}
use Rattle.std.specs.List.{AllByRecursion, filter_map, flat_map, reduce}
use Rattle.std.specs.FinMap.{keys}
use Rattle.std.proofs.lemmas.Bool.{and_parts, cases_lt}
use Rattle.std.proofs.lemmas.List.Elements.{All-weaker, recursion_from_All, filter_map-append}
use Rattle.lsn_core.specs.declared.ids.ForkId.{ForkId}
use Rattle.history.specs.Entry.{Entry}
use Rattle.history.specs.partitions.Parts.{act_part, part_of}
use Rattle.history.specs.fuzzy_copies.Touches.{touches}
use Rattle.history.specs.fuzzy_copies.Taken.{since}
use Rattle.lsn_core.specs.declared.ids.BlockId.{BlockId}
use Rattle.page_frames.specs.Marks.{DirtyMarks, fork_marks, dirty_ends, touch_end}
use Rattle.page_frames.specs.Framed.{Framed}
use Rattle.page_frames.specs.Overlay.{marks_over}
use Rattle.page_frames.proofs.Ends.{both_all, marks_all, forks_all, none_of_two, no_marks, all_clean, none_of_forks, fork_ends_none}
use Rattle.page_pool.specs.declared.work.Pending.{Pending}
use Rattle.page_pool.specs.Part.{Part, unwritten_ends}
use Rattle.page_pool.specs.Room.{ends_at, newest_written, room_victims, room_end}
use Rattle.page_pool.specs.Facts.{enters, is_entered, own_since, Follows}
use Rattle.page_pool.specs.Laws.{IsEndIn, UnwrittenIsOfHistory, CleanPartsHaveNoNext}
use Rattle.page_pool.proofs.Windows.{any_part, entered_by, any_filtered, touches_to, touch_in}

-- of the pending works
abbrev work_ends : List Pending → List ℕ
work_ends works = map (λ (w : Pending). w.end.0) works

works_all : (P : ℕ → Type 0) (works : List Pending) → AllByRecursion (λ (w : Pending). P w.end.0) works → AllByRecursion P (work_ends works)
works_all P [] all = tt
works_all P (w ∷ works) all = (all.0, works_all P works all.1)

larger : (P : ℕ → Type 0) (a b : ℕ) → P a → P b → P (max a b)
larger P a b p q =
    elim (cases_lt a b) [
      | inl h ↦ let same : b ≡ max a b = omega (arith, h) in subst P same q
      | inr h ↦ let same : a ≡ max a b = omega (arith, h) in subst P same p
    ]

pub greatest_all : (P : ℕ → Type 0) (n : ℕ) (ns : List ℕ) → P n → AllByRecursion P ns → P (fold max n ns)
greatest_all P n [] p all = p
greatest_all P n (m ∷ ms) p all = greatest_all P (max n m) ms (larger P n m p all.0) all.1

first_all : (P : ℕ → Type 0) (xs : List ℕ) → AllByRecursion P xs → IfSome (slice_get xs 0) P
first_all P [] all = tt
first_all P (x ∷ xs) all = all.0

pub newest_all : (P : ℕ → Type 0) (xs : List ℕ) → AllByRecursion P xs → IfSome (reduce max xs) P
newest_all P [] all = tt
newest_all P (x ∷ xs) all = greatest_all P x xs all.0 all.1

-- an entry of the window from the point on is one of the history
of_window : (q : ℕ) (history : List Entry) (part : Part) (end : ℕ) → IsEndIn (since part.point history) end → IsEndIn history end
of_window q history part end h = any_filtered (λ (e : Entry). e.end == end) (λ (e : Entry). nat_le part.point e.start) history h

works_of_history : (q : ℕ) (history : List Entry) (part : Part) → Follows q history part → AllByRecursion (IsEndIn history) (work_ends part.works)
works_of_history q history part f =
    let es = since part.point history in
    let window = own_since q part.point history in
    let entered = λ (w : Pending) (h : is_entered window w ≡ true). of_window q history part w.end.0
    (any_part q (entered_by w) (λ (e : Entry). e.end == w.end.0) es (λ e k. (and_parts (enters (act_part q e.act) w.work) (e.end == w.end.0) k).1) h) in
    works_all (IsEndIn history) part.works (recursion_from_All (λ (w : Pending). IsEndIn history w.end.0) part.works (All-weaker (λ (w : Pending). is_entered window w ≡ true) (λ (w : Pending). IsEndIn history w.end.0) entered part.works f.unwritten.entered))

mark_of_history : (q : ℕ) (history : List Entry) (part : Part) → Follows q history part → (fork : ForkId) (block end : ℕ) → touch_end part.marks fork block ≡ Some end → IsEndIn history end
mark_of_history q history part f fork block end h =
    let es = since part.point history in
    of_window q history part end
    (any_part q (touches_to fork block end) (λ (e : Entry). e.end == end) es (λ e touch. (and_parts (touches fork block (part_of q e)) (e.end == end) touch).1) (touch_in fork block end (own_since q part.point history) (f.unwritten.touched fork block end h)))

pub unwritten_of_history : UnwrittenIsOfHistory
unwritten_of_history q history part f =
    let marked = λ (fork : ForkId). marks_all (IsEndIn history) (fork_marks part.marks fork) (λ i end h. mark_of_history q history part f fork i end h) in
    let all : AllByRecursion (IsEndIn history) (unwritten_ends part) =
    both_all (IsEndIn history) (work_ends part.works) (flat_map (dirty_ends part.marks) (keys part.marks)) (works_of_history q history part f) (forks_all (IsEndIn history) (dirty_ends part.marks) (keys part.marks) marked) in
    (first_all (IsEndIn history) (unwritten_ends part) all, newest_all (IsEndIn history) (unwritten_ends part) all)

-- so are those up to which the WAL is flushed before room is made
ends_of_history : (P : ℕ → Type 0) (f : Framed) → ((fork : ForkId) (block end : ℕ) → touch_end (marks_over f) fork block ≡ Some end → P end) → (blocks : List BlockId) → AllByRecursion P (ends_at f blocks)
ends_of_history P f known [] = tt
ends_of_history P f known (at ∷ blocks) =
    subst (AllByRecursion P) (sym (filter_map-append (λ (b : BlockId). touch_end (marks_over f) b.fork b.block) (at ∷ []) blocks))
    (both_all P (ends_at f (at ∷ [])) (ends_at f blocks) (one (touch_end (marks_over f) at.fork at.block) (known at.fork at.block)) (ends_of_history P f known blocks))
  where
    one : (o : Option ℕ) → ((end : ℕ) → o ≡ Some end → P end) → AllByRecursion P (filter_map (λ (x : Option ℕ). x) (o ∷ []))
    one None k = tt
    one (Some end) k = (k end refl, tt)

pub room_of_history : (q : ℕ) (history : List Entry) (part : Part) (blocks : List BlockId) → part.marks ≡ marks_over part.framed → Follows q history part → IfSome (room_end part.framed part.works blocks) (IsEndIn history)
room_of_history q history part blocks marks f =
    by (ends_at part.framed (room_victims part.framed blocks))
    (ends_of_history (IsEndIn history) part.framed (λ fork block end h. mark_of_history q history part f fork block end (ap (λ (ms : DirtyMarks). touch_end ms fork block) marks ∙ h)) (room_victims part.framed blocks))
  where
    by : (ends : List ℕ) → AllByRecursion (IsEndIn history) ends → IfSome (newest_written part.works ends) (IsEndIn history)
    by [] all = tt
    by (end ∷ ends) all = newest_all (IsEndIn history) (work_ends part.works ++ (end ∷ ends)) (both_all (IsEndIn history) (work_ends part.works) (end ∷ ends) (works_of_history q history part f) all)

-- where there is nothing to write next
none_first : (xs : List ℕ) → slice_get xs 0 ≡ None → xs ≡ []
none_first [] h = refl
none_first (x ∷ xs) h = absurd cc

no_works : (works : List Pending) → work_ends works ≡ [] → works ≡ []
no_works [] h = refl
no_works (w ∷ works) h = absurd cc

pub no_next : CleanPartsHaveNoNext
no_next part =
    let dirty = flat_map (dirty_ends part.marks) (keys part.marks) in (
      λ clean. ap (λ (xs : List ℕ). slice_get xs 0)
          (ap (λ (ws : List Pending). work_ends ws ++ dirty) clean.works ∙ none_of_forks (dirty_ends part.marks) (keys part.marks) (λ fork. all_clean (fork_marks part.marks fork) (clean.marks fork))),
      λ none.
          let two = none_of_two (work_ends part.works) dirty (none_first (unwritten_ends part) none) in
          record {
            marks = λ fork block. no_marks (fork_marks part.marks fork) (fork_ends_none part.marks fork two.1) block;
            works = no_works part.works two.0;
          },
    )
