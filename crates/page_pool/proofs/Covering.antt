-- The disk of a partition that follows its history covers the history from its point on.
use Rattle.std.proofs.Common.{◌≡◌, ℕ, Bool, true, false, cond, ◌||◌, List, map, Option, Some, None, is_some, refl, ap, sym, subst, ◌∙◌, true≢false}
use Rattle.std.specs.Prelude.{◌==◌, slice_get}
use Rattle.std.specs.List.{list_any}
use Rattle.std.specs.FinMap.{get, empty, contains_key, get-empty}
use Rattle.std.proofs.lemmas.Bool.{and_parts}
use Rattle.std.proofs.lemmas.List.Elements.{recursion_from_All}
use Rattle.lsn_core.specs.byte_words.Numbers.{◌>>=◌}
use Rattle.lsn_core.specs.declared.ids.ForkId.{ForkId}
use Rattle.lsn_core.specs.Store.{Store, ForkPages, fork_cmp}
use Rattle.history.specs.Entry.{Entry}
use Rattle.history.specs.Apply.{apply_all}
use Rattle.history.proofs.Stores.{by_test}
use Rattle.history.specs.partitions.Parts.{is_of, part_of, IsPart}
use Rattle.history.proofs.partitions.Puts.{own}
use Rattle.history.proofs.partitions.Folds.{parts_fold}
use Rattle.history.specs.fuzzy_copies.Touches.{act_cuts, touches, resets, settles}
use Rattle.history.specs.fuzzy_copies.Taken.{since}
use Rattle.history.proofs.fuzzy_copies.Covering.{lagging}
use Rattle.page_frames.specs.Marks.{DirtyMarks, touch_end, is_dirty}
use Rattle.page_pool.specs.declared.work.Pending.{Pending}
use Rattle.page_pool.specs.Part.{is_to_settle, is_to_cut}
use Rattle.page_pool.specs.Facts.{is_entered, IsSince}
use Rattle.page_pool.specs.Laws.{FollowersCover}
use Rattle.page_pool.proofs.Windows.{any_part, part_touches, touches_to, touch_in, entered_cuts, entered_settles}
use Rattle.page_pool.proofs.Behind.{unsettled}
use Rattle.page_pool.proofs.Followed.{told}

-- what pending works cut off and make, the entries of the history from the place on do
window_cuts : (q : ℕ) (es : List Entry) (marks : DirtyMarks) (works : List Pending) (fork : ForkId) (b : ℕ) → IsSince (map (part_of q) es) marks works → is_to_cut works fork b ≡ true → list_any (resets fork b) es ≡ true
window_cuts q es marks works fork b s cut = entered_cuts q fork b es works (recursion_from_All (λ (w : Pending). is_entered (map (part_of q) es) w ≡ true) works s.entered) cut

window_makes : (q : ℕ) (es : List Entry) (marks : DirtyMarks) (works : List Pending) (fork : ForkId) → IsSince (map (part_of q) es) marks works → is_to_settle works fork ≡ true → list_any (settles fork) es ≡ true
window_makes q es marks works fork s make = entered_settles q fork es works (recursion_from_All (λ (w : Pending). is_entered (map (part_of q) es) w ≡ true) works s.entered) make

-- what the entries leave is neither dirty nor pending
clean_of : (q : ℕ) (es : List Entry) (marks : DirtyMarks) (works : List Pending) (fork : ForkId) (b : ℕ) → IsSince (map (part_of q) es) marks works → list_any (resets fork b) es ≡ false → is_dirty marks fork b ≡ false
clean_of q es marks works fork b s none =
    let own = map (part_of q) es in
    elim (touch_end marks fork b) as (λ m. touch_end marks fork b ≡ m → is_some m ≡ false) [
      | None ↦ λ e. refl
      | Some end ↦ λ e.
          let touch = touch_in fork b end own (s.touched fork b end e) in
          let reset = any_part q (touches_to fork b end) (resets fork b) es (λ x t. ap (λ c. c || act_cuts fork b x.act) (part_touches q fork b x.act (and_parts (touches fork b (part_of q x)) (x.end == end) t).0)) touch in
          absurd (true≢false (sym reset ∙ none))
    ] refl

uncut_of : (q : ℕ) (es : List Entry) (marks : DirtyMarks) (works : List Pending) (fork : ForkId) (b : ℕ) → IsSince (map (part_of q) es) marks works → list_any (resets fork b) es ≡ false → is_to_cut works fork b ≡ false
uncut_of q es marks works fork b s none = by_test (is_to_cut works fork b) (λ cut. absurd (true≢false (sym (window_cuts q es marks works fork b s cut) ∙ none))) (λ uncut. uncut)

unmade_of : (q : ℕ) (es : List Entry) (marks : DirtyMarks) (works : List Pending) (fork : ForkId) → IsSince (map (part_of q) es) marks works → list_any (settles fork) es ≡ false → is_to_settle works fork ≡ false
unmade_of q es marks works fork s none = by_test (is_to_settle works fork) (λ make. absurd (true≢false (sym (window_makes q es marks works fork s make) ∙ none))) (λ unmade. unmade)

-- nothing has an empty part
none_of_nothing : (q : ℕ) → IsPart q empty empty
none_of_nothing q fork =
    let nothing : Store = empty in
    elim (is_of q fork) as (λ (c : Bool). get nothing fork ≡ cond c (get nothing fork) None) [ true ↦ refl | false ↦ get-empty fork_cmp fork ]

-- the frames are the part of the store that the history makes
part_now : (q : ℕ) (history : List Entry) (frames now : Store) → apply_all empty history ≡ Some now → apply_all empty (map (part_of q) history) ≡ Some frames → IsPart q now frames
part_now q history frames now made part =
    let folded = parts_fold q empty now empty history (none_of_nothing q) made in
    let same : folded.0 ≡ frames = let f = folded.1 in cc in
    subst (λ (s : Store). IsPart q now s) same folded.2

pub followers_cover : FollowersCover
followers_cover q history part disk now makes some f h =
    let is = part_now q history part.frames now makes.made (told part.disk (apply_all empty (map (part_of q) history) ≡ Some part.frames) some f.made) in
    let es = since part.point history in
    let s = f.unwritten in
    lagging (is_of q) disk now history part.point makes
    (record {
      blocks = λ fork b mine none. h.same fork b (clean_of q es part.marks part.works fork b s none) (uncut_of q es part.marks part.works fork b s none)
          ∙ ap (λ (o : Option ForkPages). o >>= λ pages. slice_get pages b) (own q now part.frames fork is mine);
      forks = λ fork mine none. sym (unsettled part.works fork (contains_key disk fork) (unmade_of q es part.marks part.works fork s none)) ∙ h.forks fork ∙ ap (λ (o : Option ForkPages). is_some o) (own q now part.frames fork is mine);
    })
