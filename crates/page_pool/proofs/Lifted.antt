-- What was found of a command by the pages in frames alone is so by all pages of a partition.
use Rattle.std.proofs.Common.{◌≡◌, ℕ, zero, suc, ◌+◌, Result, Ok, Err, IsSome, Bool, true, false, cond, ◌||◌, List, [], ◌∷◌, map, length, take, Option, Some, None, is_some, option_map, unwrap_or, refl, ap, sym, subst, ◌∙◌, arith, true≢false, box_value, length-take}
use Rattle.std.specs.Prelude.{max, min, slice_get}
use Rattle.std.specs.List.{All}
use Rattle.std.specs.Result.{IfOk, IfErr}
use Rattle.std.proofs.lemmas.List.Elements.{All-nil, All-cons}
use Rattle.std.specs.FinMap.{get, insert, get-remove}
use Rattle.lsn_core.specs.byte_words.Numbers.{◌>>=◌}
use Rattle.lsn_core.specs.byte_words.Pieces.{zero_page}
use Rattle.lsn_core.specs.declared.ids.ForkId.{ForkId}
use Rattle.lsn_core.specs.declared.ids.BlockId.{BlockId}
use Rattle.lsn_core.specs.Store.{Store, ForkPages}
use Rattle.lsn_core.specs.Blocks.{block_count, pages_of, page_put, with_fork, with_cut, with_cut_pages, without_fork}
use Rattle.lsn_core.proofs.ForkOrder.{fork_cmp_total}
use Rattle.pg_page.specs.Header.{IsGood, with_lsn}
use Rattle.pg_page.proofs.HeaderLaws.{IsGood-with_lsn}
use Rattle.rel_files.specs.Forks.{HasWholePages}
use Rattle.rel_files.proofs.WholePages.{put_whole, made_whole, cut_leaves_whole, gone_whole}
use Rattle.history.specs.declared.op.Op.{Op}
use Rattle.history.specs.declared.op.Op.TheVariants as op
use Rattle.history.specs.declared.op.Item.{Item}
use Rattle.history.specs.Apply.{is_same_fork, is_same_block, page_at, main_fork, init_fork, apply_act}
use Rattle.history.specs.Op.{act_of_op}
use Rattle.history.specs.Pages.{page_count}
use Rattle.history.specs.Whole.{is_named}
use Rattle.history.proofs.Stores.{by_test, fork_is, get_here, get_there, block_is, block_self}
use Rattle.history.proofs.Pushes.{all_first, all_rest}
use Rattle.page_frames.specs.Framed.{Framed, Held}
use Rattle.page_frames.specs.Overlay.{pages_over, own_pages, page_over}
use Rattle.page_frames.proofs.Overlays.{count_over, either_block, page_there, page_past}
use Rattle.command_judging.specs.declared.fault.OpFault.{OpFault}
use Rattle.command_judging.specs.declared.fault.OpFault.TheVariants as fault
use Rattle.page_pool.specs.Part.{Part}
use Rattle.page_pool.specs.Calls.{AreWholePages}
use Rattle.page_pool.specs.declared.ready.Done.{Done}
use Rattle.page_pool.specs.declared.ready.Done.TheVariants as done
use Rattle.page_pool.specs.declared.ready.NewPage.{NewPage}
use Rattle.page_pool.specs.declared.ready.Ready.{Ready}
use Rattle.command_judging.specs.Refusals.{judged_op, IsRefusedOp}
use Rattle.page_pool.specs.Room.{blocks_of, HasFrame}
use Rattle.page_pool.specs.Ready.{CheckAnswer, AreGoodPages, pages_put, done_at}
use Rattle.command_judging.specs.Refusals.{HasItems}
use Rattle.page_pool.specs.Inside.{page_of_item, page_of_edit, IsDoneBy, IsFound}
use Rattle.command_judging.specs.Judging.{IsCounted}
use Rattle.command_judging.proofs.Judged.{AreAsLong, judged-fit}
use Rattle.page_pool.proofs.Local.{AreAlikeAt, commands_alike, count_put}
use Rattle.page_pool.proofs.Counts.{counted_alike}
use Rattle.page_pool.proofs.Readied.{made_same, checked}

-- ---- how long forks are

count_fork : (store : Store) (made q : ForkId) → block_count (with_fork store made) q ≡ cond (is_same_fork q made) (Some (unwrap_or (block_count store made) 0)) (block_count store q)
count_fork store made q = by (get store made) refl
  where
    by : (o : Option ForkPages) → get store made ≡ o → block_count (cond (is_some (get store made)) store (insert store made [])) q ≡ cond (is_same_fork q made) (Some (unwrap_or (option_map length (get store made)) 0)) (block_count store q)
    by None is = ap (λ (o : Option ForkPages). block_count (cond (is_some o) store (insert store made [])) q) is
        ∙ by_test (is_same_fork q made)
        (λ here. ap (option_map length) (get_here store made q [] here) ∙ sym (ap (λ (o : Option ForkPages). cond (is_same_fork q made) (Some (unwrap_or (option_map length o) 0)) (block_count store q)) is ∙ ap (λ t. cond t (Some 0) (block_count store q)) here))
        (λ apart. ap (option_map length) (get_there store made q [] apart) ∙ sym (ap (λ t. cond t (Some (unwrap_or (option_map length (get store made)) 0)) (block_count store q)) apart))
    by (Some pages) is = ap (λ (o : Option ForkPages). block_count (cond (is_some o) store (insert store made [])) q) is
        ∙ by_test (is_same_fork q made)
        (λ here. ap (λ (f : ForkId). block_count store f) (fork_is q made here) ∙ ap (option_map length) is
        ∙ sym (ap (λ (o : Option ForkPages). cond (is_same_fork q made) (Some (unwrap_or (option_map length o) 0)) (block_count store q)) is ∙ ap (λ t. cond t (Some (length pages)) (block_count store q)) here))
        (λ apart. sym (ap (λ t. cond t (Some (unwrap_or (option_map length (get store made)) 0)) (block_count store q)) apart))

count_cut : (store : Store) (cut : ForkId) (n : ℕ) (q : ForkId) → block_count (with_cut store cut n) q ≡ cond (is_same_fork q cut) (option_map (min n) (block_count store cut)) (block_count store q)
count_cut store cut n q = by (get store cut) refl
  where
    none : get store cut ≡ None → block_count store q ≡ cond (is_same_fork q cut) (option_map (min n) (block_count store cut)) (block_count store q)
    none is = by_test (is_same_fork q cut)
        (λ here. ap (λ (f : ForkId). block_count store f) (fork_is q cut here) ∙ ap (option_map length) is
        ∙ sym (ap (λ t. cond t (option_map (min n) (block_count store cut)) (block_count store q)) here ∙ ap (λ (o : Option ForkPages). option_map (min n) (option_map length o)) is))
        (λ apart. sym (ap (λ t. cond t (option_map (min n) (block_count store cut)) (block_count store q)) apart))

    some : (pages : ForkPages) → get store cut ≡ Some pages → block_count (insert store cut (take n pages)) q ≡ cond (is_same_fork q cut) (option_map (min n) (block_count store cut)) (block_count store q)
    some pages is = by_test (is_same_fork q cut)
        (λ here. ap (option_map length) (get_here store cut q (take n pages) here) ∙ ap (λ (k : ℕ). Some k) (length-take n pages)
        ∙ sym (ap (λ t. cond t (option_map (min n) (block_count store cut)) (block_count store q)) here ∙ ap (λ (o : Option ForkPages). option_map (min n) (option_map length o)) is))
        (λ apart. ap (option_map length) (get_there store cut q (take n pages) apart) ∙ sym (ap (λ t. cond t (option_map (min n) (block_count store cut)) (block_count store q)) apart))

    by : (o : Option ForkPages) → get store cut ≡ o → block_count (with_cut store cut n) q ≡ cond (is_same_fork q cut) (option_map (min n) (block_count store cut)) (block_count store q)
    by None is = ap (λ (o : Option ForkPages). block_count (with_cut_pages store cut n o) q) is ∙ none is
    by (Some pages) is = ap (λ (o : Option ForkPages). block_count (with_cut_pages store cut n o) q) is ∙ some pages is

count_gone : (store : Store) (gone q : ForkId) → block_count (without_fork store gone) q ≡ cond (is_same_fork q gone) None (block_count store q)
unfolding is_same_fork
count_gone store gone q = ap (option_map length) (get-remove fork_cmp_total store gone q) ∙ by (is_same_fork q gone)
  where
    by : (t : Bool) → option_map length (cond t None (get store q)) ≡ cond t None (block_count store q)
    by true = refl
    by false = refl

long_gone : (a b : Store) (gone : ForkId) → AreAsLong a b → AreAsLong (without_fork a gone) (without_fork b gone)
long_gone a b gone long q = count_gone a gone q ∙ ap (λ (o : Option ℕ). cond (is_same_fork q gone) None o) (long q) ∙ sym (count_gone b gone q)

long_pages : (a b : Store) (fork : ForkId) → AreAsLong a b → length (pages_of a fork) ≡ length (pages_of b fork)
long_pages a b fork long = sym (by (get a fork)) ∙ ap (λ (o : Option ℕ). unwrap_or o 0) (long fork) ∙ by (get b fork)
  where
    by : (o : Option ForkPages) → unwrap_or (option_map length o) 0 ≡ length (unwrap_or o [])
    by None = refl
    by (Some pages) = refl

long_put : (a b : Store) (at : BlockId) (x : List ℕ) → AreAsLong a b → AreAsLong (page_put at x a) (page_put at x b)
long_put a b at x long q =
    count_put a at x q
    ∙ ap (λ (k : ℕ). cond (is_same_fork q at.fork) (Some (max k (at.block + 1))) (block_count a q)) (long_pages a b at.fork long)
    ∙ ap (λ (o : Option ℕ). cond (is_same_fork q at.fork) (Some (max (length (pages_of b at.fork)) (at.block + 1))) o) (long q)
    ∙ sym (count_put b at x q)

long_puts : (end : ℕ) (pages : List NewPage) (a b : Store) → AreAsLong a b → AreAsLong (pages_put end pages a) (pages_put end pages b)
long_puts end [] a b long = long
long_puts end (new ∷ pages) a b long =
    let page = with_lsn end (box_value new.page) in
    long_puts end pages (page_put new.at page a) (page_put new.at page b) (long_put a b new.at page long)

long_done : (end : ℕ) (made : Done) (a b : Store) → AreAsLong a b → AreAsLong (done_at end made a) (done_at end made b)
long_done end (done.Created fork) a b long = λ q.
    count_fork a fork q ∙ ap (λ (o : Option ℕ). cond (is_same_fork q fork) (Some (unwrap_or o 0)) (block_count a q)) (long fork)
    ∙ ap (λ (o : Option ℕ). cond (is_same_fork q fork) (Some (unwrap_or (block_count b fork) 0)) o) (long q) ∙ sym (count_fork b fork q)
long_done end (done.Cut rel count) a b long = λ q.
    let fork = main_fork rel in
    count_cut a fork count q ∙ ap (λ (o : Option ℕ). cond (is_same_fork q fork) (option_map (min count) o) (block_count a q)) (long fork)
    ∙ ap (λ (o : Option ℕ). cond (is_same_fork q fork) (option_map (min count) (block_count b fork)) o) (long q) ∙ sym (count_cut b fork count q)
long_done end (done.Put pages) a b long = long_puts end pages.items a b long
long_done end (done.Dropped rel) a b long = long_gone (without_fork a (main_fork rel)) (without_fork b (main_fork rel)) (init_fork rel) (long_gone a b (main_fork rel) long)

-- ---- what is made

items_alike : (a b : Store) (items : List Item) → ((at : BlockId) → is_named at (map (λ (i : Item). i.at) items) ≡ true → page_at a at ≡ page_at b at) → map (page_of_item a) items ≡ map (page_of_item b) items
items_alike a b [] same = refl
items_alike a b (item ∷ items) same =
    let here = same item.at (ap (λ c. c || is_named item.at (map (λ (i : Item). i.at) items)) (block_self item.at)) in
    ap (λ (page : List ℕ). (item.at, page_of_edit page item.edit) ∷ map (page_of_item a) items) here
    ∙ ap (λ (xs : List (BlockId × List ℕ)). page_of_item b item ∷ xs) (items_alike a b items (λ at named. same at (also (is_same_block at item.at) (is_named at (map (λ (i : Item). i.at) items)) named)))
  where
    also : (s t : Bool) → t ≡ true → (s || t) ≡ true
    also true t e = refl
    also false t e = e

done_alike : (a b : Store) (command : Op) (made : Done) → AreAlikeAt (blocks_of command) a b → IsDoneBy a command made → IsDoneBy b command made
done_alike a b (op.Create fork) made alike is = is
done_alike a b (op.Truncate rel count) made alike is = is
done_alike a b (op.Change items) (done.Created fork) alike is = is
done_alike a b (op.Change items) (done.Cut rel count) alike is = is
done_alike a b (op.Change items) (done.Put pages) alike is = is ∙ items_alike a b items alike.pages
done_alike a b (op.Change items) (done.Dropped rel) alike is = is
done_alike a b (op.Drop rel) made alike is = is

some_is : (o : Option Store) (x y : Store) → o ≡ Some x → o ≡ Some y → x ≡ y
some_is None x y e f = absurd cc
some_is (Some z) x y e f = let both : Some x ≡ Some y = sym e ∙ f in cc

counted_too : (a b : Store) (command : Op) (made : Done) (added gone : ℕ) → HasItems command → judged_op a command ≡ None → judged_op b command ≡ None → IsDoneBy a command made → IsDoneBy b command made → AreAsLong a b → IsCounted a command added gone → IsCounted b command added gone
counted_too a b command made added gone number free_a free_b is_a is_b long counted end next e =
    let on_a = made_same end a command made number free_a (judged-fit a command number free_a) is_a in
    let on_b = made_same end b command made number free_b (judged-fit b command number free_b) is_b in
    let next_is = some_is (apply_act end b (act_of_op command)) next (done_at end made b) e on_b in
    omega (arith, counted end (done_at end made a) on_a, counted_alike a b long, counted_alike (done_at end made a) (done_at end made b) (long_done end made a b long), ap page_count next_is)

pub found_too : (a b : Store) (f : Framed) (room : ℕ) (command : Op) (redo : ℕ) (ready : Ready) → HasItems command → AreAlikeAt (blocks_of command) a b → IsFound a f room command redo ready → IsFound b f room command redo ready
found_too a b f room command redo ready number alike found =
    let taken = commands_alike command a b alike in
    let free = sym taken.judged ∙ found.free in
    let is = done_alike a b command ready.done alike found.done in
    record {
      free = free;
      done = is;
      good = found.good;
      kind = found.kind ∙ taken.kind redo;
      writable = found.writable;
      counted = counted_too a b command ready.done ready.added ready.gone number found.free free found.done is alike.counts found.counted;
      left = found.left;
    }

refused_too : (a b : Store) (command : Op) (fault : OpFault) → AreAlikeAt (blocks_of command) a b → IsRefusedOp a command fault → IsRefusedOp b command fault
refused_too a b command fault.NoFork alike is = sym (commands_alike command a b alike).judged ∙ is
refused_too a b command fault.ForkExists alike is = sym (commands_alike command a b alike).judged ∙ is
refused_too a b command fault.PastEnd alike is = sym (commands_alike command a b alike).judged ∙ is
refused_too a b command fault.NoBlock alike is = sym (commands_alike command a b alike).judged ∙ is
refused_too a b command (fault.BadPage i) alike is = sym (commands_alike command a b alike).judged ∙ is
refused_too a b command (fault.BadFragment i j) alike is = sym (commands_alike command a b alike).judged ∙ is
refused_too a b command fault.ForkFull alike is = sym (commands_alike command a b alike).judged ∙ is
refused_too a b command fault.CutPastEnd alike is = sym (commands_alike command a b alike).judged ∙ is
refused_too a b command (fault.SameBlock i) alike is = sym (commands_alike command a b alike).judged ∙ is
refused_too a b command fault.NoMemory alike is = tt

-- so a command is answered by all pages
pub answered : (own : Store) (old new : Part) (command : Op) (redo : ℕ) (r : Result Ready OpFault) → HasItems command → AreAlikeAt (blocks_of command) own old.frames → new.frames ≡ old.frames
    → IfOk r (IsFound own new.framed new.work_room command redo) → IfErr r (IsRefusedOp own command) → CheckAnswer command redo old new r
answered own old new command redo (Ok ready) number alike same found refused = checked old new command redo ready number same (found_too own old.frames new.framed new.work_room command redo ready number alike found)
answered own old new command redo (Err fault) number alike same found refused = refused_too own old.frames command fault alike refused

-- ---- the pages in frames alone are those of the command's blocks

named_of : (P : BlockId → Type 0) (blocks : List BlockId) (at : BlockId) → All P blocks → is_named at blocks ≡ true → P at
named_of P [] at all named = absurd (true≢false (sym named))
named_of P (block ∷ blocks) at all named = by_test (is_same_block at block)
    (λ here. subst P (sym (block_is at block here)) (all_first P block blocks all))
    (λ apart. named_of P blocks at (all_rest P block blocks all) (sym (ap (λ c. c || is_named at blocks) apart) ∙ named))

held_alike : (behind other : BlockId → List ℕ) (f : Framed) (at : BlockId) → IsSome (get f.held at) → page_over behind f.held at ≡ page_over other f.held at
held_alike behind other f at = by (get f.held at)
  where
    by : (o : Option Held) → IsSome o → unwrap_or (option_map (λ h. h.page) o) (behind at) ≡ unwrap_or (option_map (λ h. h.page) o) (other at)
    by None some = absurd (true≢false (sym some))
    by (Some held) some = refl

pub blocks_alike_at : (behind : BlockId → List ℕ) (f : Framed) (blocks : List BlockId) → All (HasFrame f) blocks → AreAlikeAt blocks (own_pages f) (pages_over behind f)
blocks_alike_at behind f blocks held = record {
  counts = λ fork. count_over (λ _. zero_page) f fork ∙ sym (count_over behind f fork);
  pages = λ at named. either_block f.lengths at
      (λ there. page_there (λ _. zero_page) f at there ∙ held_alike (λ _. zero_page) behind f at (named_of (HasFrame f) blocks at held named there) ∙ sym (page_there behind f at there))
      (λ missing. page_past (λ _. zero_page) f at missing ∙ sym (page_past behind f at missing));
}

-- ---- whole pages stay whole

pub has_whole : (store : Store) → AreWholePages store → HasWholePages store
has_whole store whole fork pages is = all_of pages (λ b page at. whole fork b page (ap (λ (o : Option ForkPages). o >>= λ ps. slice_get ps b) is ∙ at))
  where
    all_of : (pages : ForkPages) → ((b : ℕ) (page : List ℕ) → slice_get pages b ≡ Some page → length page ≡ 8192) → All (λ (page : List ℕ). length page ≡ 8192) pages
    all_of [] each = All-nil (λ (page : List ℕ). length page ≡ 8192)
    all_of (page ∷ pages) each = All-cons (λ (page : List ℕ). length page ≡ 8192) page pages (each 0 page refl) (all_of pages (λ b p at. each (suc b) p at))

are_whole : (store : Store) → HasWholePages store → AreWholePages store
are_whole store has fork b page there = by (get store fork) refl
  where
    one_of : (pages : ForkPages) (b : ℕ) → All (λ (page : List ℕ). length page ≡ 8192) pages → slice_get pages b ≡ Some page → length page ≡ 8192
    one_of [] b all is = absurd cc
    one_of (x ∷ pages) zero all is = let same : x ≡ page = cc in ap (λ (p : List ℕ). length p) (sym same) ∙ all_first (λ (page : List ℕ). length page ≡ 8192) x pages all
    one_of (x ∷ pages) (suc b) all is = one_of pages b (all_rest (λ (page : List ℕ). length page ≡ 8192) x pages all) is

    by : (o : Option ForkPages) → get store fork ≡ o → length page ≡ 8192
    by None e = absurd (let none : None ≡ Some page = sym (ap (λ (o : Option ForkPages). o >>= λ ps. slice_get ps b) e) ∙ there in cc)
    by (Some pages) e = one_of pages b (has fork pages e) (sym (ap (λ (o : Option ForkPages). o >>= λ ps. slice_get ps b) e) ∙ there)

puts_whole : (end : ℕ) (pages : List NewPage) (store : Store) → All (λ (p : NewPage). IsGood (box_value p.page)) pages → HasWholePages store → HasWholePages (pages_put end pages store)
puts_whole end [] store good whole = whole
puts_whole end (new ∷ pages) store good whole =
    let page = with_lsn end (box_value new.page) in
    puts_whole end pages (page_put new.at page store) (all_rest (λ (p : NewPage). IsGood (box_value p.page)) new pages good)
    (put_whole store new.at.fork new.at.block page whole (IsGood-with_lsn end (box_value new.page) (all_first (λ (p : NewPage). IsGood (box_value p.page)) new pages good)).whole)

done_whole : (end : ℕ) (made : Done) (store : Store) → AreGoodPages made → HasWholePages store → HasWholePages (done_at end made store)
done_whole end (done.Created fork) store good whole = made_whole store fork whole
done_whole end (done.Cut rel count) store good whole = cut_leaves_whole store (main_fork rel) count whole
done_whole end (done.Put pages) store good whole = puts_whole end pages.items store good whole
done_whole end (done.Dropped rel) store good whole = gone_whole (without_fork store (main_fork rel)) (init_fork rel) (gone_whole store (main_fork rel) whole)

pub whole_done : (end : ℕ) (made : Done) (store : Store) → AreGoodPages made → AreWholePages store → AreWholePages (done_at end made store)
whole_done end made store good whole = are_whole (done_at end made store) (done_whole end made store good (has_whole store whole))
