-- A command of one partition alone, on the part and on the whole store.
use Rattle.std.proofs.Common.{◌≡◌, ℕ, ◌+◌, ◌||◌, true, false, cond, List, [], ◌∷◌, Option, Some, None, option_map, unwrap_or, is_some, length, refl, ap, sym, subst, ◌∙◌, arith}
use Rattle.std.specs.Option.{option_or}
use Rattle.std.specs.FinMap.{get}
use Rattle.std.proofs.lemmas.Bool.{or_parts}
use Rattle.lsn_core.specs.byte_words.Numbers.{◌>>=◌}
use Rattle.lsn_core.specs.declared.ids.ForkId.{ForkId}
use Rattle.lsn_core.specs.Store.{Store, ForkPages}
use Rattle.lsn_core.specs.Blocks.{pages_of, with_block, page_put, with_fork, with_cut}
use Rattle.history.specs.declared.op.Op.TheVariants as op
use Rattle.history.specs.declared.op.Item.{Item}
use Rattle.history.specs.Entry.{Create, Truncate, Change, Drop, Mark}
use Rattle.history.specs.Apply.{main_fork, init_fork, without_rels, page_at, edited, apply_item, apply_items}
use Rattle.history.specs.Pages.{page_count}
use Rattle.history.proofs.Counts.{IsMoved, moved_insert, moved_cut, page_count-with_fork}
use Rattle.history.specs.partitions.Parts.{is_of, is_rel_of, IsPart}
use Rattle.history.proofs.partitions.Puts.{own, pages_own, page_own, page_at_own, cut_own}
use Rattle.history.proofs.partitions.Folds.{mapped_some}
use Rattle.history.proofs.partitions.Removed.{rels_count}
use Rattle.history.proofs.partitions.OwnActs.{own_fork, OfNoOther, first_own, others_own}
use Rattle.command_judging.specs.declared.fault.OpFault.{OpFault}
use Rattle.command_judging.specs.declared.fault.OpFault.TheVariants.{ForkExists, NoFork}
use Rattle.command_judging.specs.Refusals.{judged_blocks, judged_edits, judged_found, behind_item, judged_items, judged_cut}
use Rattle.page_pool.specs.Laws.{PartsJudgeAlike, PartsCountAlike}

-- ---- how it is judged

-- behind an item of the part the part is still the store's
behind_own : (q : ℕ) (store part : Store) (item : Item) → IsPart q store part → is_of q item.at.fork ≡ true → IsPart q (behind_item store item) (behind_item part item)
behind_own q store part item is mine =
    let put_in = λ (s : Store) (o : Option (List ℕ)). unwrap_or (option_map (λ (page : List ℕ). page_put item.at page s) o) s in
    subst (λ (old : List ℕ). IsPart q (behind_item store item) (put_in part (edited 0 old item.edit))) (sym (page_at_own q store part item.at is mine)) (go (edited 0 (page_at store item.at) item.edit))
  where
    go : (o : Option (List ℕ)) → IsPart q (unwrap_or (option_map (λ (page : List ℕ). page_put item.at page store) o) store) (unwrap_or (option_map (λ (page : List ℕ). page_put item.at page part) o) part)
    go None = is
    go (Some page) = page_own q store part item.at page is mine

items_alike : (q i : ℕ) (store part : Store) (items : List Item) → IsPart q store part → OfNoOther q items → judged_items i part items ≡ judged_items i store items
items_alike q i store part [] is none = refl
items_alike q i store part (item ∷ items) is none =
    let mine = first_own q item items none in
    ap (λ (o : Option ForkPages). option_or (judged_found i item o) (judged_items (i + 1) (behind_item part item) items)) (own q store part item.at.fork is mine)
    ∙ ap (option_or (judged_found i item (get store item.at.fork))) (items_alike q (i + 1) (behind_item store item) (behind_item part item) items (behind_own q store part item is mine) (others_own q item items none))

pub judged_alike : PartsJudgeAlike
judged_alike q store part (op.Create fork) is none = ap (λ (o : Option ForkPages). cond (is_some o) (Some ForkExists) None) (own q store part fork is (own_fork q fork none))
judged_alike q store part (op.Truncate rel count) is none = ap (judged_cut count) (own q store part (main_fork rel) is (own_fork q (main_fork rel) none))
judged_alike q store part (op.Drop rel) is none =
    let mine = own_fork q (main_fork rel) (λ other k. (or_parts (is_rel_of other rel) false (none other k)).0) in
    ap (λ (o : Option ForkPages). cond (is_some o || is_some (get part (init_fork rel))) None (Some NoFork)) (own q store part (main_fork rel) is mine)
    ∙ ap (λ (o : Option ForkPages). cond (is_some (get store (main_fork rel)) || is_some o) None (Some NoFork)) (own q store part (init_fork rel) is mine)
judged_alike q store part (op.Change items) is none = ap (λ (r : Option OpFault). option_or (judged_blocks 0 [] items) (option_or (judged_edits 0 items) r)) (items_alike q 0 store part items is none)

-- ---- how it counts

-- a fork of the part that has other pages in both
moved_alike : (q : ℕ) (store part next last : Store) (fork : ForkId) → IsPart q store part → IsPart q last next → is_of q fork ≡ true → IsMoved part next fork → IsMoved store last fork → page_count last + page_count part ≡ page_count store + page_count next
moved_alike q store part next last fork is after mine moved_part moved_store =
    omega (arith, moved_part, moved_store, ap length (pages_own q store part fork is mine), ap length (pages_own q last next fork after mine))

items_count : (q end : ℕ) (store part next last : Store) (items : List Item) → IsPart q store part → OfNoOther q items → apply_items end part items ≡ Some next → apply_items end store items ≡ Some last → page_count last + page_count part ≡ page_count store + page_count next
items_count q end store part next last [] is none e f =
    let same_part : part ≡ next = cc in
    let same_store : store ≡ last = cc in
    omega (arith, ap page_count same_part, ap page_count same_store)
items_count q end store part next last (item ∷ items) is none e f =
    let mine = first_own q item items none in
    let at = item.at in
    let put = λ (page : List ℕ). page_put at page part in
    let found = mapped_some put (edited end (page_at part at) item.edit) (λ s. apply_items end s items) next e in
    let page = found.0 in
    let wider = page_put at page store in
    let one : apply_item end store item ≡ Some wider =
    ap (λ (old : List ℕ). option_map (λ (p : List ℕ). page_put at p store) (edited end old item.edit)) (sym (page_at_own q store part at is mine)) ∙ ap (option_map (λ (p : List ℕ). page_put at p store)) found.1 in
    let after = page_own q store part at page is mine in
    let first = moved_alike q store part (put page) wider at.fork is after mine (moved_insert part at.fork (with_block (pages_of part at.fork) at.block page)) (moved_insert store at.fork (with_block (pages_of store at.fork) at.block page)) in
    let rest = items_count q end wider (put page) next last items after (others_own q item items none) found.2 (sym (ap (λ (o : Option Store). o >>= λ s. apply_items end s items) one) ∙ f) in
    omega (arith, first, rest)

pub counted_alike : PartsCountAlike
counted_alike q end store part next last (Create fork) is none e f =
    let made_part : with_fork part fork ≡ next = cc in
    let made_store : with_fork store fork ≡ last = cc in
    omega (arith, sym (page_count-with_fork part fork) ∙ ap page_count made_part, sym (page_count-with_fork store fork) ∙ ap page_count made_store)
counted_alike q end store part next last (Truncate rel count) is none e f =
    let fork = main_fork rel in
    let mine = own_fork q fork none in
    let cut_part : with_cut part fork count ≡ next = cc in
    let cut_store : with_cut store fork count ≡ last = cc in
    subst (λ (s : Store). page_count s + page_count part ≡ page_count store + page_count next) cut_store
    (subst (λ (p : Store). page_count (with_cut store fork count) + page_count part ≡ page_count store + page_count p) cut_part
    (moved_alike q store part (with_cut part fork count) (with_cut store fork count) fork is (cut_own q store part fork count is mine) mine (moved_cut part fork count) (moved_cut store fork count)))
counted_alike q end store part next last (Drop rels) is none e f =
    let done_part : without_rels part rels ≡ next = cc in
    let done_store : without_rels store rels ≡ last = cc in
    subst (λ (s : Store). page_count s + page_count part ≡ page_count store + page_count next) done_store
    (subst (λ (p : Store). page_count (without_rels store rels) + page_count part ≡ page_count store + page_count p) done_part (rels_count q store part rels is none))
counted_alike q end store part next last (Change items) is none e f = items_count q end store part next last items is none e f
counted_alike q end store part next last (Mark marking) is none e f =
    let same_part : part ≡ next = cc in
    let same_store : store ≡ last = cc in
    omega (arith, ap page_count same_part, ap page_count same_store)
