-- What an act of one partition alone is on a store, and on the partition's part: it is written alike, and adds as many pages.
use Rattle.std.specs.Prelude.{◌||◌}
use Rattle.std.specs.List.{list_any}
use Rattle.std.proofs.lemmas.Bool.{or_parts}
use Rattle.std.proofs.Common.{◌≡◌, ℕ, ◌+◌, false, List, [], ◌∷◌, map, length, Option, Some, option_map, refl, sym, ap, ◌∙◌, arith}
use Rattle.lsn_core.specs.byte_words.Numbers.{◌>>=◌}
use Rattle.lsn_core.specs.Store.{Store, ForkPages}
use Rattle.lsn_core.specs.declared.ids.ForkId.{ForkId}
use Rattle.lsn_core.specs.Blocks.{pages_of, with_block, page_put, with_fork, with_cut}
use Rattle.wal_record.specs.declared.record.Kind.TheVariants as kind
use Rattle.wal_record.specs.declared.record.BlockRef.{BlockRef}
use Rattle.wal_record.specs.Tips.{is_redo_mark}
use Rattle.history.specs.declared.op.Item.{Item}
use Rattle.history.specs.Entry.{Act, Create, Truncate, Change, Drop, Mark, Shutdown, Online, RedoMark, NoOp, BackupEnd, IdleCut, IdleCommit}
use Rattle.history.specs.Apply.{main_fork, without_rels, page_at, edited, apply_item, apply_items, apply_act}
use Rattle.history.specs.Pages.{page_count}
use Rattle.history.proofs.Counts.{IsMoved, moved_insert, moved_cut, page_count-with_fork}
use Rattle.history.specs.Written.{block_over, block_of_item, kind_of, is_redo}
use Rattle.history.specs.partitions.Parts.{is_item_of, IsPart, ConcernsNoOther}
use Rattle.history.proofs.partitions.Puts.{pages_own, page_own, page_at_own, cut_own}
use Rattle.history.proofs.partitions.Folds.{mapped_some}
use Rattle.history.proofs.partitions.Removed.{rels_count}
use Rattle.history.proofs.partitions.OwnActs.{OfNoOther, own_fork, first_own, others_own, own_done, own_tidy}
use Rattle.journal.specs.Laws.{PartsTellKinds, OwnActsMayComeNext}

blocks_same : (q redo : ℕ) (store part : Store) (items : List Item) → IsPart q store part → OfNoOther q items → map (block_of_item part redo) items ≡ map (block_of_item store redo) items
blocks_same q redo store part [] is none = refl
blocks_same q redo store part (item ∷ items) is none =
    let first : block_of_item part redo item ≡ block_of_item store redo item = ap (block_over redo item) (page_at_own q store part item.at is (first_own q item items none)) in
    let rest = blocks_same q redo store part items is (others_own q item items none) in
    ap (λ (b : BlockRef). b ∷ map (block_of_item part redo) items) first ∙ ap (λ (bs : List BlockRef). block_of_item store redo item ∷ bs) rest

pub kinds_told : PartsTellKinds
kinds_told q redo store part (Create fork) is none = refl
kinds_told q redo store part (Truncate rel count) is none = refl
kinds_told q redo store part (Change items) is none = ap (λ (bs : List BlockRef). kind.Generic bs) (blocks_same q redo store part items is none)
kinds_told q redo store part (Drop rels) is none = refl
kinds_told q redo store part (Mark marking) is none = refl

-- an act starts a checkpoint where what it is written as does
pub redo_same : (store : Store) (redo : ℕ) (act : Act) → is_redo act ≡ is_redo_mark (kind_of store redo act)
redo_same store redo (Create fork) = refl
redo_same store redo (Truncate rel count) = refl
redo_same store redo (Change items) = refl
redo_same store redo (Drop rels) = refl
redo_same store redo (Mark (Shutdown at)) = refl
redo_same store redo (Mark (Online at)) = refl
redo_same store redo (Mark (RedoMark n)) = refl
redo_same store redo (Mark NoOp) = refl
redo_same store redo (Mark (BackupEnd at)) = refl
redo_same store redo (Mark (IdleCut rel count others)) = refl
redo_same store redo (Mark (IdleCommit time)) = refl

-- ---- pages that are added

-- a fork that is changed alike in a store and in its part
alike : (s t u v : Store) (fork : ForkId) → IsMoved s t fork → IsMoved u v fork → pages_of u fork ≡ pages_of s fork → pages_of v fork ≡ pages_of t fork → page_count t + page_count u ≡ page_count s + page_count v
alike s t u v fork one other before after = omega (arith, one, other, ap (λ (ps : ForkPages). length ps) before, ap (λ (ps : ForkPages). length ps) after)

item_done : (end : ℕ) (s t : Store) (item : Item) (page : List ℕ) → page_at t item.at ≡ page_at s item.at → edited end (page_at s item.at) item.edit ≡ Some page → apply_item end t item ≡ Some (page_put item.at page t)
item_done end s t item page same done =
    ap (λ (old : List ℕ). option_map (λ (p : List ℕ). page_put item.at p t) (edited end old item.edit)) same ∙ ap (option_map (λ (p : List ℕ). page_put item.at p t)) done

put_alike : (q : ℕ) (store part : Store) (item : Item) (page : List ℕ) → IsPart q store part → OfNoOther q (item ∷ []) → page_count (page_put item.at page store) + page_count part ≡ page_count store + page_count (page_put item.at page part)
put_alike q store part item page is none =
    let fork : ForkId = item.at.fork in
    let mine = first_own q item [] none in
    alike store (page_put item.at page store) part (page_put item.at page part) fork
    (moved_insert store fork (with_block (pages_of store fork) item.at.block page)) (moved_insert part fork (with_block (pages_of part fork) item.at.block page))
    (pages_own q store part fork is mine) (pages_own q (page_put item.at page store) (page_put item.at page part) fork (page_own q store part item.at page is mine) mine)

alone : (q : ℕ) (item : Item) (items : List Item) → OfNoOther q (item ∷ items) → OfNoOther q (item ∷ [])
alone q item items none other k = ap (λ b. b || false) (or_parts (is_item_of other item) (list_any (is_item_of other) items) (none other k)).0

items_counted : (q end : ℕ) (store part last next : Store) (items : List Item) → IsPart q store part → OfNoOther q items → apply_items end part items ≡ Some next → apply_items end store items ≡ Some last
    → page_count last + page_count part ≡ page_count store + page_count next
items_counted q end store part last next [] is none e f =
    let same : part ≡ next = cc in
    let whole : store ≡ last = cc in
    omega (arith, ap page_count same, ap page_count whole)
items_counted q end store part last next (item ∷ items) is none e f =
    let put = λ (page : List ℕ). page_put item.at page part in
    let mine = first_own q item items none in
    let found = mapped_some put (edited end (page_at part item.at) item.edit) (λ s. apply_items end s items) next e in
    let page : List ℕ = found.0 in
    let more : apply_items end (page_put item.at page store) items ≡ Some last =
    sym (ap (λ (o : Option Store). o >>= λ s. apply_items end s items) (item_done end part store item page (sym (page_at_own q store part item.at is mine)) found.1)) ∙ f in
    let rest = items_counted q end (page_put item.at page store) (put page) last next items (page_own q store part item.at page is mine) (others_own q item items none) found.2 more in
    omega (arith, rest, put_alike q store part item page is (alone q item items none))

own_counted : (q end : ℕ) (store part last next : Store) (act : Act) → IsPart q store part → ConcernsNoOther q act → apply_act end part act ≡ Some next → apply_act end store act ≡ Some last
    → page_count last + page_count part ≡ page_count store + page_count next
own_counted q end store part last next (Create fork) is none e f =
    let same : with_fork part fork ≡ next = cc in
    let whole : with_fork store fork ≡ last = cc in
    omega (arith, ap page_count same, ap page_count whole, page_count-with_fork part fork, page_count-with_fork store fork)
own_counted q end store part last next (Truncate rel count) is none e f =
    let fork : ForkId = main_fork rel in
    let mine = own_fork q fork none in
    let same : with_cut part fork count ≡ next = cc in
    let whole : with_cut store fork count ≡ last = cc in
    let cut = alike store (with_cut store fork count) part (with_cut part fork count) fork (moved_cut store fork count) (moved_cut part fork count) (pages_own q store part fork is mine)
    (pages_own q (with_cut store fork count) (with_cut part fork count) fork (cut_own q store part fork count is mine) mine) in
    omega (arith, ap page_count same, ap page_count whole, cut)
own_counted q end store part last next (Change items) is none e f = items_counted q end store part last next items is none e f
own_counted q end store part last next (Drop rels) is none e f =
    let same : without_rels part rels ≡ next = cc in
    let whole : without_rels store rels ≡ last = cc in
    omega (arith, ap page_count same, ap page_count whole, rels_count q store part rels is none)
own_counted q end store part last next (Mark marking) is none e f =
    let same : part ≡ next = cc in
    let whole : store ≡ last = cc in
    omega (arith, ap page_count same, ap page_count whole)

pub own_comes_next : OwnActsMayComeNext
own_comes_next q redo gone added pages store part act kind is none kind_is tidy fresh good done total = record {
  kind_is = kind_is ∙ kinds_told q redo store part act is none;
  tidy = own_tidy q store part act is none tidy;
  fresh = fresh;
  good = good;
  done = λ end fits.
      let d = done end fits in
      let o = own_done q end store part d.0 act is none d.1 in
      let counted = own_counted q end store part o.0 d.0 act is none d.1 o.1 in
      (o.0, o.1, omega (arith, counted, d.2, total));
}
