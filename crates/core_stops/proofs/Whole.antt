-- Whole pages stay whole, whatever an act does.
use Rattle.std.proofs.Common.{◌≡◌, arith, ℕ, zero, suc, cond, List, [], ◌∷◌, length, Option, None, Some, unwrap_or, refl, sym, ap, subst, ◌∙◌}
use Rattle.std.specs.Prelude.{slice_get}
use Rattle.std.specs.List.{All}
use Rattle.std.specs.FinMap.{get}
use Rattle.lsn_core.specs.byte_words.Numbers.{◌>>=◌}
use Rattle.lsn_core.specs.Relation.{Relation}
use Rattle.lsn_core.specs.declared.ids.ForkId.{ForkId}
use Rattle.lsn_core.specs.Store.{Store, ForkPages}
use Rattle.lsn_core.specs.Blocks.{block_of, page_put, with_fork, with_cut, without_fork}
use Rattle.pg_page.specs.Header.{hole_zeroed, with_lsn}
use Rattle.pg_page.specs.Frags.{written_frags, patched, is_good}
use Rattle.pg_page.proofs.HeaderLaws.{IsGood-with_lsn, IsGood-hole_zeroed}
use Rattle.pg_page.proofs.PatchLaws.{IsGood-patched}
use Rattle.rel_files.specs.Forks.{AreHeld, HasHeldPages, HasWholePages}
use Rattle.rel_files.proofs.WholePages.{put_whole, made_whole, cut_leaves_whole, gone_whole}
use Rattle.history.specs.declared.op.Edit.{Edit}
use Rattle.history.specs.declared.op.Edit.TheVariants.{Put, Patch}
use Rattle.history.specs.declared.op.Item.{Item}
use Rattle.history.specs.Entry.{Act, Create, Truncate, Change, Drop, Mark}
use Rattle.history.specs.Apply.{edited, main_fork, init_fork, page_at, without_rels, without_rel, item_by, items_by, apply_act}
use Rattle.history.specs.Laws.{HasGoodPage, HaveGoodPages, HasGoodPages}
use Rattle.history.proofs.Stores.{by_test}
use Rattle.history.proofs.Pushes.{all_first, all_rest}
use Rattle.history.proofs.fuzzy_copies.View.{middle, mapped}
use Rattle.store_core.specs.declared.step.Work.{Work}
use Rattle.store_core.specs.declared.step.Work.TheVariants.{Make, Cut, Remove}
use Rattle.store_core.specs.Parts.{work_done}

one_page : (a b : List ℕ) → Some a ≡ Some b → a ≡ b
one_page a b e = cc

one_store : (a b : Store) → Some a ≡ Some b → a ≡ b
one_store a b e = cc

edit_whole : (end : ℕ) (old page : List ℕ) (edit : Edit) → HasGoodPage edit → edited end old edit ≡ Some page → length page ≡ 8192
edit_whole end old page (Put new) good e =
    ap (λ (p : List ℕ). length p) (sym (one_page (with_lsn end (hole_zeroed new)) page e)) ∙ (IsGood-with_lsn end (hole_zeroed new) (IsGood-hole_zeroed new good)).whole
edit_whole end old page (Patch frags) good e =
    by_test (is_good (written_frags frags old))
    (λ fine.
    let same = one_page (patched frags end old) page (sym (ap (λ b. cond b (Some (patched frags end old)) None) fine) ∙ e) in
    ap (λ (p : List ℕ). length p) (sym same) ∙ (IsGood-patched frags end old fine).whole)
    (λ bad. absurd (none_some page (sym (ap (λ b. cond b (Some (patched frags end old)) None) bad) ∙ e)))
  where
    none_some : (p : List ℕ) → None ≡ Some p → ⊥
    none_some p k = absurd cc

items_whole : (end : ℕ) (store next : Store) (items : List Item) → HaveGoodPages items → HasWholePages store → items_by edited end store items ≡ Some next → HasWholePages next
items_whole end store next [] good whole e = subst HasWholePages (one_store store next e) whole
items_whole end store next (item ∷ items) good whole e =
    middle (item_by edited end store item) (λ s. items_by edited end s items) next e (λ mid first rest.
    items_whole end mid next items good.1
    (mapped (edited end (page_at store item.at) item.edit) (λ page. page_put item.at page store) mid first (λ page is same.
    subst HasWholePages same (put_whole store item.at.fork item.at.block page whole (edit_whole end (page_at store item.at) page item.edit good.0 is))))
    rest)

rels_whole : (store : Store) (rels : List Relation) → HasWholePages store → HasWholePages (without_rels store rels)
rels_whole store [] whole = whole
rels_whole store (rel ∷ rels) whole = rels_whole (without_rel store rel) rels (gone_whole (without_fork store (main_fork rel)) (init_fork rel) (gone_whole store (main_fork rel) whole))

pub act_whole : (end : ℕ) (store next : Store) (act : Act) → HasGoodPages act → HasWholePages store → apply_act end store act ≡ Some next → HasWholePages next
act_whole end store next (Create fork) good whole e = subst HasWholePages (one_store (with_fork store fork) next e) (made_whole store fork whole)
act_whole end store next (Truncate rel count) good whole e = subst HasWholePages (one_store (with_cut store (main_fork rel) count) next e) (cut_leaves_whole store (main_fork rel) count whole)
act_whole end store next (Change items) good whole e = items_whole end store next items good whole e
act_whole end store next (Drop rels) good whole e = subst HasWholePages (one_store (without_rels store rels) next e) (rels_whole store rels whole)
act_whole end store next (Mark marking) good whole e = subst HasWholePages (one_store store next e) whole

-- where it can't be done, nothing changes
pub after_act_whole : (end : ℕ) (store : Store) (act : Act) → HasGoodPages act → HasWholePages store → HasWholePages (unwrap_or (apply_act end store act) store)
after_act_whole end store act good whole = by (apply_act end store act) (λ next e. act_whole end store next act good whole e)
  where
    by : (o : Option Store) → ((next : Store) → o ≡ Some next → HasWholePages next) → HasWholePages (unwrap_or o store)
    by None each = whole
    by (Some next) each = each next refl

-- ---- works on a disk

pub work_whole : (work : Work) (disk : Store) → HasWholePages disk → HasWholePages (work_done work disk)
work_whole (Make fork) disk whole = made_whole disk fork whole
work_whole (Cut fork count) disk whole = cut_leaves_whole disk fork count whole
work_whole (Remove fork) disk whole = gone_whole disk fork whole

-- pages as files hold them
pub are_held : (pages : ForkPages) → All (λ page. length page ≡ 8192) pages → AreHeld pages
are_held [] all = tt
are_held (page ∷ []) all = let size = all_first (λ (p : List ℕ). length p ≡ 8192) page [] all in omega (arith, size)
are_held (page ∷ (next ∷ pages)) all =
    (all_first (λ (p : List ℕ). length p ≡ 8192) page (next ∷ pages) all, are_held (next ∷ pages) (all_rest (λ (p : List ℕ). length p ≡ 8192) page (next ∷ pages) all))

pub whole_held : (store : Store) → HasWholePages store → HasHeldPages store
whole_held store whole fork pages is = are_held pages (whole fork pages is)

-- the size of a page that is there
pub page_size : (store : Store) (fork : ForkId) (block : ℕ) (page : List ℕ) → HasWholePages store → block_of store fork block ≡ Some page → length page ≡ 8192
page_size store fork block page whole there = by (get store fork) refl
  where
    one_of : (pages : ForkPages) (b : ℕ) → All (λ (p : List ℕ). length p ≡ 8192) pages → slice_get pages b ≡ Some page → length page ≡ 8192
    one_of [] b all is = absurd cc
    one_of (x ∷ pages) zero all is = let same : x ≡ page = cc in ap (λ (p : List ℕ). length p) (sym same) ∙ all_first (λ (p : List ℕ). length p ≡ 8192) x pages all
    one_of (x ∷ pages) (suc b) all is = one_of pages b (all_rest (λ (p : List ℕ). length p ≡ 8192) x pages all) is

    by : (o : Option ForkPages) → get store fork ≡ o → length page ≡ 8192
    by None e = absurd (let none : None ≡ Some page = sym (ap (λ (o : Option ForkPages). o >>= λ ps. slice_get ps block) e) ∙ there in cc)
    by (Some pages) e = one_of pages block (whole fork pages e) (sym (ap (λ (o : Option ForkPages). o >>= λ ps. slice_get ps block) e) ∙ there)
