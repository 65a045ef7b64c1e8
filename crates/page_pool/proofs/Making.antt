-- New pages, and the blocks that they are written as.
use Rattle.std.proofs.Common.{◌≡◌, ℕ, ◌+◌, ◌<◌, true, cond, List, [], ◌∷◌, ◌++◌, map, take, length, get_or, ap, sym, subst, ◌∙◌}
use Rattle.std.specs.Prelude.{nat_le}
use Rattle.lsn_core.specs.Store.{Store}
use Rattle.pg_page.specs.Header.{IsGood, lsn_of, hole_zeroed, with_lsn}
use Rattle.pg_page.specs.Frags.{Fragment, written_frags, patched}
use Rattle.pg_page.proofs.HeaderLaws.{IsGood-hole_zeroed, hole_zeroed-hole_zeroed, IsGood-with_lsn}
use Rattle.pg_page.proofs.PatchLaws.{hole_zeroed-with_lsn}
use Rattle.wal_record.specs.declared.record.BlockRef.{BlockRef}
use Rattle.wal_record.specs.declared.record.Body.TheVariants.{Image, Delta}
use Rattle.history.specs.declared.op.Edit.{Edit}
use Rattle.history.specs.declared.op.Edit.TheVariants.{Patch}
use Rattle.history.specs.declared.op.Item.{Item}
use Rattle.history.specs.Written.{body_of, block_of_item}
use Rattle.history.proofs.Pushes.{map-push, map_more}
use Rattle.page_pool.specs.declared.ready.NewPage.{NewPage}
use Rattle.page_pool.specs.Inside.{page_of_edit, page_of_item, seen_page}

-- a page with zeros in its hole can be written, also with another LSN
pub zeroed_page : (p q : List ℕ) → IsGood p → q ≡ hole_zeroed p → IsGood q × (hole_zeroed q ≡ q)
zeroed_page p q good e = subst (λ (x : List ℕ). IsGood x × (hole_zeroed x ≡ x)) (sym e) (IsGood-hole_zeroed p good, hole_zeroed-hole_zeroed p good)

pub page_with_lsn : (at : ℕ) (p q : List ℕ) → IsGood p × (hole_zeroed p ≡ p) → q ≡ with_lsn at p → IsGood q × (hole_zeroed q ≡ q)
page_with_lsn at p q w e =
    subst (λ (x : List ℕ). IsGood x × (hole_zeroed x ≡ x)) (sym e) (IsGood-with_lsn at p w.0, hole_zeroed-with_lsn at p w.0 ∙ ap (with_lsn at) w.1)

-- the image of a patch is the page that it leaves, with the LSN from before it
image_of_patch : (redo lsn : ℕ) (old page image : List ℕ) (frags : List Fragment) → page ≡ hole_zeroed (written_frags frags old) → lsn ≡ lsn_of old → image ≡ with_lsn lsn page → true ≡ nat_le lsn redo → Image image ≡ body_of redo old (Patch frags)
unfolding patched
image_of_patch redo lsn old page image frags page_is lsn_is image_is needed =
    ap (λ (p : List ℕ). Image p) (image_is ∙ (ap (with_lsn lsn) page_is ∙ ap (λ (n : ℕ). with_lsn n (hole_zeroed (written_frags frags old))) lsn_is))
    ∙ ap (λ t. cond t (Image (patched frags (lsn_of old) old)) (Delta frags)) (needed ∙ ap (λ (n : ℕ). nat_le n redo) lsn_is)

pub patch_body : (redo lsn : ℕ) (old page image : List ℕ) (edit : Edit) (frags : List Fragment) → edit ≡ Patch frags → page ≡ page_of_edit old edit → lsn ≡ lsn_of old → image ≡ with_lsn lsn page → true ≡ nat_le lsn redo → Image image ≡ body_of redo old edit
patch_body redo lsn old page image edit frags is page_is lsn_is image_is needed =
    image_of_patch redo lsn old page image frags (page_is ∙ ap (page_of_edit old) is) lsn_is image_is needed ∙ sym (ap (body_of redo old) is)

-- one item more
pub pages_more : (store : Store) (items : List Item) (i : ℕ) (item : Item) (pages more : List NewPage) (new : NewPage) → i < length items → item ≡ get_or items i item → map seen_page pages ≡ map (page_of_item store) (take i items) → more ≡ pages ++ (new ∷ []) → seen_page new ≡ page_of_item store item
    → map seen_page more ≡ map (page_of_item store) (take (i + 1) items)
pages_more store items i item pages more new lt is before pushed seen =
    ap (map seen_page) pushed ∙ map-push seen_page pages new ∙ ap (λ xs. xs ++ (seen_page new ∷ [])) before
    ∙ ap (λ x. map (page_of_item store) (take i items) ++ (x ∷ [])) seen ∙ sym (map_more (page_of_item store) items i item lt is)

pub blocks_more : (store : Store) (redo : ℕ) (items : List Item) (i : ℕ) (item : Item) (blocks more : List BlockRef) (new : BlockRef) → i < length items → item ≡ get_or items i item → blocks ≡ map (block_of_item store redo) (take i items) → more ≡ blocks ++ (new ∷ []) → new ≡ block_of_item store redo item
    → more ≡ map (block_of_item store redo) (take (i + 1) items)
blocks_more store redo items i item blocks more new lt is before pushed made =
    pushed ∙ ap (λ xs. xs ++ (new ∷ [])) before ∙ ap (λ x. map (block_of_item store redo) (take i items) ++ (x ∷ [])) made ∙ sym (map_more (block_of_item store redo) items i item lt is)
