-- What is made of a command that nothing refuses is what the command does.
use Rattle.std.proofs.Common.{◌≡◌, ℕ, ◌+◌, ◌<◌, false, cond, List, [], ◌∷◌, ◌++◌, map, get_or, drop, Option, Some, None, option_map, refl, ap, sym, subst, ◌∙◌, box_value}
use Rattle.std.specs.List.{All}
use Rattle.std.proofs.lemmas.List.Elements.{All-nil, All-cons}
use Rattle.lsn_core.specs.Sizes.{most_blocks}
use Rattle.lsn_core.specs.byte_words.Numbers.{◌>>=◌}
use Rattle.lsn_core.specs.declared.ids.BlockId.{BlockId}
use Rattle.lsn_core.specs.Store.{Store}
use Rattle.lsn_core.specs.Blocks.{page_put}
use Rattle.pg_page.specs.Header.{with_lsn}
use Rattle.pg_page.specs.Frags.{patched}
use Rattle.history.specs.declared.op.Op.{Op}
use Rattle.history.specs.declared.op.Op.TheVariants as op
use Rattle.history.specs.declared.op.Edit.{Edit}
use Rattle.history.specs.declared.op.Edit.TheVariants.{Put, Patch}
use Rattle.history.specs.declared.op.Item.{Item}
use Rattle.history.specs.Apply.{page_at, edited, apply_item, apply_items, apply_act}
use Rattle.history.specs.Op.{act_of_op, IsTidy, IsFitEdit, IsFitItem, IsFit}
use Rattle.history.specs.Whole.{is_named}
use Rattle.history.proofs.Names.{not_named}
use Rattle.history.proofs.Pushes.{all_first, all_rest}
use Rattle.history.proofs.Stores.{page_apart}
use Rattle.page_pool.specs.declared.ready.Done.{Done}
use Rattle.page_pool.specs.declared.ready.Done.TheVariants as done
use Rattle.page_pool.specs.declared.ready.NewPage.{NewPage}
use Rattle.page_pool.specs.declared.ready.Ready.{Ready}
use Rattle.page_pool.specs.Part.{Part}
use Rattle.command_judging.specs.Refusals.{judged_blocks, judged_op}
use Rattle.page_pool.specs.Ready.{IsOfOp, IsChecked, pages_put, done_at}
use Rattle.command_judging.specs.Refusals.{HasItems}
use Rattle.page_pool.specs.Room.{blocks_of}
use Rattle.page_pool.specs.Inside.{page_of_edit, page_of_item, seen_page, blocks_done, IsDoneBy, IsFound}
use Rattle.command_judging.proofs.Judged.{formed, blocks_on, judged-tidy, judged-fit}

-- the page that an edit leaves has the LSN set
edit_made : (end : ℕ) (old : List ℕ) (edit : Edit) → IsFitEdit old edit → edited end old edit ≡ Some (with_lsn end (page_of_edit old edit))
unfolding patched
edit_made end old (Put page) fit = refl
edit_made end old (Patch frags) fit = ap (λ t. cond t (Some (patched frags end old)) None) fit.1

-- a block that no item named has the page of the first store
abbrev Stays : Store → Store → List BlockId → Type 0
Stays first store named = (q : BlockId) → is_named q named ≡ false → page_at store q ≡ page_at first q

stays_put : (first store : Store) (named : List BlockId) (at : BlockId) (page : List ℕ) → Stays first store named → Stays first (page_put at page store) (named ++ (at ∷ []))
stays_put first store named at page stays q n =
    let parts = not_named q at named n in
    page_apart store at q page parts.1 ∙ stays q parts.0

item_made : (end : ℕ) (first store : Store) (item : Item) (new : NewPage) → page_at store item.at ≡ page_at first item.at → IsFitItem first item → seen_page new ≡ page_of_item first item
    → apply_item end store item ≡ Some (page_put new.at (with_lsn end (box_value new.page)) store)
item_made end first store item new same fit seen =
    let at : new.at ≡ item.at = ap (λ x. x.0) seen in
    let page : box_value new.page ≡ page_of_edit (page_at first item.at) item.edit = ap (λ x. x.1) seen in
    ap (λ (p : List ℕ). option_map (λ page. page_put item.at page store) (edited end p item.edit)) same
    ∙ ap (option_map (λ page. page_put item.at page store)) (edit_made end (page_at first item.at) item.edit fit.edit)
    ∙ sym (ap (λ (a : BlockId). Some (page_put a (with_lsn end (box_value new.page)) store)) at ∙ ap (λ (p : List ℕ). Some (page_put item.at (with_lsn end p) store)) page)

items_made : (end i : ℕ) (first store : Store) (named : List BlockId) (items : List Item) (pages : List NewPage) → Stays first store named → judged_blocks i named items ≡ None → All (IsFitItem first) items → map seen_page pages ≡ map (page_of_item first) items
    → apply_items end store items ≡ Some (pages_put end pages store)
items_made end i first store named [] [] stays blocks fit seen = refl
items_made end i first store named [] (new ∷ pages) stays blocks fit seen = absurd cc
items_made end i first store named (item ∷ items) [] stays blocks fit seen = absurd cc
items_made end i first store named (item ∷ items) (new ∷ pages) stays blocks fit seen =
    let block = blocks_on i named item items blocks in
    let one : seen_page new ≡ page_of_item first item = ap (λ xs. get_or xs 0 (seen_page new)) seen in
    let more : map seen_page pages ≡ map (page_of_item first) items = ap (drop 1) seen in
    let next = page_put new.at (with_lsn end (box_value new.page)) store in
    let named_so : named ++ (new.at ∷ []) ≡ named ++ (item.at ∷ []) = ap (λ (a : BlockId). named ++ (a ∷ [])) (ap (λ x. x.0) one) in
    ap (λ (o : Option Store). o >>= λ n. apply_items end n items) (item_made end first store item new (stays item.at block.0) (all_first (IsFitItem first) item items fit) one)
    ∙ items_made end (i + 1) first next (named ++ (item.at ∷ [])) items pages
    (subst (Stays first next) named_so (stays_put first store named new.at (with_lsn end (box_value new.page)) stays))
    block.1 (all_rest (IsFitItem first) item items fit) more

-- what was made is what the command does
pub made_same : (end : ℕ) (store : Store) (command : Op) (made : Done) → HasItems command → judged_op store command ≡ None → IsFit store command → IsDoneBy store command made → apply_act end store (act_of_op command) ≡ Some (done_at end made store)
made_same end store (op.Create fork) made number free fit is = sym (ap (λ (d : Done). Some (done_at end d store)) is)
made_same end store (op.Truncate rel count) made number free fit is = sym (ap (λ (d : Done). Some (done_at end d store)) is)
made_same end store (op.Change items) (done.Created fork) number free fit is = absurd is
made_same end store (op.Change items) (done.Cut rel count) number free fit is = absurd is
made_same end store (op.Change items) (done.Dropped rel) number free fit is = absurd is
made_same end store (op.Drop rel) made number free fit is = sym (ap (λ (d : Done). Some (done_at end d store)) is)
made_same end store (op.Change items) (done.Put pages) number free fit is =
    items_made end 0 store store [] items pages.items (λ q n. refl) (formed store items number free).0.blocks fit.each is

ats_of : (store : Store) (items : List Item) (pages : List NewPage) → map seen_page pages ≡ map (page_of_item store) items → map (λ (i : Item). i.at) items ≡ map (λ (p : NewPage). p.at) pages
ats_of store [] [] e = refl
ats_of store [] (new ∷ pages) e = absurd cc
ats_of store (item ∷ items) [] e = absurd cc
ats_of store (item ∷ items) (new ∷ pages) e =
    let one : seen_page new ≡ page_of_item store item = ap (λ xs. get_or xs 0 (seen_page new)) e in
    ap (λ (a : BlockId). a ∷ map (λ (i : Item). i.at) items) (sym (ap (λ x. x.0) one)) ∙ ap (λ (xs : List BlockId). new.at ∷ xs) (ats_of store items pages (ap (drop 1) e))

pub made_named : (store : Store) (command : Op) (made : Done) → IsDoneBy store command made → IsOfOp command made
made_named store (op.Create fork) made is = is
made_named store (op.Truncate rel count) made is = is
made_named store (op.Change items) (done.Created fork) is = is
made_named store (op.Change items) (done.Cut rel count) is = is
made_named store (op.Change items) (done.Dropped rel) is = is
made_named store (op.Drop rel) made is = is
made_named store (op.Change items) (done.Put pages) is = ats_of store items pages.items is

-- pages are put at the blocks that the command names
pub made_blocks : (store : Store) (command : Op) (made : Done) → IsDoneBy store command made → blocks_done made ≡ blocks_of command
made_blocks store (op.Create fork) made is = ap blocks_done is
made_blocks store (op.Truncate rel count) made is = ap blocks_done is
made_blocks store (op.Change items) (done.Created fork) is = absurd is
made_blocks store (op.Change items) (done.Cut rel count) is = absurd is
made_blocks store (op.Change items) (done.Dropped rel) is = absurd is
made_blocks store (op.Drop rel) made is = ap blocks_done is
made_blocks store (op.Change items) (done.Put pages) is = sym (ats_of store items pages.items is)

-- none of them past what a fork may have
fit_narrow : (store : Store) (items : List Item) → All (IsFitItem store) items → All (λ (at : BlockId). at.block < most_blocks) (map (λ (i : Item). i.at) items)
fit_narrow store [] fit = All-nil (λ (at : BlockId). at.block < most_blocks)
fit_narrow store (item ∷ items) fit =
    All-cons (λ (at : BlockId). at.block < most_blocks) item.at (map (λ (i : Item). i.at) items) (all_first (IsFitItem store) item items fit).number (fit_narrow store items (all_rest (IsFitItem store) item items fit))

named_narrow : (store : Store) (command : Op) → IsFit store command → All (λ (at : BlockId). at.block < most_blocks) (blocks_of command)
named_narrow store (op.Create fork) fit = All-nil (λ (at : BlockId). at.block < most_blocks)
named_narrow store (op.Truncate rel count) fit = All-nil (λ (at : BlockId). at.block < most_blocks)
named_narrow store (op.Change items) fit = fit_narrow store items fit.each
named_narrow store (op.Drop rel) fit = All-nil (λ (at : BlockId). at.block < most_blocks)

pub made_narrow : (store : Store) (command : Op) (made : Done) → HasItems command → judged_op store command ≡ None → IsDoneBy store command made → All (λ (at : BlockId). at.block < most_blocks) (blocks_done made)
made_narrow store command made number free is = subst (All (λ (at : BlockId). at.block < most_blocks)) (sym (made_blocks store command made is)) (named_narrow store command (judged-fit store command number free))

-- so it was checked
pub checked : (old new : Part) (command : Op) (redo : ℕ) (ready : Ready) → HasItems command → new.frames ≡ old.frames → IsFound old.frames new.framed new.work_room command redo ready → IsChecked old new command redo ready
checked old new command redo ready number same found = record {
  taken = found.free;
  prepared = record {
    tidy = subst (λ (s : Store). IsTidy s (act_of_op command)) (sym same) (judged-tidy old.frames command found.free);
    same = λ end fits. subst (λ (s : Store). apply_act end s (act_of_op command) ≡ Some (done_at end ready.done s)) (sym same) (made_same end old.frames command ready.done number found.free (judged-fit old.frames command number found.free) found.done);
    named = made_named old.frames command ready.done found.done;
    good = found.good;
    room = found.left;
  };
  kind = found.kind;
  writable = found.writable;
  counted = found.counted;
}
