-- What a history is written as says what the history does.
use Rattle.std.proofs.Common.{◌≡◌, ℕ, ◌*◌, ◌/◌, ◌%◌, ◌<◌, ◌≤◌, Bool, true, false, cond, List, [], ◌∷◌, ◌++◌, map, filter, nat_le, Option, Some, None, option_map, unwrap_or, refl, ap, sym, subst, ◌∙◌, arith, true≢false, ⊎_elim}
use Rattle.std.specs.Prelude.{◌&&◌}
use Rattle.std.proofs.lemmas.Bool.Decides.{leb_tells, eqb_tells}
use Rattle.lsn_core.specs.byte_words.Numbers.{◌>>=◌}
use Rattle.lsn_core.proofs.byte_words.Fields.{bind_some}
use Rattle.lsn_core.specs.Relation.{Relation}
use Rattle.lsn_core.specs.declared.ids.BlockId.{BlockId}
use Rattle.lsn_core.specs.Store.{Store}
use Rattle.lsn_core.specs.Blocks.{page_put, with_fork, with_cut}
use Rattle.std.specs.List.{All}
use Rattle.wal_record.specs.Spelling.{IsWritableBody, IsWritableBlock}
use Rattle.pg_page.specs.Header.{lsn_of, hole_zeroed, with_lsn}
use Rattle.pg_page.specs.Frags.{Fragment, written_frags, patched, is_good}
use Rattle.pg_page.proofs.HeaderLaws.{hole_zeroed-hole_zeroed}
use Rattle.pg_page.proofs.PatchLaws.{patched_zeroed, patched_again}
use Rattle.wal_record.specs.declared.record.Record.{Record}
use Rattle.wal_record.specs.declared.record.Body.TheVariants.{Image, Delta}
use Rattle.history.specs.declared.op.Edit.{Edit}
use Rattle.history.specs.declared.op.Edit.TheVariants.{Put, Patch}
use Rattle.history.specs.declared.op.Item.{Item}
use Rattle.history.specs.Entry.{Shutdown, Online, RedoMark, NoOp, BackupEnd, IdleCut, IdleCommit, Act, Create, Truncate, Change, Drop, Mark, Entry, is_of_run}
use Rattle.history.specs.Apply.{edited, main_fork, without_rel, page_at, apply_items, apply_act, apply, apply_all}
use Rattle.history.specs.Whole.{edit_of, item_of, is_named, is_patch, is_repeat, said_behind, cuts_main, act_of, entry_of}
use Rattle.history.specs.Written.{body_of, block_of_item, kind_of, Before, behind, next_record, written}
use Rattle.history.specs.Laws.{AreFresh, IsFresh, HasGoodPage, HaveGoodPages, HasGoodPages, AreWrittenInPlace, replayed_up_to, WrittenIsApplied, FitCommandsAreDone, CommandsAreSaid}
use Rattle.history.specs.declared.op.Op.TheVariants as op
use Rattle.history.specs.Op.{IsFitEdit, IsFitItem}
use Rattle.history.proofs.Pushes.{all_first, all_rest}
use Rattle.history.proofs.Stores.{page_apart}
use Rattle.history.proofs.Names.{not_named}

-- the image of a patch gives the page that the patch gives
image_again : (frags : List Fragment) (end lsn : ℕ) (old out : List ℕ) (t : Bool) → is_good (written_frags frags old) ≡ t → cond t (Some (patched frags end old)) None ≡ Some out → Some (with_lsn end (hole_zeroed (patched frags lsn old))) ≡ Some out
image_again frags end lsn old out true good e = ap (λ (p : List ℕ). Some (with_lsn end p)) (patched_zeroed frags lsn old good) ∙ ap (λ (p : List ℕ). Some p) (patched_again frags lsn end old) ∙ e
image_again frags end lsn old out false good e = absurd cc

by_rule : (frags : List Fragment) (end : ℕ) (old out : List ℕ) (t : Bool) → edited end old (Patch frags) ≡ Some out → edited end old (edit_of (cond t (Image (patched frags (lsn_of old) old)) (Delta frags))) ≡ Some out
by_rule frags end old out true e = image_again frags end (lsn_of old) old out (is_good (written_frags frags old)) refl e
by_rule frags end old out false e = e

-- the pages that are put keep their bytes where their hole is zeroed again
abbrev Settles : Edit → Type 0
Settles (Put page) = hole_zeroed (hole_zeroed page) ≡ hole_zeroed page
Settles (Patch frags) = Unit

abbrev AllSettle : List Item → Type 0
AllSettle [] = Unit
AllSettle (item ∷ items) = Settles item.edit × AllSettle items

good_settles : (edit : Edit) → HasGoodPage edit → Settles edit
good_settles (Put page) good = hole_zeroed-hole_zeroed page good
good_settles (Patch frags) good = tt

good_settle : (items : List Item) → HaveGoodPages items → AllSettle items
good_settle [] good = tt
good_settle (item ∷ items) good = (good_settles item.edit good.0, good_settle items good.1)

writable_settles : (redo : ℕ) (old : List ℕ) (edit : Edit) → IsWritableBody (body_of redo old edit) → Settles edit
writable_settles redo old (Put page) w = w.1
writable_settles redo old (Patch frags) w = tt

writable_settle : (store : Store) (redo : ℕ) (items : List Item) → All IsWritableBlock (map (block_of_item store redo) items) → AllSettle items
writable_settle store redo [] all = tt
writable_settle store redo (item ∷ items) all =
    let block = block_of_item store redo item in
    let rest = map (block_of_item store redo) items in
    (writable_settles redo (page_at store item.at) item.edit (all_first IsWritableBlock block rest all).body, writable_settle store redo items (all_rest IsWritableBlock block rest all))

-- an edit, as it is written by the page before the entry, gives the page that the edit gives
edit_again : (redo end : ℕ) (first here out : List ℕ) (edit : Edit) → Settles edit → (is_patch edit ≡ true → here ≡ first) → edited end here edit ≡ Some out → edited end here (edit_of (body_of redo first edit)) ≡ Some out
edit_again redo end first here out (Put page) good same e = ap (λ (p : List ℕ). Some (with_lsn end p)) good ∙ e
edit_again redo end first here out (Patch frags) good same e =
    subst (λ (p : List ℕ). edited end here (edit_of (body_of redo p (Patch frags))) ≡ Some out) (same refl) (by_rule frags end here out (nat_le (lsn_of here) redo) e)

-- a block that no item named has the page of the first store
abbrev Stays : Store → Store → List BlockId → Type 0
Stays first store named = (q : BlockId) → is_named q named ≡ false → page_at store q ≡ page_at first q

stays_on : (first store : Store) (named : List BlockId) (at : BlockId) (page : List ℕ) → Stays first store named → Stays first (page_put at page store) (named ++ (at ∷ []))
stays_on first store named at page stays q n =
    let parts = not_named q at named n in
    page_apart store at q page parts.1 ∙ stays q parts.0

-- what is written of an item is no repeat where the item isn't
and_no : (a b : Bool) → b ≡ false → (a && b) ≡ false
and_no true b e = e
and_no false b e = refl

still_fresh : (named : List BlockId) (redo : ℕ) (first : List ℕ) (at : BlockId) (edit : Edit) → (is_patch edit && is_named at named) ≡ false → (is_patch (edit_of (body_of redo first edit)) && is_named at named) ≡ false
still_fresh named redo first at (Put page) e = refl
still_fresh named redo first at (Patch frags) e = and_no (is_patch (edit_of (body_of redo first (Patch frags)))) (is_named at named) e

first_patch : (named : List BlockId) (item : Item) → is_repeat named item ≡ false → is_patch item.edit ≡ true → is_named item.at named ≡ false
first_patch named item e p = sym (ap (λ t. t && is_named item.at named) p) ∙ e

mapped_some : {A B C : Type 0} (put : A → B) (o : Option A) (f : B → Option C) (y : C) → (option_map put o >>= f) ≡ Some y → (x : A) × (o ≡ Some x) × (f (put x) ≡ Some y)
mapped_some put None f y e = absurd cc
mapped_some put (Some x) f y e = (x, refl, e)

items_again : (redo end : ℕ) (first store last : Store) (named : List BlockId) (items : List Item) → AreFresh named items → AllSettle items → Stays first store named → apply_items end store items ≡ Some last
    → apply_items end store (said_behind named (map (block_of_item first redo) items)) ≡ Some last
items_again redo end first store last named [] fresh good stays e = e
items_again redo end first store last named (item ∷ items) fresh good stays e =
    let put = λ (page : List ℕ). page_put item.at page store in
    let more : List BlockId = named ++ (item.at ∷ []) in
    let said = item_of (block_of_item first redo item) in
    let rest : List Item = said_behind more (map (block_of_item first redo) items) in
    let found = mapped_some put (edited end (page_at store item.at) item.edit) (λ next. apply_items end next items) last e in
    ap (λ t. apply_items end store (cond t rest (said ∷ rest))) (still_fresh named redo (page_at first item.at) item.at item.edit fresh.0)
    ∙ ap (λ (o : Option (List ℕ)). option_map put o >>= λ next. apply_items end next rest)
    (edit_again redo end (page_at first item.at) (page_at store item.at) found.0 item.edit good.0 (λ p. stays item.at (first_patch named item fresh.0 p)) found.1)
    ∙ items_again redo end first (put found.0) last more items fresh.1 good.1 (stays_on first store named item.at found.0 stays) found.2

-- a truncation that is written with half its flags cuts no main fork
even : (n : ℕ) → cuts_main (2 * n) ≡ false
even n = ⊎_elim (λ x. absurd (omega (arith, x.1))) (λ x. x.0) (eqb_tells (2 * n % 2) 1)

idle_cut : (end : ℕ) (store : Store) (rel : Relation) (count flags : ℕ) (t : Bool) → t ≡ false → apply_act end store (cond t (Truncate rel count) (Mark (IdleCut rel count flags))) ≡ Some store
idle_cut end store rel count flags true e = absurd (true≢false e)
idle_cut end store rel count flags false e = refl

act_again : (redo end : ℕ) (store last : Store) (act : Act) → IsFresh act → HasGoodPages act → apply_act end store act ≡ Some last → apply_act end store (act_of (kind_of store redo act)) ≡ Some last
act_again redo end store last (Create fork) fresh good e = e
act_again redo end store last (Truncate rel count) fresh good e = e
act_again redo end store last (Change items) fresh good e = items_again redo end store store last [] items fresh (good_settle items good) (λ q n. refl) e
act_again redo end store last (Drop []) fresh good e = e
act_again redo end store last (Drop (rel ∷ rels)) fresh good e = e
act_again redo end store last (Mark (Shutdown place)) fresh good e = e
act_again redo end store last (Mark (Online place)) fresh good e = e
act_again redo end store last (Mark (RedoMark n)) fresh good e = e
act_again redo end store last (Mark NoOp) fresh good e = e
act_again redo end store last (Mark (BackupEnd place)) fresh good e = e
act_again redo end store last (Mark (IdleCut rel count others)) fresh good e = idle_cut end store rel count (2 * others / 2) (cuts_main (2 * others)) (even others) ∙ e
act_again redo end store last (Mark (IdleCommit time)) fresh good e = e

-- a command
pub commands_said : CommandsAreSaid
commands_said redo end store last (op.Create fork) w fresh e = e
commands_said redo end store last (op.Truncate rel count) w fresh e = e
commands_said redo end store last (op.Change items) w fresh e = items_again redo end store store last [] items fresh (writable_settle store redo items w.each) (λ q n. refl) e
commands_said redo end store last (op.Drop rel) w fresh e = e

edit_done : (end : ℕ) (first here : List ℕ) (edit : Edit) → IsFitEdit first edit → (is_patch edit ≡ true → here ≡ first) → (page : List ℕ) × (edited end here edit ≡ Some page)
edit_done end first here (Put page) fit same = (with_lsn end (hole_zeroed page), refl)
edit_done end first here (Patch frags) fit same = (
  patched frags end here,
  ap (λ t. cond t (Some (patched frags end here)) None) (subst (λ (p : List ℕ). is_good (written_frags frags p) ≡ true) (sym (same refl)) fit.1),
)

items_done : (end : ℕ) (first store : Store) (named : List BlockId) (items : List Item) → AreFresh named items → All (IsFitItem first) items → Stays first store named → (last : Store) × (apply_items end store items ≡ Some last)
items_done end first store named [] fresh fit stays = (store, refl)
items_done end first store named (item ∷ items) fresh fit stays =
    let put = λ (page : List ℕ). page_put item.at page store in
    let one = edit_done end (page_at first item.at) (page_at store item.at) item.edit (all_first (IsFitItem first) item items fit).edit (λ p. stays item.at (first_patch named item fresh.0 p)) in
    let rest = items_done end first (put one.0) (named ++ (item.at ∷ [])) items fresh.1 (all_rest (IsFitItem first) item items fit) (stays_on first store named item.at one.0 stays) in
    (rest.0, ap (λ (o : Option (List ℕ)). option_map put o >>= λ next. apply_items end next items) one.1 ∙ rest.1)

pub commands_done : FitCommandsAreDone
commands_done end store (op.Create fork) fit fresh = (with_fork store fork, refl)
commands_done end store (op.Truncate rel count) fit fresh = (with_cut store (main_fork rel) count, refl)
commands_done end store (op.Change items) fit fresh = items_done end store store [] items fresh fit.each (λ q n. refl)
commands_done end store (op.Drop rel) fit fresh = (without_rel store rel, refl)

-- past a place nothing is kept
over : (a b : ℕ) → b < a → nat_le a b ≡ false
over a b less = ⊎_elim (λ x. absurd (omega (arith, x.1, less))) (λ x. x.0) (leb_tells a b)

none_kept : (mib : ℕ) (b : Before) (entries : List Entry) (place : ℕ) → AreWrittenInPlace mib b entries → place ≤ b.tip.end → filter (λ e. nat_le e.end place) entries ≡ []
none_kept mib b [] place placed l = refl
none_kept mib b (e ∷ es) place placed l =
    let later : b.tip.end < e.end = placed.1.1.0 in
    ap (λ d. cond d (e ∷ filter (λ (x : Entry). nat_le x.end place) es) (filter (λ x. nat_le x.end place) es)) (over e.end place (omega arith))
    ∙ none_kept mib (behind b e) es place placed.1.1.1.1 (omega arith)

written_first : (mib : ℕ) (b : Before) (e : Entry) (es : List Entry) → is_of_run e ≡ true → written mib b (e ∷ es) ≡ next_record mib b e.act ∷ written mib (behind b e) es
written_first mib b e es own = ap (λ d. cond d (next_record mib b e.act ∷ written mib (behind b e) es) (written mib (behind b e) es)) own

none_written : (mib : ℕ) (b : Before) (entries : List Entry) (place : ℕ) → AreWrittenInPlace mib b entries → place ≤ b.tip.end → filter (λ r. nat_le r.end.0 place) (written mib b entries) ≡ []
none_written mib b [] place placed l = refl
none_written mib b (e ∷ es) place placed l =
    let later : b.tip.end < e.end = placed.1.1.0 in
    let ends : e.end ≡ (next_record mib b e.act).end.0 = placed.1.0 in
    let past : place < (next_record mib b e.act).end.0 = subst (λ n. place < n) ends (let h : place < e.end = omega arith in h) in
    ap (filter (λ (r : Record). nat_le r.end.0 place)) (written_first mib b e es placed.0)
    ∙ ap (λ d. cond d (next_record mib b e.act ∷ filter (λ (r : Record). nat_le r.end.0 place) (written mib (behind b e) es)) (filter (λ r. nat_le r.end.0 place) (written mib (behind b e) es))) (over (next_record mib b e.act).end.0 place past)
    ∙ none_written mib (behind b e) es place placed.1.1.1.1 (omega arith)

by_end : (store : Store) (c d : Bool) → c ≡ d → (r : Record) (x : Entry) (more : List Record) (others : List Entry)
    → apply_all store (map entry_of (r ∷ more)) ≡ apply_all store (x ∷ others) → (d ≡ false → (more ≡ []) × (others ≡ []))
    → apply_all store (map entry_of (cond c (r ∷ more) more)) ≡ apply_all store (cond d (x ∷ others) others)
by_end store true true is r x more others kept none = kept
by_end store true false is r x more others kept none = absurd (true≢false is)
by_end store false true is r x more others kept none = absurd (true≢false (sym is))
by_end store false false is r x more others kept none = ap (λ (rs : List Record). apply_all store (map entry_of rs)) (none refl).0 ∙ sym (ap (apply_all store) (none refl).1)

pub written_is_applied : WrittenIsApplied
written_is_applied mib b [] last e placed place = refl
written_is_applied mib b (x ∷ xs) last e placed place =
    let r = next_record mib b x.act in
    let ends : x.end ≡ r.end.0 = placed.1.0 in
    let rests : AreWrittenInPlace mib (behind b x) xs = placed.1.1.1.1 in
    let found = bind_some (apply b.store x) (λ s. apply_all s xs) last e in
    let stands : (behind b x).store ≡ found.0 = ap (λ (o : Option Store). unwrap_or o b.store) found.1 in
    let rest = written_is_applied mib (behind b x) xs last (subst (λ (s : Store). apply_all s xs ≡ Some last) (sym stands) found.2) rests place in
    let more : List Record = filter (λ r. nat_le r.end.0 place) (written mib (behind b x) xs) in
    let others : List Entry = filter (λ e. nat_le e.end place) xs in
    let again : apply b.store (entry_of r) ≡ Some found.0 =
    act_again b.tip.redo r.end.0 b.store found.0 x.act placed.1.1.1.0.0 placed.1.1.1.0.1 (subst (λ (n : ℕ). apply_act n b.store x.act ≡ Some found.0) ends found.1) in
    let kept : (apply b.store (entry_of r) >>= λ s. apply_all s (map entry_of more)) ≡ (apply b.store x >>= λ s. apply_all s others) =
    ap (λ (o : Option Store). o >>= λ s. apply_all s (map entry_of more)) again
    ∙ subst (λ (s : Store). apply_all s (map entry_of more) ≡ apply_all s others) stands rest
    ∙ sym (ap (λ (o : Option Store). o >>= λ s. apply_all s others) found.1) in
    ap (λ (rs : List Record). replayed_up_to b.store rs place) (written_first mib b x xs placed.0)
    ∙ by_end b.store (nat_le r.end.0 place) (nat_le x.end place) (ap (λ n. nat_le n place) (sym ends)) r x more others kept
    (λ none.
    let past : place ≤ x.end = ⊎_elim (λ t. absurd (true≢false (sym t.0 ∙ none))) (λ f. omega (arith, f.1)) (leb_tells x.end place) in
    (none_written mib (behind b x) xs place rests past, none_kept mib (behind b x) xs place rests past))
