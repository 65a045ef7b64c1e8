-- Records that can be written make stores that have files.
use Rattle.std.proofs.Common.{◌≡◌, ℕ, ◌+◌, ◌-◌, ◌/◌, ◌≤◌, ◌<◌, Bool, true, false, cond, List, [], ◌∷◌, ◌++◌, map, length, take, replicate, Option, Some, None, unwrap_or, refl, sym, ap, subst, ◌∙◌, arith}
use Rattle.std.proofs.lemmas.List.{length-append, length-replicate, length-set, length-take}
use Rattle.std.proofs.lemmas.List.Elements.{All-nil, All-cons, All-append, All-replicate, All-set, All-take}
use Rattle.std.specs.List.{All}
use Rattle.std.specs.FinMap.{get, empty, insert, contains_key, get-empty}
use Rattle.lsn_core.specs.Blocks.{pages_of, with_block, page_put, with_fork, with_cut}
use Rattle.lsn_core.specs.Relation.{Relation}
use Rattle.lsn_core.specs.Sizes.{most_blocks}
use Rattle.lsn_core.specs.Store.{Store, ForkPages, fork_cmp}
use Rattle.lsn_core.specs.byte_words.Pieces.{zero_page}
use Rattle.lsn_core.specs.declared.ids.BlockId.{BlockId}
use Rattle.lsn_core.specs.declared.ids.ForkId.{ForkId}
use Rattle.pg_page.specs.Frags.{is_good, patched, written_frags}
use Rattle.pg_page.specs.Header.{hole_zeroed, with_lsn}
use Rattle.pg_page.proofs.HeaderLaws.{IsGood-hole_zeroed, IsGood-with_lsn}
use Rattle.pg_page.proofs.PatchLaws.{IsGood-patched}
use Rattle.wal_record.specs.Spelling as spelling
use Rattle.wal_record.specs.declared.record.Kind.{Kind}
use Rattle.wal_record.specs.declared.record.Kind.TheVariants as kind
use Rattle.wal_record.specs.declared.record.BlockRef.{BlockRef}
use Rattle.wal_record.specs.declared.record.Body.{Body}
use Rattle.wal_record.specs.declared.record.Body.TheVariants.{Image, Delta}
use Rattle.wal_record.specs.declared.record.Record.{Record}
use Rattle.rel_files.proofs.ForkCuts.{cut_get, cut_missing, cut_others}
use Rattle.rel_files.proofs.ForkStores.{each_fork, get_here, get_there, some_is}
use Rattle.rel_files.proofs.ZeroPages.{zero_size}
use Rattle.history.specs.declared.op.Edit.{Edit}
use Rattle.history.specs.declared.op.Edit.TheVariants.{Put, Patch}
use Rattle.history.specs.declared.op.Item.{Item}
use Rattle.history.specs.Entry.{IdleCut, Truncate, Mark}
use Rattle.history.specs.Apply.{edited, main_fork, is_of_any, without_rels, page_at, apply_item, apply_items, apply_act, apply, apply_all}
use Rattle.history.specs.Laws.{HasGoodPage}
use Rattle.history.specs.Whole.{act_of, cuts_main, edit_of, entry_of, is_repeat, item_of, said_behind}
use Rattle.history.proofs.Pushes.{all_first, all_rest}
use Rattle.history.proofs.Stores.{by_test, get_without_rels}
use Rattle.history.proofs.fuzzy_copies.View.{mapped, middle}
use Rattle.stop_comebacks.specs.Stopped.{AreWritten}
use Rattle.stop_comebacks.specs.Laws.{WrittenRecordsFit}

-- ---- forks that fit

abbrev IsWholePage : List ℕ → Type 0
IsWholePage page = length page ≡ 8192

record FitsFork (fork : ForkId) (pages : ForkPages) : Type 0 where
  rel : spelling.IsRelation fork.rel
  few : length pages ≤ most_blocks
  whole : All IsWholePage pages

abbrev AllFit : Store → Type 0
AllFit store = (fork : ForkId) (pages : ForkPages) → get store fork ≡ Some pages → FitsFork fork pages

nothing_fits : AllFit empty
nothing_fits fork pages is = absurd (never pages (sym (get-empty fork_cmp fork) ∙ is))
  where
    never : (ps : ForkPages) → ◌≡◌ {A = Option ForkPages} None (Some ps) → ⊥
    never ps e = cc

put_fits : (store : Store) (fork : ForkId) (pages : ForkPages) → AllFit store → FitsFork fork pages → AllFit (insert store fork pages)
put_fits store fork pages all fits =
    each_fork FitsFork fork store (insert store fork pages) (get_there store fork pages) all
    (λ ps is. subst (FitsFork fork) (some_is pages ps (get (insert store fork pages) fork) (get_here store fork pages) is) fits)

made_fits : (store : Store) (fork : ForkId) → AllFit store → spelling.IsRelation fork.rel → AllFit (with_fork store fork)
made_fits store fork all rel = by (contains_key store fork)
  where
    by : (b : Bool) → AllFit (cond b store (insert store fork []))
    by true = all
    by false = put_fits store fork [] all (record { rel = rel; few = omega arith; whole = All-nil IsWholePage })

cut_fits : (store : Store) (fork : ForkId) (n : ℕ) → AllFit store → AllFit (with_cut store fork n)
cut_fits store fork n all = each_fork FitsFork fork store (with_cut store fork n) (cut_others store fork n) all (here (get store fork) refl)
  where
    never : (ps : ForkPages) → ◌≡◌ {A = Option ForkPages} None (Some ps) → ⊥
    never ps e = cc

    here : (o : Option ForkPages) → get store fork ≡ o → (ps : ForkPages) → get (with_cut store fork n) fork ≡ Some ps → FitsFork fork ps
    here None e ps is = absurd (never ps (sym (ap (λ (s : Store). get s fork) (cut_missing store fork n e) ∙ e) ∙ is))
    here (Some pages) e ps is =
        let was = all fork pages e in
        let few = was.few in
        let size = length-take n pages in
        subst (FitsFork fork) (some_is (take n pages) ps (get (with_cut store fork n) fork) (cut_get store fork pages n e) is)
        (record { rel = was.rel; few = omega (arith, few, size); whole = All-take IsWholePage n pages was.whole })

gone_fits : (store : Store) (rels : List Relation) (next : Store) → ((fork : ForkId) → get next fork ≡ cond (is_of_any fork rels) None (get store fork)) → AllFit store → AllFit next
gone_fits store rels next is all fork pages there = by (is_of_any fork rels) (sym (is fork) ∙ there)
  where
    never : (ps : ForkPages) → ◌≡◌ {A = Option ForkPages} None (Some ps) → ⊥
    never ps e = cc

    by : (b : Bool) → cond b None (get store fork) ≡ Some pages → FitsFork fork pages
    by true e = absurd (never pages e)
    by false e = all fork pages e

-- ---- items

record FitsItem (item : Item) : Type 0 where
  number : item.at.block < most_blocks
  rel : spelling.IsRelation item.at.fork.rel
  good : HasGoodPage item.edit

edited_whole : (end : ℕ) (old page : List ℕ) (edit : Edit) → HasGoodPage edit → edited end old edit ≡ Some page → IsWholePage page
edited_whole end old page (Put put) good is =
    let same : with_lsn end (hole_zeroed put) ≡ page = cc in
    subst IsWholePage same (IsGood-with_lsn end (hole_zeroed put) (IsGood-hole_zeroed put good)).whole
edited_whole end old page (Patch frags) good is =
    by_test (is_good (written_frags frags old))
    (λ fine.
    let same : patched frags end old ≡ page = one (patched frags end old) page (sym (ap (λ (b : Bool). cond b (Some (patched frags end old)) None) fine) ∙ is) in
    subst IsWholePage same (IsGood-patched frags end old fine).whole)
    (λ bad. absurd (never page (sym (ap (λ (b : Bool). cond b (Some (patched frags end old)) None) bad) ∙ is)))
  where
    one : (a b : List ℕ) → Some a ≡ Some b → a ≡ b
    one a b e = cc

    never : (p : List ℕ) → ◌≡◌ {A = Option (List ℕ)} None (Some p) → ⊥
    never p e = cc

-- the pages of a fork, none where it is missing
record FitPages (pages : ForkPages) : Type 0 where
  few : length pages ≤ most_blocks
  whole : All IsWholePage pages

pages_fit : (store : Store) (fork : ForkId) → AllFit store → FitPages (pages_of store fork)
pages_fit store fork all = by (get store fork) refl
  where
    by : (o : Option ForkPages) → get store fork ≡ o → FitPages (unwrap_or o [])
    by None e = record { few = omega arith; whole = All-nil IsWholePage }
    by (Some pages) e = let was = all fork pages e in record { few = was.few; whole = was.whole }

page_fits : (store : Store) (at : BlockId) (page : List ℕ) → AllFit store → at.block < most_blocks → spelling.IsRelation at.fork.rel → IsWholePage page → AllFit (page_put at page store)
page_fits store at page all number rel size =
    let pages : ForkPages = pages_of store at.fork in
    let zeros : ForkPages = replicate (at.block + 1 - length pages) zero_page in
    let was = pages_fit store at.fork all in
    let few = was.few in
    let set_size = length-set (pages ++ zeros) at.block page in
    let both = length-append pages zeros in
    let more = length-replicate (at.block + 1 - length pages) zero_page in
    put_fits store at.fork (with_block pages at.block page) all
    (record {
      rel = rel;
      few = omega (arith, set_size, both, more, few, number);
      whole = All-set IsWholePage (pages ++ zeros) at.block page size (All-append IsWholePage pages zeros was.whole (All-replicate IsWholePage (at.block + 1 - length pages) zero_page zero_size));
    })

items_fit : (end : ℕ) (store next : Store) (items : List Item) → All FitsItem items → AllFit store → apply_items end store items ≡ Some next → AllFit next
items_fit end store next [] fits all e = let same : store ≡ next = cc in subst AllFit same all
items_fit end store next (item ∷ items) fits all e =
    let first = all_first FitsItem item items fits in
    middle (apply_item end store item) (λ s. apply_items end s items) next e (λ s step rest.
    mapped (edited end (page_at store item.at) item.edit) (λ page. page_put item.at page store) s step (λ page found is.
    items_fit end s next items (all_rest FitsItem item items fits)
    (subst AllFit is (page_fits store item.at page all first.number first.rel (edited_whole end (page_at store item.at) page item.edit first.good found))) rest))

-- ---- records

body_good : (body : Body) → spelling.IsWritableBody body → HasGoodPage (edit_of body)
body_good (Image page) is = is.0
body_good (Delta frags) is = tt

said_fit : (named : List BlockId) (blocks : List BlockRef) → All spelling.IsWritableBlock blocks → All FitsItem (said_behind named blocks)
said_fit named [] all = All-nil FitsItem
said_fit named (block ∷ blocks) all =
    let first = all_first spelling.IsWritableBlock block blocks all in
    let told : List Item = said_behind (named ++ (block.at ∷ [])) blocks in
    let rest = said_fit (named ++ (block.at ∷ [])) blocks (all_rest spelling.IsWritableBlock block blocks all) in
    let here : FitsItem (item_of block) = record { number = first.number; rel = first.rel; good = body_good block.body first.body } in
    elim (is_repeat named (item_of block)) as (λ (b : Bool). All FitsItem (cond b told (item_of block ∷ told))) [
      | true ↦ rest
      | false ↦ All-cons FitsItem (item_of block) told here rest
    ]

one_store : (s t : Store) → Some s ≡ Some t → s ≡ t
one_store s t e = cc

kind_fits : (end : ℕ) (store next : Store) (k : Kind) → spelling.IsWritable k → AllFit store → apply_act end store (act_of k) ≡ Some next → AllFit next
kind_fits end store next (kind.Shutdown redo) is all e = subst AllFit (one_store store next e) all
kind_fits end store next (kind.Online redo) is all e = subst AllFit (one_store store next e) all
kind_fits end store next (kind.RedoMark n) is all e = subst AllFit (one_store store next e) all
kind_fits end store next kind.NoOp is all e = subst AllFit (one_store store next e) all
kind_fits end store next (kind.BackupEnd start) is all e = subst AllFit (one_store store next e) all
kind_fits end store next (kind.Images blocks) is all e = items_fit end store next (said_behind [] blocks) (said_fit [] blocks is.0.each) all e
kind_fits end store next (kind.Generic blocks) is all e = items_fit end store next (said_behind [] blocks) (said_fit [] blocks is.each) all e
kind_fits end store next (kind.Create fork) is all e = subst AllFit (one_store (with_fork store fork) next e) (made_fits store fork all is)
kind_fits end store next (kind.Truncate rel count flags) is all e =
    by_test (cuts_main flags)
    (λ cuts. subst AllFit (one_store (with_cut store (main_fork rel) count) next (sym (ap (λ (b : Bool). apply_act end store (cond b (Truncate rel count) (Mark (IdleCut rel count (flags / 2))))) cuts) ∙ e)) (cut_fits store (main_fork rel) count all))
    (λ idle. subst AllFit (one_store store next (sym (ap (λ (b : Bool). apply_act end store (cond b (Truncate rel count) (Mark (IdleCut rel count (flags / 2))))) idle) ∙ e)) all)
kind_fits end store next (kind.Commit time []) is all e = subst AllFit (one_store store next e) all
kind_fits end store next (kind.Commit time (rel ∷ rels)) is all e =
    gone_fits store (rel ∷ rels) next (λ fork. ap (λ (s : Store). get s fork) (sym (one_store (without_rels store (rel ∷ rels)) next e)) ∙ get_without_rels store (rel ∷ rels) fork) all

records_fit : (store next : Store) (rs : List Record) → AreWritten rs → AllFit store → apply_all store (map entry_of rs) ≡ Some next → AllFit next
records_fit store next [] is all e = subst AllFit (one_store store next e) all
records_fit store next (r ∷ rs) is all e =
    middle (apply store (entry_of r)) (λ s. apply_all s (map entry_of rs)) next e (λ s step rest.
    records_fit s next rs (all_rest (λ (x : Record). spelling.IsWritable x.kind) r rs is)
    (kind_fits r.end.0 store s r.kind (all_first (λ (x : Record). spelling.IsWritable x.kind) r rs is) all step) rest)

front_written : (rs lost : List Record) → AreWritten (rs ++ lost) → AreWritten rs
front_written [] lost is = All-nil (λ (x : Record). spelling.IsWritable x.kind)
front_written (r ∷ rs) lost is =
    All-cons (λ (x : Record). spelling.IsWritable x.kind) r rs (all_first (λ (x : Record). spelling.IsWritable x.kind) r (rs ++ lost) is)
    (front_written rs lost (all_rest (λ (x : Record). spelling.IsWritable x.kind) r (rs ++ lost) is))

pub written_fit : WrittenRecordsFit
written_fit history is records lost store parts made =
    let all = records_fit empty store records (front_written records lost (subst AreWritten parts is)) nothing_fits made in
    record {
      named = λ fork pages there.
          let fits = all fork pages there in
          let rel = fits.rel in
          let some = rel.some in
          let within = rel.fits in
          let few = fits.few in
          let some_db = some.0 in
          let some_rel = some.1 in
          record { some_db = omega (arith, some_db); db_fits = within.0; some_rel = omega (arith, some_rel); rel_fits = within.1; seg_fits = omega (arith, few) };
      pages = λ fork pages there. let fits = all fork pages there in fits.whole;
    }
