-- The entries of a log are tidy where those of its history are.
use Rattle.std.proofs.Common.{◌≡◌, ℕ, ◌+◌, ◌-◌, ◌<◌, Bool, true, false, cond, List, [], ◌∷◌, ◌++◌, map, length, replicate, take, pos, Option, Some, None, unwrap_or, option_map, is_some, refl, sym, ap, subst, ◌∙◌, arith, true≢false}
use Rattle.std.proofs.lemmas.List.{map-append, length-append, length-replicate, length-set, length-take}
use Rattle.std.specs.Prelude.{min, nat_le}
use Rattle.std.specs.FinMap.{empty, get, insert, contains_key}
use Rattle.lsn_core.specs.byte_words.Numbers.{◌>>=◌}
use Rattle.lsn_core.specs.declared.ids.ForkId.{ForkId}
use Rattle.lsn_core.specs.Store.{Store, ForkPages}
use Rattle.lsn_core.specs.Blocks.{block_count, pages_of, with_block, page_put, with_fork, with_cut_pages, with_cut}
use Rattle.pg_page.specs.Header.{lsn_of, zero_page}
use Rattle.pg_page.specs.Frags.{patched}
use Rattle.wal_record.specs.declared.record.Record.{Record}
use Rattle.wal_record.specs.declared.record.Body.TheVariants.{Image, Delta}
use Rattle.history.specs.declared.op.Edit.{Edit}
use Rattle.history.specs.declared.op.Edit.TheVariants.{Put, Patch}
use Rattle.history.specs.declared.op.Item.{Item}
use Rattle.history.specs.Entry.{Act, Create, Truncate, Change, Drop, Mark, Entry}
use Rattle.history.specs.Apply.{edited, main_fork, is_same_fork, is_of_any, without_rels, page_at, apply_item, apply_items, apply_act, apply, apply_all}
use Rattle.history.specs.Op.{IsReached, AreTidyItems, IsTidy}
use Rattle.history.specs.Whole.{edit_of, entry_of}
use Rattle.history.proofs.Histories.{commit_done}
use Rattle.history.proofs.Stores.{get_without_rels}
use Rattle.lsn_core.specs.Relation.{Relation}
use Rattle.history.specs.Written.{Before, body_of, behind, next_record, written}
use Rattle.history.specs.Laws.{AreWrittenInPlace}
use Rattle.history.specs.fuzzy_copies.Logged.{found_before}
use Rattle.history.specs.fuzzy_copies.Covers.{AreTidy}
use Rattle.history.specs.fuzzy_copies.CoverLaws.{LogsAreTidy}
use Rattle.history.proofs.fuzzy_copies.Pages.{got}
use Rattle.history.proofs.fuzzy_copies.View.{middle, mapped, unmapped}
use Rattle.history.proofs.fuzzy_copies.Replay.{applied_in_two}
use Rattle.history.proofs.fuzzy_copies.Taken.{listed_fork}
use Rattle.history.proofs.fuzzy_copies.Kept.{tidy_front, tidy_behind}
use Rattle.history.proofs.fuzzy_copies.Logged.{said_item, said_act, act_back}
use Rattle.history.proofs.fuzzy_copies.ReadBack.{log_is_written}

-- two stores have the same forks, each with as many blocks
abbrev AreAsLong : Store → Store → Type 0
AreAsLong s t = (fork : ForkId) → block_count s fork ≡ block_count t fork

abbrev long : Option ForkPages → Option ℕ
long o = option_map (λ (ps : ForkPages). length ps) o

there_too : (s t : Store) (fork : ForkId) (pages : ForkPages) → AreAsLong s t → get s fork ≡ Some pages → (ps : ForkPages) × (get t fork ≡ Some ps) × (length ps ≡ length pages)
there_too s t fork pages same there = mapped (get t fork) (λ (ps : ForkPages). length ps) (length pages) (sym (same fork) ∙ ap long there) (λ ps is e. (ps, is, e))

gone_too : (s t : Store) (fork : ForkId) → AreAsLong s t → get s fork ≡ None → get t fork ≡ None
gone_too s t fork same gone = unmapped (get t fork) (λ (ps : ForkPages). length ps) (sym (same fork) ∙ ap long gone)

length_of : (s : Store) (fork : ForkId) → length (pages_of s fork) ≡ unwrap_or (block_count s fork) 0
length_of s fork = elim (get s fork) as (λ o. length (unwrap_or o []) ≡ unwrap_or (long o) 0) [ Some ps ↦ refl | None ↦ refl ]

put_long : (s t : Store) (put : ForkId) (v w : ForkPages) → AreAsLong s t → length v ≡ length w → AreAsLong (insert s put v) (insert t put w)
put_long s t put v w same e fork =
    ap long (got s put v fork) ∙ elim (is_same_fork fork put) as (λ b. long (cond b (Some v) (get s fork)) ≡ long (cond b (Some w) (get t fork))) [ true ↦ ap (λ (n : ℕ). Some n) e | false ↦ same fork ] ∙ sym (ap long (got t put w fork))

block_long : (pages : ForkPages) (block : ℕ) (page : List ℕ) → length (with_block pages block page) ≡ length pages + (block + 1 - length pages)
block_long pages block page =
    let zeros = replicate (block + 1 - length pages) zero_page in
    length-set (pages ++ zeros) block page ∙ length-append pages zeros ∙ ap (λ n. length pages + n) (length-replicate (block + 1 - length pages) zero_page)

-- an item, and what it is written as, leave them as long
item_long : (end other : ℕ) (s t last next : Store) (item : Item) (edit : Edit) → AreAsLong s t → apply_item end s item ≡ Some last → apply_item other t (record { at = item.at; edit = edit }) ≡ Some next → AreAsLong last next
item_long end other s t last next item edit same e f =
    mapped (edited end (page_at s item.at) item.edit) (λ page. page_put item.at page s) last e (λ page _ is.
    mapped (edited other (page_at t item.at) edit) (λ page. page_put item.at page t) next f (λ told _ done.
    let ps = pages_of s item.at.fork in
    let qs = pages_of t item.at.fork in
    let n : length ps ≡ length qs = length_of s item.at.fork ∙ ap (λ (o : Option ℕ). unwrap_or o 0) (same item.at.fork) ∙ sym (length_of t item.at.fork) in
    let blocks : length (with_block ps item.at.block page) ≡ length (with_block qs item.at.block told) =
    block_long ps item.at.block page ∙ ap (λ k. k + (item.at.block + 1 - k)) n ∙ sym (block_long qs item.at.block told) in
    subst (λ x. AreAsLong x next) is (subst (AreAsLong (page_put item.at page s)) done (put_long s t item.at.fork (with_block ps item.at.block page) (with_block qs item.at.block told) same blocks))))

items_long : (end other : ℕ) (store : Store) (redo : ℕ) (s t last next : Store) (items : List Item) → AreAsLong s t → apply_items end s items ≡ Some last → apply_items other t (map (said_item store redo) items) ≡ Some next → AreAsLong last next
items_long end other store redo s t last next [] same e f =
    let p : s ≡ last = cc in let q : t ≡ next = cc in subst (λ x. AreAsLong x next) p (subst (AreAsLong s) q same)
items_long end other store redo s t last next (item ∷ items) same e f =
    middle (apply_item end s item) (λ x. apply_items end x items) last e (λ x one rest.
    middle (apply_item other t (said_item store redo item)) (λ y. apply_items other y (map (said_item store redo) items)) next f (λ y told more.
    items_long end other store redo x y last next items (item_long end other s t x y item (said_item store redo item).edit same one told) rest more))

made_long : (s t : Store) (fork : ForkId) → AreAsLong s t → AreAsLong (with_fork s fork) (with_fork t fork)
made_long s t fork same =
    go (contains_key s fork) (contains_key t fork) (sym (listed_fork (get s fork)) ∙ ap (λ (o : Option ℕ). is_some o) (same fork) ∙ listed_fork (get t fork))
  where
    go : (c d : Bool) → c ≡ d → AreAsLong (cond c s (insert s fork [])) (cond d t (insert t fork []))
    go true true e = same
    go false false e = put_long s t fork [] [] same refl
    go true false e = absurd (true≢false e)
    go false true e = absurd (true≢false (sym e))

cut_long : (s t : Store) (fork : ForkId) (n : ℕ) → AreAsLong s t → AreAsLong (with_cut s fork n) (with_cut t fork n)
cut_long s t fork n same =
    elim (get s fork) as (λ o. get s fork ≡ o → AreAsLong (with_cut_pages s fork n o) (with_cut t fork n)) [
      | None ↦ λ gone. subst (λ o. AreAsLong s (with_cut_pages t fork n o)) (sym (gone_too s t fork same gone)) same
      | Some ps ↦ λ there.
          let f = there_too s t fork ps same there in
          subst (λ o. AreAsLong (insert s fork (take n ps)) (with_cut_pages t fork n o)) (sym f.1) (put_long s t fork (take n ps) (take n f.0) same (length-take n ps ∙ ap (min n) (sym f.2) ∙ sym (length-take n f.0)))
    ] refl

dropped_long : (s t : Store) (rels : List Relation) → AreAsLong s t → AreAsLong (without_rels s rels) (without_rels t rels)
dropped_long s t rels same fork =
    ap (option_map length) (get_without_rels s rels fork) ∙ go (is_of_any fork rels) ∙ sym (ap (option_map length) (get_without_rels t rels fork))
  where
    go : (b : Bool) → option_map length (cond b None (get s fork)) ≡ option_map length (cond b None (get t fork))
    go true = refl
    go false = same fork

act_long : (end other : ℕ) (store : Store) (redo : ℕ) (s t last next : Store) (act : Act) → AreAsLong s t → apply_act end s act ≡ Some last → apply_act other t (said_act store redo act) ≡ Some next → AreAsLong last next
act_long end other store redo s t last next (Create fork) same e f =
    let p : with_fork s fork ≡ last = cc in let q : with_fork t fork ≡ next = cc in subst (λ x. AreAsLong x next) p (subst (AreAsLong (with_fork s fork)) q (made_long s t fork same))
act_long end other store redo s t last next (Truncate rel n) same e f =
    let p : with_cut s (main_fork rel) n ≡ last = cc in
    let q : with_cut t (main_fork rel) n ≡ next = cc in
    subst (λ x. AreAsLong x next) p (subst (AreAsLong (with_cut s (main_fork rel) n)) q (cut_long s t (main_fork rel) n same))
act_long end other store redo s t last next (Change items) same e f = items_long end other store redo s t last next items same e f
act_long end other store redo s t last next (Drop rels) same e f =
    let p : without_rels s rels ≡ last = cc in
    let made : Some (without_rels t rels) ≡ Some next = sym (commit_done other t (pos 0) rels) ∙ f in
    let q : without_rels t rels ≡ next = cc in
    subst (λ x. AreAsLong x next) p (subst (AreAsLong (without_rels s rels)) q (dropped_long s t rels same))
act_long end other store redo s t last next (Mark marking) same e f =
    let p : s ≡ last = cc in let q : t ≡ next = cc in subst (λ x. AreAsLong x next) p (subst (AreAsLong s) q same)

-- what an item is written as reaches what the item does
reached_too : (redo : ℕ) (old : List ℕ) (edit : Edit) (ps qs : ForkPages) (block : ℕ) → length qs ≡ length ps → IsReached ps block edit → IsReached qs block (edit_of (body_of redo old edit))
reached_too redo old (Put page) ps qs block e r = omega arith
reached_too redo old (Patch frags) ps qs block e r =
    let below : block < length ps = r in
    let short : block < length qs = omega arith in
    elim (nat_le (lsn_of old) redo) as (λ b. IsReached qs block (edit_of (cond b (Image (patched frags (lsn_of old) old)) (Delta frags)))) [ true ↦ omega arith | false ↦ short ]

items_tidy : (end : ℕ) (store : Store) (redo : ℕ) (s t last : Store) (items : List Item) → AreAsLong s t → apply_items end s items ≡ Some last → AreTidyItems s items → AreTidyItems t (map (said_item store redo) items)
items_tidy end store redo s t last [] same e tidy = tt
items_tidy end store redo s t last (item ∷ items) same e tidy =
    middle (apply_item end s item) (λ x. apply_items end x items) last e (λ x one rest.
    let first = tidy.0 in
    let f = there_too s t item.at.fork first.pages same first.there in (
      record { pages = f.0; there = f.1; reached = reached_too redo (page_at store item.at) item.edit first.pages f.0 item.at.block f.2 first.reached },
      λ other next told. items_tidy end store redo x next last items (item_long end other s t x next item (said_item store redo item).edit same one told) rest (tidy.1 end x one),
    ))

act_tidy : (end : ℕ) (store : Store) (redo : ℕ) (s t last : Store) (act : Act) → AreAsLong s t → apply_act end s act ≡ Some last → IsTidy s act → IsTidy t (said_act store redo act)
act_tidy end store redo s t last (Create fork) same e tidy = gone_too s t fork same tidy
act_tidy end store redo s t last (Truncate rel n) same e tidy =
    let f = there_too s t (main_fork rel) tidy.pages same tidy.there in
    let long_enough = f.2 in
    let within = tidy.within in
    record { pages = f.0; there = f.1; within = omega arith }
act_tidy end store redo s t last (Change items) same e tidy = items_tidy end store redo s t last items same e tidy
act_tidy end store redo s t last (Drop []) same e tidy = tt
act_tidy end store redo s t last (Drop (rel ∷ rels)) same e tidy = tt
act_tidy end store redo s t last (Mark marking) same e tidy = tt

-- own entries, as they are read back
own_tidy : (mib : ℕ) (b : Before) (own : List Entry) (s t last : Store) → AreAsLong s t → AreWrittenInPlace mib b own → apply_all s own ≡ Some last → AreTidy s own → AreTidy t (map entry_of (written mib b own))
own_tidy mib b [] s t last same placed e tidy = tt
own_tidy mib b (x ∷ xs) s t last same placed e tidy =
    let r : Record = next_record mib b x.act in
    let more : List Record = written mib (behind b x) xs in
    let back = act_back b.store b.tip.redo x.act placed.1.1.1.0.0 in
    middle (apply s x) (λ d. apply_all d xs) last e (λ d one rest.
    subst (λ c. AreTidy t (map entry_of (cond c (r ∷ more) more))) (sym placed.0) (
      subst (IsTidy t) (sym back) (act_tidy x.end b.store b.tip.redo s t d x.act same one tidy.0),
      λ next told.
          let long = act_long x.end r.end.0 b.store b.tip.redo s t d next x.act same one (subst (λ act. apply_act r.end.0 t act ≡ Some next) back told) in
          own_tidy mib (behind b x) xs d next last long placed.1.1.1.1 rest (tidy.1 d one),
    ))

tidy_both : (store : Store) (xs ys : List Entry) → AreTidy store xs → ((next : Store) → apply_all store xs ≡ Some next → AreTidy next ys) → AreTidy store (xs ++ ys)
tidy_both store [] ys tidy k = k store refl
tidy_both store (x ∷ xs) ys tidy k = (tidy.0, λ next e. tidy_both next xs ys (tidy.1 next e) (λ last f. k last (ap (λ (o : Option Store). o >>= λ s. apply_all s xs) e ∙ f)))

pub logs_tidy : LogsAreTidy
logs_tidy mib found own store logged made tidy =
    let b = found_before mib found in
    let es = map entry_of found in
    let rs = written mib b own in
    subst (AreTidy empty) (sym (ap (map entry_of) (log_is_written mib found own) ∙ map-append entry_of found rs))
    (tidy_both empty es (map entry_of rs) (tidy_front empty es own tidy) (λ next first.
    own_tidy mib b own next next store (λ fork. refl) logged.written (sym (applied_in_two empty es own ∙ ap (λ (m : Option Store). m >>= λ t. apply_all t own) first) ∙ made) (tidy_behind empty next es own tidy first)))
