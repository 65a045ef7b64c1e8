-- Replay passes over a delta of a block that its record named before: it does what the record says.
use Rattle.std.proofs.Common.{◌≡◌, ℕ, ◌<◌, ◌≤◌, ◌^◌, Bool, true, false, cond, ◌&&◌, ◌||◌, List, [], ◌∷◌, ◌++◌, map, Option, Some, None, option_map, refl, sym, ap, subst, ◌∙◌, arith, true≢false}
use Rattle.std.specs.Prelude.{nat_lt}
use Rattle.std.proofs.lemmas.Bool.{le-ltb, ltb-false, and_parts}
use Rattle.lsn_core.specs.byte_words.Numbers.{◌>>=◌}
use Rattle.lsn_core.specs.declared.ids.BlockId.{BlockId}
use Rattle.lsn_core.specs.Store.{Store}
use Rattle.lsn_core.specs.Blocks.{page_put}
use Rattle.pg_page.specs.Header.{lsn_of, hole_zeroed, with_lsn}
use Rattle.pg_page.specs.Frags.{Fragment, written_frags, patched, is_good}
use Rattle.pg_page.proofs.HeaderLaws.{lsn_of-with_lsn}
use Rattle.wal_record.specs.declared.record.Record.{Record}
use Rattle.wal_record.specs.declared.record.Kind.{Kind}
use Rattle.wal_record.specs.declared.record.Kind.TheVariants as kind
use Rattle.wal_record.specs.declared.record.BlockRef.{BlockRef}
use Rattle.history.specs.declared.op.Edit.{Edit}
use Rattle.history.specs.declared.op.Edit.TheVariants.{Put, Patch}
use Rattle.history.specs.declared.op.Item.{Item}
use Rattle.history.specs.Entry.{Act}
use Rattle.history.specs.Apply.{edited, is_same_block, page_at, item_by, items_by, act_by}
use Rattle.history.specs.Whole.{item_of, is_named, is_patch, is_repeat, said_behind, cuts_main, act_with, act_of, entry_of}
use Rattle.history.specs.Redo.{redone, redo_all}
use Rattle.history.specs.Laws.{AreFresh, IsFresh}
use Rattle.history.proofs.Stores.{by_test, block_is, page_apart, page_here, put_same}
use Rattle.history.proofs.Names.{named_more, named_there, named_again}
use Rattle.history.specs.fuzzy_copies.Orderly.{RecordsRise, IsOrderly}
use Rattle.history.specs.fuzzy_copies.Recovered.{entries_by}
use Rattle.history.proofs.fuzzy_copies.View.{mapped}

-- what an edit leaves is no older than its entry's end
by_test_good : (t : Bool) (end : ℕ) (page new : List ℕ) → end ≤ lsn_of page → cond t (Some page) None ≡ Some new → end ≤ lsn_of new
by_test_good true end page new low e = let same : page ≡ new = cc in subst (λ p. end ≤ lsn_of p) same low
by_test_good false end page new low e = absurd cc

lsn_set : (end : ℕ) (page : List ℕ) → end < 2 ^ 64 → end ≤ lsn_of (with_lsn end page)
lsn_set end page fits = let e = lsn_of-with_lsn end page fits in omega arith

patched_set : (frags : List Fragment) (end : ℕ) (old : List ℕ) → end < 2 ^ 64 → end ≤ lsn_of (patched frags end old)
unfolding patched
patched_set frags end old fits = lsn_set end (hole_zeroed (written_frags frags old)) fits

edited_new : (end : ℕ) (old new : List ℕ) (edit : Edit) → end < 2 ^ 64 → edited end old edit ≡ Some new → end ≤ lsn_of new
edited_new end old new (Put page) fits e = let same : with_lsn end (hole_zeroed page) ≡ new = cc in subst (λ p. end ≤ lsn_of p) same (lsn_set end (hole_zeroed page) fits)
edited_new end old new (Patch frags) fits e = by_test_good (is_good (written_frags frags old)) end (patched frags end old) new (patched_set frags end old fits) e

redone_new : (end : ℕ) (old new : List ℕ) (edit : Edit) → end < 2 ^ 64 → redone end old edit ≡ Some new → end ≤ lsn_of new
redone_new end old new (Put page) fits e = edited_new end old new (Put page) fits e
redone_new end old new (Patch frags) fits e =
    elim (nat_lt (lsn_of old) end) as (λ b. nat_lt (lsn_of old) end ≡ b → cond b (edited end old (Patch frags)) (Some old) ≡ Some new → end ≤ lsn_of new) [
      | true ↦ λ k f. edited_new end old new (Patch frags) fits f
      | false ↦ λ k f. let same : old ≡ new = cc in let h : end ≤ lsn_of old = ltb-false (lsn_of old) end k in subst (λ p. end ≤ lsn_of p) same h
    ] refl e

-- the blocks that were named have pages no older than a place
abbrev AreNew : ℕ → List BlockId → Store → Type 0
AreNew end named s = (q : BlockId) → is_named q named ≡ true → end ≤ lsn_of (page_at s q)

item_new : (end : ℕ) (named : List BlockId) (s next : Store) (item : Item) → end < 2 ^ 64 → AreNew end named s → item_by redone end s item ≡ Some next → AreNew end (named ++ (item.at ∷ [])) next
item_new end named s next item fits new e q n =
    mapped (redone end (page_at s item.at) item.edit) (λ page. page_put item.at page s) next e (λ page found made.
    subst (λ (t : Store). end ≤ lsn_of (page_at t q)) made
    (by_test (is_same_block q item.at)
    (λ here.
    let at : page_at (page_put item.at page s) q ≡ page = ap (page_at (page_put item.at page s)) (block_is q item.at here) ∙ page_here s item.at page in
    subst (λ (p : List ℕ). end ≤ lsn_of p) (sym at) (redone_new end (page_at s item.at) page item.edit fits found))
    (λ apart. subst (λ (p : List ℕ). end ≤ lsn_of p) (sym (page_apart s item.at q page apart)) (new q (sym (named_there q item.at named apart) ∙ n)))))

not_redone : (end : ℕ) (old : List ℕ) (edit : Edit) → is_patch edit ≡ true → end ≤ lsn_of old → redone end old edit ≡ Some old
not_redone end old (Put page) e h = absurd cc
not_redone end old (Patch frags) e h = ap (λ b. cond b (edited end old (Patch frags)) (Some old)) (le-ltb (lsn_of old) end h)

-- replay of all references is replay of what they say
redo_said : (end : ℕ) (named : List BlockId) (s : Store) (blocks : List BlockRef) → 0 < end → end < 2 ^ 64 → AreNew end named s → items_by redone end s (map item_of blocks) ≡ items_by redone end s (said_behind named blocks)
redo_said end named s [] some fits new = refl
redo_said end named s (block ∷ blocks) some fits new =
    let item = item_of block in
    let more : List BlockId = named ++ (block.at ∷ []) in
    let raw : List Item = map item_of blocks in
    let told : List Item = said_behind more blocks in
    elim (is_repeat named item) as (λ b. is_repeat named item ≡ b → (item_by redone end s item >>= λ n. items_by redone end n raw) ≡ items_by redone end s (cond b told (item ∷ told))) [
      | true ↦ λ k.
          let p = and_parts (is_patch item.edit) (is_named item.at named) k in
          let late : end ≤ lsn_of (page_at s block.at) = new block.at p.1 in
          ap (λ (o : Option (List ℕ)). option_map (λ page. page_put block.at page s) o >>= λ n. items_by redone end n raw) (not_redone end (page_at s block.at) item.edit p.0 late)
          ∙ ap (λ (t : Store). items_by redone end t raw) (put_same s block.at (omega arith))
          ∙ redo_said end more s blocks some fits (λ q n. new q (sym (named_again q block.at named p.1) ∙ n))
      | false ↦ λ k. elim (item_by redone end s item) as (λ m. item_by redone end s item ≡ m → (m >>= λ n. items_by redone end n raw) ≡ (m >>= λ n. items_by redone end n told)) [
        | None ↦ λ e. refl
        | Some next ↦ λ e. redo_said end more next blocks some fits (item_new end named s next item fits new e)
      ] refl
    ] refl

kind_said : (end : ℕ) (s : Store) (k : Kind) → 0 < end → end < 2 ^ 64 → act_by redone end s (act_with (map item_of) k) ≡ act_by redone end s (act_of k)
kind_said end s (kind.Shutdown at) some fits = refl
kind_said end s (kind.Online at) some fits = refl
kind_said end s (kind.RedoMark n) some fits = refl
kind_said end s kind.NoOp some fits = refl
kind_said end s (kind.BackupEnd at) some fits = refl
kind_said end s (kind.Images blocks) some fits = redo_said end [] s blocks some fits (λ q n. absurd (true≢false (sym n)))
kind_said end s (kind.Generic blocks) some fits = redo_said end [] s blocks some fits (λ q n. absurd (true≢false (sym n)))
kind_said end s (kind.Create fork) some fits = refl
kind_said end s (kind.Truncate rel count flags) some fits = refl
kind_said end s (kind.Commit time rels) some fits = refl

-- records behind a place, replayed, are the entries that they say, replayed
pub redo_entries : (last : ℕ) (s : Store) (rs : List Record) → RecordsRise last rs → redo_all s rs ≡ entries_by redone s (map entry_of rs)
redo_entries last s [] r = refl
redo_entries last s (x ∷ rs) r =
    ap (λ (o : Option Store). o >>= λ next. redo_all next rs) (kind_said x.end.0 s x.kind (let b = r.1 in omega arith) r.2)
    ∙ elim (act_by redone x.end.0 s (act_of x.kind)) as (λ m. (m >>= λ next. redo_all next rs) ≡ (m >>= λ next. entries_by redone next (map entry_of rs))) [
      | None ↦ refl
      | Some next ↦ redo_entries x.end.0 next rs r.3
    ]

-- what a record says names no block again by a patch
said_fresh : (named kept : List BlockId) (blocks : List BlockRef) → ((q : BlockId) → is_named q kept ≡ is_named q named) → AreFresh kept (said_behind named blocks)
said_fresh named kept [] same = tt
said_fresh named kept (block ∷ blocks) same =
    let item = item_of block in
    let more : List BlockId = named ++ (block.at ∷ []) in
    elim (is_repeat named item) as (λ b. is_repeat named item ≡ b → AreFresh kept (cond b (said_behind more blocks) (item ∷ said_behind more blocks))) [
      | true ↦ λ k. said_fresh more kept blocks (λ q. same q ∙ sym (named_again q block.at named (and_parts (is_patch item.edit) (is_named item.at named) k).1))
      | false ↦ λ k. (
        ap (λ t. is_patch item.edit && t) (same block.at) ∙ k,
        said_fresh more (kept ++ (block.at ∷ [])) blocks (λ q. named_more q block.at kept ∙ ap (λ t. t || is_same_block q block.at) (same q) ∙ sym (named_more q block.at named)),
      )
    ] refl

by_flag : (t : Bool) (a b : Act) → IsFresh a → IsFresh b → IsFresh (cond t a b)
by_flag true a b f g = f
by_flag false a b f g = g

pub kind_fresh : (k : Kind) → IsFresh (act_of k)
kind_fresh (kind.Shutdown at) = tt
kind_fresh (kind.Online at) = tt
kind_fresh (kind.RedoMark n) = tt
kind_fresh kind.NoOp = tt
kind_fresh (kind.BackupEnd at) = tt
kind_fresh (kind.Images blocks) = said_fresh [] [] blocks (λ q. refl)
kind_fresh (kind.Generic blocks) = said_fresh [] [] blocks (λ q. refl)
kind_fresh (kind.Create fork) = tt
kind_fresh (kind.Truncate rel count flags) = by_flag (cuts_main flags) _ _ tt tt
kind_fresh (kind.Commit time []) = tt
kind_fresh (kind.Commit time (rel ∷ rels)) = tt

pub entries_rise : (last : ℕ) (rs : List Record) → RecordsRise last rs → IsOrderly last (map entry_of rs)
entries_rise last [] r = tt
entries_rise last (x ∷ rs) r = (r.0, r.1, kind_fresh x.kind, entries_rise x.end.0 rs r.3)
