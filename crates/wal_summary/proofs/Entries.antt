-- What records say, as block reference tables.
use Rattle.std.proofs.Common.{◌≡◌, ℕ, ◌+◌, ◌<◌, ◌/◌, ℤ, Bool, true, false, cond, ◌||◌, List, [], ◌∷◌, ◌++◌, map, length, take, get_or, Option, Some, None, refl, sym, ap, subst, ◌∙◌, true≢false}
use Rattle.std.specs.List.{list_any}
use Rattle.std.proofs.Math.Bool.{or-false}
use Rattle.std.proofs.lemmas.Bool.{and_parts}
use Rattle.std.proofs.lemmas.List.{take_more, map-append}
use Rattle.std.proofs.lemmas.List.Elements.{filter-append}
use Rattle.lsn_core.specs.Relation.{Relation}
use Rattle.lsn_core.specs.declared.ids.ForkId.{ForkId}
use Rattle.lsn_core.specs.declared.ids.BlockId.{BlockId}
use Rattle.wal_record.specs.declared.record.Record.{Record}
use Rattle.wal_record.specs.declared.record.Kind.{Kind}
use Rattle.wal_record.specs.declared.record.Kind.TheVariants as kind
use Rattle.wal_record.specs.declared.record.BlockRef.{BlockRef}
use Rattle.history.specs.Entry.{Act, Truncate, Mark, IdleCut, Entry}
use Rattle.history.specs.Apply.{is_same_block, is_same_fork, main_fork, init_fork, is_fork_of, is_of_any}
use Rattle.history.specs.Whole.{item_of, is_named, is_patch, is_repeat, said_behind, said, cuts_main, commit_act, act_of, entry_of}
use Rattle.history.proofs.Names.{named_more, named_again}
use Rattle.history.specs.fuzzy_copies.Touches.{is_at, act_touches, limit_of}
use Rattle.history.specs.fuzzy_copies.Sound.{is_in, window}
use Rattle.history.specs.fuzzy_copies.Summary.{BlockRefTable, least, limit_in, is_listed, table_of, summed, both_summed, summary_of}
use Rattle.wal_summary.specs.Inside.{table_of_ref, limit_table, rel_table}
use Rattle.wal_summary.proofs.Tables.{same_table, one_summed, lists_summed, added_more}
use Rattle.wal_summary.proofs.Sums.{blocks_summed}

again : (s b n : Bool) → (n || s) ≡ n → (b || n) ≡ ((s || b) || n)
again true b true e = or_true b
  where
    or_true : (a : Bool) → (a || true) ≡ true
    or_true true = refl
    or_true false = refl
again true b false e = absurd (true≢false e)
again false b n e = refl

more_named : (s a b n : Bool) → (a || (n || s)) ≡ (b || (n || s)) → ((s || a) || n) ≡ ((s || b) || n)
more_named true a b n e = refl
more_named false a b true e = e
more_named false a b false e = e

-- a block is touched by what references say exactly where one of them is of it, or it was named
said_touches : (q : BlockId) (named : List BlockId) (blocks : List BlockRef) → (list_any (is_at q.fork q.block) (said_behind named blocks) || is_named q named) ≡ (list_any (λ b. is_same_block q b.at) blocks || is_named q named)
said_touches q named [] = refl
said_touches q named (block ∷ blocks) =
    let more : List BlockId = named ++ (block.at ∷ []) in
    let s = is_same_block q block.at in
    let told = list_any (is_at q.fork q.block) (said_behind more blocks) in
    let any = list_any (λ (b : BlockRef). is_same_block q b.at) blocks in
    let rest = said_touches q more blocks in
    let joined : is_named q more ≡ (is_named q named || s) = named_more q block.at named in
    elim (is_repeat named (item_of block)) as (λ r. is_repeat named (item_of block) ≡ r → (list_any (is_at q.fork q.block) (cond r (said_behind more blocks) (item_of block ∷ said_behind more blocks)) || is_named q named) ≡ ((s || any) || is_named q named)) [
      | true ↦ λ k.
          let same : is_named q more ≡ is_named q named = named_again q block.at named (and_parts (is_patch (item_of block).edit) (is_named block.at named) k).1 in
          subst (λ n. (told || n) ≡ (any || n)) same rest ∙ again s any (is_named q named) (sym joined ∙ same)
      | false ↦ λ k. more_named s told any (is_named q named) (subst (λ n. (told || n) ≡ (any || n)) joined rest)
    ] refl

-- what a kind of record says
abbrev pub table_of_kind : Kind → BlockRefTable
table_of_kind k = record { limit = λ f. limit_of f (act_of k); listed = λ f b. act_touches f b (act_of k) }

refs_touched : (f : ForkId) (b : ℕ) (blocks : List BlockRef) → list_any (λ (x : BlockRef). is_same_block (record { fork = f; block = b }) x.at) blocks ≡ list_any (is_at f b) (said blocks)
refs_touched f b blocks =
    let q : BlockId = record { fork = f; block = b } in
    sym (or-false _) ∙ sym (said_touches q [] blocks) ∙ or-false (list_any (is_at f b) (said blocks))

-- block references, in turn
pub refs_said : (blocks : List BlockRef) → summed (map table_of_ref blocks) ≡ table_of_kind (kind.Images blocks)
refs_said blocks =
    let each = blocks_summed (λ (x : BlockRef). x.at.fork) (λ x. x.at.block) blocks in
    same_table (summed (map table_of_ref blocks)) (table_of_kind (kind.Images blocks)) record {
      limit = λ f. each.limit f;
      listed = λ f b. each.listed f b ∙ refs_touched f b blocks;
    }

abbrev flagged : Relation → ℕ → ℕ → Bool → Act
flagged rel count flags t = cond t (Truncate rel count) (Mark (IdleCut rel count (flags / 2)))

abbrev table_of_act : Act → BlockRefTable
table_of_act act = record { limit = λ f. limit_of f act; listed = λ f b. act_touches f b act }

-- a truncation of the main fork, and of others alone
pub cut_said : (rel : Relation) (count flags : ℕ) → cuts_main flags ≡ true → limit_table (main_fork rel) (Some count) ≡ table_of_kind (kind.Truncate rel count flags)
cut_said rel count flags e = ap (λ t. table_of_act (flagged rel count flags t)) (sym e)

pub idle_said : (rel : Relation) (count flags : ℕ) → cuts_main flags ≡ false → summed [] ≡ table_of_kind (kind.Truncate rel count flags)
idle_said rel count flags e = ap (λ t. table_of_act (flagged rel count flags t)) (sym e)

-- a relation's forks, and those of several
two_dropped : (a b : Bool) → least (cond a (Some 0) None) (cond b (Some 0) None) ≡ cond (a || b) (Some 0) None
two_dropped true true = refl
two_dropped true false = refl
two_dropped false b = refl

rel_limited : (rel : Relation) → both_summed (limit_table (main_fork rel) (Some 0)) (limit_table (init_fork rel) (Some 0)) ≡ rel_table rel
rel_limited rel = same_table (both_summed (limit_table (main_fork rel) (Some 0)) (limit_table (init_fork rel) (Some 0))) (rel_table rel) record {
  limit = λ f. two_dropped (is_same_fork f (main_fork rel)) (is_same_fork f (init_fork rel));
  listed = λ f b. refl;
}

pub rel_added : (old mid new : BlockRefTable) (rel : Relation) (main init : ForkId) → main ≡ main_fork rel → init ≡ init_fork rel → mid ≡ both_summed old (limit_table main (Some 0)) → new ≡ both_summed mid (limit_table init (Some 0)) → new ≡ both_summed old (rel_table rel)
rel_added old mid new rel main init is_main is_init e f =
    added_more old mid new (limit_table (main_fork rel) (Some 0)) (limit_table (init_fork rel) (Some 0)) (e ∙ ap (λ (x : ForkId). both_summed old (limit_table x (Some 0))) is_main) (f ∙ ap (λ (x : ForkId). both_summed mid (limit_table x (Some 0))) is_init)
    ∙ ap (both_summed old) (rel_limited rel)

all_dropped : (f : ForkId) (rels : List Relation) → limit_in f (map rel_table rels) ≡ cond (is_of_any f rels) (Some 0) None
all_dropped f [] = refl
all_dropped f (rel ∷ rels) = ap (least (cond (is_fork_of f rel) (Some 0) None)) (all_dropped f rels) ∙ two_dropped (is_fork_of f rel) (is_of_any f rels)

none_listed : (f : ForkId) (b : ℕ) (rels : List Relation) → is_listed f b (map rel_table rels) ≡ false
none_listed f b [] = refl
none_listed f b (rel ∷ rels) = none_listed f b rels

-- relations that a commit drops
pub commit_said : (time : ℤ) (rels : List Relation) → summed (map rel_table rels) ≡ table_of_kind (kind.Commit time rels)
commit_said time [] = same_table (summed []) (table_of_kind (kind.Commit time [])) record { limit = λ f. refl; listed = λ f b. refl }
commit_said time (rel ∷ rels) = same_table (summed (map rel_table (rel ∷ rels))) (table_of_kind (kind.Commit time (rel ∷ rels))) record {
  limit = λ f. all_dropped f (rel ∷ rels);
  listed = λ f b. none_listed f b (rel ∷ rels);
}

-- an entry that starts in a range, and one that doesn't
pub entry_in : (from to : ℕ) (e : Entry) → is_in from to e ≡ true → table_of e ≡ summary_of (e ∷ []) from to
entry_in from to e k = sym (one_summed (table_of e)) ∙ ap (λ t. summed (map table_of (cond t (e ∷ []) []))) (sym k)

pub entry_out : (from to : ℕ) (e : Entry) → is_in from to e ≡ false → summed [] ≡ summary_of (e ∷ []) from to
entry_out from to e k = ap (λ t. summed (map table_of (cond t (e ∷ []) []))) (sym k)

-- the summary of entries and of more behind them
summaries_append : (xs ys : List Entry) (from to : ℕ) → summary_of (xs ++ ys) from to ≡ both_summed (summary_of xs from to) (summary_of ys from to)
summaries_append xs ys from to =
    ap (λ es. summed (map table_of es)) (filter-append (is_in from to) xs ys) ∙ ap summed (map-append table_of (window xs from to) (window ys from to))
    ∙ lists_summed (map table_of (window xs from to)) (map table_of (window ys from to))

-- one record more
pub record_added : (from to : ℕ) (old mid new : BlockRefTable) (recs : List Record) (i : ℕ) (d : Record) → i < length recs
    → mid ≡ both_summed old (summary_of (map entry_of (take i recs)) from to) → new ≡ both_summed mid (summary_of (entry_of (get_or recs i d) ∷ []) from to)
    → new ≡ both_summed old (summary_of (map entry_of (take (i + 1) recs)) from to)
record_added from to old mid new recs i d lt e f =
    let before = map entry_of (take i recs) in
    let one = entry_of (get_or recs i d) ∷ [] in
    added_more old mid new (summary_of before from to) (summary_of one from to) e f
    ∙ ap (both_summed old) (sym (summaries_append before one from to) ∙ ap (λ es. summary_of es from to) (sym (ap (map entry_of) (take_more recs i d lt) ∙ map-append entry_of (take i recs) (get_or recs i d ∷ []))))
