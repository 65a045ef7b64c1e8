-- Which entries touched a block last, and that what isn't touched was there before.
use Rattle.std.proofs.Common.{◌≡◌, ℕ, zero, suc, ◌<◌, ◌≤◌, ◌⊎◌, ⊎_elim, inl, inr, Bool, true, false, cond, ◌||◌, true≢false, List, [], ◌∷◌, map, length, fold, is_some, Option, Some, None, refl, sym, ap, subst, ◌∙◌, arith}
use Rattle.std.specs.Prelude.{nat_le, slice_get}
use Rattle.std.specs.List.{AllByRecursion, list_any, filter}
use Rattle.std.specs.FinMap.{get, empty, get-empty}
use Rattle.std.proofs.lemmas.Bool.{and_parts, or_parts}
use Rattle.std.proofs.lemmas.Bool.Decides.{leb_tells}
use Rattle.lsn_core.specs.byte_words.Numbers.{◌>>=◌}
use Rattle.lsn_core.specs.Relation.{Relation}
use Rattle.lsn_core.specs.declared.ids.ForkId.{ForkId}
use Rattle.lsn_core.specs.declared.ids.BlockId.{BlockId}
use Rattle.lsn_core.specs.Store.{Store, ForkPages, fork_cmp}
use Rattle.lsn_core.specs.Blocks.{block_of}
use Rattle.history.specs.declared.op.Item.{Item}
use Rattle.history.specs.Entry.{Act, Create, Truncate, Change, Drop, Mark, Entry}
use Rattle.history.specs.Apply.{edited, main_fork, init_fork, is_same_fork, is_fork_of, is_of_any, apply, apply_act, apply_all}
use Rattle.history.specs.Op.{IsTidy}
use Rattle.history.proofs.Stores.{by_test, fork_is, block_is}
use Rattle.history.specs.partitions.Parts.{is_of, is_item_of, is_rel_of, act_part, part_of, IsPart, act_concerns, concerns}
use Rattle.history.proofs.partitions.Folds.{parts_fold}
use Rattle.history.specs.fuzzy_copies.Touches.{is_at, act_touches, act_cuts, act_settles, touches, resets, settles}
use Rattle.history.specs.fuzzy_copies.Effects.{Clear, Stay, after}
use Rattle.history.specs.fuzzy_copies.Covers.{AreTidy}
use Rattle.history.proofs.fuzzy_copies.View.{middle, act_view}
use Rattle.history.proofs.fuzzy_copies.Kept.{entries_keep}
use Rattle.page_pool.specs.Facts.{touch_over}

-- ---- the last touch

abbrev pub EndBehind : ℕ → Entry → Type 0
EndBehind flushed e = flushed < e.end

touched_over : (t : Bool) (new end : ℕ) (last : Option ℕ) → cond t (Some new) last ≡ Some end → ((t ≡ true) × (new ≡ end)) ⊎ ((t ≡ false) × (last ≡ Some end))
touched_over true new end last e = inl (refl, one new end e)
  where
    one : (a b : ℕ) → Some a ≡ Some b → a ≡ b
    one a b e = cc
touched_over false new end last e = inr (refl, e)

-- entries that end past a place didn't touch the block last, where the last touch ends there or before
pub later_leave : (fork : ForkId) (block flushed end : ℕ) (es : List Entry) (x : Option ℕ) → AllByRecursion (EndBehind flushed) es → fold (touch_over fork block) x es ≡ Some end → end ≤ flushed → (list_any (touches fork block) es ≡ false) × (x ≡ Some end)
later_leave fork block flushed end [] x all e le = (refl, e)
later_leave fork block flushed end (y ∷ es) x all e le =
    let rest = later_leave fork block flushed end es (touch_over fork block x y) all.1 e le in
    ⊎_elim
    (λ hit. let late : flushed < y.end = all.0 in let is = hit.1 in absurd (omega (arith, late, is, le)))
    (λ miss. (ap (λ (b : Bool). b || list_any (touches fork block) es) miss.0 ∙ rest.0, miss.1))
    (touched_over (touches fork block y) y.end end x rest.1)

-- the parts of entries end where these do, and so do those from a place on
pub part_ends : (q flushed : ℕ) (es : List Entry) → AllByRecursion (EndBehind flushed) es → AllByRecursion (EndBehind flushed) (map (part_of q) es)
part_ends q flushed [] all = tt
part_ends q flushed (e ∷ es) all = (all.0, part_ends q flushed es all.1)

-- ---- entries that concern the partition

or_right : (a b : Bool) → b ≡ true → (a || b) ≡ true
or_right true b k = refl
or_right false b k = k

-- an item of the partition stands among its own
own_items : (q : ℕ) (fork : ForkId) (block : ℕ) (items : List Item) → is_of q fork ≡ true → list_any (is_at fork block) items ≡ true → list_any (is_at fork block) (filter (is_item_of q) items) ≡ true
own_items q fork block [] mine some = some
own_items q fork block (item ∷ items) mine some =
    let own = filter (is_item_of q) items in
    by_test (is_at fork block item)
    (λ here.
    let same = block_is (record { fork = fork; block = block }) item.at here in
    let kept : is_item_of q item ≡ true = ap (λ (at : BlockId). is_of q at.fork) (sym same) ∙ mine in
    ap (λ (c : Bool). list_any (is_at fork block) (cond c (item ∷ own) own)) kept ∙ ap (λ (c : Bool). c || list_any (is_at fork block) own) here)
    (λ away.
    let rest = own_items q fork block items mine (sym (ap (λ (c : Bool). c || list_any (is_at fork block) items) away) ∙ some) in
    by_test (is_item_of q item)
    (λ kept. ap (λ (c : Bool). list_any (is_at fork block) (cond c (item ∷ own) own)) kept ∙ or_right (is_at fork block item) (list_any (is_at fork block) own) rest)
    (λ out. ap (λ (c : Bool). list_any (is_at fork block) (cond c (item ∷ own) own)) out ∙ rest))

own_touches : (q : ℕ) (fork : ForkId) (block : ℕ) (e : Entry) → is_of q fork ≡ true → touches fork block e ≡ true → touches fork block (part_of q e) ≡ true
own_touches q fork block e mine some = by e.act some
  where
    by : (act : Act) → act_touches fork block act ≡ true → act_touches fork block (act_part q act) ≡ true
    by (Create made) h = absurd (true≢false (sym h))
    by (Truncate rel count) h = absurd (true≢false (sym h))
    by (Change items) h = own_items q fork block items mine h
    by (Drop rels) h = absurd (true≢false (sym h))
    by (Mark marking) h = absurd (true≢false (sym h))

pub untouched : (q : ℕ) (fork : ForkId) (block : ℕ) (es : List Entry) → is_of q fork ≡ true → list_any (touches fork block) (map (part_of q) es) ≡ false → list_any (touches fork block) es ≡ false
untouched q fork block [] mine none = refl
untouched q fork block (e ∷ es) mine none =
    let p = or_parts (touches fork block (part_of q e)) (list_any (touches fork block) (map (part_of q) es)) none in
    let first : touches fork block e ≡ false = by_test (touches fork block e) (λ some. absurd (true≢false (sym (own_touches q fork block e mine some) ∙ p.0))) (λ no. no) in
    ap (λ (c : Bool). c || list_any (touches fork block) es) first ∙ untouched q fork block es mine p.1

-- what changes a block of the partition, or settles a fork of it, concerns the partition
item_concerns : (q : ℕ) (fork : ForkId) (block : ℕ) (items : List Item) → is_of q fork ≡ true → list_any (is_at fork block) items ≡ true → list_any (is_item_of q) items ≡ true
item_concerns q fork block [] mine some = some
item_concerns q fork block (item ∷ items) mine some =
    by_test (is_at fork block item)
    (λ here.
    let same = block_is (record { fork = fork; block = block }) item.at here in
    ap (λ (c : Bool). c || list_any (is_item_of q) items) (ap (λ (at : BlockId). is_of q at.fork) (sym same) ∙ mine))
    (λ away. or_right (is_item_of q item) (list_any (is_item_of q) items) (item_concerns q fork block items mine (sym (ap (λ (c : Bool). c || list_any (is_at fork block) items) away) ∙ some)))

fork_concerns : (q : ℕ) (fork other : ForkId) → is_of q fork ≡ true → is_same_fork fork other ≡ true → is_of q other ≡ true
fork_concerns q fork other mine same = ap (is_of q) (sym (fork_is fork other same)) ∙ mine

rel_concerns : (q : ℕ) (fork : ForkId) (rels : List Relation) → is_of q fork ≡ true → is_of_any fork rels ≡ true → list_any (is_rel_of q) rels ≡ true
rel_concerns q fork [] mine some = some
rel_concerns q fork (rel ∷ rels) mine some =
    by_test (is_same_fork fork (main_fork rel))
    (λ main. ap (λ (c : Bool). c || list_any (is_rel_of q) rels) (fork_concerns q fork (main_fork rel) mine main))
    (λ other.
    by_test (is_same_fork fork (init_fork rel))
    (λ init. ap (λ (c : Bool). c || list_any (is_rel_of q) rels) (fork_concerns q fork (init_fork rel) mine init))
    (λ none.
    let here : is_fork_of fork rel ≡ false = ap (λ (c : Bool). c || is_same_fork fork (init_fork rel)) other ∙ none in
    or_right (is_rel_of q rel) (list_any (is_rel_of q) rels) (rel_concerns q fork rels mine (sym (ap (λ (c : Bool). c || is_of_any fork rels) here) ∙ some))))

reset_concerns : (q : ℕ) (fork : ForkId) (block : ℕ) (act : Act) → is_of q fork ≡ true → (act_touches fork block act || act_cuts fork block act) ≡ true → act_concerns q act ≡ true
reset_concerns q fork block (Create made) mine h = absurd (true≢false (sym h))
reset_concerns q fork block (Truncate rel count) mine h = fork_concerns q fork (main_fork rel) mine (and_parts (is_same_fork fork (main_fork rel)) (nat_le count block) h).0
reset_concerns q fork block (Change items) mine h =
    by_test (list_any (is_at fork block) items)
    (λ some. item_concerns q fork block items mine some)
    (λ none. absurd (true≢false (sym h ∙ ap (λ (c : Bool). c || false) none)))
reset_concerns q fork block (Drop rels) mine h = rel_concerns q fork rels mine h
reset_concerns q fork block (Mark marking) mine h = absurd (true≢false (sym h))

settle_concerns : (q : ℕ) (fork : ForkId) (act : Act) → is_of q fork ≡ true → act_settles fork act ≡ true → act_concerns q act ≡ true
settle_concerns q fork (Create made) mine h = fork_concerns q fork made mine h
settle_concerns q fork (Truncate rel count) mine h = absurd (true≢false (sym h))
settle_concerns q fork (Change items) mine h = absurd (true≢false (sym h))
settle_concerns q fork (Drop rels) mine h = rel_concerns q fork rels mine h
settle_concerns q fork (Mark marking) mine h = absurd (true≢false (sym h))

none_weaker : (t u : Entry → Bool) (es : List Entry) → ((e : Entry) → u e ≡ true → t e ≡ true) → list_any t es ≡ false → list_any u es ≡ false
none_weaker t u [] leads none = refl
none_weaker t u (e ∷ es) leads none =
    let p = or_parts (t e) (list_any t es) none in
    let first : u e ≡ false = by_test (u e) (λ some. absurd (true≢false (sym (leads e some) ∙ p.0))) (λ no. no) in
    ap (λ (c : Bool). c || list_any u es) first ∙ none_weaker t u es leads p.1

-- so entries of others change no block of the partition, and settle none of its forks
pub others_reset : (q : ℕ) (fork : ForkId) (block : ℕ) (es : List Entry) → is_of q fork ≡ true → list_any (concerns q) es ≡ false → list_any (resets fork block) es ≡ false
others_reset q fork block es mine none = none_weaker (concerns q) (resets fork block) es (λ e h. reset_concerns q fork block e.act mine h) none

pub others_settle : (q : ℕ) (fork : ForkId) (es : List Entry) → is_of q fork ≡ true → list_any (concerns q) es ≡ false → list_any (settles fork) es ≡ false
others_settle q fork es mine none = none_weaker (concerns q) (settles fork) es (λ e h. settle_concerns q fork e.act mine h) none

-- ---- a block that is there, and that entries didn't touch, was there before them

gone : (o : Option (List ℕ)) → Some None ≡ Some o → is_some o ≡ true → ⊥
gone None e there = absurd cc
gone (Some page) e there = absurd cc

kept_act : (store next : Store) (e : Entry) (fork : ForkId) (block : ℕ) → IsTidy store e.act → apply store e ≡ Some next → resets fork block e ≡ false → block_of next fork block ≡ block_of store fork block
kept_act store next e fork block tidy made none =
    entries_keep store next (e ∷ []) fork block (tidy, λ n m. tt) (ap (λ (o : Option Store). o >>= λ s. Some s) made) (ap (λ (b : Bool). b || false) none)

cut_is_gone : (end : ℕ) (store next : Store) (act : Act) (fork : ForkId) (block : ℕ) → apply_act end store act ≡ Some next → act_cuts fork block act ≡ true → is_some (block_of next fork block) ≡ true → ⊥
cut_is_gone end store next (Create made) fork block e cuts there = absurd cc
cut_is_gone end store next (Truncate rel count) fork block e cuts there =
    gone (block_of next fork block) (sym (ap (λ s. after edited (cond s Clear Stay) (block_of store fork block) >>= λ n. Some n) cuts) ∙ act_view edited end store next (Truncate rel count) e fork block) there
cut_is_gone end store next (Change items) fork block e cuts there = absurd cc
cut_is_gone end store next (Drop rels) fork block e cuts there =
    gone (block_of next fork block) (sym (ap (λ s. after edited (cond s Clear Stay) (block_of store fork block) >>= λ n. Some n) cuts) ∙ act_view edited end store next (Drop rels) e fork block) there
cut_is_gone end store next (Mark marking) fork block e cuts there = absurd cc

either : (a b : Bool) → a ≡ false → b ≡ false → (a || b) ≡ false
either a b e f = ap (λ (c : Bool). c || b) e ∙ f

pub was_there : (store next : Store) (es : List Entry) (fork : ForkId) (block : ℕ) → AreTidy store es → apply_all store es ≡ Some next → list_any (touches fork block) es ≡ false → is_some (block_of next fork block) ≡ true → is_some (block_of store fork block) ≡ true
was_there store next [] fork block tidy e none there = let same : store ≡ next = cc in ap (λ (s : Store). is_some (block_of s fork block)) same ∙ there
was_there store next (x ∷ es) fork block tidy e none there =
    let p = or_parts (touches fork block x) (list_any (touches fork block) es) none in
    middle (apply store x) (λ s. apply_all s es) next e (λ s first rest.
    let here = was_there s next es fork block (tidy.1 s first) rest p.1 there in
    by_test (act_cuts fork block x.act)
    (λ cuts. absurd (cut_is_gone x.end store s x.act fork block first cuts here))
    (λ uncut. ap (λ (o : Option (List ℕ)). is_some o) (sym (kept_act store s x fork block tidy.0 first (either (act_touches fork block x.act) (act_cuts fork block x.act) p.0 uncut))) ∙ here))

-- ---- blocks and forks of one store

pub in_fork : (o : Option ForkPages) (b : ℕ) → is_some (o >>= λ ps. slice_get ps b) ≡ true → is_some o ≡ true
in_fork None b e = absurd cc
in_fork (Some pages) b e = refl

-- a block that is there is below one that isn't
pub lower : (o : Option ForkPages) (b c : ℕ) → is_some (o >>= λ ps. slice_get ps b) ≡ true → (o >>= λ ps. slice_get ps c) ≡ None → b < c
lower None b c there none = absurd cc
lower (Some pages) b c there none =
    ⊎_elim (λ x. x.1) (λ x.
    absurd (apart (some_at pages b there) (missing pages c none) (omega (arith, x.1))))
    (leb_tells (suc b) c)
  where
    some_at : (xs : ForkPages) (i : ℕ) → is_some (slice_get xs i) ≡ true → i < length xs
    some_at [] zero e = absurd cc
    some_at [] (suc i) e = absurd cc
    some_at (x ∷ xs) zero e = omega arith
    some_at (x ∷ xs) (suc i) e = let h = some_at xs i e in omega (arith, h)

    missing : (xs : ForkPages) (i : ℕ) → slice_get xs i ≡ None → length xs ≤ i
    missing [] i e = omega arith
    missing (x ∷ xs) zero e = absurd cc
    missing (x ∷ xs) (suc i) e = let h = missing xs i e in omega (arith, h)

    apart : b < length pages → length pages ≤ c → c ≤ b → ⊥
    apart l m n = omega (arith, l, m, n)

-- ---- a partition's part of a store

-- nothing has an empty part
none_of_nothing : (q : ℕ) → IsPart q empty empty
none_of_nothing q fork =
    let nothing : Store = empty in
    elim (is_of q fork) as (λ (c : Bool). get nothing fork ≡ cond c (get nothing fork) None) [ true ↦ refl | false ↦ get-empty fork_cmp fork ]

-- what a history's parts make is the part of what the history makes
pub part_now : (q : ℕ) (history : List Entry) (part now : Store) → apply_all empty history ≡ Some now → apply_all empty (map (part_of q) history) ≡ Some part → IsPart q now part
part_now q history part now made own =
    let folded = parts_fold q empty now empty history (none_of_nothing q) made in
    let same : folded.0 ≡ part = let f = folded.1 in cc in
    subst (λ (s : Store). IsPart q now s) same folded.2
