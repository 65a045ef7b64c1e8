-- What a disk lacks after acts in frames, and after writes.
use Rattle.std.proofs.Common.{◌≡◌, ℕ, ◌<◌, Bool, true, false, cond, not, ◌&&◌, ◌||◌, List, [], ◌∷◌, ◌++◌, map, inl, inr, Option, Some, None, unwrap_or, is_some, refl, ap, sym, ◌∙◌, arith, true≢false}
use Rattle.std.specs.Prelude.{◌==◌, nat_le, nat_lt, slice_get}
use Rattle.std.specs.List.{list_any}
use Rattle.std.specs.FinMap.{get, get-remove, contains_key}
use Rattle.std.proofs.lemmas.Bool.{or_parts, and_parts, ltb-true, lt-ltb}
use Rattle.std.proofs.lemmas.List.Folds.{list_any-append}
use Rattle.std.proofs.Math.Bool.{and-false, and-true, or-false, or-true}
use Rattle.lsn_core.specs.byte_words.Numbers.{◌>>=◌}
use Rattle.lsn_core.specs.Relation.{Relation}
use Rattle.lsn_core.proofs.ForkOrder.{fork_cmp_total}
use Rattle.lsn_core.specs.declared.ids.ForkId.{ForkId}
use Rattle.lsn_core.specs.declared.ids.BlockId.{BlockId}
use Rattle.lsn_core.specs.Store.{Store, ForkPages}
use Rattle.lsn_core.specs.Blocks.{block_of, block_count, pages_of, with_block, page_put, with_fork, with_cut, without_fork}
use Rattle.pg_page.specs.Header.{zero_page}
use Rattle.history.specs.declared.op.Edit.{Edit}
use Rattle.history.specs.declared.op.Edit.TheVariants.{Put}
use Rattle.history.specs.declared.op.Item.{Item}
use Rattle.history.specs.Entry.{Act, Create, Truncate, Change, Drop, Mark, Entry}
use Rattle.history.specs.Apply.{Rule, main_fork, init_fork, without_rel, without_rels, page_at, edited, is_same_fork, is_of_any, is_same_block, apply_act}
use Rattle.history.specs.Op.{IsTidyCut, IsTidy}
use Rattle.history.specs.Whole.{is_named}
use Rattle.history.proofs.Stores.{by_test, block_is, block_self, fork_is, page_found}
use Rattle.history.specs.fuzzy_copies.Touches.{is_at, act_touches, act_cuts, act_settles}
use Rattle.history.specs.fuzzy_copies.Effects.{Stay, Reach, Alter, Clear, after, after_all, is_past, item_effect}
use Rattle.history.proofs.fuzzy_copies.Pages.{put_view, cut_view, drop_view, fork_view, absorbed, contains_key-insert, contains_key-with_fork, contains_key-with_cut}
use Rattle.history.proofs.fuzzy_copies.View.{middle, mapped, act_view, act_forks}
use Rattle.history.proofs.fuzzy_copies.Completed.{either_none}
use Rattle.history.proofs.fuzzy_copies.Taken.{listed_blocks}
use Rattle.history.proofs.fuzzy_copies.Kept.{entries_keep, forks_keep}
use Rattle.store_core.specs.declared.step.Work.{Work}
use Rattle.store_core.specs.declared.step.Work.TheVariants.{Make, Cut, Remove}
use Rattle.store_core.specs.Parts.{dirty_after, with_removal, works_dropped, works_after, work_done}
use Rattle.store_core.specs.Facts.{is_dirty, work_settles, work_cuts, is_to_settle, is_to_cut, there_after, there_behind, LacksUnwritten}
use Rattle.store_core.proofs.Dirty.{clean_before, dirty_before, uncut_dirty}

neither : (a b : Bool) → a ≡ false → b ≡ false → (a || b) ≡ false
neither a b none other = ap (λ c. c || b) none ∙ other

-- ---- a fork that is taken away

pub removed : (store : Store) (gone fork : ForkId) → get (without_fork store gone) fork ≡ cond (is_same_fork fork gone) None (get store fork)
unfolding is_same_fork
removed store gone fork = get-remove fork_cmp_total store gone fork

contains_removed : (store : Store) (gone fork : ForkId) → contains_key (without_fork store gone) fork ≡ (contains_key store fork && not (is_same_fork fork gone))
contains_removed store gone fork = ap (λ (o : Option ForkPages). is_some o) (removed store gone fork) ∙ go (is_same_fork fork gone) (get store fork)
  where
    go : (c : Bool) (o : Option ForkPages) → is_some (cond c None o) ≡ (is_some o && not c)
    go true None = refl
    go true (Some pages) = refl
    go false None = refl
    go false (Some pages) = refl

block_removed : (store : Store) (gone fork : ForkId) (b : ℕ) → block_of (without_fork store gone) fork b ≡ cond (is_same_fork fork gone) None (block_of store fork b)
block_removed store gone fork b = ap (λ (o : Option ForkPages). o >>= λ pages. slice_get pages b) (removed store gone fork) ∙ go (is_same_fork fork gone)
  where
    go : (c : Bool) → (cond c None (get store fork) >>= λ pages. slice_get pages b) ≡ cond c None (get store fork >>= λ pages. slice_get pages b)
    go true = refl
    go false = refl

-- ---- what is pending after an act

of_one : (frames : Store) (gone fork : ForkId) → (contains_key frames gone && is_same_fork fork gone) ≡ (contains_key frames fork && is_same_fork fork gone)
of_one frames gone fork =
    let none = λ (c : Bool) (apart : is_same_fork fork gone ≡ false). ap (λ s. c && s) apart ∙ and-false c in
    by_test (is_same_fork fork gone)
    (λ here. ap (λ (f : ForkId). contains_key frames f && is_same_fork fork gone) (sym (fork_is fork gone here)))
    (λ apart. none (contains_key frames gone) apart ∙ sym (none (contains_key frames fork) apart))

-- a removal is entered of a fork that is there
removal_cuts : (frames : Store) (works : List Work) (gone fork : ForkId) (b : ℕ) → is_to_cut (with_removal frames works gone) fork b ≡ (is_to_cut works fork b || (contains_key frames fork && is_same_fork fork gone))
removal_cuts frames works gone fork b = go (contains_key frames gone) ∙ ap (λ c. is_to_cut works fork b || c) (of_one frames gone fork)
  where
    go : (c : Bool) → is_to_cut (cond c (works ++ (Remove gone ∷ [])) works) fork b ≡ (is_to_cut works fork b || (c && is_same_fork fork gone))
    go true = list_any-append (work_cuts fork b) works (Remove gone ∷ []) ∙ ap (λ c. is_to_cut works fork b || c) (or-false (is_same_fork fork gone))
    go false = sym (or-false (is_to_cut works fork b))

of_all : (a c m i r : Bool) → (((a || (c && m)) || ((c && not m) && i)) || (((c && not m) && not i) && r)) ≡ (a || (c && ((m || i) || r)))
of_all true c m i r = refl
of_all false false m i r = refl
of_all false true true i r = refl
of_all false true false true r = refl
of_all false true false false r = refl

dropped_cuts : (frames : Store) (works : List Work) (rels : List Relation) (fork : ForkId) (b : ℕ) → is_to_cut (works_dropped frames works rels) fork b ≡ (is_to_cut works fork b || (contains_key frames fork && is_of_any fork rels))
dropped_cuts frames works [] fork b = sym (ap (λ c. is_to_cut works fork b || c) (and-false (contains_key frames fork)) ∙ or-false (is_to_cut works fork b))
dropped_cuts frames works (rel ∷ rels) fork b =
    let main = main_fork rel in
    let init = init_fork rel in
    let less = without_fork frames main in
    let more = with_removal frames works main in
    let cut = is_to_cut works fork b in
    let there = contains_key frames fork in
    let rest = is_of_any fork rels in
    dropped_cuts (without_rel frames rel) (with_removal less more init) rels fork b
    ∙ ap (λ c. c || (contains_key (without_rel frames rel) fork && rest)) (removal_cuts less more init fork b)
    ∙ ap (λ c. (c || (contains_key less fork && is_same_fork fork init)) || (contains_key (without_rel frames rel) fork && rest)) (removal_cuts frames works main fork b)
    ∙ ap (λ c. ((cut || (there && is_same_fork fork main)) || (contains_key less fork && is_same_fork fork init)) || (c && rest)) (contains_removed less init fork)
    ∙ ap (λ c. ((cut || (there && is_same_fork fork main)) || (c && is_same_fork fork init)) || ((c && not (is_same_fork fork init)) && rest)) (contains_removed frames main fork)
    ∙ of_all cut there (is_same_fork fork main) (is_same_fork fork init) rest

-- a fork that is cut to a length is there
cut_there : (frames : Store) (rel : Relation) (count : ℕ) (fork : ForkId) (b : ℕ) → IsTidyCut frames (main_fork rel) count → act_cuts fork b (Truncate rel count) ≡ (contains_key frames fork && act_cuts fork b (Truncate rel count))
cut_there frames rel count fork b tidy =
    let cuts = act_cuts fork b (Truncate rel count) in
    by_test (is_same_fork fork (main_fork rel))
    (λ here.
    let there : contains_key frames fork ≡ true = ap (contains_key frames) (fork_is fork (main_fork rel) here) ∙ ap (λ (o : Option ForkPages). is_some o) tidy.there in
    sym (ap (λ c. c && cuts) there))
    (λ apart.
    let none : cuts ≡ false = ap (λ c. c && nat_le count b) apart in
    none ∙ sym (ap (λ c. contains_key frames fork && c) none ∙ and-false (contains_key frames fork)))

none_cut : (a c : Bool) → a ≡ (a || (c && false))
none_cut a c = sym (ap (λ d. a || d) (and-false c) ∙ or-false a)

-- what an act cuts off of the forks that are there is to be cut then
pub to_cut_after : (frames : Store) (works : List Work) (act : Act) (fork : ForkId) (b : ℕ) → IsTidy frames act → is_to_cut (works_after frames works act) fork b ≡ (is_to_cut works fork b || (contains_key frames fork && act_cuts fork b act))
to_cut_after frames works (Create made) fork b tidy =
    list_any-append (work_cuts fork b) works (Make made ∷ []) ∙ or-false (is_to_cut works fork b) ∙ none_cut (is_to_cut works fork b) (contains_key frames fork)
to_cut_after frames works (Truncate rel count) fork b tidy =
    list_any-append (work_cuts fork b) works (Cut (main_fork rel) count ∷ [])
    ∙ ap (λ c. is_to_cut works fork b || c) (or-false (act_cuts fork b (Truncate rel count)) ∙ cut_there frames rel count fork b tidy)
to_cut_after frames works (Change items) fork b tidy = none_cut (is_to_cut works fork b) (contains_key frames fork)
to_cut_after frames works (Drop rels) fork b tidy = dropped_cuts frames works rels fork b
to_cut_after frames works (Mark marking) fork b tidy = none_cut (is_to_cut works fork b) (contains_key frames fork)

-- one more work behind others
behind_push : (works : List Work) (work : Work) (fork : ForkId) (there : Bool) → there_behind (works ++ (work ∷ [])) fork there ≡ there_after fork (there_behind works fork there) work
behind_push [] work fork there = refl
behind_push (w ∷ works) work fork there = behind_push works work fork (there_after fork there w)

-- works that don't settle a fork leave it
pub unsettled : (works : List Work) (fork : ForkId) (there : Bool) → is_to_settle works fork ≡ false → there_behind works fork there ≡ there
unsettled [] fork there none = refl
unsettled (w ∷ works) fork there none =
    let p = or_parts (work_settles fork w) (is_to_settle works fork) none in
    ap (there_behind works fork) (by w p.0) ∙ unsettled works fork there p.1
  where
    by : (work : Work) → work_settles fork work ≡ false → there_after fork there work ≡ there
    by (Make made) e = ap (λ c. there || c) e ∙ or-false there
    by (Cut cut count) e = refl
    by (Remove gone) e = ap (λ c. there && not c) e ∙ and-true there

once : (t s : Bool) → (t && not (t && s)) ≡ (t && not s)
once true s = refl
once false s = refl

-- the forks that there are once removals are done
removal_forks : (frames : Store) (works : List Work) (gone fork : ForkId) (there : Bool) → there_behind works fork there ≡ contains_key frames fork → there_behind (with_removal frames works gone) fork there ≡ contains_key (without_fork frames gone) fork
removal_forks frames works gone fork there h =
    let now = contains_key frames fork in
    go (contains_key frames gone) ∙ ap (λ c. now && not c) (of_one frames gone fork) ∙ once now (is_same_fork fork gone) ∙ sym (contains_removed frames gone fork)
  where
    go : (c : Bool) → there_behind (cond c (works ++ (Remove gone ∷ [])) works) fork there ≡ (contains_key frames fork && not (c && is_same_fork fork gone))
    go true = behind_push works (Remove gone) fork there ∙ ap (λ c. c && not (is_same_fork fork gone)) h
    go false = h ∙ sym (and-true (contains_key frames fork))

dropped_forks : (frames : Store) (works : List Work) (rels : List Relation) (fork : ForkId) (there : Bool) → there_behind works fork there ≡ contains_key frames fork → there_behind (works_dropped frames works rels) fork there ≡ contains_key (without_rels frames rels) fork
dropped_forks frames works [] fork there h = h
dropped_forks frames works (rel ∷ rels) fork there h =
    let main = main_fork rel in
    let init = init_fork rel in
    let less = without_fork frames main in
    let more = with_removal frames works main in
    dropped_forks (without_rel frames rel) (with_removal less more init) rels fork there (removal_forks less more init fork there (removal_forks frames works main fork there h))

-- ---- what an act leaves

-- an act as an entry
abbrev entry_at : ℕ → Act → Entry
entry_at end act = record { act = act; start = 0; end = end; worker = None; seq = None }

act_keeps : (end : ℕ) (store next : Store) (act : Act) (fork : ForkId) (b : ℕ) → IsTidy store act → apply_act end store act ≡ Some next → (act_touches fork b act || act_cuts fork b act) ≡ false → block_of next fork b ≡ block_of store fork b
act_keeps end store next act fork b tidy e none =
    entries_keep store next (entry_at end act ∷ []) fork b (tidy, λ s _. tt) (ap (λ (o : Option Store). o >>= λ s. Some s) e) (or-false (act_touches fork b act || act_cuts fork b act) ∙ none)

act_forks_keep : (end : ℕ) (store next : Store) (act : Act) (fork : ForkId) → IsTidy store act → apply_act end store act ≡ Some next → act_settles fork act ≡ false → contains_key next fork ≡ contains_key store fork
act_forks_keep end store next act fork tidy e none = forks_keep store next (entry_at end act ∷ []) fork (tidy, λ s _. tt) (ap (λ (o : Option Store). o >>= λ s. Some s) e) (or-false (act_settles fork act) ∙ none)

cut_or_not : (c : Bool) (o p : Option (List ℕ)) → after edited (cond c Clear Stay) o ≡ Some p → p ≡ cond c None o
cut_or_not true o p e = cc
cut_or_not false o p e = cc

pub cut_block : (store : Store) (cut : ForkId) (count : ℕ) (fork : ForkId) (b : ℕ) → block_of (with_cut store cut count) fork b ≡ cond (is_same_fork fork cut && nat_le count b) None (block_of store fork b)
cut_block store cut count fork b = cut_or_not (is_same_fork fork cut && nat_le count b) (block_of store fork b) (block_of (with_cut store cut count) fork b) (cut_view edited store cut count fork b)

drop_block : (store : Store) (rels : List Relation) (fork : ForkId) (b : ℕ) → block_of (without_rels store rels) fork b ≡ cond (is_of_any fork rels) None (block_of store fork b)
drop_block store rels fork b = cut_or_not (is_of_any fork rels) (block_of store fork b) (block_of (without_rels store rels) fork b) (drop_view edited store rels fork b)

act_gone : (end : ℕ) (store next : Store) (act : Act) (fork : ForkId) (b : ℕ) → apply_act end store act ≡ Some next → act_cuts fork b act ≡ true → block_of next fork b ≡ None
act_gone end store next (Create made) fork b e cut = absurd (true≢false (sym cut))
act_gone end store next (Truncate rel count) fork b e cut =
    let done : with_cut store (main_fork rel) count ≡ next = cc in
    ap (λ (s : Store). block_of s fork b) (sym done) ∙ cut_block store (main_fork rel) count fork b ∙ ap (λ c. cond c None (block_of store fork b)) cut
act_gone end store next (Change items) fork b e cut = absurd (true≢false (sym cut))
act_gone end store next (Drop rels) fork b e cut =
    let done : without_rels store rels ≡ next = cc in
    ap (λ (s : Store). block_of s fork b) (sym done) ∙ drop_block store rels fork b ∙ ap (λ c. cond c None (block_of store fork b)) cut
act_gone end store next (Mark marking) fork b e cut = absurd (true≢false (sym cut))

-- the forks that there are once the works after an act are done
forks_entered : (end : ℕ) (frames next : Store) (works : List Work) (act : Act) (fork : ForkId) (there : Bool) → IsTidy frames act → apply_act end frames act ≡ Some next → there_behind works fork there ≡ contains_key frames fork
    → there_behind (works_after frames works act) fork there ≡ contains_key next fork
forks_entered end frames next works (Create made) fork there tidy e h = behind_push works (Make made) fork there ∙ ap (λ c. c || is_same_fork fork made) h ∙ sym (act_forks edited end frames next (Create made) e fork)
forks_entered end frames next works (Truncate rel count) fork there tidy e h = behind_push works (Cut (main_fork rel) count) fork there ∙ h ∙ sym (act_forks edited end frames next (Truncate rel count) e fork)
forks_entered end frames next works (Change items) fork there tidy e h = h ∙ sym (act_forks_keep end frames next (Change items) fork tidy e refl)
forks_entered end frames next works (Drop rels) fork there tidy e h =
    let done : without_rels frames rels ≡ next = cc in
    dropped_forks frames works rels fork there h ∙ ap (λ (s : Store). contains_key s fork) done
forks_entered end frames next works (Mark marking) fork there tidy e h = h ∙ sym (act_forks edited end frames next (Mark marking) e fork)

first_of : (a b : Bool) → b ≡ false → (a || b) ≡ true → a ≡ true
first_of a b none e = either_none a (sym (ap (λ c. a || c) none) ∙ e)

-- a block that was there, or is touched, is there after an act that doesn't cut it off
one_there : (s p : Bool) (end : ℕ) (edit : Edit) (o n : Option (List ℕ)) → after edited (cond s (Alter end edit) (cond p Reach Stay)) o ≡ Some n → (s || is_some o) ≡ true → is_some n ≡ true
one_there true p end edit o n e there = mapped (edited end (unwrap_or o zero_page) edit) (λ (q : List ℕ). Some q) n e (λ q found is. ap (λ (m : Option (List ℕ)). is_some m) (sym is))
one_there false true end edit o n e there = let same : Some (unwrap_or o zero_page) ≡ n = cc in ap (λ (m : Option (List ℕ)). is_some m) (sym same)
one_there false false end edit o n e there = let same : o ≡ n = cc in ap (λ (m : Option (List ℕ)). is_some m) (sym same) ∙ there

rest_or : (a more old new : Bool) → ((a || more) || old) ≡ true → ((a || old) ≡ true → new ≡ true) → (more || new) ≡ true
rest_or true true old new e f = refl
rest_or false true old new e f = refl
rest_or true false old new e f = f refl
rest_or false false old new e f = f e

items_there : (fork : ForkId) (b end : ℕ) (items : List Item) (o p : Option (List ℕ)) → after_all edited (map (item_effect fork b end) items) o ≡ Some p → (list_any (is_at fork b) items || is_some o) ≡ true → is_some p ≡ true
items_there fork b end [] o p e there = let same : o ≡ p = cc in ap (λ (m : Option (List ℕ)). is_some m) (sym same) ∙ there
items_there fork b end (item ∷ items) o p e there =
    middle (after edited (item_effect fork b end item) o) (λ n. after_all edited (map (item_effect fork b end) items) n) p e (λ n first rest.
    items_there fork b end items n p rest
    (rest_or (is_at fork b item) (list_any (is_at fork b) items) (is_some o) (is_some n) there (one_there (is_at fork b item) (is_past fork b item) end item.edit o n first)))

act_there : (end : ℕ) (store next : Store) (act : Act) (fork : ForkId) (b : ℕ) → apply_act end store act ≡ Some next → act_cuts fork b act ≡ false → (act_touches fork b act || is_some (block_of store fork b)) ≡ true → is_some (block_of next fork b) ≡ true
act_there end store next (Create made) fork b e uncut there =
    let done : with_fork store made ≡ next = cc in
    ap (λ (s : Store). is_some (block_of s fork b)) (sym done) ∙ ap (λ (o : Option (List ℕ)). is_some o) (sym (fork_view store made fork b)) ∙ there
act_there end store next (Truncate rel count) fork b e uncut there =
    let done : with_cut store (main_fork rel) count ≡ next = cc in
    ap (λ (s : Store). is_some (block_of s fork b)) (sym done) ∙ ap (λ (o : Option (List ℕ)). is_some o) (cut_block store (main_fork rel) count fork b)
    ∙ ap (λ c. is_some (cond c None (block_of store fork b))) uncut ∙ there
act_there end store next (Change items) fork b e uncut there = items_there fork b end items (block_of store fork b) (block_of next fork b) (act_view edited end store next (Change items) e fork b) there
act_there end store next (Drop rels) fork b e uncut there =
    let done : without_rels store rels ≡ next = cc in
    ap (λ (s : Store). is_some (block_of s fork b)) (sym done) ∙ ap (λ (o : Option (List ℕ)). is_some o) (drop_block store rels fork b)
    ∙ ap (λ c. is_some (cond c None (block_of store fork b))) uncut ∙ there
act_there end store next (Mark marking) fork b e uncut there = let same : store ≡ next = cc in ap (λ (s : Store). is_some (block_of s fork b)) (sym same) ∙ there

missing : (there cut : Bool) → (there && cut) ≡ false → cut ≡ true → there ≡ false
missing true cut e is = absurd (true≢false (sym is ∙ e))
missing false cut e is = refl

-- a fork that isn't there has no block, and none that is dirty
none_of : (store : Store) (fork : ForkId) (b : ℕ) → contains_key store fork ≡ false → block_of store fork b ≡ None
none_of store fork b = go (get store fork)
  where
    go : (o : Option ForkPages) → is_some o ≡ false → (o >>= λ pages. slice_get pages b) ≡ None
    go None e = refl
    go (Some pages) e = absurd (true≢false e)

none_dirty : (disk frames : Store) (dirty : List BlockId) (works : List Work) (fork : ForkId) (b : ℕ) → LacksUnwritten disk frames dirty works → contains_key frames fork ≡ false → is_dirty dirty fork b ≡ false
none_dirty disk frames dirty works fork b h gone =
    by_test (is_dirty dirty fork b)
    (λ now. absurd (true≢false (sym (h.there fork b now) ∙ ap (λ (o : Option (List ℕ)). is_some o) (none_of frames fork b gone))))
    (λ not_now. not_now)

pub acts_entered : (disk frames next : Store) (dirty : List BlockId) (works : List Work) (end : ℕ) (act : Act) → IsTidy frames act → apply_act end frames act ≡ Some next → LacksUnwritten disk frames dirty works
    → LacksUnwritten disk next (dirty_after dirty act) (works_after frames works act)
acts_entered disk frames next dirty works end act tidy e h =
    let stays = λ (fork : ForkId) (b : ℕ) (touched : act_touches fork b act ≡ false) (uncut : act_cuts fork b act ≡ false). act_keeps end frames next act fork b tidy e (neither (act_touches fork b act) (act_cuts fork b act) touched uncut) in
    let pending = λ (fork : ForkId) (b : ℕ). sym (to_cut_after frames works act fork b tidy) in
    record {
      same = λ fork b clean uncut.
          let u = or_parts (is_to_cut works fork b) (contains_key frames fork && act_cuts fork b act) (pending fork b ∙ uncut) in
          by_test (act_cuts fork b act)
          (λ cut.
          let gone = missing (contains_key frames fork) (act_cuts fork b act) u.1 cut in
          h.same fork b (none_dirty disk frames dirty works fork b h gone) u.0 ∙ none_of frames fork b gone ∙ sym (act_gone end frames next act fork b e cut))
          (λ not_now.
          let c = clean_before dirty act fork b clean not_now in
          h.same fork b c.1 u.0 ∙ sym (stays fork b c.0 not_now));
      gone = λ fork b clean cut. by_test (act_cuts fork b act)
          (λ now. act_gone end frames next act fork b e now)
          (λ not_now.
          let c = clean_before dirty act fork b clean not_now in
          let none = ap (λ a. contains_key frames fork && a) not_now ∙ and-false (contains_key frames fork) in
          stays fork b c.0 not_now ∙ h.gone fork b c.1 (first_of (is_to_cut works fork b) (contains_key frames fork && act_cuts fork b act) none (pending fork b ∙ cut)));
      forks = λ fork. forks_entered end frames next works act fork (contains_key disk fork) tidy e (h.forks fork);
      there = λ fork b now.
          act_there end frames next act fork b e (uncut_dirty dirty act fork b now)
          (elim (dirty_before dirty act fork b now) [
            | inl touched ↦ ap (λ c. c || is_some (block_of frames fork b)) touched
            | inr before ↦ ap (λ c. act_touches fork b act || c) (h.there fork b before) ∙ or-true (act_touches fork b act)
          ]);
    }

-- a disk after a work
work_block : (disk : Store) (work : Work) (fork : ForkId) (b : ℕ) → block_of (work_done work disk) fork b ≡ cond (work_cuts fork b work) None (block_of disk fork b)
work_block disk (Make made) fork b = sym (fork_view disk made fork b)
work_block disk (Cut cut count) fork b = cut_block disk cut count fork b
work_block disk (Remove gone) fork b = block_removed disk gone fork b

work_forks : (disk : Store) (work : Work) (fork : ForkId) → contains_key (work_done work disk) fork ≡ there_after fork (contains_key disk fork) work
work_forks disk (Make made) fork = contains_key-with_fork disk made fork
work_forks disk (Cut cut count) fork = contains_key-with_cut disk cut count fork
work_forks disk (Remove gone) fork = contains_removed disk gone fork

pub works_done : (disk frames : Store) (dirty : List BlockId) (first : Work) (works : List Work) → LacksUnwritten disk frames dirty (first ∷ works) → LacksUnwritten (work_done first disk) frames dirty works
works_done disk frames dirty first works h =
    let cuts = λ (fork : ForkId) (b : ℕ). is_to_cut works fork b in
    record {
      same = λ fork b clean uncut. work_block disk first fork b ∙ by_test (work_cuts fork b first)
          (λ now. ap (λ c. cond c None (block_of disk fork b)) now ∙ sym (h.gone fork b clean (ap (λ c. c || cuts fork b) now)))
          (λ not_now. ap (λ c. cond c None (block_of disk fork b)) not_now ∙ h.same fork b clean (neither (work_cuts fork b first) (cuts fork b) not_now uncut));
      gone = λ fork b clean cut. h.gone fork b clean (ap (λ c. work_cuts fork b first || c) cut ∙ or-true (work_cuts fork b first));
      forks = λ fork. ap (there_behind works fork) (work_forks disk first fork) ∙ h.forks fork;
      there = h.there;
    }

-- a page put at a block of which all blocks before it are there
abbrev puts : List ℕ → Rule
puts page end old edit = Some page

put_effect : (page : List ℕ) (s p : Bool) (o q : Option (List ℕ)) → (s ≡ false → p ≡ true → is_some o ≡ true) → after (puts page) (cond s (Alter 0 (Put page)) (cond p Reach Stay)) o ≡ Some q → q ≡ cond s (Some page) o
put_effect page true p o q there e = cc
put_effect page false true (Some x) q there e = cc
put_effect page false true None q there e = absurd (true≢false (sym (there refl refl)))
put_effect page false false o q there e = cc

-- the block's own page, and another block's that is there where the block is a later one
pub page_block : (store : Store) (at : BlockId) (page : List ℕ) (fork : ForkId) (b : ℕ) → (is_same_block (record { fork = fork; block = b }) at ≡ false → fork ≡ at.fork → b < at.block → is_some (block_of store fork b) ≡ true)
    → block_of (page_put at page store) fork b ≡ cond (is_same_block (record { fork = fork; block = b }) at) (Some page) (block_of store fork b)
page_block store at page fork b before =
    put_effect page (is_same_fork fork at.fork && (b == at.block)) (is_same_fork fork at.fork && nat_lt b at.block) (block_of store fork b) (block_of (page_put at page store) fork b)
    (λ apart past.
    let p = and_parts (is_same_fork fork at.fork) (nat_lt b at.block) past in
    before apart (fork_is fork at.fork p.0) (ltb-true b at.block p.1))
    (put_view (puts page) 0 (Put page) store at page fork b refl)

-- a fork has all blocks before one that it has
pub has_before : (store : Store) (fork : ForkId) (b block : ℕ) → is_some (block_of store fork block) ≡ true → b < block → is_some (block_of store fork b) ≡ true
has_before store fork b block there l =
    let count = unwrap_or (block_count store fork) 0 in
    let h = ltb-true block count (sym (listed_blocks store fork block) ∙ there) in
    listed_blocks store fork b ∙ lt-ltb b count (omega (arith, l, h))

pub has_fork : (store : Store) (fork : ForkId) (b : ℕ) → is_some (block_of store fork b) ≡ true → contains_key store fork ≡ true
has_fork store fork b there =
    elim (get store fork) as (λ (o : Option ForkPages). is_some (o >>= λ pages. slice_get pages b) ≡ true → is_some o ≡ true) [ None ↦ λ e. absurd (true≢false (sym e)) | Some pages ↦ λ e. refl ] there

-- the page of a block that is there
some_page : (store : Store) (at : BlockId) → is_some (block_of store at.fork at.block) ≡ true → block_of store at.fork at.block ≡ Some (page_at store at)
some_page store at there =
    elim (block_of store at.fork at.block) as (λ o. block_of store at.fork at.block ≡ o → is_some o ≡ true → o ≡ Some (page_at store at)) [
      | None ↦ λ e k. absurd (true≢false (sym k))
      | Some page ↦ λ e k. ap (λ (p : List ℕ). Some p) (sym (page_found store at page e))
    ] refl there

-- where no work is pending, the page of the first dirty block is written
pub page_written : (disk frames : Store) (at : BlockId) (dirty : List BlockId) → LacksUnwritten disk frames (at ∷ dirty) [] → LacksUnwritten (page_put at (page_at frames at) disk) frames dirty []
page_written disk frames at dirty h =
    let page = page_at frames at in
    let some : is_some (block_of frames at.fork at.block) ≡ true = h.there at.fork at.block (ap (λ c. c || is_named at dirty) (block_self at)) in
    let there : block_of frames at.fork at.block ≡ Some page = some_page frames at some in
    let before = λ (fork : ForkId) (b : ℕ) (clean : is_dirty dirty fork b ≡ false) (apart : is_same_block (record { fork = fork; block = b }) at ≡ false). h.same fork b (neither (is_same_block (record { fork = fork; block = b }) at) (is_dirty dirty fork b) apart clean) refl in
    record {
      same = λ fork b clean uncut.
          page_block disk at page fork b
          (λ apart is less.
          ap (λ (o : Option (List ℕ)). is_some o) (before fork b clean apart) ∙ has_before frames fork b at.block (ap (λ (f : ForkId). is_some (block_of frames f at.block)) is ∙ some) less)
          ∙ by_test (is_same_block (record { fork = fork; block = b }) at)
          (λ here. ap (λ c. cond c (Some page) (block_of disk fork b)) here ∙ sym there ∙ ap (λ (x : BlockId). block_of frames x.fork x.block) (sym (block_is (record { fork = fork; block = b }) at here)))
          (λ apart. ap (λ c. cond c (Some page) (block_of disk fork b)) apart ∙ before fork b clean apart);
      gone = λ fork b clean cut. absurd (true≢false (sym cut));
      forks = λ fork. contains_key-insert disk at.fork (with_block (pages_of disk at.fork) at.block page) fork
          ∙ ap (λ c. c || is_same_fork fork at.fork) (h.forks fork) ∙ absorbed frames at.fork fork (has_fork frames at.fork at.block some);
      there = λ fork b now. h.there fork b (ap (λ c. is_same_block (record { fork = fork; block = b }) at || c) now ∙ or-true (is_same_block (record { fork = fork; block = b }) at));
    }

-- a disk that is the frames lacks nothing
pub lack_nothing : (frames : Store) → LacksUnwritten frames frames [] []
lack_nothing frames = record {
  same = λ fork b clean uncut. refl;
  gone = λ fork b clean cut. absurd (true≢false (sym cut));
  forks = λ fork. refl;
  there = λ fork b now. absurd (true≢false (sym now));
}
