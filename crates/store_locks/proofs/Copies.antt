-- What a partition's area answers a copier.
use Rattle.std.proofs.Common.{◌≡◌, ℕ, ◌≤◌, ◌&&◌, ◌||◌, Bool, true, false, T, cond, List, [], ◌∷◌, map, length, Option, Some, None, IfSome, IsSome, is_some, option_map, refl, sym, ap, subst, ◌∙◌, arith, true≢false, is_lt}
use Rattle.std.specs.List.{list_any, filter, find, AllByRecursion}
use Rattle.std.specs.Prelude.{◌==◌}
use Rattle.std.specs.List.Sorted.{IsStrictlySortedBy}
use Rattle.std.specs.declared.cmp.Ordering.{Ordering}
use Rattle.std.specs.declared.cmp.Ordering.TheVariants.{Less, Equal, Greater}
use Rattle.std.specs.FinMap.{get, entries, entries_sorted, contains_key, contains_key-keys, get-entries, empty}
use Rattle.std.specs.FinMap.Entries as list
use Rattle.std.proofs.lemmas.List.Elements.{All-from_recursion, recursion_from_All}
use Rattle.lsn_core.specs.declared.ids.BlockId.{BlockId}
use Rattle.lsn_core.specs.declared.ids.ForkId.{ForkId}
use Rattle.lsn_core.specs.declared.ids.ForkLen.{ForkLen}
use Rattle.lsn_core.specs.Relation.{Relation}
use Rattle.lsn_core.specs.Blocks.{block_of, block_count}
use Rattle.lsn_core.specs.Files.{Files}
use Rattle.lsn_core.specs.Shown.{BlockAnswer}
use Rattle.lsn_core.specs.Store.{Store, ForkPages, fork_cmp}
use Rattle.lsn_core.proofs.StoreFiles.{same_fork, fork_itself}
use Rattle.rel_files.specs.Forks.{whole_pages, mended, fork_lengths}
use Rattle.rel_files.specs.Shown.{AreFilesOf, ListsForks, ReadsWhole}
use Rattle.rel_files.proofs.ForkStores.{mended_get, mended_none}
use Rattle.history.specs.Entry.{Act, Create, Truncate, Change, Drop, Mark, NoOp, Entry}
use Rattle.history.specs.Apply.{main_fork, init_fork, is_same_fork, is_fork_of, is_of_any}
use Rattle.history.proofs.Stores.{by_test, fork_is}
use Rattle.history.specs.partitions.Parts.{is_of, is_rel_of, act_part, part_of, IsPart}
use Rattle.history.specs.fuzzy_copies.Taken.{since, IsBlockCopied, IsListed}
use Rattle.history.specs.fuzzy_copies.CoverLaws.{AnswersCopier}
use Rattle.history.proofs.fuzzy_copies.Covering.{answers}
use Rattle.history.specs.Apply.{apply_all}
use Rattle.history.specs.partitions.Parts.{part_of}
use Rattle.history.proofs.partitions.Folds.{parts_fold}
use Rattle.journal.specs.Lawful.{IsLawful}
use Rattle.journal.proofs.Follows.{empty_part}
use Rattle.journal.proofs.Stands.{lawful_orderly, own_is_tidy}
use Rattle.page_pool.specs.declared.work.Work.{Work}
use Rattle.page_pool.specs.declared.work.Work.TheVariants.{Make, Cut, Remove}
use Rattle.page_pool.specs.declared.work.Pending.{Pending}
use Rattle.page_pool.specs.Part.{Part, LacksUnwritten, is_to_settle, work_settles}
use Rattle.page_pool.specs.Facts.{enters, is_entered, IsSince}
use Rattle.page_pool.proofs.Behind.{unsettled}
use Rattle.page_pool.specs.Calls.{HoldsPart, IsHeld, AreWholePages, SameUnwritten, ReadsDisk}
use Rattle.page_pool.proofs.Covering.{followers_cover}
use Rattle.page_pool.proofs.Torn.{lacks_mended}
use Rattle.page_pool.specs.Facts.{IsPartOf}
use Rattle.store_locks.specs.Copied.{HasRedoPoint, listed_length, ListsPart}
use Rattle.store_locks.proofs.Behind.{part_made}
use Rattle.store_locks.proofs.Kept.{part_read}
use Rattle.store_locks.proofs.RedoPoints.{own_since}

-- ---- the store that an area holds

record HasRaw (part : Part) : Type 0 where
  raw : Store
  files : AreFilesOf part.relseg part.disk raw
  lacks : LacksUnwritten raw part.frames part.marks part.works

raw_of : (part : Part) → IsSome part.disk → IsHeld part → HasRaw part
raw_of part some held = by part.disk refl some held
  where
    by : (o : Option Files) → part.disk ≡ o → IsSome o → IfSome o (HoldsPart part) → HasRaw part
    by None e some held = absurd cc
    by (Some m) e some held = record { raw = held.raw; files = record { files = m; are_told = e; hold = held.held }; lacks = held.lacks }

-- ---- the forks of a list

abbrev Entries : Type 0
Entries = List (ForkId × ForkPages)

abbrev length_of : ForkId × ForkPages → ForkLen
length_of e = record { fork = e.0; blocks = length (whole_pages e.1) }

first : (a b : Bool) → T (a && b) → T a
first true b p = tt
first false b p = p

second : (a b : Bool) → T (a && b) → T b
second true b p = p
second false b p = absurd p

less : (k q : ForkId) (r : Ordering) → fork_cmp k q ≡ r → T (is_lt r) → fork_cmp k q ≡ Less
less k q Less e t = e
less k q Equal e t = absurd t
less k q Greater e t = absurd t

below_sorted : (k : ForkId) (es : Entries) → T (list.below_all fork_cmp k es) → AllByRecursion (λ q. fork_cmp k q ≡ Less) (map (λ l. l.fork) (map length_of es))
below_sorted k [] h = tt
below_sorted k (e ∷ es) h = (less k e.0 (fork_cmp k e.0) refl (first _ _ h), below_sorted k es (second _ _ h))

sorted : (es : Entries) → T (list.is_sorted fork_cmp es) → IsStrictlySortedBy fork_cmp (map (λ l. l.fork) (map length_of es))
unfolding IsStrictlySortedBy
sorted [] h = tt
sorted (e ∷ es) h = (below_sorted e.0 es (first _ _ h), sorted es (second _ _ h))

or_here : (a b : Bool) → a ≡ true → (a || b) ≡ true
or_here a b e = rw e refl

or_there : (a b : Bool) → b ≡ true → (a || b) ≡ true
or_there true b e = refl
or_there false b e = e

ours_in : (q : ℕ) (es : Entries) → ((fork : ForkId) → list_any (same_fork fork) (map (λ e. e.0) es) ≡ true → is_of q fork ≡ true) → AllByRecursion (λ l. is_of q l.fork ≡ true) (map length_of es)
ours_in q [] ours = tt
ours_in q (e ∷ es) ours =
    (ours e.0 (or_here (same_fork e.0 e.0) _ (fork_itself e.0)), ours_in q es (λ fork there. ours fork (or_there (same_fork fork e.0) _ there)))

found_in : (fork : ForkId) (es : Entries) → listed_length (map length_of es) fork ≡ option_map (λ pages. length (whole_pages pages)) (list.find fork_cmp fork es)
unfolding is_same_fork
found_in fork [] = refl
found_in fork (e ∷ es) =
    elim (same_fork fork e.0) as (λ b. option_map (λ (l : ForkLen). l.blocks) (cond b (Some (length_of e)) (find (λ (l : ForkLen). same_fork fork l.fork) (map length_of es))) ≡ option_map (λ pages. length (whole_pages pages)) (cond b (Some e.1) (list.find fork_cmp fork es))) [
      | true ↦ refl
      | false ↦ found_in fork es
    ]

counted : (raw : Store) (fork : ForkId) → listed_length (fork_lengths raw) fork ≡ block_count (mended raw fork) fork
counted raw fork = found_in fork (entries raw) ∙ ap (option_map (λ (pages : ForkPages). length (whole_pages pages))) (sym (get-entries raw fork)) ∙ by (get raw fork) refl
  where
    by : (o : Option ForkPages) → get raw fork ≡ o → option_map (λ pages. length (whole_pages pages)) (get raw fork) ≡ block_count (mended raw fork) fork
    by None e = ap (option_map (λ (pages : ForkPages). length (whole_pages pages))) e ∙ sym (ap (λ (o : Option ForkPages). option_map length o) (mended_none raw fork e))
    by (Some pages) e = ap (option_map (λ (pages : ForkPages). length (whole_pages pages))) e ∙ sym (ap (λ (o : Option ForkPages). option_map length o) (mended_get raw fork pages e))

-- ---- what is answered

copies : (seen : List Entry) (from : ℕ) (at : BlockId) (old new : List ℕ) (there : Bool) (disk : Store) → BlockAnswer disk at old new there → IsBlockCopied seen from at.fork at.block (block_of disk at.fork at.block) → IsBlockCopied seen from at.fork at.block (cond there (Some new) None)
copies seen from at old new true disk answer copied = subst (IsBlockCopied seen from at.fork at.block) answer copied
copies seen from at old new false disk answer copied = subst (IsBlockCopied seen from at.fork at.block) answer.0 copied

of_part : (q : ℕ) (now frames : Store) (fork : ForkId) → IsPart q now frames → contains_key frames fork ≡ true → is_of q fork ≡ true
of_part q now frames fork is there = by (is_of q fork) refl
  where
    by : (b : Bool) → is_of q fork ≡ b → is_of q fork ≡ true
    by true e = e
    by false e =
        let none : get frames fork ≡ None = is fork ∙ ap (λ c. cond c (get now fork) None) e in
        absurd (true≢false (sym there ∙ ap (λ (o : Option ForkPages). is_some o) none))

-- a pending work of a partition is of a fork of its own
of_same : (q : ℕ) (fork other : ForkId) → is_same_fork fork other ≡ true → is_of q other ≡ true → is_of q fork ≡ true
of_same q fork other same mine = ap (is_of q) (fork_is fork other same) ∙ mine

or_else : (a b : Bool) → (a || b) ≡ true → a ≡ false → b ≡ true
or_else true b h none = absurd (true≢false none)
or_else false b h none = h

rels_named : (q : ℕ) (fork : ForkId) (rels : List Relation) → is_of_any fork (filter (is_rel_of q) rels) ≡ true → is_of q fork ≡ true
rels_named q fork [] h = absurd (true≢false (sym h))
rels_named q fork (rel ∷ rels) h =
    let few = filter (is_rel_of q) rels in
    by_test (is_rel_of q rel)
    (λ own.
    let named : (is_fork_of fork rel || is_of_any fork few) ≡ true = sym (ap (λ c. is_of_any fork (cond c (rel ∷ few) few)) own) ∙ h in
    by_test (is_fork_of fork rel)
    (λ here. by_test (is_same_fork fork (main_fork rel)) (λ main. of_same q fork (main_fork rel) main own) (λ not_main. of_same q fork (init_fork rel) (or_else (is_same_fork fork (main_fork rel)) (is_same_fork fork (init_fork rel)) here not_main) own))
    (λ not_here. rels_named q fork rels (or_else (is_fork_of fork rel) (is_of_any fork few) named not_here)))
    (λ other. rels_named q fork rels (sym (ap (λ c. is_of_any fork (cond c (rel ∷ few) few)) other) ∙ h))

entered_own : (q : ℕ) (act : Act) (work : Work) (fork : ForkId) → enters (act_part q act) work ≡ true → work_settles fork work ≡ true → is_of q fork ≡ true
entered_own q act (Cut cut count) fork h settles = absurd (true≢false (sym settles))
entered_own q (Create made) (Make new) fork h settles = by (is_of q made) refl h
  where
    by : (c : Bool) → is_of q made ≡ c → enters (cond c (Create made) (Mark NoOp)) (Make new) ≡ true → is_of q fork ≡ true
    by true mine k = of_same q fork new settles (of_same q new made k mine)
    by false other k = absurd (true≢false (sym k))
entered_own q (Create made) (Remove gone) fork h settles = absurd (by (is_of q made) h)
  where
    by : (c : Bool) → enters (cond c (Create made) (Mark NoOp)) (Remove gone) ≡ true → ⊥
    by true k = true≢false (sym k)
    by false k = true≢false (sym k)
entered_own q (Truncate rel count) (Make new) fork h settles = absurd (by (is_of q (main_fork rel)) h)
  where
    by : (c : Bool) → enters (cond c (Truncate rel count) (Mark NoOp)) (Make new) ≡ true → ⊥
    by true k = true≢false (sym k)
    by false k = true≢false (sym k)
entered_own q (Truncate rel count) (Remove gone) fork h settles = absurd (by (is_of q (main_fork rel)) h)
  where
    by : (c : Bool) → enters (cond c (Truncate rel count) (Mark NoOp)) (Remove gone) ≡ true → ⊥
    by true k = true≢false (sym k)
    by false k = true≢false (sym k)
entered_own q (Change items) (Make new) fork h settles = absurd (true≢false (sym h))
entered_own q (Change items) (Remove gone) fork h settles = absurd (true≢false (sym h))
entered_own q (Drop rels) (Make new) fork h settles = absurd (true≢false (sym h))
entered_own q (Drop rels) (Remove gone) fork h settles = of_same q fork gone settles (rels_named q gone rels h)
entered_own q (Mark marking) (Make new) fork h settles = absurd (true≢false (sym h))
entered_own q (Mark marking) (Remove gone) fork h settles = absurd (true≢false (sym h))

work_own : (q : ℕ) (es : List Entry) (w : Pending) (fork : ForkId) → is_entered (map (part_of q) es) w ≡ true → work_settles fork w.work ≡ true → is_of q fork ≡ true
work_own q [] w fork h settles = absurd (true≢false (sym h))
work_own q (e ∷ es) w fork h settles =
    by_test (enters (act_part q e.act) w.work)
    (λ now. entered_own q e.act w.work fork now settles)
    (λ not_now. work_own q es w fork (or_else (enters (act_part q e.act) w.work && (e.end == w.end.0)) (is_entered (map (part_of q) es) w) h (ap (λ c. c && (e.end == w.end.0)) not_now)) settles)

settled_own : (q : ℕ) (es : List Entry) (works : List Pending) (fork : ForkId) → AllByRecursion (λ (w : Pending). is_entered (map (part_of q) es) w ≡ true) works → is_to_settle works fork ≡ true → is_of q fork ≡ true
settled_own q es [] fork all h = absurd (true≢false (sym h))
settled_own q es (w ∷ works) fork all h =
    by_test (work_settles fork w.work) (λ now. work_own q es w fork all.0 now) (λ not_now. settled_own q es works fork all.1 (or_else (work_settles fork w.work) (is_to_settle works fork) h not_now))

-- a partition's area has no forks but its own
disk_of : (q : ℕ) (es : List Entry) (now raw : Store) (part : Part) (fork : ForkId) → IsPart q now part.frames → LacksUnwritten raw part.frames part.marks part.works → IsSince (map (part_of q) es) part.marks part.works → contains_key raw fork ≡ true → is_of q fork ≡ true
disk_of q es now raw part fork is lacks since_then there =
    by_test (is_to_settle part.works fork)
    (λ settled. settled_own q es part.works fork (recursion_from_All (λ (w : Pending). is_entered (map (part_of q) es) w ≡ true) part.works since_then.entered) settled)
    (λ none. of_part q now part.frames fork is (sym (lacks.forks fork) ∙ unsettled part.works fork (contains_key raw fork) none ∙ there))

same_store : (a b : Store) → Some a ≡ Some b → a ≡ b
same_store a b e = cc

-- what a partition's part of a lawful history makes is the part of what the history makes
part_is : (q mib : ℕ) (history : List Entry) (part : Store) (lawful : IsLawful mib history) → apply_all empty (map (part_of q) history) ≡ Some part → IsPart q lawful.store part
part_is q mib history part lawful made =
    let folded = parts_fold q empty lawful.store empty history (empty_part q) lawful.made in
    subst (IsPart q lawful.store) (same_store folded.0 part (sym folded.1 ∙ made)) folded.2

-- a partition, whose area was read, follows a history in which its point is at a redo point or past it
pub record IsRead (q from : ℕ) (tells : Type 0) (mib : ℕ) (history : List Entry) (old new : Part) : Type 0 where
  pub part : IsPartOf q old.relseg tells history new
  pub lawful : IsLawful mib history
  pub redo : HasRedoPoint history from
  pub raised : from ≤ new.point
  pub held : IsHeld new
  pub whole : AreWholePages new.frames
  pub reads : ReadsDisk old new

pub read_of : (q from : ℕ) (tells : Type 0) (mib : ℕ) (history : List Entry) (old new : Part) → IsPartOf q old.relseg tells history old → IsLawful mib history → HasRedoPoint history from → from ≤ old.point
    → IsHeld new → AreWholePages new.frames → SameUnwritten old new → ReadsDisk old new → IsRead q from tells mib history old new
read_of q from tells mib history old new part lawful redo raised held whole same reads = record {
  part = part_read q old.relseg tells history old new same reads part;
  lawful = lawful;
  redo = redo;
  raised = omega (arith, raised, same.point);
  held = held;
  whole = whole;
  reads = reads;
}

module _ (q from : ℕ) (tells : Type 0) (mib : ℕ) (history : List Entry) (old new : Part) (tell : tells) (r : IsRead q from tells mib history old new) where
  held_raw : HasRaw new
  held_raw = raw_of new (r.part.told tell) r.held

  answered : (fork : ForkId) → is_of q fork ≡ true → AnswersCopier history from fork (mended held_raw.raw fork)
  answered fork mine =
      let lawful = r.lawful in
      let raw = held_raw in
      let orderly = lawful_orderly mib history lawful in
      answers (is_of q) (mended raw.raw fork) history from new.point fork orderly (own_since mib from history lawful r.redo).1 r.raised
      (followers_cover q history new (mended raw.raw fork) lawful.store (record { orderly = orderly; made = lawful.made; tidy = own_is_tidy mib new.point history lawful (r.part.own tell) })
      (r.part.told tell) r.part.follows (lacks_mended raw.raw new.frames new.marks new.works fork raw.files.hold.held r.whole raw.lacks)) mine

  raw_before : AreFilesOf old.relseg old.disk held_raw.raw
  raw_before =
      subst (λ (n : ℕ). AreFilesOf n old.disk held_raw.raw) r.reads.relseg
      (subst (λ (o : Option Files). AreFilesOf new.relseg o held_raw.raw) r.reads.files held_raw.files)

  pub copied : (at : BlockId) (before now : List ℕ) (there : Bool) → is_of q at.fork ≡ true → ReadsWhole (AreFilesOf old.relseg old.disk) at before now there → IsBlockCopied history from at.fork at.block (cond there (Some now) None)
  copied at before now there mine read = copies history from at before now there (mended held_raw.raw at.fork) (read held_raw.raw raw_before) ((answered at.fork mine).copied at.block)

  lists : ListsPart q history from (fork_lengths held_raw.raw)
  lists =
      let raw = held_raw.raw in
      let is = part_is q mib history new.frames r.lawful (part_made q old.relseg tells history new r.part tell) in
      record {
        order = sorted (entries raw) (entries_sorted raw);
        ours = All-from_recursion (λ (l : ForkLen). is_of q l.fork ≡ true) (fork_lengths raw)
            (ours_in q (entries raw) (λ fork there. disk_of q (since new.point history) r.lawful.store raw new fork is held_raw.lacks r.part.follows.unwritten (contains_key-keys raw fork ∙ there)));
        listed = λ fork mine. subst (IsListed history from fork) (sym (counted raw fork)) (answered fork mine).listed;
      }

  pub listed : (list : List ForkLen) → ListsForks (AreFilesOf old.relseg old.disk) list → ListsPart q history from list
  listed list is = subst (ListsPart q history from) (sym (is held_raw.raw raw_before)) lists
