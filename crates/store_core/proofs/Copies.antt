-- A backup under way: each listing and each copied block was an answer at a moment of its own.
use Rattle.std.proofs.Common.{◌≡◌, ℕ, zero, suc, ◌+◌, ◌<◌, ◌≤◌, Bool, true, false, cond, ◌&&◌, ◌||◌, List, [], ◌∷◌, ◌++◌, map, length, Option, Some, None, IfSome, unwrap_or, option_map, is_some, refl, ap, sym, subst, ◌∙◌, arith, append_assoc, true≢false, eqb-true}
use Rattle.std.specs.Prelude.{◌==◌, max, nat_lt, not, slice_get}
use Rattle.std.specs.List.{list_any, list_all, flat_map, range_with_len}
use Rattle.std.specs.FinMap.{get, insert, keys, contains_key, get-empty, contains_key-keys}
use Rattle.std.proofs.lemmas.Bool.{and_parts, or_parts, or_left, or_right, eq-eqb, eqb-false, ltb-true}
use Rattle.std.proofs.lemmas.List.{append-nil, length-replicate}
use Rattle.std.proofs.lemmas.List.Folds.{list_any-append, list_all-append}
use Rattle.lsn_core.specs.byte_words.Numbers.{◌>>=◌}
use Rattle.lsn_core.specs.declared.ids.ForkId.{ForkId}
use Rattle.lsn_core.specs.declared.ids.BlockId.{BlockId}
use Rattle.lsn_core.specs.Store.{Store, ForkPages, fork_cmp}
use Rattle.lsn_core.specs.Blocks.{block_of, block_count, pages_of, page_put}
use Rattle.pg_page.specs.Header.{zero_page}
use Rattle.history.specs.Entry.{Entry}
use Rattle.history.specs.Apply.{is_same_fork, is_same_block}
use Rattle.history.specs.Whole.{is_named}
use Rattle.history.specs.Written.{is_redo}
use Rattle.history.proofs.Stores.{by_test, fork_is, block_is}
use Rattle.history.specs.partitions.Parts.{partition_of, is_of}
use Rattle.history.specs.fuzzy_copies.Taken.{IsBlockCopied, IsListed, IsSeen, IsTaken}
use Rattle.history.specs.fuzzy_copies.CoverLaws.{AnswersCopier}
use Rattle.history.proofs.fuzzy_copies.Pages.{got}
use Rattle.history.proofs.fuzzy_copies.Taken.{listed_blocks}
use Rattle.history.proofs.fuzzy_copies.Completed.{or_second}
use Rattle.history.proofs.fuzzy_copies.Covering.{answers}
use Rattle.store_core.specs.State.{Part, Published, Prior, Backup, first_record, part_numbers}
use Rattle.store_core.specs.Steps.{new_backup, is_listed, unread, with_forks, with_listing, is_within, with_copied, fork_blocks, blocks_of, sends, is_settled, is_complete}
use Rattle.store_core.proofs.Behind.{unsettled, has_before, page_block}
use Rattle.store_core.proofs.Caused.{any_weaker, settles_own, tidy_from, covers_of}
use Rattle.store_core.proofs.Judged.{blocks_put}
use Rattle.store_core.proofs.Runs.{IsRun}
use Rattle.store_core.proofs.Follows.{Follows}

-- ---- what is kept

-- the start of a checkpoint, by one of the machine's own entries
pub record IsRedoOf (mib : ℕ) (history : List Entry) (from : ℕ) : Type 0 where
  pub redo : list_any (λ e. (e.start == from) && is_redo e.act) history ≡ true
  pub later : (first_record mib).end.0 ≤ from

-- a beginning of the history that holds the entry at a place
pub record SeenSoFar (seen history : List Entry) (from : ℕ) : Type 0 where
  pub behind : List Entry
  pub all : history ≡ seen ++ behind
  pub holds : list_any (λ e. e.start == from) seen ≡ true

pub record ListedAt (history : List Entry) (from : ℕ) (copy : Store) (fork : ForkId) : Type 0 where
  pub seen : List Entry
  pub prefix : SeenSoFar seen history from
  pub listed : IsListed seen from fork (block_count copy fork)

pub record CopiedAt (history : List Entry) (from : ℕ) (fork : ForkId) (block : ℕ) (page : List ℕ) : Type 0 where
  pub seen : List Entry
  pub prefix : SeenSoFar seen history from
  pub answer : Option (List ℕ)
  pub copied : IsBlockCopied seen from fork block answer
  pub written : page ≡ unwrap_or answer zero_page

-- the backup that one from a redo point on is made over
pub record IsPrior (mib : ℕ) (history : List Entry) (from : ℕ) (p : Prior) : Type 0 where
  pub start : IsRedoOf mib history p.start
  pub below : p.start < from

pub record IsBackup (mib : ℕ) (history : List Entry) (parts : ℕ → Part) (b : Backup) : Type 0 where
  pub start : IsRedoOf mib history b.start
  pub prior : IfSome b.prior (IsPrior mib history b.start)
  pub points : (q : ℕ) → q < 4 → b.start ≤ (parts q).point
  pub forks : (fork : ForkId) → is_listed b (partition_of fork.rel) ≡ true → ListedAt history b.start b.copy fork
  pub blocks : (at : BlockId) (page : List ℕ) → is_named at b.copied ≡ true → block_of b.copy at.fork at.block ≡ Some page → CopiedAt history b.start at.fork at.block page
  pub absent : (fork : ForkId) → is_listed b (partition_of fork.rel) ≡ false → get b.copy fork ≡ None
  pub only : (at : BlockId) → is_named at b.copied ≡ true → is_listed b (partition_of at.fork.rel) ≡ true

-- ---- over an entry

pub redo_push : (mib : ℕ) (history : List Entry) (from : ℕ) (e : Entry) → IsRedoOf mib history from → IsRedoOf mib (history ++ (e ∷ [])) from
redo_push mib history from e r = record {
  redo = list_any-append (λ (x : Entry). (x.start == from) && is_redo x.act) history (e ∷ []) ∙ or_left (list_any (λ (x : Entry). (x.start == from) && is_redo x.act) history) _ r.redo;
  later = r.later;
}

pub over_some : {X : Type 0} (P Q : X → Type 0) (o : Option X) → ((x : X) → P x → Q x) → IfSome o P → IfSome o Q
over_some P Q None f k = tt
over_some P Q (Some x) f k = f x k

prior_push : (mib : ℕ) (history : List Entry) (from : ℕ) (p : Prior) (e : Entry) → IsPrior mib history from p → IsPrior mib (history ++ (e ∷ [])) from p
prior_push mib history from p e is = record { start = redo_push mib history p.start e is.start; below = is.below }

seen_push : (seen history : List Entry) (from : ℕ) (e : Entry) → SeenSoFar seen history from → SeenSoFar seen (history ++ (e ∷ [])) from
seen_push seen history from e s = record { behind = s.behind ++ (e ∷ []); all = ap (λ (h : List Entry). h ++ (e ∷ [])) s.all ∙ append_assoc seen s.behind (e ∷ []); holds = s.holds }

pub backup_push : (mib : ℕ) (history : List Entry) (parts : ℕ → Part) (b : Backup) (e : Entry) → IsBackup mib history parts b → IsBackup mib (history ++ (e ∷ [])) parts b
backup_push mib history parts b e is = record {
  start = redo_push mib history b.start e is.start;
  prior = over_some (IsPrior mib history b.start) (IsPrior mib (history ++ (e ∷ [])) b.start) b.prior (λ p k. prior_push mib history b.start p e k) is.prior;
  points = is.points;
  forks = λ fork there. let l = is.forks fork there in record { seen = l.seen; prefix = seen_push l.seen history b.start e l.prefix; listed = l.listed };
  blocks = λ at page named there.
      let c = is.blocks at page named there in
      record { seen = c.seen; prefix = seen_push c.seen history b.start e c.prefix; answer = c.answer; copied = c.copied; written = c.written };
  absent = is.absent;
  only = is.only;
}

-- over a raised point
pub backup_moved : (mib : ℕ) (history : List Entry) (old new : ℕ → Part) (b : Backup) → ((q : ℕ) → (old q).point ≤ (new q).point) → IsBackup mib history old b → IsBackup mib history new b
backup_moved mib history old new b rise is = record {
  start = is.start;
  prior = is.prior;
  points = λ q l. (let p = is.points q l in omega (arith, p, rise q));
  forks = is.forks;
  blocks = is.blocks;
  absent = is.absent;
  only = is.only;
}

-- it begins
pub backup_begins : (mib : ℕ) (history : List Entry) (parts : ℕ → Part) (from : ℕ) (prior : Option Prior) → IsRedoOf mib history from → IfSome prior (IsPrior mib history from) → ((q : ℕ) → q < 4 → from ≤ (parts q).point) → IsBackup mib history parts (new_backup from prior)
backup_begins mib history parts from prior redo before points = record {
  start = redo;
  prior = before;
  points = points;
  forks = λ fork there. absurd (true≢false (sym there));
  blocks = λ at page named there. absurd (true≢false (sym named));
  absent = λ fork away. get-empty fork_cmp fork;
  only = λ at named. absurd (true≢false (sym named));
}

-- what is seen now
seen_now : (mib : ℕ) (history : List Entry) (from : ℕ) → IsRedoOf mib history from → SeenSoFar history history from
seen_now mib history from r = record {
  behind = [];
  all = sym (append-nil history);
  holds = any_weaker (λ (e : Entry). (e.start == from) && is_redo e.act) (λ (e : Entry). e.start == from) history (λ e h. (and_parts (e.start == from) (is_redo e.act) h).0) r.redo;
}

-- what a partition's disk answers
pub disk_answers : (q mib : ℕ) (history : List Entry) (run : IsRun mib history) (part : Part) (from : ℕ) (fork : ForkId) → Follows q mib history run.store part → from ≤ part.point → is_of q fork ≡ true → AnswersCopier history from fork part.disk
disk_answers q mib history run part from fork f low mine =
    answers (is_of q) part.disk history from part.point fork run.orderly (tidy_from history from run.orderly run.tidy) low
    (covers_of q history run.store part run.orderly run.made run.tidy f.frames f.unwritten f.caused) mine

-- ---- a listing

pub either_way : {X : Type 0} (t : Bool) (x : X) → cond t x x ≡ x
either_way true x = refl
either_way false x = refl

pub forks_got : (made : ForkPages → ForkPages) (disk copy : Store) (forks : List ForkId) (fork : ForkId) → get (with_forks made disk copy forks) fork ≡ cond (list_any (is_same_fork fork) forks) (Some (made (pages_of disk fork))) (get copy fork)
forks_got made disk copy [] fork = refl
forks_got made disk copy (f ∷ fs) fork =
    let more = list_any (is_same_fork fork) fs in
    let mine = Some (made (pages_of disk fork)) in
    forks_got made disk (insert copy f (made (pages_of disk f))) fs fork
    ∙ ap (λ (o : Option ForkPages). cond more mine o) (got copy f (made (pages_of disk f)) fork)
    ∙ by_test (is_same_fork fork f)
    (λ here.
    ap (λ c. cond more mine (cond c (Some (made (pages_of disk f))) (get copy fork))) here
    ∙ ap (λ (g : ForkId). cond more mine (Some (made (pages_of disk g)))) (sym (fork_is fork f here)) ∙ either_way more mine
    ∙ sym (ap (λ c. cond (c || more) mine (get copy fork)) here))
    (λ away. ap (λ c. cond more mine (cond c (Some (made (pages_of disk f))) (get copy fork))) away ∙ sym (ap (λ c. cond (c || more) mine (get copy fork)) away))

pub keys_named : (disk : Store) (fork : ForkId) → contains_key disk fork ≡ list_any (is_same_fork fork) (keys disk)
unfolding is_same_fork
keys_named disk fork = contains_key-keys disk fork

listing_got : (disk copy : Store) (fork : ForkId) → get (with_forks unread disk copy (keys disk)) fork ≡ cond (contains_key disk fork) (Some (unread (pages_of disk fork))) (get copy fork)
listing_got disk copy fork = forks_got unread disk copy (keys disk) fork ∙ ap (λ c. cond c (Some (unread (pages_of disk fork))) (get copy fork)) (sym (keys_named disk fork))

-- a listed fork has the disk's length
same_length : (o before : Option ForkPages) → before ≡ None → option_map (λ (ps : ForkPages). length ps) (cond (is_some o) (Some (unread (unwrap_or o []))) before) ≡ option_map (λ (ps : ForkPages). length ps) o
same_length None before none = ap (option_map (λ (ps : ForkPages). length ps)) none
same_length (Some pages) before none = ap (λ (n : ℕ). Some n) (length-replicate (length pages) zero_page)

listing_count : (disk copy : Store) (fork : ForkId) → get copy fork ≡ None → block_count (with_forks unread disk copy (keys disk)) fork ≡ block_count disk fork
listing_count disk copy fork none = ap (option_map (λ (ps : ForkPages). length ps)) (listing_got disk copy fork) ∙ same_length (get disk fork) (get copy fork) none

no_pages : (o : Option ForkPages) → is_some o ≡ false → o ≡ None
no_pages None e = refl
no_pages (Some pages) e = absurd (true≢false e)

-- a partition's disk has no fork of another one
disk_apart : (q mib : ℕ) (history : List Entry) (store : Store) (part : Part) (fork : ForkId) → Follows q mib history store part → is_of q fork ≡ false → contains_key part.disk fork ≡ false
disk_apart q mib history store part fork f other =
    let frames : contains_key part.frames fork ≡ false = ap (λ (o : Option ForkPages). is_some o) (f.frames fork ∙ ap (λ c. cond c (get store fork) None) other) in
    sym (unsettled part.works fork (contains_key part.disk fork) (settles_own q part.works fork f.own other)) ∙ f.unwritten.forks fork ∙ frames

listing_apart : (q mib : ℕ) (history : List Entry) (store : Store) (part : Part) (copy : Store) (fork : ForkId) → Follows q mib history store part → is_of q fork ≡ false → get (with_forks unread part.disk copy (keys part.disk)) fork ≡ get copy fork
listing_apart q mib history store part copy fork f other =
    listing_got part.disk copy fork ∙ ap (λ c. cond c (Some (unread (pages_of part.disk fork))) (get copy fork)) (disk_apart q mib history store part fork f other)

turned : (a b : ℕ) (t : Bool) → (a == b) ≡ t → (b == a) ≡ t
turned a b true e = eq-eqb b a (sym (eqb-true a b e))
turned a b false e = by_test (b == a) (λ k. absurd (true≢false (sym (eq-eqb a b (sym (eqb-true b a k))) ∙ e))) (λ k. k)

pub backup_lists : (q mib : ℕ) (history : List Entry) (run : IsRun mib history) (parts : ℕ → Part) (b : Backup) → q < 4 → Follows q mib history run.store (parts q) → is_listed b q ≡ false → IsBackup mib history parts b → IsBackup mib history parts (with_listing b q (parts q).disk)
backup_lists q mib history run parts b l f unlisted is =
    let disk = (parts q).disk in
    let copy = with_forks unread disk b.copy (keys disk) in
    let none = λ (fork : ForkId) (here : (q == partition_of fork.rel) ≡ true). is.absent fork (ap (is_listed b) (sym (eqb-true q (partition_of fork.rel) here)) ∙ unlisted) in
    let apart = λ (fork : ForkId) (away : (q == partition_of fork.rel) ≡ false). listing_apart q mib history run.store (parts q) b.copy fork f (turned q (partition_of fork.rel) false away) in
    record {
      start = is.start;
      prior = is.prior;
      points = is.points;
      forks = λ fork there. by_test (q == partition_of fork.rel)
          (λ here. record {
            seen = history;
            prefix = seen_now mib history b.start is.start;
            listed = subst (IsListed history b.start fork) (sym (listing_count disk b.copy fork (none fork here)))
                (disk_answers q mib history run (parts q) b.start fork f (is.points q l) (turned q (partition_of fork.rel) true here)).listed;
          })
          (λ away.
          let before = is.forks fork (or_second (q == partition_of fork.rel) (is_listed b (partition_of fork.rel)) there away) in
          record {
            seen = before.seen;
            prefix = before.prefix;
            listed = subst (IsListed before.seen b.start fork) (sym (ap (option_map (λ (ps : ForkPages). length ps)) (apart fork away))) before.listed;
          });
      blocks = λ at page named there.
          let away : (q == partition_of at.fork.rel) ≡ false = by_test (q == partition_of at.fork.rel)
          (λ here. absurd (true≢false (sym (is.only at named) ∙ (ap (is_listed b) (sym (eqb-true q (partition_of at.fork.rel) here)) ∙ unlisted))))
          (λ no. no) in
          is.blocks at page named (ap (λ (o : Option ForkPages). o >>= λ pages. slice_get pages at.block) (sym (apart at.fork away)) ∙ there);
      absent = λ fork away.
          let p = or_parts (q == partition_of fork.rel) (is_listed b (partition_of fork.rel)) away in
          apart fork p.0 ∙ is.absent fork p.1;
      only = λ at named. or_right (q == partition_of at.fork.rel) (is_listed b (partition_of at.fork.rel)) (is.only at named);
    }

-- ---- a copied block

-- a page put at a block that is there leaves each fork its length
stays_long : (copy : Store) (at : BlockId) (page : List ℕ) (fork : ForkId) → at.block < unwrap_or (block_count copy at.fork) 0 → block_count (page_put at page copy) fork ≡ block_count copy fork
stays_long copy at page fork within = go (get copy at.fork) refl within
  where
    go : (o : Option ForkPages) → get copy at.fork ≡ o → at.block < unwrap_or (option_map (λ (ps : ForkPages). length ps) o) 0 → block_count (page_put at page copy) fork ≡ block_count copy fork
    go None is l = absurd (omega (arith, l))
    go (Some pages) is l =
        let most : max (length pages) (at.block + 1) ≡ length pages = omega (arith, l) in
        blocks_put copy at page pages is fork ∙ by_test (is_same_fork fork at.fork)
        (λ here.
        ap (λ c. cond c (Some (max (length pages) (at.block + 1))) (block_count copy fork)) here ∙ ap (λ (n : ℕ). Some n) most
        ∙ sym (ap (λ (f : ForkId). block_count copy f) (fork_is fork at.fork here) ∙ ap (option_map (λ (ps : ForkPages). length ps)) is))
        (λ away. ap (λ c. cond c (Some (max (length pages) (at.block + 1))) (block_count copy fork)) away)

copied_block : (copy : Store) (at : BlockId) (page : List ℕ) (q : BlockId) → nat_lt at.block (unwrap_or (block_count copy at.fork) 0) ≡ true → block_of (page_put at page copy) q.fork q.block ≡ cond (is_same_block q at) (Some page) (block_of copy q.fork q.block)
copied_block copy at page q within =
    page_block copy at page q.fork q.block (λ apart is less.
    has_before copy q.fork q.block at.block (ap (λ (f : ForkId). is_some (block_of copy f at.block)) is ∙ (listed_blocks copy at.fork at.block ∙ within)) less)

same_page : (a b : List ℕ) → Some a ≡ Some b → b ≡ a
same_page a b e = cc

still_there : (copy : Store) (at : BlockId) (page : List ℕ) (fork : ForkId) → at.block < unwrap_or (block_count copy at.fork) 0 → is_some (get (page_put at page copy) fork) ≡ is_some (get copy fork)
still_there copy at page fork within =
    let counted = λ (o : Option ForkPages). is_some (option_map (λ (ps : ForkPages). length ps) o) in
    let same = λ (o : Option ForkPages). elim o as (λ p. is_some (option_map (λ (ps : ForkPages). length ps) p) ≡ is_some p) [ None ↦ refl | Some pages ↦ refl ] in
    sym (same (get (page_put at page copy) fork)) ∙ ap (λ (n : Option ℕ). is_some n) (stays_long copy at page fork within) ∙ same (get copy fork)

pub backup_copies : (q mib : ℕ) (history : List Entry) (run : IsRun mib history) (parts : ℕ → Part) (b : Backup) (at : BlockId) → partition_of at.fork.rel ≡ q → q < 4 → Follows q mib history run.store (parts q)
    → is_listed b (partition_of at.fork.rel) ≡ true → is_within b at ≡ true → IsBackup mib history parts b → IsBackup mib history parts (with_copied b at (block_of (parts q).disk at.fork at.block))
backup_copies q mib history run parts b at mine l f listed within is =
    let answer = block_of (parts q).disk at.fork at.block in
    let page = unwrap_or answer zero_page in
    let less = ltb-true at.block (unwrap_or (block_count b.copy at.fork) 0) within in
    record {
      start = is.start;
      prior = is.prior;
      points = is.points;
      forks = λ fork there.
          let before = is.forks fork there in
          record { seen = before.seen; prefix = before.prefix; listed = subst (IsListed before.seen b.start fork) (sym (stays_long b.copy at page fork less)) before.listed };
      blocks = λ x found named there.
          let is_block = copied_block b.copy at page x within in
          by_test (is_same_block x at)
          (λ here.
          let same : x ≡ at = block_is x at here in
          let now : found ≡ page = same_page page found (sym (is_block ∙ ap (λ c. cond c (Some page) (block_of b.copy x.fork x.block)) here) ∙ there) in
          subst (λ (y : BlockId). CopiedAt history b.start y.fork y.block found) (sym same)
          (record {
            seen = history;
            prefix = seen_now mib history b.start is.start;
            answer = answer;
            copied = (disk_answers q mib history run (parts q) b.start at.fork f (is.points q l) (eq-eqb (partition_of at.fork.rel) q mine)).copied at.block;
            written = now;
          }))
          (λ away.
          is.blocks x found (or_second (is_same_block x at) (is_named x b.copied) named away)
          (sym (is_block ∙ ap (λ c. cond c (Some page) (block_of b.copy x.fork x.block)) away) ∙ there));
      absent = λ fork away. no_pages (get (page_put at page b.copy) fork) (still_there b.copy at page fork less ∙ ap (λ (o : Option ForkPages). is_some o) (is.absent fork away));
      only = λ x named. by_test (is_same_block x at)
          (λ here. ap (λ (y : BlockId). is_listed b (partition_of y.fork.rel)) (block_is x at here) ∙ listed)
          (λ away. is.only x (or_second (is_same_block x at) (is_named x b.copied) named away));
    }

-- ---- its end

pub each_listed : (t : ℕ → Bool) → list_all t part_numbers ≡ true → (q : ℕ) → q < 4 → t q ≡ true
each_listed t all zero l = (and_parts (t 0) _ all).0
each_listed t all (suc zero) l = (and_parts (t 1) _ (and_parts (t 0) _ all).1).0
each_listed t all (suc (suc zero)) l = (and_parts (t 2) _ (and_parts (t 1) _ (and_parts (t 0) _ all).1).1).0
each_listed t all (suc (suc (suc zero))) l = (and_parts (t 3) _ (and_parts (t 2) _ (and_parts (t 1) _ (and_parts (t 0) _ all).1).1).1).0
each_listed t all (suc (suc (suc (suc q)))) l = absurd (omega (arith, l))

-- a block that is there is among the blocks
in_range : (t : BlockId → Bool) (fork : ForkId) (first n b : ℕ) → list_all t (map (λ block. record { fork = fork; block = block }) (range_with_len first n)) ≡ true → first ≤ b → b < first + n → t (record { fork = fork; block = b }) ≡ true
in_range t fork first zero b all low high = absurd (omega (arith, low, high))
in_range t fork first (suc n) b all low high =
    let p = and_parts (t (record { fork = fork; block = first })) _ all in
    by_test (first == b)
    (λ here. ap (λ (k : ℕ). t (record { fork = fork; block = k })) (sym (eqb-true first b here)) ∙ p.0)
    (λ away. in_range t fork (first + 1) n b p.1 (let k = eqb-false first b away in omega (arith, low, k)) (omega (arith, high)))

among_blocks : (t : BlockId → Bool) (store : Store) (forks : List ForkId) (fork : ForkId) (b : ℕ) → list_all t (flat_map (fork_blocks store) forks) ≡ true → list_any (is_same_fork fork) forks ≡ true → b < length (pages_of store fork) → t (record { fork = fork; block = b }) ≡ true
among_blocks t store [] fork b all named l = absurd (true≢false (sym named))
among_blocks t store (f ∷ forks) fork b all named l =
    let p = and_parts (list_all t (fork_blocks store f)) (list_all t (flat_map (fork_blocks store) forks)) (sym (list_all-append t (fork_blocks store f) (flat_map (fork_blocks store) forks)) ∙ all) in
    by_test (is_same_fork fork f)
    (λ here.
    let same : fork ≡ f = fork_is fork f here in
    ap (λ (g : ForkId). t (record { fork = g; block = b })) same ∙ in_range t f 0 (length (pages_of store f)) b p.0 (omega arith) (omega (arith, l, ap (λ (g : ForkId). length (pages_of store g)) same)))
    (λ away. among_blocks t store forks fork b p.1 (or_second (is_same_fork fork f) (list_any (is_same_fork fork) forks) named away) l)

short_of : (pages : ForkPages) (b : ℕ) (page : List ℕ) → slice_get pages b ≡ Some page → b < length pages
short_of [] b page e = absurd cc
short_of (p ∷ pages) zero page e = omega arith
short_of (p ∷ pages) (suc b) page e = (let k = short_of pages b page e in omega (arith, k))

pub block_listed : (t : BlockId → Bool) (store : Store) (fork : ForkId) (b : ℕ) (page : List ℕ) → list_all t (blocks_of store) ≡ true → block_of store fork b ≡ Some page → t (record { fork = fork; block = b }) ≡ true
block_listed t store fork b page all there = go (get store fork) refl there
  where
    go : (o : Option ForkPages) → get store fork ≡ o → (o >>= λ pages. slice_get pages b) ≡ Some page → t (record { fork = fork; block = b }) ≡ true
    go None is e = absurd cc
    go (Some pages) is e =
        among_blocks t store (keys store) fork b all (sym (keys_named store fork) ∙ ap (λ (o : Option ForkPages). is_some o) is)
        (let k = short_of pages b page e in omega (arith, k, ap (λ (o : Option ForkPages). length (unwrap_or o [])) is))

-- seen up to an entry that ends the backup
pub seen_to : (seen history : List Entry) (from : ℕ) (e : Entry) → SeenSoFar seen history from → IsSeen seen (history ++ (e ∷ [])) from e.end
seen_to seen history from e s = record {
  behind = s.behind ++ (e ∷ []);
  all = ap (λ (h : List Entry). h ++ (e ∷ [])) s.all ∙ append_assoc seen s.behind (e ∷ []);
  holds = s.holds;
  ends = list_any-append (λ (x : Entry). x.end == e.end) s.behind (e ∷ []) ∙ or_right (list_any (λ (x : Entry). x.end == e.end) s.behind) _ (ap (λ c. c || false) (eq-eqb e.end e.end refl));
}

pub backup_taken : (mib relseg : ℕ) (history : List Entry) (parts : ℕ → Part) (published : List Published) (b : Backup) (e : Entry) → IsBackup mib history parts b → is_complete relseg published b ≡ true → b.prior ≡ None → IsTaken b.copy (history ++ (e ∷ [])) b.start e.end
backup_taken mib relseg history parts published b e is complete full =
    let p = and_parts (list_all (is_listed b) part_numbers) (list_all (is_settled relseg published b) (blocks_of b.copy)) complete in
    record {
      forks = λ fork.
          let l = is.forks fork (each_listed (is_listed b) p.0 (partition_of fork.rel) (omega arith)) in
          record { seen = l.seen; prefix = seen_to l.seen history b.start e l.prefix; listed = l.listed };
      blocks = λ fork block page there.
          let at : BlockId = record { fork = fork; block = block } in
          let settled = block_listed (is_settled relseg published b) b.copy fork block page p.1 there in
          let named : is_named at b.copied ≡ true = copied_of (is_named at b.copied) (ap (λ (o : Option Prior). is_named at b.copied || not (sends relseg published b o at)) (sym full) ∙ settled) in
          let c = is.blocks at page named there in
          record { seen = c.seen; prefix = seen_to c.seen history b.start e c.prefix; answer = c.answer; copied = c.copied; written = c.written };
    }
  where
    copied_of : (t : Bool) → (t || false) ≡ true → t ≡ true
    copied_of true k = refl
    copied_of false k = absurd (true≢false (sym k))
