-- What a disk lacks after acts in frames, and after writes.
use Rattle.std.proofs.Common.{◌≡◌, ℕ, ◌<◌, Bool, true, false, cond, not, ◌&&◌, ◌||◌, List, [], ◌∷◌, ◌++◌, subst, inl, inr, Option, Some, None, unwrap_or, is_some, refl, ap, sym, ◌∙◌, arith, true≢false, length}
use Rattle.std.specs.Prelude.{◌==◌, nat_le, nat_lt, slice_get}
use Rattle.std.specs.FinMap.{get, remove, get-remove, contains_key}
use Rattle.std.proofs.lemmas.Bool.{eq-eqb, or_parts, and_parts, ltb-true, lt-ltb}
use Rattle.std.proofs.lemmas.List.Folds.{list_any-append}
use Rattle.std.proofs.Math.Bool.{or-false, or-true}
use Rattle.lsn_core.specs.byte_words.Numbers.{◌>>=◌}
use Rattle.lsn_core.specs.Relation.{Relation}
use Rattle.lsn_core.proofs.ForkOrder.{fork_cmp_total}
use Rattle.history.proofs.Counts.{none_removed}
use Rattle.lsn_core.specs.declared.ids.ForkId.{ForkId}
use Rattle.lsn_core.specs.declared.ids.BlockId.{BlockId}
use Rattle.lsn_core.specs.Store.{Store, ForkPages}
use Rattle.lsn_core.specs.Blocks.{block_of, block_count, pages_of, with_block, page_put, with_cut, without_fork}
use Rattle.history.specs.declared.op.Edit.TheVariants.{Put}
use Rattle.history.specs.Entry.{Act, Create, Truncate, Change, Drop, Mark, Entry}
use Rattle.history.specs.Apply.{Rule, main_fork, init_fork, without_rel, without_rels, edited, is_same_fork, is_same_block, apply_act}
use Rattle.history.specs.Op.{IsTidy}
use Rattle.history.proofs.Stores.{by_test, block_is, fork_is}
use Rattle.history.specs.fuzzy_copies.Touches.{act_touches, act_cuts, act_settles}
use Rattle.history.specs.fuzzy_copies.Effects.{Stay, Reach, Alter, Clear, after}
use Rattle.history.proofs.fuzzy_copies.Pages.{same_stores, put_view, cut_view, fork_view, absorbed, contains_key-insert, contains_key-with_fork, contains_key-with_cut}
use Rattle.history.proofs.fuzzy_copies.View.{act_forks}
use Rattle.history.proofs.fuzzy_copies.Completed.{either_none}
use Rattle.history.proofs.fuzzy_copies.Taken.{listed_blocks}
use Rattle.history.proofs.fuzzy_copies.Kept.{entries_keep, forks_keep}
use Rattle.page_frames.specs.Marks.{DirtyMarks, touch_end, is_dirty}
use Rattle.page_frames.proofs.Marks.{mark_set}
use Rattle.page_pool.specs.declared.work.Work.{Work}
use Rattle.page_pool.specs.declared.work.Work.TheVariants.{Make, Cut, Remove}
use Rattle.page_pool.specs.declared.work.Pending.{Pending}
use Rattle.page_pool.specs.Part.{work_settles, work_cuts, is_to_settle, is_to_cut, there_after, there_behind, LacksUnwritten, if_whole}
use Rattle.page_pool.specs.Steps.{marks_without, with_removal, marks_dropped, works_dropped, marks_after, works_after, work_done}
use Rattle.page_pool.specs.Laws.{ActsAreEntered, WorksAreDone, PagesAreWritten, TornWritesStayUnwritten, MendedDisksLackNoMore, CleanDisksAreFrames, FramesLackNothing}
use Rattle.page_pool.proofs.Marks.{IsNoDrop, mark_gone, clean_before}

neither : (a b : Bool) → a ≡ false → b ≡ false → (a || b) ≡ false
neither a b none other = ap (λ c. c || b) none ∙ other

-- what is pending after an act
to_cut_after : (end : ℕ) (frames : Store) (works : List Pending) (act : Act) (fork : ForkId) (b : ℕ) → IsNoDrop act → is_to_cut (works_after end frames works act) fork b ≡ (is_to_cut works fork b || act_cuts fork b act)
to_cut_after end frames works (Create made) fork b plain = list_any-append (λ (w : Pending). work_cuts fork b w.work) works (record { work = Make made; end = record { 0 = end } } ∷ [])
to_cut_after end frames works (Truncate rel count) fork b plain =
    list_any-append (λ (w : Pending). work_cuts fork b w.work) works (record { work = Cut (main_fork rel) count; end = record { 0 = end } } ∷ [])
    ∙ ap (λ c. is_to_cut works fork b || c) (or-false (is_same_fork fork (main_fork rel) && nat_le count b))
to_cut_after end frames works (Change items) fork b plain = sym (or-false (is_to_cut works fork b))
to_cut_after end frames works (Drop rels) fork b plain = absurd plain
to_cut_after end frames works (Mark marking) fork b plain = sym (or-false (is_to_cut works fork b))

-- one more work behind others
behind_push : (works : List Pending) (w : Pending) (fork : ForkId) (there : Bool) → there_behind (works ++ (w ∷ [])) fork there ≡ there_after fork (there_behind works fork there) w.work
behind_push [] w fork there = refl
behind_push (x ∷ works) w fork there = behind_push works w fork (there_after fork there x.work)

-- works that don't settle a fork leave it, and behind those that do it is no matter what was before
pub unsettled : (works : List Pending) (fork : ForkId) (there : Bool) → is_to_settle works fork ≡ false → there_behind works fork there ≡ there
unsettled [] fork there none = refl
unsettled (w ∷ works) fork there none =
    let p = or_parts (work_settles fork w.work) (is_to_settle works fork) none in
    ap (there_behind works fork) (by w.work p.0) ∙ unsettled works fork there p.1
  where
    by : (work : Work) → work_settles fork work ≡ false → there_after fork there work ≡ there
    by (Make made) e = ap (λ c. there || c) e ∙ or-false there
    by (Cut cut count) e = refl
    by (Remove gone) e = ap (λ c. there && not c) e ∙ and_yes there
      where
        and_yes : (c : Bool) → (c && not false) ≡ c
        and_yes true = refl
        and_yes false = refl

pub settled_alike : (works : List Pending) (fork : ForkId) (a b : Bool) → (is_to_settle works fork ≡ false → a ≡ b) → there_behind works fork a ≡ there_behind works fork b
settled_alike [] fork a b same = same refl
settled_alike (w ∷ works) fork a b same =
    settled_alike works fork (there_after fork a w.work) (there_after fork b w.work) (λ none. by w.work (λ unsettled. same (neither (work_settles fork w.work) (is_to_settle works fork) unsettled none)))
  where
    none_there : (c : Bool) → (c && not true) ≡ false
    none_there true = refl
    none_there false = refl

    by : (work : Work) → (work_settles fork work ≡ false → a ≡ b) → there_after fork a work ≡ there_after fork b work
    by (Make made) k = by_test (is_same_fork fork made)
        (λ here. ap (λ c. a || c) here ∙ or-true a ∙ sym (ap (λ c. b || c) here ∙ or-true b))
        (λ apart. ap (λ c. c || is_same_fork fork made) (k apart))
    by (Cut cut count) k = k refl
    by (Remove gone) k = by_test (is_same_fork fork gone)
        (λ here. ap (λ c. a && not c) here ∙ none_there a ∙ sym (ap (λ c. b && not c) here ∙ none_there b))
        (λ apart. ap (λ c. c && not (is_same_fork fork gone)) (k apart))

-- an act as an entry
abbrev entry_at : ℕ → Act → Entry
entry_at end act = record { act = act; start = 0; end = end; worker = None; seq = None }

act_keeps : (end : ℕ) (store next : Store) (act : Act) (fork : ForkId) (b : ℕ) → IsTidy store act → apply_act end store act ≡ Some next → (act_touches fork b act || act_cuts fork b act) ≡ false → block_of next fork b ≡ block_of store fork b
act_keeps end store next act fork b tidy e none =
    entries_keep store next (entry_at end act ∷ []) fork b (tidy, λ s _. tt) (ap (λ (o : Option Store). o >>= λ s. Some s) e) (or-false (act_touches fork b act || act_cuts fork b act) ∙ none)

act_forks_keep : (end : ℕ) (store next : Store) (act : Act) (fork : ForkId) → IsTidy store act → apply_act end store act ≡ Some next → act_settles fork act ≡ false → contains_key next fork ≡ contains_key store fork
act_forks_keep end store next act fork tidy e none = forks_keep store next (entry_at end act ∷ []) fork (tidy, λ s _. tt) (ap (λ (o : Option Store). o >>= λ s. Some s) e) (or-false (act_settles fork act) ∙ none)

cut_or_not : (c : Bool) (o p : Option (List ℕ)) → after edited (cond c Clear Stay) o ≡ Some p → p ≡ cond c None o
cut_or_not true o p e = cc
cut_or_not false o p e = cc

pub cut_block : (store : Store) (cut : ForkId) (count : ℕ) (fork : ForkId) (b : ℕ) → block_of (with_cut store cut count) fork b ≡ cond (is_same_fork fork cut && nat_le count b) None (block_of store fork b)
cut_block store cut count fork b = cut_or_not (is_same_fork fork cut && nat_le count b) (block_of store fork b) (block_of (with_cut store cut count) fork b) (cut_view edited store cut count fork b)

act_gone : (end : ℕ) (store next : Store) (act : Act) (fork : ForkId) (b : ℕ) → IsNoDrop act → apply_act end store act ≡ Some next → act_cuts fork b act ≡ true → block_of next fork b ≡ None
act_gone end store next (Create made) fork b plain e cut = absurd (true≢false (sym cut))
act_gone end store next (Truncate rel count) fork b plain e cut =
    let done : with_cut store (main_fork rel) count ≡ next = cc in
    ap (λ (s : Store). block_of s fork b) (sym done) ∙ cut_block store (main_fork rel) count fork b ∙ ap (λ c. cond c None (block_of store fork b)) cut
act_gone end store next (Change items) fork b plain e cut = absurd (true≢false (sym cut))
act_gone end store next (Drop rels) fork b plain e cut = absurd plain
act_gone end store next (Mark marking) fork b plain e cut = absurd (true≢false (sym cut))

-- the forks that there are once the works after an act are done
forks_entered : (end : ℕ) (frames next : Store) (works : List Pending) (act : Act) (fork : ForkId) (there : Bool) → IsNoDrop act → IsTidy frames act → apply_act end frames act ≡ Some next → there_behind works fork there ≡ contains_key frames fork
    → there_behind (works_after end frames works act) fork there ≡ contains_key next fork
forks_entered end frames next works (Create made) fork there plain tidy e h =
    behind_push works (record { work = Make made; end = record { 0 = end } }) fork there ∙ ap (λ c. c || is_same_fork fork made) h ∙ sym (act_forks edited end frames next (Create made) e fork)
forks_entered end frames next works (Truncate rel count) fork there plain tidy e h =
    behind_push works (record { work = Cut (main_fork rel) count; end = record { 0 = end } }) fork there ∙ h ∙ sym (act_forks edited end frames next (Truncate rel count) e fork)
forks_entered end frames next works (Change items) fork there plain tidy e h = h ∙ sym (act_forks_keep end frames next (Change items) fork tidy e refl)
forks_entered end frames next works (Drop rels) fork there plain tidy e h = absurd plain
forks_entered end frames next works (Mark marking) fork there plain tidy e h = h ∙ sym (act_forks edited end frames next (Mark marking) e fork)

first_of : (a b : Bool) → b ≡ false → (a || b) ≡ true → a ≡ true
first_of a b none e = either_none a (sym (ap (λ c. a || c) none) ∙ e)

acts_plain : (disk frames next : Store) (marks : DirtyMarks) (works : List Pending) (end : ℕ) (act : Act) → IsNoDrop act → IsTidy frames act → apply_act end frames act ≡ Some next → LacksUnwritten disk frames marks works
    → LacksUnwritten disk next (marks_after end frames marks act) (works_after end frames works act)
acts_plain disk frames next marks works end act plain tidy e h =
    let stays = λ (fork : ForkId) (b : ℕ) (touched : act_touches fork b act ≡ false) (uncut : act_cuts fork b act ≡ false). act_keeps end frames next act fork b tidy e (neither (act_touches fork b act) (act_cuts fork b act) touched uncut) in
    record {
      same = λ fork b clean uncut.
          let u = or_parts (is_to_cut works fork b) (act_cuts fork b act) (sym (to_cut_after end frames works act fork b plain) ∙ uncut) in
          let c = clean_before end frames marks act fork b plain clean u.1 in
          h.same fork b c.1 u.0 ∙ sym (stays fork b c.0 u.1);
      gone = λ fork b clean cut. by_test (act_cuts fork b act)
          (λ now. act_gone end frames next act fork b plain e now)
          (λ not_now.
          let c = clean_before end frames marks act fork b plain clean not_now in
          stays fork b c.0 not_now ∙ h.gone fork b c.1 (first_of (is_to_cut works fork b) (act_cuts fork b act) not_now (sym (to_cut_after end frames works act fork b plain) ∙ cut)));
      forks = λ fork. forks_entered end frames next works act fork (contains_key disk fork) plain tidy e (h.forks fork);
    }

-- a fork that is taken away
get_gone : (store : Store) (gone fork : ForkId) → get (without_fork store gone) fork ≡ cond (is_same_fork fork gone) None (get store fork)
unfolding is_same_fork
get_gone store gone fork = get-remove fork_cmp_total store gone fork

pub block_gone : (store : Store) (gone fork : ForkId) (b : ℕ) → block_of (without_fork store gone) fork b ≡ cond (is_same_fork fork gone) None (block_of store fork b)
block_gone store gone fork b = ap (λ (o : Option ForkPages). o >>= λ pages. slice_get pages b) (get_gone store gone fork) ∙ go (is_same_fork fork gone)
  where
    go : (c : Bool) → (cond c None (get store fork) >>= λ pages. slice_get pages b) ≡ cond c None (get store fork >>= λ pages. slice_get pages b)
    go true = refl
    go false = refl

pub contains_gone : (store : Store) (gone fork : ForkId) → contains_key (without_fork store gone) fork ≡ (contains_key store fork && not (is_same_fork fork gone))
contains_gone store gone fork = ap (λ (o : Option ForkPages). is_some o) (get_gone store gone fork) ∙ go (is_same_fork fork gone) (get store fork)
  where
    go : (c : Bool) (o : Option ForkPages) → is_some (cond c None o) ≡ (is_some o && not c)
    go true None = refl
    go true (Some pages) = refl
    go false None = refl
    go false (Some pages) = refl

missing_is : (o : Option ForkPages) → is_some o ≡ false → o ≡ None
missing_is None e = refl
missing_is (Some pages) e = absurd (true≢false e)

fork_removed : (disk frames : Store) (marks : DirtyMarks) (works : List Pending) (end : ℕ) (gone : ForkId) → LacksUnwritten disk frames marks works
    → LacksUnwritten disk (without_fork frames gone) (remove marks gone) (works ++ (record { work = Remove gone; end = record { 0 = end } } ∷ []))
fork_removed disk frames marks works end gone h =
    let w : Pending = record { work = Remove gone; end = record { 0 = end } } in
    let cuts = λ (fork : ForkId) (b : ℕ). list_any-append (λ (x : Pending). work_cuts fork b x.work) works (w ∷ []) ∙ ap (λ c. is_to_cut works fork b || c) (or-false (is_same_fork fork gone)) in
    let before = λ (fork : ForkId) (b : ℕ) (apart : is_same_fork fork gone ≡ false) (clean : is_dirty (remove marks gone) fork b ≡ false). ap (λ (m : Option ℕ). is_some m) (sym (mark_gone marks gone fork b ∙ ap (λ c. cond c None (touch_end marks fork b)) apart)) ∙ clean in
    record {
      same = λ fork b clean uncut.
          let u = or_parts (is_to_cut works fork b) (is_same_fork fork gone) (sym (cuts fork b) ∙ uncut) in
          h.same fork b (before fork b u.1 clean) u.0 ∙ sym (block_gone frames gone fork b ∙ ap (λ c. cond c None (block_of frames fork b)) u.1);
      gone = λ fork b clean cut. block_gone frames gone fork b ∙ by_test (is_same_fork fork gone)
          (λ here. ap (λ c. cond c None (block_of frames fork b)) here)
          (λ apart. ap (λ c. cond c None (block_of frames fork b)) apart ∙ h.gone fork b (before fork b apart clean) (first_of (is_to_cut works fork b) (is_same_fork fork gone) apart (sym (cuts fork b) ∙ cut)));
      forks = λ fork. behind_push works w fork (contains_key disk fork) ∙ ap (λ c. c && not (is_same_fork fork gone)) (h.forks fork) ∙ sym (contains_gone frames gone fork);
    }

one_gone : (disk frames : Store) (marks : DirtyMarks) (works : List Pending) (end : ℕ) (gone : ForkId) → LacksUnwritten disk frames marks works
    → LacksUnwritten disk (without_fork frames gone) (marks_without frames marks gone) (with_removal end frames works gone)
one_gone disk frames marks works end gone h =
    elim (contains_key frames gone) as (λ c. contains_key frames gone ≡ c → LacksUnwritten disk (without_fork frames gone) (cond c (remove marks gone) marks) (cond c (works ++ (record { work = Remove gone; end = record { 0 = end } } ∷ [])) works)) [
      | true ↦ λ there. fork_removed disk frames marks works end gone h
      | false ↦ λ missing. subst (λ (s : Store). LacksUnwritten disk s marks works) (sym (none_removed frames gone (missing_is (get frames gone) missing))) h
    ] refl

drop_entered : (disk frames : Store) (marks : DirtyMarks) (works : List Pending) (end : ℕ) (rels : List Relation) → LacksUnwritten disk frames marks works
    → LacksUnwritten disk (without_rels frames rels) (marks_dropped frames marks rels) (works_dropped end frames works rels)
drop_entered disk frames marks works end [] h = h
drop_entered disk frames marks works end (rel ∷ rels) h =
    let main = main_fork rel in
    let first = one_gone disk frames marks works end main h in
    let second = one_gone disk (without_fork frames main) (marks_without frames marks main) (with_removal end frames works main) end (init_fork rel) first in
    drop_entered disk (without_rel frames rel) (marks_without (without_fork frames main) (marks_without frames marks main) (init_fork rel)) (with_removal end (without_fork frames main) (with_removal end frames works main) (init_fork rel)) end rels second

pub acts_entered : ActsAreEntered
acts_entered disk frames next marks works end (Create made) tidy e h = acts_plain disk frames next marks works end (Create made) tt tidy e h
acts_entered disk frames next marks works end (Truncate rel count) tidy e h = acts_plain disk frames next marks works end (Truncate rel count) tt tidy e h
acts_entered disk frames next marks works end (Change items) tidy e h = acts_plain disk frames next marks works end (Change items) tt tidy e h
acts_entered disk frames next marks works end (Drop rels) tidy e h =
    let done : without_rels frames rels ≡ next = cc in
    subst (λ (s : Store). LacksUnwritten disk s (marks_dropped frames marks rels) (works_dropped end frames works rels)) done (drop_entered disk frames marks works end rels h)
acts_entered disk frames next marks works end (Mark marking) tidy e h = acts_plain disk frames next marks works end (Mark marking) tt tidy e h

-- a disk after a work
work_block : (disk : Store) (work : Work) (fork : ForkId) (b : ℕ) → block_of (work_done work disk) fork b ≡ cond (work_cuts fork b work) None (block_of disk fork b)
work_block disk (Make made) fork b = sym (fork_view disk made fork b)
work_block disk (Cut cut count) fork b = cut_block disk cut count fork b
work_block disk (Remove gone) fork b = block_gone disk gone fork b

work_forks : (disk : Store) (work : Work) (fork : ForkId) → contains_key (work_done work disk) fork ≡ there_after fork (contains_key disk fork) work
work_forks disk (Make made) fork = contains_key-with_fork disk made fork
work_forks disk (Cut cut count) fork = contains_key-with_cut disk cut count fork
work_forks disk (Remove gone) fork = contains_gone disk gone fork

pub works_done : WorksAreDone
works_done disk frames marks first works h =
    let cuts = λ (fork : ForkId) (b : ℕ). is_to_cut works fork b in
    record {
      same = λ fork b clean uncut. work_block disk first.work fork b ∙ by_test (work_cuts fork b first.work)
          (λ now. ap (λ c. cond c None (block_of disk fork b)) now ∙ sym (h.gone fork b clean (ap (λ c. c || cuts fork b) now)))
          (λ not_now. ap (λ c. cond c None (block_of disk fork b)) not_now ∙ h.same fork b clean (neither (work_cuts fork b first.work) (cuts fork b) not_now uncut));
      gone = λ fork b clean cut. h.gone fork b clean (ap (λ c. work_cuts fork b first.work || c) cut ∙ or-true (work_cuts fork b first.work));
      forks = λ fork. ap (there_behind works fork) (work_forks disk first.work fork) ∙ h.forks fork;
    }

-- a page put at a block leaves another block that is behind it, or is there
abbrev puts : List ℕ → Rule
puts page end old edit = Some page

put_effect : (page : List ℕ) (s p : Bool) (o q : Option (List ℕ)) → (p ≡ true → is_some o ≡ true) → after (puts page) (cond s (Alter 0 (Put page)) (cond p Reach Stay)) o ≡ Some q → q ≡ cond s (Some page) o
put_effect page true p o q there e = cc
put_effect page false true (Some x) q there e = cc
put_effect page false true None q there e = absurd (true≢false (sym (there refl)))
put_effect page false false o q there e = cc

block_behind : (store : Store) (at : BlockId) (page : List ℕ) (fork : ForkId) (b : ℕ) → ((is_same_fork fork at.fork && nat_lt b at.block) ≡ true → is_some (block_of store fork b) ≡ true)
    → block_of (page_put at page store) fork b ≡ cond (is_same_block (record { fork = fork; block = b }) at) (Some page) (block_of store fork b)
block_behind store at page fork b before =
    put_effect page (is_same_fork fork at.fork && (b == at.block)) (is_same_fork fork at.fork && nat_lt b at.block) (block_of store fork b) (block_of (page_put at page store) fork b) before
    (put_view (puts page) 0 (Put page) store at page fork b refl)

-- a fork has all blocks before one that it has
pub has_before : (store : Store) (fork : ForkId) (b block : ℕ) → is_some (block_of store fork block) ≡ true → b < block → is_some (block_of store fork b) ≡ true
has_before store fork b block there l =
    let count = unwrap_or (block_count store fork) 0 in
    let h = ltb-true block count (sym (listed_blocks store fork block) ∙ there) in
    listed_blocks store fork b ∙ lt-ltb b count (omega (arith, l, h))

pub has_fork : (store : Store) (fork : ForkId) (b : ℕ) → is_some (block_of store fork b) ≡ true → contains_key store fork ≡ true
has_fork store fork b there =
    elim (get store fork) as (λ (o : Option ForkPages). is_some (o >>= λ pages. slice_get pages b) ≡ true → is_some o ≡ true) [ None ↦ λ e. absurd (true≢false (sym e)) | Some pages ↦ λ e. refl ] there

pub pages_written : PagesAreWritten
pages_written disk frames marks at page h there =
    let some = ap (λ (o : Option (List ℕ)). is_some o) there in
    record {
      same = λ fork b clean uncut. by_test (is_same_block (record { fork = fork; block = b }) at)
          (λ here.
          block_behind disk at page fork b (λ past.
          let p = and_parts (is_same_fork fork at.fork) (nat_lt b at.block) past in
          absurd (let less = ltb-true b at.block p.1 in let is = ap (λ (x : BlockId). x.block) (block_is (record { fork = fork; block = b }) at here) in omega (arith, less, is)))
          ∙ ap (λ c. cond c (Some page) (block_of disk fork b)) here ∙ sym there ∙ ap (λ (x : BlockId). block_of frames x.fork x.block) (sym (block_is (record { fork = fork; block = b }) at here)))
          (λ apart.
          let still = ap (λ (m : Option ℕ). is_some m) (mark_set marks at None fork b ∙ ap (λ c. cond c None (touch_end marks fork b)) apart) in
          let agree = h.same fork b (sym still ∙ clean) refl in
          block_behind disk at page fork b (λ past.
          let p = and_parts (is_same_fork fork at.fork) (nat_lt b at.block) past in
          ap (λ (o : Option (List ℕ)). is_some o) agree ∙ ap (λ (f : ForkId). is_some (block_of frames f b)) (fork_is fork at.fork p.0) ∙ has_before frames at.fork b at.block some (ltb-true b at.block p.1))
          ∙ ap (λ c. cond c (Some page) (block_of disk fork b)) apart ∙ agree);
      gone = λ fork b clean cut. absurd (true≢false (sym cut));
      forks = λ fork. contains_key-insert disk at.fork (with_block (pages_of disk at.fork) at.block page) fork
          ∙ ap (λ c. c || is_same_fork fork at.fork) (h.forks fork) ∙ absorbed frames at.fork fork (has_fork frames at.fork at.block some);
    }

pub torn_writes : TornWritesStayUnwritten
torn_writes old new frames marks works torn h = record {
  same = λ fork b clean uncut. torn.blocks fork b clean uncut ∙ h.same fork b clean uncut;
  gone = λ fork b clean cut. h.gone fork b clean cut;
  forks = λ fork. settled_alike works fork (contains_key new fork) (contains_key old fork) (torn.forks fork) ∙ h.forks fork;
}

-- short pages left out
whole_kept : (o : Option (List ℕ)) → ((page : List ℕ) → o ≡ Some page → length page ≡ 8192) → if_whole o ≡ o
whole_kept None k = refl
whole_kept (Some page) k = ap (λ (c : Bool). cond c (Some page) None) (eq-eqb (length page) 8192 (k page refl))

pub mended : MendedDisksLackNoMore
mended raw disk frames marks works whole m h = record {
  same = λ fork b clean uncut. elim (m.blocks fork b) [
    | inl as_it_was ↦ as_it_was ∙ h.same fork b clean uncut
    | inr left_out ↦ left_out ∙ ap if_whole (h.same fork b clean uncut) ∙ whole_kept (block_of frames fork b) (whole fork b)
  ];
  gone = λ fork b clean cut. h.gone fork b clean cut;
  forks = λ fork. ap (there_behind works fork) (m.forks fork) ∙ h.forks fork;
}

-- where nothing is dirty or pending
pub clean_disks : CleanDisksAreFrames
clean_disks disk frames marks h clean = same_stores disk frames (λ fork. h.forks fork) (λ fork b. h.same fork b (clean fork b) refl)

pub lack_nothing : FramesLackNothing
lack_nothing frames marks = record {
  same = λ fork b clean uncut. refl;
  gone = λ fork b clean cut. absurd (true≢false (sym cut));
  forks = λ fork. refl;
}
