-- What writes through segment files leave of what the disk lacks: those that are done, and those that failed.
use Rattle.std.proofs.Common.{◌≡◌, ℕ, zero, suc, ◌<◌, ◌≤◌, Bool, true, false, cond, not, ◌&&◌, ◌||◌, List, [], ◌∷◌, length, inl, inr, ◌⊎◌, Option, Some, None, is_some, unwrap_or, refl, ap, sym, subst, ◌∙◌, arith, true≢false, ne_eqb}
use Rattle.std.specs.Prelude.{nat_le, nat_lt, slice_get, if◌then◌else◌}
use Rattle.std.proofs.Math.Bool.{or-false}
use Rattle.std.specs.FinMap.{get, contains_key}
use Rattle.std.proofs.lemmas.Bool.{and_parts, or_parts, cases_lt, leb-true, le-leb}
use Rattle.std.proofs.lemmas.Option.{slice_get_past}
use Rattle.lsn_core.specs.byte_words.Numbers.{◌>>=◌}
use Rattle.lsn_core.specs.declared.ids.ForkId.{ForkId}
use Rattle.lsn_core.specs.declared.ids.BlockId.{BlockId}
use Rattle.lsn_core.specs.Store.{Store, ForkPages}
use Rattle.lsn_core.specs.Blocks.{block_of, pages_of, page_put, with_fork, with_cut, without_fork}
use Rattle.rel_files.specs.Forks.{AreHeld, HasHeldPages, whole_pages, mended, page_over, IsTornPut, IsTornCut, IsTornRemoval}
use Rattle.rel_files.specs.Shown.{IsTornMake}
use Rattle.rel_files.proofs.Pages.{HeldBy, held_by}
use Rattle.rel_files.proofs.ForkStores.{by_fork, mended_missing, mended_get, mended_others, mended_block, mended_past}
use Rattle.history.specs.Apply.{is_same_fork}
use Rattle.history.proofs.Stores.{by_test, fork_is}
use Rattle.history.specs.fuzzy_copies.Sound.{Agree}
use Rattle.history.proofs.fuzzy_copies.Pages.{block_by_pages, fork_view, contains_key-with_fork, contains_key-with_cut}
use Rattle.page_frames.specs.Marks.{DirtyMarks, is_dirty, cleaned}
use Rattle.page_pool.specs.declared.work.Work.{Work}
use Rattle.page_pool.specs.declared.work.Work.TheVariants.{Make, Cut, Remove}
use Rattle.page_pool.specs.declared.work.Pending.{Pending}
use Rattle.page_pool.specs.Part.{LacksUnwritten, IsMended, if_whole, is_to_settle, is_to_cut, work_cuts, work_settles}
use Rattle.page_pool.specs.Steps.{ChangedWhereUnwritten, work_done}
use Rattle.page_pool.proofs.Behind.{cut_block, block_gone, contains_gone, has_before, has_fork, works_done, pages_written, torn_writes, mended as mended_lacks}

-- ---- a short page is left out

short_past : (size w : ℕ) (pages : ForkPages) (b : ℕ) (page : List ℕ) → HeldBy size w pages → w ≤ b → slice_get pages b ≡ Some page → length page ≡ size → ⊥
short_past size zero [] b page h l e same = let none : None ≡ Some page = sym (slice_get_past {X = List ℕ} [] b (omega arith)) ∙ e in cc
short_past size zero (p ∷ []) zero page h l e same = let is : p ≡ page = cc in let long = ap length is in omega (arith, h, long, same)
short_past size zero (p ∷ []) (suc b) page h l e same = let none : None ≡ Some page = sym (slice_get_past (p ∷ []) (suc b) (omega arith)) ∙ e in cc
short_past size zero (p ∷ (q ∷ pages)) b page h l e same = h
short_past size (suc w) [] b page h l e same = h
short_past size (suc w) (p ∷ pages) zero page h l e same = omega (arith, l)
short_past size (suc w) (p ∷ pages) (suc b) page h l e same = short_past size w pages b page h.1 (omega (arith, l)) e same

-- behind the whole pages there is no whole one
pub past_whole : (pages : ForkPages) (b : ℕ) (page : List ℕ) → AreHeld pages → length (whole_pages pages) ≤ b → slice_get pages b ≡ Some page → length page ≡ 8192 → ⊥
past_whole pages b page held l e size = short_past 8192 (length (whole_pages pages)) pages b page (held_by pages held) l e size

left_out : (o : Option (List ℕ)) → ((page : List ℕ) → o ≡ Some page → length page ≡ 8192 → ⊥) → None ≡ if_whole o
left_out None k = refl
left_out (Some page) k = sym (ap (λ (c : Bool). cond c (Some page) None) (ne_eqb (length page) 8192 (k page refl)))

pub mends : (raw : Store) (fork : ForkId) → HasHeldPages raw → IsMended raw (mended raw fork)
mends raw fork held = by (get raw fork) refl
  where
    here : (pages : ForkPages) (b : ℕ) → get raw fork ≡ Some pages → Agree (mended raw fork) raw fork b ⊎ (block_of (mended raw fork) fork b ≡ if_whole (block_of raw fork b))
    here pages b e = elim (cases_lt b (length (whole_pages pages))) [
      | inl less ↦ inl (mended_block raw fork pages b (held fork pages e) e less)
      | inr past ↦ inr (mended_past raw fork pages b e past ∙ left_out (slice_get pages b) (λ page is size. past_whole pages b page (held fork pages e) past is size) ∙ sym (ap (λ (o : Option ForkPages). if_whole (o >>= λ ps. slice_get ps b)) e))
    ]

    by : (o : Option ForkPages) → get raw fork ≡ o → IsMended raw (mended raw fork)
    by None e =
        let same = mended_missing raw fork e in
        record { blocks = λ f b. inl (ap (λ (s : Store). block_of s f b) same); forks = λ f. ap (λ (s : Store). contains_key s f) same }
    by (Some pages) e = record {
      blocks = λ f b. by_fork f fork
          (λ same. subst (λ (x : ForkId). Agree (mended raw fork) raw x b ⊎ (block_of (mended raw fork) x b ≡ if_whole (block_of raw x b))) (sym same) (here pages b e))
          (λ ne. inl (ap (λ (o : Option ForkPages). o >>= λ ps. slice_get ps b) (mended_others raw fork f ne)));
      forks = λ f. by_fork f fork
          (λ same.
          ap (λ (x : ForkId). contains_key (mended raw fork) x) same ∙ ap (λ (o : Option ForkPages). is_some o) (mended_get raw fork pages e) ∙ sym (ap (λ (o : Option ForkPages). is_some o) e) ∙ sym (ap (λ (x : ForkId). contains_key raw x) same))
          (λ ne. ap (λ (o : Option ForkPages). is_some o) (mended_others raw fork f ne));
    }

-- ---- frames of whole pages, and a disk that lacks of them what isn't written

abbrev pub HasWholeFrames : Store → Type 0
HasWholeFrames frames = (fork : ForkId) (block : ℕ) (page : List ℕ) → block_of frames fork block ≡ Some page → length page ≡ 8192

pub lacks_mended : (raw frames : Store) (marks : DirtyMarks) (works : List Pending) (fork : ForkId) → HasHeldPages raw → HasWholeFrames frames → LacksUnwritten raw frames marks works → LacksUnwritten (mended raw fork) frames marks works
lacks_mended raw frames marks works fork held whole lacks = mended_lacks raw (mended raw fork) frames marks works whole (mends raw fork held) lacks

-- a block that is as in frames is none behind the whole pages
none_past : (raw frames : Store) (fork : ForkId) (b : ℕ) → HasHeldPages raw → HasWholeFrames frames → Agree raw frames fork b → length (whole_pages (pages_of raw fork)) ≤ b → block_of raw fork b ≡ None
none_past raw frames fork b held whole agree past = by (get raw fork) refl
  where
    at : (pages : ForkPages) → get raw fork ≡ Some pages → block_of raw fork b ≡ slice_get pages b
    at pages e = ap (λ (o : Option ForkPages). o >>= λ ps. slice_get ps b) e

    none : (pages : ForkPages) (o : Option (List ℕ)) → get raw fork ≡ Some pages → slice_get pages b ≡ o → o ≡ None
    none pages None e is = refl
    none pages (Some page) e is =
        let behind : length (whole_pages pages) ≤ b = subst (λ (o : Option ForkPages). length (whole_pages (unwrap_or o [])) ≤ b) e past in
        absurd (past_whole pages b page (held fork pages e) behind is (whole fork b page (sym agree ∙ at pages e ∙ is)))

    by : (o : Option ForkPages) → get raw fork ≡ o → block_of raw fork b ≡ None
    by None e = ap (λ (o : Option ForkPages). o >>= λ ps. slice_get ps b) e
    by (Some pages) e = at pages e ∙ none pages (slice_get pages b) e refl

-- ---- what is done

pub made_lacks : (raw frames : Store) (marks : DirtyMarks) (first : Pending) (rest : List Pending) (fork : ForkId) → first.work ≡ Make fork → LacksUnwritten raw frames marks (first ∷ rest) → LacksUnwritten (with_fork raw fork) frames marks rest
made_lacks raw frames marks first rest fork is lacks = subst (λ (w : Work). LacksUnwritten (work_done w raw) frames marks rest) is (works_done raw frames marks first rest lacks)

pub cut_lacks : (raw frames : Store) (marks : DirtyMarks) (first : Pending) (rest : List Pending) (fork : ForkId) (to : ℕ) → first.work ≡ Cut fork to → HasHeldPages raw → HasWholeFrames frames → LacksUnwritten raw frames marks (first ∷ rest)
    → LacksUnwritten (with_cut (mended raw fork) fork to) frames marks rest
cut_lacks raw frames marks first rest fork to is held whole lacks =
    subst (λ (w : Work). LacksUnwritten (work_done w (mended raw fork)) frames marks rest) is (works_done (mended raw fork) frames marks first rest (lacks_mended raw frames marks (first ∷ rest) fork held whole lacks))

pub removed_lacks : (raw frames : Store) (marks : DirtyMarks) (first : Pending) (rest : List Pending) (fork : ForkId) → first.work ≡ Remove fork → LacksUnwritten raw frames marks (first ∷ rest) → LacksUnwritten (without_fork raw fork) frames marks rest
removed_lacks raw frames marks first rest fork is lacks = subst (λ (w : Work). LacksUnwritten (work_done w raw) frames marks rest) is (works_done raw frames marks first rest lacks)

pub put_lacks : (raw frames : Store) (marks : DirtyMarks) (at : BlockId) (page : List ℕ) → HasHeldPages raw → HasWholeFrames frames → LacksUnwritten raw frames marks [] → block_of frames at.fork at.block ≡ Some page
    → LacksUnwritten (page_over at page raw) frames (cleaned marks at) []
put_lacks raw frames marks at page held whole lacks there = either (nat_lt at.block (length (whole_pages (pages_of raw at.fork))))
  where
    either : (c : Bool) → LacksUnwritten (if c then page_put at page raw else page_put at page (mended raw at.fork)) frames (cleaned marks at) []
    either true = pages_written raw frames marks at page lacks there
    either false = pages_written (mended raw at.fork) frames marks at page (lacks_mended raw frames marks [] at.fork held whole lacks) there

-- ---- what failed

pub torn_make_lacks : (raw new frames : Store) (marks : DirtyMarks) (first : Pending) (rest : List Pending) (fork : ForkId) → first.work ≡ Make fork → IsTornMake fork raw new → LacksUnwritten raw frames marks (first ∷ rest) → LacksUnwritten new frames marks (first ∷ rest)
torn_make_lacks raw new frames marks first rest fork is torn lacks = elim torn [
  | inl same ↦ subst (λ (s : Store). LacksUnwritten s frames marks (first ∷ rest)) (sym same) lacks
  | inr made ↦ subst (λ (s : Store). LacksUnwritten s frames marks (first ∷ rest)) (sym made) (torn_writes raw (with_fork raw fork) frames marks (first ∷ rest) changed lacks)
]
  where
    unmade : (f : ForkId) → is_to_settle (first ∷ rest) f ≡ false → is_same_fork f fork ≡ false
    unmade f none = sym (ap (λ (w : Work). work_settles f w) is) ∙ (or_parts (work_settles f first.work) (is_to_settle rest f) none).0

    changed : ChangedWhereUnwritten raw (with_fork raw fork) marks (first ∷ rest)
    changed = record {
      blocks = λ f b clean uncut. sym (fork_view raw fork f b);
      forks = λ f none. contains_key-with_fork raw fork f ∙ ap (λ c. contains_key raw f || c) (unmade f none) ∙ or-false (contains_key raw f);
    }

pub torn_cut_lacks : (raw new frames : Store) (marks : DirtyMarks) (first : Pending) (rest : List Pending) (fork : ForkId) (to : ℕ) → first.work ≡ Cut fork to → HasHeldPages raw → HasWholeFrames frames → IsTornCut fork to raw new → LacksUnwritten raw frames marks (first ∷ rest)
    → LacksUnwritten new frames marks (first ∷ rest)
torn_cut_lacks raw new frames marks first rest fork to is held whole torn lacks =
    subst (λ (s : Store). LacksUnwritten s frames marks (first ∷ rest)) (sym torn.cut) (torn_writes raw (with_cut raw fork torn.left) frames marks (first ∷ rest) changed lacks)
  where
    -- what a cut would take isn't pending: the block is before the place that is cut to
    kept : (f : ForkId) (b : ℕ) → is_to_cut (first ∷ rest) f b ≡ false → is_same_fork f fork ≡ true → b < to
    kept f b none same =
        let uncut : (is_same_fork f fork && nat_le to b) ≡ false = sym (ap (λ (w : Work). work_cuts f b w) is) ∙ (or_parts (work_cuts f b first.work) (is_to_cut rest f b) none).0 in
        elim (cases_lt b to) [
          | inl less ↦ less
          | inr past ↦ absurd (true≢false (sym (ap (λ c. c && nat_le to b) same ∙ le-leb to b past) ∙ uncut))
        ]

    -- what was cut off was no whole page
    off : (f : ForkId) (b : ℕ) → is_dirty marks f b ≡ false → is_to_cut (first ∷ rest) f b ≡ false → is_same_fork f fork ≡ true → torn.left ≤ b → block_of raw f b ≡ None
    off f b clean none same past =
        let less = kept f b none same in
        let e = fork_is f fork same in
        let least : length (whole_pages (pages_of raw fork)) ≤ b = (let l = torn.least in omega (arith, l, less, past)) in
        none_past raw frames f b held whole (lacks.same f b clean none) (subst (λ (x : ForkId). length (whole_pages (pages_of raw x)) ≤ b) (sym e) least)

    changed : ChangedWhereUnwritten raw (with_cut raw fork torn.left) marks (first ∷ rest)
    changed = record {
      blocks = λ f b clean none. cut_block raw fork torn.left f b ∙ by_test (is_same_fork f fork && nat_le torn.left b)
          (λ gone.
          let parts = and_parts (is_same_fork f fork) (nat_le torn.left b) gone in
          ap (λ c. cond c None (block_of raw f b)) gone ∙ sym (off f b clean none parts.0 (leb-true torn.left b parts.1)))
          (λ stays. ap (λ c. cond c None (block_of raw f b)) stays);
      forks = λ f none. contains_key-with_cut raw fork torn.left f;
    }

-- a removal that failed took blocks, or all of the fork: each of its blocks is to be cut off
pub torn_removal_lacks : (raw new frames : Store) (marks : DirtyMarks) (first : Pending) (rest : List Pending) (fork : ForkId) → first.work ≡ Remove fork → IsTornRemoval fork raw new → LacksUnwritten raw frames marks (first ∷ rest)
    → LacksUnwritten new frames marks (first ∷ rest)
torn_removal_lacks raw new frames marks first rest fork is torn lacks = elim torn [
  | inl cut ↦ subst (λ (s : Store). LacksUnwritten s frames marks (first ∷ rest)) (sym cut.cut) (torn_writes raw (with_cut raw fork cut.left) frames marks (first ∷ rest) (fewer cut.left) lacks)
  | inr gone ↦ subst (λ (s : Store). LacksUnwritten s frames marks (first ∷ rest)) (sym gone) (torn_writes raw (without_fork raw fork) frames marks (first ∷ rest) away lacks)
]
  where
    apart : (f : ForkId) (b : ℕ) → is_to_cut (first ∷ rest) f b ≡ false → is_same_fork f fork ≡ false
    apart f b none = sym (ap (λ (w : Work). work_cuts f b w) is) ∙ (or_parts (work_cuts f b first.work) (is_to_cut rest f b) none).0

    unsettled : (f : ForkId) → is_to_settle (first ∷ rest) f ≡ false → is_same_fork f fork ≡ false
    unsettled f none = sym (ap (λ (w : Work). work_settles f w) is) ∙ (or_parts (work_settles f first.work) (is_to_settle rest f) none).0

    fewer : (left : ℕ) → ChangedWhereUnwritten raw (with_cut raw fork left) marks (first ∷ rest)
    fewer left = record {
      blocks = λ f b clean none. cut_block raw fork left f b ∙ ap (λ c. cond (c && nat_le left b) None (block_of raw f b)) (apart f b none);
      forks = λ f none. contains_key-with_cut raw fork left f;
    }

    and_yes : (c : Bool) → (c && not false) ≡ c
    and_yes true = refl
    and_yes false = refl

    away : ChangedWhereUnwritten raw (without_fork raw fork) marks (first ∷ rest)
    away = record {
      blocks = λ f b clean none. block_gone raw fork f b ∙ ap (λ c. cond c None (block_of raw f b)) (apart f b none);
      forks = λ f none. contains_gone raw fork f ∙ ap (λ c. contains_key raw f && not c) (unsettled f none) ∙ and_yes (contains_key raw f);
    }

pub torn_put_lacks : (raw new frames : Store) (marks : DirtyMarks) (at : BlockId) (page : List ℕ) → HasHeldPages raw → HasWholeFrames frames → is_dirty marks at.fork at.block ≡ true → block_of frames at.fork at.block ≡ Some page → IsTornPut at raw new → LacksUnwritten raw frames marks []
    → LacksUnwritten new frames marks []
torn_put_lacks raw new frames marks at page held whole dirty there torn lacks = torn_writes raw new frames marks [] changed lacks
  where
    some : is_some (block_of frames at.fork at.block) ≡ true
    some = ap (λ (o : Option (List ℕ)). is_some o) there

    -- a block of the fork that is clean
    other : (b : ℕ) → is_dirty marks at.fork b ≡ false → b ≡ at.block → ⊥
    other b clean e = true≢false (sym (ap (λ (n : ℕ). is_dirty marks at.fork n) e ∙ dirty) ∙ clean)

    -- behind the whole pages there is none before the block
    behind : (b : ℕ) → is_dirty marks at.fork b ≡ false → block_of raw at.fork b ≡ None → at.block < b
    behind b clean none = elim (cases_lt b at.block) [
      | inl less ↦
          absurd (true≢false (sym (has_before frames at.fork b at.block some less) ∙ ap (λ (o : Option (List ℕ)). is_some o) (sym (lacks.same at.fork b clean refl) ∙ none)))
      | inr past ↦ (let apart = other b clean in omega (arith, past, apart))
    ]

    past_end : (xs : ForkPages) (b : ℕ) → slice_get xs b ≡ None → length xs ≤ b
    past_end [] b e = omega arith
    past_end (x ∷ xs) zero e = absurd cc
    past_end (x ∷ xs) (suc b) e = let l = past_end xs b e in omega (arith, l)

    still_none : (b : ℕ) → is_dirty marks at.fork b ≡ false → block_of raw at.fork b ≡ None → block_of new at.fork b ≡ None
    still_none b clean none =
        let old = past_end (pages_of raw at.fork) b (sym (block_by_pages raw at.fork b) ∙ none) in
        let l = behind b clean none in
        let most = torn.most in
        block_by_pages new at.fork b ∙ slice_get_past (pages_of new at.fork) b (omega (arith, old, l, most))

    at_fork : (b : ℕ) → is_dirty marks at.fork b ≡ false → block_of new at.fork b ≡ block_of raw at.fork b
    at_fork b clean = elim (cases_lt b (length (whole_pages (pages_of raw at.fork)))) [
      | inl less ↦ torn.blocks b less (other b clean)
      | inr past ↦ (let none = none_past raw frames at.fork b held whole (lacks.same at.fork b clean refl) past in still_none b clean none ∙ sym none)
    ]

    changed : ChangedWhereUnwritten raw new marks []
    changed = record {
      blocks = λ f b clean none. by_fork f at.fork
          (λ same. subst (λ (x : ForkId). is_dirty marks x b ≡ false → block_of new x b ≡ block_of raw x b) (sym same) (at_fork b) clean)
          (λ ne. ap (λ (o : Option ForkPages). o >>= λ ps. slice_get ps b) (torn.others f ne));
      forks = λ f none. by_fork f at.fork
          (λ same.
          let old : contains_key raw at.fork ≡ true = lacks.forks at.fork ∙ has_fork frames at.fork at.block some in
          ap (λ (x : ForkId). contains_key new x) same ∙ torn.there old ∙ sym old ∙ sym (ap (λ (x : ForkId). contains_key raw x) same))
          (λ ne. ap (λ (o : Option ForkPages). is_some o) (torn.others f ne));
    }
