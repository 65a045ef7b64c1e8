-- The calls of a store in segment files, for every store that the files hold.
use Rattle.std.proofs.Common.{◌≡◌, ◌==◌, ℕ, zero, suc, ◌+◌, ◌-◌, max, min, inl, inr, ⊎_elim, Bool, true, false, cond, List, [], ◌∷◌, ◌++◌, length, take, replicate, Option, Some, None, is_some, option_map, unwrap_or, refl, sym, ap, subst, ◌∙◌, arith}
use Rattle.std.proofs.lemmas.Bool.{cases_lt}
use Rattle.std.specs.FinMap.{get, insert, contains_key}
use Rattle.lsn_core.specs.byte_words.Pieces.{zero_page}
use Rattle.lsn_core.specs.declared.ids.ForkId.{ForkId}
use Rattle.lsn_core.specs.declared.ids.BlockId.{BlockId}
use Rattle.lsn_core.specs.Files.{Files}
use Rattle.lsn_core.specs.Store.{Store, ForkPages}
use Rattle.lsn_core.specs.Blocks.{block_count, pages_of, with_block, with_cut, with_fork}
use Rattle.rel_files.specs.Forks.{AreHeld, is_whole, whole_pages, mended, AgreeOnOthers, page_over, IsTornCut, IsTornRemoval}
use Rattle.rel_files.specs.Shown.{AreFilesOf, whole_count, IsTornMake}
use Rattle.rel_files.specs.Inside.{whole_length}
use Rattle.rel_files.proofs.Pages.{put, block_put, held_by, held_least, held_put, count_whole}
use Rattle.rel_files.proofs.SegmentChanges.{pages_held}
use Rattle.rel_files.proofs.ForkStores.{get_here, get_there, gone_there, mended_missing, mended_count, missing_count, mended_others}
use Rattle.rel_files.proofs.ForkCuts.{uncut, cut_missing, cut_get, cut_whole, cut_mended, cut_others}
use Rattle.rel_files.proofs.ZeroPages.{over_within, over_past, block_behind, mended_pages_are, zero_size}

pub whole_is : (s : Store) (fork : ForkId) → block_count (mended s fork) fork ≡ whole_count s fork
whole_is s fork = by (get s fork) refl
  where
    by : (o : Option ForkPages) → get s fork ≡ o → block_count (mended s fork) fork ≡ whole_count s fork
    by None e = missing_count s fork e ∙ sym (ap (option_map (λ (pages : ForkPages). length (whole_pages pages))) e)
    by (Some pages) e = mended_count s fork pages e ∙ sym (ap (option_map (λ (pages : ForkPages). length (whole_pages pages))) e)

-- the number of whole pages, none where the fork is missing
pub count_or_none : (s : Store) (fork : ForkId) (o : Option ℕ) → o ≡ block_count (mended s fork) fork → unwrap_or o 0 ≡ whole_length s fork
count_or_none s fork o e = ap (λ (n : Option ℕ). unwrap_or n 0) (e ∙ whole_is s fork) ∙ by (get s fork)
  where
    by : (p : Option ForkPages) → unwrap_or (option_map (λ (pages : ForkPages). length (whole_pages pages)) p) 0 ≡ length (whole_pages (unwrap_or p []))
    by None = refl
    by (Some pages) = refl

counted_is : (s : Store) (fork : ForkId) (o : Option ℕ) (n : ℕ) → o ≡ block_count (mended s fork) fork → o ≡ Some n → whole_count s fork ≡ Some n
counted_is s fork o n e is = sym (whole_is s fork) ∙ sym e ∙ is

pub count_found : (s : Store) (fork : ForkId) (o : Option ℕ) (n : ℕ) → o ≡ block_count (mended s fork) fork → o ≡ Some n → whole_count s fork ≡ Some n
count_found s fork o n e is = counted_is s fork o n e is

-- whether a fork is there, by the number of its whole pages
pub fork_absent : (s : Store) (fork : ForkId) (o : Option ℕ) → o ≡ block_count (mended s fork) fork → is_some o ≡ false → get s fork ≡ None
fork_absent s fork o e not = by (get s fork) refl
  where
    by : (p : Option ForkPages) → get s fork ≡ p → get s fork ≡ None
    by None is = is
    by (Some pages) is =
        let no : true ≡ false = sym (ap (λ (q : Option ForkPages). is_some (option_map (λ (ps : ForkPages). length (whole_pages ps)) q)) is) ∙ sym (ap (λ (n : Option ℕ). is_some n) (e ∙ whole_is s fork)) ∙ not in
        absurd cc

pub fork_there : (s : Store) (fork : ForkId) (o : Option ℕ) → o ≡ block_count (mended s fork) fork → is_some o ≡ true → contains_key s fork ≡ true
fork_there s fork o e is = by (get s fork) ∙ sym (ap (λ (n : Option ℕ). is_some n) (e ∙ whole_is s fork)) ∙ is
  where
    by : (p : Option ForkPages) → is_some p ≡ is_some (option_map (λ (ps : ForkPages). length (whole_pages ps)) p)
    by None = refl
    by (Some pages) = refl

pub made_same : (s : Store) (fork : ForkId) → contains_key s fork ≡ true → with_fork s fork ≡ s
made_same s fork e = ap (λ b. cond b s (insert s fork [])) e

made_by : (s : Store) (fork : ForkId) (b : Bool) → contains_key s fork ≡ b → AgreeOnOthers fork s (with_fork s fork)
made_by s fork true e q ne = ap (λ (t : Store). get t q) (made_same s fork e)
made_by s fork false e q ne = ap (λ b. get (cond b s (insert s fork [])) q) e ∙ get_there s fork [] q ne

pub made_others : (s : Store) (fork : ForkId) → AgreeOnOthers fork s (with_fork s fork)
made_others s fork = made_by s fork (contains_key s fork) refl

pub made_count : (s : Store) (fork : ForkId) → get s fork ≡ None → whole_count (with_fork s fork) fork ≡ Some 0
made_count s fork e =
    let absent : contains_key s fork ≡ false = ap (λ (o : Option ForkPages). is_some o) e in
    let made : with_fork s fork ≡ insert s fork [] = ap (λ b. cond b s (insert s fork [])) absent in
    ap (λ (t : Store). whole_count t fork) made ∙ ap (option_map (λ (ps : ForkPages). length (whole_pages ps))) (get_here s fork [])

-- ---- what a call that failed leaves of the other forks

pub make_torn_others : (s t : Store) (fork : ForkId) → IsTornMake fork s t → AgreeOnOthers fork s t
make_torn_others s t fork (inl same) = subst (AgreeOnOthers fork s) (sym same) (λ q ne. refl)
make_torn_others s t fork (inr made) = subst (AgreeOnOthers fork s) (sym made) (made_others s fork)

pub cut_torn_others : (s t : Store) (fork : ForkId) (to : ℕ) → IsTornCut fork to s t → AgreeOnOthers fork s t
cut_torn_others s t fork to torn = subst (AgreeOnOthers fork s) (sym torn.cut) (cut_others s fork torn.left)

pub removal_torn_others : (s t : Store) (fork : ForkId) → IsTornRemoval fork s t → AgreeOnOthers fork s t
removal_torn_others s t fork (inl cut) = cut_torn_others s t fork 0 cut
removal_torn_others s t fork (inr gone) = subst (AgreeOnOthers fork s) (sym gone) (gone_there s fork)

pub cut_idle : (s : Store) (fork : ForkId) (to : ℕ) → IsTornCut fork to s s
cut_idle s fork to = record { left = to + length (pages_of s fork); least = omega arith; cut = sym (uncut s fork (to + length (pages_of s fork)) (omega arith)) }

-- ---- a cut

pub cut_absent : (s : Store) (fork : ForkId) (to : ℕ) → get s fork ≡ None → with_cut (mended s fork) fork to ≡ s
cut_absent s fork to e = ap (λ (t : Store). with_cut t fork to) (mended_missing s fork e) ∙ cut_missing s fork to e

-- how many whole pages are left
pub cut_counted : (relseg : ℕ) (x : Option Files) (s : Store) (fork : ForkId) (count to left : ℕ) → AreFilesOf relseg x s → whole_count s fork ≡ Some count → left ≡ min count to
    → (AgreeOnOthers fork s (with_cut (mended s fork) fork to)) × (whole_count (with_cut (mended s fork) fork to) fork ≡ Some left)
cut_counted relseg x s fork count to left held e is = by (get s fork) refl
  where
    by : (o : Option ForkPages) → get s fork ≡ o → (AgreeOnOthers fork s (with_cut (mended s fork) fork to)) × (whole_count (with_cut (mended s fork) fork to) fork ≡ Some left)
    by None none = let no : None ≡ Some count = sym (ap (option_map (λ (ps : ForkPages). length (whole_pages ps))) none) ∙ e in absurd cc
    by (Some pages) there =
        let same : Some (length (whole_pages pages)) ≡ Some count = sym (ap (option_map (λ (ps : ForkPages). length (whole_pages ps))) there) ∙ e in
        let n : length (whole_pages pages) ≡ count = cc in
        let w : whole_length s fork ≡ count = ap (λ (o : Option ForkPages). length (whole_pages (unwrap_or o []))) there ∙ n in
        let cut : with_cut (mended s fork) fork to ≡ with_cut s fork left = cut_mended s fork to left (pages_held relseg held.files s fork held.hold) (omega (arith, is, w)) in
        let kept : length (whole_pages (take left pages)) ≡ min left (length (whole_pages pages)) = cut_whole pages left (held.hold.held fork pages there) in (
          subst (AgreeOnOthers fork s) (sym cut) (cut_others s fork left),
          ap (λ (t : Store). whole_count t fork) cut ∙ ap (option_map (λ (ps : ForkPages). length (whole_pages ps))) (cut_get s fork pages left there) ∙ ap (λ (k : ℕ). Some k) (kept ∙ omega (arith, n, is)),
        )

-- ---- a put

both_counted : (a b : ForkPages) → length (whole_pages (a ++ b)) ≡ length (whole_pages a) + length (whole_pages b)
both_counted [] b = omega arith
both_counted (p ∷ a) b =
    let rest = both_counted a b in
    elim (is_whole p) as (λ c. length (cond c (p ∷ whole_pages (a ++ b)) (whole_pages (a ++ b))) ≡ length (cond c (p ∷ whole_pages a) (whole_pages a)) + length (whole_pages b)) [
      | true ↦ omega (arith, rest)
      | false ↦ rest
    ]

one_counted : (page : List ℕ) → length page ≡ 8192 → length (whole_pages (page ∷ [])) ≡ 1
one_counted page size = let is : is_whole page ≡ true = ap (λ (n : ℕ). n == 8192) size in ap (λ c. length (cond c (page ∷ []) [])) is

zeros_counted : (n : ℕ) → length (whole_pages (replicate n zero_page)) ≡ n
zeros_counted zero = refl
zeros_counted (suc n) =
    let is : is_whole zero_page ≡ true = ap (λ (k : ℕ). k == 8192) zero_size in
    let rest = zeros_counted n in
    ap (λ c. length (cond c (zero_page ∷ whole_pages (replicate n zero_page)) (whole_pages (replicate n zero_page)))) is ∙ omega (arith, rest)

behind_count : (whole : ForkPages) (n : ℕ) (page : List ℕ) → whole_pages whole ≡ whole → length page ≡ 8192 → length (whole_pages ((whole ++ replicate n zero_page) ++ (page ∷ []))) ≡ length whole + n + 1
behind_count whole n page e size =
    let all = both_counted (whole ++ replicate n zero_page) (page ∷ []) in
    let front = both_counted whole (replicate n zero_page) in
    let zeros = zeros_counted n in
    let last = one_counted page size in
    let same : length (whole_pages whole) ≡ length whole = ap (λ (ps : ForkPages). length ps) e in
    omega (arith, all, front, zeros, last, same)

over_cases : (s : Store) (at : BlockId) (page : List ℕ) → AreHeld (pages_of s at.fork) → length page ≡ 8192
    → (AgreeOnOthers at.fork s (page_over at page s)) × (whole_count (page_over at page s) at.fork ≡ Some (max (whole_length s at.fork) (at.block + 1)))
over_cases s at page held size =
    let fork = at.fork in
    let b = at.block in
    let w = whole_length s fork in
    let by = held_by (pages_of s fork) held in
    ⊎_elim
    (λ less.
    let over = over_within s fork b page less in
    let long = held_least 8192 w (pages_of s fork) by in
    let pages : with_block (pages_of s fork) b page ≡ put (pages_of s fork) b page = block_put (pages_of s fork) b page (omega (arith, less, long)) in
    let count : length (whole_pages (put (pages_of s fork) b page)) ≡ w = count_whole w (put (pages_of s fork) b page) (held_put 8192 w b (pages_of s fork) page by less size) in (
      subst (AgreeOnOthers fork s) (sym over) (get_there s fork (with_block (pages_of s fork) b page)),
      ap (λ (t : Store). whole_count t fork) over ∙ ap (option_map (λ (ps : ForkPages). length (whole_pages ps))) (get_here s fork (with_block (pages_of s fork) b page)) ∙ ap (λ (k : ℕ). Some k) (ap (λ (ps : ForkPages). length (whole_pages ps)) pages ∙ count ∙ omega (arith, less)),
    ))
    (λ past.
    let over = over_past s fork b page past in
    let mine : pages_of (mended s fork) fork ≡ whole_pages (pages_of s fork) = mended_pages_are s fork in
    let whole = whole_pages (pages_of s fork) in
    let pages : with_block (pages_of (mended s fork) fork) b page ≡ (whole ++ replicate (b - w) zero_page) ++ (page ∷ []) = ap (λ (ps : ForkPages). with_block ps b page) mine ∙ block_behind whole b page past in
    let all : length (whole_pages ((whole ++ replicate (b - w) zero_page) ++ (page ∷ []))) ≡ b + 1 = behind_count whole (b - w) page (whole_whole (pages_of s fork)) size ∙ omega (arith, past) in (
      subst (AgreeOnOthers fork s) (sym over) (λ q ne. get_there (mended s fork) fork (with_block (pages_of (mended s fork) fork) b page) q ne ∙ mended_others s fork q ne),
      ap (λ (t : Store). whole_count t fork) over ∙ ap (option_map (λ (ps : ForkPages). length (whole_pages ps))) (get_here (mended s fork) fork (with_block (pages_of (mended s fork) fork) b page)) ∙ ap (λ (k : ℕ). Some k) (ap (λ (ps : ForkPages). length (whole_pages ps)) pages ∙ all ∙ omega (arith, past)),
    ))
    (cases_lt b w)
  where
    whole_whole : (pages : ForkPages) → whole_pages (whole_pages pages) ≡ whole_pages pages
    whole_whole [] = refl
    whole_whole (p ∷ ps) = elim (is_whole p) as (λ c. is_whole p ≡ c → whole_pages (cond c (p ∷ whole_pages ps) (whole_pages ps)) ≡ cond c (p ∷ whole_pages ps) (whole_pages ps)) [
      | true ↦ λ e. ap (λ c. cond c (p ∷ whole_pages (whole_pages ps)) (whole_pages (whole_pages ps))) e ∙ ap (λ (l : ForkPages). p ∷ l) (whole_whole ps)
      | false ↦ λ e. whole_whole ps
    ] refl

pub over_counted : (relseg : ℕ) (x : Option Files) (s : Store) (at : BlockId) (page : List ℕ) → AreFilesOf relseg x s → length page ≡ 8192
    → (AgreeOnOthers at.fork s (page_over at page s)) × (whole_count (page_over at page s) at.fork ≡ Some (max (whole_length s at.fork) (at.block + 1)))
over_counted relseg x s at page held size = over_cases s at page (pages_held relseg held.files s at.fork held.hold) size

-- the number of pages of a fork that is there is told
pub told_there : (s : Store) (fork : ForkId) (o : Option ℕ) → o ≡ block_count (mended s fork) fork → contains_key s fork ≡ true → is_some o ≡ true
told_there s fork o e there = ap (λ (n : Option ℕ). is_some n) (e ∙ whole_is s fork) ∙ by (get s fork) ∙ there
  where
    by : (p : Option ForkPages) → is_some (option_map (λ (ps : ForkPages). length (whole_pages ps)) p) ≡ is_some p
    by None = refl
    by (Some pages) = refl
