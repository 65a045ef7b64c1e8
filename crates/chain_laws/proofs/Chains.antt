-- An incremental backup over a sound chain makes a sound chain.
use Rattle.std.proofs.Common.{◌≡◌, ℕ, zero, suc, ◌+◌, ◌-◌, ◌*◌, ◌/◌, ◌%◌, ◌^◌, ◌<◌, ◌≤◌, inl, inr, Bool, true, false, cond, List, [], ◌∷◌, ◌++◌, map, length, Option, Some, None, is_some, unwrap_or, refl, sym, ap, subst, ◌∙◌, arith}
use Rattle.std.specs.Prelude.{◌==◌, max, slice_get}
use Rattle.std.specs.List.{list_any}
use Rattle.std.specs.FinMap.{get, contains_key, empty}
use Rattle.std.proofs.Math.Nat.{mod-lt, div-le_of_le-mul, mul-le-mul_left, mul-le-mul_right}
use Rattle.std.proofs.lemmas.Nat.{div-add-mod'}
use Rattle.std.proofs.lemmas.Bool.{le-leb, eqb-true, eq-eqb, cases_lt}
use Rattle.std.proofs.lemmas.Option.{slice_get_within}
use Rattle.std.proofs.lemmas.List.{reverse-append}
use Rattle.lsn_core.specs.byte_words.Numbers.{◌>>=◌}
use Rattle.lsn_core.specs.byte_words.Pieces.{zero_page}
use Rattle.lsn_core.specs.Blocks.{block_of}
use Rattle.lsn_core.specs.Files.{Files}
use Rattle.lsn_core.specs.Names.{IsNamed}
use Rattle.lsn_core.specs.Segment.{IsRelseg}
use Rattle.lsn_core.specs.Store.{Store, ForkPages, segment_count}
use Rattle.lsn_core.specs.declared.ids.ForkId.{ForkId}
use Rattle.lsn_core.proofs.AnyAll.{same_bools}
use Rattle.rel_files.proofs.Segments.{below, has_segment, segments_hold}
use Rattle.history.specs.Apply.{is_same_fork}
use Rattle.history.specs.Entry.{Entry}
use Rattle.history.specs.fuzzy_copies.Covers.{AreTidy}
use Rattle.history.specs.fuzzy_copies.Increment.{BlockOrigin, Copied, Kept, Raised, Missing, ForkOrigin}
use Rattle.history.specs.fuzzy_copies.Summary.{BlockRefTable, summary_of}
use Rattle.history.specs.fuzzy_copies.Taken.{Copying, IsRunning}
use Rattle.wal_summary.specs.Summary.{limit_at, lists_at}
use Rattle.wal_summary.specs.declared.summary.ForkSummary.{ForkSummary}
use Rattle.incr_file.specs.Form.{Form, block_in_chain, pages_in_chain}
use Rattle.incr_file.specs.Laws.{PlannedHeadsAreWritten, PlannedHeadsListAll, WrittenFilesAreRead}
use Rattle.incr_file.specs.Plan.{has_block, planned}
use Rattle.chain_files.specs.Held.{most_pages, is_full, IsForkOf, IsStoreOf}
use Rattle.chain_files.specs.Segments.{chain_segments, form_of, forms_of}
use Rattle.store_locks.specs.Copied.{listed_length}
use Rattle.backup_sending.specs.declared.basis.Basis.{Basis}
use Rattle.backup_files.specs.Directory.{directory_with}
use Rattle.backup_sending.specs.Sent.{blocks_at, file_of, is_known}
use Rattle.backup_sending.proofs.Listings.{count_fits}
use Rattle.backup_sending.proofs.Planned.{blocks_rise}
use Rattle.backup_sending.proofs.Segments.{named_at}
use Rattle.chain_laws.specs.Chain.{IsSoundChain}
use Rattle.chain_laws.specs.Increment.{IsIncrementOf}
use Rattle.chain_laws.specs.Laws.{IncrementsExtendSoundChains}
use Rattle.chain_laws.proofs.Forks.{IsFoundAt, at_segment, of_segment, no_more, fork_pages, fork_made}
use Rattle.chain_laws.proofs.Sending.{FileBlock, Sent, Older, Grown, Past, SegmentFile, from_chain, planned_file}
use Rattle.chain_laws.proofs.Files.{absent_form, sent_form}
use Rattle.chain_laws.proofs.Overlapping.{overlapping_sound}
use Rattle.chain_laws.proofs.Stores.{store_with, got_listed, listed_named}

-- what is known of incremental files
pub record Known : Type 0 where
  pub written : PlannedHeadsAreWritten
  pub listed : PlannedHeadsListAll
  pub read : WrittenFilesAreRead

-- ---- chains

pub newest_first : (chain : List Files) (files : Files) (fork : ForkId) (seg : ℕ) → chain_segments (chain ++ (files ∷ [])) fork seg ≡ pages_in_chain (form_of fork seg files ∷ forms_of chain fork seg)
newest_first chain files fork seg = ap (λ (l : List Files). pages_in_chain (map (form_of fork seg) l)) (reverse-append chain (files ∷ []))

-- ---- numbers

few_pages : (n : ℕ) → n < 2 ^ 32 → n ≤ most_pages
unfolding most_pages
few_pages n fits = omega (arith, fits)

pages_fit : (n : ℕ) → n < most_pages → n < 2 ^ 32
unfolding most_pages
pages_fit n few = omega (arith, few)

-- the number of a fork's files fits
count_named : (relseg blocks : ℕ) → 1 ≤ relseg → blocks < 2 ^ 32 → segment_count relseg blocks < 2 ^ 32
count_named zero blocks some fits = absurd (omega (arith, some))
count_named (suc r) zero some fits =
    let most : (0 + (suc r - 1)) / suc r ≤ 1 = div-le_of_le-mul (suc r) (omega arith) in
    omega (arith, most)
count_named (suc r) (suc b) some fits =
    let all : suc r * suc b ≡ suc b + r * b + r = omega arith in
    let most : (suc b + (suc r - 1)) / suc r ≤ suc b = div-le_of_le-mul (suc r) (omega (arith, all)) in
    omega (arith, most, fits)

-- files before one that is there are planned full
full_plan : (relseg blocks seg s : ℕ) → 1 ≤ relseg → seg < segment_count relseg blocks → s < seg → relseg ≤ blocks - s * relseg
full_plan relseg blocks seg s some there less = elim (has_segment relseg blocks seg (omega (arith, some)) there) [
  | inl first ↦ absurd (omega (arith, first, less))
  | inr within ↦ omega (arith, within, below s seg relseg less)
]

before_there : (relseg blocks seg s : ℕ) → seg < segment_count relseg blocks → s < seg → s < segment_count relseg blocks
before_there relseg blocks seg s there less = omega (arith, there, less)

past_all : (relseg blocks seg : ℕ) → 1 ≤ relseg → segment_count relseg blocks ≤ seg → blocks ≤ seg * relseg
past_all relseg blocks seg some past =
    let hold : blocks ≤ segment_count relseg blocks * relseg = segments_hold relseg blocks (segment_count relseg blocks) (omega (arith, some)) refl in
    let room : segment_count relseg blocks * relseg ≤ seg * relseg = mul-le-mul_right relseg past in
    omega (arith, hold, room)

-- ---- summaries

same_test : (a b : ℕ) → (a == b) ≡ (b == a)
same_test a b = same_bools (a == b) (b == a) (λ e. eq-eqb b a (sym (eqb-true a b e))) (λ e. eq-eqb a b (sym (eqb-true b a e)))

any_same : (block : ℕ) (blocks : List ℕ) → list_any (λ b. block == b) blocks ≡ has_block blocks block
any_same block [] = refl
any_same block (b ∷ blocks) = rw (same_test block b, any_same block blocks) refl

lists_is : (fork : ForkId) (block : ℕ) (forks : List ForkSummary) → lists_at fork block forks ≡ has_block (blocks_at fork forks) block
lists_is fork block [] = refl
lists_is fork block (s ∷ ss) =
    elim (is_same_fork fork s.fork) as (λ b. cond b (list_any (λ x. block == x) s.blocks) (lists_at fork block ss) ≡ has_block (cond b s.blocks (blocks_at fork ss)) block) [
      | true ↦ any_same block s.blocks
      | false ↦ lists_is fork block ss
    ]

-- ---- blocks

some_is : {A : Type 0} (x y : A) → ◌≡◌ {A = Option A} (Some x) (Some y) → x ≡ y
some_is x y e = cc

none_page : (o : Option (List ℕ)) → ((page : List ℕ) → o ≡ Some page → ⊥) → o ≡ None
none_page None never = refl
none_page (Some page) never = absurd (never page refl)

not_both : (o : Option ForkPages) (i : ℕ) (page : List ℕ) → o ≡ None → IsFoundAt o i page → ⊥
not_both o i page none f = let both : ◌≡◌ {A = Option ForkPages} None (Some f.pages) = sym none ∙ f.is in cc

not_past : (o : Option ForkPages) (pages : ForkPages) (i : ℕ) (page : List ℕ) → o ≡ Some pages → slice_get pages i ≡ None → IsFoundAt o i page → ⊥
not_past o pages i page is none f =
    let same : f.pages ≡ pages = some_is f.pages pages (sym f.is ∙ is) in
    let at : slice_get pages i ≡ Some page = ap (λ (ps : ForkPages). slice_get ps i) (sym same) ∙ f.at in
    cc

module _ (known : Known) (history : List Entry) (chain : List Files) (prior_start prior_end place from to : ℕ) (basis : Basis) (files : Files) (range : IsRelseg basis.relseg) (prior : IsSoundChain basis.relseg history chain prior_start prior_end) (inc : IsIncrementOf history place from to basis files) where
  abbrev relseg : ℕ
  relseg = basis.relseg

  abbrev dir : Files
  dir = directory_with (map file_of inc.sent) inc.label inc.manifest

  abbrev segments : ForkId → ℕ → Option ForkPages
  segments fork seg = chain_segments (chain ++ (dir ∷ [])) fork seg

  abbrev limit : ForkId → Option ℕ
  limit fork = limit_at fork basis.summary.forks

  abbrev blocks_of : ForkId → List ℕ
  blocks_of fork = blocks_at fork basis.summary.forks

  abbrev IsCopied : ForkId → ℕ → ℕ → List ℕ → Type 0
  IsCopied fork first i page = Copying history from to fork (first + i) page

  -- ---- files

  named_of : (fork : ForkId) (blocks : ℕ) → listed_length inc.list fork ≡ Some blocks → IsNamed fork blocks
  named_of fork blocks found = listed_named inc.list fork blocks inc.listed.named found

  seg_named : (fork : ForkId) (blocks seg : ℕ) → listed_length inc.list fork ≡ Some blocks → seg < segment_count relseg blocks → IsNamed fork seg
  seg_named fork blocks seg found there =
      let named = named_of fork blocks found in
      named_at fork blocks seg named (count_fits relseg blocks seg (omega (arith, range.least)) there named.seg_fits)

  abbrev FileOf : ForkId → ℕ → ℕ → Type 0
  FileOf fork blocks seg = SegmentFile (IsCopied fork (seg * relseg)) (seg * relseg) (planned relseg blocks (seg * relseg)) (limit fork) (blocks_of fork) (forms_of chain fork seg) (form_of fork seg dir)

  file_at : (fork : ForkId) (blocks seg : ℕ) → listed_length inc.list fork ≡ Some blocks → seg < segment_count relseg blocks → FileOf fork blocks seg
  file_at fork blocks seg found there =
      let first : ℕ = seg * relseg in
      let listed : Bool = is_known basis.prior.files fork seg in
      planned_file known.listed (IsCopied fork first) relseg first (planned relseg blocks first) (limit fork) (blocks_of fork) (forms_of chain fork seg) (form_of fork seg dir) listed
      (sent_form history from to basis inc.list range inc.sent inc.listed inc.are_sent inc.label inc.manifest fork blocks seg (seg_named fork blocks seg found there) found there known.read
      (known.written relseg first (planned relseg blocks first) (limit fork) (blocks_of fork) listed range (omega arith) (blocks_rise fork basis.summary.forks inc.summed.sorted)))

  file_is : (fork : ForkId) (blocks seg : ℕ) (found : listed_length inc.list fork ≡ Some blocks) (there : seg < segment_count relseg blocks) → segments fork seg ≡ Some (file_at fork blocks seg found there).pages
  file_is fork blocks seg found there = newest_first chain dir fork seg ∙ (file_at fork blocks seg found there).is

  full_file : (fork : ForkId) (blocks seg : ℕ) → listed_length inc.list fork ≡ Some blocks → seg < segment_count relseg blocks → (s : ℕ) → s < seg → is_full relseg (segments fork s) ≡ true
  full_file fork blocks seg found there s less =
      let before : s < segment_count relseg blocks = before_there relseg blocks seg s there less in
      let f = file_at fork blocks s found before in
      ap (is_full relseg) (file_is fork blocks s found before)
      ∙ le-leb relseg (length f.pages) (omega (arith, f.long, full_plan relseg blocks seg s range.least there less))

  no_file : (fork : ForkId) (seg : ℕ) → IsNamed fork seg → ((blocks : ℕ) → listed_length inc.list fork ≡ Some blocks → segment_count relseg blocks ≤ seg) → segments fork seg ≡ None
  no_file fork seg named past =
      newest_first chain dir fork seg
      ∙ ap (λ (f : Form). pages_in_chain (f ∷ forms_of chain fork seg)) (absent_form history from to basis inc.list range inc.sent inc.listed inc.are_sent inc.label inc.manifest fork seg named past)

  -- ---- the store

  abbrev count_of : ForkId → ℕ
  count_of fork = segment_count relseg (unwrap_or (listed_length inc.list fork) 0)

  abbrev pages_at : ForkId → ForkPages
  pages_at fork = fork_pages relseg (segments fork) (count_of fork)

  abbrev copy : Store
  copy = store_with pages_at inc.list

  got : (fork : ForkId) → get copy fork ≡ cond (is_some (listed_length inc.list fork)) (Some (pages_at fork)) None
  got fork = got_listed pages_at inc.list fork

  there_is : (b : Bool) (pages : ForkPages) → is_some (cond b (Some pages) None) ≡ b
  there_is true pages = refl
  there_is false pages = refl

  contains : (fork : ForkId) → contains_key copy fork ≡ is_some (listed_length inc.list fork)
  contains fork = ap is_some (got fork) ∙ there_is (is_some (listed_length inc.list fork)) (pages_at fork)

  got_some : (fork : ForkId) (blocks : ℕ) → listed_length inc.list fork ≡ Some blocks → get copy fork ≡ Some (pages_at fork)
  got_some fork blocks found = got fork ∙ ap (λ (o : Option ℕ). cond (is_some o) (Some (pages_at fork)) None) found

  got_none : (fork : ForkId) → listed_length inc.list fork ≡ None → get copy fork ≡ None
  got_none fork none = got fork ∙ ap (λ (o : Option ℕ). cond (is_some o) (Some (pages_at fork)) None) none

  last_short : (fork : ForkId) (blocks : ℕ) → listed_length inc.list fork ≡ Some blocks → is_full relseg (segments fork (count_of fork)) ≡ false
  last_short fork blocks found =
      let count : count_of fork ≡ segment_count relseg blocks = ap (λ (o : Option ℕ). segment_count relseg (unwrap_or o 0)) found in
      let named = named_of fork blocks found in
      ap (is_full relseg) (no_file fork (count_of fork)
      (named_at fork blocks (count_of fork) named (omega (arith, count, count_named relseg blocks range.least named.seg_fits)))
      (λ n is. let same : n ≡ blocks = some_is n blocks (sym is ∙ found) in omega (arith, count, ap (segment_count relseg) same)))

  fork_is : (fork : ForkId) (blocks : ℕ) → listed_length inc.list fork ≡ Some blocks → IsForkOf relseg (segments fork) (pages_at fork)
  fork_is fork blocks found = fork_made relseg (segments fork) (count_of fork) (last_short fork blocks found)

  fork_named : (fork : ForkId) (o : Option ℕ) → listed_length inc.list fork ≡ o → is_some o ≡ true → IsNamed fork 0
  fork_named fork None is some = absurd cc
  fork_named fork (Some blocks) is some = named_at fork blocks 0 (named_of fork blocks is) (omega arith)

  first_there : (relseg blocks : ℕ) → 0 < segment_count relseg blocks
  first_there relseg blocks = omega arith

  first_file : (fork : ForkId) (o : Option ℕ) → listed_length inc.list fork ≡ o → IsNamed fork 0 → is_some o ≡ is_some (segments fork 0)
  first_file fork None is named = sym (ap is_some (no_file fork 0 named (λ n found. let never : ◌≡◌ {A = Option ℕ} None (Some n) = sym is ∙ found in absurd cc)))
  first_file fork (Some blocks) is named = sym (ap is_some (file_is fork blocks 0 is (first_there relseg blocks)))

  one_fork : (fork : ForkId) (pages : ForkPages) (o : Option ℕ) → listed_length inc.list fork ≡ o → get copy fork ≡ Some pages → IsForkOf relseg (segments fork) pages
  one_fork fork pages None is there = let never : ◌≡◌ {A = Option ForkPages} None (Some pages) = sym (got_none fork is) ∙ there in absurd cc
  one_fork fork pages (Some blocks) is there = subst (IsForkOf relseg (segments fork)) (some_is (pages_at fork) pages (sym (got_some fork blocks is) ∙ there)) (fork_is fork blocks is)

  held : IsStoreOf relseg (chain_segments (chain ++ (dir ∷ []))) copy
  held = record {
    named = λ fork there. fork_named fork (listed_length inc.list fork) refl (sym (contains fork) ∙ there);
    forks = λ fork named. contains fork ∙ first_file fork (listed_length inc.list fork) refl named;
    pages = λ fork pages there. one_fork fork pages (listed_length inc.list fork) refl there;
  }

  -- ---- its blocks

  no_block : (fork : ForkId) (block : ℕ) → listed_length inc.list fork ≡ None → block_of copy fork block ≡ None
  no_block fork block none = ap (λ (o : Option ForkPages). o >>= λ pages. slice_get pages block) (got_none fork none)

  is_block : (fork : ForkId) (blocks block : ℕ) → listed_length inc.list fork ≡ Some blocks → block_of copy fork block ≡ slice_get (pages_at fork) block
  is_block fork blocks block found = ap (λ (o : Option ForkPages). o >>= λ pages. slice_get pages block) (got_some fork blocks found)

  -- a block that is there is in its file
  in_file : (fork : ForkId) (blocks seg i : ℕ) (page : List ℕ) → listed_length inc.list fork ≡ Some blocks → i < relseg → block_of copy fork (seg * relseg + i) ≡ Some page → IsFoundAt (segments fork seg) i page
  in_file fork blocks seg i page found within at =
      of_segment relseg (segments fork) (pages_at fork) (fork_is fork blocks found) seg i page within (sym (is_block fork blocks (seg * relseg + i) found) ∙ at)

  -- a planned block has the page of its file
  from_file : (fork : ForkId) (blocks seg i : ℕ) (page : List ℕ) (found : listed_length inc.list fork ≡ Some blocks) (there : seg < segment_count relseg blocks) → i < relseg → i < planned relseg blocks (seg * relseg) → slice_get (file_at fork blocks seg found there).pages i ≡ Some page → block_of copy fork (seg * relseg + i) ≡ Some page
  from_file fork blocks seg i page found there within low at =
      is_block fork blocks (seg * relseg + i) found
      ∙ at_segment relseg (segments fork) (pages_at fork) (fork_is fork blocks found) seg i (file_at fork blocks seg found there).pages page within (omega (arith, low, few_pages blocks (named_of fork blocks found).seg_fits)) (full_file fork blocks seg found there) (file_is fork blocks seg found there) at

  -- a block of the earlier copy is what its chain's files are asked for
  prior_page : (fork : ForkId) (seg i : ℕ) (page : List ℕ) (o : Option ForkPages) → get prior.copy fork ≡ o → i < relseg → (o >>= λ pages. slice_get pages (seg * relseg + i)) ≡ Some page → unwrap_or (block_in_chain (forms_of chain fork seg) i) zero_page ≡ page
  prior_page fork seg i page None is within at = absurd cc
  prior_page fork seg i page (Some pages) is within at =
      let f = of_segment relseg (chain_segments chain fork) pages (prior.held.pages fork pages is) seg i page within at in
      from_chain (forms_of chain fork seg) f.pages i page f.is f.at

  abbrev Origin : ForkId → ℕ → ℕ → Type 0
  Origin fork block count = BlockOrigin copy prior.copy history place from to fork block count

  unlisted_is : (fork : ForkId) (block : ℕ) → has_block (blocks_of fork) block ≡ false → (summary_of history place from).listed fork block ≡ false
  unlisted_is fork block none = sym (ap (λ (t : BlockRefTable). t.listed fork block) inc.summed.says) ∙ (lists_is fork block basis.summary.forks ∙ none)

  in_segment : (fork : ForkId) (blocks seg i : ℕ) (found : listed_length inc.list fork ≡ Some blocks) (there : seg < segment_count relseg blocks) → i < relseg
      → FileBlock (IsCopied fork (seg * relseg)) (seg * relseg) (planned relseg blocks (seg * relseg)) (limit fork) (blocks_of fork) (forms_of chain fork seg) (file_at fork blocks seg found there).pages i → Origin fork (seg * relseg + i) blocks
  in_segment fork blocks seg i found there within (Sent page low at copied) =
      Copied page (omega (arith, low)) (from_file fork blocks seg i page found there within low at) copied
  in_segment fork blocks seg i found there within (Older low out at) =
      Kept (omega (arith, low)) (unlisted_is fork (seg * relseg + i) out)
      (λ page e. from_file fork blocks seg i page found there within low (at ∙ ap (λ (q : List ℕ). Some q) (prior_page fork seg i page (get prior.copy fork) refl within e)))
  in_segment fork blocks seg i found there within (Grown past short) =
      Raised (omega (arith, past, within)) (record { limit = short.bound; is = sym (ap (λ (t : BlockRefTable). t.limit fork) inc.summed.says) ∙ short.is; below = short.below })
  in_segment fork blocks seg i found there within (Past past none) =
      Missing (omega (arith, past, within))
      (none_page (block_of copy fork (seg * relseg + i)) (λ page e. not_past (segments fork seg) (file_at fork blocks seg found there).pages i page (file_is fork blocks seg found there) none (in_file fork blocks seg i page found within e)))

  -- no block is there behind the listed files
  behind_files : (fork : ForkId) (blocks seg i : ℕ) → listed_length inc.list fork ≡ Some blocks → segment_count relseg blocks ≤ seg → i < relseg → (page : List ℕ) → block_of copy fork (seg * relseg + i) ≡ Some page → ⊥
  behind_files fork blocks seg i found past within page e =
      let at : slice_get (pages_at fork) (seg * relseg + i) ≡ Some page = sym (is_block fork blocks (seg * relseg + i) found) ∙ e in
      let room : seg * relseg + i < length (pages_at fork) = slice_get_within (pages_at fork) (seg * relseg + i) page at in
      let few : length (pages_at fork) ≤ most_pages = no_more relseg (segments fork) (pages_at fork) (fork_is fork blocks found) in
      let low : seg * 1 ≤ seg * relseg = mul-le-mul_left seg range.least in
      let named : IsNamed fork seg = named_at fork blocks seg (named_of fork blocks found) (pages_fit seg (omega (arith, room, few, low))) in
      not_both (segments fork seg) i page (no_file fork seg named (λ n is. let same : n ≡ blocks = some_is n blocks (sym is ∙ found) in omega (arith, past, ap (segment_count relseg) same))) (in_file fork blocks seg i page found within e)

  block_origin : (fork : ForkId) (seg i : ℕ) (o : Option ℕ) → listed_length inc.list fork ≡ o → i < relseg → Origin fork (seg * relseg + i) (unwrap_or o 0)
  block_origin fork seg i None is within = Missing (omega arith) (no_block fork (seg * relseg + i) is)
  block_origin fork seg i (Some blocks) is within = elim (cases_lt seg (segment_count relseg blocks)) [
    | inl there ↦ in_segment fork blocks seg i is there within ((file_at fork blocks seg is there).block i)
    | inr past ↦ Missing (omega (arith, past_all relseg blocks seg range.least past)) (none_page (block_of copy fork (seg * relseg + i)) (behind_files fork blocks seg i is past within))
  ]

  origin : (fork : ForkId) → ForkOrigin copy prior.copy history place from to fork
  origin fork =
      let once = inc.listed.listed tt fork in
      record {
        seen = once.seen;
        prefix = once.prefix;
        found = listed_length inc.list fork;
        listed = once.listed;
        there = contains fork;
        blocks = λ block. subst (λ (n : ℕ). Origin fork n (unwrap_or (listed_length inc.list fork) 0)) (div-add-mod' block relseg) (block_origin fork (block / relseg) (block % relseg) (listed_length inc.list fork) refl (mod-lt block (omega (arith, range.least))));
      }

  pub extended : IsRunning history from → AreTidy empty history → place ≤ prior_start → prior_start ≤ from → IsSoundChain relseg history (chain ++ (files ∷ [])) from (max prior_end to)
  extended running tidy early late =
      subst (λ (m : Files). IsSoundChain relseg history (chain ++ (m ∷ [])) from (max prior_end to)) (sym inc.are)
      (record {
        copy = copy;
        held = held;
        sound = overlapping_sound copy prior.copy history place prior_start prior_end from to running tidy prior.sound early late origin;
      })

pub increments_extend : Known → IncrementsExtendSoundChains
increments_extend known history chain prior_start prior_end place from to basis files range running tidy prior early late inc =
    extended known history chain prior_start prior_end place from to basis files range prior inc running tidy early late
