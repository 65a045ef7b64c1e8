-- An incremental backup that ends: where each of its blocks comes from, over whatever copy before
-- it.
use Rattle.std.proofs.Common.{◌≡◌, ℕ, zero, suc, ◌+◌, ◌-◌, ◌<◌, ◌≤◌, Bool, true, false, cond, ◌||◌, List, [], ◌∷◌, ◌++◌, map, length, replicate, get_or, Option, Some, None, unwrap_or, option_map, is_some, refl, ap, sym, ◌∙◌, arith, append_assoc, true≢false}
use Rattle.std.specs.Prelude.{◌==◌, nat_lt, not, slice_get}
use Rattle.std.specs.List.{list_any, list_all, range_with_len}
use Rattle.std.specs.FinMap.{get, empty, keys, contains_key, get-empty}
use Rattle.std.proofs.lemmas.Bool.{and_parts, or_left, ltb-true, ltb-false}
use Rattle.std.proofs.lemmas.Option.{slice_get-get_or, slice_get_past}
use Rattle.std.proofs.lemmas.List.{length-append, length-replicate}
use Rattle.std.proofs.lemmas.List.Folds.{list_any-append}
use Rattle.std.proofs.lemmas.List.FromFn.{length-map-range_with_len, get_or-map-range_with_len}
use Rattle.lsn_core.specs.byte_words.Numbers.{◌>>=◌}
use Rattle.lsn_core.specs.declared.ids.ForkId.{ForkId}
use Rattle.lsn_core.specs.declared.ids.BlockId.{BlockId}
use Rattle.lsn_core.specs.Store.{Store, ForkPages, fork_cmp}
use Rattle.lsn_core.specs.Blocks.{block_of, block_count, pages_of}
use Rattle.pg_page.specs.Header.{zero_page}
use Rattle.history.specs.Entry.{Entry}
use Rattle.history.specs.Apply.{page_at}
use Rattle.history.specs.Whole.{is_named}
use Rattle.history.proofs.Stores.{by_test}
use Rattle.history.specs.partitions.Parts.{partition_of}
use Rattle.history.specs.fuzzy_copies.Summary.{BlockRefTable, summary_of}
use Rattle.history.specs.fuzzy_copies.Taken.{IsSeen}
use Rattle.history.specs.fuzzy_copies.Increment.{BlockOrigin, Copied, Kept, Raised, Missing, ForkOrigin}
use Rattle.history.proofs.fuzzy_copies.Pages.{page_by_block}
use Rattle.store_core.specs.State.{Part, Published, Prior, Backup, part_numbers}
use Rattle.store_core.specs.Increments.{raised_length, raised_pages, raised, page_over, pages_over, with_pages, copy_over}
use Rattle.store_core.specs.Steps.{is_listed, blocks_of, table_for, sends, is_settled, is_complete}
use Rattle.store_core.proofs.Planned.{unsent, limited}
use Rattle.store_core.proofs.Publishing.{summary_same}
use Rattle.store_core.proofs.Copies.{IsBackup, keys_named, each_listed, block_listed, seen_to}
use Rattle.store_core.proofs.Overlaid.{pages_got}

-- ---- over an entry behind it

seen_on : (seen history : List Entry) (from to : ℕ) (e : Entry) → IsSeen seen history from to → IsSeen seen (history ++ (e ∷ [])) from to
seen_on seen history from to e s = record {
  behind = s.behind ++ (e ∷ []);
  all = ap (λ (h : List Entry). h ++ (e ∷ [])) s.all ∙ append_assoc seen s.behind (e ∷ []);
  holds = s.holds;
  ends = list_any-append (λ (x : Entry). x.end == to) s.behind (e ∷ []) ∙ or_left (list_any (λ (x : Entry). x.end == to) s.behind) _ s.ends;
}

block_on : (copy prior : Store) (history : List Entry) (first from to : ℕ) (fork : ForkId) (block count : ℕ) (e : Entry) → from ≤ e.start → BlockOrigin copy prior history first from to fork block count → BlockOrigin copy prior (history ++ (e ∷ [])) first from to fork block count
block_on copy prior history first from to fork block count e late (Copied page l there c) =
    Copied page l there (record { seen = c.seen; prefix = seen_on c.seen history from to e c.prefix; answer = c.answer; copied = c.copied; written = c.written })
block_on copy prior history first from to fork block count e late (Kept l may over) =
    Kept l (ap (λ (t : BlockRefTable). t.listed fork block) (summary_same history e first from late) ∙ may) over
block_on copy prior history first from to fork block count e late (Raised l below) =
    Raised l (record { limit = below.limit; is = ap (λ (t : BlockRefTable). t.limit fork) (summary_same history e first from late) ∙ below.is; below = below.below })
block_on copy prior history first from to fork block count e late (Missing l none) = Missing l none

pub fork_on : (copy prior : Store) (history : List Entry) (first from to : ℕ) (fork : ForkId) (e : Entry) → from ≤ e.start → ForkOrigin copy prior history first from to fork → ForkOrigin copy prior (history ++ (e ∷ [])) first from to fork
fork_on copy prior history first from to fork e late o = record {
  seen = o.seen;
  prefix = seen_on o.seen history from to e o.prefix;
  found = o.found;
  listed = o.listed;
  there = o.there;
  blocks = λ block. block_on copy prior history first from to fork block (unwrap_or o.found 0) e late (o.blocks block);
}

-- ---- what it makes

slice_front : (xs ys : ForkPages) (i : ℕ) → i < length xs → slice_get (xs ++ ys) i ≡ slice_get xs i
slice_front [] ys i l = absurd (omega (arith, l))
slice_front (x ∷ xs) ys zero l = refl
slice_front (x ∷ xs) ys (suc i) l = slice_front xs ys i (omega (arith, l))

-- forks of a store that is made of a copy's, fork by fork
made_got : (pages : ForkId → ForkPages) (copy : Store) (fork : ForkId) → get (with_pages pages empty (keys copy)) fork ≡ cond (contains_key copy fork) (Some (pages fork)) None
made_got pages copy fork =
    pages_got pages empty (keys copy) fork ∙ ap (λ c. cond c (Some (pages fork)) (get {R = fork_cmp} empty fork)) (sym (keys_named copy fork))
    ∙ ap (λ (o : Option ForkPages). cond (contains_key copy fork) (Some (pages fork)) o) (get-empty fork_cmp fork)

-- a fork of an ended backup over an earlier copy
record IsOver (sent : List BlockId) (copy raised prior made : Store) (fork : ForkId) (pages : ForkPages) (count : ℕ) : Type 0 where
  long : length pages ≤ count
  there : get made fork ≡ Some (map (λ block. page_over sent raised prior (record { fork = fork; block = block })) (range_with_len 0 count))
  front : (block : ℕ) → block < length pages → block_of raised fork block ≡ slice_get pages block

over_of : (sent : List BlockId) (relseg : ℕ) (table : BlockRefTable) (known copy prior : Store) (fork : ForkId) (pages : ForkPages) → get copy fork ≡ Some pages
    → IsOver sent copy (raised relseg table known copy) prior (copy_over sent (raised relseg table known copy) prior) fork pages (length pages + (raised_length relseg table known copy fork - length pages))
over_of sent relseg table known copy prior fork pages is =
    let up = raised relseg table known copy in
    let zeros = replicate (raised_length relseg table known copy fork - length pages) zero_page in
    let mine : pages_of copy fork ≡ pages = ap (λ (o : Option ForkPages). unwrap_or o []) is in
    let here : contains_key copy fork ≡ true = ap (λ (o : Option ForkPages). is_some o) is in
    let got : get up fork ≡ Some (pages ++ zeros) =
    made_got (raised_pages relseg table known copy) copy fork ∙ ap (λ c. cond c (Some (raised_pages relseg table known copy fork)) None) here
    ∙ ap (λ (ps : ForkPages). Some (ps ++ replicate (raised_length relseg table known copy fork - length ps) zero_page)) mine in
    let count = length pages + (raised_length relseg table known copy fork - length pages) in
    let size : length (pages_of up fork) ≡ count = ap (λ (o : Option ForkPages). length (unwrap_or o [])) got ∙ length-append pages zeros ∙ ap (λ (n : ℕ). length pages + n) (length-replicate (raised_length relseg table known copy fork - length pages) zero_page) in
    record {
      long = omega arith;
      there = made_got (pages_over sent up prior) up fork ∙ ap (λ c. cond c (Some (pages_over sent up prior fork)) None) (ap (λ (o : Option ForkPages). is_some o) got)
          ∙ ap (λ (n : ℕ). Some (map (λ block. page_over sent up prior (record { fork = fork; block = block })) (range_with_len 0 n))) size;
      front = λ block l. ap (λ (o : Option ForkPages). o >>= λ ps. slice_get ps block) got ∙ slice_front pages zeros block l;
    }

block_over : (sent : List BlockId) (copy raised prior made : Store) (fork : ForkId) (pages : ForkPages) (count block : ℕ) → IsOver sent copy raised prior made fork pages count → block < count
    → block_of made fork block ≡ Some (page_over sent raised prior (record { fork = fork; block = block }))
block_over sent copy raised prior made fork pages count block o l =
    let f = λ (b : ℕ). page_over sent raised prior (record { fork = fork; block = b }) in
    let all = map f (range_with_len 0 count) in
    ap (λ (p : Option ForkPages). p >>= λ ps. slice_get ps block) o.there
    ∙ slice_get-get_or all block [] (omega (arith, l, length-map-range_with_len f 0 count))
    ∙ ap (λ (p : List ℕ). Some p) (get_or-map-range_with_len f 0 count block block [] l (omega arith))

block_past : (sent : List BlockId) (copy raised prior made : Store) (fork : ForkId) (pages : ForkPages) (count block : ℕ) → IsOver sent copy raised prior made fork pages count → count ≤ block → block_of made fork block ≡ None
block_past sent copy raised prior made fork pages count block o l =
    let f = λ (b : ℕ). page_over sent raised prior (record { fork = fork; block = b }) in
    ap (λ (p : Option ForkPages). p >>= λ ps. slice_get ps block) o.there ∙ slice_get_past (map f (range_with_len 0 count)) block (omega (arith, l, length-map-range_with_len f 0 count))

-- ---- its end

left_of : (t u : Bool) → (t || not u) ≡ true → t ≡ false → u ≡ false
left_of true u e f = absurd (true≢false f)
left_of false true e f = absurd (true≢false (sym e))
left_of false false e f = refl

abbrev Ends : ℕ → List Published → List Entry → Backup → Prior → Entry → Store → ForkId → ℕ → ℕ → Type 0
Ends relseg published history b p e prior fork block count =
    BlockOrigin (copy_over b.copied (raised relseg (table_for published b p) p.copy b.copy) prior) prior (history ++ (e ∷ [])) p.start b.start e.end fork block count

-- a block of a fork that is listed with pages
block_ends : (mib relseg : ℕ) (history : List Entry) (parts : ℕ → Part) (published : List Published) (b : Backup) (p : Prior) (e : Entry) (prior : Store) (fork : ForkId) (pages : ForkPages) (block : ℕ)
    → IsBackup mib history parts b → list_all (is_settled relseg published b) (blocks_of b.copy) ≡ true → b.prior ≡ Some p → table_for published b p ≡ summary_of history p.start b.start → b.start ≤ e.start
    → get b.copy fork ≡ Some pages → Ends relseg published history b p e prior fork block (length pages)
block_ends mib relseg history parts published b p e prior fork pages block is settled incremental table late found =
    let at : BlockId = record { fork = fork; block = block } in
    let told = table_for published b p in
    let up = raised relseg told p.copy b.copy in
    let made = copy_over b.copied up prior in
    let size = raised_length relseg told p.copy b.copy fork in
    let count = length pages + (size - length pages) in
    let over = over_of b.copied relseg told p.copy b.copy prior fork pages found in
    let mine : pages_of b.copy fork ≡ pages = ap (λ (o : Option ForkPages). unwrap_or o []) found in
    let later : told ≡ summary_of (history ++ (e ∷ [])) p.start b.start = table ∙ sym (summary_same history e p.start b.start late) in
    by_test (nat_lt block (length pages))
    (λ within.
    let l = ltb-true block (length pages) within in
    let page = get_or pages block zero_page in
    let there : block_of b.copy fork block ≡ Some page = ap (λ (o : Option ForkPages). o >>= λ ps. slice_get ps block) found ∙ slice_get-get_or pages block zero_page l in
    let is_over = block_over b.copied b.copy up prior made fork pages count block over (omega (arith, l)) in
    by_test (is_named at b.copied)
    (λ named.
    let c = is.blocks at page named there in
    let of_copy : page_at up at ≡ page = page_by_block up at ∙ ap (λ (o : Option (List ℕ)). unwrap_or o zero_page) (over.front block l ∙ slice_get-get_or pages block zero_page l) in
    Copied page l (is_over ∙ ap (λ (x : List ℕ). Some x) (ap (λ t. cond t (page_at up at) (page_at prior at)) named ∙ of_copy))
    (record { seen = c.seen; prefix = seen_to c.seen history b.start e c.prefix; answer = c.answer; copied = c.copied; written = c.written }))
    (λ unnamed.
    let known = block_listed (is_settled relseg published b) b.copy fork block page settled there in
    let none : sends relseg published b (Some p) at ≡ false = ap (λ (o : Option Prior). sends relseg published b o at) (sym incremental) ∙ left_of (is_named at b.copied) (sends relseg published b b.prior at) known unnamed in
    let unlisted : told.listed fork block ≡ false = unsent relseg told p.copy b.copy fork block (omega (arith, l, ap (λ (ps : ForkPages). length ps) mine)) none in
    Kept l (ap (λ (t : BlockRefTable). t.listed fork block) (sym later) ∙ unlisted)
    (λ old has. is_over ∙ ap (λ (x : List ℕ). Some x) (ap (λ t. cond t (page_at up at) (page_at prior at)) unnamed ∙ page_by_block prior at ∙ ap (λ (o : Option (List ℕ)). unwrap_or o zero_page) has))))
    (λ beyond.
    let l = ltb-false block (length pages) beyond in
    by_test (nat_lt block count)
    (λ within.
    let k = ltb-true block count within in
    let low = limited relseg told p.copy b.copy fork block (omega (arith, l, ap (λ (ps : ForkPages). length ps) mine)) (omega (arith, l, k)) in
    Raised l (record { limit = low.count; is = ap (λ (t : BlockRefTable). t.limit fork) (sym later) ∙ low.is; below = low.below }))
    (λ past. Missing l (block_past b.copied b.copy up prior made fork pages count block over (ltb-false block count past))))

pub fork_ends : (mib relseg : ℕ) (history : List Entry) (parts : ℕ → Part) (published : List Published) (b : Backup) (p : Prior) (e : Entry) → IsBackup mib history parts b → is_complete relseg published b ≡ true → b.prior ≡ Some p
    → table_for published b p ≡ summary_of history p.start b.start → b.start ≤ e.start → (prior : Store) (fork : ForkId)
    → ForkOrigin (copy_over b.copied (raised relseg (table_for published b p) p.copy b.copy) prior) prior (history ++ (e ∷ [])) p.start b.start e.end fork
fork_ends mib relseg history parts published b p e is complete incremental table late prior fork =
    let both = and_parts (list_all (is_listed b) part_numbers) (list_all (is_settled relseg published b) (blocks_of b.copy)) complete in
    let up = raised relseg (table_for published b p) p.copy b.copy in
    let made = copy_over b.copied up prior in
    let l = is.forks fork (each_listed (is_listed b) both.0 (partition_of fork.rel) (omega arith)) in
    let kept : contains_key made fork ≡ is_some (block_count b.copy fork) =
    ap (λ (o : Option ForkPages). is_some o) (made_got (pages_over b.copied up prior) up fork) ∙ some_there (contains_key up fork) (pages_over b.copied up prior fork)
    ∙ ap (λ (o : Option ForkPages). is_some o) (made_got (raised_pages relseg (table_for published b p) p.copy b.copy) b.copy fork) ∙ some_there (contains_key b.copy fork) (raised_pages relseg (table_for published b p) p.copy b.copy fork)
    ∙ counted (get b.copy fork) in
    record {
      seen = l.seen;
      prefix = seen_to l.seen history b.start e l.prefix;
      found = block_count b.copy fork;
      listed = l.listed;
      there = kept;
      blocks = λ block.
          elim (get b.copy fork) as (λ o. get b.copy fork ≡ o → Ends relseg published history b p e prior fork block (unwrap_or (option_map (λ (ps : ForkPages). length ps) o) 0)) [
            | None ↦ λ none.
                Missing (omega arith) (ap (λ (o : Option ForkPages). o >>= λ ps. slice_get ps block)
                (gone (get made fork) (kept ∙ ap (λ (o : Option ForkPages). is_some (option_map (λ (ps : ForkPages). length ps) o)) none)))
            | Some pages ↦ λ found. block_ends mib relseg history parts published b p e prior fork pages block is both.1 incremental table late found
          ] refl;
    }
  where
    some_there : (t : Bool) (pages : ForkPages) → is_some (cond t (Some pages) None) ≡ t
    some_there true pages = refl
    some_there false pages = refl

    counted : (o : Option ForkPages) → is_some o ≡ is_some (option_map (λ (ps : ForkPages). length ps) o)
    counted None = refl
    counted (Some pages) = refl

    gone : (o : Option ForkPages) → is_some o ≡ false → o ≡ None
    gone None e = refl
    gone (Some pages) e = absurd (true≢false e)
