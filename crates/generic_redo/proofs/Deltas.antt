-- A delta redone: what it makes of the page that was read.
use Rattle.std.proofs.Common.{◌≡◌, ℕ, ◌<◌, ◌≤◌, Bool, true, false, cond, List, Option, Some, None, option_map, ap, sym, subst, ◌∙◌, arith}
use Rattle.std.proofs.lemmas.Bool.{le-ltb, lt-ltb}
use Rattle.lsn_core.specs.declared.ids.BlockId.{BlockId}
use Rattle.lsn_core.specs.Store.{Store}
use Rattle.lsn_core.specs.Blocks.{page_put}
use Rattle.lsn_core.specs.Shown.{Turns, BlockAnswer, ReadsBlock}
use Rattle.pg_page.specs.Header.{lsn_of, zero_page}
use Rattle.pg_page.specs.Frags.{Fragment, written_frags, patched, is_good}
use Rattle.history.specs.declared.op.Edit.TheVariants.{Patch}
use Rattle.history.specs.Apply.{page_at, edited}
use Rattle.history.specs.Redo.{redone, Redoes, Refuses}
use Rattle.history.proofs.Stores.{page_found, page_missing, put_same}
use Rattle.generic_redo.specs.Inside.{delta_redone}

-- the page that was read over a page of zeros is the one that is there
page_read : (s : Store) (at : BlockId) (old page : List ℕ) (there : Bool) → old ≡ zero_page → BlockAnswer s at old page there → page_at s at ≡ page
page_read s at old page true zeros e = page_found s at page e
page_read s at old page false zeros e = page_missing s at e.0 ∙ sym (e.1 ∙ zeros)

-- where the page is as new as the delta, nothing changes
passed : (s : Store) (at : BlockId) (frags : List Fragment) (end : ℕ) (page : List ℕ) → page_at s at ≡ page → 0 < end → end ≤ lsn_of page → delta_redone end at frags s ≡ Some s
passed s at frags end page there some late =
    let some_lsn : 0 < lsn_of (page_at s at) = subst (λ (p : List ℕ). 0 < lsn_of p) (sym there) (omega (arith, some, late)) in
    let late_there : end ≤ lsn_of (page_at s at) = subst (λ (p : List ℕ). end ≤ lsn_of p) (sym there) late in
    ap (λ t. option_map (λ p. page_put at p s) (cond t (edited end (page_at s at) (Patch frags)) (Some (page_at s at)))) (le-ltb (lsn_of (page_at s at)) end late_there)
    ∙ ap (λ (t : Store). Some t) (put_same s at some_lsn)

-- where it is older, the fragments are written over it, or can't be
abbrev earlier : Store → BlockId → List Fragment → ℕ → List ℕ → Option Store
earlier s at frags end page = option_map (λ p. page_put at p s) (edited end page (Patch frags))

older : (s : Store) (at : BlockId) (frags : List Fragment) (end : ℕ) (page : List ℕ) → page_at s at ≡ page → lsn_of page < end → delta_redone end at frags s ≡ earlier s at frags end page
older s at frags end page there less =
    ap (λ (old : List ℕ). option_map (λ p. page_put at p s) (redone end old (Patch frags))) there
    ∙ ap (λ t. option_map (λ p. page_put at p s) (cond t (edited end page (Patch frags)) (Some page))) (lt-ltb (lsn_of page) end less)

good_page : (s : Store) (at : BlockId) (frags : List Fragment) (end : ℕ) (page : List ℕ) → is_good (written_frags frags page) ≡ true → earlier s at frags end page ≡ Some (page_put at (patched frags end page) s)
good_page s at frags end page good = ap (λ t. option_map (λ p. page_put at p s) (cond t (Some (patched frags end page)) None)) good

bad_page : (s : Store) (at : BlockId) (frags : List Fragment) (end : ℕ) (page : List ℕ) → is_good (written_frags frags page) ≡ false → earlier s at frags end page ≡ None
bad_page s at frags end page bad = ap (λ t. option_map (λ p. page_put at p s) (cond t (Some (patched frags end page)) None)) bad

-- ---- the same of pages that show a store

-- in each store that is shown before, this is the page at a block, and the store is shown behind
abbrev pub IsPageAt : {P : Type 0} → (P → Store → Type 0) → P → P → BlockId → List ℕ → Type 0
IsPageAt shows before behind at page = (s : Store) → shows before s → (page_at s at ≡ page) × shows behind s

pub is_read : {P : Type 0} (shows : P → Store → Type 0) (before behind : P) (at : BlockId) (old page : List ℕ) (there : Bool) → old ≡ zero_page → ReadsBlock (shows before) at old page there → Turns shows before behind (λ s. s) → IsPageAt shows before behind at page
is_read shows before behind at old page there zeros read same s shown = (page_read s at old page there zeros (read s shown), same s shown)

pub delta_passed : {P : Type 0} (shows : P → Store → Type 0) (before behind : P) (at : BlockId) (frags : List Fragment) (end : ℕ) (page : List ℕ) → IsPageAt shows before behind at page
    → 0 < end → end ≤ lsn_of page → Redoes shows before behind (delta_redone end at frags)
delta_passed shows before behind at frags end page is some late s shown =
    let found = is s shown in
    (s, (passed s at frags end page found.0 some late, found.1))

pub delta_refused : {P : Type 0} (shows : P → Store → Type 0) (before behind : P) (at : BlockId) (frags : List Fragment) (end : ℕ) (page : List ℕ) → IsPageAt shows before behind at page
    → lsn_of page < end → is_good (written_frags frags page) ≡ false → Refuses shows before behind (delta_redone end at frags)
delta_refused shows before behind at frags end page is less bad s shown =
    let found = is s shown in
    (older s at frags end page found.0 less ∙ bad_page s at frags end page bad, found.1)

pub delta_applied : {P : Type 0} (shows : P → Store → Type 0) (before middle behind : P) (at : BlockId) (frags : List Fragment) (end : ℕ) (page new : List ℕ) → IsPageAt shows before middle at page
    → lsn_of page < end → is_good (written_frags frags page) ≡ true → new ≡ patched frags end page → Turns shows middle behind (page_put at new) → Redoes shows before behind (delta_redone end at frags)
delta_applied shows before middle behind at frags end page new is less good patch written s shown =
    let found = is s shown in
    (page_put at new s, (older s at frags end page found.0 less ∙ good_page s at frags end page good ∙ ap (λ (p : List ℕ). Some (page_put at p s)) (sym patch), written s found.1))
