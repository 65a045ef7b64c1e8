-- Laws of holes and of patches, over all pages and fragments.
use Rattle.std.specs.Prelude.{◌≡◌, ◌↔◌, ℕ, true, List, length, None}
use Rattle.pg_page.specs.Header.{IsGood, hole_zeroed, with_lsn}
use Rattle.pg_page.specs.Frags.{Fragment, bad_frag, written_frags, patched, is_good}

-- zeroing a hole twice is zeroing it once
abbrev pub ZeroingTwiceIsOnce : Type 0
ZeroingTwiceIsOnce =
    (page : List ℕ) → IsGood page → hole_zeroed (hole_zeroed page) ≡ hole_zeroed page

-- a patched page has zeros in its hole
abbrev pub PatchedHolesAreZero : Type 0
PatchedHolesAreZero =
    (frags : List Fragment) (end : ℕ) (page : List ℕ) → is_good (written_frags frags page) ≡ true
    → hole_zeroed (patched frags end page) ≡ patched frags end page

-- patching at one end and then setting the LSN is patching at the other
abbrev pub PatchesDifferInLsn : Type 0
PatchesDifferInLsn =
    (frags : List Fragment) (at end : ℕ) (page : List ℕ)
    → with_lsn end (patched frags at page) ≡ patched frags end page

-- a patched page's header is good exactly where the one that the fragments leave is
abbrev pub PatchesKeepHeaders : Type 0
PatchesKeepHeaders =
    (frags : List Fragment) (end : ℕ) (page : List ℕ) → length page ≡ 8192
    → bad_frag frags ≡ None → is_good (patched frags end page) ≡ is_good (written_frags frags page)

-- `is_good` tells good headers
abbrev pub GoodHeadersAreTold : Type 0
GoodHeadersAreTold = (page : List ℕ) → (is_good page ≡ true) ↔ IsGood page
