-- The header of a page (PostgreSQL manual, Database Page Layout), and the hole in its middle.
use Rattle.std.specs.Prelude.{◌≡◌, ℕ, ◌+◌, ◌-◌, ◌*◌, ◌/◌, ◌%◌, ◌^◌, ◌≤◌, List, ◌++◌, length, replicate, Option, Some, None, nat_lt, if◌then◌else◌}
use Rattle.std.specs.Int.{w16, w32, to_le_bytes}
use Rattle.lsn_core.specs.byte_words.Numbers.{u16_in, u32_in}
use Rattle.lsn_core.specs.byte_words.Pieces.{overwritten}
-- a page of zeros, as an added block is
unfoldable pub use Rattle.lsn_core.specs.byte_words.Pieces.{zero_page}

-- pd_lower, pd_upper, pd_special and pd_pagesize_version
abbrev pub lower_of : List ℕ → ℕ
lower_of page = u16_in page 12

abbrev pub upper_of : List ℕ → ℕ
upper_of page = u16_in page 14

abbrev pub special_of : List ℕ → ℕ
special_of page = u16_in page 16

abbrev pub version_of : List ℕ → ℕ
version_of page = u16_in page 18

-- pd_lsn: the high 32 bits, then the low ones
abbrev pub lsn_of : List ℕ → ℕ
lsn_of page = u32_in page 0 * 2 ^ 32 + u32_in page 4

-- a page with a good header (profile)
pub record IsGood (page : List ℕ) : Type 0 where
  pub whole : length page ≡ 8192
  pub version : version_of page ≡ 8196
  pub lower : 24 ≤ lower_of page
  pub upper : lower_of page ≤ upper_of page
  pub special : upper_of page ≤ special_of page
  pub top : special_of page ≤ 8192

-- the hole of a good page: from pd_lower to pd_upper, where that isn't empty
abbrev pub hole_of : List ℕ → Option (ℕ × ℕ)
hole_of page =
    if nat_lt (lower_of page) (upper_of page) then Some (lower_of page, upper_of page) else None

-- the page with zeros in its hole
unfoldable pub hole_zeroed : List ℕ → List ℕ
hole_zeroed page = overwritten page (lower_of page) (replicate (upper_of page - lower_of page) 0)

-- the bytes of pd_lsn
unfoldable pub lsn_field : ℕ → List ℕ
lsn_field at = to_le_bytes w32 (at / 2 ^ 32) ++ to_le_bytes w32 (at % 2 ^ 32)

-- the page with another pd_lsn
unfoldable pub with_lsn : ℕ → List ℕ → List ℕ
with_lsn at page = overwritten page 0 (lsn_field at)

-- the header's places of a page made from nothing, with no special space
unfoldable pub made_fields : ℕ → ℕ → List ℕ
made_fields lower upper =
    to_le_bytes w16 lower ++ (to_le_bytes w16 upper
    ++ (to_le_bytes w16 8192 ++ to_le_bytes w16 8196))

-- a page made from nothing: `fill` outside the header and the hole, all else zero but the header's
-- places
unfoldable pub made_page : ℕ → ℕ → ℕ → List ℕ
made_page lower upper fill =
    replicate 12 0 ++ (made_fields lower upper ++ (replicate 4 0
    ++ (replicate (lower - 24) fill
    ++ (replicate (upper - lower) 0 ++ replicate (8192 - upper) fill))))
