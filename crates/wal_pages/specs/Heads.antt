-- The head of a WAL page (access/xlog_internal.h, XLogPageHeaderData, XLogLongPageHeaderData), of
-- a WAL of segments of mib MiB with a system identifier.
use Rattle.std.specs.Prelude.{ℕ, ◌+◌, ◌%◌, ◌/◌, List, [], ◌++◌, Option, Some, None, nat_lt, ◌==◌, ◌&&◌, Bool, not, if◌then◌else◌}
use Rattle.std.specs.Int.{w16, w32, w64, to_le_bytes}
use Rattle.lsn_core.specs.byte_words.Numbers.{u16_in, u32_in, u64_in}
use Rattle.lsn_core.specs.Segment.{segment_bytes}
use Rattle.lsn_core.specs.Sizes.{page_size, page_magic}
use Rattle.wal_pages.specs.declared.heads.HeadFault.{HeadFault}
use Rattle.wal_pages.specs.declared.heads.HeadFault.TheVariants.{PageMagic, PageInfo, PageTimeline, PageAddr, SysId, PageSizes, RemLen}

-- a page is the first one of its segment
unfoldable pub is_first_page : ℕ → ℕ → Bool
is_first_page mib page = nat_lt (page % segment_bytes mib) page_size

-- bit 1: the page begins with the rest of an entry; bit 2: the long form
abbrev pub head_flags : Bool → ℕ → ℕ
head_flags first size = (if size == 0 then 0 else 1) + (if first then 2 else 0)

-- what the long head has more
unfoldable pub long_part : ℕ → ℕ → List ℕ
long_part mib system =
    to_le_bytes w64 system ++ (to_le_bytes w32 (segment_bytes mib) ++ to_le_bytes w32 page_size)

abbrev pub long_bytes : Bool → ℕ → ℕ → List ℕ
long_bytes first mib system = if first then long_part mib system else []

-- the head of a page on which so many bytes of an entry are still to come
unfoldable pub head_bytes : Bool → ℕ → ℕ → ℕ → ℕ → List ℕ
head_bytes first mib system page size =
    to_le_bytes w16 page_magic ++ (to_le_bytes w16 (head_flags first size)
    ++ (to_le_bytes w32 1 ++ (to_le_bytes w64 page ++ (to_le_bytes w32 size
    ++ (to_le_bytes w32 0 ++ long_bytes first mib system)))))

abbrev pub page_head : ℕ → ℕ → ℕ → ℕ → List ℕ
page_head mib system page size = head_bytes (is_first_page mib page) mib system page size

abbrev pub bit : Bool → ℕ
bit told = if told then 1 else 0

-- bit 1 of the info is as expected, bit 2 tells the long form, bit 4 may be set, no other is
abbrev pub info_fits : Bool → Option ℕ → ℕ → Bool
info_fits first None info = nat_lt info 8 && ((info / 2 % 2) == bit first)
info_fits first (Some size) info =
    nat_lt info 8 && (((info / 2 % 2) == bit first) && ((info % 2) == (if size == 0 then 0 else 1)))

abbrev pub long_fault : Bool → ℕ → ℕ → List ℕ → Option HeadFault
long_fault first mib system bytes =
    if not first then None
    else (if not (u64_in bytes 24 == system) then Some SysId
    else (if not ((u32_in bytes 32 == segment_bytes mib) && (u32_in bytes 36 == page_size))
    then Some PageSizes
    else None))

abbrev pub size_fault : Option ℕ → List ℕ → Option HeadFault
size_fault None bytes = None
size_fault (Some size) bytes = if u32_in bytes 16 == size then None else Some RemLen

abbrev pub or_else : Option HeadFault → Option HeadFault → Option HeadFault
or_else None later = later
or_else (Some why) later = Some why

-- the first test that the bytes of a page's head don't pass, where so many bytes of an entry are
-- still to come; None leaves the continuation untested
unfoldable pub first_fault : Bool → ℕ → ℕ → ℕ → Option ℕ → List ℕ → Option HeadFault
first_fault first mib system page size bytes =
    if not (u16_in bytes 0 == page_magic) then Some PageMagic
    else (if not (info_fits first size (u16_in bytes 2)) then Some PageInfo
    else (if not (u32_in bytes 4 == 1) then Some PageTimeline
    else (if not (u64_in bytes 8 == page) then Some PageAddr
    else or_else (long_fault first mib system bytes) (size_fault size bytes))))

abbrev pub head_fault : ℕ → ℕ → ℕ → Option ℕ → List ℕ → Option HeadFault
head_fault mib system page size bytes =
    first_fault (is_first_page mib page) mib system page size bytes
