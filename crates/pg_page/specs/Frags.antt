-- Fragments written over a page: what a delta says of a block.
use Rattle.std.specs.Prelude.{ℕ, ◌+◌, ◌==◌, ◌&&◌, ◌||◌, Bool, List, [], ◌∷◌, length, Option, Some, None, nat_lt, nat_le, if◌then◌else◌}
use Rattle.lsn_core.specs.byte_words.Pieces.{overwritten}
use Rattle.pg_page.specs.Header.{lower_of, upper_of, special_of, version_of, hole_zeroed, with_lsn}

-- bytes, and the place of a page that they are written at
pub record Fragment : Type 0 where
  pub at : ℕ
  pub bytes : List ℕ

-- how many bytes a fragment takes in a delta: its place, its length, and its bytes (profile)
abbrev pub frag_size : Fragment → ℕ
frag_size frag = 4 + length frag.bytes

-- a fragment behind others that take so many bytes of a delta is bad: it has no bytes, it ends
-- past the page, or with it the delta has more than 65,535 bytes
abbrev pub is_bad : ℕ → Fragment → Bool
is_bad before frag =
    (length frag.bytes == 0)
    || (nat_lt 8192 (frag.at + length frag.bytes) || nat_lt 65535 (before + frag_size frag))

-- the number of the first bad one among fragments that are counted from a number on
abbrev pub bad_frag_from : ℕ → ℕ → List Fragment → Option ℕ
bad_frag_from number before [] = None
bad_frag_from number before (frag ∷ frags) =
    if is_bad before frag then Some number
    else bad_frag_from (number + 1) (before + frag_size frag) frags

-- the number of the first bad fragment, counted from 0; 0 also where there is no fragment
abbrev pub bad_frag : List Fragment → Option ℕ
bad_frag [] = Some 0
bad_frag (frag ∷ frags) = bad_frag_from 0 0 (frag ∷ frags)

-- the page with fragments written over it in turn
abbrev pub written_frags : List Fragment → List ℕ → List ℕ
written_frags [] page = page
written_frags (frag ∷ frags) page = written_frags frags (overwritten page frag.at frag.bytes)

-- the page that fragments leave, by an entry that ends at a place: the hole of its new header is
-- zeros, and its LSN is that end
unfoldable pub patched : List Fragment → ℕ → List ℕ → List ℕ
patched frags end page = with_lsn end (hole_zeroed (written_frags frags page))

-- `IsGood` as a test
unfoldable pub is_good : List ℕ → Bool
is_good page =
    (length page == 8192) && ((version_of page == 8196) && (nat_le 24 (lower_of page)
    && (nat_le (lower_of page) (upper_of page)
    && (nat_le (upper_of page) (special_of page) && nat_le (special_of page) 8192))))
