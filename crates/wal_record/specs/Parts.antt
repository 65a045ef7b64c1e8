-- The parts behind an entry's announcements: images, fragments and main data, each read from bytes.
use Rattle.std.specs.Prelude.{ℕ, zero, suc, ◌*◌, ◌-◌, Bool, false, ℤ, not, List, [], ◌∷◌, length, take, drop, Option, Some, None, nat_lt, nat_le, ◌==◌, ◌&&◌, if◌then◌else◌}
use Rattle.std.specs.Option.{is_none}
use Rattle.std.specs.Int.{w16, w32, w64, cast_signed}
use Rattle.lsn_core.specs.byte_words.Numbers.{◌>>=◌, number_at}
use Rattle.lsn_core.specs.declared.lsn.Lsn.{Lsn}
use Rattle.pg_page.specs.Frags.{Fragment, bad_frag, is_good}
use Rattle.pg_page.specs.Image.{restored}
use Rattle.wal_pages.specs.declared.wal_heads.announce.RelName.{RelName}
use Rattle.wal_pages.specs.wal_heads.Announcements.{named_at}

-- what stands at the end of the bytes, so much
abbrev pub last_of : ℕ → List ℕ → List ℕ
last_of size bytes = drop (length bytes - size) bytes

-- the page of these bytes, where its header is good
unfoldable pub good_page : List ℕ → Option (List ℕ)
good_page bytes = if is_good bytes then Some bytes else None

-- the page of an image: the hole that is left out becomes zeros
unfoldable pub page_at : ℕ → List ℕ → Option (List ℕ)
page_at offset image =
    if nat_le offset (length image) && nat_le (length image) 8192 then
    good_page (restored offset image)
    else None

-- the fragment at the front of a delta, and the bytes after it
unfoldable pub frag_at : List ℕ → Option (Fragment × List ℕ)
frag_at bytes =
    number_at w16 bytes >>= λ at.
    number_at w16 at.1 >>= λ len.
    if nat_lt (length len.1) len.0 then None
    else Some (record { at = at.0; bytes = take len.0 len.1 }, drop len.0 len.1)

abbrev pub with_frag : Fragment → Option (List Fragment) → Option (List Fragment)
with_frag frag None = None
with_frag frag (Some frags) = Some (frag ∷ frags)

-- the fragments of a delta, so many at most
unfoldable pub frags_at : ℕ → List ℕ → Option (List Fragment)
frags_at n [] = Some []
frags_at zero (b ∷ bs) = None
frags_at (suc n) (b ∷ bs) =
    frag_at (b ∷ bs) >>= λ frag. with_frag frag.0 (frags_at n frag.1)

-- the fragments of a delta, all of them good
unfoldable pub delta_at : List ℕ → Option (List Fragment)
delta_at bytes =
    frags_at (length bytes) bytes >>= λ frags.
    if is_none (bad_frag frags) then Some frags else None

-- a checkpoint's main data: redo point, timeline 1, previous timeline 1, byte 1, seven zeros
unfoldable pub checkpoint_at : List ℕ → Option Lsn
checkpoint_at main =
    number_at w64 main >>= λ redo.
    number_at w32 redo.1 >>= λ timeline.
    number_at w32 timeline.1 >>= λ before.
    number_at w64 before.1 >>= λ last.
    if (timeline.0 == 1) && ((before.0 == 1) && ((last.0 == 1) && (length last.1 == 0))) then
    Some (record { 0 = redo.0 })
    else None

-- main data that is one number
unfoldable pub mark_at : List ℕ → Option ℕ
mark_at main =
    number_at w32 main >>= λ number.
    if length number.1 == 0 then Some number.0 else None

unfoldable pub start_at : List ℕ → Option Lsn
start_at main =
    number_at w64 main >>= λ start.
    if length start.1 == 0 then Some (record { 0 = start.0 }) else None

-- a relation and a number
unfoldable pub creation_at : List ℕ → Option (RelName × ℕ)
creation_at main =
    named_at main >>= λ name.
    number_at w32 name.1 >>= λ fork.
    if length fork.1 == 0 then Some (name.0, fork.0) else None

-- a number, a relation and a number
unfoldable pub truncation_at : List ℕ → Option (ℕ × (RelName × ℕ))
truncation_at main =
    number_at w32 main >>= λ count.
    creation_at count.1 >>= λ named.
    Some (count.0, named)

-- a commit's information bits, behind its time
unfoldable pub bits_at : List ℕ → Option ℕ
bits_at main =
    number_at w64 main >>= λ time.
    number_at w32 time.1 >>= λ bits.
    Some bits.0

-- they are there, and are others than those of dropped relations alone, 4 (profile)
abbrev pub are_other_bits : Option ℕ → Bool
are_other_bits None = false
are_other_bits (Some bits) = not (bits == 4)

unfoldable pub other_bits_at : List ℕ → Bool
other_bits_at main = are_other_bits (bits_at main)

-- a commit's main data that is its time alone
unfoldable pub commit_time_at : List ℕ → Option ℤ
commit_time_at main =
    number_at w64 main >>= λ time.
    if length time.1 == 0 then Some (cast_signed w64 time.0) else None

-- a commit's main data that tells more: time, information bits, how many relations are dropped, a
-- number below 2 ^ 31, and their names, of 12 bytes each
unfoldable pub commit_at : List ℕ → Option (ℤ × (ℕ × List ℕ))
commit_at main =
    number_at w64 main >>= λ time.
    number_at w32 time.1 >>= λ bits.
    number_at w32 bits.1 >>= λ count.
    if nat_lt count.0 0x80000000 && (length count.1 == count.0 * 12) then
    Some (cast_signed w64 time.0, (count.0, count.1))
    else None
