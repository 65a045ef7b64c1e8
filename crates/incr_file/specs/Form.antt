-- A segment file of a fork in its forms, and a block asked of several, the newest first.
use Rattle.std.specs.Prelude.{ℕ, ◌+◌, ◌*◌, ◌/◌, ◌==◌, max, List, [], ◌∷◌, map, take, drop, length, slice_get, Option, Some, None, nat_lt, if◌then◌else◌}
use Rattle.std.specs.List.{flat_map, range_with_len}
use Rattle.std.specs.Option.{option_or, unwrap_or}
use Rattle.lsn_core.specs.byte_words.Pieces.{zero_page}
use Rattle.lsn_core.specs.Sizes.{page_size}
use Rattle.lsn_core.specs.Store.{ForkPages}
use Rattle.incr_file.specs.declared.head.IncrHead.{IncrHead}
use Rattle.incr_file.specs.Head.{body_place}
use Rattle.incr_file.specs.Reading.{head_in}

-- the parts of so many bytes that a list has; a rest is left out
abbrev pub pieces_in : ℕ → List ℕ → List (List ℕ)
pieces_in size bytes =
    map (λ n. take size (drop (n * size) bytes)) (range_with_len 0 (length bytes / size))

-- the whole pages that bytes hold
unfoldable pub whole_pages : List ℕ → ForkPages
whole_pages bytes = pieces_in page_size bytes

-- the bytes of pages
abbrev pub pages_bytes : ForkPages → List ℕ
pages_bytes pages = flat_map (λ page. page) pages

-- a segment file as a backup has it: it isn't there, it is whole, or it has some blocks alone
pub data Form : Type 0 where
  Absent : Form
  Plain : ForkPages → Form
  Part : IncrHead → ForkPages → Form

-- what the bytes of an incremental file say
abbrev pub part_in : List ℕ → Form
part_in bytes =
    Part (head_in bytes) (whole_pages (drop (body_place (length (head_in bytes).blocks)) bytes))

-- the form of a file, by the bytes under its incremental path and those under its plain one
abbrev pub form_in : Option (List ℕ) → Option (List ℕ) → Form
form_in (Some bytes) plain = part_in bytes
form_in None (Some bytes) = Plain (whole_pages bytes)
form_in None None = Absent

-- the page that stands for a block in the list of blocks
abbrev pub sent_page : List ℕ → ForkPages → ℕ → Option (List ℕ)
sent_page [] pages block = None
sent_page (b ∷ blocks) [] block = None
sent_page (b ∷ blocks) (page ∷ pages) block =
    if b == block then Some page else sent_page blocks pages block

-- a block asked of the forms of one file: a listed block comes from the file, one that isn't listed
-- from the form before, where it is below the truncation length
abbrev pub block_in_chain : List Form → ℕ → Option (List ℕ)
block_in_chain [] block = None
block_in_chain (Absent ∷ older) block = None
block_in_chain (Plain pages ∷ older) block = slice_get pages block
block_in_chain (Part head pages ∷ older) block =
    option_or (sent_page head.blocks pages block)
    (if nat_lt block head.truncation then block_in_chain older block else None)

-- one more than the greatest of some numbers
abbrev pub past_all : List ℕ → ℕ
past_all [] = 0
past_all (b ∷ blocks) = max (b + 1) (past_all blocks)

-- the length of a rebuilt file: up to the truncation length, and past the last listed block
abbrev pub rebuilt_length : IncrHead → ℕ
rebuilt_length head = max head.truncation (past_all head.blocks)

-- the pages of the file that is rebuilt of forms, of which the newest has this head; a block that
-- none of them has is zeros
abbrev pub rebuilt_pages : List Form → IncrHead → ForkPages
rebuilt_pages forms head =
    map (λ b. unwrap_or (block_in_chain forms b) zero_page)
    (range_with_len 0 (rebuilt_length head))

-- the pages of the file that stands for the newest form, where there is one
abbrev pub pages_in_chain : List Form → Option ForkPages
pages_in_chain [] = None
pages_in_chain (Absent ∷ older) = None
pages_in_chain (Plain pages ∷ older) = Some pages
pages_in_chain (Part head pages ∷ older) =
    Some (rebuilt_pages (Part head pages ∷ older) head)
