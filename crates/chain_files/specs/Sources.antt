-- From where the pages of a combined file are read.
use Rattle.std.specs.Prelude.{◌≡◌, ◌≤◌, ℕ, ◌+◌, ◌-◌, ◌*◌, min, List, [], map, take, drop, length, slice_get, Option, Some, None, IfSome}
use Rattle.std.specs.Option.{option_map, unwrap_or}
use Rattle.lsn_core.specs.byte_words.Pieces.{zero_filled, zero_page}
use Rattle.lsn_core.specs.Files.{Files}
use Rattle.lsn_core.specs.Sizes.{page_size}
use Rattle.lsn_core.specs.Store.{ForkPages}
use Rattle.lsn_core.specs.declared.ids.ForkId.{ForkId}
use Rattle.vault.specs.Area.{bytes_of}
use Rattle.incr_file.specs.Form.{pages_bytes, whole_pages}
use Rattle.chain_files.specs.Paths.{fork_folder, fork_name}
use Rattle.chain_files.specs.Segments.{chain_pages, AllHaveForms}
use Rattle.chain_files.specs.declared.paths.FilePaths.{FilePaths}
use Rattle.chain_files.specs.declared.slot.Slot.{Slot}
use Rattle.chain_files.specs.declared.slot.Slot.TheVariants.{Open, Zeros, Plain as InPlain, Part as InPart}
use Rattle.chain_files.specs.declared.mapping.SourcePages.{SourcePages}
use Rattle.chain_files.specs.declared.mapping.SourcePages.TheVariants.{Plain, Mapped}
use Rattle.chain_files.specs.declared.source.SegmentSource.{SegmentSource}

-- pages were read into a piece, from one on, counted from 0: as many as there are, but at most so
-- many
pub record AreRead (pages : ForkPages) (number most : ℕ) (piece : List ℕ) (count : ℕ) : Type 0 where
  pub counted : count ≡ min most (length pages - number)
  pub are : take (count * 8192) piece ≡ pages_bytes (take count (drop number pages))

-- these are bytes of a file from a place on
pub record IsPiece (files : Files) (name : List ℕ) (at : ℕ) (piece : List ℕ) : Type 0 where
  pub bytes : piece ≡ take (length piece) (drop at (bytes_of files name))
  pub within : at ≤ length (bytes_of files name) → at + length piece ≤ length (bytes_of files name)

-- what is told of a chain of directories, where each is told and its incremental files are of their
-- grammar
abbrev pub OfChain : Option (List Files) → (List Files → Type 0) → Type 0
OfChain told P = IfSome told (λ chain. AllHaveForms chain → P chain)

-- ---- where pages stand

-- the bytes of a file of a chain's member, counted from the oldest one; none where it isn't there
abbrev pub member_bytes : List Files → ℕ → List ℕ → List ℕ
member_bytes chain member path =
    unwrap_or (option_map (λ files. bytes_of files path) (slice_get chain member)) []

-- so many bytes from a place on, zeros behind the end
abbrev pub bytes_at : List ℕ → ℕ → ℕ → List ℕ
bytes_at bytes at size = zero_filled (take size (drop at bytes)) size

-- the page of a file of these paths that stands at a slot
abbrev pub slot_page : List Files → FilePaths → Slot → List ℕ
slot_page chain paths Open = zero_page
slot_page chain paths Zeros = zero_page
slot_page chain paths (InPlain member at) =
    bytes_at (member_bytes chain member paths.plain) at page_size
slot_page chain paths (InPart member at) =
    bytes_at (member_bytes chain member paths.incr) at page_size

-- the pages of a file of these paths
abbrev pub source_pages : List Files → FilePaths → SourcePages → ForkPages
source_pages chain paths (Plain member count) =
    whole_pages (member_bytes chain member paths.plain)
source_pages chain paths (Mapped slots) = map (slot_page chain paths) slots.items

-- how many they are
abbrev pub page_count : SourcePages → ℕ
page_count (Plain member count) = count
page_count (Mapped slots) = length slots.items

-- a source gives the pages of the file that a chain is combined to
pub record GivesPages (combined : Option ForkPages) (chain : List Files) (source : SegmentSource)
    : Type 0 where
  pub are : combined ≡ Some (source_pages chain source.paths source.pages)
  pub counted : page_count source.pages ≡ length (source_pages chain source.paths source.pages)

-- what is found of a file in a chain: nothing where it is combined to no such file, or a source
-- that gives its pages
abbrev pub IsSourceAt : List Files → List ℕ → List ℕ → Option SegmentSource → Type 0
IsSourceAt chain folder name None = chain_pages chain folder name ≡ None
IsSourceAt chain folder name (Some source) =
    GivesPages (chain_pages chain folder name) chain source

-- the same of a segment file of a fork
abbrev pub IsSourceOf : List Files → ForkId → ℕ → Option SegmentSource → Type 0
IsSourceOf chain fork seg = IsSourceAt chain (fork_folder fork) (fork_name fork seg)
