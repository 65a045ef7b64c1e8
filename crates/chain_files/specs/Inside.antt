-- What the crate's private functions answer: no public contract cites these.
use Rattle.std.specs.Prelude.{◌≡◌, ◌<◌, ℕ, ◌+◌, ◌-◌, ◌*◌, ◌/◌, Bool, true, false, List, ◌++◌, map, take, drop, length, reverse, get_or, slice_get, Option, Some, None, IfSome, nat_lt, if◌then◌else◌}
use Rattle.std.specs.Option.{unwrap_or}
use Rattle.std.specs.FinMap.{get}
use Rattle.lsn_core.specs.byte_words.Pieces.{zero_page}
use Rattle.lsn_core.specs.Files.{Files}
use Rattle.lsn_core.specs.Sizes.{page_size}
use Rattle.incr_file.specs.Form.{Form, form_in, block_in_chain, pages_in_chain}
use Rattle.incr_file.specs.Head.{IsHead, body_place}
use Rattle.incr_file.specs.Reading.{head_in, listed_count, HasPlaces, place_in}
use Rattle.incr_file.specs.declared.head.HeadView.{HeadView}
use Rattle.chain_files.specs.Paths.{file_path, IsRelationFile}
use Rattle.chain_files.specs.Segments.{IsIncrFile}
use Rattle.chain_files.specs.Sources.{member_bytes, bytes_at, slot_page, source_pages, page_count}
use Rattle.chain_files.specs.declared.form.FileForm.{FileForm}
use Rattle.chain_files.specs.declared.form.FileForm.TheVariants.{Absent, Plain, Part}
use Rattle.chain_files.specs.declared.paths.FilePaths.{FilePaths}
use Rattle.chain_files.specs.declared.slot.Slot.{Slot}
use Rattle.chain_files.specs.declared.slot.Slot.TheVariants.{Open, Zeros, Plain as InPlain, Part as InPart}
use Rattle.chain_files.specs.declared.mapping.SourcePages.{SourcePages}

-- ---- reading a member's file

-- bytes, so far as they go, are those of a file from a place on, and zeros behind its end
abbrev pub ShowsFrom : List ℕ → ℕ → List ℕ → Type 0
ShowsFrom file at bytes = (i : ℕ) → i < length bytes → get_or bytes i 0 ≡ get_or file (at + i) 0

-- bytes go on behind a beginning
abbrev pub GoesOn : List ℕ → List ℕ → Type 0
GoesOn front bytes = (more : List ℕ) × (bytes ≡ front ++ more)

-- bytes over which a file was read from a place on
abbrev pub read_over : List ℕ → ℕ → List ℕ → List ℕ
read_over file at before =
    take (length before) (drop at file) ++ drop (length file - at) before

-- the paths of a file in its two forms
pub record ArePathsOf (folder name : List ℕ) (paths : FilePaths) : Type 0 where
  pub placed : IsRelationFile folder name
  pub plain : paths.plain ≡ file_path folder name false
  pub incr : paths.incr ≡ file_path folder name true

-- ---- forms

-- what was seen of the head of an incremental file, if it has one
abbrev pub IsHeadSeen : List ℕ → ℕ → HeadView → Type 0
IsHeadSeen bytes size view =
    IsIncrFile bytes size
    → (view.head ≡ head_in bytes) × (view.body ≡ body_place (listed_count bytes))

-- the form that was seen of a file, by the bytes under its incremental path and its plain one
abbrev pub IsFormSeen : Option (List ℕ) → Option (List ℕ) → FileForm → Type 0
IsFormSeen (Some bytes) plain (Part view) = IsHeadSeen bytes (length bytes) view
IsFormSeen None (Some bytes) (Plain pages) = pages ≡ length bytes / 8192
IsFormSeen None None Absent = Unit {0}
IsFormSeen incr plain form = ⊥

-- the places of its blocks may be told
abbrev pub FitsForm : FileForm → Type 0
FitsForm Absent = Unit {0}
FitsForm (Plain pages) = Unit {0}
FitsForm (Part view) = IsHead view.head × HasPlaces view

-- ---- slots

-- where a block stands, if this member's file lists it, or else if it may be older
abbrev pub listed_slot : Option ℕ → Bool → ℕ → Slot
listed_slot (Some at) below member = InPart member at
listed_slot None below member = if below then Open else Zeros

-- where a block stands by the form of this member's file
abbrev pub slot_in : FileForm → ℕ → ℕ → Slot
slot_in Absent member block = Zeros
slot_in (Plain pages) member block =
    if nat_lt block pages then InPlain member (block * 8192) else Zeros
slot_in (Part view) member block =
    listed_slot (place_in view block) (nat_lt block view.head.truncation) member

-- an open slot is settled by this member
abbrev pub settled_slot : FileForm → ℕ → ℕ → Slot → Slot
settled_slot form member block Open = slot_in form member block
settled_slot form member block Zeros = Zeros
settled_slot form member block (InPlain other at) = InPlain other at
settled_slot form member block (InPart other at) = InPart other at

-- each slot is
pub record AreSettled (form : FileForm) (member : ℕ) (old new : List Slot) : Type 0 where
  pub long : length new ≡ length old
  pub each : (block : ℕ) (d : Slot) → block < length old
      → get_or new block d ≡ settled_slot form member block (get_or old block d)

abbrev pub is_open : Slot → Bool
is_open Open = true
is_open Zeros = false
is_open (InPlain member at) = false
is_open (InPart member at) = false

-- ---- a chain's files of one path

-- the form in which a directory has the file of these paths
abbrev pub form_by : FilePaths → Files → Form
form_by paths files = form_in (get files paths.incr) (get files paths.plain)

-- its forms in a chain, the newest one first
abbrev pub forms_by : FilePaths → List Files → List Form
forms_by paths chain = map (form_by paths) (reverse chain)

-- the incremental file of these paths is one by its head
abbrev pub HasPart : FilePaths → Files → Type 0
HasPart paths files = (bytes : List ℕ) → get files paths.incr ≡ Some bytes
    → IsIncrFile bytes (length bytes)

-- what a slot says of a block, where older forms are asked for an open one
abbrev pub said : List Files → FilePaths → List Form → ℕ → Slot → Option (List ℕ)
said chain paths older block Open = block_in_chain older block
said chain paths older block Zeros = None
said chain paths older block (InPlain member at) =
    Some (bytes_at (member_bytes chain member paths.plain) at page_size)
said chain paths older block (InPart member at) =
    Some (bytes_at (member_bytes chain member paths.incr) at page_size)

-- slots say of their blocks what the chain does, if so many of its oldest members are asked for
-- those that are open
abbrev pub AreSaid : List Files → FilePaths → ℕ → List Slot → Type 0
AreSaid chain paths count slots = (block : ℕ) (d : Slot) → block < length slots
    → said chain paths (forms_by paths (take count chain)) block (get_or slots block d)
    ≡ block_in_chain (forms_by paths chain) block

-- slots tell the pages of their blocks
abbrev pub AreAllSaid : List Files → FilePaths → List Slot → Type 0
AreAllSaid chain paths slots = (block : ℕ) (d : Slot) → block < length slots
    → slot_page chain paths (get_or slots block d)
    ≡ unwrap_or (block_in_chain (forms_by paths chain) block) zero_page

-- a member has the file of these paths in this form
abbrev pub IsFormIn : List Files → FilePaths → ℕ → FileForm → Type 0
IsFormIn chain paths member form = IfSome (slice_get chain member) (λ files.
    IsFormSeen (get files paths.incr) (get files paths.plain) form)

-- where the pages stand of the file that a chain is combined to
abbrev pub ArePagesOf : List Files → FilePaths → Option SourcePages → Type 0
ArePagesOf chain paths None = pages_in_chain (forms_by paths chain) ≡ None
ArePagesOf chain paths (Some pages) =
    (pages_in_chain (forms_by paths chain) ≡ Some (source_pages chain paths pages))
    × (page_count pages ≡ length (source_pages chain paths pages))
