-- What holds of heads, of files written with them, and of plans.
use Rattle.std.specs.Prelude.{◌≡◌, ◌≢◌, ◌≤◌, ℕ, ◌+◌, ◌&&◌, Bool, List, ◌++◌, length, slice_get, nat_lt, Option, Some, Result, Ok, Err}
use Rattle.std.specs.List.Sorted.{IsStrictlyIncreasing}
use Rattle.lsn_core.specs.byte_words.Numbers.{IsBytes, ◌>>=◌}
use Rattle.lsn_core.specs.Sizes.{page_size}
use Rattle.lsn_core.specs.Segment.{IsRelseg}
use Rattle.lsn_core.specs.Store.{ForkPages}
use Rattle.incr_file.specs.declared.head.IncrHead.{IncrHead}
use Rattle.incr_file.specs.declared.head.HeadView.{HeadView}
use Rattle.incr_file.specs.declared.decode.HeadFault.{HeadFault}
use Rattle.incr_file.specs.declared.decode.HeadFault.TheVariants.{NoMemory}
use Rattle.incr_file.specs.Head.{IsHead, fields_bytes, head_bytes, file_size}
use Rattle.incr_file.specs.Reading.{HoldsHead, HeadAnswers, view_of}
use Rattle.incr_file.specs.Form.{Form, Part, pages_bytes, part_in, block_in_chain}
use Rattle.incr_file.specs.Origin.{AreComplete, origin_in_chain, page_from}
use Rattle.incr_file.specs.Plan.{has_block, listed_in, plan_at, IsPlan}

-- a head that was written is read as it was, whatever blocks stand behind it
abbrev pub WrittenHeadsAreRead : Type 0
WrittenHeadsAreRead = (head : IncrHead) (body : List ℕ) → IsHead head
    → HoldsHead (head_bytes head ++ body) (file_size (length head.blocks))
    × HeadAnswers (head_bytes head ++ body) (file_size (length head.blocks)) (Ok (view_of head))

-- and bytes that are read as a head begin with its text
abbrev pub ReadHeadsAreWritten : Type 0
ReadHeadsAreWritten = (bytes : List ℕ) (file : ℕ) (view : HeadView) → IsBytes bytes
    → HoldsHead bytes file → HeadAnswers bytes file (Ok view)
    → (body : List ℕ) × (bytes ≡ fields_bytes view.head ++ body)

-- two answers on the same bytes are one, where memory suffices
abbrev pub HeadsHaveOneAnswer : Type 0
HeadsHaveOneAnswer = (bytes : List ℕ) (file : ℕ) (a b : Result HeadView HeadFault)
    → HeadAnswers bytes file a → HeadAnswers bytes file b → a ≢ Err NoMemory → b ≢ Err NoMemory
    → a ≡ b

-- a file of a head and of pages is read as these
abbrev pub WrittenFilesAreRead : Type 0
WrittenFilesAreRead = (head : IncrHead) (pages : ForkPages) → IsHead head
    → ((i : ℕ) (page : List ℕ) → slice_get pages i ≡ Some page → length page ≡ page_size)
    → part_in (head_bytes head ++ pages_bytes pages) ≡ Part head pages

-- a block asked of forms that are complete is the page at its origin
abbrev pub OriginsAreRight : Type 0
OriginsAreRight = (forms : List Form) (block : ℕ) → AreComplete forms
    → block_in_chain forms block ≡ (origin_in_chain forms block >>= page_from forms)

-- the head of a plan may be written, and its blocks are planned ones
abbrev pub PlannedHeadsAreWritten : Type 0
PlannedHeadsAreWritten = (relseg first count : ℕ) (limit : Option ℕ) (blocks : List ℕ)
    (known : Bool) → IsRelseg relseg → count ≤ relseg → IsStrictlyIncreasing blocks
    → IsPlan count (plan_at relseg first count limit blocks known)

-- a plan lists a block of the segment exactly where it is planned and listed of the fork
abbrev pub PlannedHeadsListAll : Type 0
PlannedHeadsListAll = (first count : ℕ) (blocks : List ℕ) (block : ℕ)
    → has_block (listed_in first count blocks) block
    ≡ (nat_lt block count && has_block blocks (first + block))
