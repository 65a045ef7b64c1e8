-- A segment file of a fork in several consecutive incremental backups, as one file.
use Rattle.std.specs.Prelude.{ℕ, ◌||◌, min, Bool, true, false, List, [], ◌∷◌, ◌++◌, map, nat_le, Option, Some, None, if◌then◌else◌}
use Rattle.std.specs.List.{filter, range_with_len}
use Rattle.std.specs.Option.{unwrap_or, is_some}
use Rattle.lsn_core.specs.byte_words.Pieces.{zero_page}
use Rattle.incr_file.specs.declared.head.IncrHead.{IncrHead}
use Rattle.incr_file.specs.Head.{head_with, head_bytes}
use Rattle.incr_file.specs.Form.{Form, Absent, Plain, Part, pages_bytes, block_in_chain, rebuilt_length, rebuilt_pages}

-- Forms of one file stand with the newest one first.

-- the file is plain in a member, and incremental in all newer ones
abbrev pub rests_on_plain : List Form → Bool
rests_on_plain [] = false
rests_on_plain (Absent ∷ older) = false
rests_on_plain (Plain pages ∷ older) = true
rests_on_plain (Part head pages ∷ older) = rests_on_plain older

-- the least of a number and of the truncation lengths of the newest forms, down to the first one
-- that isn't incremental
abbrev pub least_length : ℕ → List Form → ℕ
least_length least [] = least
least_length least (Absent ∷ older) = least
least_length least (Plain pages ∷ older) = least
least_length least (Part head pages ∷ older) = least_length (min least head.truncation) older

-- the blocks that a merged file has, of so many: those that the series answers, and each from the
-- least truncation length on
abbrev pub merged_blocks : List Form → ℕ → ℕ → List ℕ
merged_blocks series least count =
    filter (λ b. is_some (block_in_chain series b) || nat_le least b) (range_with_len 0 count)

-- the pages of such blocks; a block that the series doesn't answer is zeros
abbrev pub merged_pages : List Form → List ℕ → List (List ℕ)
merged_pages series blocks = map (λ b. unwrap_or (block_in_chain series b) zero_page) blocks

abbrev pub merged_part : List Form → ℕ → ℕ → Form
merged_part series least count =
    Part (head_with least (merged_blocks series least count))
    (merged_pages series (merged_blocks series least count))

-- one form in place of several: the file is rebuilt where it rests on a plain one, and otherwise
-- has what the series says of it
abbrev pub merged_form : List Form → Form
merged_form [] = Absent
merged_form (Absent ∷ older) = Absent
merged_form (Plain pages ∷ older) = Plain pages
merged_form (Part head pages ∷ older) =
    if rests_on_plain older then Plain (rebuilt_pages (Part head pages ∷ older) head)
    else merged_part (Part head pages ∷ older) (least_length head.truncation older)
    (rebuilt_length head)

-- what a file of a form holds, where it is there
abbrev pub form_bytes : Form → Option (List ℕ)
form_bytes Absent = None
form_bytes (Plain pages) = Some (pages_bytes pages)
form_bytes (Part head pages) = Some (head_bytes head ++ pages_bytes pages)

-- ---- what the checks of a series give

-- the file is there in all members down to a plain form, or in all
abbrev pub AreHeld : List Form → Type 0
AreHeld [] = Unit {0}
AreHeld (Absent ∷ older) = ⊥
AreHeld (Plain pages ∷ older) = Unit {0}
AreHeld (Part head pages ∷ older) = AreHeld older

-- where the newest form is incremental, the file is there in the one before, and so on
abbrev pub HasNoGap : List Form → Type 0
HasNoGap [] = Unit {0}
HasNoGap (Absent ∷ older) = Unit {0}
HasNoGap (Plain pages ∷ older) = Unit {0}
HasNoGap (Part head pages ∷ older) = AreHeld older
