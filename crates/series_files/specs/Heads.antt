-- The head of the segment file that several consecutive backups are merged to.
use Rattle.std.specs.Prelude.{ℕ, List}
use Rattle.lsn_core.specs.Sizes.{most_relseg}
use Rattle.incr_file.specs.declared.head.IncrHead.{IncrHead}
use Rattle.incr_file.specs.Form.{Form}
use Rattle.incr_file.specs.Head.{head_with}
use Rattle.merged_forms.specs.Merged.{least_length, merged_blocks}

-- of forms, the newest one first, in a merged file of so many blocks
abbrev pub merged_head_of : List Form → ℕ → IncrHead
merged_head_of forms count =
    head_with (least_length most_relseg forms)
    (merged_blocks forms (least_length most_relseg forms) count)
