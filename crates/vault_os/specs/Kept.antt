-- Which files an area keeps open.
use Rattle.std.specs.Prelude.{nat_le, List, length, if◌then◌else◌}
use Rattle.std.specs.List.{remove}
use Rattle.vault_os.specs.declared.open_files.OpenFile.{OpenFile}

-- the open files without the first, where there are four
abbrev pub with_room : {F : Type 0} → List (OpenFile F) → List (OpenFile F)
with_room files = if nat_le 4 (length files) then remove files 0 else files
