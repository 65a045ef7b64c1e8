-- What an area gives for a block that has no frame.
use Rattle.std.specs.Prelude.{ℕ, false, ◌*◌, ◌/◌, ◌%◌, List, take, drop, Option, Some, None}
use Rattle.lsn_core.specs.byte_words.Pieces.{zero_page}
use Rattle.lsn_core.specs.declared.ids.BlockId.{BlockId}
use Rattle.lsn_core.specs.Files.{Files}
use Rattle.lsn_core.specs.Names.{fork_path_bytes}
use Rattle.vault.specs.Area.{bytes_of}

-- the bytes at its place; an area that doesn't tell its files gives zeros
abbrev pub told_page : ℕ → Option Files → BlockId → List ℕ
told_page relseg None at = zero_page
told_page relseg (Some files) at =
    take 8192 (drop (at.block % relseg * 8192)
    (bytes_of files (fork_path_bytes at.fork (at.block / relseg) false)))
