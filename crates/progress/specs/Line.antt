-- The text of a line.
use Rattle.std.specs.Prelude.{ℕ, ◌/◌, ◌^◌, List, ◌++◌, codes}
use Rattle.std.specs.Fmt.{decimal}
use Rattle.progress.specs.declared.moved.Moved.{Moved}

-- how many whole MiB are in so many bytes
abbrev pub mib : ℕ → ℕ
mib bytes = bytes / 2 ^ 20

-- what was moved, in words
abbrev pub amounts : Moved → List ℕ
amounts moved =
    decimal (mib moved.read) ++ (codes " MiB read, "
    ++ (decimal (mib moved.written) ++ codes " MiB written"))

-- the area at work, what it moved so far, and what all areas did
abbrev pub line : List ℕ → Moved → Moved → List ℕ
line area own all =
    codes "pgbackup: " ++ (area ++ (codes ": " ++ (amounts own ++ (codes "; in all "
    ++ amounts all))))
