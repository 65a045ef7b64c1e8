-- What private functions that hash pages answer: no public contract cites these.
use Rattle.std.specs.Prelude.{◌≡◌, ℕ, List, ◌++◌, length, Some}
use Rattle.std.specs.FinMap.{get}
use Rattle.sha2.specs.Hashers.{Holds256}
use Rattle.sha2.specs.declared.Sha256.{Sha256}
use Rattle.lsn_core.specs.declared.ids.BlockId.{BlockId}
use Rattle.lsn_core.specs.declared.ids.ForkLen.{ForkLen}
use Rattle.lsn_core.specs.Blocks.{block_of}
use Rattle.lsn_core.specs.Store.{Store, ForkPages}
use Rattle.pgbackup_cli.specs.drill_command.Contents.{without_lsn, fork_contents, contents_of, contents_sum}

-- these bytes were hashed behind what was hashed before
abbrev pub Hashes : List ℕ → Sha256 → Sha256 → Type 0
Hashes bytes before now = (m : List ℕ) → Holds256 before m → Holds256 now (m ++ bytes)

-- the page at a block of a store that is shown was hashed
abbrev pub HashesBlock : (Store → Type 0) → BlockId → Sha256 → Sha256 → Type 0
HashesBlock shown at before now =
    (s : Store) (page : List ℕ) → shown s → block_of s at.fork at.block ≡ Some page
    → Hashes (without_lsn page) before now

-- so were the pages of a fork of so many, and all
abbrev pub HashesFork : (Store → Type 0) → ForkLen → Sha256 → Sha256 → Type 0
HashesFork shown len before now =
    (s : Store) (pages : ForkPages) → shown s → get s len.fork ≡ Some pages
    → len.blocks ≡ length pages → Hashes (fork_contents pages) before now

abbrev pub HashesAll : (Store → Type 0) → Sha256 → Sha256 → Type 0
HashesAll shown before now = (s : Store) → shown s → Hashes (contents_of s) before now

-- a text is the sum of the pages of a store that is shown
abbrev pub IsShownSum : (Store → Type 0) → List ℕ → Type 0
IsShownSum shown sum = (s : Store) → shown s → sum ≡ contents_sum s
