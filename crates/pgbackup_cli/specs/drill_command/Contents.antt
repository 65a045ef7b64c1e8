-- The sum by which restored pages are compared (profile).
use Rattle.std.specs.Prelude.{◌≡◌, ℕ, List, ◌++◌, drop, replicate}
use Rattle.std.specs.List.{flat_map}
use Rattle.std.specs.FinMap.{entries}
use Rattle.sha2.specs.Sha256.{sha256}
use Rattle.hex.specs.Hex.{encode_lower}
use Rattle.lsn_core.specs.Files.{Files}
use Rattle.lsn_core.specs.Store.{Store, ForkPages}
use Rattle.rel_files.specs.Forks.{Holds, HasWholePages}

-- a page without its LSN, which is where the entry ends that wrote it last: bytes 0 to 7 are zeros
abbrev pub without_lsn : List ℕ → List ℕ
without_lsn page = replicate 8 0 ++ drop 8 page

-- the pages of a fork so, and those of all forks, in order
abbrev pub fork_contents : ForkPages → List ℕ
fork_contents pages = flat_map without_lsn pages

abbrev pub contents_of : Store → List ℕ
contents_of store = flat_map (λ e. fork_contents e.1) (entries store)

-- their SHA-256, in lower-case hexadecimal
abbrev pub contents_sum : Store → List ℕ
contents_sum store = encode_lower (sha256 (contents_of store))

-- the sum of the store that files hold, at so many blocks of a fork a file
abbrev pub IsSumOf : ℕ → Files → List ℕ → Type 0
IsSumOf relseg files sum =
    (store : Store) → Holds relseg files store → HasWholePages store → sum ≡ contents_sum store
