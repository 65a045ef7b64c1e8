-- What sending the files of an incremental backup answers and leaves.
use Rattle.std.specs.Prelude.{◌≡◌, ℕ, ◌+◌, ◌^◌, ◌<◌, Bool, true, List, [], ◌∷◌, ◌++◌, map, length, Option}
use Rattle.std.specs.List.{AllByRecursion}
use Rattle.std.specs.Option.{option_map}
use Rattle.sha2.specs.Sha256.{sha256}
use Rattle.sha2.specs.Hashers.{Holds256}
use Rattle.sha2.specs.declared.Sha256.{Sha256}
use Rattle.lsn_core.specs.Files.{Files}
use Rattle.lsn_core.specs.Names.{IsNamed, fork_path_bytes}
use Rattle.lsn_core.specs.Store.{ForkPages}
use Rattle.lsn_core.specs.declared.ids.ForkId.{ForkId}
use Rattle.lsn_core.specs.declared.ids.ForkLen.{ForkLen}
use Rattle.vault.specs.Area.{after_write}
use Rattle.history.specs.Entry.{Entry}
use Rattle.manifest.specs.declared.listing.FileRow.{FileRow}
use Rattle.incr_file.specs.declared.head.IncrHead.{IncrHead}
use Rattle.incr_file.specs.Head.{head_bytes}
use Rattle.backup_sending.specs.declared.basis.Basis.{Basis}
use Rattle.backup_files.specs.Area.{Lacks, with_file}
use Rattle.backup_sending.specs.Inside.{IsPageCopied, PutsFiles, ListsForks, page_bytes, HoldsFiles}
use Rattle.backup_sending.specs.Sent.{SegmentPlan, SentFile, AreFor, blocks_sent, file_of, list_plans}

-- ---- listed blocks

-- a page that was copied at a moment at the latest when these entries were seen; it is whole
abbrev pub IsPageSeen : Type 0 → List Entry → ℕ → ForkId → ℕ → List ℕ → Type 0
IsPageSeen tells seen from fork block page =
    (length page ≡ 8192) × (tells → IsPageCopied seen from fork block page)

-- pages of blocks, counted from a first one
abbrev pub ArePagesOf : Type 0 → List Entry → ℕ → ForkId → ℕ → List ℕ → ForkPages → Type 0
ArePagesOf tells seen from fork first blocks pages =
    AreFor (λ block page. IsPageSeen tells seen from fork (first + block) page) blocks pages

-- their bytes were added to others
pub record AddsBlocks (tells : Type 0) (seen : List Entry) (from : ℕ) (fork : ForkId) (first : ℕ)
    (blocks old new : List ℕ) : Type 0 where
  pub pages : ForkPages
  pub are : ArePagesOf tells seen from fork first blocks pages
  pub grown : new ≡ old ++ page_bytes pages

-- their bytes were written at a place of a file, and hashed behind what the hasher held
pub record WritesBlocks (tells : Type 0) (seen : List Entry) (from : ℕ) (fork : ForkId)
    (first : ℕ) (blocks : List ℕ) (path : List ℕ) (at : ℕ) (piece : List ℕ)
    (old new : Option Files) (before now : Sha256) : Type 0 where
  pub pages : ForkPages
  pub are : ArePagesOf tells seen from fork first blocks pages
  pub piece_is : piece ≡ page_bytes pages
  pub written : new ≡ option_map (after_write path at piece) old
  pub hashed : (m : List ℕ) → Holds256 before m → Holds256 now (m ++ piece)

-- a file that wasn't there holds a front and their bytes, and its SHA-256 is told
pub record WritesPart (tells : Type 0) (seen : List Entry) (from : ℕ) (fork : ForkId) (first : ℕ)
    (front blocks path : List ℕ) (old new : Option Files) (sum : List ℕ) : Type 0 where
  pub pages : ForkPages
  pub are : ArePagesOf tells seen from fork first blocks pages
  pub stands : new ≡ with_file path (front ++ page_bytes pages) old
  pub sum_is : sum ≡ sha256 (front ++ page_bytes pages)

-- ---- files of forks

-- a file holds just the blocks that its plan sends
abbrev pub IsSeenAs : Type 0 → List Entry → ℕ → SentFile → Type 0
IsSeenAs tells seen from f =
    ArePagesOf tells seen from f.what.fork f.what.first (blocks_sent f.what.count f.what.plan)
    f.pages

-- files were sent by these plans, and listed
pub record SendsFiles (tells : Type 0) (seen : List Entry) (from : ℕ) (plans : List SegmentPlan)
    (modified : List ℕ) (old new : Option Files) (before rows : List FileRow) : Type 0 where
  pub files : List SentFile
  pub planned_are : map (λ f. f.what) files ≡ plans
  pub sent : AllByRecursion (IsSeenAs tells seen from) files
  pub fit : AllByRecursion (λ f. length (file_of f).1 < 2 ^ 64) files
  pub puts : PutsFiles modified (map file_of files) old new before rows

-- an incremental file of a segment of a fork was put into an area, and listed
pub record SendsPart (tells : Type 0) (seen : List Entry) (from : ℕ) (fork : ForkId)
    (seg first : ℕ) (head : IncrHead) (modified : List ℕ) (old new : Option Files)
    (before rows : List FileRow) : Type 0 where
  pub pages : ForkPages
  pub are : ArePagesOf tells seen from fork first head.blocks pages
  pub fits : length (head_bytes head ++ page_bytes pages) < 2 ^ 64
  pub puts : PutsFiles modified
      ((fork_path_bytes fork seg true, head_bytes head ++ page_bytes pages) ∷ [])
      old new before rows

-- the files of a list of forks, whose numbers fit, were sent and listed
pub record SendsList (tells : Type 0) (seen : List Entry) (from : ℕ) (b : Basis)
    (list : List ForkLen) (modified : List ℕ) (old new : Option Files) (rows : List FileRow)
    : Type 0 where
  pub named : AllByRecursion (λ l. IsNamed l.fork l.blocks) list
  pub sends : SendsFiles tells seen from (list_plans b list) modified old new [] rows

-- an area has no segment file of a fork, in neither form
abbrev pub LacksForms : Option Files → ForkId → Type 0
LacksForms files fork = (seg : ℕ) (incr : Bool) → IsNamed fork seg
    → Lacks files (fork_path_bytes fork seg incr)

-- the files of all forks that were listed, and no others, stand in an area, and are listed
pub record SendsStore (tells : Type 0) (seen : List Entry) (from : ℕ) (b : Basis)
    (modified : List ℕ) (files : Option Files) (rows : List FileRow) : Type 0 where
  pub list : List ForkLen
  pub lists : ListsForks tells seen from list
  pub named : AllByRecursion (λ l. IsNamed l.fork l.blocks) list
  pub put : List SentFile
  pub planned_are : map (λ f. f.what) put ≡ list_plans b list
  pub sent : AllByRecursion (IsSeenAs tells seen from) put
  pub held : HoldsFiles (map file_of put) modified files rows
