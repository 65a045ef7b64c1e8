-- Two directories whose manifests end in one sum hold the same, or two texts that differ have one
-- sum.
use Rattle.std.specs.Prelude.{◌≡◌, ◌≢◌, ◌⊎◌, ℕ, true, List, [], ◌∷◌, codes, nat_eq, Some}
use Rattle.std.specs.List.{starts_with}
use Rattle.std.specs.FinMap.{get}
use Rattle.lsn_core.specs.Files.{Files}
use Rattle.manifest.specs.Lines.{IsLined}
use Rattle.manifest.specs.declared.kinds.SumKind.{SumKind}
use Rattle.manifest.specs.declared.kinds.SumKind.TheVariants.{Sha256}
use Rattle.manifest.specs.declared.listing.FileRow.{FileRow}
use Rattle.backup_files.specs.Directory.{manifest_name}
use Rattle.chain_check.specs.Directory.{is_listed, IsAsListed}
use Rattle.file_sums.specs.Sums.{sum_of}
use Rattle.chain_check.specs.declared.member.Member.{Member}

-- two texts that differ have one sum of a kind
pub record Collision (kind : SumKind) (one other : List ℕ) : Type 0 where
  pub differ : one ≢ other
  pub same : sum_of kind one ≡ sum_of kind other

-- a directory's manifest has these lines, and behind them the last one, whose digits, in either
-- case, spell this sum
pub record EndsInSum (files : Files) (lines sum : List ℕ) : Type 0 where
  pub text : List ℕ
  pub there : get files manifest_name ≡ Some text
  pub lined : IsLined text lines sum

-- two directories hold the same, as far as a manifest tells: what it says, what the labels say, and
-- each file but the manifest and those in the folder of the WAL that aren't listed
pub record HoldTheSame (files other : Files) (member also : Member) : Type 0 where
  pub manifest : member.manifest ≡ also.manifest
  pub label : member.label ≡ also.label
  pub same : (name : List ℕ) → name ≢ manifest_name
      → (starts_with nat_eq name (codes "pg_wal/") ≡ true
      → is_listed member.manifest.files name ≡ true)
      → get files name ≡ get other name

-- the files of one of some rows differ, and have one sum
abbrev pub RowCollides : Files → Files → FileRow → Type 0
RowCollides files other row =
    (one : List ℕ) × (more : List ℕ) × (get files row.path ≡ Some one)
    × (get other row.path ≡ Some more) × Collision row.kind one more

abbrev pub RowsCollide : Files → Files → List FileRow → Type 0
RowsCollide files other [] = ⊥
RowsCollide files other (row ∷ rows) =
    RowCollides files other row ⊎ RowsCollide files other rows

-- so a directory that is as listed, and whose manifest ends in the sum in which that of another one
-- ends, holds what the other one holds, and the manifests have the same lines before the last one,
-- which may tell the sum in digits of another case; or else sums match by chance: those of the
-- manifests' lines, or those of two files of a row
abbrev pub OneSumIsOneDirectory : Type 0
OneSumIsOneDirectory =
    (files other : Files) (member also : Member) (lines more sum : List ℕ)
    → EndsInSum files lines sum → EndsInSum other more sum
    → IsAsListed files member → IsAsListed other also
    → ((lines ≡ more) × HoldTheSame files other member also)
    ⊎ (Collision Sha256 lines more ⊎ RowsCollide files other member.manifest.files)
