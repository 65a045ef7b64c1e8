-- How places, segment files and the files of forks are named.
use Rattle.std.specs.Prelude.{◌≡◌, ℕ, ◌+◌, ◌*◌, ◌/◌, ◌%◌, ◌^◌, ◌<◌, ◌≤◌, Bool, true, false, List, [], ◌∷◌, ◌++◌, codes, ◌==◌, if◌then◌else◌}
use Rattle.std.specs.Fmt.{digits, decimal}
use Rattle.std.specs.Str.Parse.{digits_value}
use Rattle.lsn_core.specs.text_numbers.Numbers.{is_hex_number}
use Rattle.lsn_core.specs.declared.ids.ForkKind.{ForkKind}
use Rattle.lsn_core.specs.declared.ids.ForkKind.TheVariants.{Main, Init}
use Rattle.lsn_core.specs.declared.ids.ForkId.{ForkId}
use Rattle.lsn_core.specs.Segment.{segment_bytes}
pub use Rattle.lsn_core.specs.text_numbers.Numbers.{eight_digits}

-- an LSN as PostgreSQL prints it (pg_lsn type)
abbrev pub lsn_bytes : ℕ → List ℕ
lsn_bytes at = digits 16 true (at / 2 ^ 32) ++ (47 ∷ digits 16 true (at % 2 ^ 32))

-- a text of an LSN: 1 to 8 hexadecimal digits in either case on each side of a slash
pub record IsLsnText (text : List ℕ) (at : ℕ) : Type 0 where
  pub high : List ℕ
  pub low : List ℕ
  pub parts : text ≡ high ++ (47 ∷ low)
  pub high_digits : is_hex_number high ≡ true
  pub low_digits : is_hex_number low ≡ true
  pub value : at ≡ digits_value 16 high * 2 ^ 32 + digits_value 16 low

-- the number of the segment that has a place, by the segment size in MiB
abbrev pub segment_number : ℕ → ℕ → ℕ
segment_number at mib = at / segment_bytes mib

-- how many segments have one middle group in their names
abbrev pub per_group : ℕ → ℕ
per_group mib = 2 ^ 32 / segment_bytes mib

-- a segment's number in two groups of eight digits
abbrev pub number_groups : ℕ → ℕ → List ℕ
number_groups number mib =
    eight_digits (number / per_group mib) ++ eight_digits (number % per_group mib)

-- the name of a segment file of timeline 1 (WAL Internals), by its number and the size in MiB
abbrev pub segment_name_bytes : ℕ → ℕ → List ℕ
segment_name_bytes number mib = codes "00000001" ++ number_groups number mib

-- the same of any timeline
abbrev pub segment_file_bytes : ℕ → ℕ → ℕ → List ℕ
segment_file_bytes timeline number mib = eight_digits timeline ++ number_groups number mib

-- a timeline and a number that stand in the name of a segment file
pub record HasSegmentName (timeline number mib : ℕ) : Type 0 where
  pub timeline_fits : timeline < 2 ^ 32
  pub number_fits : number < 2 ^ 32 * per_group mib

-- no segment file has this name
abbrev pub NamesNoSegment : List ℕ → ℕ → Type 0
NamesNoSegment name mib = (timeline number : ℕ) → HasSegmentName timeline number mib
    → name ≡ segment_file_bytes timeline number mib → ⊥

abbrev pub file_prefix : Bool → List ℕ
file_prefix true = codes "INCREMENTAL."
file_prefix false = []

abbrev pub kind_suffix : ForkKind → List ℕ
kind_suffix Main = []
kind_suffix Init = codes "_init"

abbrev pub segment_suffix : ℕ → List ℕ
segment_suffix seg = if seg == 0 then [] else (46 ∷ decimal seg)

-- the name of a segment file of a fork, plain, behind its relation's number
abbrev pub file_tail : ForkKind → ℕ → List ℕ
file_tail kind seg = kind_suffix kind ++ segment_suffix seg

abbrev pub plain_name : ℕ → ForkKind → ℕ → List ℕ
plain_name rel kind seg = decimal rel ++ file_tail kind seg

abbrev pub file_name : Bool → ℕ → ForkKind → ℕ → List ℕ
file_name incr rel kind seg = file_prefix incr ++ plain_name rel kind seg

-- the path of a segment file of a fork (Database File Layout), plain or incremental
abbrev pub fork_path_bytes : ForkId → ℕ → Bool → List ℕ
fork_path_bytes fork seg incr =
    codes "base/" ++ (decimal fork.rel.db ++ (47 ∷ file_name incr fork.rel.rel fork.kind seg))

-- a fork and a segment of it that have a path: the relation's numbers are 1 to 2^32 - 1, the
-- segment's 0 to 2^32 - 1
pub record IsNamed (fork : ForkId) (seg : ℕ) : Type 0 where
  pub some_db : 1 ≤ fork.rel.db
  pub db_fits : fork.rel.db < 2 ^ 32
  pub some_rel : 1 ≤ fork.rel.rel
  pub rel_fits : fork.rel.rel < 2 ^ 32
  pub seg_fits : seg < 2 ^ 32

-- no fork has this path
abbrev pub NamesNoFork : List ℕ → Type 0
NamesNoFork path = (fork : ForkId) (seg : ℕ) (incr : Bool) → IsNamed fork seg
    → path ≡ fork_path_bytes fork seg incr → ⊥
