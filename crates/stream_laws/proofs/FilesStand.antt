-- What a stream's files hold.
use Rattle.std.proofs.Common.{◌≡◌, ℕ, Bool, true, false, cond, List, map, Some, sym, ap, ◌∙◌, arith}
use Rattle.std.specs.List.{AllByRecursion, list_any, range_with_len}
use Rattle.std.specs.FinMap.{get, empty, get-empty}
use Rattle.std.specs.Ordering.{nat_cmp}
use Rattle.std.specs.Cmp.Lexicographic.{slice_cmp}
use Rattle.std.proofs.lemmas.Bool.{false_from_ne_true}
use Rattle.lsn_core.proofs.AnyAll.{all_range, any_range, range_any}
use Rattle.lsn_core.proofs.StoreFiles.{get_with_files, same_name, name_itself, names_tie}
use Rattle.lsn_core.specs.Names.{segment_name_bytes}
use Rattle.wal_archive.proofs.Names.{names_differ}
use Rattle.stream_laws.specs.Streams.{segments_begun, segment_part}
use Rattle.stream_laws.specs.Held.{FilesStand, NoneElse}

abbrev Named : Type 0
Named = List ℕ × List ℕ

abbrev file_at : ℕ → List ℕ → ℕ → Named
file_at mib bytes seg = (segment_name_bytes seg mib, segment_part mib bytes seg)

pub files_stand : FilesStand
files_stand mib s bytes low high =
    let count : ℕ = segments_begun mib bytes in
    let name : List ℕ = segment_name_bytes s mib in
    let part : List ℕ = segment_part mib bytes s in
    let own : List Named = map (λ seg. (segment_name_bytes seg mib, segment_part mib bytes seg)) (range_with_len 1 count) in
    let all : AllByRecursion (λ f. name ≡ f.0 → f.1 ≡ part) own =
    all_range (λ (f : Named). name ≡ f.0 → f.1 ≡ part) (λ seg. (segment_name_bytes seg mib, segment_part mib bytes seg)) 1 count
    (λ k least less e. ap (segment_part mib bytes) (names_differ mib k s (omega (arith, less)) (omega (arith, high)) (sym e))) in
    let found : list_any (λ f. same_name name f.0) own ≡ true =
    any_range (λ (f : Named). same_name name f.0) (λ seg. (segment_name_bytes seg mib, segment_part mib bytes seg)) 1 count s low (omega (arith, high)) (name_itself name) in
    get_with_files empty name part own all
    ∙ ap (λ (b : Bool). cond b (Some part) (get {R = slice_cmp nat_cmp} empty name)) found

pub none_else : NoneElse
none_else mib bytes name never =
    let count : ℕ = segments_begun mib bytes in
    let own : List Named = map (λ seg. (segment_name_bytes seg mib, segment_part mib bytes seg)) (range_with_len 1 count) in
    let all : AllByRecursion (λ f. name ≡ f.0 → f.1 ≡ name) own =
    all_range (λ (f : Named). name ≡ f.0 → f.1 ≡ name) (λ seg. (segment_name_bytes seg mib, segment_part mib bytes seg)) 1 count
    (λ k least less e. absurd (never k least (omega (arith, less)) e)) in
    let none : list_any (λ f. same_name name f.0) own ≡ false =
    false_from_ne_true (list_any (λ f. same_name name f.0) own) (λ any.
    let at = range_any (λ (f : Named). same_name name f.0) (λ seg. (segment_name_bytes seg mib, segment_part mib bytes seg)) 1 count any in
    let most = at.most in
    never at.at at.least (omega (arith, most)) (names_tie name (segment_name_bytes at.at mib) at.passes)) in
    get_with_files empty name name own all
    ∙ (ap (λ (b : Bool). cond b (Some name) (get {R = slice_cmp nat_cmp} empty name)) none ∙ get-empty (slice_cmp nat_cmp) name)
