-- That nothing is wrong exactly where a directory is as its manifest lists it.
use Rattle.std.proofs.Common.{eqb-true, ◌≡◌, ℕ, ◌==◌, Bool, true, false, not, List, [], ◌∷◌, length, Option, Some, None, Result, Ok, Err, if◌then◌else◌, refl, sym, ap, subst, ◌∙◌}
use Rattle.std.specs.FinMap.{get}
use Rattle.std.specs.List.{AllByRecursion}
use Rattle.std.specs.Option.{option_or}
use Rattle.std.proofs.lemmas.Bool.{eq-eqb}
use Rattle.std.proofs.lemmas.Slice.Eq.{bytes_eq-Decides}
use Rattle.hex.specs.Hex.{decode_of}
use Rattle.hex.specs.declared.error.FromHexError.{FromHexError}
use Rattle.lsn_core.specs.Files.{Files}
use Rattle.backup_label.specs.declared.label.Label.{Label}
use Rattle.manifest.specs.Listing.{Listing}
use Rattle.manifest.specs.declared.listing.FileRow.{FileRow}
use Rattle.file_sums.specs.Sums.{sum_of, is_decoded, has_sum}
use Rattle.backup_files.specs.Directory.{label_name}
use Rattle.chain_check.specs.Directory.{HasManifest, IsRowAsListed, is_listed, IsAsListed}
use Rattle.chain_check.specs.Refusals.{file_fault, row_fault, rows_fault, label_row_fault, extra_fault, listing_fault}
use Rattle.chain_check.specs.Inside.{ListedAnswer}
use Rattle.chain_check.specs.declared.fault.ChainFault.{ChainFault}
use Rattle.chain_check.specs.declared.fault.ChainFault.TheVariants.{FileMissing, FileSize, FileSum}
use Rattle.chain_check.specs.declared.member.Member.{Member}
use Rattle.chain_check.proofs.Others.{none_other, no_extra}
use Rattle.chain_check.proofs.Turns.{neither, both_none, passes, passed}

-- ---- the file of a row

decoded : (sum : List ℕ) (r : Result (List ℕ) FromHexError) → is_decoded sum r ≡ true → r ≡ Ok sum
decoded sum (Ok bytes) e = ap (λ (b : List ℕ). Ok b) ((bytes_eq-Decides bytes sum).0 e)
decoded sum (Err fault) e = absurd (cc)

is_sum : (sum : List ℕ) (r : Result (List ℕ) FromHexError) → r ≡ Ok sum → is_decoded sum r ≡ true
is_sum sum r e = subst (λ (x : Result (List ℕ) FromHexError). is_decoded sum x ≡ true) (sym e) ((bytes_eq-Decides sum sum).1 refl)

tested : (size sum : Bool) (one other : ChainFault) → (if not size then Some one else if sum then None else Some other) ≡ None → (size ≡ true) × (sum ≡ true)
tested true true one other e = (refl, refl)
tested true false one other e = absurd (cc)
tested false sum one other e = absurd (cc)

none_wrong : (size sum : Bool) (one other : ChainFault) → size ≡ true → sum ≡ true → (if not size then Some one else if sum then None else Some other) ≡ None
none_wrong true true one other e f = refl
none_wrong true false one other e f = absurd (cc)
none_wrong false sum one other e f = absurd (cc)

row_is : (files : Files) (row : FileRow) (o : Option (List ℕ)) → get files row.path ≡ o → file_fault row o ≡ None → IsRowAsListed files row
row_is files row None there e = absurd (cc)
row_is files row (Some bytes) there e =
    let is = tested (length bytes == row.size) (has_sum row bytes) (FileSize row.path (length bytes) row.size) (FileSum row.path) e in
    record { bytes = bytes; there = there; size = eqb-true _ _ is.0; summed = decoded (sum_of row.kind bytes) (decode_of row.sum) is.1 }

row_none : (files : Files) (row : FileRow) → IsRowAsListed files row → row_fault files row ≡ None
row_none files row is =
    ap (λ (o : Option (List ℕ)). file_fault row o) is.there ∙ none_wrong (length is.bytes == row.size) (has_sum row is.bytes) (FileSize row.path (length is.bytes) row.size) (FileSum row.path) (eq-eqb _ _ is.size) (is_sum (sum_of row.kind is.bytes) (decode_of row.sum) is.summed)

rows_are : (files : Files) (rows : List FileRow) → rows_fault files rows ≡ None → AllByRecursion (IsRowAsListed files) rows
rows_are files [] e = tt
rows_are files (row ∷ rows) e =
    let both = neither (row_fault files row) (rows_fault files rows) e in
    (row_is files row (get files row.path) refl both.0, rows_are files rows both.1)

rows_none : (files : Files) (rows : List FileRow) → AllByRecursion (IsRowAsListed files) rows → rows_fault files rows ≡ None
rows_none files [] all = refl
rows_none files (row ∷ rows) all = both_none (row_fault files row) (rows_fault files rows) (row_none files row all.0) (rows_none files rows all.1)

-- ---- the whole

pub as_listed : (files : Files) (name : List ℕ) (label : Label) (m : Listing) → HasManifest files m → ListedAnswer files m (Ok label) → IsAsListed files (record { name = name; label = label; manifest = m })
as_listed files name label m read is =
    let first = neither (rows_fault files m.files) (option_or (label_row_fault m.files) (extra_fault files m.files)) is.0 in
    let rest = neither (label_row_fault m.files) (extra_fault files m.files) first.1 in
    record {
      manifest = read;
      rows = rows_are files m.files first.0;
      label_row = passes (is_listed m.files label_name) (FileMissing label_name) rest.0;
      others = none_other files m.files rest.1;
      label = is.1;
      forms = is.2;
    }

pub no_listing_fault : (files : Files) (member : Member) → IsAsListed files member → listing_fault files member.manifest.files ≡ None
no_listing_fault files member is =
    let rows = member.manifest.files in
    both_none (rows_fault files rows) (option_or (label_row_fault rows) (extra_fault files rows)) (rows_none files rows is.rows)
    (both_none (label_row_fault rows) (extra_fault files rows) (passed (is_listed rows label_name) (FileMissing label_name) is.label_row) (no_extra files rows is.others))
