-- The text of a manifest as JSON is read: one text, that ends its lines and is UTF-8.
use Rattle.std.proofs.Common.{◌≡◌, ◌<◌, ◌^◌, ℕ, true, List, [], ◌∷◌, ◌++◌, codes, decimal, Option, Some, None, IfSome, All, refl, sym, ap, ◌∙◌, append_assoc}
use Rattle.std.specs.Str.{IsUtf8}
use Rattle.std.proofs.lemmas.Fmt.{IsAscii-decimal}
use Rattle.std.proofs.lemmas.List.Elements.{All-head, All-tail}
use Rattle.std.proofs.lemmas.Str.{IsUtf8-append, IsUtf8-from_ascii}
use Rattle.sha2.specs.Sha256.{sha256}
use Rattle.hex.specs.Hex.{encode_lower}
use Rattle.json.specs.Print.{quoted, escape}
use Rattle.json.proofs.Printed.Utf8.{are_ascii, IsUtf8-are_ascii, IsUtf8-quoted}
use Rattle.lsn_core.specs.Names.{lsn_bytes}
use Rattle.manifest.specs.Kinds.{kind_name}
use Rattle.manifest.specs.Laws.{HasSmallNumbers}
use Rattle.manifest.specs.Lines.{line_front, line_back, EndsLine}
use Rattle.manifest.specs.Listing.{Listing}
use Rattle.manifest.specs.Text.{line_of, row_text, rows_text, row_end, head_text, head_of, tail_of, last_line, lines_text, manifest_text, IsWritableRow, IsWritable}
use Rattle.manifest.specs.declared.kinds.SumKind.{SumKind}
use Rattle.manifest.specs.declared.kinds.SumKind.TheVariants.{Sha224, Sha256, Sha384, Sha512}
use Rattle.manifest.specs.declared.listing.FileRow.{FileRow}
use Rattle.manifest.proofs.Lexed.{top_text}
use Rattle.manifest.proofs.Texts.{IsUtf8-lsn, IsUtf8-sum, IsUtf8-hex}
use Rattle.manifest.proofs.Digest.{spelled}

-- the lines before and behind those of the files, with more behind them
head-then : (system : ℕ) (r : List ℕ) → head_text system ++ r ≡ codes "{ \"PostgreSQL-Backup-Manifest-Version\": 2,\n\"System-Identifier\": " ++ (decimal system ++ (codes ",\n\"Files\": [\n" ++ r))
unfolding head_text
head-then system r = rw (append_assoc (decimal system) (codes ",\n\"Files\": [\n") r) refl

tail-then : (start end r : List ℕ) → tail_of start end ++ r ≡ codes "],\n\"WAL-Ranges\": [\n{ \"Timeline\": 1, \"Start-LSN\": " ++ (start ++ (codes ", \"End-LSN\": " ++ (end ++ (codes " }\n],\n" ++ r))))
unfolding tail_of
tail-then start end r = rw (append_assoc start (codes ", \"End-LSN\": " ++ (end ++ codes " }\n],\n")) r, append_assoc end (codes " }\n],\n") r) refl

-- digits that JSON leaves as they are
sum-then : (sum : List ℕ) → escape sum ≡ sum → quoted sum ++ codes "}\n" ≡ 34 ∷ (sum ++ line_back)
sum-then sum plain = rw (plain, append_assoc sum (34 ∷ []) (codes "}\n")) refl

abbrev text_of : ℕ → List FileRow → List ℕ → List ℕ → List ℕ → List ℕ
text_of system rows start end last = (head_text system ++ (rows_text rows ++ tail_of start end)) ++ last

pub text-is : (system : ℕ) (rows : List FileRow) (start end sum : List ℕ) → escape sum ≡ sum
    → text_of system rows (quoted start) (quoted end) (line_front ++ (sum ++ line_back)) ≡ top_text system rows start end sum
text-is system rows start end sum plain =
    let tail = tail_of (quoted start) (quoted end) in
    let last = line_front ++ (sum ++ line_back) in
    append_assoc (head_text system) (rows_text rows ++ tail) last
    ∙ head-then system ((rows_text rows ++ tail) ++ last)
    ∙ rw (append_assoc (rows_text rows) tail last, tail-then (quoted start) (quoted end) last, ← sum-then sum plain) refl

-- ---- the lines end, and the text is UTF-8

ends-append : (front back : List ℕ) → EndsLine back → EndsLine (front ++ back)
ends-append front back h = (front ++ h.0, ap (λ (l : List ℕ). front ++ l) h.1 ∙ sym (append_assoc front h.0 (10 ∷ [])))

ends-tail : (start end : List ℕ) → EndsLine (tail_of start end)
unfolding tail_of
ends-tail start end =
    ends-append (codes "],\n\"WAL-Ranges\": [\n{ \"Timeline\": 1, \"Start-LSN\": ") _ (ends-append start _ (ends-append (codes ", \"End-LSN\": ") _ (ends-append end (codes " }\n],\n") (codes " }\n],", refl))))

pub lines-end : (m : Listing) → EndsLine (lines_text m)
lines-end m = ends-append (head_of m.system) _ (ends-append (rows_text m.files) _ (ends-tail (quoted (lsn_bytes m.start)) (quoted (lsn_bytes m.end))))

plain : (text : List ℕ) → are_ascii text ≡ true → IsUtf8 text
plain text e = IsUtf8-are_ascii text e

utf8-decimal : (n : ℕ) → n < 2 ^ 64 → IsUtf8 (decimal n)
utf8-decimal n small = IsUtf8-from_ascii (decimal n) (IsAscii-decimal n small)

utf8-kind : (kind : SumKind) → IsUtf8 (kind_name kind)
utf8-kind Sha224 = plain _ refl
utf8-kind Sha256 = plain _ refl
utf8-kind Sha384 = plain _ refl
utf8-kind Sha512 = plain _ refl

then : (front back : List ℕ) → IsUtf8 front → IsUtf8 back → IsUtf8 (front ++ back)
then front back f b = IsUtf8-append front back f b

utf8-row : (row : FileRow) → IsWritableRow row → row.size < 2 ^ 64 → IsUtf8 (row_text row)
unfolding line_of
utf8-row row is small =
    then (codes "{ \"Path\": ") _ (plain _ refl) (then (quoted row.path) _ (IsUtf8-quoted row.path is.path)
    (then (codes ", \"Size\": ") _ (plain _ refl) (then (decimal row.size) _ (utf8-decimal row.size small)
    (then (codes ", \"Last-Modified\": ") _ (plain _ refl) (then (quoted row.modified) _ (IsUtf8-quoted row.modified is.modified)
    (then (codes ", \"Checksum-Algorithm\": ") _ (plain _ refl) (then (quoted (kind_name row.kind)) _ (IsUtf8-quoted (kind_name row.kind) (utf8-kind row.kind))
    (then (codes ", \"Checksum\": ") _ (plain _ refl) (then (quoted row.sum) _ (IsUtf8-quoted row.sum (IsUtf8-sum row.kind row.sum is.sum))
    (plain (codes " }") refl))))))))))

utf8-end : (rows : List FileRow) → IsUtf8 (row_end rows)
utf8-end [] = plain _ refl
utf8-end (row ∷ rows) = plain _ refl

utf8-rows : (rows : List FileRow) → All IsWritableRow rows → All (λ row. row.size < 2 ^ 64) rows → IsUtf8 (rows_text rows)
utf8-rows [] is small = plain [] refl
utf8-rows (row ∷ rows) is small =
    then (row_text row) _ (utf8-row row (All-head IsWritableRow row rows is) (All-head (λ r. r.size < 2 ^ 64) row rows small))
    (then (row_end rows) _ (utf8-end rows) (utf8-rows rows (All-tail IsWritableRow row rows is) (All-tail (λ r. r.size < 2 ^ 64) row rows small)))

utf8-head : (system : Option ℕ) → IfSome system (λ n. n < 2 ^ 64) → IsUtf8 (head_of system)
unfolding head_text
utf8-head None small = plain [] refl
utf8-head (Some n) small =
    then (codes "{ \"PostgreSQL-Backup-Manifest-Version\": 2,\n\"System-Identifier\": ") _ (plain _ refl) (then (decimal n) _ (utf8-decimal n small) (plain (codes ",\n\"Files\": [\n") refl))

utf8-tail : (start end : List ℕ) → IsUtf8 start → IsUtf8 end → IsUtf8 (tail_of start end)
unfolding tail_of
utf8-tail start end s e =
    then (codes "],\n\"WAL-Ranges\": [\n{ \"Timeline\": 1, \"Start-LSN\": ") _ (plain _ refl) (then start _ s (then (codes ", \"End-LSN\": ") _ (plain _ refl) (then end _ e (plain (codes " }\n],\n") refl))))

utf8-last : (lines : List ℕ) → IsUtf8 (last_line (sha256 lines))
utf8-last lines =
    then line_front _ (plain _ refl) (then (encode_lower (sha256 lines)) _ (IsUtf8-hex (encode_lower (sha256 lines)) (sha256 lines) (spelled lines)) (plain line_back refl))

utf8-lsn : (at : ℕ) → at < 2 ^ 64 → IsUtf8 (quoted (lsn_bytes at))
utf8-lsn at small = IsUtf8-quoted (lsn_bytes at) (IsUtf8-lsn at small)

pub utf8-text : (m : Listing) → IsWritable m → HasSmallNumbers m → IsUtf8 (manifest_text m)
utf8-text m is small =
    then (lines_text m) _ (then (head_of m.system) _ (utf8-head m.system small.system) (then (rows_text m.files) _ (utf8-rows m.files is.rows small.sizes) (utf8-tail _ _ (utf8-lsn m.start small.start) (utf8-lsn m.end small.end))))
    (utf8-last (lines_text m))
