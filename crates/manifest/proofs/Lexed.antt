-- The lexemes and the tokens of a written manifest, and the tree that they are of.
use Rattle.std.proofs.Common.{◌≡◌, ◌<◌, ◌^◌, ℕ, List, [], ◌∷◌, ◌++◌, codes, decimal, true, refl, ap, ap₂, ◌∙◌, append_assoc}
use Rattle.json.specs.Token.{Token}
use Rattle.json.specs.Json as json
use Rattle.json.specs.Tree.{json_tokens, items_tokens}
use Rattle.json.specs.Word.{ends_word, after_number}
use Rattle.json.specs.Text.{content}
use Rattle.json.specs.Lex.{Lexeme, token, comma, colon, string_token, lex, between, fresh, after_value, after_comma, punctuate, tokens}
use Rattle.json.specs.Print.{escape, quoted}
use Rattle.json.proofs.Printed.Strings.{content-escape, lex-escape}
use Rattle.json.proofs.Printed.Numbers.{lex-number}
use Rattle.json.proofs.Printed.Decimals.{IsNumber-decimal}
use Rattle.manifest.specs.Kinds.{kind_name}
use Rattle.manifest.specs.Text.{line_of, row_text, rows_text}
use Rattle.manifest.specs.declared.listing.FileRow.{FileRow}

lex-quoted : (s r : List ℕ) → lex between (quoted s ++ r) ≡ token (Token.string s) ∷ lex between r
unfolding lex
lex-quoted s r =
    ap (λ (l : List ℕ). lex between (34 ∷ l)) (append_assoc (escape s) (34 ∷ []) r)
    ∙ ap₂ (λ o l. token (string_token o) ∷ l) (content-escape s r) (lex-escape s r)

lex-decimal : (n : ℕ) (r : List ℕ) → n < 2 ^ 64 → ends_word r ≡ true → lex between (decimal n ++ r) ≡ token (Token.number (decimal n)) ∷ lex between r
lex-decimal n r fits ended = lex-number (decimal n) r (IsNumber-decimal n fits) ended

-- the same before what stands behind the rest
after-quoted : (s r rest : List ℕ) → lex between ((quoted s ++ r) ++ rest) ≡ token (Token.string s) ∷ lex between (r ++ rest)
after-quoted s r rest = ap (λ (l : List ℕ). lex between l) (append_assoc (quoted s) r rest) ∙ lex-quoted s (r ++ rest)

after-decimal : (n : ℕ) (r rest : List ℕ) → n < 2 ^ 64 → ends_word (r ++ rest) ≡ true → lex between ((decimal n ++ r) ++ rest) ≡ token (Token.number (decimal n)) ∷ lex between (r ++ rest)
after-decimal n r rest fits ended = ap (λ (l : List ℕ). lex between l) (append_assoc (decimal n) r rest) ∙ lex-decimal n (r ++ rest) fits ended

abbrev named : List ℕ → Token → List Lexeme → List Lexeme
named key value more = token (Token.string key) ∷ colon ∷ token value ∷ more

abbrev row_lexemes : FileRow → List Lexeme → List Lexeme
row_lexemes row more =
    token Token.begin_object ∷ named (codes "Path") (Token.string row.path)
    (comma ∷ named (codes "Size") (Token.number (decimal row.size))
    (comma ∷ named (codes "Last-Modified") (Token.string row.modified)
    (comma ∷ named (codes "Checksum-Algorithm") (Token.string (kind_name row.kind))
    (comma ∷ named (codes "Checksum") (Token.string row.sum)
    (token Token.end_object ∷ more)))))

lex-row : (row : FileRow) (rest : List ℕ) → row.size < 2 ^ 64 → lex between (row_text row ++ rest) ≡ row_lexemes row (lex between rest)
unfolding lex content line_of
lex-row row rest fits =
    rw (after-quoted row.path _ rest, after-decimal row.size _ rest fits refl, after-quoted row.modified _ rest, after-quoted (kind_name row.kind) _ rest, after-quoted row.sum _ rest) refl

-- the rows, and what stands behind them
abbrev rows_lexemes : List FileRow → List Lexeme → List Lexeme
rows_lexemes [] more = more
rows_lexemes (row ∷ []) more = row_lexemes row more
rows_lexemes (row ∷ next ∷ rows) more = row_lexemes row (comma ∷ rows_lexemes (next ∷ rows) more)

abbrev pub Fits64 : List FileRow → Type 0
Fits64 [] = Unit {0}
Fits64 (row ∷ rows) = (row.size < 2 ^ 64) × Fits64 rows

lex-rows : (rows : List FileRow) (rest : List ℕ) → Fits64 rows → lex between (rows_text rows ++ rest) ≡ rows_lexemes rows (lex between rest)
unfolding lex content
lex-rows [] rest fits = refl
lex-rows (row ∷ []) rest fits = ap (λ (l : List ℕ). lex between l) (append_assoc (row_text row) (codes "\n") rest) ∙ lex-row row (codes "\n" ++ rest) fits.0
lex-rows (row ∷ next ∷ rows) rest fits =
    ap (λ (l : List ℕ). lex between l) (append_assoc (row_text row) (codes ",\n" ++ rows_text (next ∷ rows)) rest) ∙ lex-row row ((codes ",\n" ++ rows_text (next ∷ rows)) ++ rest) fits.0
    ∙ ap (λ (l : List Lexeme). row_lexemes row (comma ∷ l)) (lex-rows (next ∷ rows) rest fits.1)

-- ---- the tree of the text

abbrev pub row_tree : FileRow → json.Json
row_tree row =
    json.object (json.member (codes "Path") (json.string row.path)
    (json.member (codes "Size") (json.number (decimal row.size))
    (json.member (codes "Last-Modified") (json.string row.modified)
    (json.member (codes "Checksum-Algorithm") (json.string (kind_name row.kind))
    (json.member (codes "Checksum") (json.string row.sum) json.no_members)))))

abbrev pub rows_tree : List FileRow → json.Items
rows_tree [] = json.no_items
rows_tree (row ∷ rows) = json.item (row_tree row) (rows_tree rows)

punctuate-later : (row : FileRow) (rows : List FileRow) (more : List Lexeme) → punctuate after_comma (rows_lexemes (row ∷ rows) (token Token.end_array ∷ more)) ≡ items_tokens (rows_tree (row ∷ rows)) ++ punctuate after_value more
unfolding punctuate
punctuate-later row [] more = refl
punctuate-later row (next ∷ rows) more = ap (λ (l : List Token). json_tokens (row_tree row) ++ l) (punctuate-later next rows more)

punctuate-rows : (rows : List FileRow) (more : List Lexeme) → punctuate fresh (rows_lexemes rows (token Token.end_array ∷ more)) ≡ items_tokens (rows_tree rows) ++ punctuate after_value more
unfolding punctuate
punctuate-rows [] more = refl
punctuate-rows (row ∷ []) more = refl
punctuate-rows (row ∷ next ∷ rows) more = ap (λ (l : List Token). json_tokens (row_tree row) ++ l) (punctuate-later next rows more)

abbrev pub top_tree : ℕ → List FileRow → List ℕ → List ℕ → List ℕ → json.Json
top_tree system rows start end sum =
    json.object (json.member (codes "PostgreSQL-Backup-Manifest-Version") (json.number (codes "2"))
    (json.member (codes "System-Identifier") (json.number (decimal system))
    (json.member (codes "Files") (json.array (rows_tree rows))
    (json.member (codes "WAL-Ranges") (json.array (json.item
    (json.object (json.member (codes "Timeline") (json.number (codes "1"))
    (json.member (codes "Start-LSN") (json.string start)
    (json.member (codes "End-LSN") (json.string end) json.no_members)))) json.no_items))
    (json.member (codes "Manifest-Checksum") (json.string sum) json.no_members)))))

-- what stands behind the rows
abbrev tail_lexemes : List ℕ → List ℕ → List ℕ → List Lexeme
tail_lexemes start end sum =
    comma ∷ token (Token.string (codes "WAL-Ranges")) ∷ colon ∷ token Token.begin_array ∷ token Token.begin_object
    ∷ named (codes "Timeline") (Token.number (codes "1"))
    (comma ∷ named (codes "Start-LSN") (Token.string start)
    (comma ∷ named (codes "End-LSN") (Token.string end)
    (token Token.end_object ∷ token Token.end_array ∷ comma ∷ named (codes "Manifest-Checksum") (Token.string sum)
    (token Token.end_object ∷ []))))

abbrev tail_text : List ℕ → List ℕ → List ℕ → List ℕ
tail_text start end sum =
    codes "],\n\"WAL-Ranges\": [\n{ \"Timeline\": 1, \"Start-LSN\": " ++ (quoted start
    ++ (codes ", \"End-LSN\": " ++ (quoted end
    ++ (codes " }\n],\n\"Manifest-Checksum\": " ++ (quoted sum
    ++ codes "}\n")))))

lex-range : (r : List ℕ) → lex between (codes "],\n\"WAL-Ranges\": [\n{ \"Timeline\": " ++ r)
    ≡ token Token.end_array ∷ comma ∷ token (Token.string (codes "WAL-Ranges")) ∷ colon ∷ token Token.begin_array ∷ token Token.begin_object ∷ token (Token.string (codes "Timeline")) ∷ colon ∷ lex between r
unfolding lex content
lex-range r = refl

lex-version : (r : List ℕ) → lex between (codes "{ \"PostgreSQL-Backup-Manifest-Version\": " ++ r) ≡ token Token.begin_object ∷ token (Token.string (codes "PostgreSQL-Backup-Manifest-Version")) ∷ colon ∷ lex between r
unfolding lex content
lex-version r = refl

lex-one : (r : List ℕ) → ends_word r ≡ true → lex between (codes "1" ++ r) ≡ token (Token.number (codes "1")) ∷ lex between r
unfolding after_number
lex-one r ended = lex-number (codes "1") r refl ended

lex-two : (r : List ℕ) → ends_word r ≡ true → lex between (codes "2" ++ r) ≡ token (Token.number (codes "2")) ∷ lex between r
unfolding after_number
lex-two r ended = lex-number (codes "2") r refl ended

abbrev end_text : List ℕ → List ℕ → List ℕ → List ℕ
end_text start end sum =
    codes ", \"Start-LSN\": " ++ (quoted start
    ++ (codes ", \"End-LSN\": " ++ (quoted end
    ++ (codes " }\n],\n\"Manifest-Checksum\": " ++ (quoted sum
    ++ codes "}\n")))))

abbrev end_lexemes : List ℕ → List ℕ → List ℕ → List Lexeme
end_lexemes start end sum =
    comma ∷ named (codes "Start-LSN") (Token.string start)
    (comma ∷ named (codes "End-LSN") (Token.string end)
    (token Token.end_object ∷ token Token.end_array ∷ comma ∷ named (codes "Manifest-Checksum") (Token.string sum)
    (token Token.end_object ∷ [])))

lex-end : (start end sum : List ℕ) → lex between (end_text start end sum) ≡ end_lexemes start end sum
unfolding lex content
lex-end start end sum = rw (lex-quoted start _, lex-quoted end _, lex-quoted sum _) refl

lex-tail : (start end sum : List ℕ) → lex between (tail_text start end sum) ≡ token Token.end_array ∷ tail_lexemes start end sum
lex-tail start end sum =
    lex-range (codes "1" ++ end_text start end sum)
    ∙ rw (lex-one (end_text start end sum) refl, lex-end start end sum) refl

-- the whole text, in the order in which it is read
abbrev files_text : ℕ → List FileRow → List ℕ → List ℕ → List ℕ → List ℕ
files_text system rows start end sum = codes ",\n\"System-Identifier\": " ++ (decimal system ++ (codes ",\n\"Files\": [\n" ++ (rows_text rows ++ tail_text start end sum)))

abbrev pub top_text : ℕ → List FileRow → List ℕ → List ℕ → List ℕ → List ℕ
top_text system rows start end sum =
    codes "{ \"PostgreSQL-Backup-Manifest-Version\": 2" ++ files_text system rows start end sum

abbrev files_lexemes : ℕ → List FileRow → List ℕ → List ℕ → List ℕ → List Lexeme
files_lexemes system rows start end sum =
    comma ∷ named (codes "System-Identifier") (Token.number (decimal system))
    (comma ∷ token (Token.string (codes "Files")) ∷ colon ∷ token Token.begin_array ∷ rows_lexemes rows (token Token.end_array ∷ tail_lexemes start end sum))

lex-files : (system : ℕ) (rows : List FileRow) (start end sum : List ℕ) → system < 2 ^ 64 → Fits64 rows → lex between (files_text system rows start end sum) ≡ files_lexemes system rows start end sum
unfolding lex content
lex-files system rows start end sum fits fit = rw (lex-decimal system _ fits refl, lex-rows rows _ fit, lex-tail start end sum) refl

lex-top : (system : ℕ) (rows : List FileRow) (start end sum : List ℕ) → system < 2 ^ 64 → Fits64 rows
    → lex between (top_text system rows start end sum) ≡ token Token.begin_object ∷ named (codes "PostgreSQL-Backup-Manifest-Version") (Token.number (codes "2")) (files_lexemes system rows start end sum)
lex-top system rows start end sum fits fit =
    lex-version (codes "2" ++ files_text system rows start end sum)
    ∙ rw (lex-two (files_text system rows start end sum) refl, lex-files system rows start end sum fits fit) refl

pub tokens-top : (system : ℕ) (rows : List FileRow) (start end sum : List ℕ) → system < 2 ^ 64 → Fits64 rows → tokens (top_text system rows start end sum) ≡ json_tokens (top_tree system rows start end sum)
unfolding punctuate
tokens-top system rows start end sum fits fit =
    ap (punctuate fresh) (lex-top system rows start end sum fits fit) ∙ rw (punctuate-rows rows (tail_lexemes start end sum)) refl
