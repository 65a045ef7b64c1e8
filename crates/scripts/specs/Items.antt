-- What a word of a line names: a fork, how a page is made, fragments of a page, or a block and how
-- it is changed.
use Rattle.std.specs.Prelude.{ℕ, ◌-◌, ◌==◌, ◌&&◌, ◌||◌, Bool, List, [], ◌∷◌, length, take, drop, Option, Some, None, codes, nat_le, nat_lt, bytes_eq, if◌then◌else◌}
use Rattle.std.specs.List.{position, slice_split}
use Rattle.std.specs.Option.{option_map}
use Rattle.std.specs.Result.{result_ok}
use Rattle.hex.specs.Hex.{decode_of}
use Rattle.lsn_core.specs.byte_words.Numbers.{◌>>=◌}
use Rattle.lsn_core.specs.byte_words.Cuts.{cut_at}
use Rattle.lsn_core.specs.text_numbers.Numbers.{number_of}
use Rattle.lsn_core.specs.declared.ids.ForkKind.{ForkKind}
use Rattle.lsn_core.specs.declared.ids.ForkKind.TheVariants.{Main, Init}
use Rattle.lsn_core.specs.declared.ids.ForkId.{ForkId}
use Rattle.lsn_core.specs.declared.ids.BlockId.{BlockId}
use Rattle.lsn_core.specs.Relation.{Relation}
use Rattle.pg_page.specs.Frags.{Fragment}
use Rattle.scripts.specs.declared.order.OrderItem.{OrderItem}
use Rattle.scripts.specs.declared.order.OrderEdit.{OrderEdit}
use Rattle.scripts.specs.declared.order.OrderEdit.TheVariants.{Put, Patch}
use Rattle.scripts.specs.Shape.{Shape, shape_with}

-- a fork by its numbers, neither of them 0
abbrev pub fork_of : ForkKind → ℕ → ℕ → Option ForkId
fork_of kind db rel =
    let fork : ForkId = record { rel = record { db = db; rel = rel }; kind = kind } in
    if nat_lt 0 db && nat_lt 0 rel then Some fork else None

-- two numbers with a slash between them
abbrev pub numbers_in : ForkKind → List ℕ → Option ForkId
numbers_in kind text = do
  parts ← cut_at 47 text
  db ← number_of parts.0
  rel ← number_of parts.1
  fork_of kind db rel

-- a fork: database and relation, with `_init` behind them where it is the init fork
abbrev pub fork_in : List ℕ → Option ForkId
fork_in text =
    let front = length text - 5 in
    let is_init = bytes_eq (drop front text) (codes "_init") in
    if is_init then numbers_in Init (take front text) else numbers_in Main text

-- the relation of a fork, where that is the main fork
abbrev pub main_rel : ForkKind → Relation → Option Relation
main_rel Main rel = Some rel
main_rel Init rel = None

-- a relation, by its main fork
abbrev pub rel_in : List ℕ → Option Relation
rel_in text = do
  fork ← fork_in text
  main_rel fork.kind fork.rel

-- how a page is made, by its numbers
abbrev pub shape_of : ℕ → ℕ → ℕ → Option Shape
shape_of lower upper fill =
    if nat_le 24 lower && (nat_le lower upper && (nat_le upper 8192 && nat_le fill 255))
    then Some (shape_with lower upper fill) else None

-- how a page is made: three numbers with commas between them
abbrev pub shape_in : List ℕ → Option Shape
shape_in text = do
  first ← cut_at 44 text
  others ← cut_at 44 first.1
  lower ← number_of first.0
  upper ← number_of others.0
  fill ← number_of others.1
  shape_of lower upper fill

-- 1 to 8,192 bytes, by two hexadecimal digits each
abbrev pub bytes_in : List ℕ → Option (List ℕ)
bytes_in digits =
    if nat_le 2 (length digits) && nat_le (length digits) 16384 then result_ok (decode_of digits)
    else None

-- a place of a page that a fragment may name; whether a fragment fits is not judged here
abbrev pub offset_in : List ℕ → Option ℕ
offset_in text = do
  at ← number_of text
  if nat_le at 65535 then Some at else None

-- a fragment: its place, `:` and its bytes
abbrev pub frag_in : List ℕ → Option Fragment
frag_in text = do
  parts ← cut_at 58 text
  at ← offset_in parts.0
  bytes ← bytes_in parts.1
  Some (record { at = at; bytes = bytes })

-- what each of some texts is read as, where each is
abbrev pub each_in : {A : Type 0} → (List ℕ → Option A) → List (List ℕ) → Option (List A)
each_in reads [] = Some []
each_in reads (text ∷ texts) = do
  item ← reads text
  items ← each_in reads texts
  Some (item ∷ items)

-- fragments, with commas between them
abbrev pub is_comma : ℕ → Bool
is_comma b = b == 44

abbrev pub frags_in : List ℕ → Option (List Fragment)
frags_in text = each_in frag_in (slice_split is_comma text)

-- how a block is changed: `=` and how a page is made, or `+` and fragments
abbrev pub is_sign : ℕ → Bool
is_sign b = (b == 61) || (b == 43)

abbrev pub edit_in : List ℕ → Option OrderEdit
edit_in [] = None
edit_in (sign ∷ text) =
    if sign == 61 then option_map Put (shape_in text)
    else (if sign == 43 then option_map Patch (frags_in text) else None)

-- a block: a fork, `@` and a number
abbrev pub block_in : List ℕ → Option BlockId
block_in text = do
  parts ← cut_at 64 text
  fork ← fork_in parts.0
  block ← number_of parts.1
  Some (record { fork = fork; block = block })

-- an item: a block, and behind it how it is changed
abbrev pub item_in : List ℕ → Option OrderItem
item_in text = do
  sign ← position is_sign text
  block ← block_in (take sign text)
  edit ← edit_in (drop sign text)
  Some (record { at = block; edit = edit })

-- the items of a change: 1 to 16, one a word
abbrev pub items_in : List (List ℕ) → Option (List OrderItem)
items_in words =
    if nat_le 1 (length words) && nat_le (length words) 16 then each_in item_in words
    else None

-- a count of 1 to this many
abbrev pub count_in : ℕ → List ℕ → Option ℕ
count_in most text = do
  count ← number_of text
  if nat_le 1 count && nat_le count most then Some count else None

-- by how many blocks a fork grows, and how many pages are written, by one line (profile)
abbrev pub most_growth : ℕ
most_growth = 65536

abbrev pub growth_count : List ℕ → Option ℕ
growth_count text = count_in most_growth text

abbrev pub most_flush : ℕ
most_flush = 1000000

abbrev pub flush_count : List ℕ → Option ℕ
flush_count text = count_in most_flush text
