-- What the words of the command line ask for (profile).
use Rattle.std.specs.Prelude.{ℕ, ◌+◌, ◌-◌, ◌*◌, ◌==◌, Bool, true, false, List, [], ◌∷◌, length, take, slice_get, codes, nat_eq, Option, Some, None, if◌then◌else◌}
use Rattle.std.specs.Str.{bytes_eq}
use Rattle.std.specs.List.{starts_with}
use Rattle.lsn_core.specs.byte_words.Numbers.{◌>>=◌}
use Rattle.lsn_core.specs.byte_words.Cuts.{cut_at}
use Rattle.lsn_core.specs.text_numbers.Numbers.{hex_number_of}
use Rattle.lsn_core.specs.declared.lsn.Lsn.{Lsn}
use Rattle.chain_view.specs.declared.words.Asked.{Asked}
use Rattle.chain_view.specs.declared.words.Options.{Options}

-- JSON or not, the place up to which a chain is asked for, or None for the listing, and the folder
pub record Question : Type 0 where
  pub json : Bool
  pub upto : Option Lsn
  pub folder : List ℕ

-- a word that begins as an option does
abbrev pub is_option : List ℕ → Bool
is_option word = starts_with nat_eq word (codes "-")

-- ---- the options

abbrev pub is_json : List ℕ → Bool
is_json word = bytes_eq word (codes "--json")

-- an LSN: 1 to 8 hexadecimal digits on each side of a slash
abbrev pub lsn_of : ℕ → ℕ → Lsn
lsn_of high low = record { 0 = high * 4294967296 + low }

abbrev pub lsn_value : List ℕ → Option Lsn
lsn_value text = do
  parts ← cut_at 47 text
  high ← hex_number_of parts.0
  low ← hex_number_of parts.1
  Some (lsn_of high low)

abbrev pub target_in : List ℕ → List ℕ → Option Lsn
target_in name value = if bytes_eq name (codes "--for") then lsn_value value else None

abbrev pub with_target : Bool → List ℕ → List ℕ → Option Options
with_target json name value =
    target_in name value >>= λ upto. Some (record { json = json; upto = Some upto })

-- `--json` and `--for LSN`, each at most once, in any order
abbrev pub options_in : List (List ℕ) → Option Options
options_in [] = Some (record { json = false; upto = None })
options_in (word ∷ []) =
    if is_json word then Some (record { json = true; upto = None }) else None
options_in (name ∷ (value ∷ [])) = with_target false name value
options_in (first ∷ (second ∷ (third ∷ []))) =
    if is_json first then with_target true second third
    else (if is_json third then with_target true first second else None)
options_in (first ∷ (second ∷ (third ∷ (more ∷ words)))) = None

-- ---- all words

-- a word with a slash at its end, and the folder that a word names
abbrev pub is_slash : Option ℕ → Bool
is_slash None = false
is_slash (Some byte) = byte == 47

abbrev pub ends_in_slash : List ℕ → Bool
ends_in_slash word = is_slash (slice_get word (length word - 1))

abbrev pub folder_in : List ℕ → List ℕ
folder_in word = if ends_in_slash word then take (length word - 1) word else word

abbrev pub asked_of : List ℕ → Options → Question
asked_of folder options =
    record { json = options.json; upto = options.upto; folder = folder_in folder }

-- a folder, and options
abbrev pub asked_with : List ℕ → List (List ℕ) → Option Question
asked_with folder words =
    if is_option folder then None
    else (options_in words >>= λ options. Some (asked_of folder options))

-- options, and a folder behind them
abbrev pub asked_last : Option (List ℕ) → List (List ℕ) → Option Question
asked_last None words = None
asked_last (Some folder) words = asked_with folder words

-- what words ask, None where they aren't taken: the folder stands first or last
abbrev pub asked : List (List ℕ) → Option Question
asked [] = None
asked (first ∷ behind) =
    if is_option first
    then asked_last (slice_get (first ∷ behind) (length behind))
    (take (length behind) (first ∷ behind))
    else asked_with first behind

-- words ask this
abbrev pub asks : Asked → Question
asks asked = record { json = asked.json; upto = asked.upto; folder = asked.folder.now }
