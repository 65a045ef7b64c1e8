-- What is answered to a question.
use Rattle.std.specs.Prelude.{◌≡◌, ℕ, Bool, List, [], ◌∷◌, ◌++◌, Option, Some, None, IfSome, if◌then◌else◌}
use Rattle.lsn_core.specs.Files.{Files}
use Rattle.lsn_core.specs.declared.lsn.Lsn.{Lsn}
use Rattle.vault.specs.declared.site.Site.{Ghosts as SiteGhosts}
use Rattle.chain_view.specs.Asked.{Question}
use Rattle.chain_listing.specs.Chains.{members_for}
use Rattle.chain_view.specs.Json.{listing_json, members_json_line}
use Rattle.chain_view.specs.Lines.{lines_of}
use Rattle.chain_listing.specs.Listing.{View, IsListing}
use Rattle.chain_view.specs.Table.{listing_text}
use Rattle.chain_view.specs.declared.cells.Cell.{Cell}

-- names as the words of a command, on one line
abbrev pub names_text : List (List ℕ) → List ℕ
names_text [] = []
names_text (name ∷ names) = 32 ∷ (name ++ names_text names)

abbrev pub members_line : List (List ℕ) → List ℕ
members_line [] = 10 ∷ []
members_line (name ∷ names) = name ++ (names_text names ++ (10 ∷ []))

-- the members of a chain, where there is one
abbrev pub names_answer : Bool → Option (List (List ℕ)) → Option (List ℕ)
names_answer json None = None
names_answer json (Some names) =
    Some (if json then members_json_line names else members_line names)

-- the lines of a listing
abbrev pub lines_answer : Bool → List (List Cell) → List ℕ
lines_answer json lines = if json then listing_json lines else listing_text lines

-- the members of the chain for a place, or all that is listed
abbrev pub answer_by : Bool → Option Lsn → View → Option (List ℕ)
answer_by json (Some upto) view = names_answer json (members_for view.backups upto.0)
answer_by json None view = Some (lines_answer json (lines_of view))

abbrev pub answer_text : Question → View → Option (List ℕ)
answer_text question view = answer_by question.json question.upto view

-- this is the answer by an area with these files
abbrev pub IsAnswer : Question → Files → Option (List ℕ) → Type 0
IsAnswer question files text =
    (view : View) × IsListing files view × (text ≡ answer_text question view)

-- and by a site's area of the folder that is asked for, where it tells its files
abbrev pub IsAnswerIn : {S V : Type 0} → SiteGhosts S V → Question → S → Option (List ℕ) → Type 0
IsAnswerIn s question site text =
    IfSome (s.areas site question.folder).files (λ m. IsAnswer question m text)
