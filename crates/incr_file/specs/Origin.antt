-- Where a block that the forms of a file are asked for stands: in which of them, and as which page.
use Rattle.std.specs.Prelude.{◌≡◌, ℕ, ◌==◌, List, [], ◌∷◌, length, slice_get, Option, Some, None, nat_lt, if◌then◌else◌}
use Rattle.std.specs.List.{position}
use Rattle.std.specs.Option.{option_map, option_or}
use Rattle.lsn_core.specs.Store.{ForkPages}
use Rattle.incr_file.specs.Form.{Form, Absent, Plain, Part}

-- a page of a form
pub record FormPage : Type 0 where
  pub form : ℕ  -- the form's number, the oldest one being 0
  pub page : ℕ  -- the page's number in its file

abbrev pub origin_with : ℕ → ℕ → FormPage
origin_with form page = record { form = form; page = page }

-- which of the pages of a file stands for a listed block
abbrev pub sent_number : List ℕ → ℕ → Option ℕ
sent_number blocks block = position (λ b. b == block) blocks

-- where a block stands in forms, the newest first
abbrev pub origin_in_chain : List Form → ℕ → Option FormPage
origin_in_chain [] block = None
origin_in_chain (Absent ∷ older) block = None
origin_in_chain (Plain pages ∷ older) block =
    if nat_lt block (length pages) then Some (origin_with (length older) block) else None
origin_in_chain (Part head pages ∷ older) block =
    option_or (option_map (origin_with (length older)) (sent_number head.blocks block))
    (if nat_lt block head.truncation then origin_in_chain older block else None)

abbrev pub form_pages : Form → ForkPages
form_pages Absent = []
form_pages (Plain pages) = pages
form_pages (Part head pages) = pages

-- the page that an origin names
abbrev pub page_from : List Form → FormPage → Option (List ℕ)
page_from [] origin = None
page_from (form ∷ older) origin =
    if origin.form == length older then slice_get (form_pages form) origin.page
    else page_from older origin

-- each incremental form has as many pages as it lists
abbrev pub AreComplete : List Form → Type 0
AreComplete [] = Unit {0}
AreComplete (Absent ∷ older) = AreComplete older
AreComplete (Plain pages ∷ older) = AreComplete older
AreComplete (Part head pages ∷ older) =
    (length pages ≡ length head.blocks) × AreComplete older
