-- Full-page images: a page without its hole, and the page again.
use Rattle.std.specs.Prelude.{ℕ, ◌-◌, List, ◌++◌, length, take, drop, replicate, Option, Some, None}
use Rattle.pg_page.specs.Header.{hole_of}

-- a page without the bytes from one place to another
unfoldable pub without_hole : ℕ → ℕ → List ℕ → List ℕ
without_hole lower upper page = take lower page ++ drop upper page

abbrev pub image_without : List ℕ → Option (ℕ × ℕ) → List ℕ
image_without page None = page
image_without page (Some hole) = without_hole hole.0 hole.1 page

-- the bytes of a page's image: its hole is left out
abbrev pub image_of : List ℕ → List ℕ
image_of page = image_without page (hole_of page)

-- the page of an image: zeros stand at the offset where bytes were left out
unfoldable pub restored : ℕ → List ℕ → List ℕ
restored offset image =
    take offset image ++ (replicate (8192 - length image) 0 ++ drop offset image)
