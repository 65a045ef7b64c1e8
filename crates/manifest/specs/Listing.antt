-- What a manifest says.
use Rattle.std.specs.Prelude.{ℕ, List, Option}
use Rattle.manifest.specs.declared.listing.FileRow.{FileRow}
use Rattle.manifest.specs.Shape.{Parts}

-- the version of its form, the system identifier, the files, and the range of the WAL
pub record Listing : Type 0 where
  pub version : ℕ
  pub system : Option ℕ
  pub files : List FileRow
  pub start : ℕ
  pub end : ℕ

-- the manifest with these parts and files
abbrev pub listing_of : Parts → List FileRow → Listing
listing_of parts files = record {
  version = parts.version;
  system = parts.system;
  files = files;
  start = parts.start;
  end = parts.end;
}
