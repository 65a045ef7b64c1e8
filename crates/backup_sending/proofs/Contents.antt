-- What the file of a segment holds, piece behind piece.
use Rattle.std.proofs.Common.{◌≡◌, ℕ, ◌+◌, ◌*◌, List, [], ◌++◌, Option, sym, ap, subst, ◌∙◌, arith}
use Rattle.std.specs.Option.{option_map}
use mathlib.Core.List.{IsPrefix}
use Rattle.sha2.specs.Hashers.{Holds256}
use Rattle.sha2.specs.Sha256.{sha256}
use Rattle.sha2.specs.declared.Sha256.{Sha256}
use Rattle.lsn_core.specs.Files.{Files}
use Rattle.lsn_core.specs.Store.{ForkPages}
use Rattle.lsn_core.specs.declared.ids.ForkId.{ForkId}
use Rattle.vault.specs.Area.{after_write}
use Rattle.history.specs.Entry.{Entry}
use Rattle.backup_files.specs.Area.{Lacks, with_file}
use Rattle.backup_sending.specs.Inside.{AreCopies, AddsCopies, AddsPiece, WritesCopies, page_bytes}
use Rattle.backup_sending.proofs.PageLists.{copies_none, copies_more, bytes_more, bytes_length}
use Rattle.backup_files.proofs.Appended.{written_new_in, written_more_in}

-- ---- so far

pub record SoFar (tells : Type 0) (seen : List Entry) (from : ℕ) (fork : ForkId) (block count : ℕ) (path : List ℕ) (old new : Option Files) (hasher : Sha256) : Type 0 where
  pub pages : ForkPages
  pub copies : AreCopies tells seen from fork block count pages
  pub stands : new ≡ with_file path (page_bytes pages) old
  pub held : Holds256 hasher (page_bytes pages)

pub begun : (tells : Type 0) (seen : List Entry) (from : ℕ) (fork : ForkId) (block : ℕ) (path : List ℕ) (old new : Option Files) (hasher : Sha256) → Lacks old path → new ≡ option_map (after_write path 0 []) old → Holds256 hasher []
    → SoFar tells seen from fork block 0 path old new hasher
begun tells seen from fork block path old new hasher none stands held = record {
  pages = [];
  copies = copies_none tells seen from fork block;
  stands = stands ∙ written_new_in old path [] none;
  held = held;
}

pub further : (tells : Type 0) (s t : List Entry) (from : ℕ) (fork : ForkId) (block at n m sum : ℕ) (path : List ℕ) (old mid new : Option Files) (before now : Sha256) → at ≡ block + n → sum ≡ n + m → IsPrefix s t
    → SoFar tells s from fork block n path old mid before → AddsPiece tells t from fork at n m path mid new before now → SoFar tells t from fork block sum path old new now
further tells s t from fork block at n m sum path old mid new before now at_is sum_is p far adds = record {
  pages = far.pages ++ adds.pages;
  copies = copies_more tells s t from fork block at n m sum far.pages adds.pages at_is sum_is p far.copies adds.copies;
  stands =
      adds.written ∙ (ap (option_map (after_write path (n * 8192) (page_bytes adds.pages))) far.stands
      ∙ (written_more_in old path (page_bytes far.pages) (page_bytes adds.pages) (n * 8192) (omega (arith, bytes_length far.pages far.copies.sized, ap (λ (x : ℕ). x * 8192) far.copies.many))
      ∙ ap (λ (x : List ℕ). with_file path x old) (sym (bytes_more far.pages adds.pages))));
  held = subst (λ (x : List ℕ). Holds256 now x) (sym (bytes_more far.pages adds.pages)) (adds.hashed (page_bytes far.pages) far.held);
}

-- pages that were added to nothing, and written
pub piece_added : (tells : Type 0) (s : List Entry) (from : ℕ) (fork : ForkId) (block done count at : ℕ) (path piece empty : List ℕ) (old new : Option Files) (before now : Sha256) → AddsCopies tells s from fork block count empty piece → empty ≡ [] → at ≡ done * 8192
    → new ≡ option_map (after_write path at piece) old → ((m : List ℕ) → Holds256 before m → Holds256 now (m ++ piece)) → AddsPiece tells s from fork block done count path old new before now
piece_added tells s from fork block done count at path piece empty old new before now adds none at_is wrote hashed =
    let is : piece ≡ page_bytes adds.pages = adds.grown ∙ ap (λ (x : List ℕ). x ++ page_bytes adds.pages) none in
    record {
      pages = adds.pages;
      copies = adds.copies;
      written = wrote ∙ (ap (λ (n : ℕ). option_map (after_write path n piece) old) at_is ∙ ap (λ (x : List ℕ). option_map (after_write path (done * 8192) x) old) is);
      hashed = λ m held. subst (λ (x : List ℕ). Holds256 now (m ++ x)) is (hashed m held);
    }

pub file_written_whole : (tells : Type 0) (s : List Entry) (from : ℕ) (fork : ForkId) (block done count : ℕ) (path : List ℕ) (old new : Option Files) (hasher : Sha256) (sum : List ℕ) → done ≡ count → SoFar tells s from fork block done path old new hasher
    → ((m : List ℕ) → Holds256 hasher m → sum ≡ sha256 m) → WritesCopies tells s from fork block count path old new sum
file_written_whole tells s from fork block done count path old new hasher sum all far hashed = record {
  pages = far.pages;
  copies = subst (λ (n : ℕ). AreCopies tells s from fork block n far.pages) all far.copies;
  stands = far.stands;
  sum_is = hashed (page_bytes far.pages) far.held;
}
