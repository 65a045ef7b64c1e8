-- Pages of listed blocks, with others behind them.
use Rattle.std.proofs.Common.{◌≡◌, ℕ, ◌+◌, ◌*◌, List, [], ◌∷◌, ◌++◌, length, take, drop, Option, refl, sym, ap, subst, ◌∙◌, arith}
use Rattle.std.specs.List.{range_with_len}
use Rattle.std.specs.Option.{option_map}
use Rattle.std.proofs.lemmas.List.{append-nil, append_assoc, length-append, take-append-drop}
use mathlib.Core.List.{IsPrefix}
use Rattle.sha2.specs.Hashers.{Holds256}
use Rattle.sha2.specs.Sha256.{sha256}
use Rattle.sha2.specs.declared.Sha256.{Sha256}
use Rattle.lsn_core.specs.Files.{Files}
use Rattle.lsn_core.specs.Store.{ForkPages}
use Rattle.lsn_core.specs.declared.ids.ForkId.{ForkId}
use Rattle.vault.specs.Area.{after_write}
use Rattle.history.specs.Entry.{Entry}
use Rattle.backup_files.specs.Area.{Lacks, with_file}
use Rattle.backup_sending.specs.Inside.{AddsCopies, AreCopies, ArePagesCopied, ArePagesWhole, page_bytes}
use Rattle.backup_sending.specs.Sent.{AreFor}
use Rattle.backup_sending.specs.Sending.{AddsBlocks, ArePagesOf, IsPageSeen, WritesBlocks, WritesPart}
use Rattle.backup_files.proofs.Appended.{written_more_in, written_new_in}
use Rattle.backup_sending.proofs.PageLists.{bytes_length, bytes_more, page_later}

-- ---- pages for blocks

pub for_more : (P Q : ℕ → List ℕ → Type 0) (blocks : List ℕ) (pages : ForkPages) → ((block : ℕ) (page : List ℕ) → P block page → Q block page) → AreFor P blocks pages → AreFor Q blocks pages
for_more P Q [] [] step are = tt
for_more P Q [] (page ∷ pages) step are = absurd are
for_more P Q (block ∷ blocks) [] step are = absurd are
for_more P Q (block ∷ blocks) (page ∷ pages) step are = (step block page are.0, for_more P Q blocks pages step are.1)

for_append : (P : ℕ → List ℕ → Type 0) (bs cs : List ℕ) (ps qs : ForkPages) → AreFor P bs ps → AreFor P cs qs → AreFor P (bs ++ cs) (ps ++ qs)
for_append P [] cs [] qs a b = b
for_append P [] cs (p ∷ ps) qs a b = absurd a
for_append P (x ∷ bs) cs [] qs a b = absurd a
for_append P (x ∷ bs) cs (p ∷ ps) qs a b = (a.0, for_append P bs cs ps qs a.1 b)

pub for_length : (P : ℕ → List ℕ → Type 0) (blocks : List ℕ) (pages : ForkPages) → AreFor P blocks pages → length pages ≡ length blocks
for_length P [] [] are = refl
for_length P [] (page ∷ pages) are = absurd are
for_length P (block ∷ blocks) [] are = absurd are
for_length P (block ∷ blocks) (page ∷ pages) are = omega (arith, for_length P blocks pages are.1)

pub for_sized : (P : ℕ → List ℕ → Type 0) (blocks : List ℕ) (pages : ForkPages) → ((block : ℕ) (page : List ℕ) → P block page → length page ≡ 8192) → AreFor P blocks pages → ArePagesWhole pages
for_sized P [] [] size are = tt
for_sized P [] (page ∷ pages) size are = absurd are
for_sized P (block ∷ blocks) [] size are = absurd are
for_sized P (block ∷ blocks) (page ∷ pages) size are = (size block page are.0, for_sized P blocks pages size are.1)

pub seen_later : (tells : Type 0) (s t : List Entry) (from : ℕ) (fork : ForkId) (first : ℕ) (blocks : List ℕ) (pages : ForkPages) → IsPrefix s t → ArePagesOf tells s from fork first blocks pages → ArePagesOf tells t from fork first blocks pages
seen_later tells s t from fork first blocks pages p are =
    for_more (λ b page. IsPageSeen tells s from fork (first + b) page) (λ b page. IsPageSeen tells t from fork (first + b) page) blocks pages
    (λ b page is. (is.0, λ told. page_later s t from fork (first + b) page p (is.1 told))) are

pub pages_bytes_length : (tells : Type 0) (s : List Entry) (from : ℕ) (fork : ForkId) (first : ℕ) (blocks : List ℕ) (pages : ForkPages) → ArePagesOf tells s from fork first blocks pages → length (page_bytes pages) ≡ length blocks * 8192
pages_bytes_length tells s from fork first blocks pages are =
    let P : ℕ → List ℕ → Type 0 = λ b page. IsPageSeen tells s from fork (first + b) page in
    bytes_length pages (for_sized P blocks pages (λ b page is. is.0) are) ∙ ap (λ (n : ℕ). n * 8192) (for_length P blocks pages are)

-- ---- pages of a range

page_at : (tells : Type 0) (s : List Entry) (from : ℕ) (fork : ForkId) (first a at : ℕ) (pages : ForkPages) → at ≡ first + a → ArePagesWhole pages → (tells → ArePagesCopied s from fork at pages) → ArePagesOf tells s from fork first (range_with_len a (length pages)) pages
page_at tells s from fork first a at [] is sized copied = tt
page_at tells s from fork first a at (page ∷ pages) is sized copied = (
  subst (λ (n : ℕ). IsPageSeen tells s from fork n page) is (sized.0, λ t. (copied t).0),
  page_at tells s from fork first (a + 1) (at + 1) pages (omega (arith, is)) sized.1 (λ t. (copied t).1),
)

pub range_pages : (tells : Type 0) (s : List Entry) (from : ℕ) (fork : ForkId) (first count : ℕ) (pages : ForkPages) → AreCopies tells s from fork first count pages → ArePagesOf tells s from fork first (range_with_len 0 count) pages
range_pages tells s from fork first count pages are =
    subst (λ (n : ℕ). ArePagesOf tells s from fork first (range_with_len 0 n) pages) are.many (page_at tells s from fork first 0 first pages (omega arith) are.sized are.copied)

-- ---- several pieces

pub record BlocksSoFar (tells : Type 0) (seen : List Entry) (from : ℕ) (fork : ForkId) (first : ℕ) (blocks left old new : List ℕ) : Type 0 where
  pub done : List ℕ
  pub all : done ++ left ≡ blocks
  pub adds : AddsBlocks tells seen from fork first done old new

pub blocks_begun : (tells : Type 0) (seen : List Entry) (from : ℕ) (fork : ForkId) (first : ℕ) (blocks bytes : List ℕ) → BlocksSoFar tells seen from fork first blocks blocks bytes bytes
blocks_begun tells seen from fork first blocks bytes = record {
  done = [];
  all = refl;
  adds = record { pages = []; are = tt; grown = sym (append-nil bytes) };
}

one_page : (tells : Type 0) (s : List Entry) (from : ℕ) (fork : ForkId) (first block : ℕ) (pages : ForkPages) → AreCopies tells s from fork (first + block) 1 pages → ArePagesOf tells s from fork first (block ∷ []) pages
one_page tells s from fork first block [] are = absurd (omega (arith, are.many))
one_page tells s from fork first block (page ∷ []) are = ((are.sized.0, λ t. (are.copied t).0), tt)
one_page tells s from fork first block (page ∷ (next ∷ pages)) are = absurd (omega (arith, are.many))

behind_one : (done : List ℕ) (block : ℕ) (rest : List ℕ) → (done ++ (block ∷ [])) ++ rest ≡ done ++ (block ∷ rest)
behind_one done block rest = append_assoc done (block ∷ []) rest

pub blocks_further : (tells : Type 0) (s t : List Entry) (from : ℕ) (fork : ForkId) (first block : ℕ) (blocks left rest a b c : List ℕ) → left ≡ block ∷ rest → IsPrefix s t → BlocksSoFar tells s from fork first blocks left a b → AddsCopies tells t from fork (first + block) 1 b c
    → BlocksSoFar tells t from fork first blocks rest a c
blocks_further tells s t from fork first block blocks left rest a b c is p far one =
    let P : ℕ → List ℕ → Type 0 = λ n page. IsPageSeen tells t from fork (first + n) page in
    record {
      done = far.done ++ (block ∷ []);
      all = behind_one far.done block rest ∙ (ap (λ (l : List ℕ). far.done ++ l) (sym is) ∙ far.all);
      adds = record {
        pages = far.adds.pages ++ one.pages;
        are = for_append P far.done (block ∷ []) far.adds.pages one.pages (seen_later tells s t from fork first far.done far.adds.pages p far.adds.are) (one_page tells t from fork first block one.pages one.copies);
        grown =
            one.grown ∙ (ap (λ (x : List ℕ). x ++ page_bytes one.pages) far.adds.grown ∙ (append_assoc a (page_bytes far.adds.pages) (page_bytes one.pages)
            ∙ ap (λ (x : List ℕ). a ++ x) (sym (bytes_more far.adds.pages one.pages))));
      };
    }

pub blocks_added : (tells : Type 0) (s : List Entry) (from : ℕ) (fork : ForkId) (first : ℕ) (blocks left a b : List ℕ) → left ≡ [] → BlocksSoFar tells s from fork first blocks left a b → AddsBlocks tells s from fork first blocks a b
blocks_added tells s from fork first blocks left a b none far =
    subst (λ (l : List ℕ). AddsBlocks tells s from fork first l a b) (sym (append-nil far.done) ∙ (ap (λ (l : List ℕ). far.done ++ l) (sym none) ∙ far.all)) far.adds

-- ---- a piece of a file

pub piece_written : (tells : Type 0) (s : List Entry) (from : ℕ) (fork : ForkId) (first : ℕ) (blocks path : List ℕ) (at : ℕ) (piece empty : List ℕ) (old new : Option Files) (before now : Sha256) → AddsBlocks tells s from fork first blocks empty piece → empty ≡ []
    → new ≡ option_map (after_write path at piece) old → ((m : List ℕ) → Holds256 before m → Holds256 now (m ++ piece)) → WritesBlocks tells s from fork first blocks path at piece old new before now
piece_written tells s from fork first blocks path at piece empty old new before now adds none wrote hashed = record {
  pages = adds.pages;
  are = adds.are;
  piece_is = adds.grown ∙ ap (λ (x : List ℕ). x ++ page_bytes adds.pages) none;
  written = wrote;
  hashed = hashed;
}

-- ---- a file

pub record PartSoFar (tells : Type 0) (seen : List Entry) (from : ℕ) (fork : ForkId) (first : ℕ) (front blocks left path : List ℕ) (at : ℕ) (old new : Option Files) (hasher : Sha256) : Type 0 where
  pub done : List ℕ
  pub all : done ++ left ≡ blocks
  pub pages : ForkPages
  pub are : ArePagesOf tells seen from fork first done pages
  pub stands : new ≡ with_file path (front ++ page_bytes pages) old
  pub place : at ≡ length (front ++ page_bytes pages)
  pub held : Holds256 hasher (front ++ page_bytes pages)

pub part_begun : (tells : Type 0) (seen : List Entry) (from : ℕ) (fork : ForkId) (first : ℕ) (front blocks path : List ℕ) (at : ℕ) (old new : Option Files) (fresh hasher : Sha256) → Lacks old path → new ≡ option_map (after_write path 0 front) old → at ≡ length front → Holds256 fresh []
    → ((m : List ℕ) → Holds256 fresh m → Holds256 hasher (m ++ front)) → PartSoFar tells seen from fork first front blocks blocks path at old new hasher
part_begun tells seen from fork first front blocks path at old new fresh hasher none wrote at_is empty hashed = record {
  done = [];
  all = refl;
  pages = [];
  are = tt;
  stands = wrote ∙ (written_new_in old path front none ∙ ap (λ (x : List ℕ). with_file path x old) (sym (append-nil front)));
  place = at_is ∙ ap length (sym (append-nil front));
  held = subst (λ (x : List ℕ). Holds256 hasher x) (sym (append-nil front)) (hashed [] empty);
}

pub part_further : (tells : Type 0) (s t : List Entry) (from : ℕ) (fork : ForkId) (first : ℕ) (front blocks left now_blocks rest path piece : List ℕ) (at next size : ℕ) (old mid new : Option Files) (before now : Sha256) → left ≡ now_blocks ++ rest → next ≡ at + size → size ≡ length piece → IsPrefix s t
    → PartSoFar tells s from fork first front blocks left path at old mid before → WritesBlocks tells t from fork first now_blocks path at piece mid new before now → PartSoFar tells t from fork first front blocks rest path next old new now
part_further tells s t from fork first front blocks left now_blocks rest path piece at next size old mid new before now is next_is size_is p far wrote =
    let P : ℕ → List ℕ → Type 0 = λ n page. IsPageSeen tells t from fork (first + n) page in
    let held = front ++ page_bytes far.pages in
    let grown : held ++ piece ≡ front ++ page_bytes (far.pages ++ wrote.pages) =
    append_assoc front (page_bytes far.pages) piece
    ∙ ap (λ (x : List ℕ). front ++ x) (ap (λ (x : List ℕ). page_bytes far.pages ++ x) wrote.piece_is ∙ sym (bytes_more far.pages wrote.pages)) in
    record {
      done = far.done ++ now_blocks;
      all = append_assoc far.done now_blocks rest ∙ (ap (λ (l : List ℕ). far.done ++ l) (sym is) ∙ far.all);
      pages = far.pages ++ wrote.pages;
      are = for_append P far.done now_blocks far.pages wrote.pages (seen_later tells s t from fork first far.done far.pages p far.are) wrote.are;
      stands =
          wrote.written ∙ (ap (option_map (after_write path at piece)) far.stands ∙ (written_more_in old path held piece at far.place ∙ ap (λ (x : List ℕ). with_file path x old) grown));
      place = next_is ∙ (behind held piece at size far.place size_is ∙ ap length grown);
      held = subst (λ (x : List ℕ). Holds256 now x) grown (wrote.hashed held far.held);
    }
  where
    behind : (xs ys : List ℕ) (n m : ℕ) → n ≡ length xs → m ≡ length ys → n + m ≡ length (xs ++ ys)
    behind xs ys n m e f = omega (arith, e, f, length-append xs ys)

pub part_written : (tells : Type 0) (s : List Entry) (from : ℕ) (fork : ForkId) (first : ℕ) (front blocks left path : List ℕ) (at : ℕ) (old new : Option Files) (hasher : Sha256) (sum : List ℕ) → left ≡ [] → PartSoFar tells s from fork first front blocks left path at old new hasher
    → ((m : List ℕ) → Holds256 hasher m → sum ≡ sha256 m) → WritesPart tells s from fork first front blocks path old new sum
part_written tells s from fork first front blocks left path at old new hasher sum none far hashed = record {
  pages = far.pages;
  are = subst (λ (l : List ℕ). ArePagesOf tells s from fork first l far.pages) (sym (append-nil far.done) ∙ (ap (λ (l : List ℕ). far.done ++ l) (sym none) ∙ far.all)) far.are;
  stands = far.stands;
  sum_is = hashed (front ++ page_bytes far.pages) far.held;
}

-- the next piece of those that are left
pub split_parts : (k : ℕ) (left front back : List ℕ) → front ≡ take k left → back ≡ drop k left → left ≡ front ++ back
split_parts k left front back e f = rw (e, f) (sym (take-append-drop k left))

pub split_length : (left front back : List ℕ) → left ≡ front ++ back → length left ≡ length front + length back
split_length left front back e = ap length e ∙ length-append front back

pub piece_length : (tells : Type 0) (s : List Entry) (from : ℕ) (fork : ForkId) (first : ℕ) (blocks path : List ℕ) (at : ℕ) (piece : List ℕ) (old new : Option Files) (before now : Sha256) → WritesBlocks tells s from fork first blocks path at piece old new before now → length piece ≡ length blocks * 8192
piece_length tells s from fork first blocks path at piece old new before now wrote = ap length wrote.piece_is ∙ pages_bytes_length tells s from fork first blocks wrote.pages wrote.are
