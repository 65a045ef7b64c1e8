-- Entries over several pages, page by page.
use Rattle.std.proofs.Common.{◌≡◌, ℕ, suc, ◌+◌, ◌-◌, ◌%◌, ◌<◌, ◌≤◌, min, true, false, leb, List, ◌++◌, length, take, drop, Option, Some, refl, sym, ap, subst, ◌∙◌, arith}
use Rattle.std.specs.Prelude.{Result, Ok, Err, IfSome}
use Rattle.std.proofs.lemmas.Bool.{le-leb, lt-leb}
use Rattle.lsn_core.specs.byte_words.Told.{when_told, when_both_told}
use Rattle.lsn_core.specs.Files.{Files}
use Rattle.wal_pages.specs.Places.{head_size}
use Rattle.wal_pages.proofs.Splits.{head_bounds}
use Rattle.wal_archive.specs.Archive.{Archive, archive_of}
use Rattle.wal_archive.specs.declared.fault.Damage.{Damage}
use Rattle.wal_archive.specs.Rules.{◌>>=◌, bytes_at, head_at, entry_bytes, not_held}
use Rattle.wal_archive.specs.Reading.{IsFront, ReadsFront, ReadsBytes, held_piece, page_piece}
use Rattle.wal_archive.proofs.Runs.{ok}
use Rattle.wal_archive.proofs.RunLaws.{all_told}
use Rattle.wal_archive.proofs.EntryLaws.{behind, behind_behind}
use Rattle.wal_archive.proofs.Fronts.{err, front_part, front_cut}

-- ---- one page

pub piece_short : (o : Option Files) (mib begin page y left : ℕ) (front : List ℕ) (d : Damage)
    → y ≡ page + length front
    → head_size mib page ≤ length front
    → length front < head_size mib page + min left (8192 - head_size mib page)
    → ReadsFront mib o page 8192 front → IfSome o (λ m. d ≡ not_held (archive_of mib m) mib begin y)
    → IfSome o (λ m. held_piece (archive_of mib m) mib begin page left ≡ Err d)
piece_short o mib begin page y left front d y_is head less read why =
    when_both_told o (λ m. IsFront (archive_of mib m) page 8192 front)
    (λ m. d ≡ not_held (archive_of mib m) mib begin y)
    (λ m. held_piece (archive_of mib m) mib begin page left ≡ Err d)
    (λ m f is.
    let b = head_bounds mib page in
    front_cut (archive_of mib m) mib begin page 8192 (head_size mib page)
    (min left (8192 - head_size mib page)) front f head less (omega (arith, b.1))
    ∙ ap (λ n. err (not_held (archive_of mib m) mib begin n)) (sym y_is) ∙ ap err (sym is)) read why

pub piece_held : (o : Option Files) (mib begin page left head wanted : ℕ) (front piece : List ℕ)
    → head ≡ head_size mib page → wanted ≡ min left (8192 - head)
    → head + wanted ≤ length front → piece ≡ take wanted (drop head front)
    → ReadsFront mib o page 8192 front
    → IfSome o (λ m. held_piece (archive_of mib m) mib begin page left ≡ Ok piece)
piece_held o mib begin page left head wanted front piece head_is wanted_is fits is read =
    when_told o (λ m. IsFront (archive_of mib m) page 8192 front)
    (λ m. held_piece (archive_of mib m) mib begin page left ≡ Ok piece)
    (λ m f.
    let w : min left (8192 - head_size mib page) ≡ wanted =
    sym (wanted_is ∙ ap (λ n. min left (8192 - n)) head_is) in
    ap (bytes_at (archive_of mib m) mib begin (page + head_size mib page)) w
    ∙ ap (λ n. bytes_at (archive_of mib m) mib begin (page + n) wanted) (sym head_is)
    ∙ front_part (archive_of mib m) mib begin page 8192 head wanted front f fits
    ∙ ap ok (sym is)) read

-- where the head passes the piece decides
pub piece_is : (o now : Option Files) (mib system begin page left : ℕ) → now ≡ o
    → IfSome now (λ m. head_at (archive_of mib m) mib system begin page (Some left) ≡ Ok 0)
    → IfSome o (λ m. page_piece (archive_of mib m) mib system begin page left
    ≡ held_piece (archive_of mib m) mib begin page left)
piece_is o now mib system begin page left same told =
    when_told o (λ m. head_at (archive_of mib m) mib system begin page (Some left) ≡ Ok 0)
    (λ m. page_piece (archive_of mib m) mib system begin page left
    ≡ held_piece (archive_of mib m) mib begin page left)
    (λ m e. rw e refl) (subst (λ (k : Option Files).
    IfSome k (λ m. head_at (archive_of mib m) mib system begin page (Some left) ≡ Ok 0)) same
    told)

pub head_wrong : (o : Option Files) (mib system begin page left : ℕ)
    → IfSome o (λ m. (d : Damage) → head_at (archive_of mib m) mib system begin page (Some left)
    ≡ Err d → page_piece (archive_of mib m) mib system begin page left ≡ Err d)
head_wrong o mib system begin page left =
    all_told o (λ m. (d : Damage) → head_at (archive_of mib m) mib system begin page (Some left)
    ≡ Err d → page_piece (archive_of mib m) mib system begin page left ≡ Err d)
    (λ m d e. rw e refl)

-- ---- all pages

-- what the pages from one on give, where so many bytes are still to come
abbrev pub pages_at : Archive → ℕ → ℕ → ℕ → ℕ → ℕ → ℕ → Result (List ℕ) Damage
pages_at a mib system begin n page left =
    head_at a mib system begin page (Some left) >>= λ h.
    entry_bytes a mib system begin n (page + head_size mib page) left

behind_step : (r : Result ℕ Damage) (s : Result (List ℕ) Damage) (front : List ℕ)
    → behind front (r >>= λ h. s) ≡ (r >>= λ h. behind front s)
behind_step (Ok h) s front = refl
behind_step (Err d) s front = refl

pages_first : (a : Archive) (mib system begin n x count : ℕ) (first : List ℕ)
    → 8192 - x % 8192 < count → bytes_at a mib begin x (8192 - x % 8192) ≡ Ok first
    → behind first (pages_at a mib system begin n (x + (8192 - x % 8192))
    (count - (8192 - x % 8192))) ≡ entry_bytes a mib system begin (suc n) x count
unfolding entry_bytes
pages_first a mib system begin n x count first more read =
    let m : min count (8192 - x % 8192) ≡ 8192 - x % 8192 = omega (arith, more) in
    let r : bytes_at a mib begin x (min count (8192 - x % 8192)) ≡ Ok first =
    ap (bytes_at a mib begin x) m ∙ read in
    let t : leb count (8192 - x % 8192) ≡ false = lt-leb _ _ more in
    let p : ℕ = x + (8192 - x % 8192) in
    behind_step (head_at a mib system begin p (Some (count - (8192 - x % 8192))))
    (entry_bytes a mib system begin n (p + head_size mib p) (count - (8192 - x % 8192))) first
    ∙ sym (rw (r, t) refl)

-- the byte behind a page's head
head_byte : (mib page : ℕ) → page % 8192 ≡ 0 → (page + head_size mib page) % 8192
    ≡ head_size mib page
head_byte mib page start = (let b = head_bounds mib page in omega (arith, b.1, start))

record Passed (a : Archive) (mib system begin page left : ℕ) (piece : List ℕ) : Type 0 where
  h : ℕ
  head : head_at a mib system begin page (Some left) ≡ Ok h
  bytes : held_piece a mib begin page left ≡ Ok piece

passed_by : (r : Result ℕ Damage) (s : Result (List ℕ) Damage) (piece : List ℕ)
    → (r >>= λ h. s) ≡ Ok piece → (h : ℕ) × (r ≡ Ok h) × (s ≡ Ok piece)
passed_by (Ok h) s piece e = (h, refl, e)
passed_by (Err d) s piece e = absurd cc

passed : (a : Archive) (mib system begin page left : ℕ) (piece : List ℕ)
    → page_piece a mib system begin page left ≡ Ok piece → Passed a mib system begin page left piece
passed a mib system begin page left piece e =
    let p = passed_by (head_at a mib system begin page (Some left))
    (held_piece a mib begin page left) piece e in
    record { h = p.0; head = p.1; bytes = p.2 }

pages_last : (a : Archive) (mib system begin n page left : ℕ) (piece : List ℕ) → page % 8192 ≡ 0
    → left ≤ 8192 - head_size mib page → page_piece a mib system begin page left ≡ Ok piece
    → pages_at a mib system begin (suc n) page left ≡ Ok piece
unfolding entry_bytes
pages_last a mib system begin n page left piece start fits e =
    let p = passed a mib system begin page left piece e in
    let o = head_byte mib page start in
    let m : min left (8192 - (page + head_size mib page) % 8192)
    ≡ min left (8192 - head_size mib page) = ap (λ n. min left (8192 - n)) o in
    let r : bytes_at a mib begin (page + head_size mib page)
    (min left (8192 - (page + head_size mib page) % 8192)) ≡ Ok piece =
    ap (bytes_at a mib begin (page + head_size mib page)) m ∙ p.bytes in
    let t : leb left (8192 - (page + head_size mib page) % 8192) ≡ true =
    le-leb _ _ (omega (arith, o, fits)) in
    rw (p.head, r, t) refl

pages_more : (a : Archive) (mib system begin n page left : ℕ) (piece : List ℕ) → page % 8192 ≡ 0
    → 8192 - head_size mib page < left → page_piece a mib system begin page left ≡ Ok piece
    → pages_at a mib system begin (suc n) page left
    ≡ behind piece (pages_at a mib system begin n (page + 8192)
    (left - (8192 - head_size mib page)))
unfolding entry_bytes
pages_more a mib system begin n page left piece start more e =
    let b = head_bounds mib page in
    let p = passed a mib system begin page left piece e in
    let o = head_byte mib page start in
    let m : min left (8192 - (page + head_size mib page) % 8192)
    ≡ min left (8192 - head_size mib page) = ap (λ n. min left (8192 - n)) o in
    let r : bytes_at a mib begin (page + head_size mib page)
    (min left (8192 - (page + head_size mib page) % 8192)) ≡ Ok piece =
    ap (bytes_at a mib begin (page + head_size mib page)) m ∙ p.bytes in
    let t : leb left (8192 - (page + head_size mib page) % 8192) ≡ false =
    lt-leb _ _ (omega (arith, o, more)) in
    let next : page + head_size mib page + (8192 - (page + head_size mib page) % 8192)
    ≡ page + 8192 = omega (arith, o, b.1) in
    let count : left - (8192 - (page + head_size mib page) % 8192)
    ≡ left - (8192 - head_size mib page) = ap (λ n. left - (8192 - n)) o in
    let y : ℕ = page + 8192 in
    let k : ℕ = left - (8192 - head_size mib page) in
    let one : pages_at a mib system begin (suc n) page left
    ≡ (head_at a mib system begin y (Some k) >>= λ h.
    behind piece (entry_bytes a mib system begin n (y + head_size mib y) k)) =
    rw (p.head, r, t, next, count) refl in
    one ∙ sym (behind_step (head_at a mib system begin y (Some k))
    (entry_bytes a mib system begin n (y + head_size mib y) k) piece)

wrong_by : (r : Result ℕ Damage) (s t : Result (List ℕ) Damage) (d : Damage)
    → (r >>= λ h. s) ≡ Err d → (s ≡ Err d → t ≡ Err d) → (r >>= λ h. t) ≡ Err d
wrong_by (Ok h) s t d e step = step e
wrong_by (Err f) s t d e step = cc

pages_wrong : (a : Archive) (mib system begin n page left : ℕ) (d : Damage) → page % 8192 ≡ 0
    → page_piece a mib system begin page left ≡ Err d
    → pages_at a mib system begin (suc n) page left ≡ Err d
unfolding entry_bytes
pages_wrong a mib system begin n page left d start e =
    let o = head_byte mib page start in
    let m : min left (8192 - (page + head_size mib page) % 8192)
    ≡ min left (8192 - head_size mib page) = ap (λ n. min left (8192 - n)) o in
    wrong_by (head_at a mib system begin page (Some left)) (held_piece a mib begin page left)
    (entry_bytes a mib system begin (suc n) (page + head_size mib page) left) d e
    (λ wrong. (let r : bytes_at a mib begin (page + head_size mib page)
    (min left (8192 - (page + head_size mib page) % 8192)) ≡ Err d =
    ap (bytes_at a mib begin (page + head_size mib page)) m ∙ wrong in rw r refl))

-- ---- the same over an area that may not tell: what is read so far, and what the rest gives,
-- make the whole
pub record PagesOn (mib system begin count page left : ℕ) (front : List ℕ) (files : Option Files) :
    Type 0 where
  pub n : ℕ
  pub enough : left ≤ n
  pub more : 0 < left → IfSome files
      (λ m. behind front (pages_at (archive_of mib m) mib system begin n page left)
      ≡ entry_bytes (archive_of mib m) mib system begin count begin count)
  pub done : left ≡ 0 → IfSome files
      (λ m. entry_bytes (archive_of mib m) mib system begin count begin count ≡ Ok front)

pub on_start : (o : Option Files) (mib system begin count page left : ℕ) (first : List ℕ)
    → length first ≡ 8192 - begin % 8192 → length first < count → page ≡ begin + length first
    → left ≡ count - length first
    → ReadsBytes mib o begin first → PagesOn mib system begin count page left first o
on_start o mib system begin count page left first room less page_is left_is read = record {
  n = count - 1;
  enough = omega (arith, left_is, room, less);
  more = λ some. when_told o (λ m. bytes_at (archive_of mib m) mib begin begin (length first)
      ≡ Ok first) (λ m. behind first
      (pages_at (archive_of mib m) mib system begin (count - 1) page left)
      ≡ entry_bytes (archive_of mib m) mib system begin count begin count)
      (λ m e.
      let a : Archive = archive_of mib m in
      let r : bytes_at a mib begin begin (8192 - begin % 8192) ≡ Ok first =
      ap (bytes_at a mib begin begin) (sym room) ∙ e in
      ap (λ k. behind first (pages_at a mib system begin (count - 1) k left))
      (page_is ∙ ap (λ k. begin + k) room)
      ∙ ap (λ k. behind first (pages_at a mib system begin (count - 1)
      (begin + (8192 - begin % 8192)) k)) (left_is ∙ ap (λ k. count - k) room)
      ∙ pages_first a mib system begin (count - 1) begin count first (omega (arith, room, less)) r
      ∙ ap (λ k. entry_bytes a mib system begin k begin count)
      (let e : suc (count - 1) ≡ count = omega (arith, less) in e)) read;
  done = λ none. absurd (omega (arith, none, left_is, less));
}

pub on_page_read : (o now : Option Files) (mib system begin count page left next rest : ℕ)
    (front piece : List ℕ) → now ≡ o → page % 8192 ≡ 0 → 0 < left → next ≡ page + 8192
    → rest ≡ left - length piece
    → length piece ≡ min left (8192 - head_size mib page)
    → PagesOn mib system begin count page left front o
    → IfSome now (λ m. page_piece (archive_of mib m) mib system begin page left ≡ Ok piece)
    → PagesOn mib system begin count next rest (front ++ piece) o
on_page_read o now mib system begin count page left next rest front piece same start some next_is
    rest_is size on told =
    let b = head_bounds mib page in
    let here = subst (λ (k : Option Files).
    IfSome k (λ m. page_piece (archive_of mib m) mib system begin page left ≡ Ok piece)) same
    told in
    record {
      n = on.n - 1;
      enough = omega (arith, on.enough, rest_is, size, b.1, some);
      more = λ still. when_both_told o
          (λ m. behind front (pages_at (archive_of mib m) mib system begin on.n page left)
          ≡ entry_bytes (archive_of mib m) mib system begin count begin count)
          (λ m. page_piece (archive_of mib m) mib system begin page left ≡ Ok piece)
          (λ m. behind (front ++ piece) (pages_at (archive_of mib m) mib system begin (on.n - 1)
          next rest) ≡ entry_bytes (archive_of mib m) mib system begin count begin count)
          (λ m whole e.
          let a : Archive = archive_of mib m in
          let big : 8192 - head_size mib page < left = omega (arith, still, rest_is, size) in
          let fuel : on.n ≡ suc (on.n - 1) = omega (arith, on.enough, some) in
          let k : rest ≡ left - (8192 - head_size mib page) = omega (arith, rest_is, size, big) in
          ap (λ z. behind (front ++ piece) (pages_at a mib system begin (on.n - 1) z rest)) next_is
          ∙ ap (λ z. behind (front ++ piece)
          (pages_at a mib system begin (on.n - 1) (page + 8192) z)) k
          ∙ sym (behind_behind front piece
          (pages_at a mib system begin (on.n - 1) (page + 8192)
          (left - (8192 - head_size mib page))))
          ∙ ap (behind front) (sym (pages_more a mib system begin (on.n - 1) page left piece start
          big e))
          ∙ ap (λ z. behind front (pages_at a mib system begin z page left)) (sym fuel)
          ∙ whole) (on.more some) here;
      done = λ none. when_both_told o
          (λ m. behind front (pages_at (archive_of mib m) mib system begin on.n page left)
          ≡ entry_bytes (archive_of mib m) mib system begin count begin count)
          (λ m. page_piece (archive_of mib m) mib system begin page left ≡ Ok piece)
          (λ m. entry_bytes (archive_of mib m) mib system begin count begin count
          ≡ Ok (front ++ piece))
          (λ m whole e.
          let a : Archive = archive_of mib m in
          let fuel : on.n ≡ suc (on.n - 1) = omega (arith, on.enough, some) in
          sym whole
          ∙ ap (λ z. behind front (pages_at a mib system begin z page left)) fuel
          ∙ ap (behind front) (pages_last a mib system begin (on.n - 1) page left piece start
          (omega (arith, none, rest_is, size)) e)) (on.more some) here;
    }

pub on_page_wrong : (o : Option Files) (mib system begin count page left : ℕ) (front : List ℕ)
    → page % 8192 ≡ 0 → 0 < left → PagesOn mib system begin count page left front o
    → IfSome o (λ m. (d : Damage) → page_piece (archive_of mib m) mib system begin page left ≡ Err d
    → entry_bytes (archive_of mib m) mib system begin count begin count ≡ Err d)
on_page_wrong o mib system begin count page left front start some on =
    when_told o (λ m. behind front (pages_at (archive_of mib m) mib system begin on.n page left)
    ≡ entry_bytes (archive_of mib m) mib system begin count begin count)
    (λ m. (d : Damage) → page_piece (archive_of mib m) mib system begin page left ≡ Err d
    → entry_bytes (archive_of mib m) mib system begin count begin count ≡ Err d)
    (λ m whole d e.
    let a : Archive = archive_of mib m in
    let fuel : on.n ≡ suc (on.n - 1) = omega (arith, on.enough, some) in
    sym whole
    ∙ ap (λ z. behind front (pages_at a mib system begin z page left)) fuel
    ∙ ap (behind front) (pages_wrong a mib system begin (on.n - 1) page left d start e))
    (on.more some)
