-- Where no entry's bytes stand behind a tip, the archive is broken there or a segment is missing.
use Rattle.std.proofs.Common.{◌≡◌, ℕ, zero, suc, ◌+◌, ◌-◌, ◌/◌, ◌%◌, Bool, true, false, cond, List, [], ◌∷◌, ◌++◌, Option, Some, None, Result, Ok, Err, refl, sym, ap, ◌∙◌}
use Rattle.std.specs.Prelude.{min, nat_le, not, ◌==◌}
use Rattle.lsn_core.specs.Segment.{segment_bytes}
use Rattle.lsn_core.specs.Sizes.{page_size}
use Rattle.lsn_core.specs.byte_words.Numbers.{u32_in}
use Rattle.wal_pages.specs.Heads.{head_fault}
use Rattle.wal_pages.specs.Places.{head_size, start_after}
use Rattle.wal_pages.specs.declared.heads.HeadFault.{HeadFault}
use Rattle.wal_archive.specs.Archive.{Archive}
use Rattle.wal_archive.specs.Rules.{broken_at, bytes_at, ends_at, entry_at, entry_bytes, first_head, head_at, head_said, held_or, is_total, left_on_page, missing, next_bytes, not_held, ◌>>=◌}
use Rattle.wal_archive.specs.declared.fault.Broken.TheVariants as broken
use Rattle.wal_archive.specs.declared.fault.Damage.{Damage}
use Rattle.store_restart.specs.Survivors.{is_torn}

abbrev IsTornOnly : {A : Type 0} → Result A Damage → Type 0
IsTornOnly x = (d : Damage) → x ≡ Err d → is_torn d ≡ true

torn_ok : {A : Type 0} (a : A) → IsTornOnly (Ok a)
torn_ok {A} a d e = absurd (let k : ◌≡◌ {A = Result A Damage} (Ok a) (Err d) = e in cc)

one_damage : {A : Type 0} (a b : Damage) → ◌≡◌ {A = Result A Damage} (Err a) (Err b) → a ≡ b
one_damage a b e = cc

torn_err : {A : Type 0} (why : Damage) → is_torn why ≡ true → IsTornOnly {A = A} (Err why)
torn_err {A} why torn d e = ap is_torn (sym (one_damage {A = A} why d e)) ∙ torn

torn_bind : {A B : Type 0} (x : Result A Damage) (f : A → Result B Damage) → IsTornOnly x → ((a : A) → IsTornOnly (f a)) → IsTornOnly (x >>= f)
torn_bind (Ok a) f first rest = rest a
torn_bind {A} {B} (Err why) f first rest = torn_err {A = B} why (first why refl)

torn_if : {A : Type 0} (b : Bool) (x y : Result A Damage) → IsTornOnly x → IsTornOnly y → IsTornOnly (cond b x y)
torn_if true x y first second = first
torn_if false x y first second = second

either_torn : (b : Bool) (x y : Damage) → is_torn x ≡ true → is_torn y ≡ true → is_torn (cond b x y) ≡ true
either_torn true x y first second = first
either_torn false x y first second = second

not_held_torn : (a : Archive) (mib begin x : ℕ) → is_torn (not_held a mib begin x) ≡ true
unfolding not_held
not_held_torn a mib begin x =
    either_torn (nat_le a.top x) (broken_at begin broken.Torn) _ refl
    (either_torn (not (a.has_file (x / segment_bytes mib))) (missing (x / segment_bytes mib)) (broken_at (a.file_end (x / segment_bytes mib)) broken.SegSize) refl refl)

held_torn : (why : Damage) (o : Option ℕ) → is_torn why ≡ true → IsTornOnly (held_or why o)
held_torn why None torn = torn_err {A = ℕ} why torn
held_torn why (Some b) torn = torn_ok b

bytes_torn : (a : Archive) (mib begin x n : ℕ) → IsTornOnly (bytes_at a mib begin x n)
unfolding bytes_at
bytes_torn a mib begin x zero = torn_ok []
bytes_torn a mib begin x (suc n) =
    torn_bind (held_or (not_held a mib begin x) (a.byte x)) _ (held_torn (not_held a mib begin x) (a.byte x) (not_held_torn a mib begin x)) (λ b.
    torn_bind (bytes_at a mib begin (x + 1) n) _ (bytes_torn a mib begin (x + 1) n) (λ bs. torn_ok (b ∷ bs)))

said_torn : (page : ℕ) (o : Option HeadFault) → IsTornOnly (head_said page o)
said_torn page None = torn_ok 0
said_torn page (Some why) = torn_err {A = ℕ} (broken_at page (broken.Head why)) refl

head_torn : (a : Archive) (mib system begin page : ℕ) (size : Option ℕ) → IsTornOnly (head_at a mib system begin page size)
unfolding head_at
head_torn a mib system begin page size = torn_bind (bytes_at a mib begin page (head_size mib page)) _ (bytes_torn a mib begin page (head_size mib page)) (λ bytes. said_torn page (head_fault mib system page size bytes))

pieces_torn : (a : Archive) (mib system begin pages x count : ℕ) → IsTornOnly (entry_bytes a mib system begin pages x count)
unfolding entry_bytes
pieces_torn a mib system begin zero x count = torn_ok []
pieces_torn a mib system begin (suc pages) x count =
    torn_bind (bytes_at a mib begin x (min count (left_on_page x))) _ (bytes_torn a mib begin x (min count (left_on_page x))) (λ front.
    torn_if (nat_le count (left_on_page x)) (Ok front) _ (torn_ok front)
    (torn_bind (head_at a mib system begin (x + left_on_page x) (Some (count - left_on_page x))) _ (head_torn a mib system begin (x + left_on_page x) (Some (count - left_on_page x))) (λ h.
    torn_bind (entry_bytes a mib system begin pages (x + left_on_page x + head_size mib (x + left_on_page x)) (count - left_on_page x)) _
    (pieces_torn a mib system begin pages (x + left_on_page x + head_size mib (x + left_on_page x)) (count - left_on_page x)) (λ more. torn_ok (front ++ more)))))

entry_torn : (a : Archive) (mib system start : ℕ) → IsTornOnly (entry_at a mib system start)
unfolding entry_at
entry_torn a mib system start =
    torn_bind (bytes_at a mib start start 4) _ (bytes_torn a mib start start 4) (λ len.
    torn_if (is_total (u32_in len 0)) (entry_bytes a mib system start (u32_in len 0) start (u32_in len 0)) (Err (broken_at start broken.Length))
    (pieces_torn a mib system start (u32_in len 0) start (u32_in len 0)) (torn_err {A = List ℕ} (broken_at start broken.Length) refl))

pub next_torn : (a : Archive) (mib system e : ℕ) (d : Damage) → next_bytes a mib system e ≡ Err d → is_torn d ≡ true
unfolding next_bytes
next_torn a mib system e d is =
    torn_if (nat_le a.top e) (Ok None) _ (torn_ok None)
    (torn_if (not (a.has_file (e / segment_bytes mib))) (Err (missing (e / segment_bytes mib))) _ (torn_err {A = Option (List ℕ)} (missing (e / segment_bytes mib)) refl)
    (torn_if (ends_at a mib system e) (Ok None) _ (torn_ok None)
    (torn_bind (first_head a mib system e) _ (torn_if (e % page_size == 0) (head_at a mib system e e (Some 0)) (Ok 0) (head_torn a mib system e e (Some 0)) (torn_ok 0)) (λ h.
    torn_bind (entry_at a mib system (start_after mib e)) _ (entry_torn a mib system (start_after mib e)) (λ bytes. torn_ok (Some bytes)))))) d is
