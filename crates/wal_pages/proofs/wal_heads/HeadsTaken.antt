-- Announcements that are read are of the grammar.
use Rattle.std.proofs.Common.{◌≡◌, ℕ, zero, suc, ◌+◌, ◌^◌, ◌<◌, Bool, true, false, List, [], ◌∷◌, ◌++◌, length, Option, Some, None, IfSome, refl, ap, subst, ◌∙◌, ◌&&◌, not}
use Rattle.std.specs.Prelude.{nat_le, ◌==◌, if◌then◌else◌}
use Rattle.std.specs.Option.{is_some}
use Rattle.std.specs.Int.{w8, w16, w32, to_le_bytes}
use Rattle.std.proofs.lemmas.Bool.{eqb-true}
use Rattle.lsn_core.specs.byte_words.Numbers.{IsBytes, ◌>>=◌, number_at}
use Rattle.lsn_core.proofs.byte_words.Fields.{wide8, wide16, wide32, step, put_front}
use Rattle.wal_pages.specs.declared.wal_heads.announce.ImageHead.{ImageHead}
use Rattle.wal_pages.specs.declared.wal_heads.announce.RelName.{RelName}
use Rattle.wal_pages.specs.declared.wal_heads.announce.BlockHead.{BlockHead}
use Rattle.wal_pages.specs.declared.wal_heads.announce.MainHead.{MainHead}
use Rattle.wal_pages.specs.declared.wal_heads.announce.MainHead.TheVariants.{Absent, Short, Long}
use Rattle.wal_pages.specs.declared.wal_heads.announce.Announcement.{Announcement}
use Rattle.wal_pages.specs.declared.wal_heads.announce.Announcement.TheVariants.{Block, Last}
use Rattle.wal_pages.specs.wal_heads.Heads.{hole_bytes, image_bytes, rel_bytes, block_bytes, main_bytes, heads_bytes, has_bit, is_compressed, block_good, block_size, main_size, ImageFits, NameFits, BlockFits, MainFits, AreHeads}
use Rattle.wal_pages.specs.wal_heads.Announcements.{hole_at, image_at, named_at, name_at, block_head, block_head_at, next_block_at, last_at, short_at, long_at, step_at, Heads, with_head, goes_on, heads_at}
use Rattle.wal_pages.proofs.wal_heads.Steps.{passed, either, took}

-- a part that is there exactly where it is told
pub record HoleTaken (told : Bool) (bytes : List ℕ) (x : Option ℕ × List ℕ) : Type 0 where
  pub spelled : bytes ≡ hole_bytes x.0 x.1
  pub told_so : is_some x.0 ≡ told
  pub good : IfSome x.0 (λ n. n < 2 ^ 16)
  pub fits : IsBytes x.1

hole_takes : (told : Bool) (bytes : List ℕ) (x : Option ℕ × List ℕ) → IsBytes bytes → hole_at told bytes ≡ Some x → HoleTaken told bytes x
unfolding hole_at
hole_takes false bytes x fits e =
    let same : (None, bytes) ≡ x = cc in
    subst (HoleTaken false bytes) same (record { spelled = refl; told_so = refl; good = tt; fits = fits })
hole_takes true bytes x fits e =
    let P : Type 0 = HoleTaken true bytes x in
    step w16 (2 ^ 16) wide16 bytes _ x P fits e (λ n r1 e1 f1 g1 b1.
    let same : (Some n, r1) ≡ x = cc in
    subst (HoleTaken true bytes) same (record { spelled = e1; told_so = refl; good = b1; fits = f1 }))

pub record ImageTaken (told : Bool) (bytes : List ℕ) (x : Option ImageHead × List ℕ) : Type 0 where
  pub spelled : bytes ≡ image_bytes x.0 x.1
  pub told_so : is_some x.0 ≡ told
  pub good : IfSome x.0 ImageFits
  pub fits : IsBytes x.1

image_takes : (told : Bool) (bytes : List ℕ) (x : Option ImageHead × List ℕ) → IsBytes bytes → image_at told bytes ≡ Some x → ImageTaken told bytes x
unfolding image_at
image_takes false bytes x fits e =
    let same : (None, bytes) ≡ x = cc in
    subst (ImageTaken false bytes) same (record { spelled = refl; told_so = refl; good = tt; fits = fits })
image_takes true bytes x fits e =
    let P : Type 0 = ImageTaken true bytes x in
    step w16 (2 ^ 16) wide16 bytes _ x P fits e (λ len r1 e1 f1 g1 b1.
    step w16 (2 ^ 16) wide16 r1 _ x P f1 g1 (λ offset r2 e2 f2 g2 b2.
    step w8 (2 ^ 8) wide8 r2 _ x P f2 g2 (λ info r3 e3 f3 g3 b3.
    took _ _ x P g3 (λ hole e4 g4.
    let t4 = hole_takes (has_bit info 1 && is_compressed info) r3 hole f3 e4 in
    let same : (Some (record { len = len; offset = offset; info = info; hole = hole.0 }), hole.1) ≡ x = cc in
    subst (ImageTaken true bytes) same (record {
      spelled = put_front w16 len len bytes r1 _ refl e1 (put_front w16 offset offset r1 r2 _ refl e2 (put_front w8 info info r2 r3 _ refl e3 t4.spelled));
      told_so = refl;
      good = record { len = b1; offset = b2; info = b3; hole_told = t4.told_so; hole = t4.good };
      fits = t4.fits;
    })))))

pub record NamedTaken (bytes : List ℕ) (x : RelName × List ℕ) : Type 0 where
  pub spelled : bytes ≡ rel_bytes (Some x.0) x.1
  pub good : NameFits x.0
  pub fits : IsBytes x.1

named_takes : (bytes : List ℕ) (x : RelName × List ℕ) → IsBytes bytes → named_at bytes ≡ Some x → NamedTaken bytes x
unfolding named_at
named_takes bytes x fits e =
    let P : Type 0 = NamedTaken bytes x in
    step w32 (2 ^ 32) wide32 bytes _ x P fits e (λ space r1 e1 f1 g1 b1.
    step w32 (2 ^ 32) wide32 r1 _ x P f1 g1 (λ db r2 e2 f2 g2 b2.
    step w32 (2 ^ 32) wide32 r2 _ x P f2 g2 (λ rel r3 e3 f3 g3 b3.
    let same : (record { space = space; db = db; rel = rel }, r3) ≡ x = cc in
    subst (NamedTaken bytes) same (record {
      spelled = put_front w32 space space bytes r1 _ refl e1 (put_front w32 db db r1 r2 _ refl e2 e3);
      good = record { space = b1; db = b2; rel = b3 };
      fits = f3;
    }))))

pub record NameTaken (told : Bool) (bytes : List ℕ) (x : Option RelName × List ℕ) : Type 0 where
  pub spelled : bytes ≡ rel_bytes x.0 x.1
  pub told_so : is_some x.0 ≡ told
  pub good : IfSome x.0 NameFits
  pub fits : IsBytes x.1

name_takes : (told : Bool) (bytes : List ℕ) (x : Option RelName × List ℕ) → IsBytes bytes → name_at told bytes ≡ Some x → NameTaken told bytes x
unfolding name_at
name_takes false bytes x fits e =
    let same : (None, bytes) ≡ x = cc in
    subst (NameTaken false bytes) same (record { spelled = refl; told_so = refl; good = tt; fits = fits })
name_takes true bytes x fits e =
    took _ _ x (NameTaken true bytes x) e (λ name e1 g1.
    let t = named_takes bytes name fits e1 in
    let same : (Some name.0, name.1) ≡ x = cc in
    subst (NameTaken true bytes) same (record { spelled = t.spelled; told_so = refl; good = t.good; fits = t.fits }))

-- a block's announcement
pub record BlockTaken (bytes : List ℕ) (x : BlockHead × List ℕ) : Type 0 where
  pub spelled : bytes ≡ block_bytes x.0 x.1
  pub good : BlockFits x.0
  pub fits : IsBytes x.1

block_takes : (bytes : List ℕ) (x : BlockHead × List ℕ) → IsBytes bytes → block_head_at bytes ≡ Some x → BlockTaken bytes x
unfolding block_head_at
block_takes bytes x fits e =
    let P : Type 0 = BlockTaken bytes x in
    step w8 (2 ^ 8) wide8 bytes _ x P fits e (λ id r1 e1 f1 g1 b1.
    step w8 (2 ^ 8) wide8 r1 _ x P f1 g1 (λ flags r2 e2 f2 g2 b2.
    step w16 (2 ^ 16) wide16 r2 _ x P f2 g2 (λ data_len r3 e3 f3 g3 b3.
    took _ _ x P g3 (λ image e4 g4.
    let t4 = image_takes (has_bit flags 0x10) r3 image f3 e4 in
    took _ _ x P g4 (λ rel e5 g5.
    let t5 = name_takes (not (has_bit flags 0x80)) image.1 rel t4.fits e5 in
    step w32 (2 ^ 32) wide32 rel.1 _ x P t5.fits g5 (λ block r6 e6 f6 g6 b6.
    let same : (block_head id flags data_len image.0 rel.0 block, r6) ≡ x = cc in
    let named : image.1 ≡ rel_bytes rel.0 (to_le_bytes w32 block ++ r6) = t5.spelled ∙ ap (rel_bytes rel.0) e6 in
    subst (BlockTaken bytes) same (record {
      spelled = put_front w8 id id bytes r1 _ refl e1 (put_front w8 flags flags r1 r2 _ refl e2 (put_front w16 data_len data_len r2 r3 _ refl e3 (t4.spelled ∙ ap (image_bytes image.0) named)));
      good = record { id = b1; flags = b2; data_len = b3; image_told = t4.told_so; image = t4.good; rel_told = t5.told_so; rel = t5.good; block = b6 };
      fits = f6;
    })))))))

-- what a step says of the bytes
record LastTaken (before : ℕ) (bytes : List ℕ) (main : MainHead) (rest : List ℕ) : Type 0 where
  spelled : bytes ≡ main_bytes main rest
  good : MainFits main
  just : length rest ≡ before + main_size main
  fits : IsBytes rest

record NextTaken (least : ℕ) (bytes : List ℕ) (h : BlockHead) (rest : List ℕ) : Type 0 where
  spelled : bytes ≡ block_bytes h rest
  good : BlockFits h
  may : block_good least h ≡ true
  fits : IsBytes rest

abbrev StepTaken : ℕ → ℕ → List ℕ → Announcement × List ℕ → Type 0
StepTaken least before bytes (Last main, rest) = LastTaken before bytes main rest
StepTaken least before bytes (Block h, rest) = NextTaken least bytes h rest

last_takes : (least before : ℕ) (bytes : List ℕ) (main : MainHead) (rest : List ℕ) (x : Announcement × List ℕ) → bytes ≡ main_bytes main rest → MainFits main → IsBytes rest → last_at before main rest ≡ Some x → StepTaken least before bytes x
last_takes least before bytes main rest x spelled good fits e =
    passed _ (Last main, rest) x (StepTaken least before bytes x) e (λ t same.
    subst (StepTaken least before bytes) same (record { spelled = spelled; good = good; just = eqb-true _ _ t; fits = fits }))

next_takes : (least before : ℕ) (bytes : List ℕ) (x : Announcement × List ℕ) → IsBytes bytes → next_block_at least bytes ≡ Some x → StepTaken least before bytes x
unfolding next_block_at
next_takes least before bytes x fits e =
    let P : Type 0 = StepTaken least before bytes x in
    took _ _ x P e (λ h e1 g1.
    let t = block_takes bytes h fits e1 in
    passed _ (Block h.0, h.1) x P g1 (λ may same.
    subst (StepTaken least before bytes) same (record { spelled = t.spelled; good = t.good; may = may; fits = t.fits })))

-- a step by the id at the front
by_id : ℕ → ℕ → List ℕ → ℕ × List ℕ → Option (Announcement × List ℕ)
by_id least before bytes id = if id.0 == 255 then short_at before id.1 else (if id.0 == 254 then long_at before id.1 else next_block_at least bytes)

by_id_takes : (least before id : ℕ) (bytes rest : List ℕ) (x : Announcement × List ℕ) → bytes ≡ to_le_bytes w8 id ++ rest → IsBytes bytes → IsBytes rest → by_id least before bytes (id, rest) ≡ Some x → StepTaken least before bytes x
unfolding by_id
by_id_takes least before id bytes rest x spelled fits more e =
    let P : Type 0 = StepTaken least before bytes x in
    either (id == 255) (short_at before rest) (if id == 254 then long_at before rest else next_block_at least bytes) x P e
    (λ t g. step w8 (2 ^ 8) wide8 rest (λ n. last_at before (Short n.0) n.1) x P more g (λ n r e1 f1 g1 b1. last_takes least before bytes (Short n) r x (put_front w8 id 255 bytes rest _ (eqb-true _ _ t) spelled e1) b1 f1 g1))
    (λ u h. either (id == 254) (long_at before rest) (next_block_at least bytes) x P h
    (λ t g. step w32 (2 ^ 32) wide32 rest (λ n. last_at before (Long n.0) n.1) x P more g (λ n r e1 f1 g1 b1. last_takes least before bytes (Long n) r x (put_front w8 id 254 bytes rest _ (eqb-true _ _ t) spelled e1) b1 f1 g1))
    (λ t g. next_takes least before bytes x fits g))

step_takes : (least before : ℕ) (bytes : List ℕ) (x : Announcement × List ℕ) → IsBytes bytes → step_at least before bytes ≡ Some x → StepTaken least before bytes x
unfolding step_at by_id
step_takes least before bytes x fits e =
    let P : Type 0 = StepTaken least before bytes x in
    either (nat_le (length bytes) before) (last_at before Absent bytes) (number_at w8 bytes >>= by_id least before bytes) x P e (λ t g. last_takes least before bytes Absent bytes x refl tt fits g) (λ t g.
    step w8 (2 ^ 8) wide8 bytes (by_id least before bytes) x P fits g (λ id rest e1 f1 g1 b1. by_id_takes least before id bytes rest x e1 fits f1 g1))

-- all announcements, and the bytes behind them
pub record HeadsTaken (least before : ℕ) (bytes : List ℕ) (x : Heads) : Type 0 where
  pub spelled : bytes ≡ heads_bytes x.0 x.1 x.2
  pub are : AreHeads least before x.0 x.1 x.2
  pub fits : IsBytes x.2

-- what a block adds to what is read behind it
with_some : (h : BlockHead) (o : Option Heads) (x : Heads) (P : Type 0) → with_head h o ≡ Some x → ((y : Heads) → o ≡ Some y → (h ∷ y.0, y.1, y.2) ≡ x → P) → P
with_some h None x P e go = absurd cc
with_some h (Some y) x P e go = go y refl cc

followed : (n least before : ℕ) (bytes : List ℕ) (a : Announcement) (rest : List ℕ) (x : Heads) → StepTaken least before bytes (a, rest) → goes_on (heads_at n) before (a, rest) ≡ Some x
    → ((h : BlockHead) (y : Heads) → IsBytes rest → heads_at n (h.id + 1) (before + block_size h) rest ≡ Some y → HeadsTaken (h.id + 1) (before + block_size h) rest y) → HeadsTaken least before bytes x
followed n least before bytes (Last main) rest x t e go =
    let same : ([], main, rest) ≡ x = cc in
    subst (HeadsTaken least before bytes) same (record { spelled = t.spelled; are = (t.good, t.just); fits = t.fits })
followed n least before bytes (Block h) rest x t e go =
    with_some h (heads_at n (h.id + 1) (before + block_size h) rest) x (HeadsTaken least before bytes x) e (λ y e1 same.
    let more = go h y t.fits e1 in
    subst (HeadsTaken least before bytes) same (record { spelled = t.spelled ∙ ap (block_bytes h) more.spelled; are = (t.good, t.may, more.are); fits = more.fits }))

pub heads_takes : (n least before : ℕ) (bytes : List ℕ) (x : Heads) → IsBytes bytes → heads_at n least before bytes ≡ Some x → HeadsTaken least before bytes x
unfolding heads_at
heads_takes zero least before bytes x fits e = absurd cc
heads_takes (suc n) least before bytes x fits e =
    took _ _ x (HeadsTaken least before bytes x) e (λ a e1 g1.
    followed n least before bytes a.0 a.1 x (step_takes least before bytes a fits e1) g1 (λ h y f e2. heads_takes n (h.id + 1) (before + block_size h) a.1 y f e2))
