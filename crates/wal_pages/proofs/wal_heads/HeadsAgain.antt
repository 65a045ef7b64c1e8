-- Announcements of the grammar are read.
use Rattle.std.proofs.Common.{◌≡◌, ◌≢◌, ℕ, zero, suc, ◌+◌, ◌^◌, ◌<◌, ◌≤◌, Bool, true, false, List, [], ◌∷◌, ◌++◌, length, Option, Some, None, IfSome, refl, ap, arith}
use Rattle.std.specs.Prelude.{nat_le, ◌==◌, if◌then◌else◌}
use Rattle.std.specs.Option.{is_some}
use Rattle.std.specs.Int.{w8, w16, w32, to_le_bytes}
use Rattle.std.proofs.lemmas.Bool.{and_parts, eq-eqb, ne_eqb, le-leb, leb-true, lt-leb}
use Rattle.std.proofs.lemmas.List.{length-append}
use Rattle.lsn_core.proofs.byte_words.Fields.{wide8, wide16, wide32, step_again}
use Rattle.wal_pages.specs.declared.wal_heads.announce.ImageHead.{ImageHead}
use Rattle.wal_pages.specs.declared.wal_heads.announce.RelName.{RelName}
use Rattle.wal_pages.specs.declared.wal_heads.announce.BlockHead.{BlockHead}
use Rattle.wal_pages.specs.declared.wal_heads.announce.MainHead.{MainHead}
use Rattle.wal_pages.specs.declared.wal_heads.announce.MainHead.TheVariants.{Absent, Short, Long}
use Rattle.wal_pages.specs.declared.wal_heads.announce.Announcement.{Announcement}
use Rattle.wal_pages.specs.declared.wal_heads.announce.Announcement.TheVariants.{Block, Last}
use Rattle.wal_pages.specs.wal_heads.Heads.{hole_bytes, image_bytes, rel_bytes, block_bytes, main_bytes, heads_bytes, block_good, block_size, main_size, ImageFits, NameFits, BlockFits, MainFits, AreHeads}
use Rattle.wal_pages.specs.wal_heads.Announcements.{hole_at, image_at, named_at, name_at, block_head_at, next_block_at, last_at, short_at, long_at, step_at, with_head, heads_at}
use Rattle.wal_pages.proofs.wal_heads.Steps.{passes, passes_over, takes_again}

hole_again : (told : Bool) (hole : Option ℕ) (more : List ℕ) → is_some hole ≡ told → IfSome hole (λ n. n < 2 ^ 16) → hole_at told (hole_bytes hole more) ≡ Some (hole, more)
unfolding hole_at
hole_again false None more told good = refl
hole_again true None more told good = absurd cc
hole_again false (Some n) more told good = absurd cc
hole_again true (Some n) more told good = step_again w16 (2 ^ 16) wide16 _ n more _ _ refl good refl

image_again : (told : Bool) (image : Option ImageHead) (more : List ℕ) → is_some image ≡ told → IfSome image ImageFits → image_at told (image_bytes image more) ≡ Some (image, more)
unfolding image_at
image_again false None more told good = refl
image_again true None more told good = absurd cc
image_again false (Some h) more told good = absurd cc
image_again true (Some h) more told good =
    let r3 : List ℕ = hole_bytes h.hole more in
    let r2 : List ℕ = to_le_bytes w8 h.info ++ r3 in
    let r1 : List ℕ = to_le_bytes w16 h.offset ++ r2 in
    step_again w16 (2 ^ 16) wide16 _ h.len r1 _ _ refl good.len (
    step_again w16 (2 ^ 16) wide16 r1 h.offset r2 _ _ refl good.offset (
    step_again w8 (2 ^ 8) wide8 r2 h.info r3 _ _ refl good.info (
    takes_again _ _ (h.hole, more) _ (hole_again _ h.hole more good.hole_told good.hole) refl)))

pub named_again : (r : RelName) (more : List ℕ) → NameFits r → named_at (rel_bytes (Some r) more) ≡ Some (r, more)
unfolding named_at
named_again r more good =
    let r2 : List ℕ = to_le_bytes w32 r.rel ++ more in
    let r1 : List ℕ = to_le_bytes w32 r.db ++ r2 in
    step_again w32 (2 ^ 32) wide32 _ r.space r1 _ _ refl good.space (
    step_again w32 (2 ^ 32) wide32 r1 r.db r2 _ _ refl good.db (
    step_again w32 (2 ^ 32) wide32 r2 r.rel more _ _ refl good.rel refl))

name_again : (told : Bool) (name : Option RelName) (more : List ℕ) → is_some name ≡ told → IfSome name NameFits → name_at told (rel_bytes name more) ≡ Some (name, more)
unfolding name_at
name_again false None more told good = refl
name_again true None more told good = absurd cc
name_again false (Some r) more told good = absurd cc
name_again true (Some r) more told good = takes_again _ _ (r, more) _ (named_again r more good) refl

block_again : (h : BlockHead) (more : List ℕ) → BlockFits h → block_head_at (block_bytes h more) ≡ Some (h, more)
unfolding block_head_at
block_again h more good =
    let r5 : List ℕ = to_le_bytes w32 h.block ++ more in
    let r4 : List ℕ = rel_bytes h.rel r5 in
    let r3 : List ℕ = image_bytes h.image r4 in
    let r2 : List ℕ = to_le_bytes w16 h.data_len ++ r3 in
    let r1 : List ℕ = to_le_bytes w8 h.flags ++ r2 in
    step_again w8 (2 ^ 8) wide8 _ h.id r1 _ _ refl good.id (
    step_again w8 (2 ^ 8) wide8 r1 h.flags r2 _ _ refl good.flags (
    step_again w16 (2 ^ 16) wide16 r2 h.data_len r3 _ _ refl good.data_len (
    takes_again _ _ (h.image, r4) _ (image_again _ h.image r4 good.image_told good.image) (
    takes_again _ _ (h.rel, r5) _ (name_again _ h.rel r5 good.rel_told good.rel) (
    step_again w32 (2 ^ 32) wide32 r5 h.block more _ _ refl good.block refl)))))

-- a part makes no bytes fewer, and a block's announcement makes them more
hole_longer : (hole : Option ℕ) (more : List ℕ) → length more ≤ length (hole_bytes hole more)
hole_longer None more = omega arith
hole_longer (Some n) more = omega (arith, length-append (to_le_bytes w16 n) more)

image_longer : (image : Option ImageHead) (more : List ℕ) → length more ≤ length (image_bytes image more)
image_longer None more = omega arith
image_longer (Some h) more =
    let r : List ℕ = hole_bytes h.hole more in
    omega (arith, hole_longer h.hole more, length-append (to_le_bytes w8 h.info) r, length-append (to_le_bytes w16 h.offset) (to_le_bytes w8 h.info ++ r), length-append (to_le_bytes w16 h.len) (to_le_bytes w16 h.offset ++ (to_le_bytes w8 h.info ++ r)))

name_longer : (name : Option RelName) (more : List ℕ) → length more ≤ length (rel_bytes name more)
name_longer None more = omega arith
name_longer (Some r) more = omega (arith, length-append (to_le_bytes w32 r.rel) more, length-append (to_le_bytes w32 r.db) (to_le_bytes w32 r.rel ++ more), length-append (to_le_bytes w32 r.space) (to_le_bytes w32 r.db ++ (to_le_bytes w32 r.rel ++ more)))

block_longer : (h : BlockHead) (more : List ℕ) → length more < length (block_bytes h more)
block_longer h more =
    let r5 : List ℕ = to_le_bytes w32 h.block ++ more in
    let r4 : List ℕ = rel_bytes h.rel r5 in
    let r3 : List ℕ = image_bytes h.image r4 in
    let r2 : List ℕ = to_le_bytes w16 h.data_len ++ r3 in
    let r1 : List ℕ = to_le_bytes w8 h.flags ++ r2 in
    omega (arith, length-append (to_le_bytes w32 h.block) more, name_longer h.rel r5, image_longer h.image r4, length-append (to_le_bytes w16 h.data_len) r3, length-append (to_le_bytes w8 h.flags) r2, length-append (to_le_bytes w8 h.id) r1)

main_longer : (main : MainHead) (rest : List ℕ) → length rest ≤ length (main_bytes main rest)
main_longer Absent rest = omega arith
main_longer (Short n) rest = omega (arith, length-append (to_le_bytes w8 n) rest, length-append (to_le_bytes w8 255) (to_le_bytes w8 n ++ rest))
main_longer (Long n) rest = omega (arith, length-append (to_le_bytes w32 n) rest, length-append (to_le_bytes w8 254) (to_le_bytes w32 n ++ rest))

-- behind good announcements at least what was announced before them is left
heads_long : (least before : ℕ) (hs : List BlockHead) (main : MainHead) (rest : List ℕ) → AreHeads least before hs main rest → before ≤ length (heads_bytes hs main rest)
heads_long least before [] main rest are = omega (arith, are.1, main_longer main rest)
heads_long least before (h ∷ hs) main rest are = omega (arith, heads_long (h.id + 1) (before + block_size h) hs main rest are.2, block_longer h (heads_bytes hs main rest))

-- ids rise to 32, so there are not more than 33 blocks
heads_few : (least before : ℕ) (hs : List BlockHead) (main : MainHead) (rest : List ℕ) → least ≤ 33 → AreHeads least before hs main rest → length hs + least ≤ 33
heads_few least before [] main rest low are = omega (arith, low)
heads_few least before (h ∷ hs) main rest low are =
    let tests = and_parts _ _ are.1 in
    let more = and_parts _ _ tests.1 in
    let from : least ≤ h.id = leb-true _ _ tests.0 in
    let to : h.id ≤ 32 = leb-true _ _ more.0 in
    omega (arith, heads_few (h.id + 1) (before + block_size h) hs main rest (omega arith) are.2)

last_again : (before : ℕ) (main : MainHead) (rest : List ℕ) → length rest ≡ before + main_size main → last_at before main rest ≡ Some (Last main, rest)
last_again before main rest just = passes _ _ _ _ (eq-eqb _ _ just) refl

-- a step where the announcements end
end_again : (least before : ℕ) (main : MainHead) (rest : List ℕ) → MainFits main → length rest ≡ before + main_size main → step_at least before (main_bytes main rest) ≡ Some (Last main, rest)
unfolding step_at
end_again least before Absent rest good just = let end : length rest ≤ before = omega (arith, just) in passes _ _ _ _ (le-leb _ _ end) (last_again before Absent rest just)
end_again least before (Short n) rest good just =
    let r1 : List ℕ = to_le_bytes w8 n ++ rest in
    let left : before < length (to_le_bytes w8 255 ++ r1) = omega (arith, just, length-append (to_le_bytes w8 n) rest, length-append (to_le_bytes w8 255) r1) in
    passes_over _ _ _ _ (lt-leb _ _ left) (
    step_again w8 (2 ^ 8) wide8 _ 255 r1 _ _ refl (omega arith) (
    step_again w8 (2 ^ 8) wide8 r1 n rest _ _ refl good (last_again before (Short n) rest just)))
end_again least before (Long n) rest good just =
    let r1 : List ℕ = to_le_bytes w32 n ++ rest in
    let left : before < length (to_le_bytes w8 254 ++ r1) = omega (arith, just, length-append (to_le_bytes w32 n) rest, length-append (to_le_bytes w8 254) r1) in
    passes_over _ _ _ _ (lt-leb _ _ left) (
    step_again w8 (2 ^ 8) wide8 _ 254 r1 _ _ refl (omega arith) (
    step_again w32 (2 ^ 32) wide32 r1 n rest _ _ refl good (last_again before (Long n) rest just)))

next_again : (least : ℕ) (h : BlockHead) (more : List ℕ) → BlockFits h → block_good least h ≡ true → next_block_at least (block_bytes h more) ≡ Some (Block h, more)
unfolding next_block_at
next_again least h more good may = takes_again _ _ (h, more) _ (block_again h more good) (passes _ _ _ _ may refl)

-- a step over a block
next_step : (least before : ℕ) (bytes rest : List ℕ) (id : ℕ) (y : Option (Announcement × List ℕ)) → bytes ≡ to_le_bytes w8 id ++ rest → before < length bytes → id ≤ 32 → next_block_at least bytes ≡ y → step_at least before bytes ≡ y
unfolding step_at
next_step least before bytes rest id y e left low go =
    let short : id ≢ 255 = omega (arith, low) in
    let long : id ≢ 254 = omega (arith, low) in
    let small : id < 2 ^ 8 = omega (arith, low) in
    passes_over _ _ _ _ (lt-leb _ _ left) (
    step_again w8 (2 ^ 8) wide8 bytes id rest (λ n. if n.0 == 255 then short_at before n.1 else (if n.0 == 254 then long_at before n.1 else next_block_at least bytes)) _ e small (
    passes_over _ (short_at before rest) _ _ (ne_eqb _ _ short) (
    passes_over _ (long_at before rest) _ _ (ne_eqb _ _ long) go)))

block_step : (least before : ℕ) (h : BlockHead) (more : List ℕ) → BlockFits h → block_good least h ≡ true → before ≤ length more → step_at least before (block_bytes h more) ≡ Some (Block h, more)
block_step least before h more good may long =
    let tests = and_parts (nat_le least h.id) _ may in
    let others = and_parts (nat_le h.id 32) _ tests.1 in
    let low : h.id ≤ 32 = leb-true h.id 32 others.0 in
    let left : before < length (block_bytes h more) = omega (arith, long, block_longer h more) in
    next_step least before (block_bytes h more) _ h.id _ refl left low (next_again least h more good may)

-- what is of the grammar is read
again_from : (n least before : ℕ) (hs : List BlockHead) (main : MainHead) (rest : List ℕ) → AreHeads least before hs main rest → length hs < n → heads_at n least before (heads_bytes hs main rest) ≡ Some (hs, main, rest)
unfolding heads_at
again_from zero least before hs main rest are few = absurd (omega (arith, few))
again_from (suc n) least before [] main rest are few = takes_again _ _ (Last main, rest) _ (end_again least before main rest are.0 are.1) refl
again_from (suc n) least before (h ∷ hs) main rest are few =
    let more : List ℕ = heads_bytes hs main rest in
    let long : before + block_size h ≤ length more = heads_long (h.id + 1) (before + block_size h) hs main rest are.2 in
    takes_again _ _ (Block h, more) _ (block_step least before h more are.0 are.1 (omega (arith, long))) (
    ap (with_head h) (again_from n (h.id + 1) (before + block_size h) hs main rest are.2 (omega (arith, few))))

pub heads_again : (hs : List BlockHead) (main : MainHead) (rest : List ℕ) → AreHeads 0 0 hs main rest → heads_at 34 0 0 (heads_bytes hs main rest) ≡ Some (hs, main, rest)
heads_again hs main rest are = again_from 34 0 0 hs main rest are (omega (arith, heads_few 0 0 hs main rest (omega arith) are))
