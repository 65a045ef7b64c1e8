-- The announcements that are written are of the grammar.
use Rattle.std.proofs.Common.{◌≡◌, ℕ, ◌+◌, ◌-◌, ◌%◌, ◌^◌, ◌<◌, ◌≤◌, Bool, true, false, cond, List, [], ◌∷◌, ◌++◌, length, Option, Some, None, IfSome, refl, sym, ap, arith, not, ◌&&◌}
use Rattle.std.specs.Prelude.{nat_lt, nat_le, ◌==◌}
use Rattle.std.specs.Option.{is_some}
use Rattle.std.specs.List.{All}
use Rattle.std.proofs.lemmas.Bool.{and_from, le-leb, lt-ltb, eqb-true, leb-true}
use Rattle.std.proofs.lemmas.List.{length-append}
use Rattle.std.proofs.lemmas.List.Elements.{All-head, All-tail, All-nil}
use Rattle.lsn_core.specs.Relation.{Relation}
use Rattle.lsn_core.specs.declared.ids.ForkKind.{ForkKind}
use Rattle.lsn_core.specs.declared.ids.ForkKind.TheVariants.{Main, Init}
use Rattle.pg_page.specs.Header.{IsGood, hole_of}
use Rattle.pg_page.specs.Image.{image_of}
use Rattle.pg_page.specs.Frags.{Fragment, bad_frag}
use Rattle.pg_page.proofs.ImageLaws.{length-image_of-Some, length-image_of-None, hole_bounds}
use Rattle.wal_pages.specs.declared.wal_heads.announce.ImageHead.{ImageHead}
use Rattle.wal_pages.specs.declared.wal_heads.announce.MainHead.TheVariants.{Short, Long}
use Rattle.wal_record.specs.declared.record.Kind.{Kind}
use Rattle.wal_record.specs.declared.record.Kind.TheVariants.{Shutdown, Online, RedoMark, NoOp, BackupEnd, Images, Generic, Create, Truncate, Commit}
use Rattle.wal_record.specs.declared.record.BlockRef.{BlockRef}
use Rattle.wal_record.specs.declared.record.Body.{Body}
use Rattle.wal_record.specs.declared.record.Body.TheVariants.{Image, Delta}
use Rattle.wal_pages.specs.wal_heads.Heads.{has_bit, image_good, image_may, block_good, image_size, block_size, main_size, ImageFits, NameFits, BlockFits, MainFits, AreHeads}
use Rattle.wal_record.specs.Spelling.{fork_number, main_of, blocks_of, image_head_of, frags_bytes, body_image, body_flag, body_bytes, body_data_len, is_same, same_flag, told_name, head_of, heads_of, main_head_of, bodies_bytes, IsRelation, IsWritableBody, IsWritableBlock, IsWritable}
use Rattle.wal_record.proofs.Deltas.{frags_most}
use Rattle.wal_record.proofs.Writing.{flags_fit}
use Rattle.wal_record.proofs.Dropping.{length-commit}

-- the flags of a block, by its fork, its body, and whether its relation is the one before
abbrev pub flags_of : ForkKind → Body → Bool → ℕ
flags_of kind body same = fork_number kind + (body_flag body + same_flag same)

image_told : (kind : ForkKind) (body : Body) (same : Bool) → is_some (body_image body) ≡ has_bit (flags_of kind body same) 0x10
unfolding has_bit
image_told Main (Image page) true = refl
image_told Main (Image page) false = refl
image_told Main (Delta frags) true = refl
image_told Main (Delta frags) false = refl
image_told Init (Image page) true = refl
image_told Init (Image page) false = refl
image_told Init (Delta frags) true = refl
image_told Init (Delta frags) false = refl

name_told : (kind : ForkKind) (body : Body) (same : Bool) (rel : Relation) → is_some (told_name same rel) ≡ not (has_bit (flags_of kind body same) 0x80)
unfolding has_bit
name_told Main (Image page) true rel = refl
name_told Main (Image page) false rel = refl
name_told Main (Delta frags) true rel = refl
name_told Main (Delta frags) false rel = refl
name_told Init (Image page) true rel = refl
name_told Init (Image page) false rel = refl
name_told Init (Delta frags) true rel = refl
name_told Init (Delta frags) false rel = refl

fork_told : (kind : ForkKind) (body : Body) (same : Bool) → nat_le (flags_of kind body same % 16) 3 ≡ true
fork_told Main (Image page) true = refl
fork_told Main (Image page) false = refl
fork_told Main (Delta frags) true = refl
fork_told Main (Delta frags) false = refl
fork_told Init (Image page) true = refl
fork_told Init (Image page) false = refl
fork_told Init (Delta frags) true = refl
fork_told Init (Delta frags) false = refl

-- a block of a relation of its own may be the first one
not_same : (kind : ForkKind) (body : Body) (first : Bool) → not (first && has_bit (flags_of kind body false) 0x80) ≡ true
unfolding has_bit
not_same Main (Image page) true = refl
not_same Main (Image page) false = refl
not_same Main (Delta frags) true = refl
not_same Main (Delta frags) false = refl
not_same Init (Image page) true = refl
not_same Init (Image page) false = refl
not_same Init (Delta frags) true = refl
not_same Init (Delta frags) false = refl

may_be_same : (kind : ForkKind) (body : Body) (first same : Bool) → (first ≡ true → same ≡ false) → not (first && has_bit (flags_of kind body same) 0x80) ≡ true
may_be_same kind body first false told = not_same kind body first
may_be_same kind body false true told = refl
may_be_same kind body true true told = absurd (let e : true ≡ false = told refl in cc)

-- fragments take bytes
frags_some : (frags : List Fragment) → bad_frag frags ≡ None → 0 < length (frags_bytes frags)
frags_some [] e = absurd cc
frags_some (f ∷ fs) e = omega arith

data_told : (kind : ForkKind) (body : Body) (same : Bool) (n : ℕ) → (n ≡ body_data_len body) → IsWritableBody body → cond (has_bit (flags_of kind body same) 0x20) (nat_lt 0 n) (n == 0) ≡ true
unfolding has_bit
data_told Main (Image page) true n e w = rw e refl
data_told Main (Image page) false n e w = rw e refl
data_told Init (Image page) true n e w = rw e refl
data_told Init (Image page) false n e w = rw e refl
data_told Main (Delta frags) true n e w = rw e (lt-ltb 0 (length (frags_bytes frags)) (frags_some frags w))
data_told Main (Delta frags) false n e w = rw e (lt-ltb 0 (length (frags_bytes frags)) (frags_some frags w))
data_told Init (Delta frags) true n e w = rw e (lt-ltb 0 (length (frags_bytes frags)) (frags_some frags w))
data_told Init (Delta frags) false n e w = rw e (lt-ltb 0 (length (frags_bytes frags)) (frags_some frags w))

-- an image's head by the hole of its page
record HeadStands (page : List ℕ) (h : ImageHead) : Type 0 where
  may : image_good h ≡ true
  fits : ImageFits h
  len : h.len ≡ length (image_of page)

head_stands_by : (page : List ℕ) (hole : Option (ℕ × ℕ)) → hole_of page ≡ hole → IsGood page → HeadStands page (image_head_of hole)
unfolding has_bit
head_stands_by page None e good = record {
  may = refl;
  fits = record { len = omega arith; offset = omega arith; info = omega arith; hole_told = refl; hole = tt };
  len = sym (length-image_of-None page good e);
}
head_stands_by page (Some (lower, upper)) e good =
    let b = hole_bounds page lower upper good e in
    let some : 0 < lower = omega (arith, b.least) in
    let within : lower ≤ 8192 - (upper - lower) = omega (arith, b.order, b.most) in
    let less : 8192 - (upper - lower) < 8192 = omega (arith, b.order, b.most) in
    record {
      may = and_from _ _ (lt-ltb 0 lower some) (and_from _ _ (le-leb lower (8192 - (upper - lower)) within) (lt-ltb (8192 - (upper - lower)) 8192 less));
      fits = record { len = omega arith; offset = omega (arith, b.order, b.most); info = omega arith; hole_told = refl; hole = tt };
      len = sym (length-image_of-Some page lower upper good e);
    }

image_may_stand : (body : Body) → IsWritableBody body → image_may (body_image body) ≡ true
image_may_stand (Image page) w = (head_stands_by page (hole_of page) refl w.0).may
image_may_stand (Delta frags) w = refl

image_fits : (body : Body) → IsWritableBody body → IfSome (body_image body) ImageFits
image_fits (Image page) w = (head_stands_by page (hole_of page) refl w.0).fits
image_fits (Delta frags) w = tt

data_fits : (body : Body) → IsWritableBody body → body_data_len body < 2 ^ 16
data_fits (Image page) w = omega arith
data_fits (Delta frags) w = omega (arith, frags_most frags w)

pub sized : (body : Body) → IsWritableBody body → image_size (body_image body) + body_data_len body ≡ length (body_bytes body)
sized (Image page) w = omega (arith, (head_stands_by page (hole_of page) refl w.0).len)
sized (Delta frags) w = omega arith

name_fits : (same : Bool) (rel : Relation) → IsRelation rel → IfSome (told_name same rel) NameFits
name_fits true rel is = tt
name_fits false rel is = record { space = omega arith; db = is.fits.0; rel = is.fits.1 }

-- the announcement of a block
head_fits : (id : ℕ) (last : Option Relation) (b : BlockRef) → id ≤ 32 → IsWritableBlock b → BlockFits (head_of id last b)
head_fits id last b low w =
    let same : Bool = is_same last b.at.fork.rel in
    record {
      id = omega (arith, low);
      flags = flags_fit id last b;
      data_len = data_fits b.body w.body;
      image_told = image_told b.at.fork.kind b.body same;
      image = image_fits b.body w.body;
      rel_told = name_told b.at.fork.kind b.body same b.at.fork.rel;
      rel = name_fits same b.at.fork.rel w.rel;
      block = omega (arith, w.number);
    }

-- no block before the first one
abbrev Begins : ℕ → Option Relation → Type 0
Begins id last = (id == 0) ≡ true → last ≡ None

first_apart : (id : ℕ) (last : Option Relation) (rel : Relation) → Begins id last → (id == 0) ≡ true → is_same last rel ≡ false
first_apart id last rel begins e = ap (λ (o : Option Relation). is_same o rel) (begins e)

head_good : (id : ℕ) (last : Option Relation) (b : BlockRef) → id ≤ 32 → Begins id last → IsWritableBlock b → block_good id (head_of id last b) ≡ true
head_good id last b low begins w =
    let same : Bool = is_same last b.at.fork.rel in
    and_from _ _ (le-leb id id (omega arith)) (and_from _ _ (le-leb id 32 low) (and_from _ _ (fork_told b.at.fork.kind b.body same)
    (and_from _ _ (may_be_same b.at.fork.kind b.body (id == 0) same (first_apart id last b.at.fork.rel begins))
    (and_from _ _ (data_told b.at.fork.kind b.body same (body_data_len b.body) refl w.body) (image_may_stand b.body w.body)))))

-- the main data's announcement
main_size_by : (c : Bool) (n : ℕ) → main_size (cond c (Short n) (Long n)) ≡ n
main_size_by true n = refl
main_size_by false n = refl

pub main_sized : (main : List ℕ) → main_size (main_head_of main) ≡ length main
main_sized [] = refl
main_sized (b ∷ bs) = main_size_by (nat_le (length (b ∷ bs)) 255) (length (b ∷ bs))

main_fits_by : (c : Bool) (n : ℕ) → nat_le n 255 ≡ c → n < 2 ^ 32 → MainFits (cond c (Short n) (Long n))
main_fits_by true n e lt = omega (arith, leb-true n 255 e)
main_fits_by false n e lt = lt

main_fits : (main : List ℕ) → length main < 2 ^ 32 → MainFits (main_head_of main)
main_fits [] lt = tt
main_fits (b ∷ bs) lt = main_fits_by (nat_le (length (b ∷ bs)) 255) (length (b ∷ bs)) refl lt

written_from : (id before : ℕ) (last : Option Relation) (blocks : List BlockRef) (main rest : List ℕ) → All IsWritableBlock blocks → id + length blocks ≤ 33 → Begins id last → length main < 2 ^ 32
    → length rest ≡ before + (length (bodies_bytes blocks) + length main) → AreHeads id before (heads_of id last blocks) (main_head_of main) rest
written_from id before last [] main rest w few begins lt len = (main_fits main lt, omega (arith, len, main_sized main))
written_from id before last (b ∷ bs) main rest w few begins lt len =
    let own : IsWritableBlock b = All-head IsWritableBlock b bs w in
    let low : id ≤ 32 = omega (arith, few) in
    let next : Begins (id + 1) (Some b.at.fork.rel) = λ e. absurd (omega (arith, eqb-true (id + 1) 0 e)) in (
      head_fits id last b low own,
      head_good id last b low begins own,
      written_from (id + 1) (before + block_size (head_of id last b)) (Some b.at.fork.rel) bs main rest (All-tail IsWritableBlock b bs w) (omega (arith, few)) next lt
          (omega (arith, len, sized b.body own.body, length-append (body_bytes b.body) (bodies_bytes bs))),
    )

main_few : (kind : Kind) → IsWritable kind → length (main_of kind) < 2 ^ 32
main_few (Shutdown redo) w = omega arith
main_few (Online redo) w = omega arith
main_few (RedoMark n) w = omega arith
main_few NoOp w = omega arith
main_few (BackupEnd start) w = omega arith
main_few (Images blocks) w = omega arith
main_few (Generic blocks) w = omega arith
main_few (Create fork) w = omega arith
main_few (Truncate rel count flags) w = omega arith
main_few (Commit time rels) w = omega (arith, length-commit time rels, w.1.1)

-- the blocks of what can be written
record BlocksStand (kind : Kind) : Type 0 where
  each : All IsWritableBlock (blocks_of kind)
  few : length (blocks_of kind) ≤ 33

blocks_stand : (kind : Kind) → IsWritable kind → BlocksStand kind
blocks_stand (Shutdown redo) w = record { each = All-nil IsWritableBlock; few = omega arith }
blocks_stand (Online redo) w = record { each = All-nil IsWritableBlock; few = omega arith }
blocks_stand (RedoMark n) w = record { each = All-nil IsWritableBlock; few = omega arith }
blocks_stand NoOp w = record { each = All-nil IsWritableBlock; few = omega arith }
blocks_stand (BackupEnd start) w = record { each = All-nil IsWritableBlock; few = omega arith }
blocks_stand (Images blocks) w = record { each = w.0.each; few = w.0.most }
blocks_stand (Generic blocks) w = record { each = w.each; few = w.most }
blocks_stand (Create fork) w = record { each = All-nil IsWritableBlock; few = omega arith }
blocks_stand (Truncate rel count flags) w = record { each = All-nil IsWritableBlock; few = omega arith }
blocks_stand (Commit time rels) w = record { each = All-nil IsWritableBlock; few = omega arith }

pub heads_written : (kind : Kind) → IsWritable kind → AreHeads 0 0 (heads_of 0 None (blocks_of kind)) (main_head_of (main_of kind)) (bodies_bytes (blocks_of kind) ++ main_of kind)
heads_written kind w =
    let s = blocks_stand kind w in
    let lt : length (main_of kind) < 2 ^ 32 = main_few kind w in
    written_from 0 0 None (blocks_of kind) (main_of kind) (bodies_bytes (blocks_of kind) ++ main_of kind) s.each (omega (arith, s.few)) (λ e. refl) lt (omega (arith, length-append (bodies_bytes (blocks_of kind)) (main_of kind)))
