-- What is read is sound, and so is what can be written.
use Rattle.std.proofs.Common.{◌≡◌, ℕ, zero, suc, ◌%◌, ◌<◌, Bool, true, false, cond, List, [], ◌∷◌, length, take, drop, Option, Some, None, Result, Ok, Err, IfOk, refl, subst, arith, ◌&&◌, ◌||◌}
use Rattle.std.specs.Prelude.{nat_lt, nat_le, ◌==◌}
use Rattle.std.specs.Option.{is_none}
use Rattle.std.specs.List.{All}
use Rattle.std.proofs.lemmas.Bool.{and_parts, or_parts, ltb-true, ltb-false, eqb-false}
use Rattle.std.proofs.lemmas.List.Elements.{All-nil, All-cons, All-head, All-tail}
use Rattle.lsn_core.specs.Relation.{Relation}
use Rattle.lsn_core.specs.declared.ids.BlockId.{BlockId}
use Rattle.lsn_core.specs.declared.ids.ForkId.{ForkId}
use Rattle.lsn_core.specs.declared.lsn.Lsn.{Lsn}
use Rattle.lsn_core.specs.declared.lsn.Place.{Place}
use Rattle.pg_page.specs.Header.{IsGood}
use Rattle.pg_page.specs.Image.{restored}
use Rattle.pg_page.specs.Frags.{Fragment, bad_frag, is_good}
use Rattle.pg_page.proofs.PatchLaws.{good_told}
use Rattle.wal_pages.specs.declared.wal_heads.announce.BlockHead.{BlockHead}
use Rattle.wal_pages.specs.declared.wal_heads.announce.ImageHead.{ImageHead}
use Rattle.wal_pages.specs.declared.wal_heads.announce.MainHead.{MainHead}
use Rattle.wal_pages.specs.declared.wal_heads.announce.RelName.{RelName}
use Rattle.wal_pages.specs.declared.wal_heads.header.Form.{Form}
use Rattle.wal_pages.specs.declared.wal_heads.header.Form.TheVariants as forms
use Rattle.wal_pages.specs.declared.wal_heads.header.Header.{Header}
use Rattle.wal_record.specs.declared.record.BlockRef.{BlockRef}
use Rattle.wal_record.specs.declared.record.Body.{Body}
use Rattle.wal_record.specs.declared.record.Body.TheVariants.{Image, Delta}
use Rattle.wal_record.specs.declared.record.Kind.{Kind}
use Rattle.wal_record.specs.declared.record.Kind.TheVariants.{Shutdown, Online, RedoMark, NoOp, BackupEnd, Images, Generic, Create, Truncate, Commit}
use Rattle.wal_record.specs.declared.record.Record.{Record}
use Rattle.wal_record.specs.declared.record.RecordFault.{RecordFault}
use Rattle.wal_record.specs.declared.record.RecordFault.TheVariants as faults
use Rattle.wal_record.specs.declared.record.Why.{Why}
use Rattle.wal_record.specs.declared.record.Why.TheVariants as whys
use Rattle.wal_pages.specs.wal_heads.Announcements.{named_at, heads_at}
use Rattle.wal_pages.specs.wal_heads.Heads.{image_size, block_size, main_size}
use Rattle.wal_pages.specs.wal_heads.Header.{parts_at, is_linked, entry_sum, form_of}
use Rattle.wal_record.specs.Outcome.{or_fault, refused, Gives}
use Rattle.wal_record.specs.Parts.{last_of, good_page, page_at, frags_at, delta_at, checkpoint_at, mark_at, start_at, creation_at, truncation_at, commit_time_at, commit_at}
use Rattle.wal_record.specs.Content.{fork_numbered, relation_of, is_packed, is_applied, id_said, has_blocks, has_deltas, image_said, delta_said, body_by, block_said, own_name, with_block, blocks_said, no_name, creation_said, truncation_said, rel_said, with_rel, rels_said, commit_said, has_other_bits, blocks_alone, kind_said, said}
use Rattle.wal_record.specs.Decoding.{kind_at, may_come, record_in, record_at}
use Rattle.wal_record.specs.Spelling.{IsImage, IsWritableBody, IsWritableBlock, IsRelation, IsWritable}
use Rattle.wal_record.specs.Sound.{HasNumbers, IsSoundBody, IsSoundBlock, IsSound}
use Rattle.wal_pages.proofs.wal_heads.Steps.{passed, took}
use Rattle.wal_record.proofs.EntryTaken.{went, is_there, says_so, held, held_at_last}

-- a test before the rest of a reading, where it is refused if it holds, or unless it holds
unless_held : {A E : Type 0} (b : Bool) (fault : E) (o : Result A E) (y : A) (P : Type 0) → cond b (Err fault) o ≡ Ok y → (b ≡ false → o ≡ Ok y → P) → P
unless_held true fault o y P e go = absurd cc
unless_held false fault o y P e go = go refl e

where_held : {A E : Type 0} (b : Bool) (fault : E) (o : Result A E) (y : A) (P : Type 0) → cond b o (Err fault) ≡ Ok y → (b ≡ true → o ≡ Ok y → P) → P
where_held true fault o y P e go = go refl e
where_held false fault o y P e go = absurd cc

some_held : {A : Type 0} (b : Bool) (o : Option A) (y : A) (P : Type 0) → cond b o None ≡ Some y → (b ≡ true → o ≡ Some y → P) → P
some_held true o y P e go = go refl e
some_held false o y P e go = absurd cc

named_sound : (name : RelName) (rel : Relation) → relation_of name ≡ Some rel → HasNumbers rel
named_sound name rel e =
    passed (nat_lt 0 name.db && nat_lt 0 name.rel) _ rel (HasNumbers rel) e (λ t same.
    let tests = and_parts (nat_lt 0 name.db) (nat_lt 0 name.rel) t in
    subst HasNumbers same (ltb-true 0 name.db tests.0, ltb-true 0 name.rel tests.1))

record IdSound (at : BlockId) : Type 0 where
  number : at.block < 32768
  rel : HasNumbers at.fork.rel

id_sound : (name : RelName) (head : BlockHead) (at : BlockId) → id_said name head ≡ Ok at → IdSound at
unfolding id_said
id_sound name head at e =
    let P : Type 0 = IdSound at in
    unless_held (is_packed head.image) _ _ at P e (λ t1 g1.
    held (is_applied head.image) _ _ at P g1 (λ t2 g2.
    held (name.space == 1663) _ _ at P g2 (λ t3 g3.
    went (or_fault whys.Fork (fork_numbered (head.flags % 16))) _ at P g3 (λ kind e4 g4.
    went (or_fault whys.Relation (relation_of name)) _ at P g4 (λ rel e5 g5.
    held_at_last (nat_lt head.block 32768) _ _ at P g5 (λ lt same.
    subst IdSound same (record { number = ltb-true head.block 32768 lt; rel = named_sound name rel (is_there whys.Relation (relation_of name) rel e5) })))))))

page_sound : (offset : ℕ) (image page : List ℕ) → page_at offset image ≡ Some page → IsGood page
unfolding page_at good_page
page_sound offset image page e =
    some_held (nat_le offset (length image) && nat_le (length image) 8192) _ page (IsGood page) e (λ t g.
    passed (is_good (restored offset image)) _ page (IsGood page) g (λ good same. subst IsGood same (good_told (restored offset image) good)))

good_frags : (o : Option ℕ) → is_none o ≡ true → o ≡ None
good_frags None e = refl
good_frags (Some n) e = absurd cc

delta_sound : (bytes : List ℕ) (frags : List Fragment) → delta_at bytes ≡ Some frags → bad_frag frags ≡ None
unfolding delta_at
delta_sound bytes frags e =
    took (frags_at (length bytes) bytes) _ frags (bad_frag frags ≡ None) e (λ list e1 g1.
    passed (is_none (bad_frag list)) list frags (bad_frag frags ≡ None) g1 (λ good same. subst (λ (l : List Fragment). bad_frag l ≡ None) same (good_frags (bad_frag list) good)))

-- a body that is read, where the form may have no deltas, is an image
record BodySound (form : Form) (body : Body) : Type 0 where
  sound : IsSoundBody body
  image : has_deltas form ≡ false → IsImage body

body_sound : (form : Form) (head : BlockHead) (h : Option ImageHead) (image delta : List ℕ) (body : Body) → body_by form head h image delta ≡ Ok body → BodySound form body
unfolding image_said delta_said
body_sound form head None image delta body e =
    let P : Type 0 = BodySound form body in
    where_held (has_deltas form && nat_lt 0 head.data_len) _ _ body P e (λ t g.
    went (or_fault whys.Fragments (delta_at delta)) _ body P g (λ frags e1 g1.
    let may : has_deltas form ≡ true = (and_parts (has_deltas form) (nat_lt 0 head.data_len) t).0 in
    let same : Delta frags ≡ body = cc in
    subst (BodySound form) same (record {
      sound = delta_sound delta frags (is_there whys.Fragments (delta_at delta) frags e1);
      image = λ none. absurd cc;
    })))
body_sound form head (Some h) image delta body e =
    let P : Type 0 = BodySound form body in
    went (or_fault whys.ImagePage (page_at h.offset image)) _ body P e (λ page e1 g1.
    held_at_last (has_blocks form && (head.data_len == 0)) (Image page) _ body P g1 (λ t same.
    subst (BodySound form) same (record {
      sound = page_sound h.offset image page (is_there whys.ImagePage (page_at h.offset image) page e1);
      image = λ none. tt;
    })))

record BlockSound (form : Form) (b : BlockRef) : Type 0 where
  sound : IsSoundBlock b
  image : has_deltas form ≡ false → IsImage b.body

block_sound : (form : Form) (name : RelName) (head : BlockHead) (parts : List ℕ) (b : BlockRef) → block_said form name head parts ≡ Ok b → BlockSound form b
unfolding block_said
block_sound form name head parts b e =
    let P : Type 0 = BlockSound form b in
    went (id_said name head) _ b P e (λ at e1 g1.
    went (body_by form head head.image (take (image_size head.image) parts) (take head.data_len (drop (image_size head.image) parts))) _ b P g1 (λ body e2 g2.
    let id = id_sound name head at e1 in
    let own = body_sound form head head.image (take (image_size head.image) parts) (take head.data_len (drop (image_size head.image) parts)) body e2 in
    let x : BlockRef = record { at = at; body = body } in
    let same : x ≡ b = cc in
    subst (BlockSound form) same (record { sound = record { number = id.number; rel = id.rel; body = own.sound }; image = own.image })))

record BlocksSound (form : Form) (bs : List BlockRef) : Type 0 where
  sound : All IsSoundBlock bs
  images : has_deltas form ≡ false → All (λ b. IsImage b.body) bs

with_sound : (form : Form) (b : BlockRef) (o : Result (List BlockRef) Why) (bs : List BlockRef) → BlockSound form b → ((list : List BlockRef) → o ≡ Ok list → BlocksSound form list) → with_block b o ≡ Ok bs → BlocksSound form bs
with_sound form b (Ok list) bs own more e =
    let rest = more list refl in
    let same : b ∷ list ≡ bs = cc in
    subst (BlocksSound form) same (record { sound = All-cons IsSoundBlock b list own.sound rest.sound; images = λ none. All-cons (λ c. IsImage c.body) b list (own.image none) (rest.images none) })
with_sound form b (Err why) bs own more e = absurd cc

blocks_sound : (form : Form) (last : RelName) (hs : List BlockHead) (parts : List ℕ) (bs : List BlockRef) → blocks_said form last hs parts ≡ Ok bs → BlocksSound form bs
unfolding blocks_said
blocks_sound form last [] parts bs e =
    let none : List BlockRef = [] in
    let same : none ≡ bs = cc in
    subst (BlocksSound form) same (record { sound = All-nil IsSoundBlock; images = λ none. All-nil (λ b. IsImage b.body) })
blocks_sound form last (h ∷ hs) parts bs e =
    let name : RelName = own_name last h.rel in
    went (block_said form name h parts) _ bs (BlocksSound form bs) e (λ b e1 g1.
    with_sound form b (blocks_said form name hs (drop (block_size h) parts)) bs (block_sound form name h parts b e1) (λ list e2. blocks_sound form name hs (drop (block_size h) parts) list e2) g1)

alone_sound : (blocks list : List BlockRef) (main : List ℕ) → blocks_alone blocks main ≡ Ok list → blocks ≡ list
unfolding blocks_alone
alone_sound [] list main e = absurd cc
alone_sound (b ∷ bs) list main e = held_at_last (length main == 0) (b ∷ bs) _ list ((b ∷ bs) ≡ list) e (λ t same. same)

creation_sound : (main : List ℕ) (kind : Kind) → creation_said main ≡ Ok kind → IsSound kind
unfolding creation_said
creation_sound main kind e =
    went (or_fault whys.Shape (creation_at main)) _ kind (IsSound kind) e (λ x e1 g1.
    held (x.0.space == 1663) _ _ kind (IsSound kind) g1 (λ t g2.
    went (or_fault whys.Fork (fork_numbered x.1)) _ kind (IsSound kind) g2 (λ fork e3 g3.
    went (or_fault whys.Relation (relation_of x.0)) _ kind (IsSound kind) g3 (λ rel e4 g4.
    let f : ForkId = record { rel = rel; kind = fork } in
    let same : Create f ≡ kind = cc in
    subst IsSound same (named_sound x.0 rel (is_there whys.Relation (relation_of x.0) rel e4))))))

truncation_sound : (main : List ℕ) (kind : Kind) → truncation_said main ≡ Ok kind → IsSound kind
unfolding truncation_said
truncation_sound main kind e =
    went (or_fault whys.Shape (truncation_at main)) _ kind (IsSound kind) e (λ x e1 g1.
    held (x.1.0.space == 1663) _ _ kind (IsSound kind) g1 (λ t g2.
    went (or_fault whys.Relation (relation_of x.1.0)) _ kind (IsSound kind) g2 (λ rel e3 g3.
    unless_held ((x.0 == 0xFFFFFFFF) || nat_lt 7 x.1.1) _ _ kind (IsSound kind) g3 (λ none g4.
    let tests = or_parts (x.0 == 0xFFFFFFFF) (nat_lt 7 x.1.1) none in
    let same : Truncate rel x.0 x.1.1 ≡ kind = cc in
    subst IsSound same (named_sound x.1.0 rel (is_there whys.Relation (relation_of x.1.0) rel e3), (eqb-false x.0 0xFFFFFFFF tests.0, ltb-false 7 x.1.1 tests.1))))))

rel_sound : (name : RelName) (rel : Relation) → rel_said name ≡ Ok rel → HasNumbers rel
unfolding rel_said
rel_sound name rel e =
    held (name.space == 1663) _ _ rel (HasNumbers rel) e (λ t g.
    named_sound name rel (is_there whys.Relation (relation_of name) rel g))

with_rel_sound : (rel : Relation) (o : Result (List Relation) Why) (rels : List Relation) → HasNumbers rel → ((list : List Relation) → o ≡ Ok list → All HasNumbers list) → with_rel rel o ≡ Ok rels → All HasNumbers rels
with_rel_sound rel (Ok list) rels own more e =
    let same : rel ∷ list ≡ rels = cc in
    subst (All HasNumbers) same (All-cons HasNumbers rel list own (more list refl))
with_rel_sound rel (Err why) rels own more e = absurd cc

rels_sound : (n : ℕ) (bytes : List ℕ) (rels : List Relation) → rels_said n bytes ≡ Ok rels → All HasNumbers rels
unfolding rels_said
rels_sound zero bytes rels e =
    let none : List Relation = [] in
    let same : none ≡ rels = cc in
    subst (All HasNumbers) same (All-nil HasNumbers)
rels_sound (suc n) bytes rels e =
    went (or_fault whys.Shape (named_at bytes)) _ rels (All HasNumbers rels) e (λ name e1 g1.
    went (rel_said name.0) _ rels (All HasNumbers rels) g1 (λ rel e2 g2.
    with_rel_sound rel (rels_said n name.1) rels (rel_sound name.0 rel e2) (λ list e3. rels_sound n name.1 list e3) g2))

commit_sound : (main : List ℕ) (kind : Kind) → commit_said main ≡ Ok kind → IsSound kind
unfolding commit_said
commit_sound main kind e =
    went (or_fault whys.Shape (commit_at main)) _ kind (IsSound kind) e (λ x e1 g1.
    went (rels_said x.1.0 x.1.1) _ kind (IsSound kind) g1 (λ rels e2 g2.
    let same : Commit x.0 rels ≡ kind = cc in
    subst IsSound same (rels_sound x.1.0 x.1.1 rels e2)))

kind_sound : (form : Form) (blocks : List BlockRef) (main : List ℕ) (kind : Kind) → BlocksSound form blocks → kind_said form blocks main ≡ Ok kind → IsSound kind
unfolding kind_said
kind_sound forms.Shutdown blocks main kind own e = went (or_fault whys.Shape (checkpoint_at main)) _ kind (IsSound kind) e (λ redo e1 g1. let same : Shutdown redo ≡ kind = cc in subst IsSound same tt)
kind_sound forms.Online blocks main kind own e = went (or_fault whys.Shape (checkpoint_at main)) _ kind (IsSound kind) e (λ redo e1 g1. let same : Online redo ≡ kind = cc in subst IsSound same tt)
kind_sound forms.RedoMark blocks main kind own e = went (or_fault whys.Shape (mark_at main)) _ kind (IsSound kind) e (λ n e1 g1. let same : RedoMark n ≡ kind = cc in subst IsSound same tt)
kind_sound forms.NoOp blocks main kind own e = let same : NoOp ≡ kind = cc in subst IsSound same tt
kind_sound forms.BackupEnd blocks main kind own e = went (or_fault whys.Shape (start_at main)) _ kind (IsSound kind) e (λ start e1 g1. let same : BackupEnd start ≡ kind = cc in subst IsSound same tt)
kind_sound forms.Images blocks main kind own e =
    went (blocks_alone blocks main) _ kind (IsSound kind) e (λ list e1 g1.
    let is : blocks ≡ list = alone_sound blocks list main e1 in
    let same : Images list ≡ kind = cc in
    subst IsSound same (subst (All IsSoundBlock) is own.sound, subst (All (λ b. IsImage b.body)) is (own.images refl)))
kind_sound forms.Generic blocks main kind own e =
    went (blocks_alone blocks main) _ kind (IsSound kind) e (λ list e1 g1.
    let is : blocks ≡ list = alone_sound blocks list main e1 in
    let same : Generic list ≡ kind = cc in
    subst IsSound same (subst (All IsSoundBlock) is own.sound))
kind_sound forms.Create blocks main kind own e = creation_sound main kind e
kind_sound forms.Truncate blocks main kind own e = truncation_sound main kind e
kind_sound forms.Commit blocks main kind own e =
    went (or_fault whys.Shape (commit_time_at main)) _ kind (IsSound kind) e (λ time e1 g1.
    let none : List Relation = [] in
    let same : Commit time none ≡ kind = cc in
    subst IsSound same (All-nil HasNumbers))
kind_sound forms.CommitMore blocks main kind own e = commit_sound main kind e

said_sound : (form : Form) (heads : List BlockHead) (main : MainHead) (parts : List ℕ) (kind : Kind) → said form heads main parts ≡ Ok kind → IsSound kind
unfolding said
said_sound form heads main parts kind e =
    unless_held (has_other_bits form (last_of (main_size main) parts)) _ _ kind (IsSound kind) e (λ none g.
    went (blocks_said form no_name heads parts) _ kind (IsSound kind) g (λ blocks e1 g1.
    kind_sound form blocks (last_of (main_size main) parts) kind (blocks_sound form no_name heads parts blocks e1) g1))

body_read_sound : (manager info : ℕ) (body : List ℕ) (kind : Kind) → kind_at manager info body ≡ Ok kind → IsSound kind
unfolding kind_at
body_read_sound manager info body kind e =
    went (or_fault (faults.Unsupported manager info) (form_of manager info)) _ kind (IsSound kind) e (λ form e1 g1.
    went (or_fault faults.Header (heads_at 34 0 0 body)) (λ heads. refused (said form heads.0 heads.1 heads.2)) kind (IsSound kind) g1 (λ heads e2 g2.
    said_sound form heads.0 heads.1 heads.2 kind (says_so (said form heads.0 heads.1 heads.2) kind g2)))

in_sound : (place : Place) (prev : Option Lsn) (front : List ℕ) (x : Header × List ℕ) (r : Record) → record_in place prev front x ≡ Ok r → IsSound r.kind
unfolding record_in
in_sound place prev front (h, body) r e =
    let P : Type 0 = IsSound r.kind in
    held (is_linked prev h.prev) _ _ r P e (λ linked g1.
    held (h.crc == entry_sum front body) _ _ r P g1 (λ summed g2.
    went (kind_at h.manager h.info body) _ r P g2 (λ kind e3 g3.
    held_at_last (may_come prev place.start kind) _ _ r P g3 (λ comes same.
    subst (λ (q : Record). IsSound q.kind) same (body_read_sound h.manager h.info body kind e3)))))

-- an entry that is read is sound
pub read_sound : (place : Place) (prev : Option Lsn) (bytes : List ℕ) (r : Record) → record_at place prev bytes ≡ Ok r → IsSound r.kind
unfolding record_at
read_sound place prev bytes r e =
    went (or_fault faults.Length (parts_at bytes)) (record_in place prev (take 20 bytes)) r (IsSound r.kind) e (λ x e1 g1. in_sound place prev (take 20 bytes) x r g1)

pub answer_sound : (place : Place) (prev : Option Lsn) (front : List ℕ) (x : Header × List ℕ) (answer : Result Record RecordFault) → Gives answer (record_in place prev front x) → IfOk answer (λ r. IsSound r.kind)
answer_sound place prev front x (Ok r) gives = in_sound place prev front x r gives
answer_sound place prev front x (Err fault) gives = tt

-- what can be written is sound
written_body : (body : Body) → IsWritableBody body → IsSoundBody body
written_body (Image page) w = w.0
written_body (Delta frags) w = w

written_blocks : (bs : List BlockRef) → All IsWritableBlock bs → All IsSoundBlock bs
written_blocks [] w = All-nil IsSoundBlock
written_blocks (b ∷ bs) w =
    let own : IsWritableBlock b = All-head IsWritableBlock b bs w in
    All-cons IsSoundBlock b bs (record { number = own.number; rel = own.rel.some; body = written_body b.body own.body }) (written_blocks bs (All-tail IsWritableBlock b bs w))

written_rels : (rels : List Relation) → All IsRelation rels → All HasNumbers rels
written_rels [] w = All-nil HasNumbers
written_rels (rel ∷ rels) w = All-cons HasNumbers rel rels (All-head IsRelation rel rels w).some (written_rels rels (All-tail IsRelation rel rels w))

pub written_sound : (kind : Kind) → IsWritable kind → IsSound kind
written_sound (Shutdown redo) w = tt
written_sound (Online redo) w = tt
written_sound (RedoMark n) w = tt
written_sound NoOp w = tt
written_sound (BackupEnd start) w = tt
written_sound (Images blocks) w = (written_blocks blocks w.0.each, w.1)
written_sound (Generic blocks) w = written_blocks blocks w.each
written_sound (Create fork) w = w.some
written_sound (Truncate rel count flags) w = (w.0.some, (omega (arith, w.1.0), w.1.1))
written_sound (Commit time rels) w = written_rels rels w.1.0
