-- What is written of a kind says that kind.
use Rattle.std.proofs.Common.{◌≡◌, ◌≢◌, ℕ, zero, suc, ◌+◌, ◌-◌, ◌%◌, ◌^◌, ◌<◌, ◌≤◌, Bool, true, false, List, [], ◌∷◌, ◌++◌, length, take, drop, Option, Some, None, IfSome, Ok, refl, sym, ap, subst, ◌∙◌, arith, ◌&&◌}
use Rattle.std.specs.Prelude.{◌==◌}
use Rattle.std.specs.Option.{is_none}
use Rattle.std.specs.List.{All}
use Rattle.std.specs.Int.{w16, w32, w64, to_le_bytes, cast_unsigned}
use Rattle.std.proofs.lemmas.Bool.{and_from, and_parts, le-leb, lt-ltb, le-ltb, eqb-true, ne_eqb, or_from}
use Rattle.std.proofs.lemmas.List.{length-append, length-drop, append_assoc, take_at, drop_at, take-append-le, drop-append-le}
use Rattle.std.proofs.Math.Seq.{take-append_seam, drop-append_seam, take-length}
use Rattle.std.proofs.lemmas.List.Elements.{All-head, All-tail, All-nil, All-cons}
use Rattle.lsn_core.proofs.byte_words.Fields.{wide16, step_again}
use Rattle.lsn_core.specs.Relation.{Relation}
use Rattle.lsn_core.specs.declared.ids.BlockId.{BlockId}
use Rattle.lsn_core.specs.declared.ids.ForkKind.{ForkKind}
use Rattle.lsn_core.specs.declared.ids.ForkKind.TheVariants.{Main, Init}
use Rattle.pg_page.specs.Header.{IsGood, hole_of, hole_zeroed}
use Rattle.pg_page.specs.Image.{image_of, restored}
use Rattle.pg_page.specs.Frags.{Fragment, bad_frag, is_good}
use Rattle.pg_page.proofs.ImageLaws.{image_of-Some, image_of-None, length-image_of-Some, length-image_of-None, hole_bounds, restored_image, restored_whole}
use Rattle.pg_page.proofs.PatchLaws.{told_good}
use Rattle.wal_pages.specs.declared.wal_heads.announce.RelName.{RelName}
use Rattle.wal_pages.specs.declared.wal_heads.announce.BlockHead.{BlockHead}
use Rattle.wal_pages.specs.declared.wal_heads.header.Form.{Form}
use Rattle.wal_pages.specs.declared.wal_heads.header.Form.TheVariants as forms
use Rattle.wal_record.specs.declared.record.Kind.{Kind}
use Rattle.wal_record.specs.declared.record.Kind.TheVariants.{Shutdown, Online, RedoMark, NoOp, BackupEnd, Images, Generic, Create, Truncate, Commit}
use Rattle.wal_record.specs.declared.record.BlockRef.{BlockRef}
use Rattle.wal_record.specs.declared.record.Body.{Body}
use Rattle.wal_record.specs.declared.record.Body.TheVariants.{Image, Delta}
use Rattle.wal_record.specs.declared.record.Why.TheVariants as whys
use Rattle.wal_pages.specs.wal_heads.Heads.{has_bit, image_size, block_size, main_size}
use Rattle.wal_record.specs.Outcome.{or_fault}
use Rattle.wal_record.specs.Parts.{last_of, good_page, page_at, frag_at, with_frag, frags_at, delta_at, checkpoint_at, mark_at, start_at, creation_at, truncation_at, commit_time_at, commit_at}
use Rattle.wal_record.specs.Content.{fork_numbered, relation_of, is_packed, is_applied, id_said, has_blocks, has_deltas, image_said, delta_said, body_by, block_said, own_name, with_block, blocks_said, no_name, creation_said, truncation_said, rel_said, with_rel, rels_said, commit_said, has_other_bits, blocks_alone, kind_said, said}
use Rattle.wal_pages.specs.wal_heads.Header.{form_of}
use Rattle.wal_record.specs.Spelling.{fork_number, manager_of, info_of, main_of, blocks_of, image_head_of, frag_bytes, frags_bytes, body_image, body_bytes, body_data_len, is_same, told_name, full_name, head_of, heads_of, main_head_of, bodies_bytes, checkpoint_bytes, creation_bytes, truncation_bytes, relation_bytes, rels_bytes, IsRelation, IsWritableBody, IsWritableBlock, IsImage, IsWritable}
use Rattle.wal_pages.proofs.wal_heads.Steps.{takes_again, passes, passes_over}
use Rattle.wal_record.proofs.MainAgain.{checkpoint_again, mark_again, start_again, creation_again, truncation_again, time_again, bits_again, commit_again, full_name_again}
use Rattle.wal_record.proofs.Dropping.{length-rels}
use Rattle.wal_pages.specs.wal_heads.Announcements.{named_at}
use Rattle.wal_record.proofs.Deltas.{frags_fit}
use Rattle.wal_record.proofs.EntryAgain.{goes, found, holds}
use Rattle.wal_record.proofs.HeadsWritten.{flags_of, main_sized, sized}

-- a page's image is read as that page
page_found : (offset : ℕ) (image page : List ℕ) → restored offset image ≡ page → offset ≤ length image → length image ≤ 8192 → is_good page ≡ true → page_at offset image ≡ Some page
unfolding page_at good_page
page_found offset image page e within most good =
    passes _ _ _ _ (and_from _ _ (le-leb offset (length image) within) (le-leb (length image) 8192 most)) (ap good_page e ∙ passes (is_good page) (Some page) None (Some page) good refl)

page_by : (page : List ℕ) (hole : Option (ℕ × ℕ)) → hole_of page ≡ hole → IsGood page → hole_zeroed page ≡ page → page_at (image_head_of hole).offset (image_of page) ≡ Some page
page_by page None e good zeros =
    let len : length (image_of page) ≡ 8192 = length-image_of-None page good e in
    page_found 0 (image_of page) page (restored_whole 0 (image_of page) len ∙ image_of-None page e) (omega arith) (omega (arith, len)) (told_good page good)
page_by page (Some (lower, upper)) e good zeros =
    let b = hole_bounds page lower upper good e in
    let len : length (image_of page) ≡ 8192 - (upper - lower) = length-image_of-Some page lower upper good e in
    page_found lower (image_of page) page (ap (restored lower) (image_of-Some page lower upper e) ∙ restored_image page lower upper good zeros e) (omega (arith, len, b.order, b.most)) (omega (arith, len)) (told_good page good)

page_again : (page : List ℕ) → IsWritableBody (Image page) → page_at (image_head_of (hole_of page)).offset (image_of page) ≡ Some page
page_again page w = page_by page (hole_of page) refl w.0 w.1

-- fragments are read from their delta
abbrev Fits : Fragment → Type 0
Fits f = f.at + length f.bytes ≤ 8192

frag_again : (f : Fragment) (more : List ℕ) → Fits f → frag_at (frag_bytes f ++ more) ≡ Some (f, more)
unfolding frag_at
frag_again f more fits =
    let r2 : List ℕ = f.bytes ++ more in
    let r1 : List ℕ = to_le_bytes w16 (length f.bytes) ++ r2 in
    let at : f.at < 2 ^ 16 = omega (arith, fits) in
    let len : length f.bytes < 2 ^ 16 = omega (arith, fits) in
    step_again w16 (2 ^ 16) wide16 _ f.at r1 _ _ refl at (
    step_again w16 (2 ^ 16) wide16 r1 (length f.bytes) r2 _ _ refl len (
    passes_over _ _ _ _ (le-ltb (length r2) (length f.bytes) (omega (arith, length-append f.bytes more))) (rw (take-append_seam f.bytes more, drop-append_seam f.bytes more) refl)))

frags_again : (n : ℕ) (frags : List Fragment) → All Fits frags → length (frags_bytes frags) ≤ n → frags_at n (frags_bytes frags) ≡ Some frags
unfolding frags_at
frags_again n [] fit long = refl
frags_again zero (f ∷ fs) fit long = absurd (omega (arith, long))
frags_again (suc n) (f ∷ fs) fit long =
    takes_again (frag_at (frag_bytes f ++ frags_bytes fs)) _ (f, frags_bytes fs) _ (frag_again f (frags_bytes fs) (All-head Fits f fs fit))
    (ap (with_frag f) (frags_again n fs (All-tail Fits f fs fit) (omega (arith, long, length-append f.bytes (frags_bytes fs)))))

delta_again : (frags : List Fragment) → bad_frag frags ≡ None → delta_at (frags_bytes frags) ≡ Some frags
unfolding delta_at
delta_again frags good =
    takes_again (frags_at (length (frags_bytes frags)) (frags_bytes frags)) _ frags _ (frags_again (length (frags_bytes frags)) frags (frags_fit frags good) (omega arith))
    (passes _ _ _ _ (ap (λ (o : Option ℕ). is_none o) good) refl)

-- which block is meant
fork_again : (kind : ForkKind) (body : Body) (same : Bool) → fork_numbered (flags_of kind body same % 16) ≡ Some kind
fork_again Main (Image page) true = refl
fork_again Main (Image page) false = refl
fork_again Main (Delta frags) true = refl
fork_again Main (Delta frags) false = refl
fork_again Init (Image page) true = refl
fork_again Init (Image page) false = refl
fork_again Init (Delta frags) true = refl
fork_again Init (Delta frags) false = refl

unpacked_by : (hole : Option (ℕ × ℕ)) → is_packed (Some (image_head_of hole)) ≡ false
unfolding has_bit
unpacked_by None = refl
unpacked_by (Some hole) = refl

unpacked : (body : Body) → is_packed (body_image body) ≡ false
unpacked (Image page) = unpacked_by (hole_of page)
unpacked (Delta frags) = refl

applied_by : (hole : Option (ℕ × ℕ)) → is_applied (Some (image_head_of hole)) ≡ true
unfolding has_bit
applied_by None = refl
applied_by (Some hole) = refl

applied : (body : Body) → is_applied (body_image body) ≡ true
applied (Image page) = applied_by (hole_of page)
applied (Delta frags) = refl

relation_again : (rel : Relation) → IsRelation rel → relation_of (full_name rel) ≡ Some rel
relation_again rel is = passes _ _ _ _ (and_from _ _ (lt-ltb 0 rel.db is.some.0) (lt-ltb 0 rel.rel is.some.1)) refl

id_again : (id : ℕ) (last : Option Relation) (b : BlockRef) → IsWritableBlock b → id_said (full_name b.at.fork.rel) (head_of id last b) ≡ Ok b.at
unfolding id_said
id_again id last b w =
    let same : Bool = is_same last b.at.fork.rel in
    passes_over (is_packed (body_image b.body)) _ _ _ (unpacked b.body) (
    holds (is_applied (body_image b.body)) whys.NotApplied _ _ (applied b.body) (
    goes (or_fault whys.Fork (fork_numbered (flags_of b.at.fork.kind b.body same % 16))) _ b.at.fork.kind _ (found whys.Fork _ b.at.fork.kind (fork_again b.at.fork.kind b.body same)) (
    goes (or_fault whys.Relation (relation_of (full_name b.at.fork.rel))) _ b.at.fork.rel _ (found whys.Relation _ b.at.fork.rel (relation_again b.at.fork.rel w.rel)) (
    passes _ _ _ _ (lt-ltb b.at.block 32768 w.number) refl))))

-- a body, where entries of the form may have it
abbrev MayHave : Form → Body → Type 0
MayHave form (Image page) = has_blocks form ≡ true
MayHave form (Delta frags) = has_deltas form ≡ true

frags_some : (frags : List Fragment) → bad_frag frags ≡ None → 0 < length (frags_bytes frags)
frags_some [] e = absurd cc
frags_some (f ∷ fs) e = omega arith

body_again : (form : Form) (id : ℕ) (last : Option Relation) (at : BlockId) (body : Body) (image delta : List ℕ) → MayHave form body → IsWritableBody body → image ≡ take (image_size (body_image body)) (body_bytes body) → delta ≡ drop (image_size (body_image body)) (body_bytes body)
    → body_by form (head_of id last (record { at = at; body = body })) (body_image body) image delta ≡ Ok body
unfolding image_said delta_said
body_again form id last at (Image page) image delta may w e f =
    let len : image_size (body_image (Image page)) ≡ length (image_of page) = omega (arith, sized (Image page) w) in
    let whole : image ≡ image_of page = e ∙ ap (λ (n : ℕ). take n (image_of page)) len ∙ take-length (image_of page) in
    goes (or_fault whys.ImagePage (page_at (image_head_of (hole_of page)).offset image)) _ page _ (found whys.ImagePage _ page (ap (page_at (image_head_of (hole_of page)).offset) whole ∙ page_again page w)) (
    passes _ _ _ _ (and_from _ _ may refl) refl)
body_again form id last at (Delta frags) image delta may w e f =
    passes _ _ _ _ (and_from _ _ may (lt-ltb 0 (length (frags_bytes frags)) (frags_some frags w))) (
    goes (or_fault whys.Fragments (delta_at delta)) _ frags _ (found whys.Fragments _ frags (ap delta_at f ∙ delta_again frags w)) refl)

-- the bytes of an image and of data, at the front of more
front_part : (n : ℕ) (own more : List ℕ) → n ≤ length own → take n (own ++ more) ≡ take n own
front_part n own more le = take-append-le n own more le

data_part : (n m : ℕ) (own more : List ℕ) → n + m ≡ length own → take m (drop n (own ++ more)) ≡ drop n own
data_part n m own more e =
    let le : n ≤ length own = omega (arith, e) in
    let len : length (drop n own) ≡ m = omega (arith, length-drop n own, e) in
    ap (take m) (drop-append-le n own more le) ∙ take_at (drop n own) more m len

block_again : (form : Form) (id : ℕ) (last : Option Relation) (b : BlockRef) (more : List ℕ) → MayHave form b.body → IsWritableBlock b → block_said form (full_name b.at.fork.rel) (head_of id last b) (body_bytes b.body ++ more) ≡ Ok b
unfolding block_said
block_again form id last b more may w =
    let n : ℕ = image_size (body_image b.body) in
    let size : n + body_data_len b.body ≡ length (body_bytes b.body) = sized b.body w.body in
    goes (id_said (full_name b.at.fork.rel) (head_of id last b)) _ b.at _ (id_again id last b w) (
    goes (body_by form (head_of id last b) (body_image b.body) (take n (body_bytes b.body ++ more)) (take (body_data_len b.body) (drop n (body_bytes b.body ++ more)))) _ b.body _
    (body_again form id last b.at b.body (take n (body_bytes b.body ++ more)) (take (body_data_len b.body) (drop n (body_bytes b.body ++ more))) may w.body
    (front_part n (body_bytes b.body) more (omega (arith, size))) (data_part n (body_data_len b.body) (body_bytes b.body) more size)) refl)

-- the name that blocks before told is that of the last relation
abbrev Told : RelName → Option Relation → Type 0
Told name last = IfSome last (λ r. name ≡ full_name r)

same_relation : (r s : Relation) → ((r.db == s.db) && (r.rel == s.rel)) ≡ true → r ≡ s
same_relation r s e =
    let tests = and_parts (r.db == s.db) (r.rel == s.rel) e in
    ap (λ (n : ℕ). let x : Relation = record { db = n; rel = r.rel } in x) (eqb-true _ _ tests.0) ∙ ap (λ (n : ℕ). let x : Relation = record { db = s.db; rel = n } in x) (eqb-true _ _ tests.1)

own_by : (name : RelName) (last : Option Relation) (rel : Relation) (same : Bool) → is_same last rel ≡ same → Told name last → own_name name (told_name same rel) ≡ full_name rel
own_by name last rel false e told = refl
own_by name None rel true e told = absurd cc
own_by name (Some r) rel true e told = told ∙ ap full_name (same_relation r rel e)

own_again : (name : RelName) (last : Option Relation) (rel : Relation) → Told name last → own_name name (told_name (is_same last rel) rel) ≡ full_name rel
own_again name last rel told = own_by name last rel (is_same last rel) refl told

blocks_again : (form : Form) (id : ℕ) (name : RelName) (last : Option Relation) (blocks : List BlockRef) (more : List ℕ) → All (λ b. MayHave form b.body) blocks → All IsWritableBlock blocks → Told name last
    → blocks_said form name (heads_of id last blocks) (bodies_bytes blocks ++ more) ≡ Ok blocks
unfolding blocks_said
blocks_again form id name last [] more may w told = refl
blocks_again form id name last (b ∷ bs) more may w told =
    let own : IsWritableBlock b = All-head IsWritableBlock b bs w in
    let h : BlockHead = head_of id last b in
    let rest : List ℕ = bodies_bytes bs ++ more in
    let parts : List ℕ = (body_bytes b.body ++ bodies_bytes bs) ++ more in
    let split : parts ≡ body_bytes b.body ++ rest = append_assoc (body_bytes b.body) (bodies_bytes bs) more in
    let named : own_name name h.rel ≡ full_name b.at.fork.rel = own_again name last b.at.fork.rel told in
    let behind : drop (block_size h) parts ≡ rest = ap (drop (block_size h)) split ∙ drop_at (body_bytes b.body) rest (block_size h) (sym (sized b.body own.body)) in
    let first : block_said form (own_name name h.rel) h parts ≡ Ok b = ap (λ (x : RelName). block_said form x h parts) named ∙ ap (block_said form (full_name b.at.fork.rel) h) split ∙ block_again form id last b rest (All-head (λ c. MayHave form c.body) b bs may) own in
    let others : blocks_said form (own_name name h.rel) (heads_of (id + 1) (Some b.at.fork.rel) bs) (drop (block_size h) parts) ≡ Ok bs =
    ap (blocks_said form (own_name name h.rel) (heads_of (id + 1) (Some b.at.fork.rel) bs)) behind
    ∙ blocks_again form (id + 1) (own_name name h.rel) (Some b.at.fork.rel) bs more (All-tail (λ c. MayHave form c.body) b bs may) (All-tail IsWritableBlock b bs w) named in
    goes (block_said form (own_name name h.rel) h parts) _ b _ first (ap (with_block b) others)

-- the form of a kind
abbrev pub form_named : Kind → Form
form_named (Shutdown redo) = forms.Shutdown
form_named (Online redo) = forms.Online
form_named (RedoMark n) = forms.RedoMark
form_named NoOp = forms.NoOp
form_named (BackupEnd start) = forms.BackupEnd
form_named (Images blocks) = forms.Images
form_named (Generic blocks) = forms.Generic
form_named (Create fork) = forms.Create
form_named (Truncate rel count flags) = forms.Truncate
form_named (Commit time []) = forms.Commit
form_named (Commit time (rel ∷ rels)) = forms.CommitMore

numbered : (kind : ForkKind) → fork_numbered (fork_number kind) ≡ Some kind
numbered Main = refl
numbered Init = refl

number_fits : (kind : ForkKind) → fork_number kind < 2 ^ 32
number_fits Main = omega arith
number_fits Init = omega arith

alone : (blocks : List BlockRef) → 1 ≤ length blocks → blocks_alone blocks [] ≡ Ok blocks
unfolding blocks_alone
alone [] some = absurd (omega (arith, some))
alone (b ∷ bs) some = refl

rel_again : (rel : Relation) → IsRelation rel → rel_said (full_name rel) ≡ Ok rel
unfolding rel_said
rel_again rel is = found whys.Relation _ rel (relation_again rel is)

rels_again : (rels : List Relation) → All IsRelation rels → rels_said (length rels) (rels_bytes rels) ≡ Ok rels
unfolding rels_said
rels_again [] all = refl
rels_again (rel ∷ rels) all =
    let own : IsRelation rel = All-head IsRelation rel rels all in
    goes (or_fault whys.Shape (named_at (relation_bytes rel [] ++ rels_bytes rels))) _ (full_name rel, rels_bytes rels) _ (found whys.Shape _ _ (full_name_again rel (rels_bytes rels) own)) (
    goes (rel_said (full_name rel)) _ rel _ (rel_again rel own) (
    ap (with_rel rel) (rels_again rels (All-tail IsRelation rel rels all))))

kind_told : (kind : Kind) → IsWritable kind → kind_said (form_named kind) (blocks_of kind) (main_of kind) ≡ Ok kind
unfolding kind_said creation_said truncation_said commit_said
kind_told (Shutdown redo) w = goes (or_fault whys.Shape (checkpoint_at (checkpoint_bytes redo))) _ redo _ (found whys.Shape _ redo (checkpoint_again redo w)) refl
kind_told (Online redo) w = goes (or_fault whys.Shape (checkpoint_at (checkpoint_bytes redo))) _ redo _ (found whys.Shape _ redo (checkpoint_again redo w)) refl
kind_told (RedoMark n) w = goes (or_fault whys.Shape (mark_at (to_le_bytes w32 n))) _ n _ (found whys.Shape _ n (mark_again n w)) refl
kind_told NoOp w = refl
kind_told (BackupEnd start) w = goes (or_fault whys.Shape (start_at (to_le_bytes w64 start.0))) _ start _ (found whys.Shape _ start (start_again start w)) refl
kind_told (Images blocks) w = goes (blocks_alone blocks []) _ blocks _ (alone blocks w.0.some) refl
kind_told (Generic blocks) w = goes (blocks_alone blocks []) _ blocks _ (alone blocks w.some) refl
kind_told (Create fork) w =
    goes (or_fault whys.Shape (creation_at (creation_bytes fork))) _ (full_name fork.rel, fork_number fork.kind) _ (found whys.Shape _ _ (creation_again fork.rel (fork_number fork.kind) w (number_fits fork.kind))) (
    goes (or_fault whys.Fork (fork_numbered (fork_number fork.kind))) _ fork.kind _ (found whys.Fork _ _ (numbered fork.kind)) (
    goes (or_fault whys.Relation (relation_of (full_name fork.rel))) _ fork.rel _ (found whys.Relation _ _ (relation_again fork.rel w)) refl))
kind_told (Truncate rel count flags) w =
    let other : count ≢ 0xFFFFFFFF = omega (arith, w.1.0) in
    let bc : count < 2 ^ 32 = omega (arith, w.1.0) in
    let bf : flags < 2 ^ 32 = omega (arith, w.1.1) in
    goes (or_fault whys.Shape (truncation_at (truncation_bytes rel count flags))) _ (count, (full_name rel, flags)) _ (found whys.Shape _ _ (truncation_again rel count flags w.0 bc bf)) (
    goes (or_fault whys.Relation (relation_of (full_name rel))) _ rel _ (found whys.Relation _ _ (relation_again rel w.0)) (
    passes_over _ _ _ _ (or_from _ _ (ne_eqb count 0xFFFFFFFF other) (le-ltb 7 flags w.1.1)) refl))
kind_told (Commit time []) w = goes (or_fault whys.Shape (commit_time_at (to_le_bytes w64 (cast_unsigned w64 time)))) _ time _ (found whys.Shape _ time (time_again time w.0)) refl
kind_told (Commit time (rel ∷ rels)) w =
    let rs : List Relation = rel ∷ rels in
    let main : List ℕ = to_le_bytes w64 (cast_unsigned w64 time) ++ (to_le_bytes w32 4 ++ (to_le_bytes w32 (length rs) ++ rels_bytes rs)) in
    goes (or_fault whys.Shape (commit_at main)) _ (time, (length rs, rels_bytes rs)) _ (found whys.Shape _ _ (commit_again time (length rs) (rels_bytes rs) w.0 (omega (arith, w.1.1)) (length-rels rs))) (
    goes (rels_said (length rs) (rels_bytes rs)) _ rs _ (rels_again rs w.1.0) refl)

-- it has no other information bits
bits_told : (kind : Kind) → IsWritable kind → has_other_bits (form_named kind) (main_of kind) ≡ false
bits_told (Shutdown redo) w = refl
bits_told (Online redo) w = refl
bits_told (RedoMark n) w = refl
bits_told NoOp w = refl
bits_told (BackupEnd start) w = refl
bits_told (Images blocks) w = refl
bits_told (Generic blocks) w = refl
bits_told (Create fork) w = refl
bits_told (Truncate rel count flags) w = refl
bits_told (Commit time []) w = refl
bits_told (Commit time (rel ∷ rels)) w = bits_again time (to_le_bytes w32 (length (rel ∷ rels)) ++ rels_bytes (rel ∷ rels)) w.0

-- the blocks of a kind are bodies that its form may have
may_generic : (body : Body) → MayHave forms.Generic body
may_generic (Image page) = refl
may_generic (Delta frags) = refl

may_image : (body : Body) → IsImage body → MayHave forms.Images body
may_image (Image page) is = refl
may_image (Delta frags) is = absurd is

all_may : (form : Form) (blocks : List BlockRef) → ((b : BlockRef) → MayHave form b.body) → All (λ b. MayHave form b.body) blocks
all_may form [] may = All-nil (λ b. MayHave form b.body)
all_may form (b ∷ bs) may = All-cons (λ c. MayHave form c.body) b bs (may b) (all_may form bs may)

all_images : (blocks : List BlockRef) → All (λ b. IsImage b.body) blocks → All (λ b. MayHave forms.Images b.body) blocks
all_images [] are = All-nil (λ b. MayHave forms.Images b.body)
all_images (b ∷ bs) are = All-cons (λ c. MayHave forms.Images c.body) b bs (may_image b.body (All-head (λ c. IsImage c.body) b bs are)) (all_images bs (All-tail (λ c. IsImage c.body) b bs are))

record BlocksMay (kind : Kind) : Type 0 where
  may : All (λ b. MayHave (form_named kind) b.body) (blocks_of kind)
  each : All IsWritableBlock (blocks_of kind)

no_blocks : (kind : Kind) → blocks_of kind ≡ [] → BlocksMay kind
no_blocks kind e = record { may = subst (λ (l : List BlockRef). All (λ b. MayHave (form_named kind) b.body) l) (sym e) (All-nil (λ b. MayHave (form_named kind) b.body)); each = subst (λ (l : List BlockRef). All IsWritableBlock l) (sym e) (All-nil IsWritableBlock) }

blocks_may : (kind : Kind) → IsWritable kind → BlocksMay kind
blocks_may (Shutdown redo) w = no_blocks (Shutdown redo) refl
blocks_may (Online redo) w = no_blocks (Online redo) refl
blocks_may (RedoMark n) w = no_blocks (RedoMark n) refl
blocks_may NoOp w = no_blocks NoOp refl
blocks_may (BackupEnd start) w = no_blocks (BackupEnd start) refl
blocks_may (Images blocks) w = record { may = all_images blocks w.1; each = w.0.each }
blocks_may (Generic blocks) w = record { may = all_may forms.Generic blocks (λ b. may_generic b.body); each = w.each }
blocks_may (Create fork) w = no_blocks (Create fork) refl
blocks_may (Truncate rel count flags) w = no_blocks (Truncate rel count flags) refl
blocks_may (Commit time rels) w = no_blocks (Commit time rels) refl

last_again : (size : ℕ) (front main : List ℕ) → size ≡ length main → last_of size (front ++ main) ≡ main
last_again size front main e = drop_at front main (length (front ++ main) - size) (omega (arith, length-append front main, e))

pub written_says : (kind : Kind) → IsWritable kind → said (form_named kind) (heads_of 0 None (blocks_of kind)) (main_head_of (main_of kind)) (bodies_bytes (blocks_of kind) ++ main_of kind) ≡ Ok kind
unfolding said
written_says kind w =
    let m = blocks_may kind w in
    let last : last_of (main_size (main_head_of (main_of kind))) (bodies_bytes (blocks_of kind) ++ main_of kind) ≡ main_of kind =
    last_again (main_size (main_head_of (main_of kind))) (bodies_bytes (blocks_of kind)) (main_of kind) (main_sized (main_of kind)) in
    passes_over (has_other_bits (form_named kind) (last_of (main_size (main_head_of (main_of kind))) (bodies_bytes (blocks_of kind) ++ main_of kind))) _ _ _ (ap (has_other_bits (form_named kind)) last ∙ bits_told kind w) (
    goes (blocks_said (form_named kind) no_name (heads_of 0 None (blocks_of kind)) (bodies_bytes (blocks_of kind) ++ main_of kind)) _ (blocks_of kind) _
    (blocks_again (form_named kind) 0 no_name None (blocks_of kind) (main_of kind) m.may m.each tt)
    (ap (kind_said (form_named kind) (blocks_of kind)) last ∙ kind_told kind w))

-- its manager and its info byte tell that form
pub form_told : (kind : Kind) → form_of (manager_of kind) (info_of kind) ≡ Some (form_named kind)
form_told (Shutdown redo) = refl
form_told (Online redo) = refl
form_told (RedoMark n) = refl
form_told NoOp = refl
form_told (BackupEnd start) = refl
form_told (Images blocks) = refl
form_told (Generic blocks) = refl
form_told (Create fork) = refl
form_told (Truncate rel count flags) = refl
form_told (Commit time []) = refl
form_told (Commit time (rel ∷ rels)) = refl

-- and have room in a byte
pub manager_fits : (kind : Kind) → manager_of kind < 2 ^ 8
manager_fits (Shutdown redo) = omega arith
manager_fits (Online redo) = omega arith
manager_fits (RedoMark n) = omega arith
manager_fits NoOp = omega arith
manager_fits (BackupEnd start) = omega arith
manager_fits (Images blocks) = omega arith
manager_fits (Generic blocks) = omega arith
manager_fits (Create fork) = omega arith
manager_fits (Truncate rel count flags) = omega arith
manager_fits (Commit time rels) = omega arith

pub info_fits : (kind : Kind) → info_of kind < 2 ^ 8
info_fits (Shutdown redo) = omega arith
info_fits (Online redo) = omega arith
info_fits (RedoMark n) = omega arith
info_fits NoOp = omega arith
info_fits (BackupEnd start) = omega arith
info_fits (Images blocks) = omega arith
info_fits (Generic blocks) = omega arith
info_fits (Create fork) = omega arith
info_fits (Truncate rel count flags) = omega arith
info_fits (Commit time []) = omega arith
info_fits (Commit time (rel ∷ rels)) = omega arith
