-- What is written piece by piece.
use Rattle.std.proofs.Common.{◌≡◌, ℕ, ◌+◌, ◌%◌, ◌<◌, ◌≤◌, Bool, true, false, List, [], ◌∷◌, ◌++◌, length, get_or, drop, Option, Some, None, refl, sym, ap, ◌∙◌, arith}
use Rattle.std.specs.Int.{w8, w16, w32, to_le_bytes}
use Rattle.std.proofs.lemmas.List.{append-nil, append_assoc, drop_more}
use Rattle.lsn_core.specs.Relation.{Relation}
use Rattle.lsn_core.specs.declared.ids.ForkKind.{ForkKind}
use Rattle.lsn_core.specs.declared.ids.ForkKind.TheVariants.{Main, Init}
use Rattle.wal_pages.specs.declared.wal_heads.announce.ImageHead.{ImageHead}
use Rattle.wal_pages.specs.declared.wal_heads.announce.RelName.{RelName}
use Rattle.wal_pages.specs.declared.wal_heads.announce.BlockHead.{BlockHead}
use Rattle.wal_pages.specs.declared.wal_heads.announce.MainHead.TheVariants.{Absent}
use Rattle.wal_record.specs.declared.record.BlockRef.{BlockRef}
use Rattle.wal_record.specs.declared.record.Body.{Body}
use Rattle.wal_record.specs.declared.record.Body.TheVariants.{Image, Delta}
use Rattle.wal_record.specs.declared.record.Kind.TheVariants.{Generic}
use Rattle.wal_pages.specs.wal_heads.Heads.{hole_bytes, image_bytes, rel_bytes, block_bytes, heads_bytes}
use Rattle.wal_record.specs.Spelling.{fork_number, body_flag, is_same, same_flag, head_of, heads_of, all_heads, bodies_bytes, body_of}

hole_apart : (o : Option ℕ) (x rest : List ℕ) → hole_bytes o (x ++ rest) ≡ hole_bytes o x ++ rest
hole_apart None x rest = refl
hole_apart (Some n) x rest = refl

image_apart : (o : Option ImageHead) (x rest : List ℕ) → image_bytes o (x ++ rest) ≡ image_bytes o x ++ rest
image_apart None x rest = refl
image_apart (Some h) x rest = ap (λ (l : List ℕ). to_le_bytes w16 h.len ++ (to_le_bytes w16 h.offset ++ (to_le_bytes w8 h.info ++ l))) (hole_apart h.hole x rest)

name_apart : (o : Option RelName) (x rest : List ℕ) → rel_bytes o (x ++ rest) ≡ rel_bytes o x ++ rest
name_apart None x rest = refl
name_apart (Some r) x rest = refl

kind_most : (kind : ForkKind) → fork_number kind ≤ 3
kind_most Main = omega arith
kind_most Init = omega arith

flag_most : (b : Body) → body_flag b ≤ 0x20
flag_most (Image page) = omega arith
flag_most (Delta frags) = omega arith

same_most : (same : Bool) → same_flag same ≤ 0x80
same_most true = omega arith
same_most false = omega arith

pub flags_fit : (id : ℕ) (last : Option Relation) (b : BlockRef) → (head_of id last b).flags < 256
flags_fit id last b = omega (arith, kind_most b.at.fork.kind, flag_most b.body, same_most (is_same last b.at.fork.rel))

-- an announcement, field by field
pub built : (h : BlockHead) (b0 b1 b2 b3 b4 b5 b6 : List ℕ) → h.id < 256 → h.flags < 256
    → b1 ≡ b0 ++ (h.id ∷ []) → b2 ≡ b1 ++ (h.flags ∷ []) → b3 ≡ b2 ++ to_le_bytes w16 h.data_len → b4 ≡ b3 ++ image_bytes h.image [] → b5 ≡ b4 ++ rel_bytes h.rel [] → b6 ≡ b5 ++ to_le_bytes w32 h.block
    → b6 ≡ b0 ++ block_bytes h []
built h b0 b1 b2 b3 b4 b5 b6 id flags e1 e2 e3 e4 e5 e6 =
    let number : List ℕ = to_le_bytes w32 h.block in
    let id-is : h.id ≡ h.id % 256 = omega arith in
    let flags-is : h.flags ≡ h.flags % 256 = omega arith in
    let t5 : b6 ≡ b4 ++ rel_bytes h.rel number = e6 ∙ ap (λ (l : List ℕ). l ++ number) e5 ∙ append_assoc b4 (rel_bytes h.rel []) number ∙ ap (λ (l : List ℕ). b4 ++ l) (sym (name_apart h.rel [] number)) in
    let t4 : b6 ≡ b3 ++ image_bytes h.image (rel_bytes h.rel number) = t5 ∙ ap (λ (l : List ℕ). l ++ rel_bytes h.rel number) e4 ∙ append_assoc b3 (image_bytes h.image []) (rel_bytes h.rel number) ∙ ap (λ (l : List ℕ). b3 ++ l) (sym (image_apart h.image [] (rel_bytes h.rel number))) in
    let behind : List ℕ = image_bytes h.image (rel_bytes h.rel number) in
    let t3 : b6 ≡ b2 ++ (to_le_bytes w16 h.data_len ++ behind) = t4 ∙ ap (λ (l : List ℕ). l ++ behind) e3 ∙ append_assoc b2 (to_le_bytes w16 h.data_len) behind in
    let t2 : b6 ≡ b1 ++ (h.flags ∷ (to_le_bytes w16 h.data_len ++ behind)) = t3 ∙ ap (λ (l : List ℕ). l ++ (to_le_bytes w16 h.data_len ++ behind)) e2 ∙ append_assoc b1 (h.flags ∷ []) (to_le_bytes w16 h.data_len ++ behind) in
    let t1 : b6 ≡ b0 ++ (h.id ∷ (h.flags ∷ (to_le_bytes w16 h.data_len ++ behind))) = t2 ∙ ap (λ (l : List ℕ). l ++ (h.flags ∷ (to_le_bytes w16 h.data_len ++ behind))) e1 ∙ append_assoc b0 (h.id ∷ []) (h.flags ∷ (to_le_bytes w16 h.data_len ++ behind)) in
    t1 ∙ ap (λ (n : ℕ). b0 ++ (n ∷ (h.flags ∷ (to_le_bytes w16 h.data_len ++ behind)))) id-is ∙ ap (λ (n : ℕ). b0 ++ (h.id % 256 ∷ (n ∷ (to_le_bytes w16 h.data_len ++ behind)))) flags-is

-- an announcement, and what stands behind it
pub block_apart : (h : BlockHead) (rest : List ℕ) → block_bytes h rest ≡ block_bytes h [] ++ rest
block_apart h rest =
    let front : List ℕ → List ℕ = λ l. to_le_bytes w8 h.id ++ (to_le_bytes w8 h.flags ++ (to_le_bytes w16 h.data_len ++ l)) in
    let number : List ℕ = to_le_bytes w32 h.block ++ [] in
    ap (λ (l : List ℕ). to_le_bytes w8 h.id ++ (to_le_bytes w8 h.flags ++ (to_le_bytes w16 h.data_len ++ image_bytes h.image l))) (name_apart h.rel number rest)
    ∙ ap (λ (l : List ℕ). to_le_bytes w8 h.id ++ (to_le_bytes w8 h.flags ++ (to_le_bytes w16 h.data_len ++ l))) (image_apart h.image (rel_bytes h.rel number) rest)

pub heads_apart : (hs : List BlockHead) (rest : List ℕ) → heads_bytes hs Absent rest ≡ heads_bytes hs Absent [] ++ rest
heads_apart [] rest = refl
heads_apart (h ∷ hs) rest =
    ap (block_bytes h) (heads_apart hs rest)
    ∙ block_apart h (heads_bytes hs Absent [] ++ rest)
    ∙ sym (append_assoc (block_bytes h []) (heads_bytes hs Absent []) rest)
    ∙ ap (λ (l : List ℕ). l ++ rest) (sym (block_apart h (heads_bytes hs Absent [])))

blocks_body : (blocks : List BlockRef) → body_of (Generic blocks) ≡ all_heads blocks ++ bodies_bytes blocks
blocks_body blocks = ap (heads_bytes (heads_of 0 None blocks) Absent) (append-nil (bodies_bytes blocks)) ∙ heads_apart (heads_of 0 None blocks) (bodies_bytes blocks)

-- behind what was there
pub blocks_behind : (bytes : List ℕ) (blocks : List BlockRef) → (bytes ++ all_heads blocks) ++ bodies_bytes blocks ≡ bytes ++ body_of (Generic blocks)
blocks_behind bytes blocks = append_assoc bytes (all_heads blocks) (bodies_bytes blocks) ∙ ap (λ (l : List ℕ). bytes ++ l) (sym (blocks_body blocks))

-- one more announcement
pub one_more : (bytes now whole : List ℕ) (id : ℕ) (last : Option Relation) (blocks : List BlockRef) (i : ℕ) (b : BlockRef) → i < length blocks → b ≡ get_or blocks i b
    → now ≡ bytes ++ block_bytes (head_of id last b) []
    → bytes ++ heads_bytes (heads_of id last (drop i blocks)) Absent [] ≡ whole
    → now ++ heads_bytes (heads_of (id + 1) (Some b.at.fork.rel) (drop (i + 1) blocks)) Absent [] ≡ whole
one_more bytes now whole id last blocks i b lt is added e =
    let next : drop i blocks ≡ b ∷ drop (i + 1) blocks = drop_more blocks i b lt ∙ ap (λ (x : BlockRef). x ∷ drop (i + 1) blocks) (sym is) in
    let h : BlockHead = head_of id last b in
    let more : List ℕ = heads_bytes (heads_of (id + 1) (Some b.at.fork.rel) (drop (i + 1) blocks)) Absent [] in
    ap (λ (l : List ℕ). l ++ more) added
    ∙ append_assoc bytes (block_bytes h []) more
    ∙ ap (λ (l : List ℕ). bytes ++ l) (sym (block_apart h more))
    ∙ ap (λ (l : List BlockRef). bytes ++ heads_bytes (heads_of id last l) Absent []) (sym next)
    ∙ e
