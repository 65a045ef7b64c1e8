-- Fragments and blocks read one by one.
use Rattle.std.proofs.Common.{◌≡◌, ℕ, zero, suc, ◌+◌, ◌<◌, ◌≤◌, List, [], ◌∷◌, ◌++◌, length, get_or, take, drop, Option, Some, None, Result, Ok, Err, refl, sym, ap, ◌∙◌, arith, ltb}
use Rattle.std.specs.Int.{Width, w16, byte_len, from_le_bytes}
use Rattle.std.proofs.lemmas.List.{append-nil, append_assoc, length-drop, drop_more, drop_all}
use Rattle.std.proofs.lemmas.Bool.{ltb-false}
use Rattle.lsn_core.specs.byte_words.Numbers.{◌>>=◌, number_at}
use Rattle.lsn_core.proofs.byte_words.Fields.{guard_some}
use Rattle.lsn_core.specs.declared.ids.BlockId.{BlockId}
use Rattle.pg_page.specs.Frags.{Fragment}
use Rattle.wal_pages.specs.declared.wal_heads.announce.BlockHead.{BlockHead}
use Rattle.wal_pages.specs.declared.wal_heads.announce.RelName.{RelName}
use Rattle.wal_pages.specs.declared.wal_heads.header.Form.{Form}
use Rattle.wal_record.specs.declared.record.BlockRef.{BlockRef}
use Rattle.wal_record.specs.declared.record.RecordFault.{RecordFault}
use Rattle.wal_record.specs.declared.record.RecordFault.TheVariants.{Length, Prev, Crc, Unsupported, Header, Content, NoMemory}
use Rattle.wal_record.specs.declared.record.Why.{Why}
use Rattle.wal_pages.specs.wal_heads.Heads.{image_size, block_size}
use Rattle.wal_record.specs.Outcome.{refused, Fails}
use Rattle.wal_record.specs.Parts.{frag_at, with_frag, frags_at}
use Rattle.wal_record.specs.Content.{id_said, body_by, block_said, own_name, with_block, blocks_said}
use Rattle.wal_pages.proofs.wal_heads.Steps.{took}

-- fragments, and those that are read behind them
abbrev pub with_frags : List Fragment → Option (List Fragment) → Option (List Fragment)
with_frags done None = None
with_frags done (Some frags) = Some (done ++ frags)

-- what is left behind a number is shorter
number_shorter : (w : Width) (bytes : List ℕ) (x : ℕ × List ℕ) → number_at w bytes ≡ Some x → length x.1 + byte_len w ≤ length bytes
number_shorter w bytes x e =
    let g = guard_some (ltb (length bytes) (byte_len w)) (from_le_bytes w (take (byte_len w) bytes), drop (byte_len w) bytes) x e in
    let long : byte_len w ≤ length bytes = ltb-false _ _ g.0 in
    let rest : drop (byte_len w) bytes ≡ x.1 = ap (λ (p : ℕ × List ℕ). p.1) g.1 in
    omega (arith, ap length rest, length-drop (byte_len w) bytes)

frag_shorter : (bytes : List ℕ) (x : Fragment × List ℕ) → frag_at bytes ≡ Some x → length x.1 + 4 ≤ length bytes
unfolding frag_at
frag_shorter bytes x e =
    let P : Type 0 = length x.1 + 4 ≤ length bytes in
    took (number_at w16 bytes) _ x P e (λ at e1 g1.
    took (number_at w16 at.1) _ x P g1 (λ len e2 g2.
    let frag : Fragment = record { at = at.0; bytes = take len.0 len.1 } in
    let g = guard_some (ltb (length len.1) len.0) (frag, drop len.0 len.1) x g2 in
    let rest : drop len.0 len.1 ≡ x.1 = ap (λ (p : Fragment × List ℕ). p.1) g.1 in
    omega (arith, ap length rest, length-drop len.0 len.1, number_shorter w16 bytes at e1, number_shorter w16 at.1 len e2)))

one_frag : (done : List Fragment) (f : Fragment) (o : Option (List Fragment)) → with_frags (done ++ (f ∷ [])) o ≡ with_frags done (with_frag f o)
one_frag done f None = refl
one_frag done f (Some frags) = ap (λ (l : List Fragment). Some l) (append_assoc done (f ∷ []) frags)

-- one more fragment
pub frags_more : (done now : List Fragment) (f : Fragment) (n : ℕ) (bytes more : List ℕ) (whole : Option (List Fragment)) → 0 < length bytes → frag_at bytes ≡ Some (f, more) → length bytes ≤ n → now ≡ done ++ (f ∷ [])
    → with_frags done (frags_at n bytes) ≡ whole → (m : ℕ) × ((length more ≤ m) × (with_frags now (frags_at m more) ≡ whole))
unfolding frags_at
frags_more done now f n [] more whole some e long added read = absurd (omega (arith, some))
frags_more done now f zero (b ∷ bs) more whole some e long added read = absurd (omega (arith, long))
frags_more done now f (suc m) (b ∷ bs) more whole some e long added read = (
  m,
  (
    omega (arith, long, frag_shorter (b ∷ bs) (f, more) e),
    ap (λ (l : List Fragment). with_frags l (frags_at m more)) added ∙ one_frag done f (frags_at m more)
        ∙ ap (λ (o : Option (Fragment × List ℕ)). with_frags done (o >>= λ x. with_frag x.0 (frags_at m x.1))) (sym e) ∙ read,
  ),
)

pub frag_left : (bytes : List ℕ) (f : Fragment) (more : List ℕ) → frag_at bytes ≡ Some (f, more) → length more < length bytes
frag_left bytes f more e = omega (arith, frag_shorter bytes (f, more) e)

-- where none follows, none is read
pub frags_none : (done : List Fragment) (n : ℕ) (bytes : List ℕ) (whole : Option (List Fragment)) → 0 < length bytes → None ≡ frag_at bytes → length bytes ≤ n → with_frags done (frags_at n bytes) ≡ whole → None ≡ whole
unfolding frags_at
frags_none done n [] whole some e long read = absurd (omega (arith, some))
frags_none done zero (b ∷ bs) whole some e long read = absurd (omega (arith, long))
frags_none done (suc m) (b ∷ bs) whole some e long read = ap (λ (o : Option (Fragment × List ℕ)). with_frags done (o >>= λ x. with_frag x.0 (frags_at m x.1))) e ∙ read

-- and at the end all are read
pub frags_read : (done : List Fragment) (n : ℕ) (bytes : List ℕ) (whole : Option (List Fragment)) → length bytes ≡ 0 → with_frags done (frags_at n bytes) ≡ whole → Some done ≡ whole
unfolding frags_at
frags_read done zero [] whole none read = ap (λ (l : List Fragment). Some l) (sym (append-nil done)) ∙ read
frags_read done (suc n) [] whole none read = ap (λ (l : List Fragment). Some l) (sym (append-nil done)) ∙ read
frags_read done n (b ∷ bs) whole none read = absurd (omega (arith, none))

-- blocks, and those that are read behind them
abbrev pub with_blocks : List BlockRef → Result (List BlockRef) Why → Result (List BlockRef) Why
with_blocks done (Ok blocks) = Ok (done ++ blocks)
with_blocks done (Err why) = Err why

-- what refusals of content tell
pub refused_ok : {A : Type 0} (o : Result A Why) (x : A) → refused o ≡ Ok x → o ≡ Ok x
refused_ok (Ok y) x e = cc
refused_ok (Err why) x e = absurd cc

refused_err : {A : Type 0} (o : Result A Why) (why : Why) → refused o ≡ Err (Content why) → o ≡ Err why
refused_err (Ok y) why e = absurd cc
refused_err (Err w) why e = let same : Content w ≡ Content why = cc in let is : w ≡ why = cc in ap (λ (x : Why). let r : Result _ Why = Err x in r) is

-- a fault of a step is that of what it is part of
pub fails_on : {A B : Type 0} (fault : RecordFault) (o : Result A Why) (p : Result B Why) → ((why : Why) → o ≡ Err why → p ≡ Err why) → Fails fault (refused o) → Fails fault (refused p)
fails_on Length (Ok x) p go e = absurd cc
fails_on Length (Err w) p go e = absurd cc
fails_on Prev (Ok x) p go e = absurd cc
fails_on Prev (Err w) p go e = absurd cc
fails_on Crc (Ok x) p go e = absurd cc
fails_on Crc (Err w) p go e = absurd cc
fails_on (Unsupported m i) (Ok x) p go e = absurd cc
fails_on (Unsupported m i) (Err w) p go e = absurd cc
fails_on Header (Ok x) p go e = absurd cc
fails_on Header (Err w) p go e = absurd cc
fails_on (Content why) o p go e = ap refused (go why (refused_err o why e))
fails_on NoMemory o p go e = tt

-- a block whose body is refused
pub block_fails : (form : Form) (name : RelName) (head : BlockHead) (parts image delta : List ℕ) (at : BlockId) (fault : RecordFault) → Ok at ≡ id_said name head → image ≡ take (image_size head.image) parts → delta ≡ take head.data_len (drop (image_size head.image) parts)
    → Fails fault (refused (body_by form head head.image image delta)) → Fails fault (refused (block_said form name head parts))
unfolding block_said
block_fails form name head parts image delta at fault id imaged told failed =
    fails_on fault (body_by form head head.image image delta) (block_said form name head parts) (λ why is. rw (← id, ← imaged, ← told, is) refl) failed

-- the head that stands for none
abbrev pub none_head : BlockHead
none_head = record { id = 0; flags = 0; data_len = 0; image = None; rel = None; block = 0 }

one_block : (done : List BlockRef) (b : BlockRef) (o : Result (List BlockRef) Why) → with_blocks (done ++ (b ∷ [])) o ≡ with_blocks done (with_block b o)
one_block done b (Ok blocks) = ap (λ (l : List BlockRef). let r : Result (List BlockRef) Why = Ok l in r) (append_assoc done (b ∷ []) blocks)
one_block done b (Err why) = refl

-- what is read from the next block on
next_said : (done : List BlockRef) (form : Form) (last name : RelName) (h : BlockHead) (hs : List BlockHead) (parts : List ℕ) (o : Result BlockRef Why) → name ≡ own_name last h.rel → block_said form name h parts ≡ o → Result (List BlockRef) Why
next_said done form last name h hs parts (Ok b) named said = with_blocks (done ++ (b ∷ [])) (blocks_said form name hs (drop (block_size h) parts))
next_said done form last name h hs parts (Err why) named said = Err why

said_next : (done : List BlockRef) (form : Form) (last name : RelName) (h : BlockHead) (hs : List BlockHead) (parts : List ℕ) (o : Result BlockRef Why) (named : name ≡ own_name last h.rel) (said : block_said form name h parts ≡ o)
    → with_blocks done (blocks_said form last (h ∷ hs) parts) ≡ next_said done form last name h hs parts o named said
unfolding blocks_said next_said
said_next done form last name h hs parts (Ok b) named said = rw (← named, said) (sym (one_block done b (blocks_said form name hs (drop (block_size h) parts))))
said_next done form last name h hs parts (Err why) named said = rw (← named, said) refl

heads_next : (heads : List BlockHead) (i : ℕ) → i < length heads → drop i heads ≡ get_or heads i none_head ∷ drop (i + 1) heads
heads_next heads i lt = drop_more heads i none_head lt

-- one more block
pub blocks_more : (done now : List BlockRef) (form : Form) (last name : RelName) (heads : List BlockHead) (i : ℕ) (parts more : List ℕ) (b : BlockRef) (size : ℕ) (whole : Result (List BlockRef) Why)
    → i < length heads → name ≡ own_name last (get_or heads i none_head).rel → refused (block_said form name (get_or heads i none_head) parts) ≡ Ok b → now ≡ done ++ (b ∷ []) → size ≡ block_size (get_or heads i none_head) → more ≡ drop size parts
    → with_blocks done (blocks_said form last (drop i heads) parts) ≡ whole → with_blocks now (blocks_said form name (drop (i + 1) heads) more) ≡ whole
unfolding next_said
blocks_more done now form last name heads i parts more b size whole lt named said added sized cut read =
    let h : BlockHead = get_or heads i none_head in
    let is = refused_ok (block_said form name h parts) b said in
    ap (λ (l : List BlockRef). with_blocks l (blocks_said form name (drop (i + 1) heads) more)) added
    ∙ ap (λ (l : List ℕ). with_blocks (done ++ (b ∷ [])) (blocks_said form name (drop (i + 1) heads) l)) (cut ∙ ap (λ (n : ℕ). drop n parts) sized)
    ∙ sym (said_next done form last name h (drop (i + 1) heads) parts (Ok b) named is)
    ∙ ap (λ (l : List BlockHead). with_blocks done (blocks_said form last l parts)) (sym (heads_next heads i lt))
    ∙ read

-- a block that is refused refuses all
pub blocks_fail : (done : List BlockRef) (form : Form) (last name : RelName) (heads : List BlockHead) (i : ℕ) (parts : List ℕ) (fault : RecordFault) (whole : Result (List BlockRef) Why)
    → i < length heads → name ≡ own_name last (get_or heads i none_head).rel → Fails fault (refused (block_said form name (get_or heads i none_head) parts))
    → with_blocks done (blocks_said form last (drop i heads) parts) ≡ whole → Fails fault (refused whole)
unfolding next_said
blocks_fail done form last name heads i parts fault whole lt named said read =
    let h : BlockHead = get_or heads i none_head in
    fails_on fault (block_said form name h parts) whole (λ why is.
    sym read ∙ ap (λ (l : List BlockHead). with_blocks done (blocks_said form last l parts)) (heads_next heads i lt) ∙ said_next done form last name h (drop (i + 1) heads) parts (Err why) named is) said

-- and at the end all are read
pub blocks_read : (done : List BlockRef) (form : Form) (last : RelName) (heads : List BlockHead) (i : ℕ) (parts : List ℕ) (whole : Result (List BlockRef) Why) → length heads ≤ i → with_blocks done (blocks_said form last (drop i heads) parts) ≡ whole → refused whole ≡ Ok done
unfolding blocks_said
blocks_read done form last heads i parts whole end read =
    let is : whole ≡ Ok done = sym read ∙ ap (λ (l : List BlockHead). with_blocks done (blocks_said form last l parts)) (drop_all i heads end) ∙ ap (λ (l : List BlockRef). let r : Result (List BlockRef) Why = Ok l in r) (append-nil done) in
    ap refused is
