-- Announcements read one by one.
use Rattle.std.proofs.Common.{◌≡◌, ℕ, suc, ◌+◌, List, [], ◌∷◌, ◌++◌, Option, Some, None, refl, sym, ap, append-nil, append_assoc}
use Rattle.wal_pages.specs.declared.wal_heads.announce.BlockHead.{BlockHead}
use Rattle.wal_pages.specs.declared.wal_heads.announce.MainHead.{MainHead}
use Rattle.wal_pages.specs.declared.wal_heads.announce.Announcement.{Announcement}
use Rattle.wal_pages.specs.declared.wal_heads.announce.Announcement.TheVariants.{Block, Last}
use Rattle.wal_pages.specs.wal_heads.Heads.{block_size}
use Rattle.wal_pages.specs.wal_heads.Announcements.{Heads, step_at, with_head, heads_at}

-- blocks in front of all that is read behind them
abbrev pub with_front : List BlockHead → Option Heads → Option Heads
with_front hs None = None
with_front hs (Some x) = Some (hs ++ x.0, x.1, x.2)

-- nothing is read where the next step finds nothing
pub ended : (hs : List BlockHead) (fuel more least before : ℕ) (bytes : List ℕ) (whole : Option Heads) → fuel ≡ suc more → None ≡ step_at least before bytes → with_front hs (heads_at fuel least before bytes) ≡ whole → None ≡ whole
unfolding heads_at
ended hs fuel more least before bytes whole e step read = rw (← read, e, ← step) refl

-- what is read where the announcements end
pub finished : (hs : List BlockHead) (fuel more least before : ℕ) (bytes parts : List ℕ) (a : Announcement) (main : MainHead) (whole : Option Heads) → fuel ≡ suc more → a ≡ Last main → Some (a, parts) ≡ step_at least before bytes
    → with_front hs (heads_at fuel least before bytes) ≡ whole → Some (hs, main, parts) ≡ whole
unfolding heads_at
finished hs fuel more least before bytes parts a main whole e is step read =
    rw (← read, e, ← step, is) (ap (λ (l : List BlockHead). let o : Option Heads = Some (l, main, parts) in o) (sym (append-nil hs)))

one_more : (hs : List BlockHead) (h : BlockHead) (o : Option Heads) → with_front (hs ++ (h ∷ [])) o ≡ with_front hs (with_head h o)
one_more hs h None = refl
one_more hs h (Some x) = ap (λ (l : List BlockHead). let o : Option Heads = Some (l, x.1, x.2) in o) (append_assoc hs (h ∷ []) x.0)

-- a block that is read goes to those before it
pub went_on : (hs hs' : List BlockHead) (fuel more least before id size : ℕ) (bytes rest : List ℕ) (a : Announcement) (h : BlockHead) (whole : Option Heads) → fuel ≡ suc more → a ≡ Block h → Some (a, rest) ≡ step_at least before bytes
    → hs' ≡ hs ++ (h ∷ []) → id ≡ h.id → size ≡ block_size h → with_front hs (heads_at fuel least before bytes) ≡ whole → with_front hs' (heads_at more (id + 1) (before + size) rest) ≡ whole
unfolding heads_at
went_on hs hs' fuel more least before id size bytes rest a h whole e is step add same sized read =
    rw (← read, e, ← step, is, add, same, sized) (one_more hs h (heads_at more (h.id + 1) (before + block_size h) rest))

-- nothing is read where no announcement may follow any more
pub none_left : (hs : List BlockHead) (fuel least before : ℕ) (bytes : List ℕ) (whole : Option Heads) → fuel ≡ 0 → with_front hs (heads_at fuel least before bytes) ≡ whole → None ≡ whole
unfolding heads_at
none_left hs fuel least before bytes whole e read = rw (← read, e) refl
