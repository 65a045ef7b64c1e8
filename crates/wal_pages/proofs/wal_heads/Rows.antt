-- Worked examples of what announcements are read as.
use Rattle.std.proofs.Common.{◌≡◌, ℕ, List, [], ◌∷◌, map, Option, Some, None, refl}
use Rattle.wal_pages.specs.declared.wal_heads.announce.MainHead.TheVariants.{Absent, Short}
use Rattle.wal_pages.specs.wal_heads.Heads.{has_bit}
use Rattle.wal_pages.specs.wal_heads.Header.{form_of}
use Rattle.wal_pages.specs.wal_heads.Announcements.{Heads, image_at, named_at, name_at, block_head_at, next_block_at, step_at, heads_at}

-- a block's announcement by hand: its id, its flags and the length of its data; then its relation and its number
abbrev head : ℕ → ℕ → ℕ → List ℕ → List ℕ
head id flags size rest = id ∷ flags ∷ size ∷ 0x00 ∷ 0x7f ∷ 0x06 ∷ 0x00 ∷ 0x00 ∷ 0x05 ∷ 0x00 ∷ 0x00 ∷ 0x00 ∷ 0x00 ∷ 0x40 ∷ 0x00 ∷ 0x00 ∷ 0x07 ∷ 0x00 ∷ 0x00 ∷ 0x00 ∷ rest

-- what is announced is all that is there
one_read : heads_at 34 0 0 (head 0 0x20 1 (0xab ∷ [])) ≡ Some (record { id = 0; flags = 0x20; data_len = 1; image = None; rel = Some (record { space = 1663; db = 5; rel = 16384 }); block = 7 } ∷ [], Absent, 0xab ∷ [])
unfolding heads_at step_at next_block_at block_head_at image_at name_at named_at has_bit
one_read = refl

abbrev take_ids : Option Heads → List ℕ
take_ids None = []
take_ids (Some x) = map (λ h. h.id) x.0

id_32_read : take_ids (heads_at 34 0 0 (head 32 0x20 1 (0xab ∷ []))) ≡ 32 ∷ []
unfolding heads_at step_at next_block_at block_head_at image_at name_at named_at has_bit
id_32_read = refl

id_33 : heads_at 34 0 0 (head 33 0x20 1 (0xab ∷ [])) ≡ None
unfolding heads_at step_at next_block_at block_head_at image_at name_at named_at has_bit
id_33 = refl

byte_too_many : heads_at 34 0 0 (head 0 0x20 1 (0xab ∷ 0xcd ∷ [])) ≡ None
unfolding heads_at step_at next_block_at block_head_at image_at name_at named_at has_bit
byte_too_many = refl

byte_too_few : heads_at 34 0 0 (head 0 0x20 1 []) ≡ None
unfolding heads_at step_at next_block_at block_head_at image_at name_at named_at has_bit
byte_too_few = refl

data_unflagged : heads_at 34 0 0 (head 0 0x00 1 (0xab ∷ [])) ≡ None
unfolding heads_at step_at next_block_at block_head_at image_at name_at named_at has_bit
data_unflagged = refl

fork_4 : heads_at 34 0 0 (head 0 0x24 1 (0xab ∷ [])) ≡ None
unfolding heads_at step_at next_block_at block_head_at image_at name_at named_at has_bit
fork_4 = refl

ids_again : heads_at 34 0 0 (head 3 0x20 1 (head 3 0x20 1 (0xab ∷ 0xcd ∷ []))) ≡ None
unfolding heads_at step_at next_block_at block_head_at image_at name_at named_at has_bit
ids_again = refl

-- an announcement of no main data is read
no_main : heads_at 34 0 0 (0xff ∷ 0x00 ∷ []) ≡ Some ([], Short 0, [])
unfolding heads_at step_at
no_main = refl

-- the low bits of the info byte don't tell the kind
low_bits : form_of 2 0x21 ≡ form_of 2 0x20
low_bits = refl

unknown : form_of 0 0x30 ≡ None
unknown = refl
