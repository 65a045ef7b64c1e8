-- The block references of a record redone in turn.
use Rattle.std.proofs.Common.{◌≡◌, ℕ, ◌+◌, ◌<◌, ◌≤◌, List, [], ◌∷◌, ◌++◌, length, take, map, get_or, ◌⊎◌, inl, inr, sym, Option, Some, None, refl, ap, ◌∙◌, arith}
use Rattle.std.specs.Prelude.{slice_get}
use Rattle.std.proofs.lemmas.Option.{slice_get_cases}
use Rattle.wal_record.specs.declared.record.Record.{Record}
use Rattle.wal_record.specs.declared.record.BlockRef.{BlockRef}
use Rattle.wal_record.specs.Spelling.{blocks_of}
use Rattle.history.specs.Whole.{item_of}
use Rattle.history.specs.Redo.{redone}
use Rattle.history.proofs.Pushes.{map_more}
use Rattle.generic_redo.specs.Redo.{ref_redone}
use Rattle.lsn_core.specs.byte_words.Numbers.{◌>>=◌}
use Rattle.lsn_core.specs.Store.{Store}
use Rattle.history.specs.declared.op.Item.{Item}
use Rattle.history.specs.Apply.{Rule, item_by, items_by}

last : (o : Option Store) → (o >>= λ t. Some t) ≡ o
last None = refl
last (Some t) = refl

-- one item more
pub items_more : (rule : Rule) (end : ℕ) (s : Store) (items : List Item) (item : Item) → items_by rule end s (items ++ (item ∷ [])) ≡ (items_by rule end s items >>= λ t. item_by rule end t item)
items_more rule end s [] item = last (item_by rule end s item)
items_more rule end s (first ∷ items) item = go (λ t. items_more rule end t items item) (item_by rule end s first)
  where
    go : ((t : Store) → items_by rule end t (items ++ (item ∷ [])) ≡ (items_by rule end t items >>= λ t. item_by rule end t item))
        → (o : Option Store) → (o >>= λ t. items_by rule end t (items ++ (item ∷ []))) ≡ ((o >>= λ t. items_by rule end t items) >>= λ t. item_by rule end t item)
    go behind None = refl
    go behind (Some t) = behind t

-- the first block references of a record redone, so many
abbrev pub refs_redone : Record → ℕ → Store → Option Store
refs_redone r count store = items_by redone r.end.0 store (map item_of (take count (blocks_of r.kind)))

-- one reference more
one_more : (end : ℕ) (s : Store) (blocks : List BlockRef) (i : ℕ) (b : BlockRef) → i < length blocks → b ≡ get_or blocks i b
    → items_by redone end s (map item_of (take (i + 1) blocks)) ≡ (items_by redone end s (map item_of (take i blocks)) >>= λ t. item_by redone end t (item_of b))
one_more end s blocks i b within is = ap (items_by redone end s) (map_more item_of blocks i b within is) ∙ items_more redone end s (map item_of (take i blocks)) (item_of b)

pub refs_more : (r : Record) (i : ℕ) (s : Store) → i < length (blocks_of r.kind) → refs_redone r (i + 1) s ≡ (refs_redone r i s >>= ref_redone r i)
refs_more r i s within = go (slice_get_cases (blocks_of r.kind) i).1
  where
    go : ((b : BlockRef) × (i < length (blocks_of r.kind)) × (slice_get (blocks_of r.kind) i ≡ Some b) × (get_or (blocks_of r.kind) i b ≡ b)) ⊎ ((length (blocks_of r.kind) ≤ i) × (slice_get (blocks_of r.kind) i ≡ None))
        → refs_redone r (i + 1) s ≡ (refs_redone r i s >>= ref_redone r i)
    go (inl h) =
        one_more r.end.0 s (blocks_of r.kind) i h.0 within (sym h.3)
        ∙ ap (λ (o : Option BlockRef). refs_redone r i s >>= λ t. o >>= λ b. item_by redone r.end.0 t (item_of b)) (sym h.2)
    go (inr h) = absurd (let past = h.0 in omega (arith, past, within))
