-- A history as it is read back from its log: entries that touch, cut and create the same, at the same places.
use Rattle.std.proofs.Common.{◌≡◌, ℕ, ◌*◌, ◌%◌, ◌/◌, true, false, pos, cond, ◌&&◌, ◌||◌, List, [], ◌∷◌, ◌++◌, map, refl, sym, ap, ◌∙◌, ⊎_elim, arith}
use Rattle.std.specs.Prelude.{nat_lt, nat_le}
use Rattle.std.specs.List.{list_any}
use Rattle.std.proofs.lemmas.Bool.{and_parts, and_from, or_left, or_right, leb-false, lt-ltb}
use Rattle.std.proofs.lemmas.Bool.Decides.{eqb_tells}
use Rattle.lsn_core.specs.declared.ids.ForkId.{ForkId}
use Rattle.lsn_core.specs.declared.ids.BlockId.{BlockId}
use Rattle.lsn_core.specs.Store.{Store}
use Rattle.pg_page.specs.Header.{lsn_of}
use Rattle.pg_page.specs.Frags.{patched}
use Rattle.wal_record.specs.declared.record.Body.TheVariants.{Image, Delta}
use Rattle.history.specs.declared.op.Edit.{Edit}
use Rattle.history.specs.declared.op.Edit.TheVariants.{Put, Patch}
use Rattle.history.specs.declared.op.Item.{Item}
use Rattle.history.specs.Entry.{Shutdown, Online, RedoMark, NoOp, BackupEnd, IdleCut, IdleCommit, Act, Create, Truncate, Change, Drop, Mark}
use Rattle.history.specs.Apply.{page_at}
use Rattle.history.specs.Whole.{edit_of, item_of, is_named, is_patch, said_behind, cuts_main, commit_act, act_of}
use Rattle.history.specs.Written.{body_of, block_of_item, kind_of}
use Rattle.history.specs.Laws.{AreFresh, IsFresh}
use Rattle.history.specs.fuzzy_copies.Touches.{is_at, is_patch_at, act_touches, act_cuts, act_settles, act_patches, limit_of}
use Rattle.history.proofs.fuzzy_copies.Completed.{same_place, or_second}
use Rattle.history.proofs.fuzzy_copies.Ranges.{and_false}

-- an item as it is written, by the store before its entry
abbrev pub said_item : Store → ℕ → Item → Item
said_item store redo item = item_of (block_of_item store redo item)

-- a patch that is written as one is of a page whose LSN is above the latest redo point
body_patch : (redo : ℕ) (old : List ℕ) (edit : Edit) → is_patch (edit_of (body_of redo old edit)) ≡ true → (is_patch edit ≡ true) × (nat_lt redo (lsn_of old) ≡ true)
body_patch redo old (Put page) e = absurd cc
body_patch redo old (Patch frags) e =
    elim (nat_le (lsn_of old) redo) as (λ b. nat_le (lsn_of old) redo ≡ b → is_patch (edit_of (cond b (Image (patched frags (lsn_of old) old)) (Delta frags))) ≡ true → (is_patch (Patch frags) ≡ true) × (nat_lt redo (lsn_of old) ≡ true)) [
      | true ↦ λ k f. absurd cc
      | false ↦ λ k f. (refl, lt-ltb redo (lsn_of old) (leb-false (lsn_of old) redo k))
    ] refl e

still_fresh : (named : List BlockId) (redo : ℕ) (old : List ℕ) (at : BlockId) (edit : Edit) → (is_patch edit && is_named at named) ≡ false → (is_patch (edit_of (body_of redo old edit)) && is_named at named) ≡ false
still_fresh named redo old at (Put page) e = refl
still_fresh named redo old at (Patch frags) e = ap (λ b. is_patch (edit_of (body_of redo old (Patch frags))) && b) e ∙ and_false (is_patch (edit_of (body_of redo old (Patch frags))))

-- of a fresh entry all references say something
all_said : (store : Store) (redo : ℕ) (named : List BlockId) (items : List Item) → AreFresh named items → said_behind named (map (block_of_item store redo) items) ≡ map (said_item store redo) items
all_said store redo named [] fresh = refl
all_said store redo named (item ∷ items) fresh =
    let rest = all_said store redo (named ++ (item.at ∷ [])) items fresh.1 in
    let told = said_behind (named ++ (item.at ∷ [])) (map (block_of_item store redo) items) in
    ap (λ b. cond b told (said_item store redo item ∷ told)) (still_fresh named redo (page_at store item.at) item.at item.edit fresh.0) ∙ ap (λ (l : List Item). said_item store redo item ∷ l) rest

touches_same : (store : Store) (redo : ℕ) (fork : ForkId) (block : ℕ) (items : List Item) → list_any (is_at fork block) (map (said_item store redo) items) ≡ list_any (is_at fork block) items
touches_same store redo fork block [] = refl
touches_same store redo fork block (item ∷ items) = ap (λ b. is_at fork block item || b) (touches_same store redo fork block items)

items_patch : (store : Store) (redo : ℕ) (fork : ForkId) (block : ℕ) (items : List Item) → list_any (is_patch_at fork block) (map (said_item store redo) items) ≡ true
    → (list_any (is_patch_at fork block) items ≡ true) × (nat_lt redo (lsn_of (page_at store (record { fork = fork; block = block }))) ≡ true)
items_patch store redo fork block [] e = absurd cc
items_patch store redo fork block (item ∷ items) e =
    let here = is_patch_at fork block (said_item store redo item) in
    elim here as (λ b. here ≡ b → ((is_patch_at fork block item || list_any (is_patch_at fork block) items) ≡ true) × (nat_lt redo (lsn_of (page_at store (record { fork = fork; block = block }))) ≡ true)) [
      | true ↦ λ k.
          let q = and_parts (is_at fork block item) (is_patch (said_item store redo item).edit) k in
          let p = body_patch redo (page_at store item.at) item.edit q.1 in (
            or_left (is_patch_at fork block item) _ (and_from (is_at fork block item) (is_patch item.edit) q.0 p.0),
            ap (λ (at : BlockId). nat_lt redo (lsn_of (page_at store at))) (same_place fork block item q.0) ∙ p.1,
          )
      | false ↦ λ k.
          let rest = items_patch store redo fork block items (or_second here (list_any (is_patch_at fork block) (map (said_item store redo) items)) e k) in
          (or_right (is_patch_at fork block item) _ rest.0, rest.1)
    ] refl

-- a truncation that is written with half its flags cuts no main fork
even : (n : ℕ) → cuts_main (2 * n) ≡ false
even n = ⊎_elim (λ x. absurd (omega (arith, x.1))) (λ x. x.0) (eqb_tells (2 * n % 2) 1)

-- an act, as what it is written as says it
abbrev pub said_act : Store → ℕ → Act → Act
said_act store redo (Create made) = Create made
said_act store redo (Truncate rel count) = Truncate rel count
said_act store redo (Change items) = Change (map (said_item store redo) items)
said_act store redo (Drop rels) = commit_act (pos 0) rels
said_act store redo (Mark marking) = Mark marking

pub act_back : (store : Store) (redo : ℕ) (act : Act) → IsFresh act → act_of (kind_of store redo act) ≡ said_act store redo act
act_back store redo (Create made) fresh = refl
act_back store redo (Truncate rel count) fresh = refl
act_back store redo (Change items) fresh = ap (λ (l : List Item). Change l) (all_said store redo [] items fresh)
act_back store redo (Drop rels) fresh = refl
act_back store redo (Mark (Shutdown at)) fresh = refl
act_back store redo (Mark (Online at)) fresh = refl
act_back store redo (Mark (RedoMark n)) fresh = refl
act_back store redo (Mark NoOp) fresh = refl
act_back store redo (Mark (BackupEnd at)) fresh = refl
act_back store redo (Mark (IdleCut rel count others)) fresh =
    let half : 2 * others / 2 ≡ others = omega arith in
    ap (λ b. cond b (Truncate rel count) (Mark (IdleCut rel count (2 * others / 2)))) (even others) ∙ ap (λ n. Mark (IdleCut rel count n)) half
act_back store redo (Mark (IdleCommit time)) fresh = refl

-- it touches, cuts and creates the same, and has the same limits
said_touches : (store : Store) (redo : ℕ) (fork : ForkId) (block : ℕ) (act : Act) → act_touches fork block (said_act store redo act) ≡ act_touches fork block act
said_touches store redo fork block (Create made) = refl
said_touches store redo fork block (Truncate rel count) = refl
said_touches store redo fork block (Change items) = touches_same store redo fork block items
said_touches store redo fork block (Drop []) = refl
said_touches store redo fork block (Drop (rel ∷ rels)) = refl
said_touches store redo fork block (Mark marking) = refl

said_cuts : (store : Store) (redo : ℕ) (fork : ForkId) (block : ℕ) (act : Act) → act_cuts fork block (said_act store redo act) ≡ act_cuts fork block act
said_cuts store redo fork block (Create made) = refl
said_cuts store redo fork block (Truncate rel count) = refl
said_cuts store redo fork block (Change items) = refl
said_cuts store redo fork block (Drop []) = refl
said_cuts store redo fork block (Drop (rel ∷ rels)) = refl
said_cuts store redo fork block (Mark marking) = refl

said_creates : (store : Store) (redo : ℕ) (fork : ForkId) (act : Act) → act_settles fork (said_act store redo act) ≡ act_settles fork act
said_creates store redo fork (Create made) = refl
said_creates store redo fork (Truncate rel count) = refl
said_creates store redo fork (Change items) = refl
said_creates store redo fork (Drop []) = refl
said_creates store redo fork (Drop (rel ∷ rels)) = refl
said_creates store redo fork (Mark marking) = refl

said_limit : (store : Store) (redo : ℕ) (fork : ForkId) (act : Act) → limit_of fork (said_act store redo act) ≡ limit_of fork act
said_limit store redo fork (Create made) = refl
said_limit store redo fork (Truncate rel count) = refl
said_limit store redo fork (Change items) = refl
said_limit store redo fork (Drop []) = refl
said_limit store redo fork (Drop (rel ∷ rels)) = refl
said_limit store redo fork (Mark marking) = refl

-- and so does an act that is read back
pub act_touches_same : (store : Store) (redo : ℕ) (fork : ForkId) (block : ℕ) (act : Act) → IsFresh act → act_touches fork block (act_of (kind_of store redo act)) ≡ act_touches fork block act
act_touches_same store redo fork block act fresh = ap (act_touches fork block) (act_back store redo act fresh) ∙ said_touches store redo fork block act

pub act_resets : (store : Store) (redo : ℕ) (fork : ForkId) (block : ℕ) (act : Act) → IsFresh act
    → (act_touches fork block (act_of (kind_of store redo act)) || act_cuts fork block (act_of (kind_of store redo act))) ≡ (act_touches fork block act || act_cuts fork block act)
act_resets store redo fork block act fresh =
    let cuts : act_cuts fork block (act_of (kind_of store redo act)) ≡ act_cuts fork block act = ap (act_cuts fork block) (act_back store redo act fresh) ∙ said_cuts store redo fork block act in
    ap (λ b. b || act_cuts fork block (act_of (kind_of store redo act))) (act_touches_same store redo fork block act fresh) ∙ ap (λ b. act_touches fork block act || b) cuts

pub act_settles_same : (store : Store) (redo : ℕ) (fork : ForkId) (act : Act) → IsFresh act → act_settles fork (act_of (kind_of store redo act)) ≡ act_settles fork act
act_settles_same store redo fork act fresh = ap (act_settles fork) (act_back store redo act fresh) ∙ said_creates store redo fork act

pub act_limit_same : (store : Store) (redo : ℕ) (fork : ForkId) (act : Act) → IsFresh act → limit_of fork (act_of (kind_of store redo act)) ≡ limit_of fork act
act_limit_same store redo fork act fresh = ap (limit_of fork) (act_back store redo act fresh) ∙ said_limit store redo fork act

-- a patch that is read back is one that was written as a delta
said_patch : (store : Store) (redo : ℕ) (fork : ForkId) (block : ℕ) (act : Act) → act_patches fork block (said_act store redo act) ≡ true
    → (act_patches fork block act ≡ true) × (nat_lt redo (lsn_of (page_at store (record { fork = fork; block = block }))) ≡ true)
said_patch store redo fork block (Create made) e = absurd cc
said_patch store redo fork block (Truncate rel count) e = absurd cc
said_patch store redo fork block (Change items) e = items_patch store redo fork block items e
said_patch store redo fork block (Drop []) e = absurd cc
said_patch store redo fork block (Drop (rel ∷ rels)) e = absurd cc
said_patch store redo fork block (Mark marking) e = absurd cc

pub act_patch : (store : Store) (redo : ℕ) (fork : ForkId) (block : ℕ) (act : Act) → IsFresh act → act_patches fork block (act_of (kind_of store redo act)) ≡ true
    → (act_patches fork block act ≡ true) × (nat_lt redo (lsn_of (page_at store (record { fork = fork; block = block }))) ≡ true)
act_patch store redo fork block act fresh e = said_patch store redo fork block act (sym (ap (act_patches fork block) (act_back store redo act fresh)) ∙ e)
