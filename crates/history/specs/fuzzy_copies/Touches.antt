-- What an entry does to a block or a fork: it touches the block, cuts it off, creates the fork or
-- drops it.
use Rattle.std.specs.Prelude.{ℕ, ◌&&◌, ◌||◌, Bool, false, nat_le, Option, Some, None, if◌then◌else◌}
use Rattle.std.specs.List.{list_any}
use Rattle.lsn_core.specs.declared.ids.ForkId.{ForkId}
use Rattle.history.specs.declared.op.Item.{Item}
use Rattle.history.specs.Entry.{Act, Create, Truncate, Change, Drop, Mark, Entry}
use Rattle.history.specs.Apply.{main_fork, is_same_fork, is_of_any, is_same_block}
use Rattle.history.specs.Whole.{is_patch}

-- an item is of the block, whether it puts a page or patches the one that is there
abbrev pub is_at : ForkId → ℕ → Item → Bool
is_at fork block item = is_same_block (record { fork = fork; block = block }) item.at

-- an item is a patch of the block
abbrev pub is_patch_at : ForkId → ℕ → Item → Bool
is_patch_at fork block item = is_at fork block item && is_patch item.edit

-- an item of the act is of the block
abbrev pub act_touches : ForkId → ℕ → Act → Bool
act_touches fork block (Create made) = false
act_touches fork block (Truncate rel count) = false
act_touches fork block (Change items) = list_any (is_at fork block) items
act_touches fork block (Drop rels) = false
act_touches fork block (Mark marking) = false

-- an item of the act is a patch of the block
abbrev pub act_patches : ForkId → ℕ → Act → Bool
act_patches fork block (Create made) = false
act_patches fork block (Truncate rel count) = false
act_patches fork block (Change items) = list_any (is_patch_at fork block) items
act_patches fork block (Drop rels) = false
act_patches fork block (Mark marking) = false

-- the act cuts the fork to a length that leaves out the block, or drops the fork. A creation cuts
-- nothing, since replay leaves a fork that is there as it is
abbrev pub act_cuts : ForkId → ℕ → Act → Bool
act_cuts fork block (Create made) = false
act_cuts fork block (Truncate rel count) = is_same_fork fork (main_fork rel) && nat_le count block
act_cuts fork block (Change items) = false
act_cuts fork block (Drop rels) = is_of_any fork rels
act_cuts fork block (Mark marking) = false

-- the act settles whether the fork is there: it creates the fork, or drops it
abbrev pub act_settles : ForkId → Act → Bool
act_settles fork (Create made) = is_same_fork fork made
act_settles fork (Truncate rel count) = false
act_settles fork (Change items) = false
act_settles fork (Drop rels) = is_of_any fork rels
act_settles fork (Mark marking) = false

-- the limit that an act sets for a fork: 0 where it creates the fork or drops it, whether the fork
-- is there or not, and the length to which it cuts it
abbrev pub limit_of : ForkId → Act → Option ℕ
limit_of fork (Create made) = if is_same_fork fork made then Some 0 else None
limit_of fork (Truncate rel count) =
    if is_same_fork fork (main_fork rel) then Some count else None
limit_of fork (Change items) = None
limit_of fork (Drop rels) = if is_of_any fork rels then Some 0 else None
limit_of fork (Mark marking) = None

-- an entry touches the block; it patches the block; it creates the fork or drops it
abbrev pub touches : ForkId → ℕ → Entry → Bool
touches fork block e = act_touches fork block e.act

abbrev pub patches : ForkId → ℕ → Entry → Bool
patches fork block e = act_patches fork block e.act

abbrev pub settles : ForkId → Entry → Bool
settles fork e = act_settles fork e.act

-- an entry touches or cuts the block
abbrev pub resets : ForkId → ℕ → Entry → Bool
resets fork block e = act_touches fork block e.act || act_cuts fork block e.act
