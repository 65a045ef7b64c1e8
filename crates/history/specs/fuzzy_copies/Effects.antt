-- What entries do to one block of a store, and whether they leave a fork there: with this, laws on
-- pages are proved block by block.
use Rattle.std.specs.Prelude.{ℕ, ◌&&◌, ◌||◌, Bool, false, not, List, [], ◌∷◌, ◌++◌, map, nat_lt, nat_le, Option, Some, None, if◌then◌else◌}
use Rattle.std.specs.List.{list_any}
use Rattle.std.specs.Option.{option_map, unwrap_or}
use Rattle.lsn_core.specs.byte_words.Numbers.{◌>>=◌}
use Rattle.lsn_core.specs.Relation.{Relation}
use Rattle.lsn_core.specs.declared.ids.ForkId.{ForkId}
use Rattle.pg_page.specs.Header.{zero_page}
use Rattle.history.specs.declared.op.Edit.{Edit}
use Rattle.history.specs.declared.op.Item.{Item}
use Rattle.history.specs.Entry.{Act, Create, Truncate, Change, Drop, Mark, Entry}
use Rattle.history.specs.Apply.{Rule, main_fork, is_same_fork, is_of_any}
use Rattle.history.specs.fuzzy_copies.Touches.{is_at}

-- what an item or a cut does to a block: nothing; its fork is made longer than the block's number;
-- the block is edited, by an entry that ends at a place; it is cut off
pub data Effect : Type 0 where
  Stay : Effect
  Reach : Effect
  Alter : ℕ → Edit → Effect
  Clear : Effect

-- a block after an effect, by a rule for edits; None where the edit can't be done. A missing block
-- is a zero page once its fork is longer
abbrev pub after : Rule → Effect → Option (List ℕ) → Option (Option (List ℕ))
after rule Stay page = Some page
after rule Reach page = Some (Some (unwrap_or page zero_page))
after rule (Alter end edit) page =
    option_map (λ p. Some p) (rule end (unwrap_or page zero_page) edit)
after rule Clear page = Some None

-- after several, in turn
abbrev pub after_all : Rule → List Effect → Option (List ℕ) → Option (Option (List ℕ))
after_all rule [] page = Some page
after_all rule (effect ∷ effects) page =
    after rule effect page >>= λ next. after_all rule effects next

-- an item is of a later block of the fork
abbrev pub is_past : ForkId → ℕ → Item → Bool
is_past fork block item = is_same_fork fork item.at.fork && nat_lt block item.at.block

abbrev pub item_effect : ForkId → ℕ → ℕ → Item → Effect
item_effect fork block end item =
    if is_at fork block item then Alter end item.edit
    else if is_past fork block item then Reach else Stay

-- a fork is cut to so many blocks
abbrev pub cut_effect : ForkId → ℕ → ForkId → ℕ → Effect
cut_effect fork block cut count =
    if is_same_fork fork cut && nat_le count block then Clear else Stay

-- a fork of relations is dropped
abbrev pub drop_effect : ForkId → List Relation → Effect
drop_effect fork rels = if is_of_any fork rels then Clear else Stay

abbrev pub act_effects : ForkId → ℕ → ℕ → Act → List Effect
act_effects fork block end (Create made) = []
act_effects fork block end (Truncate rel count) =
    cut_effect fork block (main_fork rel) count ∷ []
act_effects fork block end (Change items) = map (item_effect fork block end) items
act_effects fork block end (Drop rels) = drop_effect fork rels ∷ []
act_effects fork block end (Mark marking) = []

-- all that entries do to a block, in turn
abbrev pub effects_on : ForkId → ℕ → List Entry → List Effect
effects_on fork block [] = []
effects_on fork block (e ∷ es) =
    act_effects fork block e.end e.act ++ effects_on fork block es

-- whether a fork is there after an act, by whether it was there before it
abbrev pub fork_after : ForkId → Bool → Act → Bool
fork_after fork there (Create made) = there || is_same_fork fork made
fork_after fork there (Truncate rel count) = there
fork_after fork there (Change items) =
    there || list_any (λ i. is_same_fork fork i.at.fork) items
fork_after fork there (Drop rels) = there && not (is_of_any fork rels)
fork_after fork there (Mark marking) = there

-- and after entries, in turn
abbrev pub fork_after_all : ForkId → Bool → List Entry → Bool
fork_after_all fork there [] = there
fork_after_all fork there (e ∷ es) = fork_after_all fork (fork_after fork there e.act) es

-- an entry touches a later block of the fork, so that a missing block becomes a zero page
abbrev pub act_reaches : ForkId → ℕ → Act → Bool
act_reaches fork block (Create made) = false
act_reaches fork block (Truncate rel count) = false
act_reaches fork block (Change items) = list_any (is_past fork block) items
act_reaches fork block (Drop rels) = false
act_reaches fork block (Mark marking) = false

abbrev pub reaches : ForkId → ℕ → Entry → Bool
reaches fork block e = act_reaches fork block e.act
