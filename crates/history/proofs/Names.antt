-- Blocks that were named before.
use Rattle.std.proofs.Common.{◌≡◌, true, false, List, [], ◌∷◌, ◌++◌, ap, sym, ◌∙◌}
use Rattle.std.specs.Prelude.{◌||◌}
use Rattle.std.proofs.lemmas.List.Folds.{list_any-append}
use Rattle.std.proofs.lemmas.Bool.{or_parts}
use Rattle.std.proofs.Math.Bool.{or-false, or-true}
use Rattle.lsn_core.specs.declared.ids.BlockId.{BlockId}
use Rattle.history.specs.Apply.{is_same_block}
use Rattle.history.specs.Whole.{is_named}
use Rattle.history.proofs.Stores.{block_is, by_test}

-- with one block more
pub named_more : (q at : BlockId) (named : List BlockId) → is_named q (named ++ (at ∷ [])) ≡ (is_named q named || is_same_block q at)
named_more q at named = list_any-append (is_same_block q) named (at ∷ []) ∙ ap (λ b. is_named q named || b) (or-false (is_same_block q at))

-- the same block
pub named_here : (q at : BlockId) (named : List BlockId) → is_same_block q at ≡ true → is_named q (named ++ (at ∷ [])) ≡ true
named_here q at named e = named_more q at named ∙ ap (λ b. is_named q named || b) e ∙ or-true (is_named q named)

-- another block
pub named_there : (q at : BlockId) (named : List BlockId) → is_same_block q at ≡ false → is_named q (named ++ (at ∷ [])) ≡ is_named q named
named_there q at named e = named_more q at named ∙ ap (λ b. is_named q named || b) e ∙ or-false (is_named q named)

pub not_named : (q at : BlockId) (named : List BlockId) → is_named q (named ++ (at ∷ [])) ≡ false → (is_named q named ≡ false) × (is_same_block q at ≡ false)
not_named q at named e = or_parts (is_named q named) (is_same_block q at) (sym (named_more q at named) ∙ e)

-- a block that was named, named again
pub named_again : (q at : BlockId) (named : List BlockId) → is_named at named ≡ true → is_named q (named ++ (at ∷ [])) ≡ is_named q named
named_again q at named n =
    by_test (is_same_block q at)
    (λ e. named_here q at named e ∙ sym (ap (λ x. is_named x named) (block_is q at e) ∙ n))
    (λ e. named_there q at named e)
