use Rattle.std.proofs.Common.{string_bytes, String, map, ap, take, ◌-◌, ◌++◌, ◌∙◌, [], List, ℕ}
use Rattle.vault_os.proofs.Walks.{walking_ends}
use Rattle.vault_os.proofs.listing.all_below.Goals as goal

pub returns-in_default : goal.returns-in_default
returns-in_default g c =
    walking_ends (g.S.System.files c.args.system.now) (string_bytes c.args.root.now.path) c.loop.walk c.loop.invariant
    (ap (map string_bytes) (c.in_default.ensures.items ∙ ap (λ (l : List (String _)). l ++ []) (c.in_default.ensures.rest ∙ ap (λ (n : ℕ). take (n - 1) c.loop.walk.unread.items) c.in_default.ensures.cases.0)))
