use Rattle.std.proofs.Common.{ap, List, ℕ, Option, Bor}
use Rattle.std.specs.Option.{option_map}
use Rattle.chain_listing.proofs.shown.manifest_in.Goals as goal

pub returns-in-Err : goal.returns-in-Err
returns-in-Err c =
    (c.in-Some.text.now, ap (λ (o : Option (Bor (List ℕ))). option_map (λ t. t.now) o) c.in-Some.is, c.in-Err.ensures)
