use Rattle.std.proofs.Common.{◌≡◌, ◌∙◌, refl, ap, List, ℕ}
use Rattle.sha2.specs.Sha256.{digest_bytes}
use Rattle.sha_lanes.specs.Lanes.{of_four}
use Rattle.sha_lanes.proofs.FourLanes.{below_four}
use Rattle.sha_lanes.proofs.lanes.digest_with.Goals as goal

pub returns : goal.returns
returns c m held =
    let end = c.args.end.now in
    let seen = c.see_blocks.ensures c.args.place m c.requires.place held in
    let same = below_four (λ j. of_four end end end end j ≡ end) refl refl refl refl c.args.place c.requires.place in
    c.bytes_of.ensures ∙ ap (λ (h : List ℕ). digest_bytes h 8) (c.lane_of-hash.ensures ∙ (rw same at seen).1)
