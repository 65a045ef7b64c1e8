use Rattle.std.proofs.Common.{ap, ◌∙◌}
use Rattle.sha2.specs.Sha256.{add_state, compress}
use Rattle.sha_lanes.specs.Lanes.{lane}
use Rattle.sha_lanes.proofs.block.after_rounds.Goals as goal

pub returns : goal.returns
unfolding compress
returns c j below b window =
    let h = lane j c.args.state in
    let s1 = c.sixteen_steps-v.ensures j below b h (window, c.first_sixteen_steps-v.ensures j below b window) in
    let s2 = c.sixteen_steps-v-2.ensures j below b h s1 in
    let s3 = c.sixteen_steps-v-3.ensures j below b h s2 in
    c.added.ensures j below ∙ ap (add_state h) s3.1
