-- All pages are hashed behind nothing.
use Rattle.std.proofs.Common.{ℕ, ◌∙◌, [], ap}
use Rattle.std.specs.Global.{Vec}
use Rattle.hex.specs.Hex.{encode_lower}
use Rattle.pgbackup_cli.specs.drill_command.Contents.{contents_of}
use Rattle.pgbackup_cli.proofs.drill_command.contents.sum_in.Goals as goal

pub returns-clause-sum : goal.returns-clause-sum
returns-clause-sum g c = λ s shown.
    c.from_vec.ensures ∙ ap (λ (v : Vec ℕ). v.items) c.into_bytes.ensures.value ∙ c.in_ok-digits.ensures ∙ ap encode_lower (c.finalize.ensures (contents_of s) (c.in_ok-hash_all.ensures.hashed s shown [] c.new-hasher.ensures))
