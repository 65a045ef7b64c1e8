-- The blocks rise, since they were asked in order.
use Rattle.std.proofs.Common.{◌||◌, false, List, ℕ, Bool, length, get_or, sym, ap, subst, ◌∙◌, arith}
use Rattle.std.specs.Prelude.{nat_le}
use Rattle.std.specs.List.Sorted.{IsStrictlyIncreasing}
use Rattle.incr_file.specs.Head.{IsHead, head_with}
use Rattle.series_files.proofs.Listed.{kept_rises, kept_is_head}
use Rattle.series_files.proofs.answered.Answered.head.Goals as goal

pub from_rising-requires : goal.from_rising-requires
from_rising-requires c = subst IsStrictlyIncreasing (sym c.in_ok-blocks.ensures) (kept_rises (λ b. get_or c.deref.result.now b false || nat_le c.args.self.now.least b) (length c.deref.result.now))

pub returns-clause-written : goal.returns-clause-written
returns-clause-written c =
    subst (λ (l : List ℕ). IsHead (head_with c.args.self.now.least l)) (sym (c.from_rising.ensures ∙ c.in_ok-blocks.ensures))
    (kept_is_head (λ b. get_or c.deref.result.now b false || nat_le c.args.self.now.least b) c.args.self.now.least (length c.deref.result.now) c.requires.least
    (omega (arith, c.requires.few, ap (λ (l : List Bool). length l) c.deref.ensures.value)))
