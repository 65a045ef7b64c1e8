use Rattle.std.proofs.Common.{List, subst, ◌∙◌}
use Rattle.std.proofs.lemmas.List.{take_all}
use Rattle.lsn_core.specs.declared.ids.ForkLen.{ForkLen}
use Rattle.page_pool.specs.Opening.{AreLengths}
use Rattle.page_pool.proofs.Opened.{none_listed, one_more}
use Rattle.page_pool.proofs.partition.frames_of.Goals as goal

pub loop-len-init : goal.loop-len-init
loop-len-init c = record { lengths = none_listed c.new-frames.result.lengths c.new-frames.ensures.lengths; none = c.new-frames.ensures.held; limit = c.new-frames.ensures.limit }

pub loop-len-preserved : goal.loop-len-preserved
loop-len-preserved c = record {
  lengths = one_more c.args.list.now c.loop-len.len-index c.len-item.result c.loop-len.frames.lengths c.set_length.new.self.lengths c.loop-len-test.true c.len-item.is c.loop-len.invariant.lengths c.in_ok-set_length.ensures.lengths;
  none = c.in_ok-set_length.ensures.held ∙ c.loop-len.invariant.none;
  limit = c.in_ok-set_length.ensures.limit ∙ c.loop-len.invariant.limit;
}

pub returns-clause-lengths : goal.returns-clause-lengths
returns-clause-lengths c = subst (λ (list : List ForkLen). AreLengths list c.loop-len.frames.lengths) (take_all c.loop-len.len-index c.args.list.now c.loop-len-test.false) c.loop-len.invariant.lengths
