use Rattle.std.proofs.Common.{rules, tests, sym, ap, subst, ◌∙◌}
use Rattle.std.specs.BTreeMap as tree
use Rattle.std.proofs.lemmas.Iterator.Adapters.{option_map_id}
use Rattle.std.proofs.lemmas.Iterator.Consumers.{YieldsList-from_rest, YieldsList-from_filter_map, YieldsList-at, max_from_yields_List}
use Rattle.lsn_core.specs.declared.ids.BlockId.{BlockId}
use Rattle.page_frames.specs.Framed.{Framed, AreFramed}
use Rattle.page_frames.specs.Inside.{dirty_end}
use Rattle.page_frames.proofs.Queue.{HasDirty, queue_dirty, newest_of}
use Rattle.page_frames.proofs.frames.Frames.newest_dirty.Goals as goal

pub returns : goal.returns
returns c =
    let m = c.self.inside.queue in
    let f = c.args.self.now in
    sym (option_map_id _)
    ∙ max_from_yields_List c.filter_map.result c.max.result c.max.ensures.ran (YieldsList-from_filter_map _ (λ (at : BlockId). dirty_end f.lengths f.held at) (YieldsList-at c.filter_map.ensures.source (YieldsList-from_rest (tree.keys m) c.keys.ensures.rest)) c.filter_map.ensures.closure (λ x r q k. search (rules, tests)))
    ∙ newest_of f (tree.keys m) (subst (HasDirty f) c.keys.ensures.rest (queue_dirty f m c.keys.result (subst AreFramed c.self.view_is c.self.invariant) (sym (ap (λ (f : Framed). f.queue) c.self.view_is)) (λ q. c.keys.ensures.has q)))
