use Rattle.std.proofs.Common.{◌∙◌}
use Rattle.vault.proofs.SetAreas.{out_new, after_error}
use Rattle.memory_vault.proofs.memory_site.MemSite.take_or_make.Goals as goal

pub returns-in_err-area-clause-same : goal.returns-in_err-area-clause-same
returns-in_err-area-clause-same c = after_error _ _ c.in_default.ensures.same

pub returns-in_err-make_place-clause-same : goal.returns-in_err-make_place-clause-same
returns-in_err-make_place-clause-same c = after_error _ _ (c.in_err-make_place.ensures.same ∙ c.in_default.ensures.same)

pub returns-clause-away : goal.returns-clause-away
returns-clause-away c = out_new _ _ _ _ _ c.in_default.ensures.same c.in_default.ensures.fresh c.in_ok-make_place.ensures.away
