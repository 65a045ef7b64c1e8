-- What was run on areas that were taken from a site and given back.
use Rattle.std.proofs.Common.{◌≡◌, [], ◌∷◌, ◌++◌, Result, IfOk, ◌∙◌, refl, sym, subst}
use Rattle.store_faults.specs.declared.begin_why.BeginWhy.{BeginWhy}
use Rattle.vault.specs.Lending.{Names, names_of}
use Rattle.command_base.specs.Outside.{of_site}
use Rattle.run_answers.specs.declared.outcome.RunReport.{RunReport}
use Rattle.run_answers.specs.declared.outcome.RunFault.TheVariants as run
use Rattle.summary_store.specs.Expiry.{age_limit}
use Rattle.run_command.specs.Run.{tasks_told, RunOfScript}
use Rattle.run_command.specs.Inner.{held_of, AreAsked, AreNamesFor, RunsOn, tasks_of}
use Rattle.run_command.proofs.Noted.{all_distinct, six_at_least}
use Rattle.run_command.proofs.Seated.{asked_by}
use Rattle.run_command.proofs.RunDone.{runs_fell}
use Rattle.run_command.proofs.StoreLent.{held_named, run_out, out_back, others_later, run_ends, untaken}
use Rattle.run_command.proofs.RunAnswers.{ran_ok, ran_err}
use Rattle.command_base.proofs.Decided.{err_as}
use Rattle.vault.proofs.LentAreas.{out_front}
use Rattle.run_command.proofs.command.run_script.Goals as goal

pub take_run-requires-clause-distinct : goal.take_run-requires-clause-distinct
take_run-requires-clause-distinct g c κs within = all_distinct c.args.script c.in_ok-names.names.items (asked_by c.args.script c.in_ok-work.work.seats.items c.in_ok-work.backups.items c.in_ok-names.names.items c.in_ok-work.ensures.script c.in_ok-work.ensures.names c.requires.apart c.in_ok-names.ensures)

pub take_run-requires-clause-many : goal.take_run-requires-clause-many
take_run-requires-clause-many g c κs within = six_at_least c.args.script c.in_ok-names.names.items (asked_by c.args.script c.in_ok-work.work.seats.items c.in_ok-work.backups.items c.in_ok-names.names.items c.in_ok-work.ensures.script c.in_ok-work.ensures.names c.requires.apart c.in_ok-names.ensures)

pub run_areas-held-requires-clause-names : goal.run_areas-held-requires-clause-names
run_areas-held-requires-clause-names g c κs within =
    let named : names_of c.in_ok-held.held.items ≡ c.in_ok-work.backups.items = held_named g.S.Site g.S.Area.Vault c.in_ok-work.backups.items c.in_ok-names.names.items c.args.site.now c.take_run.new.site c.in_ok-held.held.items c.in_ok-held.sums c.in_ok-held.names c.in_ok-held.areas c.in_ok-names.ensures c.in_ok-held.ensures.takes in
    subst (λ (ns : Names). AreNamesFor c.in_ok-work.work.seats.items ns) (sym named) c.in_ok-work.ensures.names

pub give_store-requires-after_bounds : goal.give_store-requires-after_bounds
give_store-requires-after_bounds g c κs within =
    let fell = runs_fell g.S.Area.Vault c.args.when (age_limit c.args.days c.args.when) c.in_ok-held.areas c.run_areas-held.result.2 c.in_ok-held.sums.area c.run_areas-held.result.1 c.in_ok-held.held.items c.run_areas-held.result.0.items c.run_areas-held.result.3 c.run_areas-held.ensures.runs in
    let later = others_later g.S.Area.Vault c.in_ok-held.held.items c.run_areas-held.result.0.items c.in_ok-held.sums (record { name = c.in_ok-held.sums.name; area = c.run_areas-held.result.1 }) c.run_areas-held.ensures.later refl fell.1 in
    out_back g.S.Area.Vault (g.S.Site.areas c.take_run.new.site) (c.run_areas-held.result.0.items ++ ((record { name = c.in_ok-held.sums.name; area = c.run_areas-held.result.1 }) ∷ [])) (held_of c.in_ok-held.names c.run_areas-held.result.2)
    (run_out g.S.Area.Vault (g.S.Site.areas c.take_run.new.site) (c.in_ok-held.held.items ++ (c.in_ok-held.sums ∷ [])) (c.run_areas-held.result.0.items ++ ((record { name = c.in_ok-held.sums.name; area = c.run_areas-held.result.1 }) ∷ [])) c.in_ok-held.names c.in_ok-held.areas c.run_areas-held.result.2 c.in_ok-held.ensures.takes.out later fell.0)

pub give_others-requires-after_bounds : goal.give_others-requires-after_bounds
give_others-requires-after_bounds g c κs within =
    let fell = runs_fell g.S.Area.Vault c.args.when (age_limit c.args.days c.args.when) c.in_ok-held.areas c.run_areas-held.result.2 c.in_ok-held.sums.area c.run_areas-held.result.1 c.in_ok-held.held.items c.run_areas-held.result.0.items c.run_areas-held.result.3 c.run_areas-held.ensures.runs in
    let later = others_later g.S.Area.Vault c.in_ok-held.held.items c.run_areas-held.result.0.items c.in_ok-held.sums (record { name = c.in_ok-held.sums.name; area = c.run_areas-held.result.1 }) c.run_areas-held.ensures.later refl fell.1 in
    out_front g.S.Area.Vault (g.S.Site.areas c.take_run.new.site) (g.S.Site.areas c.give_store.new.site) (c.run_areas-held.result.0.items ++ ((record { name = c.in_ok-held.sums.name; area = c.run_areas-held.result.1 }) ∷ [])) (held_of c.in_ok-held.names c.run_areas-held.result.2)
    (run_out g.S.Area.Vault (g.S.Site.areas c.take_run.new.site) (c.in_ok-held.held.items ++ (c.in_ok-held.sums ∷ [])) (c.run_areas-held.result.0.items ++ ((record { name = c.in_ok-held.sums.name; area = c.run_areas-held.result.1 }) ∷ [])) c.in_ok-held.names c.in_ok-held.areas c.run_areas-held.result.2 c.in_ok-held.ensures.takes.out later fell.0)
    c.give_store.ensures.gives.areas

pub returns-in_err-held-clause-answer : goal.returns-in_err-held-clause-answer
returns-in_err-held-clause-answer g c =
    let asked : AreAsked c.args.script c.in_ok-names.names.items = asked_by c.args.script c.in_ok-work.work.seats.items c.in_ok-work.backups.items c.in_ok-names.names.items c.in_ok-work.ensures.script c.in_ok-work.ensures.names c.requires.apart c.in_ok-names.ensures in
    let none = untaken g.S.Site g.S.Area.Vault c.args.script c.in_ok-names.names.items c.args.site.now c.take_run.new.site c.in_err-held.field-0.0 asked c.in_err-held.ensures.takes in
    err_as c.from_residual-in_err-held.result (run.Site c.in_err-held.field-0.0)
    (RunOfScript c.args.when (age_limit c.args.days c.args.when) c.args.script (of_site g.S.Site c.args.site.now) (of_site g.S.Site c.take_run.new.site))
    c.from_residual-in_err-held.ensures.1 none

pub returns-in-Ok-clause-site : goal.returns-in-Ok-clause-site
returns-in-Ok-clause-site g c =
    let asked : AreAsked c.args.script c.in_ok-names.names.items = asked_by c.args.script c.in_ok-work.work.seats.items c.in_ok-work.backups.items c.in_ok-names.names.items c.in_ok-work.ensures.script c.in_ok-work.ensures.names c.requires.apart c.in_ok-names.ensures in
    let fell = runs_fell g.S.Area.Vault c.args.when (age_limit c.args.days c.args.when) c.in_ok-held.areas c.run_areas-held.result.2 c.in_ok-held.sums.area c.run_areas-held.result.1 c.in_ok-held.held.items c.run_areas-held.result.0.items c.run_areas-held.result.3 c.run_areas-held.ensures.runs in
    let later = others_later g.S.Area.Vault c.in_ok-held.held.items c.run_areas-held.result.0.items c.in_ok-held.sums (record { name = c.in_ok-held.sums.name; area = c.run_areas-held.result.1 }) c.run_areas-held.ensures.later refl fell.1 in
    let back = run_ends g.S.Site g.S.Area.Vault c.args.script c.in_ok-names.names.items c.args.site.now c.take_run.new.site c.give_store.new.site c.give_others.new.site c.in_ok-held.names c.in_ok-held.held.items c.run_areas-held.result.0.items
    c.in_ok-held.sums (record { name = c.in_ok-held.sums.name; area = c.run_areas-held.result.1 }) c.in_ok-held.areas c.run_areas-held.result.2 asked c.requires.home c.in_ok-held.ensures.takes later fell.0 c.give_store.ensures.gives c.give_others.ensures.gives in
    (back.site, back.later)

pub returns-in-Err-clause-site : goal.returns-in-Err-clause-site
returns-in-Err-clause-site g c =
    let asked : AreAsked c.args.script c.in_ok-names.names.items = asked_by c.args.script c.in_ok-work.work.seats.items c.in_ok-work.backups.items c.in_ok-names.names.items c.in_ok-work.ensures.script c.in_ok-work.ensures.names c.requires.apart c.in_ok-names.ensures in
    let fell = runs_fell g.S.Area.Vault c.args.when (age_limit c.args.days c.args.when) c.in_ok-held.areas c.run_areas-held.result.2 c.in_ok-held.sums.area c.run_areas-held.result.1 c.in_ok-held.held.items c.run_areas-held.result.0.items c.run_areas-held.result.3 c.run_areas-held.ensures.runs in
    let later = others_later g.S.Area.Vault c.in_ok-held.held.items c.run_areas-held.result.0.items c.in_ok-held.sums (record { name = c.in_ok-held.sums.name; area = c.run_areas-held.result.1 }) c.run_areas-held.ensures.later refl fell.1 in
    let back = run_ends g.S.Site g.S.Area.Vault c.args.script c.in_ok-names.names.items c.args.site.now c.take_run.new.site c.give_store.new.site c.give_others.new.site c.in_ok-held.names c.in_ok-held.held.items c.run_areas-held.result.0.items
    c.in_ok-held.sums (record { name = c.in_ok-held.sums.name; area = c.run_areas-held.result.1 }) c.in_ok-held.areas c.run_areas-held.result.2 asked c.requires.home c.in_ok-held.ensures.takes later fell.0 c.give_store.ensures.gives c.give_others.ensures.gives in
    (back.site, back.later)

pub returns-in-Ok-clause-answer : goal.returns-in-Ok-clause-answer
returns-in-Ok-clause-answer g c =
    let asked : AreAsked c.args.script c.in_ok-names.names.items = asked_by c.args.script c.in_ok-work.work.seats.items c.in_ok-work.backups.items c.in_ok-names.names.items c.in_ok-work.ensures.script c.in_ok-work.ensures.names c.requires.apart c.in_ok-names.ensures in
    let fell = runs_fell g.S.Area.Vault c.args.when (age_limit c.args.days c.args.when) c.in_ok-held.areas c.run_areas-held.result.2 c.in_ok-held.sums.area c.run_areas-held.result.1 c.in_ok-held.held.items c.run_areas-held.result.0.items c.run_areas-held.result.3 c.run_areas-held.ensures.runs in
    let later = others_later g.S.Area.Vault c.in_ok-held.held.items c.run_areas-held.result.0.items c.in_ok-held.sums (record { name = c.in_ok-held.sums.name; area = c.run_areas-held.result.1 }) c.run_areas-held.ensures.later refl fell.1 in
    let back = run_ends g.S.Site g.S.Area.Vault c.args.script c.in_ok-names.names.items c.args.site.now c.take_run.new.site c.give_store.new.site c.give_others.new.site c.in_ok-held.names c.in_ok-held.held.items c.run_areas-held.result.0.items
    c.in_ok-held.sums (record { name = c.in_ok-held.sums.name; area = c.run_areas-held.result.1 }) c.in_ok-held.areas c.run_areas-held.result.2 asked c.requires.home c.in_ok-held.ensures.takes later fell.0 c.give_store.ensures.gives c.give_others.ensures.gives in
    let runs = subst (λ (r : Result RunReport BeginWhy). RunsOn g.S.Area.Vault c.args.when (age_limit c.args.days c.args.when) c.in_ok-held.areas c.run_areas-held.result.2 c.in_ok-held.sums.area c.run_areas-held.result.1 c.in_ok-held.held.items c.run_areas-held.result.0.items r) c.in-Ok.is c.run_areas-held.ensures.runs in
    let told = subst (λ (r : Result RunReport BeginWhy). IfOk r (λ report. tasks_told report.told ≡ tasks_of c.in_ok-work.work.seats.items)) c.in-Ok.is c.run_areas-held.ensures.script in
    ran_ok g.S.Site g.S.Area.Vault c.args.when (age_limit c.args.days c.args.when) c.args.script c.args.site.now c.give_others.new.site c.in_ok-held.held.items c.run_areas-held.result.0.items c.in_ok-held.sums.area c.run_areas-held.result.1 c.in_ok-held.areas c.run_areas-held.result.2 c.in-Ok.report back runs (told ∙ c.in_ok-work.ensures.script)

pub returns-in-Err-clause-answer : goal.returns-in-Err-clause-answer
returns-in-Err-clause-answer g c =
    let asked : AreAsked c.args.script c.in_ok-names.names.items = asked_by c.args.script c.in_ok-work.work.seats.items c.in_ok-work.backups.items c.in_ok-names.names.items c.in_ok-work.ensures.script c.in_ok-work.ensures.names c.requires.apart c.in_ok-names.ensures in
    let fell = runs_fell g.S.Area.Vault c.args.when (age_limit c.args.days c.args.when) c.in_ok-held.areas c.run_areas-held.result.2 c.in_ok-held.sums.area c.run_areas-held.result.1 c.in_ok-held.held.items c.run_areas-held.result.0.items c.run_areas-held.result.3 c.run_areas-held.ensures.runs in
    let later = others_later g.S.Area.Vault c.in_ok-held.held.items c.run_areas-held.result.0.items c.in_ok-held.sums (record { name = c.in_ok-held.sums.name; area = c.run_areas-held.result.1 }) c.run_areas-held.ensures.later refl fell.1 in
    let back = run_ends g.S.Site g.S.Area.Vault c.args.script c.in_ok-names.names.items c.args.site.now c.take_run.new.site c.give_store.new.site c.give_others.new.site c.in_ok-held.names c.in_ok-held.held.items c.run_areas-held.result.0.items
    c.in_ok-held.sums (record { name = c.in_ok-held.sums.name; area = c.run_areas-held.result.1 }) c.in_ok-held.areas c.run_areas-held.result.2 asked c.requires.home c.in_ok-held.ensures.takes later fell.0 c.give_store.ensures.gives c.give_others.ensures.gives in
    let runs = subst (λ (r : Result RunReport BeginWhy). RunsOn g.S.Area.Vault c.args.when (age_limit c.args.days c.args.when) c.in_ok-held.areas c.run_areas-held.result.2 c.in_ok-held.sums.area c.run_areas-held.result.1 c.in_ok-held.held.items c.run_areas-held.result.0.items r) c.in-Err.is c.run_areas-held.ensures.runs in
    ran_err g.S.Site g.S.Area.Vault c.args.when (age_limit c.args.days c.args.when) c.args.script c.args.site.now c.give_others.new.site c.in_ok-held.held.items c.run_areas-held.result.0.items c.in_ok-held.sums.area c.run_areas-held.result.1 c.in_ok-held.areas c.run_areas-held.result.2 c.in-Err.why back runs.2 runs.1 runs.0
