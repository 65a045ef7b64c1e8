use Rattle.std.proofs.Common.{◌≡◌, ℕ, ⊎_elim, [], get_or, refl, sym, ap, ◌∙◌, arith}
use Rattle.std.proofs.lemmas.Bool.{cases_lt}
use Rattle.std.specs.FinMap.{keys}
use Rattle.rel_files.specs.Forks.{IsForkPath}
use Rattle.rel_files.specs.Kept.{keeps_on}
use Rattle.rel_files.proofs.ForkFrames.{reads_change, reads_on}
use Rattle.rel_files.proofs.FileCalls.{same_held}
use Rattle.rel_files.proofs.Lengths.{told_at}
use Rattle.rel_files.proofs.ForkNames.{listed, item_is}
use Rattle.rel_files.proofs.forks.Forks.list.Goals as goal

pub loop-name-init : goal.loop-name-init
loop-name-init g c =
    let old = c.args.self.now in
    let e = c.in_ok-names.ensures in
    record {
      held = λ s h. record { files = same_held old.relseg (g.V.Vault.files old.area) (g.V.Vault.files c.names.new.self) s e.same h.files; known = h.known };
      reads = record { files = e.same; past = e.quiet; faults = e.cause.later };
      kept = record { relseg = refl; area = reads_change g.V.Vault IsForkPath old.area c.names.new.self (record { files = e.same; past = e.quiet; faults = e.cause.later }) };
      learned = λ k less s h fork named is there. absurd (omega (arith, less));
      later = e.cause.later;
    }

pub loop-name-preserved : goal.loop-name-preserved
loop-name-preserved g c =
    let old = c.args.self.now in
    let inv = c.loop-name.invariant in
    let e = c.in_ok-learn.ensures in
    let names = c.deref-name-items.result.now in
    let at = c.loop-name.name-index in
    record {
      held = λ s h. e.held s (inv.held s h);
      reads = reads_on g.V.Vault old.area c.loop-name.self.area c.learn.new.self.area inv.reads e.reads;
      kept = keeps_on g.V.Vault old c.loop-name.self c.learn.new.self inv.kept e.kept;
      learned = λ k less s h fork named is there.
          ⊎_elim
          (λ before. e.known fork (inv.learned k before s h fork named is there))
          (λ past.
          let here : k ≡ at = omega (arith, less, past) in
          e.learned s (inv.held s h) fork named
          (c.as_bytes.ensures ∙ item_is names at c.name-item.result c.loop-name-test.true c.name-item.is ∙ ap (λ (n : ℕ). get_or names n []) (sym here) ∙ is) there)
          (cases_lt k at);
      later = omega (arith, inv.later, e.cause.later);
    }

pub returns-in_err-learn-clause-held : goal.returns-in_err-learn-clause-held
returns-in_err-learn-clause-held g c s h = c.in_err-learn.ensures.held s (c.loop-name.invariant.held s h)

pub returns-in_err-learn-clause-kept : goal.returns-in_err-learn-clause-kept
returns-in_err-learn-clause-kept g c = keeps_on g.V.Vault c.args.self.now c.loop-name.self c.learn.new.self c.loop-name.invariant.kept c.in_err-learn.ensures.kept

pub returns-clause-list : goal.returns-clause-list
returns-clause-list g c s h =
    let old = c.args.self.now in
    let files = g.V.Vault.files old.area in
    let inv = c.loop-name.invariant in
    let names = c.deref-name-items.result.now in
    c.in_ok-lengths.ensures.list
    ∙ listed old.relseg files s names c.loop-name.self.known c.blocks-some.ensures.range.least h.files
    (λ m e. c.deref-name-items.ensures.value ∙ told_at files (λ m. c.in_ok-names.names.items ≡ keys m) m e c.in_ok-names.ensures.names)
    (inv.held s h).known c.lengths.ensures.order
    (λ k less fork named is there. inv.learned k (omega (arith, less, c.loop-name-test.false)) s h fork named is there)

pub returns-in_err-learn-clause-reads : goal.returns-in_err-learn-clause-reads
returns-in_err-learn-clause-reads g c = reads_on g.V.Vault c.args.self.now.area c.loop-name.self.area c.learn.new.self.area c.loop-name.invariant.reads c.in_err-learn.ensures.reads
