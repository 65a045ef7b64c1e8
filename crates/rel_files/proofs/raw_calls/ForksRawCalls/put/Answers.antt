use Rattle.std.proofs.Common.{rules, ◌≡◌, ℕ, ◌+◌, max, length, Some, ap, ◌∙◌, arith}
use Rattle.vault.proofs.Changed.{changes_on}
use Rattle.rel_files.specs.Forks.{IsForkPath, page_over}
use Rattle.rel_files.specs.Inside.{whole_length}
use Rattle.rel_files.proofs.TornPuts.{none_is_torn}
use Rattle.rel_files.proofs.FileCalls.{err_is}
use Rattle.rel_files.proofs.RawCalls.{count_or_none, over_counted}
use Rattle.vault.proofs.Through.{adds_none}
use Rattle.rel_files.specs.Events.{IsPut}
use Rattle.rel_files.proofs.Events.{put_behind}
use Rattle.rel_files.proofs.raw_calls.ForksRawCalls.put.Goals as goal

pub returns-in_err-count-clause-torn : goal.returns-in_err-count-clause-torn
returns-in_err-count-clause-torn g c = err_is _ c.from_residual.result (λ s h. (s, (c.in_err-count.ensures.held s h, none_is_torn s c.args.at.now.fork c.args.at.now.block)))

pub returns-in_err-put_page-clause-torn : goal.returns-in_err-put_page-clause-torn
returns-in_err-put_page-clause-torn g c =
    err_is _ c.from_residual-in_err-put_page.result (λ s h.
    let fork = c.args.at.now.fork in
    let m = c.in_ok-count.ensures.held s h in
    let e : c.unwrap_or-count.result ≡ whole_length s fork = c.unwrap_or-count.ensures ∙ count_or_none s fork c.in_ok-count.field-0 (c.in_ok-count.ensures.whole s h) in
    let left = c.in_err-put_page.ensures.torn s m.files e in
    (left.0, (record { files = left.1.0; known = c.forget.ensures s left.0 left.1.1.others m.known }, left.1.1)))

pub returns-in_err-put_page-clause-kept : goal.returns-in_err-put_page-clause-kept
returns-in_err-put_page-clause-kept g c = record {
  relseg = c.in_ok-count.ensures.kept.relseg;
  area = changes_on g.V.Vault IsForkPath c.args.self.now.area c.count.new.self.area c.put_page.new.self c.in_ok-count.ensures.kept.area c.in_err-put_page.ensures.frame;
}

pub returns-clause-put : goal.returns-clause-put
returns-clause-put g c s h =
    let at = c.args.at.now in
    let page = c.args.from.now in
    let mid = c.count.new.self in
    let m = c.in_ok-count.ensures.held s h in
    let e : c.unwrap_or-count.result ≡ whole_length s at.fork = c.unwrap_or-count.ensures ∙ count_or_none s at.fork c.in_ok-count.field-0 (c.in_ok-count.ensures.whole s h) in
    let size : length page ≡ 8192 = search rules in
    let over = over_counted mid.relseg (g.V.Vault.files mid.area) s at page m.files size in
    let most : max (whole_length s at.fork) (at.block + 1) ≡ c.max.result = omega (arith, e, c.max.ensures) in
    record {
      files = c.in_ok-put_page.ensures.put s m.files e;
      known = c.note.ensures.right (page_over at page s) (over.1 ∙ ap (λ (n : ℕ). Some n) most) (c.forget.ensures s (page_over at page s) over.0 m.known);
    }

pub returns-clause-kept : goal.returns-clause-kept
returns-clause-kept g c = record {
  relseg = c.in_ok-count.ensures.kept.relseg;
  area = changes_on g.V.Vault IsForkPath c.args.self.now.area c.count.new.self.area c.put_page.new.self c.in_ok-count.ensures.kept.area c.in_ok-put_page.ensures.frame;
}

pub returns-in_err-count-clause-events : goal.returns-in_err-count-clause-events
returns-in_err-count-clause-events g c s h =
    adds_none (IsPut c.args.self.now.relseg (whole_length s c.args.at.now.fork) c.args.at.now) (g.V.Vault.past c.args.self.now.area) (g.V.Vault.past c.count.new.self.area) c.in_err-count.ensures.reads.past

pub returns-in_err-put_page-clause-events : goal.returns-in_err-put_page-clause-events
returns-in_err-put_page-clause-events g c s h =
    let fork = c.args.at.now.fork in
    let e : c.unwrap_or-count.result ≡ whole_length s fork = c.unwrap_or-count.ensures ∙ count_or_none s fork c.in_ok-count.field-0 (c.in_ok-count.ensures.whole s h) in
    put_behind c.args.self.now.relseg c.count.new.self.relseg c.unwrap_or-count.result (whole_length s fork) c.args.at.now (g.V.Vault.past c.args.self.now.area) (g.V.Vault.past c.count.new.self.area) (g.V.Vault.past c.put_page.new.self)
    c.in_ok-count.ensures.kept.relseg e c.in_ok-count.ensures.reads.past c.in_err-put_page.ensures.events

pub returns-clause-events : goal.returns-clause-events
returns-clause-events g c s h =
    let fork = c.args.at.now.fork in
    let e : c.unwrap_or-count.result ≡ whole_length s fork = c.unwrap_or-count.ensures ∙ count_or_none s fork c.in_ok-count.field-0 (c.in_ok-count.ensures.whole s h) in
    put_behind c.args.self.now.relseg c.count.new.self.relseg c.unwrap_or-count.result (whole_length s fork) c.args.at.now (g.V.Vault.past c.args.self.now.area) (g.V.Vault.past c.count.new.self.area) (g.V.Vault.past c.put_page.new.self)
    c.in_ok-count.ensures.kept.relseg e c.in_ok-count.ensures.reads.past c.in_ok-put_page.ensures.events
