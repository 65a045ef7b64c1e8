-- A WAL whose tip counts no entry has none.
use Rattle.std.proofs.Common.{◌≡◌, [], IfSome, refl, sym, ap, subst, ◌∙◌, inr}
use Rattle.lsn_core.specs.Tip.{Tip}
use Rattle.wal_record.specs.Tips.{first_tip}
use Rattle.wal_reader.specs.Wal.{IsWal}
use Rattle.store_areas.proofs.Readings.{none_in}
use Rattle.vault.proofs.Through.{adds_none}
use Rattle.store_areas.specs.Moments.{IsSync}
use Rattle.store_finding.proofs.Moments.{synced_between}
use Rattle.store_finding.proofs.finding.check.Goals as goal

pub returns-then-tip-eq0-clause-refused : goal.returns-then-tip-eq0-clause-refused
returns-then-tip-eq0-clause-refused g c =
    let settings = c.in_ok-settings.settings in
    let tip = c.in_ok-tip.tip in
    let same = c.in_ok-sync.ensures.same ∙ c.in_ok-settings.ensures.reads.files in
    let none : tip.count ≡ 0 = ap (λ (t : Tip). t.count) (sym c.tip.view_is) ∙ c.if-tip-eq0.true in
    inr (record {
      settings = settings;
      given = c.in_ok-settings.ensures.answer;
      archive = subst (λ fs. IfSome fs (λ m. IsWal settings m [] (first_tip settings.segment))) same
          (none_in settings _ c.in_ok-tip.ensures.answer.0 tip c.in_ok-tip.ensures.answer.1 none);
    })

pub returns-in_err-settings-clause-synced : goal.returns-in_err-settings-clause-synced
returns-in_err-settings-clause-synced g c = adds_none IsSync (g.V.Vault.past c.args.wal.now) (g.V.Vault.past c.settings_of.new.wal) c.settings_of.ensures.reads.past

pub returns-in_err-sync-clause-synced : goal.returns-in_err-sync-clause-synced
returns-in_err-sync-clause-synced g c =
    let p = g.V.Vault.past in
    synced_between (g.V.Vault.files c.settings_of.new.wal) (p c.args.wal.now) (p c.settings_of.new.wal) (p c.sync.new.self) (p c.sync.new.self) c.sync.result c.settings_of.ensures.reads.past c.sync.ensures.noted c.sync.ensures.tried refl

pub returns-in_err-tip-clause-synced : goal.returns-in_err-tip-clause-synced
returns-in_err-tip-clause-synced g c =
    let p = g.V.Vault.past in
    synced_between (g.V.Vault.files c.settings_of.new.wal) (p c.args.wal.now) (p c.settings_of.new.wal) (p c.sync.new.self) (p c.read_through.new.wal) c.sync.result c.settings_of.ensures.reads.past c.sync.ensures.noted c.sync.ensures.tried c.read_through.ensures.reads.past

pub returns-then-tip-eq0-clause-synced : goal.returns-then-tip-eq0-clause-synced
returns-then-tip-eq0-clause-synced g c =
    let p = g.V.Vault.past in
    synced_between (g.V.Vault.files c.settings_of.new.wal) (p c.args.wal.now) (p c.settings_of.new.wal) (p c.sync.new.self) (p c.read_through.new.wal) c.sync.result c.settings_of.ensures.reads.past c.sync.ensures.noted c.sync.ensures.tried c.read_through.ensures.reads.past

pub returns-clause-synced : goal.returns-clause-synced
returns-clause-synced g c =
    let p = g.V.Vault.past in
    synced_between (g.V.Vault.files c.settings_of.new.wal) (p c.args.wal.now) (p c.settings_of.new.wal) (p c.sync.new.self) (p c.read_through.new.wal) c.sync.result c.settings_of.ensures.reads.past c.sync.ensures.noted c.sync.ensures.tried c.read_through.ensures.reads.past
