-- What is asked of an area, taken together.
use Rattle.std.proofs.Common.{◌≡◌, true, sym, ◌∙◌}
use Rattle.std.specs.List.{list_any}
use Rattle.lsn_core.specs.Segment.{StoreSettings, settings_with}
use Rattle.wal_reader.specs.Names.{is_wal_name, HasNoOther}
use Rattle.wal_reader.specs.Settings.{IsLeastOf}
use Rattle.wal_reader.specs.Inside.{IsNamedIn}
use Rattle.wal_reader.proofs.Told.{are_settings}
use Rattle.wal_reader.proofs.settings.read_settings.Goals as goal

pub returns-in-Some-new-clause-answer : goal.returns-in-Some-new-clause-answer
returns-in-Some-new-clause-answer g c =
    let s : StoreSettings = settings_with c.in-Some.told.0 c.in-Some.told.1 c.in_ok-system.system in
    let wal : list_any is_wal_name c.in_ok-names.names.items ≡ true = rw c.deref.ensures.value at (sym c.has_wal_name.ensures ∙ c.if-not-has_wal_name.false) in
    let one : HasNoOther c.in-Some.told.0 c.in_ok-names.names.items = rw (c.deref-2.ensures.value, c.in_default-other_timeline.is) at c.other_timeline.ensures.none in
    let least : IsLeastOf (IsNamedIn c.in-Some.told.0 c.in_ok-names.names.items) c.least_segment.result = rw c.deref-3.ensures.value at c.least_segment.ensures.least in
    rw c.in-Some-new.ensures.value (
      are_settings (g.V.Vault.files c.args.wal.now) c.in_ok-names.names.items c.in_ok-told.field-0 s c.least_segment.result wal c.in-Some.is one least c.in_ok-names.ensures.names
          (rw c.in_ok-names.ensures.same at c.in_ok-told.ensures.told) (rw (c.in_ok-told.ensures.reads.files, c.in_ok-names.ensures.same) at c.in_ok-system.ensures.system),
      rw c.in-Some.is at c.in_ok-told.ensures.range,
    )
