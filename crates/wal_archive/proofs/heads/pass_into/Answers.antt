use Rattle.std.proofs.Common.{◌≡◌, length, ◌∙◌}
use Rattle.wal_pages.specs.Places.{head_size}
use Rattle.wal_archive.proofs.RunLaws.{head_ok, head_why, head_err}
use Rattle.wal_archive.proofs.heads.pass_into.Goals as goal

pub returns-in-Err-clause-head : goal.returns-in-Err-clause-head
returns-in-Err-clause-head g c =
    let len : length c.take_bytes.new.into ≡ head_size c.args.size c.args.page =
    c.in-Err.ensures.length ∙ c.requires.room in
    head_err (g.V.Vault.files c.args.area.now) (g.V.Vault.faults c.args.area.now)
    (g.V.Vault.faults c.take_bytes.new.area) c.args.size c.args.system c.args.begin c.args.page
    c.args.rest c.take_bytes.new.into c.in-Err.fault len c.in-Err.ensures.bytes

pub returns-in-None-clause-head : goal.returns-in-None-clause-head
returns-in-None-clause-head g c =
    let len : length c.take_bytes.new.into ≡ head_size c.args.size c.args.page =
    c.in_default.ensures.length ∙ c.requires.room in
    head_ok (g.V.Vault.files c.args.area.now) c.args.size c.args.system c.args.begin c.args.page
    c.args.rest c.take_bytes.new.into len c.in-None.ensures c.in_default.ensures.bytes

pub returns-in-Some-clause-head : goal.returns-in-Some-clause-head
returns-in-Some-clause-head g c =
    let len : length c.take_bytes.new.into ≡ head_size c.args.size c.args.page =
    c.in_default.ensures.length ∙ c.requires.room in
    head_why (g.V.Vault.files c.args.area.now) c.args.size c.args.system c.args.begin c.args.page
    c.args.rest c.take_bytes.new.into c.in-Some.why len c.in-Some.ensures
    c.in_default.ensures.bytes
