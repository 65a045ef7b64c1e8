-- A read of a member's file.
use Rattle.std.proofs.Common.{◌≡◌, length, IfSome, refl}
use Rattle.std.proofs.lemmas.Option.{slice_get_read, slice_get_past}
use Rattle.vault.specs.Area.{bytes_of}
use Rattle.chain_files.specs.Inside.{read_over}
use Rattle.chain_files.specs.Told.{told_at}
use Rattle.chain_files.proofs.Told.{reads_refl, place_within}
use Rattle.chain_files.proofs.Members.{told_ok, filled_here, filled_none}
use Rattle.chain_files.proofs.member.fill_from.Goals as goal

pub fill_at-requires-clause-place : goal.fill_at-requires-clause-place
fill_at-requires-clause-place g c = λ κs within.
    let found = c.in-Some.ensures.lookup in
    place_within (length c.args.areas.now) c.args.places.now c.args.member c.in-Some.place.now c.requires.places (slice_get_read c.args.places.now (length c.args.places.now) c.args.member c.in-Some.place.now refl found.3.0 found.1)

pub returns-in-Some-clause-filled : goal.returns-in-Some-clause-filled
returns-in-Some-clause-filled g c =
    let found = c.in-Some.ensures.lookup in
    told_ok c.fill_at.result _ _
    (λ (f : IfSome (told_at g.V.Vault c.args.areas.now c.in-Some.place.now) (λ m. c.fill_at.new.into ≡ read_over (bytes_of m c.args.path.now) c.args.at c.args.into.now)).
    filled_here g.V.Vault c.args.areas.now c.args.places.now c.args.path.now c.args.into.now c.fill_at.new.into c.args.at c.args.member c.in-Some.place.now
    (slice_get_read c.args.places.now (length c.args.places.now) c.args.member c.in-Some.place.now refl found.3.0 found.1) f)
    c.fill_at.ensures.filled

pub returns-in-None-clause-filled : goal.returns-in-None-clause-filled
returns-in-None-clause-filled g c =
    let none = c.in-None.ensures.lookup in
    filled_none g.V.Vault c.args.areas.now c.args.places.now c.args.path.now c.args.into.now c.args.at c.args.member (slice_get_past c.args.places.now c.args.member none.3)

pub returns-in-None-clause-reads : goal.returns-in-None-clause-reads
returns-in-None-clause-reads g c = reads_refl g.V.Vault c.args.areas.now
