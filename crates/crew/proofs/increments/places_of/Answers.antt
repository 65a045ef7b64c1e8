-- The areas of the two names, which are held.
use Rattle.std.proofs.Common.{◌≡◌, None, sym, refl, ◌∙◌, inl, inr}
use Rattle.std.specs.List.{position}
use Rattle.command_base.specs.Areas.{backup_name}
use Rattle.crew.proofs.Held.{has_name, found}
use Rattle.crew.proofs.Two.{places_apart, same_backup}
use Rattle.crew.proofs.increments.places_of.Goals as goal

pub unreachable-requires : goal.unreachable-requires
unreachable-requires g c =
    let none : position (has_name (backup_name c.args.prior.now)) c.args.held.now ≡ None = sym c.place_of.ensures ∙ c.in_default.is in
    found c.args.held.now (backup_name c.args.prior.now) (c.requires.held (backup_name c.args.prior.now) (inr (inl refl))) none

pub unreachable-requires-in_default-place_of : goal.unreachable-requires-in_default-place_of
unreachable-requires-in_default-place_of g c =
    let none : position (has_name (backup_name c.args.name.now)) c.args.held.now ≡ None = sym c.place_of-2.ensures ∙ c.in_default-place_of.is in
    found c.args.held.now (backup_name c.args.name.now) (c.requires.held (backup_name c.args.name.now) (inl refl)) none

pub sorted-requires : goal.sorted-requires
sorted-requires g c = λ same. places_apart c.args.held.now (backup_name c.args.prior.now) (backup_name c.args.name.now) c.in-Some.before c.in-Some-place_of.out (λ is. c.requires.apart (sym (same_backup c.args.prior.now c.args.name.now is)))
    (sym c.place_of.ensures ∙ c.in-Some.is) (sym c.place_of-2.ensures ∙ c.in-Some-place_of.is) same
