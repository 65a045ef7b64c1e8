-- The area of the name, which is held.
use Rattle.std.proofs.Common.{◌≡◌, List, ℕ, Some, None, get_or, refl, sym, subst, ◌∙◌, inl}
use Rattle.std.specs.List.{position}
use Rattle.command_base.specs.Areas.{backup_name}
use Rattle.crew.specs.Backups.{areas_of}
use Rattle.crew.proofs.Held.{has_name, found, changed}
use Rattle.crew.proofs.backups.full.Goals as goal

pub unreachable-requires : goal.unreachable-requires
unreachable-requires g c =
    let none : position (has_name (backup_name c.args.name.now)) c.args.held.now ≡ None =
    subst (λ (n : List ℕ). position (has_name (backup_name n)) c.args.held.now ≡ None) c.as_bytes.ensures (sym c.place_of.ensures ∙ c.in-None.is) in
    found c.args.held.now (backup_name c.args.name.now) (c.requires.held (backup_name c.args.name.now) (inl refl)) none

pub returns-clause-runs : goal.returns-clause-runs
returns-clause-runs g c =
    let is : position (has_name (backup_name c.args.name.now)) c.args.held.now ≡ Some c.in-Some.at =
    subst (λ (n : List ℕ). position (has_name (backup_name n)) c.args.held.now ≡ Some c.in-Some.at) c.as_bytes.ensures (sym c.place_of.ensures ∙ c.in-Some.is) in
    let ch = changed g.V.Vault c.args.held.now (backup_name c.args.name.now) c.in-Some.at c.index-held-at.result (record { name = (get_or c.args.held.now c.in-Some.at c.index-held-at.result).name; area = c.backup_into.new.area }) is refl in
    c.backup_into.ensures.runs (areas_of g.V.Vault c.args.held.now) _ ch.here ch.there ch.others

pub returns-clause-later : goal.returns-clause-later
returns-clause-later g c =
    let is : position (has_name (backup_name c.args.name.now)) c.args.held.now ≡ Some c.in-Some.at =
    subst (λ (n : List ℕ). position (has_name (backup_name n)) c.args.held.now ≡ Some c.in-Some.at) c.as_bytes.ensures (sym c.place_of.ensures ∙ c.in-Some.is) in
    let ch = changed g.V.Vault c.args.held.now (backup_name c.args.name.now) c.in-Some.at c.index-held-at.result (record { name = (get_or c.args.held.now c.in-Some.at c.index-held-at.result).name; area = c.backup_into.new.area }) is refl in
    ch.later c.backup_into.ensures.later
