-- The name of an area, noted unless it is.
use Rattle.std.proofs.Common.{◌≡◌, List, ℕ, true, false, sym, subst, ◌∙◌}
use Rattle.std.specs.Prelude.{bytes_eq}
use Rattle.std.specs.List.{list_any}
use Rattle.run_command.proofs.Noted.{asks_noted, asks_more}
use Rattle.run_command.proofs.lending.note_name.Goals as goal

pub returns-in_ok-push : goal.returns-in_ok-push
returns-in_ok-push c =
    let none : list_any (bytes_eq c.args.area) c.args.names.now.items ≡ false =
    subst (λ (n : List ℕ). list_any (bytes_eq n) c.args.names.now.items ≡ false) c.as_bytes.ensures
    (subst (λ (ns : List (List ℕ)). list_any (bytes_eq c.as_bytes.result.now) ns ≡ false) c.deref.ensures.value (sym c.is_among.ensures ∙ c.if-not-is_among.true)) in
    asks_more c.args.area c.args.names.now.items c.push.new.self.items none c.in_ok-push.ensures.items

pub returns-else-not-is_among : goal.returns-else-not-is_among
returns-else-not-is_among c =
    let some : list_any (bytes_eq c.args.area) c.args.names.now.items ≡ true =
    subst (λ (n : List ℕ). list_any (bytes_eq n) c.args.names.now.items ≡ true) c.as_bytes.ensures
    (subst (λ (ns : List (List ℕ)). list_any (bytes_eq c.as_bytes.result.now) ns ≡ true) c.deref.ensures.value (sym c.is_among.ensures ∙ c.if-not-is_among.false)) in
    asks_noted c.args.area c.args.names.now.items some
