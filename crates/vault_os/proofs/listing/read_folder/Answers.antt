use Rattle.std.proofs.Common.{string_bytes, map, drop, ◌∷◌, List, ℕ, ◌≡◌, ◌+◌, subst, sym, ap, ◌∙◌, arith}
use Rattle.std.proofs.lemmas.List.{drop_all}
use Rattle.vault_os.proofs.Common.{ok_of}
use Rattle.vault_os.proofs.Walks.{Midway, midway_starts, midway_goes, midway_ends, listed_names, next_name}
use Rattle.vault_os.proofs.listing.read_folder.Goals as goal

pub loop-name-init : goal.loop-name-init
loop-name-init g c =
    midway_starts (g.S.System.files c.args.system.now) (string_bytes c.args.root.now.path) c.args.folder.now c.as_str.result.now c.args.walk.now c.in_ok-listed.listed (map string_bytes c.deref-name-items.result.now)
    (c.as_str.ensures.value ∙ c.in_ok-path.ensures)
    (ok_of _ c.list-listed.result c.in_ok-listed.listed c.in_ok-listed.ensures.told c.list-listed.ensures)
    (ap (map string_bytes) c.deref-name-items.ensures.value ∙ listed_names c.in_ok-listed.listed c.new.result c.unwrap_or-names.result c.new.ensures.items c.unwrap_or-names.ensures)

pub loop-name-preserved : goal.loop-name-preserved
loop-name-preserved g c =
    let files = g.S.System.files c.args.system.now in
    let root = string_bytes c.args.root.now.path in
    let rest : List (List ℕ) = map string_bytes (drop (c.loop-name.name-index + 1) c.deref-name-items.result.now) in
    let steps : map string_bytes (drop c.loop-name.name-index c.deref-name-items.result.now) ≡ c.as_str-in-loop-name.result.now ∷ rest =
    next_name c.deref-name-items.result.now c.loop-name.name-index c.name-item.result (omega (arith, c.loop-name-test.true, c.loop-name.auto.name-index-end)) c.name-item.is ∙ ap (λ (n : List ℕ). n ∷ rest) (sym c.as_str-in-loop-name.ensures.value) in
    midway_goes files root c.args.folder.now c.args.walk.now c.loop-name.walk c.add_entry.new.walk c.as_str-in-loop-name.result.now rest
    (subst (λ (l : List (List ℕ)). Midway files root c.args.folder.now c.args.walk.now l c.loop-name.walk) steps c.loop-name.invariant)
    c.in_ok-add_entry.ensures

pub returns : goal.returns
returns g c =
    let files = g.S.System.files c.args.system.now in
    let root = string_bytes c.args.root.now.path in
    midway_ends files root c.args.folder.now c.args.walk.now c.loop-name.walk
    (subst (λ (l : List (List ℕ)). Midway files root c.args.folder.now c.args.walk.now l c.loop-name.walk) (ap (map string_bytes) (drop_all c.loop-name.name-index c.deref-name-items.result.now (omega (arith, c.loop-name-test.false, c.loop-name.auto.name-index-end)))) c.loop-name.invariant)
