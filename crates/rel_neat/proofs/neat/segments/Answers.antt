-- Each segment file among the names is found, and they are sorted by their numbers.
use Rattle.std.proofs.Common.{◌≡◌, ◌+◌, ℕ, [], ◌∷◌, ◌++◌, List, IfSome, take, Some, None, rules, sym, ap, subst, ◌∙◌}
use Rattle.std.specs.FinMap.{keys}
use Rattle.std.proofs.lemmas.List.Elements.{All-push}
use Rattle.std.proofs.lemmas.List.Sorted.{All-permutation, IsNonDecreasingBy-from_sort_by_key}
use Rattle.lsn_core.specs.declared.ids.ForkId.{ForkId}
use Rattle.rel_neat.specs.Segments.{TellsSegment, IsSegmentNamed}
use Rattle.rel_neat.proofs.Listed.{lists_pushed, lists_passed, lists_now, named_now, lists_all}
use Rattle.rel_neat.proofs.neat.segments.Goals as goal
use Rattle.rel_neat.proofs.neat.segments.Goals.{in-Some+in_ok-push, in_default}

pub loop-name-preserved : goal.loop-name-preserved
loop-name-preserved g c =
    let names = c.deref-name-items.result.now in
    let i = c.loop-name.name-index in
    let item = c.name-item.result in
    let found = c.loop-name.found.items in
    let inv = c.loop-name.invariant in
    let now = c.match-plain_segment.found.items in
    elim c.match-plain_segment.branch [
      | in-Some+in_ok-push w ↦
          let x = w.in-Some.segment in
          let tells = subst (λ (n : List ℕ). TellsSegment n (Some x)) c.as_bytes.ensures w.in-Some.ensures in
          let is : now ≡ found ++ (x ∷ []) = ◌∙◌ {c = found ++ (x ∷ [])} (ap (λ (v : _). v.items) w.found-is) w.in_ok-push.ensures.items in
          record {
            lists = lists_now (take (i + 1) names) now (found ++ (x ∷ [])) is (lists_pushed names i item found x c.loop-name-test.true c.name-item.is tells inv.lists);
            named = named_now now (found ++ (x ∷ [])) is (All-push IsSegmentNamed found x inv.named tells.0);
          }
      | in_default w ↦
          let tells = subst (λ (n : List ℕ). TellsSegment n None) c.as_bytes.ensures w.in_default.ensures in
          let is : now ≡ found = ap (λ (v : _). v.items) w.found-is in
          record {
            lists = lists_now (take (i + 1) names) now found is (lists_passed names i item found c.loop-name-test.true c.name-item.is tells inv.lists);
            named = named_now now found is inv.named;
          }
    ]

pub returns-clause-all : goal.returns-clause-all
returns-clause-all g c =
    let names = c.deref-name-items.result.now in
    let files = g.V.Vault.files c.args.area.now in
    let e = c.in_ok-sort_by_key.ensures in
    lists_all names files c.loop-name.name-index c.loop-name.found.items c.sort_by_key.new.self.items
    (subst (λ (xs : List (List ℕ)). IfSome files (λ m. xs ≡ keys m)) (sym c.deref-name-items.ensures.value) c.in_ok-names.ensures.names) c.loop-name-test.false c.loop-name.invariant.lists e.permutation
    (IsNonDecreasingBy-from_sort_by_key (λ (x : ForkId × ℕ). x.1) c.sort_by_key.new.self.items e.sorted (λ a r q k. search rules))

pub returns-clause-named : goal.returns-clause-named
returns-clause-named g c = All-permutation IsSegmentNamed c.loop-name.found.items c.sort_by_key.new.self.items c.in_ok-sort_by_key.ensures.permutation c.loop-name.invariant.named
