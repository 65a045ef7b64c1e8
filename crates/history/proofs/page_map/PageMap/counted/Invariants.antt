use Rattle.std.proofs.Common.{◌≡◌, ◌+◌, length, map, sum}
use Rattle.history.specs.Pages.{page_count}
use Rattle.history.proofs.page_map.PageMap.counted.Given as goal

abbrev pub invariant-loop-pages : goal.invariant-loop-pages
invariant-loop-pages l = l.count + sum (map (λ p. length p.items) l.pages-iterator) ≡ page_count l.self
