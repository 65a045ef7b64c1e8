use Rattle.std.proofs.Common.{◌≡◌, ℕ, ◌+◌, ◌-◌, ◌%◌, ◌<◌, ◌≤◌, ◌++◌, length, drop, ap, sym, subst, arith, ◌∙◌}
use Rattle.wal_pages.specs.Places.{head_size, IsBehindHead}
use Rattle.wal_pages.specs.Spread.{spread_from}
use Rattle.wal_pages.proofs.Starts.{in_head, behind_head, flat_le}
use Rattle.wal_pages.proofs.Pieces.{page_pieces, head_made, head_length}
use Rattle.wal_pages.proofs.cutting.push_page.Goals as goal

pub behind-requires : goal.behind-requires
behind-requires c =
    let mib = c.args.of.now.segment in
    let at = c.args.at in
    let some : 1 ≤ mib = omega (
      arith,
      c.segment-size.ensures.value,
      c.segment-size.ensures.range.least,
    ) in
    let h : c.head_size.result ≡ head_size mib at = c.head_size.ensures.head
    ∙ ap (λ n. head_size n at) c.segment-size.ensures.value in
    let lt : at % 8192 < head_size mib at = omega (arith, c.if-from-at.false, h) in
    let i = in_head mib at some lt in
    let size = head_length mib c.args.of.now.system c.args.first (length c.args.flat.now)
    (at - at % 8192) c.in_ok-head.head.items (omega (arith, c.requires.bound, c.requires.order))
    c.requires.total
    (head_made c.segment-size.result mib c.args.of.now.system c.args.first (length c.args.flat.now)
    (at - at % 8192) c.still_to_come-rest.result c.in_ok-head.head.items
    c.segment-size.ensures.value c.still_to_come-rest.ensures c.in_ok-head.ensures) in
    omega (arith, size, c.deref.ensures.len, i.head, lt)

pub push_flat-requires-2-clause-behind : goal.push_flat-requires-2-clause-behind
push_flat-requires-2-clause-behind c =
    let mib = c.args.of.now.segment in
    let at = c.args.at in
    let some : 1 ≤ mib = omega (
      arith,
      c.segment-size.ensures.value,
      c.segment-size.ensures.range.least,
    ) in
    let h : c.head_size.result ≡ head_size mib at = c.head_size.ensures.head
    ∙ ap (λ n. head_size n at) c.segment-size.ensures.value in
    let lt : at % 8192 < head_size mib at = omega (arith, c.if-from-at.false, h) in
    subst (λ n. IsBehindHead mib (at - at % 8192 + n)) (sym h) (behind_head mib at some lt)

pub push_flat-requires-2-clause-first : goal.push_flat-requires-2-clause-first
push_flat-requires-2-clause-first c =
    let mib = c.args.of.now.segment in
    let some : 1 ≤ mib = omega (
      arith,
      c.segment-size.ensures.value,
      c.segment-size.ensures.range.least,
    ) in
    let up = flat_le mib c.args.at
    (c.args.at - c.args.at % 8192 + c.head_size.result)
    some (omega (arith, c.if-from-at.false)) in
    omega (arith, up, c.requires.first)

pub returns : goal.returns
returns c =
    let mib = c.args.of.now.segment in
    let at = c.args.at in
    let some : 1 ≤ mib = omega (
      arith,
      c.segment-size.ensures.value,
      c.segment-size.ensures.range.least,
    ) in
    let h : c.head_size.result ≡ head_size mib at = c.head_size.ensures.head
    ∙ ap (λ n. head_size n at) c.segment-size.ensures.value in
    let lt : at % 8192 < head_size mib at = omega (arith, c.if-from-at.false, h) in
    let made = head_made c.segment-size.result mib c.args.of.now.system c.args.first
    (length c.args.flat.now)
    (at - at % 8192) c.still_to_come-rest.result c.in_ok-head.head.items
    c.segment-size.ensures.value c.still_to_come-rest.ensures c.in_ok-head.ensures in
    let size = head_length mib c.args.of.now.system c.args.first (length c.args.flat.now)
    (at - at % 8192) c.in_ok-head.head.items (omega (arith, c.requires.bound, c.requires.order))
    c.requires.total made in
    let pieces = page_pieces mib c.args.of.now.system c.args.first c.args.flat.now
    c.in_ok-head.head.items
    c.args.out.now.items at c.args.until some lt made size (c.requires.head lt) in
    let page : ℕ = at - at % 8192 in
    let own = spread_from mib c.args.of.now.system c.args.first c.args.flat.now in
    let front : c.extend_from_slice.new.self.items ≡ c.args.out.now.items
    ++ drop (at - page) c.in_ok-head.head.items =
    c.in_ok-extend_from_slice.ensures.items
    ∙ ap (λ l. c.args.out.now.items ++ l)
    (c.behind.ensures ∙ ap (drop (at - page)) c.deref.ensures.value) in
    c.in_ok-push_flat.ensures
    ∙ ap (λ n. c.extend_from_slice.new.self.items ++ own (page + n) (c.args.until - (page + n))) h
    ∙ ap (λ l. l ++ own (page + head_size mib at) (c.args.until - (page + head_size mib at))) front
    ∙ pieces
