use Rattle.std.proofs.Common.{◌≡◌, ℕ, ◌+◌, List, length, take, refl, ◌∙◌, arith}
use Rattle.std.proofs.lemmas.List.{length-take-le}
use Rattle.wal_pages.specs.Places.{head_size}
use Rattle.wal_archive.proofs.RunLaws.{head_ok, head_why}
use Rattle.wal_archive.proofs.Fronts.{front_head_short, front_head_bytes}
use Rattle.wal_archive.proofs.front.pass_held_head.Goals as goal

pub returns-then-front-count-clause-head : goal.returns-then-front-count-clause-head
returns-then-front-count-clause-head g c =
    front_head_short (g.V.Vault.files c.args.area.now) c.args.size c.args.system c.args.begin
    c.args.page
    (c.args.page + length c.args.front.now) c.args.rest c.args.front.now c.in_ok-damage.damage refl
    (omega (arith, c.if-front-count.true, c.head_size-count.ensures.head)) c.requires.front
    c.in_ok-damage.ensures.why

pub returns-in-None-clause-head : goal.returns-in-None-clause-head
returns-in-None-clause-head g c =
    let count = c.head_size-count.result in
    let bytes : List ℕ = take count c.args.front.now in
    let len : length bytes ≡ head_size c.args.size c.args.page =
    length-take-le count c.args.front.now c.if-front-count.false ∙ c.head_size-count.ensures.head in
    head_ok (g.V.Vault.files c.args.area.now) c.args.size c.args.system c.args.begin c.args.page
    c.args.rest bytes len c.in-None.ensures
    (front_head_bytes (g.V.Vault.files c.args.area.now) c.args.size c.args.begin c.args.page count
    c.args.front.now bytes c.if-front-count.false refl c.requires.front)

pub returns-in-Some-clause-head : goal.returns-in-Some-clause-head
returns-in-Some-clause-head g c =
    let count = c.head_size-count.result in
    let bytes : List ℕ = take count c.args.front.now in
    let len : length bytes ≡ head_size c.args.size c.args.page =
    length-take-le count c.args.front.now c.if-front-count.false ∙ c.head_size-count.ensures.head in
    head_why (g.V.Vault.files c.args.area.now) c.args.size c.args.system c.args.begin c.args.page
    c.args.rest bytes c.in-Some.why len c.in-Some.ensures
    (front_head_bytes (g.V.Vault.files c.args.area.now) c.args.size c.args.begin c.args.page count
    c.args.front.now bytes c.if-front-count.false refl c.requires.front)
