-- The events of calls on a store in segment files keep what stays.
use Rattle.std.proofs.Common.{◌≡◌, ℕ, ◌-◌, ◌*◌, ◌/◌, ◌<◌, ⊎_elim, inl, inr, min, List, [], length, Option, unwrap_or, Result, OnOk, OnErr, refl, sym, ap, subst, arith}
use Rattle.std.proofs.lemmas.Nat.{div-add-mod'}
use Rattle.std.proofs.Math.Nat.{mod-lt}
use Rattle.std.specs.FinMap.{get}
use Rattle.lsn_core.specs.declared.fault.AreaFault.{AreaFault}
use Rattle.lsn_core.specs.declared.ids.ForkId.{ForkId}
use Rattle.lsn_core.specs.declared.ids.BlockId.{BlockId}
use Rattle.lsn_core.specs.Files.{Files}
use Rattle.lsn_core.specs.Store.{Store, ForkPages}
use Rattle.lsn_core.specs.Blocks.{pages_of}
use Rattle.vault.specs.Stops.{Event, synced, noted}
use Rattle.vault.specs.Frame.{Adds}
use Rattle.vault.proofs.Through.{adds_sync}
use Rattle.rel_files.specs.Forks.{HasHeldPages, whole_pages}
use Rattle.rel_files.specs.Events.{IsPageWrite, IsPut, IsMake, IsFileRemoval, IsForkCut}
use Rattle.rel_files.proofs.Pages.{held_by}
use Rattle.rel_files.proofs.Segments.{below}
use Rattle.rel_files.proofs.Events.{adds_weaker}
use Rattle.stop_areas.specs.Left.{Base, Stays, HasPagesThatStay}
use Rattle.stop_areas.specs.Keeps.{MayBeThere, MayWrite, MayBeCut, MayBeRemoved, Keeps}
use Rattle.stop_areas.specs.Laws.{PutsKeepPages, MakesKeepPages, CutsKeepPages, RemovalsKeepPages}
use Rattle.stop_areas.proofs.Sizes.{in_fork, among_held}
use Rattle.stop_areas.proofs.Kept.{stops_keep_pages}

-- a page that stays is one of the whole pages that files hold
pub stays_inside : (base : Base) (held : Store) (fork : ForkId) (block : ℕ) (page : List ℕ) → HasHeldPages held → HasPagesThatStay base held → Stays base fork block page → block < length (whole_pages (pages_of held fork))
stays_inside base held fork block page pages has stays =
    let is = has fork block page stays in
    in_fork (get held fork) block page is.0 (λ ps there at.
    let inside = among_held 8192 (length (whole_pages ps)) ps block page (held_by ps (pages fork ps there)) at is.1 in
    let same = ap (λ (o : Option ForkPages). length (whole_pages (unwrap_or o []))) there in
    omega (arith, inside, same))

-- ---- each event

write_keeps : (relseg : ℕ) (base : Base) (fork : ForkId) (block : ℕ) (event : Event) → MayWrite base (record { fork = fork; block = block }) → IsPageWrite relseg fork block event → Keeps relseg base event
write_keeps relseg base fork block event may write =
    subst (Keeps relseg base) (sym write.is) (inl (record {
      fork = fork;
      block = block;
      named = write.named;
      name_is = refl;
      at_is = refl;
      small = let size = write.size in omega (arith, size);
      may = may;
    }))

-- between the whole pages and the block no page stays
put_keeps : (relseg count : ℕ) (base : Base) (at : BlockId) (event : Event) → ((block : ℕ) (page : List ℕ) → Stays base at.fork block page → block < count) → MayWrite base at → IsPut relseg count at event → Keeps relseg base event
put_keeps relseg count base at event inside may put =
    let upto = put.upto in
    write_keeps relseg base at.fork put.block event
    (record {
      free = λ page stays. ⊎_elim
          (λ behind. let l = inside put.block page stays in absurd (omega (arith, behind, l)))
          (λ same. may.free page (subst (λ (b : ℕ). Stays base at.fork b page) same stays))
          put.from;
      below = λ other stays. let l = may.below other stays in omega (arith, l, upto);
      there = may.there;
    })
    put.write

make_keeps : (relseg : ℕ) (base : Base) (fork : ForkId) (event : Event) → MayBeThere base fork → IsMake fork event → Keeps relseg base event
make_keeps relseg base fork event may make =
    subst (Keeps relseg base) (sym make.is) (inr (inl (record { fork = fork; named = make.named; name_is = refl; at_is = refl; none = refl; may = may })))

-- files behind those that so many blocks need, which are all that stay, or the last of them cut
cut_keeps : (relseg left : ℕ) (base : Base) (fork : ForkId) (event : Event) → 0 < relseg → MayBeCut base fork left → IsForkCut relseg fork left event → Keeps relseg base event
cut_keeps relseg left base fork event some behind (inl gone) =
    let parts = div-add-mod' (left - 1) relseg in
    let small = mod-lt (left - 1) some in
    let f = gone.from in
    let all = below ((left - 1) / relseg) gone.seg relseg (omega (arith, f)) in
    subst (Keeps relseg base) (sym gone.is) (inl (record {
      fork = fork;
      seg = gone.seg;
      named = gone.named;
      name_is = refl;
      behind = λ block page stays. let l = behind block page stays in omega (arith, l, all, parts, small);
      first = λ none. absurd (omega (arith, f, none));
    }))
cut_keeps relseg left base fork event some behind (inr cut) =
    let before = cut.before in
    subst (Keeps relseg base) (sym cut.is) (inl (record {
      fork = fork;
      seg = cut.seg;
      named = cut.named;
      name_is = refl;
      here = λ block page stays same.
          let l = behind block page stays in
          let parts = div-add-mod' block relseg in
          let times = ap (λ (n : ℕ). n * relseg) same in
          omega (arith, l, parts, times, before);
      later = λ block page stays less.
          let l = behind block page stays in
          let parts = div-add-mod' block relseg in
          let order = below cut.seg (block / relseg) relseg less in
          omega (arith, l, parts, order, before);
    }))

removal_keeps : (relseg : ℕ) (base : Base) (fork : ForkId) (event : Event) → MayBeRemoved base fork → IsFileRemoval fork 0 event → Keeps relseg base event
removal_keeps relseg base fork event may gone =
    subst (Keeps relseg base) (sym gone.is) (inl (record {
      fork = fork;
      seg = gone.seg;
      named = gone.named;
      name_is = refl;
      behind = λ block page stays. absurd (may.free block page stays);
      first = λ none. may.gone;
    }))

-- ---- all events of a call

pub put_adds : (relseg : ℕ) (base : Base) (at : BlockId) (held : Store) (x y : Option (List Event)) → HasHeldPages held → HasPagesThatStay base held → MayWrite base at → Adds (IsPut relseg (length (whole_pages (pages_of held at.fork))) at) x y → Adds (Keeps relseg base) x y
put_adds relseg base at held x y pages has may adds =
    adds_weaker (IsPut relseg (length (whole_pages (pages_of held at.fork))) at) (Keeps relseg base) x y
    (λ e put. put_keeps relseg (length (whole_pages (pages_of held at.fork))) base at e (λ block page stays. stays_inside base held at.fork block page pages has stays) may put)
    adds

pub make_adds : (relseg : ℕ) (base : Base) (fork : ForkId) (x y : Option (List Event)) → MayBeThere base fork → Adds (IsMake fork) x y → Adds (Keeps relseg base) x y
make_adds relseg base fork x y may adds = adds_weaker (IsMake fork) (Keeps relseg base) x y (λ e make. make_keeps relseg base fork e may make) adds

pub cut_adds : (relseg to : ℕ) (base : Base) (fork : ForkId) (held : Store) (x y : Option (List Event)) → 0 < relseg → HasHeldPages held → HasPagesThatStay base held → MayBeCut base fork to
    → Adds (IsForkCut relseg fork (min (length (whole_pages (pages_of held fork))) to)) x y → Adds (Keeps relseg base) x y
cut_adds relseg to base fork held x y some pages has may adds =
    let left = min (length (whole_pages (pages_of held fork))) to in
    adds_weaker (IsForkCut relseg fork left) (Keeps relseg base) x y
    (λ e cut. cut_keeps relseg left base fork e some (λ block page stays. let a = stays_inside base held fork block page pages has stays in let b = may block page stays in omega (arith, a, b)) cut)
    adds

pub removal_adds : (relseg : ℕ) (base : Base) (fork : ForkId) (x y : Option (List Event)) → MayBeRemoved base fork → Adds (IsFileRemoval fork 0) x y → Adds (Keeps relseg base) x y
removal_adds relseg base fork x y may adds = adds_weaker (IsFileRemoval fork 0) (Keeps relseg base) x y (λ e gone. removal_keeps relseg base fork e may gone) adds

pub sync_adds : {T : Type 0} (relseg : ℕ) (base : Base) (files : Option Files) (x y : Option (List Event)) (result : Result T AreaFault) → OnOk result (y ≡ noted (synced files) x) → OnErr result (y ≡ x) → Adds (Keeps relseg base) x y
sync_adds relseg base files x y result ok err = adds_sync (Keeps relseg base) files x y result tt ok err

-- ---- so what stays is left at each moment of it

pub puts_keep : PutsKeepPages
puts_keep relseg base at held x y some pages has may adds left = stops_keep_pages relseg base x y some (put_adds relseg base at held x y pages has may adds) left

pub makes_keep : MakesKeepPages
makes_keep relseg base fork x y some may adds left = stops_keep_pages relseg base x y some (make_adds relseg base fork x y may adds) left

pub cuts_keep : CutsKeepPages
cuts_keep relseg to base fork held x y some pages has may adds left = stops_keep_pages relseg base x y some (cut_adds relseg to base fork held x y some pages has may adds) left

pub removals_keep : RemovalsKeepPages
removals_keep relseg base fork x y some may adds left = stops_keep_pages relseg base x y some (removal_adds relseg base fork x y may adds) left
