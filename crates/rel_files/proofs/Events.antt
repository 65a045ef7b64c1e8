-- What calls on segment files add to what happened to the area.
use Rattle.std.proofs.Common.{◌≡◌, ℕ, ◌+◌, ◌-◌, ◌*◌, ◌/◌, ◌%◌, ◌≤◌, ◌⊎◌, inl, inr, false, List, [], ◌∷◌, length, Option, Some, None, option_map, unwrap_or, Result, ap, subst, ◌∙◌, arith}
use Rattle.lsn_core.specs.declared.fault.AreaFault.{AreaFault}
use Rattle.lsn_core.specs.declared.ids.ForkId.{ForkId}
use Rattle.lsn_core.specs.declared.ids.BlockId.{BlockId}
use Rattle.lsn_core.specs.Names.{fork_path_bytes, IsNamed}
use Rattle.vault.specs.Stops.{Event, wrote, cut, removed, Notes, Tries}
use Rattle.vault.specs.Frame.{Each, Adds}
use Rattle.vault.proofs.Through.{adds_by}
use Rattle.lsn_core.specs.Store.{ForkPages}
use Rattle.rel_files.specs.Forks.{whole_pages}
use Rattle.rel_files.specs.Events.{IsPageWrite, IsPut, IsMake, IsFileRemoval, IsFileCut, IsForkCut}

each_weaker : (P Q : Event → Type 0) → ((e : Event) → P e → Q e) → (es : List Event) → Each P es → Each Q es
each_weaker P Q f [] h = tt
each_weaker P Q f (e ∷ es) h = (f e h.0, each_weaker P Q f es h.1)

pub adds_weaker : (P Q : Event → Type 0) (x y : Option (List Event)) → ((e : Event) → P e → Q e) → Adds P x y → Adds Q x y
adds_weaker P Q x y f a = record { events = a.events; each = each_weaker P Q f a.events a.each; past = a.past }

pub page_added : {T : Type 0} (relseg : ℕ) (fork : ForkId) (block : ℕ) (page name : List ℕ) (place : ℕ) (x y : Option (List Event)) (result : Result T AreaFault) → IsNamed fork (block / relseg) → length page ≡ 8192
    → name ≡ fork_path_bytes fork (block / relseg) false → place ≡ block % relseg * 8192 → Notes (wrote name place page) x y result → Tries (wrote name place page) x y result → Adds (IsPageWrite relseg fork block) x y
page_added relseg fork block page name place x y result named size is here notes tries =
    adds_by (IsPageWrite relseg fork block) (wrote name place page) x y result
    (record {
      page = page;
      size = size;
      named = named;
      is = ap (λ (q : List ℕ). wrote q place page) is ∙ ap (λ (p : ℕ). wrote (fork_path_bytes fork (block / relseg) false) p page) here;
    })
    notes tries

pub make_added : {T : Type 0} (fork : ForkId) (name : List ℕ) (x y : Option (List Event)) (result : Result T AreaFault) → IsNamed fork 0 → name ≡ fork_path_bytes fork 0 false
    → Notes (wrote name 0 []) x y result → Tries (wrote name 0 []) x y result → Adds (IsMake fork) x y
make_added fork name x y result named is notes tries =
    adds_by (IsMake fork) (wrote name 0 []) x y result (record { named = named; is = ap (λ (q : List ℕ). wrote q 0 []) is }) notes tries

pub removal_added : {T : Type 0} (fork : ForkId) (seg : ℕ) (name : List ℕ) (x y : Option (List Event)) (result : Result T AreaFault) → IsNamed fork seg → name ≡ fork_path_bytes fork seg false
    → Notes (removed name) x y result → Tries (removed name) x y result → Adds (IsFileRemoval fork seg) x y
removal_added fork seg name x y result named is notes tries =
    adds_by (IsFileRemoval fork seg) (removed name) x y result (record { seg = seg; from = omega arith; named = named; is = ap removed is }) notes tries

pub cut_added : {T : Type 0} (relseg : ℕ) (fork : ForkId) (left seg size : ℕ) (name : List ℕ) (x y : Option (List Event)) (result : Result T AreaFault) → IsNamed fork seg → seg * relseg ≤ left
    → name ≡ fork_path_bytes fork seg false → size ≡ (left - seg * relseg) * 8192 → Notes (cut name size) x y result → Tries (cut name size) x y result → Adds (IsFileCut relseg fork left) x y
cut_added relseg fork left seg size name x y result named before is here notes tries =
    adds_by (IsFileCut relseg fork left) (cut name size) x y result
    (record { seg = seg; before = before; named = named; is = ap (λ (q : List ℕ). cut q size) is ∙ ap (λ (n : ℕ). cut (fork_path_bytes fork seg false) n) here })
    notes tries

-- removals from a file on are removals from an earlier one on
pub from_earlier : (fork : ForkId) (first seg : ℕ) (x y : Option (List Event)) → first ≤ seg → Adds (IsFileRemoval fork seg) x y → Adds (IsFileRemoval fork first) x y
from_earlier fork first seg x y le a =
    adds_weaker (IsFileRemoval fork seg) (IsFileRemoval fork first) x y (λ e gone. let f = gone.from in record { seg = gone.seg; from = omega (arith, f, le); named = gone.named; is = gone.is }) a

-- a page at a block is one that a put writes
pub put_part : (relseg count : ℕ) (at : BlockId) (block : ℕ) (x y : Option (List Event)) → block ≤ at.block → (count ≤ block) ⊎ (block ≡ at.block) → Adds (IsPageWrite relseg at.fork block) x y → Adds (IsPut relseg count at) x y
put_part relseg count at block x y upto from a =
    adds_weaker (IsPageWrite relseg at.fork block) (IsPut relseg count at) x y (λ e write. record { block = block; upto = upto; from = from; write = write }) a

-- ---- cuts

-- the files of a fork behind those that so many blocks need
pub removed_in_cut : (relseg : ℕ) (fork : ForkId) (first left : ℕ) (x y : Option (List Event)) → (left - 1) / relseg + 1 ≡ first → Adds (IsFileRemoval fork first) x y → Adds (IsForkCut relseg fork left) x y
removed_in_cut relseg fork first left x y same a =
    adds_weaker (IsFileRemoval fork first) (IsForkCut relseg fork left) x y (λ e gone. let f = gone.from in inl (record { seg = gone.seg; from = omega (arith, f, same); named = gone.named; is = gone.is })) a

pub cut_in_cut : (relseg : ℕ) (fork : ForkId) (left count : ℕ) (x y : Option (List Event)) → left ≡ count → Adds (IsFileCut relseg fork left) x y → Adds (IsForkCut relseg fork count) x y
cut_in_cut relseg fork left count x y same a =
    subst (λ (n : ℕ). Adds (IsForkCut relseg fork n) x y) same (adds_weaker (IsFileCut relseg fork left) (IsForkCut relseg fork left) x y (λ e cut. inr cut) a)

-- ---- the same behind a lookup

pub put_behind : (relseg again count blocks : ℕ) (at : BlockId) (x mid y : Option (List Event)) → again ≡ relseg → count ≡ blocks → mid ≡ x → Adds (IsPut again count at) mid y → Adds (IsPut relseg blocks at) x y
put_behind relseg again count blocks at x mid y same counted quiet a =
    subst (λ (r : ℕ). Adds (IsPut r blocks at) x y) same (subst (λ (n : ℕ). Adds (IsPut again n at) x y) counted (subst (λ (p : Option (List Event)). Adds (IsPut again count at) p y) quiet a))

pub cut_behind : (relseg again : ℕ) (fork : ForkId) (left count : ℕ) (x mid y : Option (List Event)) → again ≡ relseg → left ≡ count → mid ≡ x → Adds (IsForkCut again fork left) mid y → Adds (IsForkCut relseg fork count) x y
cut_behind relseg again fork left count x mid y same counted quiet a =
    subst (λ (r : ℕ). Adds (IsForkCut r fork count) x y) same (subst (λ (n : ℕ). Adds (IsForkCut again fork n) x y) counted (subst (λ (p : Option (List Event)). Adds (IsForkCut again fork left) p y) quiet a))

pub make_behind : (fork : ForkId) (x mid y : Option (List Event)) → mid ≡ x → Adds (IsMake fork) mid y → Adds (IsMake fork) x y
make_behind fork x mid y quiet a = subst (λ (p : Option (List Event)). Adds (IsMake fork) p y) quiet a

pub removal_behind : (fork : ForkId) (x mid y : Option (List Event)) → mid ≡ x → Adds (IsFileRemoval fork 0) mid y → Adds (IsFileRemoval fork 0) x y
removal_behind fork x mid y quiet a = subst (λ (p : Option (List Event)). Adds (IsFileRemoval fork 0) p y) quiet a

-- a fork's number of whole pages, which was found
pub whole_found : (o : Option ForkPages) (count : ℕ) → option_map (λ pages. length (whole_pages pages)) o ≡ Some count → count ≡ length (whole_pages (unwrap_or o []))
whole_found None count e = absurd cc
whole_found (Some pages) count e = cc
