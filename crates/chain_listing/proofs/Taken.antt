-- A chain that is shown isn't refused for what its labels tell.
use Rattle.std.proofs.Common.{◌≡◌, ap, sym, subst, ℕ, Bool, true, false, ◌==◌, ◌&&◌, nat_le, nat_lt, Option, Some, None, refl, arith, if◌then◌else◌}
use Rattle.std.specs.Option.{option_map, option_or, is_none}
use Rattle.std.proofs.lemmas.Bool.{and_parts}
use Rattle.lsn_core.specs.declared.lsn.Lsn.{Lsn}
use Rattle.chain_check.specs.Chain.{version_fault, timeline_fault, named_fault, system_fault, prior_fault, overlap_fault, system_of}
use Rattle.chain_check.specs.declared.link.LinkFault.{LinkFault}
use Rattle.chain_check.specs.declared.link.LinkFault.TheVariants.{TimelineDiffers, FirstIncremental}
use Rattle.chain_check.specs.declared.member.Member.{Member}
use Rattle.chain_listing.specs.Chains.{names_start}
use Rattle.chain_listing.specs.Laws.{IsShown, FullAreFirst, PriorsAreBefore}

false_true : false ≡ true → ⊥
false_true e = cc

then_none : (b : Bool) (x : Option LinkFault) → b ≡ true → (if b then None else x) ≡ None
then_none true x e = refl
then_none false x e = absurd (false_true e)

else_none : (b : Bool) (x : Option LinkFault) → b ≡ false → (if b then x else None) ≡ None
else_none false x e = refl
else_none true x e = absurd (false_true (sym e))

neither : (a b : Option LinkFault) → a ≡ None → b ≡ None → option_or a b ≡ None
neither a b e f = rw (e, f) refl

same : (a b : ℕ) → (a == b) ≡ true → (b == a) ≡ true
same a b e = grind (arith, e)

not_below : (end start : ℕ) → nat_le end start ≡ true → nat_lt start end ≡ false
not_below end start e = grind (arith, e)

new : (m : Member) → IsShown m → version_fault m ≡ None
new m shown = rw shown.version refl

timely : (m : Member) → IsShown m → timeline_fault m.label ≡ None
timely m shown = ap (λ (o : Option ℕ). option_map (λ t. TimelineDiffers t) o) shown.timelines

first_by : (prior : Option (Lsn × ℕ)) → is_none (option_map (λ p. p.0) prior) ≡ true → option_map (λ p. FirstIncremental) prior ≡ None
first_by None e = refl
first_by (Some p) e = absurd (false_true e)

pub full_first : FullAreFirst
full_first m shown full = neither (version_fault m) _ (new m shown) (neither (timeline_fault m.label) _ (timely m shown) (first_by m.label.prior full))

before_by : (p m : Member) (named : Option (Lsn × ℕ)) → p.label.start.0 ≡ p.manifest.start → m.label.start.0 ≡ m.manifest.start
    → (names_start (option_map (λ x. x.0) named) p.manifest.start && (nat_le p.manifest.end m.manifest.start && (system_of p == system_of m))) ≡ true
    → named_fault p m named ≡ None
before_by p m None ps ms e = absurd (false_true e)
before_by p m (Some named) ps ms e =
    let outer = and_parts (named.0.0 == p.manifest.start) (nat_le p.manifest.end m.manifest.start && (system_of p == system_of m)) e in
    let inner = and_parts (nat_le p.manifest.end m.manifest.start) (system_of p == system_of m) outer.1 in
    neither (system_fault p m) _ (then_none (system_of m == system_of p) _ (same (system_of p) (system_of m) inner.1))
    (neither (prior_fault p named.0) (overlap_fault p m)
    (then_none (named.0.0 == p.label.start.0) _ (subst (λ (x : ℕ). (named.0.0 == x) ≡ true) (sym ps) outer.0))
    (else_none (nat_lt m.label.start.0 p.manifest.end) _ (subst (λ (x : ℕ). nat_lt x p.manifest.end ≡ false) (sym ms) (not_below p.manifest.end m.manifest.start inner.0))))

pub priors_before : PriorsAreBefore
priors_before p m ps ms e = neither (version_fault m) _ (new m ms) (neither (timeline_fault m.label) _ (timely m ms) (before_by p m m.label.prior ps.start ms.start e))
