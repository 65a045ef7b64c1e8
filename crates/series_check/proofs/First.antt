-- The first member of a series, as one of a chain without its prior.
use Rattle.std.proofs.Common.{eqb-true, ◌≡◌, ◌≤◌, ℕ, ◌+◌, ◌==◌, Bool, true, false, not, cond, if◌then◌else◌, List, [], ◌∷◌, Option, Some, None, refl, sym, ap, ◌∙◌, arith}
use Rattle.std.specs.List.{AllByRecursion, find}
use Rattle.std.specs.Option.{option_map, option_or}
use Rattle.std.proofs.lemmas.Bool.{eq-eqb}
use Rattle.std.proofs.lemmas.Option.{none-some}
use Rattle.lsn_core.specs.declared.lsn.Lsn.{Lsn}
use Rattle.chain_check.specs.Chain.{timelines_of, prior_timelines, IsOnOneTimeline, IsFirst, version_fault, timeline_fault, first_fault}
use Rattle.chain_check.specs.declared.member.Member.{Member}
use Rattle.chain_check.specs.declared.link.LinkFault.{LinkFault}
use Rattle.chain_check.specs.declared.link.LinkFault.TheVariants.{ManifestVersion, TimelineDiffers}
use Rattle.series_check.specs.Series.{IsIncremental, full_fault, series_fault}
use Rattle.series_check.specs.Priors.{with_prior}

-- ---- faults in turn

neither : {A : Type 0} (first later : Option A) → option_or first later ≡ None → (first ≡ None) × (later ≡ None)
neither None later e = (refl, e)
neither (Some fault) later e = absurd (cc)

both_none : {A : Type 0} (first later : Option A) → first ≡ None → later ≡ None → option_or first later ≡ None
both_none first later e f = ap (λ o. option_or o later) e ∙ f

pub some_none : {A : Type 0} (o : Option A) (fault : A) → o ≡ None → o ≡ Some fault → ⊥
some_none o fault e f = none-some fault (sym e ∙ f)

pub one_value : {A : Type 0} (o : Option A) (x y : A) → o ≡ Some x → o ≡ Some y → x ≡ y
one_value o x y e f = cc

-- ---- timelines

abbrev other : List ℕ → Option LinkFault
other ts = option_map (λ t. TimelineDiffers t) (find (λ t. not (t == 1)) ts)

abbrev other_behind : Bool → ℕ → List ℕ → Option LinkFault
other_behind is t ts = option_map (λ t. TimelineDiffers t) (cond (not is) (Some t) (find (λ t. not (t == 1)) ts))

skips : (is : Bool) (t : ℕ) (ts : List ℕ) → other_behind is t ts ≡ None → (is ≡ true) × (other ts ≡ None)
skips true t ts e = (refl, e)
skips false t ts e = absurd (cc)

skipped : (is : Bool) (t : ℕ) (ts : List ℕ) → is ≡ true → other_behind is t ts ≡ other ts
skipped true t ts e = refl
skipped false t ts e = absurd (cc)

all_one : (ts : List ℕ) → other ts ≡ None → AllByRecursion (λ t. t ≡ 1) ts
all_one [] e = tt
all_one (t ∷ ts) e = let rest = skips (t == 1) t ts e in (eqb-true t 1 rest.0, all_one ts rest.1)

no_other : (ts : List ℕ) → AllByRecursion (λ t. t ≡ 1) ts → other ts ≡ None
no_other [] all = refl
no_other (t ∷ ts) all = skipped (t == 1) t ts (eq-eqb t 1 all.0) ∙ no_other ts all.1

-- ---- the first member

has_prior : (p : Option (Lsn × ℕ)) → full_fault p ≡ None → (prior : Lsn × ℕ) × (p ≡ Some prior)
has_prior None e = absurd (cc)
has_prior (Some prior) e = (prior, refl)

is_two : (v : ℕ) (test : Bool) → (v == 2) ≡ test → (if test then None else Some (ManifestVersion v)) ≡ None → v ≡ 2
is_two v true is e = eqb-true v 2 is
is_two v false is e = absurd (cc)

new_version : (member : Member) → version_fault member ≡ None → member.manifest.version ≡ 2
new_version member e = is_two member.manifest.version (member.manifest.version == 2) refl e

no_version : (member : Member) → member.manifest.version ≡ 2 → version_fault member ≡ None
no_version member e = rw e refl

pub incremental_is : (member : Member) → series_fault member ≡ None → IsIncremental member
incremental_is member e =
    let first = neither (version_fault member) (option_or (timeline_fault member.label) (full_fault member.label.prior)) e in
    let both = neither (timeline_fault member.label) (full_fault member.label.prior) first.1 in
    let has = has_prior member.label.prior both.1 in
    record { version = new_version member first.0; timelines = all_one (timelines_of member.label) both.0; prior = has.0; named = has.1 }

pub incremental_none : (member : Member) → IsIncremental member → series_fault member ≡ None
incremental_none member is =
    both_none (version_fault member) (option_or (timeline_fault member.label) (full_fault member.label.prior)) (no_version member is.version)
    (both_none (timeline_fault member.label) (full_fault member.label.prior) (no_other (timelines_of member.label) is.timelines) (ap full_fault is.named))

-- without its prior it is the first of a chain
pub full_is : (member : Member) → IsIncremental member → IsFirst (with_prior member None)
full_is member is = record { version = is.version; timelines = (is.timelines.0, tt); full = refl }

pub full_none : (member : Member) → IsIncremental member → first_fault (with_prior member None) ≡ None
full_none member is =
    both_none (version_fault (with_prior member None)) (option_or (timeline_fault (with_prior member None).label) None) (no_version (with_prior member None) is.version)
    (both_none (timeline_fault (with_prior member None).label) None (skipped (member.label.timeline == 1) member.label.timeline [] (eq-eqb member.label.timeline 1 is.timelines.0)) refl)
