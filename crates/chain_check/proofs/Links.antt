-- A chain has one answer.
use Rattle.std.proofs.Common.{eqb-true, ◌≡◌, ◌≤◌, ℕ, ◌+◌, ◌==◌, Bool, true, false, not, cond, List, [], ◌∷◌, Option, Some, None, refl, sym, ap, ◌∙◌, arith, inl, inr, ◌⊎◌}
use Rattle.std.specs.List.{AllByRecursion, find}
use Rattle.std.specs.Option.{option_map, option_or}
use Rattle.std.proofs.lemmas.Bool.{eq-eqb, ltb-false, le-ltb}
use Rattle.lsn_core.specs.declared.lsn.Lsn.{Lsn}
use Rattle.backup_label.specs.declared.label.Label.{Label}
use Rattle.manifest.specs.declared.listing.FileRow.{FileRow}
use Rattle.chain_check.specs.Chain.{timelines_of, IsOnOneTimeline, system_of, IsFirst, IsHeld, IsLinked, AreLinked, IsChain, IsAccepted, version_fault, timeline_fault, first_fault, system_fault, prior_fault, overlap_fault, named_fault, label_fault, IsFirstUnheld, RefusesLater, IsFirstUnlinked, RefusesMember, IsChainRefused}
use Rattle.chain_check.specs.declared.member.Member.{Member}
use Rattle.chain_check.specs.declared.chain.ChainRefusal.{ChainRefusal}
use Rattle.chain_check.specs.declared.link.LinkFault.{LinkFault}
use Rattle.chain_check.specs.declared.link.LinkFault.TheVariants.{TooManyMembers, ManifestVersion, TimelineDiffers, FirstIncremental, LaterFull, SystemDiffers, WrongPrior, Overlap, NoPriorFile, NoMemory}
use Rattle.chain_check.proofs.OneText.{one_value}
use Rattle.chain_check.proofs.Turns.{neither, both_none, some_none, passes, passed, fails, failed}

-- ---- timelines

abbrev other : List ℕ → Option LinkFault
other ts = option_map (λ t. TimelineDiffers t) (find (λ t. not (t == 1)) ts)

abbrev other_behind : Bool → ℕ → List ℕ → Option LinkFault
other_behind is t ts = option_map (λ t. TimelineDiffers t) (cond (not is) (Some t) (find (λ t. not (t == 1)) ts))

skips : (is : Bool) (t : ℕ) (ts : List ℕ) → other_behind is t ts ≡ None → (is ≡ true) × (other ts ≡ None)
skips true t ts e = (refl, e)
skips false t ts e = absurd (cc)

skipped : (is : Bool) (t : ℕ) (ts : List ℕ) → is ≡ true → other_behind is t ts ≡ other ts
skipped true t ts e = refl
skipped false t ts e = absurd (cc)

all_one : (ts : List ℕ) → other ts ≡ None → AllByRecursion (λ t. t ≡ 1) ts
all_one [] e = tt
all_one (t ∷ ts) e = let rest = skips (t == 1) t ts e in (eqb-true t 1 rest.0, all_one ts rest.1)

no_other : (ts : List ℕ) → AllByRecursion (λ t. t ≡ 1) ts → other ts ≡ None
no_other [] all = refl
no_other (t ∷ ts) all = skipped (t == 1) t ts (eq-eqb t 1 all.0) ∙ no_other ts all.1

-- ---- the first member

no_prior : (p : Option (Lsn × ℕ)) → option_map (λ prior. FirstIncremental) p ≡ None → p ≡ None
no_prior None e = refl
no_prior (Some p) e = absurd (cc)

abbrev label_part : Label → Option LinkFault
label_part label = option_or (timeline_fault label) (option_map (λ prior. FirstIncremental) label.prior)

abbrev Full : Label → Type 0
Full label = IsOnOneTimeline label × (label.prior ≡ None)

full : (label : Label) → label_part label ≡ None → Full label
full label e =
    let both = neither (timeline_fault label) (option_map (λ prior. FirstIncremental) label.prior) e in
    (all_one (timelines_of label) both.0, no_prior label.prior both.1)

not_first : (label : Label) → Full label → label_part label ≡ None
not_first label is =
    both_none (timeline_fault label) (option_map (λ prior. FirstIncremental) label.prior) (no_other (timelines_of label) is.0) (ap (λ (p : Option (Lsn × ℕ)). option_map (λ prior. FirstIncremental) p) is.1)

-- the version is 2
new_version : (member : Member) → version_fault member ≡ None → member.manifest.version ≡ 2
new_version member e = eqb-true _ _ (passes (member.manifest.version == 2) (ManifestVersion member.manifest.version) e)

no_version : (member : Member) → member.manifest.version ≡ 2 → version_fault member ≡ None
no_version member e = passed (member.manifest.version == 2) (ManifestVersion member.manifest.version) (eq-eqb _ _ e)

pub first_is : (member : Member) → first_fault member ≡ None → IsFirst member
first_is member e =
    let both = neither (version_fault member) (label_part member.label) e in
    let is = full member.label both.1 in
    record { version = new_version member both.0; timelines = is.0; full = is.1 }

first_none : (member : Member) → IsFirst member → first_fault member ≡ None
first_none member is =
    both_none (version_fault member) (label_part member.label) (no_version member is.version) (not_first member.label (is.timelines, is.full))

-- ---- labels of later members

-- what a label with a prior tells of the predecessor
record Follows (prior member : Member) (named : Option (Lsn × ℕ)) : Type 0 where
  system : system_of member ≡ system_of prior
  timeline : ℕ
  named_is : named ≡ Some (prior.label.start, timeline)
  behind : prior.manifest.end ≤ member.label.start.0

abbrev place_at : ℕ → Lsn
place_at n = record { 0 = n }

follows : (prior member : Member) (named : Option (Lsn × ℕ)) → named_fault prior member named ≡ None → Follows prior member named
follows prior member None e = absurd (cc)
follows prior member (Some named) e =
    let first = neither (system_fault prior member) (option_or (prior_fault prior named.0) (overlap_fault prior member)) e in
    let rest = neither (prior_fault prior named.0) (overlap_fault prior member) first.1 in
    let start : named.0.0 ≡ prior.label.start.0 = eqb-true _ _ (passes (named.0.0 == prior.label.start.0) (WrongPrior named.0 prior.label.start) rest.0) in
    record {
      system = eqb-true _ _ (passes (system_of member == system_of prior) (SystemDiffers (system_of member) (system_of prior)) first.0);
      timeline = named.1;
      named_is = ap (λ (n : ℕ). Some (place_at n, named.1)) start;
      behind = ltb-false _ _ (fails _ (Overlap member.label.start (place_at prior.manifest.end)) rest.1);
    }

not_named : (prior member : Member) (timeline : ℕ) → system_of member ≡ system_of prior → prior.manifest.end ≤ member.label.start.0 → named_fault prior member (Some (prior.label.start, timeline)) ≡ None
not_named prior member timeline system behind =
    both_none (system_fault prior member) (option_or (prior_fault prior prior.label.start) (overlap_fault prior member))
    (passed (system_of member == system_of prior) (SystemDiffers (system_of member) (system_of prior)) (eq-eqb _ _ system))
    (both_none (prior_fault prior prior.label.start) (overlap_fault prior member)
    (passed (prior.label.start.0 == prior.label.start.0) (WrongPrior prior.label.start prior.label.start) (eq-eqb prior.label.start.0 prior.label.start.0 refl))
    (failed _ (Overlap member.label.start (place_at prior.manifest.end)) (le-ltb _ _ behind)))

pub linked : (prior member : Member) → label_fault prior member ≡ None → AllByRecursion (λ row. IsHeld prior.manifest.files row.path) member.manifest.files → IsLinked prior member
linked prior member e held =
    let first = neither (version_fault member) (option_or (timeline_fault member.label) (named_fault prior member member.label.prior)) e in
    let both = neither (timeline_fault member.label) (named_fault prior member member.label.prior) first.1 in
    let is = follows prior member member.label.prior both.1 in
    record {
      version = new_version member first.0;
      timelines = all_one (timelines_of member.label) both.0;
      system = is.system;
      timeline = is.timeline;
      named = is.named_is;
      behind = is.behind;
      held = held;
    }

no_label : (prior member : Member) → IsLinked prior member → label_fault prior member ≡ None
no_label prior member is =
    both_none (version_fault member) (option_or (timeline_fault member.label) (named_fault prior member member.label.prior)) (no_version member is.version)
    (both_none (timeline_fault member.label) (named_fault prior member member.label.prior) (no_other (timelines_of member.label) is.timelines)
    (ap (λ (p : Option (Lsn × ℕ)). named_fault prior member p) is.named ∙ not_named prior member is.timeline is.system is.behind))

-- ---- files of later members

all_held : (held rows : List FileRow) (path : List ℕ) → AllByRecursion (λ row. IsHeld held row.path) rows → IsFirstUnheld held rows path → ⊥
all_held held [] path all is = is
all_held held (row ∷ rows) path all (inl is) = is.1 all.0
all_held held (row ∷ rows) path all (inr is) = all_held held rows path all.1 is.1

unheld_once : (held rows : List FileRow) (path more : List ℕ) → IsFirstUnheld held rows path → IsFirstUnheld held rows more → path ≡ more
unheld_once held [] path more is was = absurd is
unheld_once held (row ∷ rows) path more (inl is) (inl was) = sym is.0 ∙ was.0
unheld_once held (row ∷ rows) path more (inl is) (inr was) = absurd (is.1 was.0)
unheld_once held (row ∷ rows) path more (inr is) (inl was) = absurd (was.1 is.0)
unheld_once held (row ∷ rows) path more (inr is) (inr was) = unheld_once held rows path more is.1 was.1

-- ---- later members

-- a label's fault, or else a file's
abbrev LaterPart : Member → Member → LinkFault → Type 0
LaterPart prior member why =
    (label_fault prior member ≡ Some why)
    ⊎ ((path : List ℕ) × (label_fault prior member ≡ None) × IsFirstUnheld prior.manifest.files member.manifest.files path × (why ≡ NoPriorFile path))

part_of : (prior member : Member) (why : LinkFault) → RefusesLater prior member why → LaterPart prior member why
part_of prior member TooManyMembers is = inl is
part_of prior member (ManifestVersion v) is = inl is
part_of prior member (TimelineDiffers v) is = inl is
part_of prior member FirstIncremental is = inl is
part_of prior member LaterFull is = inl is
part_of prior member (SystemDiffers have expected) is = inl is
part_of prior member (WrongPrior have expected) is = inl is
part_of prior member (Overlap start end) is = inl is
part_of prior member (NoPriorFile path) is = inr (path, is.0, is.1, refl)
part_of prior member NoMemory is = inl is

part_once : (prior member : Member) (why more : LinkFault) → LaterPart prior member why → LaterPart prior member more → why ≡ more
part_once prior member why more (inl is) (inl was) = one_value (label_fault prior member) why more is was
part_once prior member why more (inl is) (inr was) = absurd (some_none (label_fault prior member) why was.1 is)
part_once prior member why more (inr is) (inl was) = absurd (some_none (label_fault prior member) more is.1 was)
part_once prior member why more (inr is) (inr was) =
    is.3 ∙ (ap (λ (p : List ℕ). NoPriorFile p) (unheld_once prior.manifest.files member.manifest.files is.0 was.0 is.2 was.2) ∙ sym was.3)

linked_part : (prior member : Member) (why : LinkFault) → IsLinked prior member → LaterPart prior member why → ⊥
linked_part prior member why is (inl was) = some_none (label_fault prior member) why (no_label prior member is) was
linked_part prior member why is (inr was) = all_held prior.manifest.files member.manifest.files was.0 is.held was.2

linked_or_refused : (prior member : Member) (why : LinkFault) → IsLinked prior member → RefusesLater prior member why → ⊥
linked_or_refused prior member why is was = linked_part prior member why is (part_of prior member why was)

-- ---- the whole chain

abbrev refusal_at : ℕ → LinkFault → ChainRefusal
refusal_at place why = record { member = place; why = why }

same_refusal : (a b : ChainRefusal) → a.member ≡ b.member → a.why ≡ b.why → a ≡ b
same_refusal a b m w = let same : refusal_at a.member a.why ≡ refusal_at b.member b.why = rw (m, w) refl in same

all_linked : (place : ℕ) (prior : Member) (later : List Member) (r : ChainRefusal) → AreLinked prior later → IsFirstUnlinked place prior later r → ⊥
all_linked place prior [] r all is = is
all_linked place prior (m ∷ later) r all (inl is) = linked_or_refused prior m r.why all.0 is.1
all_linked place prior (m ∷ later) r all (inr is) = all_linked (place + 1) m later r all.1 is.1

unlinked_once : (place : ℕ) (prior : Member) (later : List Member) (r s : ChainRefusal) → IsFirstUnlinked place prior later r → IsFirstUnlinked place prior later s → r ≡ s
unlinked_once place prior [] r s is was = absurd is
unlinked_once place prior (m ∷ later) r s (inl is) (inl was) =
    same_refusal r s (is.0 ∙ sym was.0) (part_once prior m r.why s.why (part_of prior m r.why is.1) (part_of prior m s.why was.1))
unlinked_once place prior (m ∷ later) r s (inl is) (inr was) = absurd (linked_or_refused prior m r.why was.0 is.1)
unlinked_once place prior (m ∷ later) r s (inr is) (inl was) = absurd (linked_or_refused prior m s.why is.0 was.1)
unlinked_once place prior (m ∷ later) r s (inr is) (inr was) = unlinked_once (place + 1) m later r s is.1 was.1

chain_or_member : (members : List Member) (r : ChainRefusal) → IsChain members → RefusesMember members r → ⊥
chain_or_member [] r is was = was
chain_or_member (m ∷ later) r is (inl was) = some_none (first_fault m) r.why (first_none m is.0) was.1
chain_or_member (m ∷ later) r is (inr was) = all_linked 1 m later r is.1 was.1

member_once : (members : List Member) (r s : ChainRefusal) → RefusesMember members r → RefusesMember members s → r ≡ s
member_once [] r s is was = absurd is
member_once (m ∷ later) r s (inl is) (inl was) = same_refusal r s (is.0 ∙ sym was.0) (one_value (first_fault m) r.why s.why is.1 was.1)
member_once (m ∷ later) r s (inl is) (inr was) = absurd (some_none (first_fault m) r.why (first_none m was.0) is.1)
member_once (m ∷ later) r s (inr is) (inl was) = absurd (some_none (first_fault m) s.why (first_none m is.0) was.1)
member_once (m ∷ later) r s (inr is) (inr was) = unlinked_once 1 m later r s is.1 was.1

pub accepted_or_refused : (members : List Member) (r : ChainRefusal) → IsAccepted members → IsChainRefused members r → ⊥
accepted_or_refused members r is (inl was) = absurd (omega (arith, is.few, was.0))
accepted_or_refused members r is (inr was) = chain_or_member members r is.chain was.1

pub refused_once : (members : List Member) (r s : ChainRefusal) → IsChainRefused members r → IsChainRefused members s → r ≡ s
refused_once members r s (inl is) (inl was) = same_refusal r s (is.1 ∙ sym was.1) (is.2 ∙ sym was.2)
refused_once members r s (inl is) (inr was) = absurd (omega (arith, is.0, was.0))
refused_once members r s (inr is) (inl was) = absurd (omega (arith, is.0, was.0))
refused_once members r s (inr is) (inr was) = member_once members r s is.1 was.1
