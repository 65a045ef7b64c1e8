-- Later members are judged alike, whatever prior the first member names.
use Rattle.std.proofs.Common.{◌≡◌, ℕ, ◌+◌, List, [], ◌∷◌, Option, Some, None, refl, sym, ap, ◌∙◌, inl, inr}
use Rattle.std.specs.Option.{option_or}
use Rattle.lsn_core.specs.declared.lsn.Lsn.{Lsn}
use Rattle.chain_check.specs.Chain.{IsLinked, AreLinked, version_fault, timeline_fault, named_fault, label_fault, RefusesLater, IsFirstUnlinked}
use Rattle.chain_check.specs.declared.member.Member.{Member}
use Rattle.chain_check.specs.declared.chain.ChainRefusal.{ChainRefusal}
use Rattle.chain_check.specs.declared.link.LinkFault.{LinkFault}
use Rattle.chain_check.specs.declared.link.LinkFault.TheVariants.{TooManyMembers, ManifestVersion, TimelineDiffers, FirstIncremental, LaterFull, SystemDiffers, WrongPrior, Overlap, NoPriorFile, NoMemory}
use Rattle.series_check.specs.Priors.{with_prior}

module _ (first : Member) (prior : Option (Lsn × ℕ)) where
  abbrev other : Member
  other = with_prior first prior

  named_same : (member : Member) (named : Option (Lsn × ℕ)) → named_fault other member named ≡ named_fault first member named
  named_same member None = refl
  named_same member (Some named) = refl

  label_same : (member : Member) → label_fault other member ≡ label_fault first member
  label_same member = ap (λ o. option_or (version_fault member) (option_or (timeline_fault member.label) o)) (named_same member member.label.prior)

  linked_same : (member : Member) → IsLinked other member → IsLinked first member
  linked_same member is = record {
    version = is.version;
    timelines = is.timelines;
    system = is.system;
    timeline = is.timeline;
    named = is.named;
    behind = is.behind;
    held = is.held;
  }

  linked_back : (member : Member) → IsLinked first member → IsLinked other member
  linked_back member is = record {
    version = is.version;
    timelines = is.timelines;
    system = is.system;
    timeline = is.timeline;
    named = is.named;
    behind = is.behind;
    held = is.held;
  }

  refuses_same : (member : Member) (why : LinkFault) → RefusesLater other member why → RefusesLater first member why
  refuses_same member TooManyMembers is = sym (label_same member) ∙ is
  refuses_same member (ManifestVersion v) is = sym (label_same member) ∙ is
  refuses_same member (TimelineDiffers v) is = sym (label_same member) ∙ is
  refuses_same member FirstIncremental is = sym (label_same member) ∙ is
  refuses_same member LaterFull is = sym (label_same member) ∙ is
  refuses_same member (SystemDiffers have expected) is = sym (label_same member) ∙ is
  refuses_same member (WrongPrior have expected) is = sym (label_same member) ∙ is
  refuses_same member (Overlap start end) is = sym (label_same member) ∙ is
  refuses_same member (NoPriorFile path) is = (sym (label_same member) ∙ is.0, is.1)
  refuses_same member NoMemory is = sym (label_same member) ∙ is

  refuses_back : (member : Member) (why : LinkFault) → RefusesLater first member why → RefusesLater other member why
  refuses_back member TooManyMembers is = label_same member ∙ is
  refuses_back member (ManifestVersion v) is = label_same member ∙ is
  refuses_back member (TimelineDiffers v) is = label_same member ∙ is
  refuses_back member FirstIncremental is = label_same member ∙ is
  refuses_back member LaterFull is = label_same member ∙ is
  refuses_back member (SystemDiffers have expected) is = label_same member ∙ is
  refuses_back member (WrongPrior have expected) is = label_same member ∙ is
  refuses_back member (Overlap start end) is = label_same member ∙ is
  refuses_back member (NoPriorFile path) is = (label_same member ∙ is.0, is.1)
  refuses_back member NoMemory is = label_same member ∙ is

  pub are_linked : (later : List Member) → AreLinked other later → AreLinked first later
  are_linked [] all = tt
  are_linked (member ∷ later) all = (linked_same member all.0, all.1)

  pub are_linked_back : (later : List Member) → AreLinked first later → AreLinked other later
  are_linked_back [] all = tt
  are_linked_back (member ∷ later) all = (linked_back member all.0, all.1)

  pub unlinked : (later : List Member) (r : ChainRefusal) → IsFirstUnlinked 1 other later r → IsFirstUnlinked 1 first later r
  unlinked [] r is = is
  unlinked (member ∷ later) r (inl is) = inl (is.0, refuses_same member r.why is.1)
  unlinked (member ∷ later) r (inr is) = inr (linked_same member is.0, is.1)

  pub unlinked_back : (later : List Member) (r : ChainRefusal) → IsFirstUnlinked 1 first later r → IsFirstUnlinked 1 other later r
  unlinked_back [] r is = is
  unlinked_back (member ∷ later) r (inl is) = inl (is.0, refuses_back member r.why is.1)
  unlinked_back (member ∷ later) r (inr is) = inr (linked_back member is.0, is.1)
