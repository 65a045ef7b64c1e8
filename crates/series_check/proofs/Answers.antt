-- The answer on a series, by that on the chain in which its first member has no prior.
use Rattle.std.proofs.Common.{◌≡◌, ◌≢◌, ◌≤◌, ℕ, List, [], ◌∷◌, length, get_or, Option, Some, None, Result, Ok, Err, refl, sym, ap, ◌∙◌, arith, inl, inr, ◌⊎◌}
use Rattle.chain_check.specs.Chain.{IsAccepted, IsChainRefused, first_fault, most_members}
use Rattle.chain_check.specs.Laws.{ChainAnswer, AcceptedIsNotRefused, ChainRefusalsAreOne}
use Rattle.chain_check.specs.declared.member.Member.{Member}
use Rattle.chain_check.specs.declared.chain.ChainRefusal.{ChainRefusal}
use Rattle.chain_check.specs.declared.link.LinkFault.{LinkFault}
use Rattle.chain_check.specs.declared.link.LinkFault.TheVariants.{NoMemory}
use Rattle.series_check.specs.Series.{IsIncremental, IsSeriesAccepted, series_fault, IsSeriesRefused, SeriesAnswer}
use Rattle.series_check.specs.Priors.{with_prior, first_prior, with_first_prior}
use Rattle.series_check.proofs.First.{some_none, one_value, incremental_is, incremental_none, full_is, full_none}
use Rattle.series_check.proofs.Later.{are_linked, are_linked_back, unlinked, unlinked_back}

-- ---- the call

pub put_back : (members : List Member) → with_first_prior (with_first_prior members None) (first_prior members) ≡ members
put_back [] = refl
put_back (first ∷ later) = refl

abbrev pub FirstFault : List Member → Option LinkFault
FirstFault [] = None
FirstFault (first ∷ later) = series_fault first

pub first_none : (members : List Member) (d : Member) → 1 ≤ length members → series_fault (get_or members 0 d) ≡ None → FirstFault members ≡ None
first_none [] d some e = absurd (omega (arith, some))
first_none (first ∷ later) d some e = e

pub series_answer : (members : List Member) (r : Result (Unit {0}) ChainRefusal) → 1 ≤ length members → length members ≤ most_members → FirstFault members ≡ None → ChainAnswer (with_first_prior members None) r → SeriesAnswer members r
series_answer [] r some few none is = absurd (omega (arith, some))
series_answer (first ∷ later) (Ok done) some few none is =
    record { few = few; series = (incremental_is first none, are_linked first None later is.chain.1) }
series_answer (first ∷ later) (Err r) some few none is = λ memory. refused (is memory)
  where
    refused : IsChainRefused (with_prior first None ∷ later) r → IsSeriesRefused (first ∷ later) r
    refused (inl was) = inl was
    refused (inr (few, inl was)) = absurd (some_none (first_fault (with_prior first None)) r.why (full_none first (incremental_is first none)) was.1)
    refused (inr (few, inr was)) = inr (few, inr (incremental_is first none, unlinked first None later r was.1))

-- ---- the laws

same_refusal : (a b : ChainRefusal) → a.member ≡ b.member → a.why ≡ b.why → a ≡ b
same_refusal a b m w =
    let same : record { member = a.member; why = a.why } ≡ record { member = b.member; why = b.why } = rw (m, w) refl in same

chain_accepted : (first : Member) (later : List Member) → IsSeriesAccepted (first ∷ later) → IsAccepted (with_prior first None ∷ later)
chain_accepted first later is = record { few = is.few; chain = (full_is first is.series.0, are_linked_back first None later is.series.1) }

pub accepted_or_refused : AcceptedIsNotRefused → (members : List Member) (r : ChainRefusal) → IsSeriesAccepted members → IsSeriesRefused members r → ⊥
accepted_or_refused law [] r is was = absurd is.series
accepted_or_refused law (first ∷ later) r is (inl was) = absurd (omega (arith, is.few, was.0))
accepted_or_refused law (first ∷ later) r is (inr (few, inl was)) = some_none (series_fault first) r.why (incremental_none first is.series.0) was.1
accepted_or_refused law (first ∷ later) r is (inr (few, inr was)) =
    law (with_prior first None ∷ later) r (chain_accepted first later is) (inr (few, inr (full_is first was.0, unlinked_back first None later r was.1)))

pub refused_once : ChainRefusalsAreOne → (members : List Member) (r s : ChainRefusal) → IsSeriesRefused members r → IsSeriesRefused members s → r ≡ s
refused_once law members r s (inl is) (inl was) = same_refusal r s (is.1 ∙ sym was.1) (is.2 ∙ sym was.2)
refused_once law members r s (inl is) (inr was) = absurd (omega (arith, is.0, was.0))
refused_once law members r s (inr is) (inl was) = absurd (omega (arith, is.0, was.0))
refused_once law [] r s (inr is) (inr was) = absurd is.1
refused_once law (first ∷ later) r s (inr (few, inl is)) (inr (_, inl was)) = same_refusal r s (is.0 ∙ sym was.0) (one_value (series_fault first) r.why s.why is.1 was.1)
refused_once law (first ∷ later) r s (inr (few, inl is)) (inr (_, inr was)) = absurd (some_none (series_fault first) r.why (incremental_none first was.0) is.1)
refused_once law (first ∷ later) r s (inr (few, inr is)) (inr (_, inl was)) = absurd (some_none (series_fault first) s.why (incremental_none first is.0) was.1)
refused_once law (first ∷ later) r s (inr (few, inr is)) (inr (_, inr was)) =
    law (with_prior first None ∷ later) r s (inr (few, inr (full_is first is.0, unlinked_back first None later r is.1))) (inr (few, inr (full_is first was.0, unlinked_back first None later s was.1)))
