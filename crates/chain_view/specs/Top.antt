-- What a run of the program is.
use Rattle.std.specs.Prelude.{◌≡◌, ◌⊎◌, ℕ, List, Option, Some, None}
use Rattle.lsn_core.specs.Causes.{Rose}
use Rattle.lsn_core.specs.declared.fault.AreaFault.{AreaFault}
use Rattle.lsn_core.specs.declared.fault.AreaFault.TheVariants as area
use Rattle.vault.specs.Lending.{RoseAt}
use Rattle.vault.specs.Stream.{GainsAll}
use Rattle.vault.specs.declared.site.Site.{Ghosts as SiteGhosts}
use Rattle.vault.specs.declared.stream.Sink.{Ghosts as SinkGhosts}
use Rattle.chain_view.specs.Asked.{Question, asked}
use Rattle.chain_view.specs.Answers.{IsAnswerIn}
use Rattle.chain_view.specs.declared.top.Outcome.{Outcome}
use Rattle.chain_view.specs.declared.top.Outcome.TheVariants.{Told, NoChain, Usage, Device, Memory}

abbrev pub code_of : Outcome → ℕ
code_of Told = 0
code_of NoChain = 1
code_of Usage = 2
code_of Device = 3
code_of Memory = 4

-- where a call fails
abbrev pub outcome_of : AreaFault → Outcome
outcome_of area.Failed = Device
outcome_of area.NoMemory = Memory

module _ {O : Type 0} (o : SinkGhosts O) where
  -- an answer is printed, and this comes of it: all of it, where the program says so
  abbrev pub Tells : Option (List ℕ) → O → O → Outcome → Type 0
  Tells answer old new Told =
      (text : List ℕ) × (answer ≡ Some text) × GainsAll text (o.bytes old) (o.bytes new)
  Tells answer old new NoChain = (answer ≡ None) × (new ≡ old)
  Tells answer old new Usage = ⊥
  Tells answer old new Device = Rose (o.faults old) (o.faults new)
  Tells answer old new Memory = Unit {0}

module _ {S V O : Type 0} (s : SiteGhosts S V) (o : SinkGhosts O) where
  -- a question is answered by the area of its folder, and the answer printed; or a device failed
  abbrev pub Answers : Question → S → S → O → O → Outcome → Type 0
  Answers question before now old new Device =
      RoseAt s question.folder before now ⊎ Rose (o.faults old) (o.faults new)
  Answers question before now old new Memory = Unit {0}
  Answers question before now old new outcome = (answer : Option (List ℕ))
      × IsAnswerIn s question before answer × Tells o answer old new outcome

  -- a run on these words
  abbrev pub RanFor : Option Question → S → S → O → O → Outcome → Type 0
  RanFor None before now old new outcome = (outcome ≡ Usage) × (now ≡ before) × (new ≡ old)
  RanFor (Some question) before now old new outcome =
      Answers question before now old new outcome

  abbrev pub Ran : List (List ℕ) → S → S → O → O → Outcome → Type 0
  Ran words before now old new outcome = RanFor (asked words) before now old new outcome
