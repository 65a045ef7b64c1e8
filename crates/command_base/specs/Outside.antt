-- What the program works on: the areas of a site, an input, a clock and a sink.
use Rattle.std.specs.Prelude.{◌≡◌, ◌≤◌, ℕ, List, Option, None, Result, IfSome, IsSome}
use Rattle.lsn_core.specs.declared.fault.AreaFault.{AreaFault}
use Rattle.vault.specs.Site.{Areas}
use Rattle.vault.specs.Stream.{Tells}
use Rattle.vault.specs.Lending.{Names, WritesAmong, TakeCause}
use Rattle.vault.specs.declared.lending.TakeFault.{TakeFault}
use Rattle.vault.specs.declared.site.Site.{Ghosts as Sites}
use Rattle.vault.specs.declared.stream.Source.{Ghosts as Sources}
use Rattle.vault.specs.declared.stream.Sink.{Ghosts as Sinks}
use Rattle.vault.specs.declared.stream.Clock.{Ghosts as Clocks}

-- all that is known of it at a moment. What is told of contents is an option
pub record Outside : Type 0 where
  pub areas : Areas
  -- how often the site failed to hand out an area
  pub take_faults : ℕ
  -- what is left of the input, and how often it failed
  pub left : Option (List ℕ)
  pub reads : ℕ
  -- the clock's moment
  pub moment : Option ℕ
  -- what the sink took, and how often it failed
  pub printed : Option (List ℕ)
  pub prints : ℕ

-- these objects, as their traits' meanings tell of them
abbrev pub outside : {S V I O C : Type 0} → Sites S V → Sources I → Sinks O → Clocks C
    → S → I → O → C → Outside
outside sites sources sinks clocks site input out clock = record {
  areas = sites.areas site;
  take_faults = sites.take_faults site;
  left = sources.left input;
  reads = sources.faults input;
  moment = clocks.moment clock;
  printed = sinks.bytes out;
  prints = sinks.faults out;
}

-- ---- the same, as far as a call sees it: the site alone

abbrev pub of_site : {S V : Type 0} → Sites S V → S → Outside
of_site sites site = record {
  areas = sites.areas site;
  take_faults = sites.take_faults site;
  left = None;
  reads = 0;
  moment = None;
  printed = None;
  prints = 0;
}

-- with what is left of an input, and how often that failed
abbrev pub with_input : Outside → Option (List ℕ) → ℕ → Outside
with_input o left reads = record o { left = left; reads = reads }

-- the site and the input
abbrev pub of_site_input : {S V I : Type 0} → Sites S V → Sources I → S → I → Outside
of_site_input sites sources site input =
    with_input (of_site sites site) (sources.left input) (sources.faults input)

-- with what a clock tells
abbrev pub with_moment : Outside → Option ℕ → Outside
with_moment o moment = record o { moment = moment }

-- the site and the clock
abbrev pub of_site_clock : {S V C : Type 0} → Sites S V → Clocks C → S → C → Outside
of_site_clock sites clocks site clock =
    record (of_site sites site) { moment = clocks.moment clock }

-- all but the sink
abbrev pub of_all : {S V I C : Type 0} → Sites S V → Sources I → Clocks C → S → I → C → Outside
of_all sites sources clocks site input clock =
    with_moment (of_site_input sites sources site input) (clocks.moment clock)

-- ---- what a command does to it

-- every area is given back, only the files of these may have changed, and no count of faults fell
abbrev pub Works : Names → Outside → Outside → Type 0
Works names old new = WritesAmong names old.areas new.areas × (old.take_faults ≤ new.take_faults)

-- no area was asked for
abbrev pub LeavesSite : Outside → Outside → Type 0
LeavesSite old new = (new.areas ≡ old.areas) × (new.take_faults ≡ old.take_faults)

-- what it means that an area wasn't handed out
abbrev pub Untakens : Type 1
Untakens = TakeFault → Type 0

-- no area wasn't handed out
abbrev pub Never : Untakens
Never fault = ⊥

-- one of these areas wasn't handed out, and none changed
abbrev pub IsUntaken : Names → Outside → Outside → TakeFault → Type 0
IsUntaken names old new fault =
    (new.areas ≡ old.areas) × TakeCause names old.take_faults new.take_faults fault

-- these lines were printed; or a beginning of them, where the sink failed or memory ran out
abbrev pub Prints : List ℕ → Outside → Outside → Result (Unit {0}) AreaFault → Type 0
Prints lines old new told = Tells lines old.printed new.printed old.prints new.prints told

-- the contents of all areas and of the input are told, and the clock's moment
pub record AllTold (old : Outside) : Type 0 where
  pub files : (name : List ℕ) → IsSome (old.areas name).files
  pub left : IsSome old.left
  pub moment : IsSome old.moment

-- this is the clock's moment
abbrev pub IsMoment : Outside → ℕ → Type 0
IsMoment old when = IfSome old.moment (λ told. when ≡ told)
