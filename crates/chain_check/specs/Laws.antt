-- What the checks answer, and what holds of the answers on a directory and on a chain.
use Rattle.std.specs.Prelude.{◌≡◌, ◌≢◌, List, Result, Ok, Err}
use Rattle.lsn_core.specs.Files.{Files}
use Rattle.chain_files.specs.Segments.{HasForms}
use Rattle.chain_check.specs.Directory.{IsAsListed}
use Rattle.chain_check.specs.Refusals.{RefusedFor, HasRefusal, IsOfFiles}
use Rattle.chain_check.specs.Chain.{IsAccepted, IsChainRefused}
use Rattle.chain_check.specs.declared.member.Member.{Member}
use Rattle.chain_check.specs.declared.link.LinkFault.TheVariants.{NoMemory}
use Rattle.chain_check.specs.declared.chain.ChainRefusal.{ChainRefusal}
use Rattle.chain_check.specs.declared.fault.ChainFault.{ChainFault}
use Rattle.chain_check.specs.declared.refusal.Refusal.{Refusal}

-- a directory is one member of a name at most
abbrev pub DirectoriesAreOneMember : Type 0
DirectoriesAreOneMember =
    (files : Files) (one other : Member) → one.name ≡ other.name
    → IsAsListed files one → IsAsListed files other → one ≡ other

-- one that is as listed isn't refused
abbrev pub ListedIsNotRefused : Type 0
ListedIsNotRefused =
    (files : Files) (member : Member) (fault : ChainFault) → IsOfFiles fault
    → IsAsListed files member → RefusedFor files fault → ⊥

-- and one that isn't is refused for one fault, behind one number of files
abbrev pub RefusalsAreOne : Type 0
RefusalsAreOne =
    (files : Files) (refusal other : Refusal) → IsOfFiles refusal.fault → IsOfFiles other.fault
    → HasRefusal files refusal → HasRefusal files other → refusal ≡ other

-- in a directory that is as listed the incremental files have their form: each is a row's
abbrev pub ListedHaveForms : Type 0
ListedHaveForms = (files : Files) (member : Member) → IsAsListed files member → HasForms files

-- what a check of a chain answers, where memory suffices: it is accepted, or refused so
abbrev pub ChainAnswer : List Member → Result (Unit {0}) ChainRefusal → Type 0
ChainAnswer members (Ok done) = IsAccepted members
ChainAnswer members (Err refusal) = refusal.why ≢ NoMemory → IsChainRefused members refusal

-- a chain that is accepted isn't refused
abbrev pub AcceptedIsNotRefused : Type 0
AcceptedIsNotRefused =
    (members : List Member) (refusal : ChainRefusal)
    → IsAccepted members → IsChainRefused members refusal → ⊥

-- and one that isn't is refused for one fault of one member
abbrev pub ChainRefusalsAreOne : Type 0
ChainRefusalsAreOne =
    (members : List Member) (refusal other : ChainRefusal)
    → IsChainRefused members refusal → IsChainRefused members other → refusal ≡ other
