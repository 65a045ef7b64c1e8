-- Directories that are as listed, and accepted as a chain or as a series, aren't refused.
use Rattle.std.proofs.Common.{◌≡◌, ◌≢◌, ◌≤◌, ℕ, zero, suc, List, [], ◌∷◌, ◌++◌, length, map, Some, IsSome, refl, sym, ap, subst, ◌∙◌, arith, inl, inr}
use Rattle.std.specs.Prelude.{slice_get}
use Rattle.lsn_core.specs.Files.{Files}
use Rattle.vault.specs.Lending.{Names, IsOneOf}
use Rattle.vault.specs.Site.{AreaState, Areas}
use Rattle.chain_check.specs.Chain.{most_members}
use Rattle.chain_check.specs.Directory.{IsAsListed}
use Rattle.chain_check.specs.Laws.{DirectoriesAreOneMember, ListedHaveForms, ListedIsNotRefused}
use Rattle.chain_check.specs.Refusals.{HasRefusal, IsOfFiles}
use Rattle.chain_check.specs.declared.chain.ChainRefusal.{ChainRefusal}
use Rattle.chain_check.specs.declared.fault.ChainFault.{ChainFault}
use Rattle.chain_check.specs.declared.fault.ChainFault.TheVariants as directory
use Rattle.chain_check.specs.declared.link.LinkFault.{LinkFault}
use Rattle.chain_check.specs.declared.link.LinkFault.TheVariants as link
use Rattle.chain_check.specs.declared.member.Member.{Member}
use Rattle.command_base.specs.Areas.{backup_name}
use Rattle.command_base.proofs.Told.{at_told}
use Rattle.chain_commands.specs.declared.chain.Joining.{Joining}
use Rattle.chain_commands.specs.declared.chain.Joining.TheVariants as join
use Rattle.chain_commands.specs.declared.chain.MembersFault.{MembersFault}
use Rattle.chain_commands.specs.declared.chain.MembersFault.TheVariants as members
use Rattle.chain_commands.specs.Chain.{backup_areas, files_told, IsMemberIn, AreMembersIn, IsAcceptedAs, IsRefusedAs, IsJoinedTo, IsChainTo, MembersRefusedAs, members_status}
use Rattle.chain_commands.specs.Directory.{directory_status}
use Rattle.chain_commands.specs.Link.{link_status}
use Rattle.chain_commands.proofs.Members.{members_length}
use Rattle.chain_commands.proofs.OneChain.{AreTold}
use Rattle.backup_laws.specs.Success.{IsDoneOrFails}
use Rattle.backup_laws.proofs.ChainMembers.{split_told}

-- ---- statuses

-- where nothing of the files is refused
pub directory_done : (why : ChainFault) → (IsOfFiles why → ⊥) → IsDoneOrFails (directory_status why)
directory_done directory.NoManifest never = absurd (never (λ e. absurd cc, λ e. absurd cc))
directory_done (directory.ManifestDamaged how) never = absurd (never (λ e. absurd cc, λ e. absurd cc))
directory_done (directory.ManifestVersion v) never = absurd (never (λ e. absurd cc, λ e. absurd cc))
directory_done (directory.TimelineDiffers v) never = absurd (never (λ e. absurd cc, λ e. absurd cc))
directory_done (directory.FileMissing path) never = absurd (never (λ e. absurd cc, λ e. absurd cc))
directory_done (directory.FileSize path have listed) never = absurd (never (λ e. absurd cc, λ e. absurd cc))
directory_done (directory.FileSum path) never = absurd (never (λ e. absurd cc, λ e. absurd cc))
directory_done (directory.FileExtra path) never = absurd (never (λ e. absurd cc, λ e. absurd cc))
directory_done (directory.LabelDamaged line) never = absurd (never (λ e. absurd cc, λ e. absurd cc))
directory_done (directory.FileDamaged path how) never = absurd (never (λ e. absurd cc, λ e. absurd cc))
directory_done directory.Failed never = tt
directory_done directory.NoMemory never = tt

link_done : (why : LinkFault) → (why ≢ link.NoMemory → ⊥) → IsDoneOrFails (link_status why)
link_done link.TooManyMembers never = absurd (never (λ e. absurd cc))
link_done (link.ManifestVersion v) never = absurd (never (λ e. absurd cc))
link_done (link.TimelineDiffers v) never = absurd (never (λ e. absurd cc))
link_done link.FirstIncremental never = absurd (never (λ e. absurd cc))
link_done link.LaterFull never = absurd (never (λ e. absurd cc))
link_done (link.SystemDiffers have expected) never = absurd (never (λ e. absurd cc))
link_done (link.WrongPrior have expected) never = absurd (never (λ e. absurd cc))
link_done (link.Overlap start end) never = absurd (never (λ e. absurd cc))
link_done (link.NoPriorFile path) never = absurd (never (λ e. absurd cc))
link_done link.NoMemory never = tt

-- ---- areas that tell

pub each_told : (areas : List AreaState) (chain : List Files) → files_told areas ≡ Some chain → AreTold areas chain
each_told [] [] told = tt
each_told [] (f ∷ chain) told = absurd cc
each_told (area ∷ areas) chain told =
    let p = split_told area.files (map (λ (a : AreaState). a.files) areas) chain told in
    subst (AreTold (area ∷ areas)) (sym p.all) (p.is, each_told areas p.files p.told)

-- so each name's area does
pub told_by_name : (names : Names) (areas : Areas) (chain : List Files) → AreTold (backup_areas names areas) chain → (name : List ℕ) → IsOneOf name names → IsSome (areas (backup_name name)).files
told_by_name [] areas chain told name one = absurd one
told_by_name (n ∷ names) areas [] told name one = absurd told
told_by_name (n ∷ names) areas (f ∷ chain) told name one = elim one [
  | inl same ↦ subst (λ (x : List ℕ). IsSome (areas (backup_name x)).files) (sym same) (subst IsSome (sym told.0) refl)
  | inr more ↦ told_by_name names areas chain told.1 name more
]

-- ---- the members that they are

-- the directory at a place is as listed
record IsListedAt (area : AreaState) : Type 0 where
  files : Files
  member : Member
  told : area.files ≡ Some files
  listed : IsAsListed files member

listed_at : (names : Names) (areas : List AreaState) (chain : List Files) (ms : List Member) (place : ℕ) (area : AreaState) → AreTold areas chain → AreMembersIn names areas ms → slice_get areas place ≡ Some area → IsListedAt area
listed_at names [] chain ms place area told are e = absurd cc
listed_at names (a ∷ areas) [] ms place area told are e = absurd told
listed_at [] (a ∷ areas) (f ∷ chain) ms place area told are e = absurd are
listed_at (name ∷ names) (a ∷ areas) (f ∷ chain) [] place area told are e = absurd are
listed_at (name ∷ names) (a ∷ areas) (f ∷ chain) (m ∷ ms) zero area told are e =
    let same : a ≡ area = cc in
    subst IsListedAt same (record { files = f; member = m; told = told.0; listed = (at_told a.files f (λ fs. (m.name ≡ name) × IsAsListed fs m) told.0 are.0).1 })
listed_at (name ∷ names) (a ∷ areas) (f ∷ chain) (m ∷ ms) (suc place) area told are e = listed_at names areas chain ms place area told.1 are.1 e

module _ (one : DirectoriesAreOneMember) where
  same_member : (name : List ℕ) (area : AreaState) (f : Files) (m n : Member) → area.files ≡ Some f → IsMemberIn name area m → IsMemberIn name area n → m ≡ n
  same_member name area f m n told a b =
      let x = at_told area.files f (λ fs. (m.name ≡ name) × IsAsListed fs m) told a in
      let y = at_told area.files f (λ fs. (n.name ≡ name) × IsAsListed fs n) told b in
      one f m n (x.0 ∙ sym y.0) x.1 y.1

  pub same_members : (names : Names) (areas : List AreaState) (chain : List Files) (a b : List Member) → AreTold areas chain → AreMembersIn names areas a → AreMembersIn names areas b → a ≡ b
  same_members [] [] chain [] [] told x y = refl
  same_members [] [] chain [] (n ∷ b) told x y = absurd y
  same_members [] [] chain (m ∷ a) b told x y = absurd x
  same_members [] (area ∷ areas) chain a b told x y = absurd x
  same_members (name ∷ names) [] chain a b told x y = absurd x
  same_members (name ∷ names) (area ∷ areas) [] a b told x y = absurd told
  same_members (name ∷ names) (area ∷ areas) (f ∷ chain) [] b told x y = absurd x
  same_members (name ∷ names) (area ∷ areas) (f ∷ chain) (m ∷ a) [] told x y = absurd y
  same_members (name ∷ names) (area ∷ areas) (f ∷ chain) (m ∷ a) (n ∷ b) told x y =
      ap (λ (z : Member). z ∷ a) (same_member name area f m n told.0 x.0 y.0) ∙ ap (λ (zs : List Member). n ∷ zs) (same_members names areas chain a b told.1 x.1 y.1)

  last_same : (xs ys : List Member) (x y : Member) → xs ++ (x ∷ []) ≡ ys ++ (y ∷ []) → x ≡ y
  last_same [] [] x y e = cc
  last_same [] (z ∷ []) x y e = absurd cc
  last_same [] (z ∷ (w ∷ ys)) x y e = absurd cc
  last_same (z ∷ []) [] x y e = absurd cc
  last_same (z ∷ (w ∷ xs)) [] x y e = absurd cc
  last_same (z ∷ xs) (w ∷ ys) x y e = (let rest : xs ++ (x ∷ []) ≡ ys ++ (y ∷ []) = cc in last_same xs ys x y rest)

  -- so the newest one is one
  pub same_newest : (names : Names) (areas : List AreaState) (chain : List Files) (m n : Member) → AreTold areas chain → IsChainTo names areas m → IsChainTo names areas n → m ≡ n
  same_newest names areas chain m n told a b = last_same a.older b.older m n (same_members names areas chain (a.older ++ (m ∷ [])) (b.older ++ (n ∷ [])) told a.are b.are)

-- ---- they aren't refused

-- what is known of the checks
pub record KnownOfChecks (joining : Joining) : Type 0 where
  pub member : DirectoriesAreOneMember
  pub forms : ListedHaveForms
  pub listed : ListedIsNotRefused
  pub accepted : (members : List Member) (refusal : ChainRefusal) → IsAcceptedAs joining members → IsRefusedAs joining members refusal → ⊥

few_members : (joining : Joining) (members : List Member) → IsAcceptedAs joining members → length members ≤ most_members
few_members join.Chain members is = is.few
few_members join.Series members is = is.few

module _ (joining : Joining) (checks : KnownOfChecks joining) where
  pub members_done : (names : Names) (old new : List AreaState) (chain : List Files) (newest : Member) (why : MembersFault) → AreTold old chain → IsJoinedTo joining names old newest → MembersRefusedAs joining names old new why → IsDoneOrFails (members_status why)
  members_done names old new chain newest (members.Directory place refusal) told is refused =
      let at = listed_at names old chain (is.older ++ (newest ∷ [])) place refused.was told is.are refused.there in
      directory_done refusal.fault (λ own. checks.listed at.files at.member refusal.fault own at.listed (at_told refused.was.files at.files (λ fs. HasRefusal fs refusal) at.told refused.refused.refused).0)
  members_done names old new chain newest (members.Link refusal) told is refused = link_done refusal.why (λ own.
      elim (refused own) [
        | inl many ↦
            let few = few_members joining (is.older ++ (newest ∷ [])) is.accepted in
            let long = members_length names old (is.older ++ (newest ∷ [])) is.are in
            omega (arith, few, long, many.0)
        | inr none ↦
            let same = same_members checks.member names old chain none.members (is.older ++ (newest ∷ [])) told none.are is.are in
            checks.accepted none.members refusal (subst (IsAcceptedAs joining) (sym same) is.accepted) none.refused
      ])
  members_done names old new chain newest members.NoMemory told is refused = tt
