-- The areas of a combining or of a merging, taken from a site and given back.
use Rattle.std.proofs.Common.{◌≡◌, ◌≢◌, ℕ, zero, suc, ◌≤◌, List, [], ◌∷◌, ◌++◌, length, take, drop, Option, Some, None, IfSome, Ok, Err, refl, sym, ap, subst, ◌∙◌, inl, inr}
use Rattle.std.specs.Prelude.{slice_get}
use Rattle.std.specs.FinMap.{empty, get, get-empty}
use Rattle.std.specs.Ordering.{nat_cmp}
use Rattle.std.specs.Cmp.Lexicographic.{slice_cmp}
use Rattle.lsn_core.specs.Files.{Files}
use Rattle.vault.specs.declared.area.Vault.{Ghosts as Vaults}
use Rattle.vault.specs.declared.site.Site.{Ghosts as Sites}
use Rattle.vault.specs.declared.lending.Held.{Held}
use Rattle.vault.specs.declared.lending.TakeFault.{TakeFault}
use Rattle.vault.specs.Site.{AreaState, Areas, AllHome, state_in}
use Rattle.vault.specs.Lending.{Names, IsOneOf, AreOut, WritesAmong, AreTaken, NoneTaken, GivesBack}
use Rattle.vault.proofs.LentAreas.{later_named, lent, out_later, writes_fewer}
use Rattle.backup_files.specs.Directory.{manifest_name}
use Rattle.chain_check.specs.Directory.{IsAsListed}
use Rattle.chain_check.specs.declared.member.Member.{Member}
use Rattle.chain_files.specs.Told.{AllOnlyRead}
use Rattle.chain_files.proofs.Told.{reads_length}
use Rattle.command_base.specs.Areas.{backup_name, IsFull}
use Rattle.command_base.specs.Outside.{of_site, Works, Untakens, IsUntaken}
use Rattle.command_base.proofs.Lent.{none_written}
use Rattle.chain_commands.specs.declared.chain.Joining.{Joining}
use Rattle.chain_commands.specs.declared.chain.MemberAreas.{MemberAreas}
use Rattle.chain_commands.specs.declared.combining.CombineFault.TheVariants as combine
use Rattle.chain_commands.specs.declared.chain.MembersFault.{MembersFault}
use Rattle.chain_commands.specs.Chain.{backup_areas, IsMemberIn, AreMembersIn, IsJoinedTo, MembersRefusedAs}
use Rattle.chain_commands.specs.Joined.{CombineSeen, CombineResult, JoinAnswer, JoinRan, combine_seen, combine_asks}
use Rattle.command_base.specs.Outside.{Never}
use Rattle.chain_commands.specs.Inner.{AreMemberAreas, areas_at, combine_seen_in, RefusesMembers, AnswersJoin}
use Rattle.chain_commands.proofs.ChainAreas.{IsOfMember, of_member, one_front, one_asked, chain_back, chain_writes, chain_untaken, areas_site, areas_length, read_later, read_still, lent_back}

abbrev seen_as : List AreaState → AreaState → CombineSeen
seen_as members out = record { members = members; out = out }

seen_same : (ms ns : List AreaState) (o p : AreaState) → ms ≡ ns → o ≡ p → seen_as ms o ≡ seen_as ns p
seen_same ms ns o p a b = ap (λ (ys : List AreaState). seen_as ys o) a ∙ ap (λ (y : AreaState). seen_as ns y) b

-- an answer that doesn't tell of an area that wasn't handed out
whatever_untaken : (joining : Joining) (when : ℕ) (names : Names) (U : Untakens) (old new : CombineSeen) (r : CombineResult) → JoinAnswer joining when names Never old new r → JoinAnswer joining when names U old new r
whatever_untaken joining when names U old new (Ok report) is = is
whatever_untaken joining when names U old new (Err (combine.Site fault)) is = absurd is
whatever_untaken joining when names U old new (Err (combine.Members fault)) is = is
whatever_untaken joining when names U old new (Err combine.NotEmpty) is = is
whatever_untaken joining when names U old new (Err (combine.Unlisted place)) is = is
whatever_untaken joining when names U old new (Err (combine.Backup place why)) is = is
whatever_untaken joining when names U old new (Err (combine.Out why)) is = is

abbrev Combined : {S A : Type 0} → Sites S A → Joining → ℕ → Names → List ℕ → S → S → CombineResult → Type 0
Combined s joining when members out old new r =
    Works (out ∷ []) (of_site s old) (of_site s new) × JoinRan joining when members out (of_site s old) (of_site s new) r

-- no area was taken
pub combine_untaken : {S A : Type 0} (s : Sites S A) (joining : Joining) (when : ℕ) (members : Names) (out : List ℕ) (areas : MemberAreas) (names : Names) (old new : S) (fault : TakeFault) → AreMemberAreas members areas
    → names ≡ areas.names.items ++ out ∷ [] → AllHome (s.areas old) → NoneTaken s names old new fault → Combined s joining when members out old new (Err (combine.Site fault))
combine_untaken s joining when members out areas names old new fault are is home none =
    let there : NoneTaken s (areas.names.items ++ out ∷ []) old new fault = subst (λ (ns : Names). NoneTaken s ns old new fault) is none in
    let untaken = chain_untaken s members (out ∷ []) areas old new fault are there in
    ((subst (λ (a : Areas). WritesAmong (out ∷ []) (s.areas old) a) (sym none.areas) (none_written (out ∷ []) (s.areas old) home), none.cause.later), untaken)

pub combine_lent : {S A : Type 0} (s : Sites S A) (g : Vaults A) (joining : Joining) (when : ℕ) (members : Names) (out : List ℕ) (areas : MemberAreas) (names : Names) (old mid then new : S) (taken held kept : List (Held A)) (to to_now : Held A) (r : CombineResult)
    → AreMemberAreas members areas → names ≡ areas.names.items ++ out ∷ [] → taken ≡ held ++ to ∷ [] → AllHome (s.areas old) → AreTaken s g names old mid taken
    → AllOnlyRead g held kept → to_now.name ≡ to.name → g.faults to.area ≤ g.faults to_now.area → GivesBack s g (to_now ∷ []) mid then → GivesBack s g kept then new
    → AnswersJoin g joining when members areas.places.items held to.area kept to_now.area r → Combined s joining when members out old new r
combine_lent {A = A} s g joining when members out areas names old mid then new taken held kept to to_now r are named last home took read same later gives_one gives_all answer =
    let rest : List (Held A) = to ∷ [] in
    let now : List (Held A) = to_now ∷ [] in
    let there : AreTaken s g (areas.names.items ++ out ∷ []) old mid (held ++ rest) =
    subst (λ (ns : Names). AreTaken s g ns old mid (held ++ rest)) named (subst (λ (xs : List (Held A)). AreTaken s g names old mid xs) last took) in
    let back = chain_back s g areas.names.items (out ∷ []) old mid then new held rest kept now refl home there read (same, later, tt) gives_one gives_all in
    let wrote : WritesAmong (out ∷ []) (s.areas old) (s.areas new) = chain_writes s g areas.names.items (out ∷ []) (out ∷ []) old new held rest kept now back read (λ n one none. elim one [
      | inl is ↦ absurd (none.0 is)
      | inr never ↦ absurd never
    ]) in
    let was : combine_seen_in g areas.places.items held to.area ≡ combine_seen members out (of_site s old) =
    seen_same (areas_at g held areas.places.items) (backup_areas members (s.areas old)) (state_in g to.area) (s.areas old out)
    (areas_site g (s.areas old) areas.names.items members held areas.places.items back.were are.stand) (sym back.more_were.1) in
    let is : combine_seen_in g areas.places.items kept to_now.area ≡ combine_seen members out (of_site s new) =
    seen_same (areas_at g kept areas.places.items) (backup_areas members (s.areas new)) (state_in g to_now.area) (s.areas new out)
    (areas_site g (s.areas new) areas.names.items members kept areas.places.items back.are are.stand) (sym back.more_are.1) in
    let U : Untakens = IsUntaken (combine_asks members out) (of_site s old) (of_site s new) in
    let there_answer : JoinAnswer joining when members U (combine_seen_in g areas.places.items held to.area) (combine_seen_in g areas.places.items kept to_now.area) r =
    whatever_untaken joining when members U (combine_seen_in g areas.places.items held to.area) (combine_seen_in g areas.places.items kept to_now.area) r answer in (
      (wrote, back.later),
      subst (λ (x : CombineSeen). JoinAnswer joining when members U x (combine_seen members out (of_site s new)) r) was
          (subst (λ (x : CombineSeen). JoinAnswer joining when members U (combine_seen_in g areas.places.items held to.area) x r) is there_answer),
    )

-- the same of what was lent as slices
pub combine_done : {S A : Type 0} (s : Sites S A) (g : Vaults A) (joining : Joining) (when : ℕ) (members : Names) (out : List ℕ) (areas : MemberAreas) (names : Names) (old mid then new : S) (taken held slice kept back : List (Held A)) (ps : List ℕ) (len : ℕ) (to to_now : Held A) (r : CombineResult)
    → AreMemberAreas members areas → names ≡ areas.names.items ++ out ∷ [] → taken ≡ held ++ to ∷ [] → AllHome (s.areas old) → AreTaken s g names old mid taken
    → slice ≡ held → ps ≡ areas.places.items → len ≡ length held → AllOnlyRead g slice kept → back ≡ take len (kept ++ drop (length kept) held) → to_now.name ≡ to.name → g.faults to.area ≤ g.faults to_now.area → GivesBack s g (to_now ∷ []) mid then → GivesBack s g back then new
    → AnswersJoin g joining when members ps slice to.area kept to_now.area r → Combined s joining when members out old new r
combine_done {A = A} s g joining when members out areas names old mid then new taken held slice kept back ps len to to_now r are named last home took lent placed counted read written same later gives_one gives_all answer =
    let read_there : AllOnlyRead g held kept = subst (λ (xs : List (Held A)). AllOnlyRead g xs kept) lent read in
    let back_is : back ≡ kept = written ∙ lent_back len held kept counted (reads_length g held kept read_there) in
    combine_lent s g joining when members out areas names old mid then new taken held kept to to_now r are named last home took read_there same later gives_one
    (subst (λ (xs : List (Held A)). GivesBack s g xs then new) back_is gives_all)
    (subst (λ (qs : List ℕ). AnswersJoin g joining when members qs held to.area kept to_now.area r) placed (subst (λ (xs : List (Held A)). AnswersJoin g joining when members ps xs to.area kept to_now.area r) lent answer))

-- ---- onto a member's directory

member_at : (site : Areas) (names : Names) (members : List Member) (i : ℕ) (name : List ℕ) → AreMembersIn names (backup_areas names site) members → slice_get names i ≡ Some name → (member : Member) × IsMemberIn name (site (backup_name name)) member
member_at site [] members i name are e = absurd cc
member_at site (n ∷ names) [] i name are e = absurd are
member_at site (n ∷ names) (m ∷ members) zero name are e =
    (let same : n ≡ name = cc in (m, subst (λ (x : List ℕ). IsMemberIn x (site (backup_name x)) m) same are.0))
member_at site (n ∷ names) (m ∷ members) (suc i) name are e = member_at site names members i name are.1 e

listed_full : (files : Files) (member : Member) → IsAsListed files member → files ≢ empty
listed_full files member is none =
    let there : ◌≡◌ {A = Option (List ℕ)} (get empty manifest_name) (Some is.manifest.0) = subst (λ (m : Files). ◌≡◌ {A = Option (List ℕ)} (get m manifest_name) (Some is.manifest.0)) none is.manifest.1 in
    let lacks : ◌≡◌ {A = Option (List ℕ)} (get empty manifest_name) None = get-empty (slice_cmp nat_cmp) manifest_name in
    some_or_none is.manifest.0 (sym there ∙ lacks)
  where
    some_or_none : (x : List ℕ) → ◌≡◌ {A = Option (List ℕ)} (Some x) None → ⊥
    some_or_none x e = absurd cc

full_there : (o : Option Files) (name : List ℕ) (member : Member) → IfSome o (λ files. (member.name ≡ name) × IsAsListed files member) → IfSome o (λ m. m ≢ empty)
full_there None name member is = tt
full_there (Some files) name member is = listed_full files member is.1

-- a member's directory holds a file
member_full : (joining : Joining) (site : Areas) (members : Names) (out : List ℕ) (newest : Member) → IsOfMember members out → IsJoinedTo joining members (backup_areas members site) newest → IsFull (site out)
member_full joining site members out newest of chain =
    let found = member_at site members (chain.older ++ newest ∷ []) of.place of.name chain.are of.there in
    subst (λ (x : List ℕ). IsFull (site x)) (sym of.named) (full_there (site (backup_name of.name)).files of.name found.0 found.1)

-- the areas of the members alone
record OntoBack {S A : Type 0} (s : Sites S A) (g : Vaults A) (members : Names) (out : List ℕ) (areas : MemberAreas) (old new : S) (held kept : List (Held A)) : Type 0 where
  works : Works (out ∷ []) (of_site s old) (of_site s new)
  keeps : (s.areas new out).files ≡ (s.areas old out).files
  were : areas_at g held areas.places.items ≡ backup_areas members (s.areas old)
  are : areas_at g kept areas.places.items ≡ backup_areas members (s.areas new)

onto_back : {S A : Type 0} (s : Sites S A) (g : Vaults A) (members : Names) (out : List ℕ) (areas : MemberAreas) (old mid new : S) (held kept : List (Held A)) → AreMemberAreas members areas → IsOneOf out areas.names.items → AllHome (s.areas old)
    → AreTaken s g areas.names.items old mid held → AllOnlyRead g held kept → GivesBack s g kept mid new → OntoBack s g members out areas old new held kept
onto_back s g members out areas old mid new held kept are among home took read gives =
    let back = lent s g areas.names.items old mid new held kept home took (later_named g held kept (read_later g held kept read)) gives in
    record {
      works = (writes_fewer areas.names.items (out ∷ []) (s.areas old) (s.areas new) back.site (λ n one none. read_still g (s.areas old) (s.areas new) areas.names.items held kept n back.was back.is read one), back.later);
      keeps = (read_still g (s.areas old) (s.areas new) areas.names.items held kept out back.was back.is read among).files;
      were = areas_site g (s.areas old) areas.names.items members held areas.places.items back.was are.stand;
      are = areas_site g (s.areas new) areas.names.items members kept areas.places.items back.is are.stand;
    }

pub onto_untaken : {S A : Type 0} (s : Sites S A) (joining : Joining) (when : ℕ) (members : Names) (out : List ℕ) (areas : MemberAreas) (old new : S) (fault : TakeFault) → AreMemberAreas members areas → AllHome (s.areas old)
    → NoneTaken s areas.names.items old new fault → Combined s joining when members out old new (Err (combine.Site fault))
onto_untaken s joining when members out areas old new fault are home none = (
  (subst (λ (a : Areas). WritesAmong (out ∷ []) (s.areas old) a) (sym none.areas) (none_written (out ∷ []) (s.areas old) home), none.cause.later),
  (
    none.areas,
    record {
      later = none.cause.later;
      among = one_asked members (out ∷ []) areas fault.area are (one_front fault.area areas.names.items (out ∷ []) none.cause.among);
      failed = none.cause.failed;
    },
  ),
)

pub onto_refused : {S A : Type 0} (s : Sites S A) (g : Vaults A) (joining : Joining) (when : ℕ) (members : Names) (out : List ℕ) (areas : MemberAreas) (old mid new : S) (held kept : List (Held A)) (fault : MembersFault) → AreMemberAreas members areas → IsOneOf out areas.names.items → AllHome (s.areas old)
    → AreTaken s g areas.names.items old mid held → AllOnlyRead g held kept → GivesBack s g kept mid new → RefusesMembers g joining members areas.places.items held kept fault → Combined s joining when members out old new (Err (combine.Members fault))
onto_refused s g joining when members out areas old mid new held kept fault are among home took read gives refused =
    let back = onto_back s g members out areas old mid new held kept are among home took read gives in
    let there : MembersRefusedAs joining members (backup_areas members (s.areas old)) (backup_areas members (s.areas new)) fault =
    subst (λ (xs : List AreaState). MembersRefusedAs joining members xs (backup_areas members (s.areas new)) fault) back.were
    (subst (λ (xs : List AreaState). MembersRefusedAs joining members (areas_at g held areas.places.items) xs fault) back.are refused) in
    (back.works, (there, back.keeps))

pub onto_full : {S A : Type 0} (s : Sites S A) (g : Vaults A) (joining : Joining) (when : ℕ) (members : Names) (out : List ℕ) (areas : MemberAreas) (old mid new : S) (held kept : List (Held A)) (newest : Member) → AreMemberAreas members areas → IsOneOf out areas.names.items → AllHome (s.areas old)
    → AreTaken s g areas.names.items old mid held → AllOnlyRead g held kept → GivesBack s g kept mid new → IsJoinedTo joining members (areas_at g held areas.places.items) newest → Combined s joining when members out old new (Err combine.NotEmpty)
onto_full s g joining when members out areas old mid new held kept newest are among home took read gives chain =
    let back = onto_back s g members out areas old mid new held kept are among home took read gives in
    let there : IsJoinedTo joining members (backup_areas members (s.areas old)) newest = subst (λ (xs : List AreaState). IsJoinedTo joining members xs newest) back.were chain in
    (back.works, (record { newest = newest; chain = there; holds = member_full joining (s.areas old) members out newest (of_member members areas out are among) there }, back.keeps))

-- ---- of what was lent as a slice

pub onto_out : {S A : Type 0} (s : Sites S A) (g : Vaults A) (names : Names) (old mid : S) (held slice kept : List (Held A)) (len : ℕ) → AreTaken s g names old mid held → slice ≡ held → len ≡ length held → AllOnlyRead g slice kept → AreOut g (s.areas mid) (take len (kept ++ drop (length kept) held))
onto_out {A = A} s g names old mid held slice kept len took lent counts read =
    let there : AllOnlyRead g held kept = subst (λ (xs : List (Held A)). AllOnlyRead g xs kept) lent read in
    subst (λ (xs : List (Held A)). AreOut g (s.areas mid) xs) (sym (lent_back len held kept counts (reads_length g held kept there)))
    (out_later g (s.areas mid) held kept took.out (read_later g held kept there))

pub onto_count : {S A : Type 0} (s : Sites S A) (g : Vaults A) (names : Names) (old mid : S) (held slice : List (Held A)) → AreTaken s g names old mid held → slice ≡ held → length slice ≡ length names
onto_count {A = A} s g names old mid held slice took lent = ap (λ (xs : List (Held A)). length xs) lent ∙ sym (areas_length g (s.areas old) names held took.areas)

pub onto_refused_by : {S A : Type 0} (s : Sites S A) (g : Vaults A) (joining : Joining) (when : ℕ) (members : Names) (out : List ℕ) (areas : MemberAreas) (old mid new : S) (held slice kept back : List (Held A)) (ps : List ℕ) (len : ℕ) (fault : MembersFault) → AreMemberAreas members areas → IsOneOf out areas.names.items → AllHome (s.areas old)
    → AreTaken s g areas.names.items old mid held → slice ≡ held → ps ≡ areas.places.items → len ≡ length held → AllOnlyRead g slice kept → back ≡ take len (kept ++ drop (length kept) held) → GivesBack s g back mid new → RefusesMembers g joining members ps slice kept fault → Combined s joining when members out old new (Err (combine.Members fault))
onto_refused_by {A = A} s g joining when members out areas old mid new held slice kept back ps len fault are among home took lent placed counts read written gives refused =
    let there : AllOnlyRead g held kept = subst (λ (xs : List (Held A)). AllOnlyRead g xs kept) lent read in
    onto_refused s g joining when members out areas old mid new held kept fault are among home took there
    (subst (λ (xs : List (Held A)). GivesBack s g xs mid new) (written ∙ lent_back len held kept counts (reads_length g held kept there)) gives)
    (subst (λ (qs : List ℕ). RefusesMembers g joining members qs held kept fault) placed (subst (λ (xs : List (Held A)). RefusesMembers g joining members ps xs kept fault) lent refused))

pub onto_full_by : {S A : Type 0} (s : Sites S A) (g : Vaults A) (joining : Joining) (when : ℕ) (members : Names) (out : List ℕ) (areas : MemberAreas) (old mid new : S) (held slice kept back : List (Held A)) (ps : List ℕ) (len : ℕ) (newest : Member) → AreMemberAreas members areas → IsOneOf out areas.names.items → AllHome (s.areas old)
    → AreTaken s g areas.names.items old mid held → slice ≡ held → ps ≡ areas.places.items → len ≡ length held → AllOnlyRead g slice kept → back ≡ take len (kept ++ drop (length kept) held) → GivesBack s g back mid new → IsJoinedTo joining members (areas_at g slice ps) newest → Combined s joining when members out old new (Err combine.NotEmpty)
onto_full_by {A = A} s g joining when members out areas old mid new held slice kept back ps len newest are among home took lent placed counts read written gives chain =
    let there : AllOnlyRead g held kept = subst (λ (xs : List (Held A)). AllOnlyRead g xs kept) lent read in
    onto_full s g joining when members out areas old mid new held kept newest are among home took there
    (subst (λ (xs : List (Held A)). GivesBack s g xs mid new) (written ∙ lent_back len held kept counts (reads_length g held kept there)) gives)
    (subst (λ (qs : List ℕ). IsJoinedTo joining members (areas_at g held qs) newest) placed (subst (λ (xs : List (Held A)). IsJoinedTo joining members (areas_at g xs ps) newest) lent chain))
