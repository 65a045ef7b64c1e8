-- The members of a chain, found one behind the other.
use Rattle.std.proofs.Common.{◌≡◌, ℕ, zero, suc, ◌+◌, ◌<◌, ◌≤◌, List, [], ◌∷◌, ◌++◌, length, get_or, set, map, take, Option, Some, IfSome, Result, Ok, Err, refl, sym, ap, subst, arith}
use Rattle.std.specs.Prelude.{slice_get}
use Rattle.std.proofs.lemmas.List.{take_all, length-map}
use Rattle.std.proofs.lemmas.Option.{slice_get-get_or}
use Rattle.lsn_core.specs.Files.{Files}
use Rattle.lsn_core.specs.Causes.{Rose}
use Rattle.vault.specs.declared.area.Vault.{Ghosts}
use Rattle.vault.specs.declared.lending.Held.{Held}
use Rattle.vault.specs.Lending.{Names}
use Rattle.vault.specs.Site.{AreaState}
use Rattle.chain_check.specs.Chain.{most_members}
use Rattle.chain_check.specs.Directory.{IsAsListed}
use Rattle.chain_check.specs.Refusals.{HasRefusal, DirAnswer, RefusesRisen}
use Rattle.chain_check.specs.declared.fault.ChainFault.TheVariants.{Failed}
use Rattle.chain_check.specs.declared.member.Member.{Member}
use Rattle.chain_check.specs.declared.refusal.Refusal.{Refusal}
use Rattle.chain_files.specs.Told.{AllOnlyRead, ArePlaces}
use Rattle.chain_files.proofs.Told.{reads_told_at, reads_faults, told_here, faults_here, faults_set}
use Rattle.chain_commands.specs.Chain.{IsMemberIn, AreMembersIn, IsFirstRefused}
use Rattle.chain_commands.specs.Verify.{DirectoryRefused}
use Rattle.chain_commands.specs.Inner.{area_at, areas_at, AnswersMember}
use Rattle.chain_commands.proofs.MemberAreas.{take_one}

-- ---- one member more

pub members_push : (names : Names) (areas : List AreaState) (members : List Member) (name : List ℕ) (area : AreaState) (member : Member) → AreMembersIn names areas members → IsMemberIn name area member → AreMembersIn (names ++ name ∷ []) (areas ++ area ∷ []) (members ++ member ∷ [])
members_push [] [] [] name area member are is = (is, tt)
members_push [] [] (m ∷ members) name area member are is = absurd are
members_push [] (a ∷ areas) members name area member are is = absurd are
members_push (n ∷ names) [] members name area member are is = absurd are
members_push (n ∷ names) (a ∷ areas) [] name area member are is = absurd are
members_push (n ∷ names) (a ∷ areas) (m ∷ members) name area member are is = (are.0, members_push names areas members name area member are.1 is)

pub members_length : (names : Names) (areas : List AreaState) (members : List Member) → AreMembersIn names areas members → length members ≡ length names
members_length [] [] [] are = refl
members_length [] [] (m ∷ members) are = absurd are
members_length [] (a ∷ areas) members are = absurd are
members_length (n ∷ names) [] members are = absurd are
members_length (n ∷ names) (a ∷ areas) [] are = absurd are
members_length (n ∷ names) (a ∷ areas) (m ∷ members) are = ap suc (members_length names areas members are.1)

-- ---- the areas of places

get_mapped : {A B : Type 0} (f : A → B) (xs : List A) (i : ℕ) (x : A) → slice_get xs i ≡ Some x → slice_get (map f xs) i ≡ Some (f x)
get_mapped f [] i x e = absurd cc
get_mapped f (y ∷ xs) zero x e = (let same : y ≡ x = cc in ap (λ z. Some (f z)) same)
get_mapped f (y ∷ xs) (suc i) x e = get_mapped f xs i x e

module _ {V : Type 0} (g : Ghosts V) where
  -- the area of a place that was read holds the same member
  pub same_member : (name : List ℕ) (place : ℕ) (old mid : List (Held V)) (member : Member) → AllOnlyRead g old mid → IsMemberIn name (area_at g mid place) member → IsMemberIn name (area_at g old place) member
  same_member name place old mid member read is =
      subst (λ (o : Option Files). IfSome o (λ files. (member.name ≡ name) × IsAsListed files member)) (reads_told_at g old mid read place) is

  -- and is refused for the same
  pub same_refused : (place : ℕ) (old mid new : List (Held V)) (refusal : Refusal) → AllOnlyRead g old mid → DirectoryRefused (area_at g mid place) (area_at g new place) refusal → DirectoryRefused (area_at g old place) (area_at g new place) refusal
  same_refused place old mid new refusal read is = record {
    refused = subst (λ (o : Option Files). IfSome o (λ files. HasRefusal files refusal)) (reads_told_at g old mid read place) is.refused;
    failed = λ failed. (let rose = is.failed failed in let before = reads_faults g old mid read place in omega (arith, rose, before));
  }

  -- ---- the members so far

  pub one_more : (names : Names) (places : List ℕ) (old mid : List (Held V)) (members : List Member) (at next place : ℕ) (name : List ℕ) (member : Member)
      → next ≡ at + 1 → slice_get names at ≡ Some name → slice_get places at ≡ Some place → AllOnlyRead g old mid
      → AreMembersIn (take at names) (take at (areas_at g old places)) members → IsMemberIn name (area_at g mid place) member
      → AreMembersIn (take next names) (take next (areas_at g old places)) (members ++ member ∷ [])
  one_more names places old mid members at next place name member is named placed read are more =
      subst (λ (ns : Names). AreMembersIn ns (take next (areas_at g old places)) (members ++ member ∷ [])) (sym (take_one names at next name is named))
      (subst (λ (xs : List AreaState). AreMembersIn (take at names ++ name ∷ []) xs (members ++ member ∷ []))
      (sym (take_one (areas_at g old places) at next (area_at g old place) is (get_mapped (area_at g old) places at place placed)))
      (members_push (take at names) (take at (areas_at g old places)) members name (area_at g old place) member are (same_member name place old mid member read more)))

  pub first_refused : (names : Names) (places : List ℕ) (old mid new : List (Held V)) (members : List Member) (at place : ℕ) (refusal : Refusal)
      → length names ≤ most_members → slice_get places at ≡ Some place → AllOnlyRead g old mid
      → AreMembersIn (take at names) (take at (areas_at g old places)) members → DirectoryRefused (area_at g mid place) (area_at g new place) refusal
      → IsFirstRefused names (areas_at g old places) (areas_at g new places) at refusal
  first_refused names places old mid new members at place refusal few placed read are refused = record {
    few = few;
    before = members;
    are = are;
    was = area_at g old place;
    there = get_mapped (area_at g old) places at place placed;
    now = area_at g new place;
    is = get_mapped (area_at g new) places at place placed;
    refused = same_refused place old mid new refusal read refused;
  }

  -- ---- one directory

  pub member_here : (areas : List (Held V)) (place : ℕ) (d : Held V) (name : List ℕ) (member : Member) → place < length areas
      → IfSome (g.files (get_or areas place d).area) (λ files. (member.name ≡ name) × IsAsListed files member) → IsMemberIn name (area_at g areas place) member
  member_here areas place d name member lt is =
      subst (λ (o : Option Files). IfSome o (λ files. (member.name ≡ name) × IsAsListed files member)) (sym (told_here g areas place d lt)) is

  pub refused_here : (areas : List (Held V)) (place : ℕ) (d now : Held V) (refusal : Refusal) → place < length areas → IfSome (g.files (get_or areas place d).area) (λ files. HasRefusal files refusal)
      → (refusal.fault ≡ Failed → Rose (g.faults (get_or areas place d).area) (g.faults now.area)) → DirectoryRefused (area_at g areas place) (area_at g (set areas place now) place) refusal
  refused_here areas place d now refusal lt is failed = record {
    refused = subst (λ (o : Option Files). IfSome o (λ files. HasRefusal files refusal)) (sym (told_here g areas place d lt)) is;
    failed = λ e. (let rose = failed e in omega (arith, rose, faults_here g areas place d lt, faults_set g areas place now lt));
  }

  -- what is answered of it
  pub answered_here : (areas : List (Held V)) (place : ℕ) (d now : Held V) (name : List ℕ) (r : Result Member Refusal) → place < length areas → IfSome (g.files (get_or areas place d).area) (λ m. DirAnswer m name r)
      → RefusesRisen (g.faults (get_or areas place d).area) (g.faults now.area) r → AnswersMember g name place areas (set areas place now) r
  answered_here areas place d now name (Ok member) lt is risen = member_here areas place d name member lt is
  answered_here areas place d now name (Err refusal) lt is risen = refused_here areas place d now refusal lt (only_refused (g.files (get_or areas place d).area) is) risen
    where
      only_refused : (o : Option Files) → IfSome o (λ m. HasRefusal m refusal) → IfSome o (λ m. HasRefusal m refusal)
      only_refused o h = h

-- ---- the loop over the members

pub none_found : (members : List Member) → members ≡ [] → AreMembersIn [] [] members
none_found members none = subst (λ (ms : List Member). AreMembersIn [] [] ms) (sym none) tt

pub placed_at : (places : List ℕ) (at d : ℕ) → at < length places → slice_get places at ≡ Some (get_or places at d)
placed_at places at d lt = slice_get-get_or places at d lt

pub place_there : {A : Type 0} (places : List ℕ) (areas : List A) (at : ℕ) → at < length places → ArePlaces (length areas) places → get_or places at 0 < length areas
place_there [] areas at lt are = absurd (omega (arith, lt))
place_there (p ∷ places) areas zero lt are = are.0
place_there (p ∷ places) areas (suc at) lt are = place_there places areas at (omega (arith, lt)) are.1

module _ {V : Type 0} (g : Ghosts V) where
  pub all_found : (names : Names) (places : List ℕ) (old mid : List (Held V)) (members more : List Member) (at : ℕ) (name : List ℕ) (member : Member) → length names ≡ length places → at < length names
      → slice_get names at ≡ Some name → AllOnlyRead g old mid → AreMembersIn (take at names) (take at (areas_at g old places)) members → IsMemberIn name (area_at g mid (get_or places at 0)) member → more ≡ members ++ member ∷ []
      → AreMembersIn (take (at + 1) names) (take (at + 1) (areas_at g old places)) more
  all_found names places old mid members more at name member each lt named read are is pushed =
      subst (λ (ms : List Member). AreMembersIn (take (at + 1) names) (take (at + 1) (areas_at g old places)) ms) (sym pushed)
      (one_more g names places old mid members at (at + 1) (get_or places at 0) name member refl named (placed_at places at 0 (omega (arith, lt, each))) read are is)

  -- none is left
  pub past_all : (names : Names) (places : List ℕ) (old : List (Held V)) (members : List Member) (at : ℕ) → length names ≡ length places → length names ≤ at → AreMembersIn (take at names) (take at (areas_at g old places)) members → AreMembersIn names (areas_at g old places) members
  past_all names places old members at each past are =
      subst (λ (ns : Names). AreMembersIn ns (areas_at g old places) members) (take_all at names past)
      (subst (λ (xs : List AreaState). AreMembersIn (take at names) xs members) (take_all at (areas_at g old places) (omega (arith, past, each, length-map places (area_at g old)))) are)
