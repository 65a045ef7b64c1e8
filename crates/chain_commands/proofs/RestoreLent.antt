-- The areas of a restore, taken from a site and given back.
use Rattle.std.proofs.Common.{◌≡◌, ℕ, ◌≤◌, List, [], ◌∷◌, ◌++◌, length, take, drop, Option, Ok, Err, refl, sym, ap, subst, ◌∙◌, inl, inr}
use Rattle.std.proofs.lemmas.List.{append_assoc}
use Rattle.lsn_core.specs.declared.lsn.Lsn.{Lsn}
use Rattle.vault.specs.declared.area.Vault.{Ghosts as Vaults}
use Rattle.vault.specs.declared.site.Site.{Ghosts as Sites}
use Rattle.vault.specs.declared.lending.Held.{Held}
use Rattle.vault.specs.declared.lending.TakeFault.{TakeFault}
use Rattle.vault.specs.Frame.{OnlyReads}
use Rattle.vault.specs.Site.{AreaState, Areas, AllHome, state_in}
use Rattle.vault.specs.Lending.{Names, AreLater, WritesAmong, AreOut, AreTaken, NoneTaken, GivesBack}
use Rattle.chain_check.specs.Chain.{most_members}
use Rattle.chain_files.specs.Told.{AllOnlyRead}
use Rattle.chain_files.proofs.Told.{reads_length}
use Rattle.command_base.specs.Areas.{wal_name, output_name}
use Rattle.command_base.specs.Outside.{of_site, Untakens, IsUntaken}
use Rattle.command_base.proofs.Lent.{none_written, reads_still, still_at}
use Rattle.chain_commands.specs.declared.chain.MemberAreas.{MemberAreas}
use Rattle.chain_commands.specs.declared.restoring.RestoreFault.TheVariants as restore
use Rattle.chain_commands.specs.Chain.{backup_areas}
use Rattle.chain_commands.specs.Restore.{RestoreSeen, RestoreResult, RestoreAnswer, RestoreDoes, restore_seen, restore_asks}
use Rattle.command_base.specs.Outside.{Never}
use Rattle.chain_commands.specs.Inner.{AreMemberAreas, areas_at, restore_seen_in, AnswersRestore}
use Rattle.chain_commands.proofs.ChainAreas.{chain_back, chain_writes, chain_untaken, areas_site, Lends, lends, counted, taken_as, rest_out, members_out_of, lent_back}

abbrev pub held_as : {A : Type 0} → List ℕ → A → Held A
held_as name area = record { name = name; area = area }

abbrev seen_as : AreaState → List AreaState → AreaState → RestoreSeen
seen_as wal members out = record { wal = wal; members = members; out = out }

seen_same : (w x : AreaState) (ms ns : List AreaState) (o p : AreaState) → w ≡ x → ms ≡ ns → o ≡ p → seen_as w ms o ≡ seen_as x ns p
seen_same w x ms ns o p a b c =
    ap (λ (y : AreaState). seen_as y ms o) a ∙ ap (λ (ys : List AreaState). seen_as x ys o) b ∙ ap (λ (y : AreaState). seen_as x ns y) c

-- an answer that doesn't tell of an area that wasn't handed out
whatever_untaken : (upto : Option Lsn) (names : Names) (U : Untakens) (old new : RestoreSeen) (r : RestoreResult) → RestoreAnswer upto names Never old new r → RestoreAnswer upto names U old new r
whatever_untaken upto names U old new (Ok report) is = is
whatever_untaken upto names U old new (Err (restore.Site fault)) is = absurd is
whatever_untaken upto names U old new (Err (restore.Members fault)) is = is
whatever_untaken upto names U old new (Err (restore.Early target end)) is = is
whatever_untaken upto names U old new (Err restore.NotEmpty) is = is
whatever_untaken upto names U old new (Err (restore.Wal why)) is = is
whatever_untaken upto names U old new (Err (restore.Backup place why)) is = is
whatever_untaken upto names U old new (Err (restore.Out why)) is = is

abbrev pub beside : List ℕ → Names
beside out = wal_name ∷ (output_name out ∷ [])

-- the names that are taken, and what is taken by them
pub all_names : (front : Names) (names : Names) (out : List ℕ) → names ≡ (front ++ wal_name ∷ []) ++ output_name out ∷ [] → names ≡ front ++ beside out
all_names front names out is = is ∙ append_assoc front (wal_name ∷ []) (output_name out ∷ [])

pub all_held : {A : Type 0} (taken first held : List (Held A)) (wal out : Held A) → taken ≡ first ++ out ∷ [] → first ≡ held ++ wal ∷ [] → taken ≡ held ++ (wal ∷ (out ∷ []))
all_held taken first held wal out a b = a ∙ ap (λ (xs : List (Held _)). xs ++ out ∷ []) b ∙ append_assoc held (wal ∷ []) (out ∷ [])

-- no area was taken
pub restore_untaken : {S A : Type 0} (s : Sites S A) (upto : Option Lsn) (members : Names) (out : List ℕ) (areas : MemberAreas) (names : Names) (old new : S) (fault : TakeFault) → AreMemberAreas members areas
    → names ≡ (areas.names.items ++ wal_name ∷ []) ++ output_name out ∷ [] → AllHome (s.areas old) → NoneTaken s names old new fault → RestoreDoes upto out members (of_site s old) (of_site s new) (Err (restore.Site fault))
restore_untaken s upto members out areas names old new fault are is home none =
    let there : NoneTaken s (areas.names.items ++ beside out) old new fault = subst (λ (ns : Names). NoneTaken s ns old new fault) (all_names areas.names.items names out is) none in
    let untaken = chain_untaken s members (beside out) areas old new fault are there in
    ((subst (λ (a : Areas). WritesAmong (output_name out ∷ []) (s.areas old) a) (sym none.areas) (none_written (output_name out ∷ []) (s.areas old) home), none.cause.later), untaken)

pub restore_lent : {S A : Type 0} (s : Sites S A) (g : Vaults A) (upto : Option Lsn) (members : Names) (out : List ℕ) (areas : MemberAreas) (names : Names) (old mid then new : S) (taken first held kept : List (Held A)) (wal to : Held A) (wal_now to_now : A) (r : RestoreResult)
    → AreMemberAreas members areas → names ≡ (areas.names.items ++ wal_name ∷ []) ++ output_name out ∷ [] → taken ≡ first ++ to ∷ [] → first ≡ held ++ wal ∷ [] → AllHome (s.areas old) → AreTaken s g names old mid taken
    → OnlyReads g wal.area wal_now → AllOnlyRead g held kept → g.faults to.area ≤ g.faults to_now
    → GivesBack s g (held_as wal.name wal_now ∷ (held_as to.name to_now ∷ [])) mid then → GivesBack s g kept then new
    → AnswersRestore g upto members areas.places.items wal.area held to.area wal_now kept to_now r → RestoreDoes upto out members (of_site s old) (of_site s new) r
restore_lent {A = A} s g upto members out areas names old mid then new taken first held kept wal to wal_now to_now r are named last before home took wal_read read later gives_two gives_all answer =
    let rest : List (Held A) = wal ∷ (to ∷ []) in
    let now : List (Held A) = held_as wal.name wal_now ∷ (held_as to.name to_now ∷ []) in
    let there : AreTaken s g (areas.names.items ++ beside out) old mid (held ++ rest) =
    subst (λ (ns : Names). AreTaken s g ns old mid (held ++ rest)) (all_names areas.names.items names out named)
    (subst (λ (xs : List (Held A)). AreTaken s g names old mid xs) (all_held taken first held wal to last before) took) in
    let rest_later : AreLater g rest now = (refl, wal_read.faults, (refl, later, tt)) in
    let back = chain_back s g areas.names.items (beside out) old mid then new held rest kept now refl home there read rest_later gives_two gives_all in
    let wrote : WritesAmong (output_name out ∷ []) (s.areas old) (s.areas new) = chain_writes s g areas.names.items (beside out) (output_name out ∷ []) old new held rest kept now back read (λ n one none. elim one [
      | inl is ↦ still_at (s.areas old n) (s.areas new n) (state_in g wal.area) (state_in g wal_now) (ap (s.areas old) is ∙ back.more_were.1) (ap (s.areas new) is ∙ back.more_are.1) (reads_still g wal.area wal_now wal_read)
      | inr other ↦ elim other [
        | inl is ↦ absurd (none.0 is)
        | inr never ↦ absurd never
      ]
    ]) in
    let was : restore_seen_in g areas.places.items wal.area held to.area ≡ restore_seen members (output_name out) (of_site s old) =
    seen_same (state_in g wal.area) (s.areas old wal_name) (areas_at g held areas.places.items) (backup_areas members (s.areas old)) (state_in g to.area) (s.areas old (output_name out))
    (sym back.more_were.1) (areas_site g (s.areas old) areas.names.items members held areas.places.items back.were are.stand) (sym back.more_were.2.1) in
    let is : restore_seen_in g areas.places.items wal_now kept to_now ≡ restore_seen members (output_name out) (of_site s new) =
    seen_same (state_in g wal_now) (s.areas new wal_name) (areas_at g kept areas.places.items) (backup_areas members (s.areas new)) (state_in g to_now) (s.areas new (output_name out))
    (sym back.more_are.1) (areas_site g (s.areas new) areas.names.items members kept areas.places.items back.are are.stand) (sym back.more_are.2.1) in
    let U : Untakens = IsUntaken (restore_asks members (output_name out)) (of_site s old) (of_site s new) in
    let there_answer : RestoreAnswer upto members U (restore_seen_in g areas.places.items wal.area held to.area) (restore_seen_in g areas.places.items wal_now kept to_now) r =
    whatever_untaken upto members U (restore_seen_in g areas.places.items wal.area held to.area) (restore_seen_in g areas.places.items wal_now kept to_now) r answer in (
      (wrote, back.later),
      subst (λ (x : RestoreSeen). RestoreAnswer upto members U x (restore_seen members (output_name out) (of_site s new)) r) was
          (subst (λ (x : RestoreSeen). RestoreAnswer upto members U (restore_seen_in g areas.places.items wal.area held to.area) x r) is there_answer),
    )

-- ---- what the calls between ask for, of members' areas that are lent as a slice

pub restore_lends : {S A : Type 0} (s : Sites S A) (g : Vaults A) (members : Names) (out : List ℕ) (areas : MemberAreas) (names : Names) (old mid : S) (taken first held slice : List (Held A)) (wal to : Held A) (ps : List ℕ)
    → AreMemberAreas members areas → 1 ≤ length members → length members ≤ most_members → names ≡ (areas.names.items ++ wal_name ∷ []) ++ output_name out ∷ [] → taken ≡ first ++ to ∷ [] → first ≡ held ++ wal ∷ [] → AreTaken s g names old mid taken
    → slice ≡ held → ps ≡ areas.places.items → Lends members (length slice) ps
restore_lends s g members out areas names old mid taken first held slice wal to ps are some few named last before took lent placed =
    lends members areas (length slice) ps are some few
    (counted s g names areas.names.items (beside out) old mid taken held (wal ∷ (to ∷ [])) slice refl (all_names areas.names.items names out named) (all_held taken first held wal to last before) lent took) placed

taken_so : {S A : Type 0} (s : Sites S A) (g : Vaults A) (out : List ℕ) (areas : MemberAreas) (names : Names) (old mid : S) (taken first held : List (Held A)) (wal to : Held A)
    → names ≡ (areas.names.items ++ wal_name ∷ []) ++ output_name out ∷ [] → taken ≡ first ++ to ∷ [] → first ≡ held ++ wal ∷ [] → AreTaken s g names old mid taken → AreTaken s g (areas.names.items ++ beside out) old mid (held ++ (wal ∷ (to ∷ [])))
taken_so s g out areas names old mid taken first held wal to named last before took =
    taken_as s g names (areas.names.items ++ beside out) old mid taken (held ++ (wal ∷ (to ∷ []))) (all_names areas.names.items names out named) (all_held taken first held wal to last before) took

pub beside_out : {S A : Type 0} (s : Sites S A) (g : Vaults A) (out : List ℕ) (areas : MemberAreas) (names : Names) (old mid : S) (taken first held : List (Held A)) (wal to : Held A) (wal_now to_now : A)
    → names ≡ (areas.names.items ++ wal_name ∷ []) ++ output_name out ∷ [] → taken ≡ first ++ to ∷ [] → first ≡ held ++ wal ∷ [] → AreTaken s g names old mid taken → OnlyReads g wal.area wal_now → g.faults to.area ≤ g.faults to_now
    → AreOut g (s.areas mid) (held_as wal.name wal_now ∷ (held_as to.name to_now ∷ []))
beside_out s g out areas names old mid taken first held wal to wal_now to_now named last before took wal_read later =
    rest_out s g (areas.names.items ++ beside out) old mid held (wal ∷ (to ∷ [])) (held_as wal.name wal_now ∷ (held_as to.name to_now ∷ [])) (taken_so s g out areas names old mid taken first held wal to named last before took) (refl, wal_read.faults, (refl, later, tt))

pub lent_out : {S A : Type 0} (s : Sites S A) (g : Vaults A) (out : List ℕ) (areas : MemberAreas) (names : Names) (old mid then : S) (taken first held slice kept : List (Held A)) (wal to : Held A) (wal_now to_now : A) (len : ℕ)
    → names ≡ (areas.names.items ++ wal_name ∷ []) ++ output_name out ∷ [] → taken ≡ first ++ to ∷ [] → first ≡ held ++ wal ∷ [] → AreTaken s g names old mid taken → slice ≡ held → len ≡ length held → AllOnlyRead g slice kept → OnlyReads g wal.area wal_now → g.faults to.area ≤ g.faults to_now
    → GivesBack s g (held_as wal.name wal_now ∷ (held_as to.name to_now ∷ [])) mid then → AreOut g (s.areas then) (take len (kept ++ drop (length kept) held))
lent_out s g out areas names old mid then taken first held slice kept wal to wal_now to_now len named last before took lent counts read wal_read later gives =
    members_out_of s g (areas.names.items ++ beside out) old mid then held (wal ∷ (to ∷ [])) kept slice (held_as wal.name wal_now ∷ (held_as to.name to_now ∷ [])) len
    (taken_so s g out areas names old mid taken first held wal to named last before took) lent counts read (refl, wal_read.faults, (refl, later, tt)) gives

pub restore_done : {S A : Type 0} (s : Sites S A) (g : Vaults A) (upto : Option Lsn) (members : Names) (out : List ℕ) (areas : MemberAreas) (names : Names) (old mid then new : S) (taken first held slice kept back : List (Held A)) (wal to : Held A) (wal_now to_now : A) (ps : List ℕ) (len : ℕ) (r : RestoreResult)
    → AreMemberAreas members areas → names ≡ (areas.names.items ++ wal_name ∷ []) ++ output_name out ∷ [] → taken ≡ first ++ to ∷ [] → first ≡ held ++ wal ∷ [] → AllHome (s.areas old) → AreTaken s g names old mid taken
    → slice ≡ held → ps ≡ areas.places.items → len ≡ length held → OnlyReads g wal.area wal_now → AllOnlyRead g slice kept → back ≡ take len (kept ++ drop (length kept) held) → g.faults to.area ≤ g.faults to_now
    → GivesBack s g (held_as wal.name wal_now ∷ (held_as to.name to_now ∷ [])) mid then → GivesBack s g back then new
    → AnswersRestore g upto members ps wal.area slice to.area wal_now kept to_now r → RestoreDoes upto out members (of_site s old) (of_site s new) r
restore_done {A = A} s g upto members out areas names old mid then new taken first held slice kept back wal to wal_now to_now ps len r are named last before home took lent placed counts wal_read read written later gives_two gives_all answer =
    let read_there : AllOnlyRead g held kept = subst (λ (xs : List (Held A)). AllOnlyRead g xs kept) lent read in
    let back_is : back ≡ kept = written ∙ lent_back len held kept counts (reads_length g held kept read_there) in
    restore_lent s g upto members out areas names old mid then new taken first held kept wal to wal_now to_now r are named last before home took wal_read read_there later gives_two
    (subst (λ (xs : List (Held A)). GivesBack s g xs then new) back_is gives_all)
    (subst (λ (qs : List ℕ). AnswersRestore g upto members qs wal.area held to.area wal_now kept to_now r) placed (subst (λ (xs : List (Held A)). AnswersRestore g upto members ps wal.area xs to.area wal_now kept to_now r) lent answer))
