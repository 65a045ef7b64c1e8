-- What is restored over a sound copy is what the whole WAL makes.
use Rattle.std.proofs.Common.{◌≡◌, ℕ, ◌≤◌, ◌⊎◌, Bool, true, false, List, [], ◌∷◌, ◌++◌, Option, Some, None, refl, sym, ap, subst, ◌∙◌, inl, inr}
use Rattle.std.specs.Prelude.{nat_le, if◌then◌else◌}
use Rattle.std.proofs.lemmas.Bool.{leb-true}
use Rattle.lsn_core.specs.Files.{Files}
use Rattle.lsn_core.specs.Segment.{StoreSettings}
use Rattle.lsn_core.specs.Tip.{Tip}
use Rattle.lsn_core.specs.declared.lsn.Lsn.{Lsn}
use Rattle.wal_record.specs.declared.record.Record.{Record}
use Rattle.wal_record.specs.Tips.{tip_after}
use Rattle.wal_archive.specs.Rules.{Found, End, Gives}
use Rattle.wal_reader.specs.Wal.{IsWal, IsWalFrom, tip_at}
use Rattle.wal_reader.specs.Wal as wal
use Rattle.wal_reader.specs.Cursor.{found_at}
use Rattle.history.specs.Redo.{redo_all}
use Rattle.history.specs.fuzzy_copies.Orderly.{RecordsRise}
use Rattle.history.proofs.fuzzy_copies.Records.{records_complete}
use Rattle.recovery.specs.Onward.{is_set_behind, found_on, ReadsOn, replayed_to, ending_by}
use Rattle.recovery.proofs.SoFar.{none_set}
use Rattle.backup_restore.specs.Completed.{SoundCopiesAreCompleted, RestoresAreReplays}
use Rattle.wal_reader.proofs.wal_pieces.Onwards.{rest_read}
use Rattle.backup_restore.proofs.Rising.{wal_rises, parted_at, replayed_in, rest_rises, replayed_rest, none_left}

-- ---- what is found up to a target

pub gives_or_end : (f : Found) (r : Record) → f ≡ Gives r → f ≡ End → ⊥
gives_or_end f r a b = (let c : ◌≡◌ {A = Found} End (Gives r) = sym b ∙ a in absurd cc)

pub same_gives : (f : Found) (r q : Record) → f ≡ Gives r → f ≡ Gives q → r ≡ q
same_gives f r q a b = (let c : ◌≡◌ {A = Found} (Gives r) (Gives q) = sym a ∙ b in cc)

gives_before : (reached : Bool) (f : Found) (r : Record) → (if reached then End else f) ≡ Gives r → f ≡ Gives r
gives_before true f r gives = absurd cc
gives_before false f r gives = gives

ends_before : (reached : Bool) (f : Found) → (if reached then End else f) ≡ End → (reached ≡ true) ⊎ (f ≡ End)
ends_before true f ends = inl refl
ends_before false f ends = inr ends

given_there : (s : StoreSettings) (files : Files) (upto : Option Lsn) (set : Bool) (tip : Tip) (r : Record) → found_on s files upto set tip ≡ Gives r → found_at s set tip files ≡ Gives r
given_there s files None set tip r gives = gives
given_there s files (Some target) set tip r gives = gives_before (nat_le target.0 tip.end) (found_at s set tip files) r gives

ended_there : (s : StoreSettings) (files : Files) (upto : Option Lsn) (set : Bool) (tip last : Tip) → found_on s files upto set tip ≡ End → (replayed_to upto last ≤ tip.end) ⊎ (found_at s set tip files ≡ End)
ended_there s files None set tip last ends = inr ends
ended_there s files (Some target) set tip last ends = elim (ends_before (nat_le target.0 tip.end) (found_at s set tip files) ends) [
  | inl reached ↦ inl (leb-true target.0 tip.end reached)
  | inr none ↦ inr none
]

-- ---- a reading up to a target, and the one to the end

pub set_on : (set : Bool) (r : Record) (rs : List Record) → is_set_behind set (r ∷ rs) ≡ is_set_behind false rs
set_on true r rs = refl
set_on false r rs = refl

-- nothing was read, and then this is found
pub found_none : (s : StoreSettings) (files : Files) (upto : Option Lsn) (set : Bool) (tip last : Tip) (f : Found) → last ≡ tip → found_on s files upto (is_set_behind set []) last ≡ f → found_on s files upto set tip ≡ f
found_none s files upto set tip last f none found =
    subst (λ (t : Tip). found_on s files upto set t ≡ f) none (subst (λ b. found_on s files upto b last ≡ f) (none_set set) found)

-- as far as they end by where the replay does, both have the same entries
ending_same : (s : StoreSettings) (files : Files) (upto : Option Lsn) (set : Bool) (tip last end to : Tip) (rs qs : List Record) → ReadsOn s files upto set tip rs last → found_on s files upto (is_set_behind set rs) last ≡ End
    → ReadsOn s files None set tip qs end → found_on s files None (is_set_behind set qs) end ≡ End → RecordsRise tip.end qs → ending_by (replayed_to upto to) rs ≡ ending_by (replayed_to upto to) qs
ending_same s files upto set tip last end to [] [] reads stops walk ends rise = refl
ending_same s files upto set tip last end to [] (q ∷ qs) reads stops walk ends rise = elim (ended_there s files upto set tip to (found_none s files upto set tip last End reads stops)) [
  | inl reached ↦ sym (none_left tip.end (replayed_to upto to) (q ∷ qs) reached rise)
  | inr none ↦ absurd (gives_or_end (found_at s set tip files) q walk.0 none)
]
ending_same s files upto set tip last end to (r ∷ rs) [] reads stops walk ends rise =
    absurd (gives_or_end (found_at s set tip files) r (given_there s files upto set tip r reads.0) (found_none s files None set tip end End walk ends))
ending_same s files upto set tip last end to (r ∷ rs) (q ∷ qs) reads stops walk ends rise =
    let same : q ≡ r = same_gives (found_at s set tip files) q r walk.0 (given_there s files upto set tip r reads.0) in
    let reads_on : ReadsOn s files upto false (tip_after tip q) rs last = subst (λ (x : Record). ReadsOn s files upto false (tip_after tip x) rs last) (sym same) reads.1 in
    let stops_on : found_on s files upto (is_set_behind false rs) last ≡ End = subst (λ b. found_on s files upto b last ≡ End) (set_on set r rs) stops in
    let ends_on : found_on s files None (is_set_behind false qs) end ≡ End = subst (λ b. found_on s files None b end ≡ End) (set_on set q qs) ends in
    let more = ending_same s files upto false (tip_after tip q) last end to rs qs reads_on stops_on walk.1 ends_on rise.3 in
    ap (λ (x : Record). ending_by (replayed_to upto to) (x ∷ rs)) (sym same) ∙ ap (λ (l : List Record). if nat_le q.end.0 (replayed_to upto to) then q ∷ l else l) more

-- what comes from a place on, as a reading without a target
reads_all : (s : StoreSettings) (files : Files) (tip : Tip) (rs : List Record) (last : Tip) → wal.ReadsOn s files tip rs last → ReadsOn s files None false tip rs last
reads_all s files tip [] last walk = walk
reads_all s files tip (r ∷ rs) last walk = (walk.0, reads_all s files (tip_after tip r) rs last walk.1)

-- ---- the laws

pub sound_completed : SoundCopiesAreCompleted
sound_completed s files records entries last tip copy start to upto size whole_wal sound read far =
    let place : ℕ = replayed_to upto tip in
    let parts = parted_at start.0 records sound.starts in
    let rise = wal_rises s files records last size whole_wal in
    let rise_parted = subst (λ (rs : List Record). RecordsRise 0 rs) parts.is rise in
    let rest = rest_read s files parts.older parts.later parts.r last size (subst (λ (rs : List Record). IsWal s files rs last) parts.is whole_wal) in
    let walk = subst (λ (n : ℕ). IsWalFrom s files n (parts.r ∷ parts.later) rest.0) parts.starts rest.1.0 in
    let reads : ReadsOn s files None true (tip_at start.0) (parts.r ∷ parts.later) rest.0 = (walk.walk.0, reads_all s files (tip_after (tip_at start.0) parts.r) parts.later rest.0 walk.walk.1) in
    let rest_rise = subst (λ (n : ℕ). RecordsRise n (parts.r ∷ parts.later)) parts.starts (rest_rises 0 parts.older parts.r parts.later rise_parted) in
    let same : ending_by place entries ≡ ending_by place (parts.r ∷ parts.later) = ending_same s files upto true (tip_at start.0) tip rest.0 tip entries (parts.r ∷ parts.later) read.archive.reads read.archive.behind reads walk.ended rest_rise in
    let replayed : replayed_in start.0 place records ≡ ending_by place (parts.r ∷ parts.later) =
    ap (replayed_in start.0 place) parts.is
    ∙ subst (λ (n : ℕ). replayed_in n place (parts.older ++ (parts.r ∷ parts.later)) ≡ ending_by place (parts.r ∷ parts.later)) parts.starts (replayed_rest 0 place parts.older parts.r parts.later rise_parted) in
    ap (redo_all copy) (same ∙ sym replayed) ∙ records_complete copy records start.0 to place rise sound far

pub restores_replay : RestoresAreReplays
restores_replay s files records entries last tip start to upto chain out replayed made size whole_wal sound read far =
    (sym (sound_completed s files records entries last tip made.copy start to upto size whole_wal sound read far) ∙ made.redone, made.written)
