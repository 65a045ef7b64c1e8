-- What writes of the archive leave: in its files, and at a stop.
use Rattle.std.proofs.Common.{◌≡◌, ℕ, ◌+◌, ◌*◌, ◌/◌, ◌%◌, ◌<◌, ◌≤◌, true, List, [], ◌∷◌, length, Option, Some, None, Result, Ok, Err, OnOk, OnErr, refl, sym, subst, ◌∙◌, arith, inl, inr}
use Rattle.std.proofs.lemmas.Nat.{div-add-mod', mod_below, le-div, div_below}
use Rattle.std.proofs.Math.Nat.{add-mul}
use Rattle.lsn_core.specs.Files.{Files}
use Rattle.lsn_core.specs.Segment.{segment_bytes}
use Rattle.lsn_core.specs.Sizes.{most_segments}
use Rattle.lsn_core.specs.Names.{segment_name_bytes}
use Rattle.lsn_core.specs.declared.fault.AreaFault.{AreaFault}
use Rattle.lsn_core.specs.declared.fault.AreaFault.TheVariants.{Failed, NoMemory}
use Rattle.vault.specs.Area.{Related, IsTorn, Writes, MayTear}
use Rattle.lsn_core.specs.byte_words.Told.{when_told}
use Rattle.vault.specs.Stops.{Event, Made, MayLeave, wrote, synced, noted, Notes, Tries}
use Rattle.vault.specs.Frame.{Each, Adds, AgreeBut, LeavesOnly}
use Rattle.vault.specs.declared.area.Vault.{Ghosts}
use Rattle.vault.proofs.Torn.{written_is_related, same_is_related}
use Rattle.vault.proofs.Through.{adds_by, adds_on, adds_sync, leaves_only}
use Rattle.wal_record.specs.Tips.{first_tip, wal_limit}
use Rattle.wal_archive.specs.Archive.{Archive, is_segment, archive_of}
use Rattle.wal_archive.specs.Writing.{IsLeft}
use Rattle.wal_archive.proofs.Left.{torn_left, left_on}
use Rattle.wal_archive.proofs.Chain.{walks_extended}
use Rattle.wal_archive.proofs.Files.{files_archive}
use Rattle.wal_archive.proofs.Read.{origin_end}
use Rattle.wal_archive.proofs.Writes.{segment_by}
use Rattle.wal_writer.specs.Stops.{IsSegmentFile, IsBetween, WritesBetween, Leaves, Holds, Reads, KeepsArchive, StopsKeepEntries, SettledIsHeld}

-- ---- files that are related

related_map : (P Q : Files → Files → Type 0) (old new : Option Files) → ((m n : Files) → P m n
    → Q m n) → Related P old new → Related Q old new
related_map P Q None None step held = tt
related_map P Q (Some m) (Some n) step held = step m n held
related_map P Q None (Some n) step held = absurd held
related_map P Q (Some m) None step held = absurd held

related_on : (P Q R : Files → Files → Type 0) (old mid new : Option Files) → ((a b c : Files)
    → P a b → Q b c → R a c) → Related P old mid → Related Q mid new → Related R old new
related_on P Q R None None None step one two = tt
related_on P Q R (Some a) (Some b) (Some c) step one two = step a b c one two
related_on P Q R None None (Some c) step one two = absurd two
related_on P Q R None (Some b) c step one two = absurd one
related_on P Q R (Some a) None c step one two = absurd one
related_on P Q R (Some a) (Some b) None step one two = absurd two

related_same : (P : Files → Files → Type 0) (old new : Option Files) → ((m : Files) → P m m)
    → new ≡ old → Related P old new
related_same P None new step e = subst (Related P None) (sym e) tt
related_same P (Some m) new step e = subst (Related P (Some m)) (sym e) (step m)

-- a write, whatever it answers
pub torn_by : {T : Type 0} (name : List ℕ) (at : ℕ) (piece : List ℕ) (old new : Option Files)
    (result : Result T AreaFault)
    → Writes name at piece old new result → (result ≡ Err NoMemory → new ≡ old)
    → MayTear name at piece old new result → Related (IsTorn name at (length piece)) old new
torn_by name at piece old new (Ok done) ok memory failed =
    subst (Related (IsTorn name at (length piece)) old) (sym ok) (written_is_related name at piece
    old)
torn_by name at piece old new (Err NoMemory) ok memory failed =
    subst (Related (IsTorn name at (length piece)) old) (sym (memory refl)) (same_is_related name at
    (length piece) old)
torn_by name at piece old new (Err Failed) ok memory failed = failed refl

-- ---- the archive

left_longer : (a new : Archive) (from fewer count : ℕ) → fewer ≤ count → IsLeft a new from fewer
    → IsLeft a new from count
left_longer a new from fewer count le left = record {
  before = left.before;
  behind = λ x far. left.behind x (omega (arith, far, le));
}

pub leaves_longer : (mib at fewer count : ℕ) (old new : Option Files) → fewer ≤ count
    → Leaves mib at fewer old new → Leaves mib at count old new
leaves_longer mib at fewer count old new le left =
    related_map (λ m n. IsLeft (archive_of mib m) (archive_of mib n) at fewer) (λ m n. IsLeft
    (archive_of mib m) (archive_of mib n) at count) old new (λ m n l. left_longer
    (archive_of mib m) (archive_of mib n) at fewer count le l) left

-- a write behind another one
pub leaves_on : (mib at from count more : ℕ) (old mid new : Option Files) → from ≡ at + count
    → Leaves mib at count old mid → Leaves mib from more mid new → Leaves mib at (count + more) old
    new
leaves_on mib at from count more old mid new e one two =
    related_on (λ m n. IsLeft (archive_of mib m) (archive_of mib n) at count) (λ m n. IsLeft
    (archive_of mib m) (archive_of mib n) from more) (λ m n. IsLeft (archive_of mib m)
    (archive_of mib n) at (count + more)) old mid new
    (λ a b c l r. left_on (archive_of mib a) (archive_of mib b) (archive_of mib c) at count more l
    (subst (λ k. IsLeft (archive_of mib b) (archive_of mib c) k more) e r)) one two

-- ---- frames

-- between two places is between wider ones
pub frame_wider : {V : Type 0} (g : Ghosts V) (mib at from till end : ℕ) (x y : V) → at ≤ from
    → till ≤ end → WritesBetween g mib from till x y → WritesBetween g mib at end x y
frame_wider g mib at from till end x y low high one = record {
  files = related_map (AgreeBut (IsSegmentFile mib from till)) (AgreeBut (IsSegmentFile mib at end))
      (g.files x) (g.files y) (λ a b r. (λ q out. r q (λ i. out (wider q i)))) one.files;
  past = record {
    events = one.past.events;
    each = each_wider one.past.events one.past.each;
    past = one.past.past;
  };
  faults = one.faults;
}
  where
    wider : (q : List ℕ) → IsSegmentFile mib from till q → IsSegmentFile mib at end q
    wider q i = record {
      seg = i.seg;
      there = i.there;
      behind = omega (arith, i.behind, low);
      before = omega (arith, i.before, high);
      named = i.named;
    }

    event_wider : (event : Event) → IsBetween mib from till event → IsBetween mib at end event
    event_wider (inl w) i = record {
      seg = i.seg;
      there = i.there;
      named = i.named;
      behind = omega (arith, i.behind, low);
      before = omega (arith, i.before, high);
      within = omega (arith, i.within, high);
    }
    event_wider (inr (inl k)) i = absurd i
    event_wider (inr (inr (inl name))) i = absurd i
    event_wider (inr (inr (inr files))) i = tt

    each_wider : (events : List Event) → Each (IsBetween mib from till) events
        → Each (IsBetween mib at end) events
    each_wider [] e = tt
    each_wider (x ∷ xs) e = (event_wider x e.0, each_wider xs e.1)

pub frame_on : {V : Type 0} (g : Ghosts V) (mib at end : ℕ) (x y z : V)
    → WritesBetween g mib at end x y → WritesBetween g mib at end y z
    → WritesBetween g mib at end x z
frame_on g mib at end x y z one two = record {
  files = related_on (AgreeBut (IsSegmentFile mib at end)) (AgreeBut (IsSegmentFile mib at end))
      (AgreeBut (IsSegmentFile mib at end)) (g.files x) (g.files y) (g.files z)
      (λ a b c l r. (λ q out. r q out ∙ l q out)) one.files two.files;
  past = adds_on (IsBetween mib at end) (g.past x) (g.past y) (g.past z) one.past two.past;
  faults = omega (arith, one.faults, two.faults);
}

pub frame_sync : {T : Type 0} {V : Type 0} (g : Ghosts V) (mib at end : ℕ) (x y : V)
    (result : Result T AreaFault) → g.files y ≡ g.files x
    → OnOk result (g.past y ≡ noted (synced (g.files x)) (g.past x))
    → OnErr result (g.past y ≡ g.past x) → g.faults x ≤ g.faults y
    → WritesBetween g mib at end x y
frame_sync g mib at end x y result files ok err faults = record {
  files = related_same (AgreeBut (IsSegmentFile mib at end)) (g.files x) (g.files y)
      (λ m q out. refl) files;
  past = adds_sync (IsBetween mib at end) (g.files x) (g.past x) (g.past y) result tt ok err;
  faults = faults;
}

-- ---- a piece

-- the segment of a place of the archive, and the place in it
pub record IsSegmentPlace (mib at : ℕ) : Type 0 where
  pub there : is_segment (at / segment_bytes mib) ≡ true
  pub whole : at ≡ at / segment_bytes mib * segment_bytes mib + at % segment_bytes mib
  pub behind : at < (at / segment_bytes mib + 1) * segment_bytes mib

pub segment_place : (mib at : ℕ) → 1 ≤ mib → segment_bytes mib ≤ at → at < wal_limit mib
    → IsSegmentPlace mib at
segment_place mib at some least most =
    let s : ℕ = at / segment_bytes mib in
    let d : s * segment_bytes mib + at % segment_bytes mib ≡ at = div-add-mod' at
    (segment_bytes mib) in
    let lt : at % segment_bytes mib < segment_bytes mib = mod_below at (segment_bytes mib)
    (omega (arith, some)) in
    let lo : 1 ≤ s = le-div 1 at (segment_bytes mib) (omega (arith, some)) (omega (arith, least)) in
    let hi : s < most_segments + 1 = div_below at (segment_bytes mib) (most_segments + 1)
    (omega (arith, some)) (omega (arith, most)) in
    let more : (s + 1) * segment_bytes mib ≡ s * segment_bytes mib + 1 * segment_bytes mib =
    add-mul s 1 (segment_bytes mib) in
    record {
      there = segment_by s lo (omega (arith, hi));
      whole = sym d;
      behind = omega (arith, more, d, lt);
    }

pub piece_leaves : (mib at count : ℕ) (name : List ℕ) (place : ℕ) (old new : Option Files) → 1 ≤ mib
    → IsSegmentPlace mib at → name ≡ segment_name_bytes (at / segment_bytes mib) mib
    → place ≡ at % segment_bytes mib → Related (IsTorn name place count) old new
    → Leaves mib at count old new
piece_leaves mib at count name place old new some is named there torn =
    related_map (IsTorn name place count) (λ m n. IsLeft (archive_of mib m) (archive_of mib n) at
    count) old new
    (λ m n t. torn_left mib m n (at / segment_bytes mib) (at % segment_bytes mib) count at some
    is.there is.whole (subst (λ k. IsTorn k (at % segment_bytes mib) count m n) named
    (subst (λ k. IsTorn name k count m n) there t))) torn

pub piece_frame : {T : Type 0} {V : Type 0} (g : Ghosts V) (mib at : ℕ) (name : List ℕ) (place : ℕ)
    (piece : List ℕ) (x y : V) (result : Result T AreaFault) → IsSegmentPlace mib at
    → name ≡ segment_name_bytes (at / segment_bytes mib) mib → place ≡ at % segment_bytes mib
    → 0 < length piece → Related (IsTorn name place (length piece)) (g.files x) (g.files y)
    → Notes (wrote name place piece) (g.past x) (g.past y) result
    → Tries (wrote name place piece) (g.past x) (g.past y) result → g.faults x ≤ g.faults y
    → WritesBetween g mib at (at + length piece) x y
piece_frame g mib at name place piece x y result is named there some torn ok err faults = record {
  files = related_map (IsTorn name place (length piece))
      (AgreeBut (IsSegmentFile mib at (at + length piece))) (g.files x) (g.files y)
      (λ m n t. (λ q out. t.others q (λ e. out (record {
        seg = at / segment_bytes mib;
        there = is.there;
        behind = is.behind;
        before = omega (arith, is.whole, some);
        named = e ∙ named;
      })))) torn;
  past = adds_by (IsBetween mib at (at + length piece)) (wrote name place piece) (g.past x)
      (g.past y) result (record {
        seg = at / segment_bytes mib;
        there = is.there;
        named = named;
        behind = omega (arith, is.whole, there);
        before = omega (arith, is.whole, some);
        within = omega (arith, is.whole, there);
      }) ok err;
  faults = faults;
}

-- ---- stops

-- a write at or behind a place keeps what is held of the archive before it
held_on : (mib at end : ℕ) (a : Archive) → 1 ≤ mib → (event : Event) (d c : Files)
    → IsBetween mib at end event → Holds mib a at d → Made event d c → Holds mib a at c
held_on mib at end a some (inl w) d c is held made =
    let torn = subst (λ k. IsTorn k w.1.0 (length w.1.1) d c) is.named made in
    let left = torn_left mib d c is.seg w.1.0 (length w.1.1) (is.seg * segment_bytes mib + w.1.0)
    some is.there refl torn in
    λ x b lt there. left.before x b (omega (arith, lt, is.behind)) (held x b lt there)
held_on mib at end a some (inr (inl k)) d c is held made = absurd is
held_on mib at end a some (inr (inr (inl q))) d c is held made = absurd is
held_on mib at end a some (inr (inr (inr None))) d c is held made =
    subst (Holds mib a at) (sym made) held
held_on mib at end a some (inr (inr (inr (Some files)))) d c is held made =
    subst (Holds mib a at) (sym made.0) held

pub keeps_archive : (mib at end : ℕ) (x y : Option (List Event)) → 1 ≤ mib
    → Adds (IsBetween mib at end) x y → KeepsArchive mib at x y
keeps_archive mib at end x y some adds a here =
    leaves_only (Holds mib a at) (IsBetween mib at end) x y (held_on mib at end a some) adds here

-- ---- entries

leaves_map : (P Q : Files → Type 0) (old new : Option (List Event)) → ((c : Files) → P c → Q c)
    → LeavesOnly P old new → LeavesOnly Q old new
leaves_map P Q None None step left = tt
leaves_map P Q (Some old) (Some new) step left = (
  λ c might. step c (left.0 c might),
  λ c may. step c (left.1 c may),
)
leaves_map P Q None (Some new) step left = absurd left
leaves_map P Q (Some old) None step left = absurd left

pub entries_kept : StopsKeepEntries
entries_kept judge mib system a rs tip old new fair some walk here keeps =
    leaves_map (Holds mib a tip.end) (Reads judge mib system rs tip) old new
    (λ c held. walks_extended judge mib system a (archive_of mib c) (first_tip mib) rs tip some fair
    (files_archive mib c some) (origin_end mib) held walk) (keeps a here)

pub settled_held : SettledIsHeld
settled_held mib at files past settled =
    when_told past (λ events. (c : Files) → MayLeave events c → c ≡ files) (λ events. (c : Files)
    → MayLeave events c → Holds mib (archive_of mib files) at c)
    (λ events same c may. subst (Holds mib (archive_of mib files) at) (sym (same c may))
    (λ x b lt held. held)) settled
