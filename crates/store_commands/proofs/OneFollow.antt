-- What following an input comes to has one answer.
use Rattle.std.proofs.Common.{◌≡◌, ℕ, List, [], ◌∷◌, map, true, Some, None, IsSome, Result, Ok, Err, refl, sym, ap, subst, ◌∙◌, arith}
use Rattle.std.specs.FinMap.{empty, len}
use Rattle.std.proofs.lemmas.List.{take_all}
use Rattle.lsn_core.specs.Files.{Files}
use Rattle.lsn_core.specs.Segment.{StoreSettings}
use Rattle.lsn_core.specs.Store.{Store}
use Rattle.lsn_core.specs.Tip.{Tip}
use Rattle.lsn_core.specs.declared.lsn.Lsn.{Lsn}
use Rattle.vault.specs.declared.lending.TakeFault.{TakeFault}
use Rattle.wal_record.specs.declared.record.Record.{Record}
use Rattle.wal_record.specs.Tips.{first_tip, tip_after}
use Rattle.wal_archive.specs.Rules.{Found, End, Gives, Bad}
use Rattle.wal_archive.specs.declared.fault.Damage.{Damage}
use Rattle.wal_reader.specs.Wal.{stands_behind, ReadsOn, IsWal}
use Rattle.wal_reader.proofs.OneReading.{ends_or_is_damaged, one_damage}
use Rattle.history.specs.Apply.{apply, apply_all}
use Rattle.history.specs.Pages.{page_count}
use Rattle.history.specs.Whole.{entry_of}
use Rattle.recovery.specs.declared.replaying.ReadWal.{ReadWal}
use Rattle.recovery.specs.declared.fault.RecoveryFault.{RecoveryFault}
use Rattle.recovery.specs.declared.fault.RecoveryFault.TheVariants as wal
use Rattle.recovery.specs.Replay.{Reads, IsReadWal}
use Rattle.recovery.proofs.OneWal.{one_read}
use Rattle.recovery.proofs.SoFar.{all_kept}
use Rattle.stream_laws.specs.Streams.{stream_files}
use Rattle.stream_laws.specs.Waiting.{IsCutShort}
use Rattle.follow_laws.specs.Followed.{stream_settings, behind_in, AwaitsMore, IsFollowed, Unfollowed, BadDelta, RefusesFound}
use Rattle.follow_laws.specs.Followed as law
use Rattle.follow_laws.proofs.Apart.{one_walk, followed_or_refused, refused_in_one_way}
use Rattle.follow_command.specs.Input.{most_input}
use Rattle.follow_command.specs.Followed.{followed, IsReadStream, IsDamagedStream, IsLongStream}
use Rattle.command_base.specs.Areas.{output_name}
use Rattle.command_base.specs.Faults.{wal_status}
use Rattle.command_base.specs.Outside.{IsUntaken}
use Rattle.command_base.proofs.Told.{some_told, at_told}
use Rattle.vault.specs.Site.{AreaState}
use Rattle.store_commands.specs.declared.replaying.ReplayReport.{ReplayReport}
use Rattle.store_commands.specs.declared.follow_stream.FollowFault.{FollowFault}
use Rattle.store_commands.specs.declared.follow_stream.FollowFault.TheVariants as follow
use Rattle.store_commands.specs.Follow.{FollowSeen, FollowDone, FollowAnswer, IsUnfollowed, follow_seen, follow_status}
use Rattle.command_base.specs.Decided.{is_decided}
use Rattle.store_commands.specs.Laws.{HasOneFollow}
use Rattle.command_base.proofs.Decided.{clear_or_not, undecided}
use Rattle.store_commands.proofs.OneReplay.{same_parts}

-- ---- what is found

bad_or_gives : (f : Found) (d : Damage) (r : Record) → f ≡ Bad d → f ≡ Gives r → ⊥
bad_or_gives f d r a b = (let c : ◌≡◌ {A = Found} (Bad d) (Gives r) = sym a ∙ b in absurd cc)

same_gives : (f : Found) (r q : Record) → f ≡ Gives r → f ≡ Gives q → r ≡ q
same_gives f r q a b = (let c : ◌≡◌ {A = Found} (Gives r) (Gives q) = sym a ∙ b in cc)

-- an entry that can't be applied
delta_found : (m : Store) (f : Found) (at : Lsn) → RefusesFound m f (BadDelta at) → (r : Record) × (f ≡ Gives r) × (apply m (entry_of r) ≡ None)
delta_found m End at is = absurd is
delta_found m (Bad d) at is = absurd is
delta_found m (Gives r) at is = (r, refl, is.1)

same_delta : (a b : Lsn) → ◌≡◌ {A = Unfollowed} (BadDelta a) (BadDelta b) → a ≡ b
same_delta a b e = cc

-- ---- a stream that was followed to its end

reads_on : (s : StoreSettings) (files : Files) (tip : Tip) (rs : List Record) (last : Tip) → Reads s files None tip rs last → ReadsOn s files tip rs last
reads_on s files tip [] last reads = reads
reads_on s files tip (r ∷ rs) last reads = (reads.0, reads_on s files (tip_after tip r) rs last reads.1)

wal_of : (s : StoreSettings) (files : Files) (read : ReadWal) (is : IsReadWal s (Some files) None read) → IsWal s files is.entries read.tip
wal_of s files read is = record { walk = reads_on s files (first_tip s.segment) is.entries read.tip is.archive.reads; ended = is.archive.behind }

made_of : (s : StoreSettings) (files : Files) (read : ReadWal) (is : IsReadWal s (Some files) None read) → apply_all empty (map entry_of is.entries) ≡ Some read.store
made_of s files read is = ap (λ (rs : List Record). apply_all empty (map entry_of rs)) (sym (all_kept is.entries read.tip.end is.ends)) ∙ is.store

module _ (mib relseg : ℕ) (bytes : List ℕ) where
  s : StoreSettings
  s = stream_settings mib relseg (followed bytes)

  files : Files
  files = stream_files mib (followed bytes)

  read_so : (old new : AreaState) (report : ReplayReport) (done : FollowDone mib relseg bytes old new report) → IsReadWal s (Some files) None done.read
  unfolding s files
  read_so old new report done = subst (λ (l : List ℕ). IsReadStream mib relseg l done.read) (sym (take_all most_input bytes done.few)) done.read_is

  read_followed : (read : ReadWal) (is : IsReadWal s (Some files) None read) → IsFollowed mib relseg (followed bytes) is.entries read.tip read.store
  unfolding s files
  read_followed read is = record {
    read = record { walk = (wal_of s files read is).walk; makes = made_of s files read is };
    waits = subst AwaitsMore (sym (wal_of s files read is).ended) tt;
  }

  same_done : (old new other : AreaState) (a b : ReplayReport) → FollowDone mib relseg bytes old new a → FollowDone mib relseg bytes old other b → a ≡ b
  same_done old new other a b first second =
      let one : first.read ≡ second.read = one_read (stream_settings mib relseg bytes) (stream_files mib bytes) None first.read second.read first.read_is second.read_is in
      same_parts a b
      ((first.end ∙ sym first.read_is.end) ∙ ap (λ (r : ReadWal). r.end.0) one ∙ sym (second.end ∙ sym second.read_is.end))
      (first.forks ∙ ap (λ (r : ReadWal). len r.store) one ∙ sym second.forks)
      (first.pages ∙ ap (λ (r : ReadWal). page_count r.store) one ∙ sym second.pages)

  -- ---- a stream that wasn't

  read_or_damaged : (read : ReadWal) (d : Damage) → IsReadWal s (Some files) None read → IsDamagedStream mib relseg bytes d → ⊥
  unfolding s files
  read_or_damaged read d is damaged = ends_or_is_damaged s files is.entries damaged.rs read.tip d (wal_of s files read is) damaged.damaged

  read_or_delta : (read : ReadWal) (at : Lsn) → IsReadWal s (Some files) None read → law.IsUnfollowed mib relseg (followed bytes) (BadDelta at) → ⊥
  read_or_delta read at is un = followed_or_refused mib relseg (followed bytes) is.entries read.tip read.store (BadDelta at) (read_followed read is) un

  long_or_damaged : (d : Damage) → IsLongStream mib relseg bytes → IsDamagedStream mib relseg bytes d → ⊥
  unfolding s files
  long_or_damaged d long damaged = go (behind_in mib relseg (followed bytes) long.tip) refl long.waits.waits
    where
      go : (found : Found) → behind_in mib relseg (followed bytes) long.tip ≡ found → AwaitsMore found → ⊥
      go End ends waits = ends_or_is_damaged s files long.rs damaged.rs long.tip d (record { walk = long.waits.read.walk; ended = ends }) damaged.damaged
      go (Gives r) gives waits = waits
      go (Bad e) breaks waits =
          let one = one_damage s files damaged.rs long.rs d e damaged.damaged (record { tip = long.tip; walk = long.waits.read.walk; broken = breaks }) in
          let few = damaged.whole (subst IsCutShort (sym one.1) waits) in
          let more = long.more in
          omega (arith, few, more)

  long_or_delta : (at : Lsn) → IsLongStream mib relseg bytes → law.IsUnfollowed mib relseg (followed bytes) (BadDelta at) → ⊥
  long_or_delta at long un = followed_or_refused mib relseg (followed bytes) long.rs long.tip long.store (BadDelta at) long.waits un

  damaged_or_delta : (d : Damage) (at : Lsn) → IsDamagedStream mib relseg bytes d → law.IsUnfollowed mib relseg (followed bytes) (BadDelta at) → ⊥
  unfolding s files
  damaged_or_delta d at damaged un =
      let found = delta_found un.store (behind_in mib relseg (followed bytes) un.tip) at un.refused in
      let one = one_walk s files empty damaged.store un.store (first_tip mib) damaged.damaged.tip un.tip damaged.rs un.rs damaged.damaged.walk damaged.makes
      (λ r gives. absurd (bad_or_gives (stands_behind s files damaged.damaged.tip) d r damaged.damaged.broken gives))
      un.read.walk un.read.makes
      (λ r gives. subst (λ (x : Record). apply un.store (entry_of x) ≡ None) (same_gives (stands_behind s files un.tip) found.0 r found.1 gives) found.2) in
      bad_or_gives (stands_behind s files un.tip) d found.0 (subst (λ (t : Tip). stands_behind s files t ≡ Bad d) one.0 damaged.damaged.broken) found.1

  same_damage : (d e : Damage) → IsDamagedStream mib relseg bytes d → IsDamagedStream mib relseg bytes e → d ≡ e
  unfolding s files
  same_damage d e first second = (one_damage s files first.rs second.rs d e first.damaged second.damaged).1

  same_place : (at other : Lsn) → law.IsUnfollowed mib relseg (followed bytes) (BadDelta at) → law.IsUnfollowed mib relseg (followed bytes) (BadDelta other) → at ≡ other
  same_place at other first second = same_delta at other (refused_in_one_way mib relseg (followed bytes) (BadDelta at) (BadDelta other) first second)

  -- why its WAL can't be replayed: a damage, or an entry that can't be applied
  by_cause : (f : RecoveryFault) (P : RecoveryFault → Type 0) → is_decided (wal_status f) ≡ true → IsUnfollowed mib relseg f bytes
      → ((d : Damage) → IsDamagedStream mib relseg bytes d → P (wal.Damaged mib d))
      → ((at : Lsn) → law.IsUnfollowed mib relseg (followed bytes) (BadDelta at) → P (wal.BadDelta at)) → P f
  by_cause (wal.Damaged size d) P own is damaged delta = subst (λ (n : ℕ). P (wal.Damaged n d)) (sym is.0) (damaged d is.1)
  by_cause (wal.BadDelta at) P own is damaged delta = delta at is
  by_cause (wal.Short end target) P own is damaged delta = absurd is
  by_cause wal.SettingsDamaged P own is damaged delta = absurd is
  by_cause (wal.Timeline name) P own is damaged delta = absurd is
  by_cause wal.NotInit P own is damaged delta = absurd is
  by_cause wal.Failed P own is damaged delta = absurd is
  by_cause wal.NoMemory P own is damaged delta = absurd cc

  read_or_refused : (read : ReadWal) (f : RecoveryFault) → IsReadWal s (Some files) None read → is_decided (wal_status f) ≡ true → IsUnfollowed mib relseg f bytes → ⊥
  read_or_refused read f is own un = by_cause f (λ g. ⊥) own un (λ d damaged. read_or_damaged read d is damaged) (λ at delta. read_or_delta read at is delta)

  done_or_refused : (old new : AreaState) (report : ReplayReport) (f : RecoveryFault) → FollowDone mib relseg bytes old new report → is_decided (wal_status f) ≡ true → IsUnfollowed mib relseg f bytes → ⊥
  done_or_refused old new report f done own un = read_or_refused done.read f (read_so old new report done) own un

  done_or_long : (old new : AreaState) (report : ReplayReport) → FollowDone mib relseg bytes old new report → IsLongStream mib relseg bytes → ⊥
  done_or_long old new report done long = let few = done.few in let more = long.more in omega (arith, few, more)

  long_or_refused : (f : RecoveryFault) → IsLongStream mib relseg bytes → is_decided (wal_status f) ≡ true → IsUnfollowed mib relseg f bytes → ⊥
  long_or_refused f long own un = by_cause f (λ g. ⊥) own un (λ d damaged. long_or_damaged d long damaged) (λ at delta. long_or_delta at long delta)

  same_refusal : (f g : RecoveryFault) → is_decided (wal_status f) ≡ true → IsUnfollowed mib relseg f bytes → is_decided (wal_status g) ≡ true → IsUnfollowed mib relseg g bytes → f ≡ g
  same_refusal f g own un also other =
      by_cause f (λ x. x ≡ g) own un
      (λ d damaged. by_cause g (λ y. wal.Damaged mib d ≡ y) also other
      (λ e second. ap (λ (x : Damage). wal.Damaged mib x) (same_damage d e damaged second))
      (λ at delta. absurd (damaged_or_delta d at damaged delta)))
      (λ at delta. by_cause g (λ y. wal.BadDelta at ≡ y) also other
      (λ e damaged. absurd (damaged_or_delta e at damaged delta))
      (λ place second. ap (λ (x : Lsn). wal.BadDelta x) (same_place at place delta second)))

-- ---- the answers

answer_of : ReplayReport → Result ReplayReport FollowFault
answer_of report = Ok report

refused_by : RecoveryFault → Result ReplayReport FollowFault
refused_by fault = Err (follow.Wal fault)

long_by : ℕ → Result ReplayReport FollowFault
long_by most = Err (follow.Long most)

-- two answers, where the input is told and so is the output
follow_once : (mib relseg : ℕ) (Untaken Also : TakeFault → Type 0) (old new other : FollowSeen) (bytes : List ℕ) (a b : Result ReplayReport FollowFault) → old.left ≡ Some bytes → IsSome old.out.files → FollowAnswer mib relseg Untaken old new a → FollowAnswer mib relseg Also old other b
    → is_decided (follow_status a) ≡ true → is_decided (follow_status b) ≡ true → a ≡ b
unfolding answer_of refused_by long_by
follow_once mib relseg Untaken Also old new other bytes (Err (follow.Site f)) b told out first second own also = absurd (undecided f.why own)
follow_once mib relseg Untaken Also old new other bytes (Err (follow.Input f)) b told out first second own also = absurd (undecided f own)
follow_once mib relseg Untaken Also old new other bytes (Err (follow.Out f)) b told out first second own also = absurd (undecided f own)
follow_once mib relseg Untaken Also old new other bytes (Ok a) (Err (follow.Site g)) told out first second own also = absurd (undecided g.why also)
follow_once mib relseg Untaken Also old new other bytes (Ok a) (Err (follow.Input g)) told out first second own also = absurd (undecided g also)
follow_once mib relseg Untaken Also old new other bytes (Ok a) (Err (follow.Out g)) told out first second own also = absurd (undecided g also)
follow_once mib relseg Untaken Also old new other bytes (Ok a) (Ok b) told out first second own also =
    ap answer_of (same_done mib relseg bytes old.out new.out other.out a b (at_told old.left bytes (λ l. FollowDone mib relseg l old.out new.out a) told first.0) (at_told old.left bytes (λ l. FollowDone mib relseg l old.out other.out b) told second.0))
follow_once mib relseg Untaken Also old new other bytes (Ok a) (Err follow.NotEmpty) told out first second own also = absurd (clear_or_not old.out out first.1 second.0)
follow_once mib relseg Untaken Also old new other bytes (Ok a) (Err (follow.Long n)) told out first second own also =
    absurd (done_or_long mib relseg bytes old.out new.out a (at_told old.left bytes (λ l. FollowDone mib relseg l old.out new.out a) told first.0) (at_told old.left bytes (λ l. (n ≡ most_input) × IsLongStream mib relseg l) told second.0).1)
follow_once mib relseg Untaken Also old new other bytes (Ok a) (Err (follow.Wal g)) told out first second own also =
    absurd (done_or_refused mib relseg bytes old.out new.out a g (at_told old.left bytes (λ l. FollowDone mib relseg l old.out new.out a) told first.0) also (at_told old.left bytes (IsUnfollowed mib relseg g) told second.0))
follow_once mib relseg Untaken Also old new other bytes (Err follow.NotEmpty) (Err (follow.Site g)) told out first second own also = absurd (undecided g.why also)
follow_once mib relseg Untaken Also old new other bytes (Err follow.NotEmpty) (Err (follow.Input g)) told out first second own also = absurd (undecided g also)
follow_once mib relseg Untaken Also old new other bytes (Err follow.NotEmpty) (Err (follow.Out g)) told out first second own also = absurd (undecided g also)
follow_once mib relseg Untaken Also old new other bytes (Err follow.NotEmpty) (Ok b) told out first second own also = absurd (clear_or_not old.out out second.1 first.0)
follow_once mib relseg Untaken Also old new other bytes (Err follow.NotEmpty) (Err follow.NotEmpty) told out first second own also = refl
follow_once mib relseg Untaken Also old new other bytes (Err follow.NotEmpty) (Err (follow.Long n)) told out first second own also = absurd (clear_or_not old.out out second.1.0 first.0)
follow_once mib relseg Untaken Also old new other bytes (Err follow.NotEmpty) (Err (follow.Wal g)) told out first second own also = absurd (clear_or_not old.out out second.1.0 first.0)
follow_once mib relseg Untaken Also old new other bytes (Err (follow.Long m)) (Err (follow.Site g)) told out first second own also = absurd (undecided g.why also)
follow_once mib relseg Untaken Also old new other bytes (Err (follow.Long m)) (Err (follow.Input g)) told out first second own also = absurd (undecided g also)
follow_once mib relseg Untaken Also old new other bytes (Err (follow.Long m)) (Err (follow.Out g)) told out first second own also = absurd (undecided g also)
follow_once mib relseg Untaken Also old new other bytes (Err (follow.Long m)) (Ok b) told out first second own also =
    absurd (done_or_long mib relseg bytes old.out other.out b (at_told old.left bytes (λ l. FollowDone mib relseg l old.out other.out b) told second.0) (at_told old.left bytes (λ l. (m ≡ most_input) × IsLongStream mib relseg l) told first.0).1)
follow_once mib relseg Untaken Also old new other bytes (Err (follow.Long m)) (Err follow.NotEmpty) told out first second own also = absurd (clear_or_not old.out out first.1.0 second.0)
follow_once mib relseg Untaken Also old new other bytes (Err (follow.Long m)) (Err (follow.Long n)) told out first second own also =
    ap long_by ((at_told old.left bytes (λ l. (m ≡ most_input) × IsLongStream mib relseg l) told first.0).0 ∙ sym (at_told old.left bytes (λ l. (n ≡ most_input) × IsLongStream mib relseg l) told second.0).0)
follow_once mib relseg Untaken Also old new other bytes (Err (follow.Long m)) (Err (follow.Wal g)) told out first second own also =
    absurd (long_or_refused mib relseg bytes g (at_told old.left bytes (λ l. (m ≡ most_input) × IsLongStream mib relseg l) told first.0).1 also (at_told old.left bytes (IsUnfollowed mib relseg g) told second.0))
follow_once mib relseg Untaken Also old new other bytes (Err (follow.Wal f)) (Err (follow.Site g)) told out first second own also = absurd (undecided g.why also)
follow_once mib relseg Untaken Also old new other bytes (Err (follow.Wal f)) (Err (follow.Input g)) told out first second own also = absurd (undecided g also)
follow_once mib relseg Untaken Also old new other bytes (Err (follow.Wal f)) (Err (follow.Out g)) told out first second own also = absurd (undecided g also)
follow_once mib relseg Untaken Also old new other bytes (Err (follow.Wal f)) (Ok b) told out first second own also =
    absurd (done_or_refused mib relseg bytes old.out other.out b f (at_told old.left bytes (λ l. FollowDone mib relseg l old.out other.out b) told second.0) own (at_told old.left bytes (IsUnfollowed mib relseg f) told first.0))
follow_once mib relseg Untaken Also old new other bytes (Err (follow.Wal f)) (Err follow.NotEmpty) told out first second own also = absurd (clear_or_not old.out out first.1.0 second.0)
follow_once mib relseg Untaken Also old new other bytes (Err (follow.Wal f)) (Err (follow.Long n)) told out first second own also =
    absurd (long_or_refused mib relseg bytes f (at_told old.left bytes (λ l. (n ≡ most_input) × IsLongStream mib relseg l) told second.0).1 own (at_told old.left bytes (IsUnfollowed mib relseg f) told first.0))
follow_once mib relseg Untaken Also old new other bytes (Err (follow.Wal f)) (Err (follow.Wal g)) told out first second own also =
    ap refused_by (same_refusal mib relseg bytes f g own (at_told old.left bytes (IsUnfollowed mib relseg f) told first.0) also (at_told old.left bytes (IsUnfollowed mib relseg g) told second.0))

pub one_follow : HasOneFollow
one_follow mib relseg name old new other a b told first second own also =
    let bytes = some_told old.left told.left in
    follow_once mib relseg (IsUntaken (output_name name ∷ []) old new) (IsUntaken (output_name name ∷ []) old other) (follow_seen (output_name name) old) (follow_seen (output_name name) new) (follow_seen (output_name name) other) bytes.0 a b bytes.1 (told.files (output_name name)) first.2 second.2 own also
