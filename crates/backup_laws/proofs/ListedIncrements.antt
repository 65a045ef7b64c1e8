-- The directory of an incremental backup is as its manifest lists it.
use Rattle.std.proofs.Common.{◌≡◌, ◌≢◌, ℕ, ◌+◌, ◌*◌, ◌%◌, true, false, List, [], ◌∷◌, ◌++◌, map, length, Option, Some, refl, sym, ap, subst, ◌∙◌, arith}
use Rattle.std.specs.List.{AllByRecursion}
use Rattle.lsn_core.specs.Files.{Files}
use Rattle.lsn_core.specs.Names.{fork_path_bytes, IsNamed}
use Rattle.lsn_core.specs.Segment.{StoreSettings, IsRelseg}
use Rattle.lsn_core.specs.Store.{ForkPages}
use Rattle.lsn_core.specs.declared.ids.ForkId.{ForkId}
use Rattle.lsn_core.specs.declared.ids.ForkLen.{ForkLen}
use Rattle.lsn_core.specs.declared.lsn.Lsn.{Lsn}
use Rattle.lsn_core.proofs.AnyAll.{all_more}
use Rattle.lsn_core.proofs.ForkPaths.{one_place}
use Rattle.history.specs.Entry.{Entry}
use Rattle.wal_summary.specs.Summary.{AreSorted, limit_at}
use Rattle.backup_label.specs.Label.{HasNoLineEnd}
use Rattle.incr_file.specs.Form.{pages_bytes}
use Rattle.incr_file.specs.Head.{IsHead, file_size, head_bytes}
use Rattle.incr_file.specs.Plan.{IsPlan, planned}
use Rattle.incr_file.specs.Reading.{HasFront}
use Rattle.incr_file.specs.declared.plan.FilePlan.{FilePlan}
use Rattle.incr_file.specs.declared.plan.FilePlan.TheVariants.{Whole, Incr}
use Rattle.incr_file.specs.Laws.{PlannedHeadsAreWritten, WrittenHeadsAreRead}
use Rattle.store_locks.specs.Copied.{listed_length}
use Rattle.backup_sending.specs.declared.basis.Basis.{Basis}
use Rattle.backup_sending.specs.Directory.{incr_label}
use Rattle.backup_sending.specs.Sent.{SegmentPlan, SentFile, AreListed, AreSent, IsCopyOf, IsSentAs, blocks_at, blocks_sent, file_of, front_bytes, is_known, is_part, segment_plan, sent_path}
use Rattle.backup_sending.proofs.Blocks.{for_length, for_sized}
use Rattle.backup_sending.proofs.Listings.{count_fits}
use Rattle.backup_sending.proofs.Planned.{blocks_rise}
use Rattle.backup_sending.proofs.Segments.{named_at}
use Rattle.chain_files.specs.Segments.{IsIncrFile}
use Rattle.chain_files.proofs.Pages.{HaveSize, bytes_length}
use Rattle.chain_check.specs.Directory.{IsAsListed}
use Rattle.chain_laws.proofs.Plans.{IsOfList, all_both, all_plans}
use Rattle.backup_laws.specs.Finished.{IsIncrBackup, incr_member, FinishedIncrementsAreListed}
use Rattle.backup_laws.proofs.HeadSizes.{part_size}
use Rattle.backup_laws.proofs.ListedDirectories.{File, IsForkFileIn, all_of_map, directory_listed}

-- what is known of heads
pub record KnownOfHeads : Type 0 where
  pub read : WrittenHeadsAreRead
  pub written : PlannedHeadsAreWritten

-- ---- the bytes of a planned file

abbrev sent_bytes : FilePlan → ForkPages → List ℕ
sent_bytes plan pages = front_bytes plan ++ pages_bytes pages

-- a plain one is of whole pages
plain_size : (plan : FilePlan) (pages : ForkPages) → HaveSize 8192 pages → is_part plan ≡ false → length (sent_bytes plan pages) % 8192 ≡ 0
plain_size Whole pages sized kind = (let size = bytes_length 8192 pages sized in omega (arith, size))
plain_size (Incr head) pages sized kind = absurd cc

-- an incremental one is one by its head
part_front : WrittenHeadsAreRead → (count : ℕ) (plan : FilePlan) (pages : ForkPages) → HaveSize 8192 pages → length pages ≡ length (blocks_sent count plan) → IsPlan count plan → is_part plan ≡ true → IsIncrFile (sent_bytes plan pages) (length (sent_bytes plan pages))
part_front law count Whole pages sized many may kind = absurd cc
part_front law count (Incr head) pages sized many may kind =
    let bytes : List ℕ = head_bytes head ++ pages_bytes pages in
    let read = law head (pages_bytes pages) may.written in
    let size : length bytes ≡ file_size (length head.blocks) = part_size head pages sized many in
    record { front = subst (HasFront bytes) (sym size) read.1.0; head = subst IsHead read.1.2 read.1.1 }

-- ---- the files of a list of forks

module _ (known : KnownOfHeads) (tells : Type 0) (history : List Entry) (from to : ℕ) (basis : Basis) (list : List ForkLen) (sent : List SentFile) (range : IsRelseg basis.relseg) (sorted : AreSorted basis.summary.forks) (listed : AreListed tells history from to list) (are : AreSent tells history from to basis list sent) where
  abbrev put : List File
  put = map file_of sent

  abbrev IsOf : SegmentPlan → Type 0
  IsOf p = IsOfList basis list p

  all_planned : AllByRecursion (λ f. IsOf f.what) sent
  all_planned = all_of_map (λ f. f.what) IsOf sent (subst (AllByRecursion IsOf) (sym are.planned_are) (all_plans basis list listed.named listed.order))

  abbrev plan_at : ForkId → ℕ → ℕ → SegmentPlan
  plan_at fork blocks seg = segment_plan basis (record { fork = fork; blocks = blocks }) seg

  -- a segment of a fork has one plan
  one_plan : (p q : SegmentPlan) → IsOf p → IsOf q → p.fork ≡ q.fork → p.seg ≡ q.seg → p ≡ q
  one_plan p q x y same_fork same_seg =
      let fork : x.of.fork ≡ y.of.fork = sym (ap (λ (r : SegmentPlan). r.fork) x.is) ∙ (same_fork ∙ ap (λ (r : SegmentPlan). r.fork) y.is) in
      let seg : x.seg ≡ y.seg = sym (ap (λ (r : SegmentPlan). r.seg) x.is) ∙ (same_seg ∙ ap (λ (r : SegmentPlan). r.seg) y.is) in
      let blocks : x.of.blocks ≡ y.of.blocks = some_is x.of.blocks y.of.blocks (sym x.found ∙ (ap (listed_length list) fork ∙ y.found)) in
      x.is
      ∙ (ap (λ (k : ForkId). plan_at k x.of.blocks x.seg) fork
      ∙ (ap (λ (n : ℕ). plan_at y.of.fork n x.seg) blocks
      ∙ (ap (λ (n : ℕ). plan_at y.of.fork y.of.blocks n) seg ∙ sym y.is)))
    where
      some_is : (n m : ℕ) → ◌≡◌ {A = Option ℕ} (Some n) (Some m) → n ≡ m
      some_is n m e = cc

  plan_named : (p : SegmentPlan) → IsOf p → IsNamed p.fork p.seg
  plan_named p x =
      subst (λ (r : SegmentPlan). IsNamed r.fork r.seg) (sym x.is)
      (named_at x.of.fork x.of.blocks x.seg x.named (count_fits basis.relseg x.of.blocks x.seg (omega (arith, range.least)) x.there x.named.seg_fits))

  -- its head may be written
  plan_may : (p : SegmentPlan) → IsOf p → IsPlan p.count p.plan
  plan_may p x =
      let first : ℕ = x.seg * basis.relseg in
      subst (λ (r : SegmentPlan). IsPlan r.count r.plan) (sym x.is)
      (known.written basis.relseg first (planned basis.relseg x.of.blocks first) (limit_at x.of.fork basis.summary.forks) (blocks_at x.of.fork basis.summary.forks) (is_known basis.prior.files x.of.fork x.seg) range (omega arith) (blocks_rise x.of.fork basis.summary.forks sorted))

  -- a plain file of the same segment has the same plan, so it is no incremental one
  no_other : (f : SentFile) → IsOf f.what → is_part f.what.plan ≡ true → (g : SentFile) → IsOf g.what → sent_path g.what ≢ fork_path_bytes f.what.fork f.what.seg false
  no_other f x kind g y e =
      let same = one_place g.what.fork f.what.fork g.what.seg f.what.seg (is_part g.what.plan) false (plan_named g.what y) (plan_named f.what x) e in
      let plan : g.what ≡ f.what = one_plan g.what f.what y x same.0 same.1.0 in
      let never : true ≡ false = sym kind ∙ (sym (ap (λ (r : SegmentPlan). is_part r.plan) plan) ∙ same.1.1) in
      cc

  no_plain : (f : SentFile) → IsOf f.what → is_part f.what.plan ≡ true → AllByRecursion (λ (g : File). g.0 ≢ fork_path_bytes f.what.fork f.what.seg false) put
  no_plain f x kind = all_files sent (all_more (λ (g : SentFile). IsOf g.what) (λ (g : SentFile). sent_path g.what ≢ fork_path_bytes f.what.fork f.what.seg false) sent (no_other f x kind) all_planned)
    where
      all_files : (fs : List SentFile) → AllByRecursion (λ (g : SentFile). sent_path g.what ≢ fork_path_bytes f.what.fork f.what.seg false) fs → AllByRecursion (λ (g : File). g.0 ≢ fork_path_bytes f.what.fork f.what.seg false) (map file_of fs)
      all_files [] all = tt
      all_files (g ∷ fs) all = (all.0, all_files fs all.1)

  sent_file : (f : SentFile) → IsOf f.what × IsSentAs tells history from to f → IsForkFileIn put (file_of f)
  sent_file f both =
      let plan : FilePlan = f.what.plan in
      let blocks : List ℕ = blocks_sent f.what.count plan in
      let sized = for_sized (λ block page. IsCopyOf tells history from to f.what.fork (f.what.first + block) page) blocks f.pages (λ block page c. c.0) both.1 in
      let many = for_length (λ block page. IsCopyOf tells history from to f.what.fork (f.what.first + block) page) blocks f.pages both.1 in
      record {
        fork = f.what.fork;
        seg = f.what.seg;
        incr = is_part plan;
        named = plan_named f.what both.0;
        path = refl;
        plain = plain_size plan f.pages sized;
        head = part_front known.read f.what.count plan f.pages sized many (plan_may f.what both.0);
        alone = no_plain f both.0;
      }

  pub all_sent : AllByRecursion (IsForkFileIn put) put
  all_sent = all_files sent (all_more (λ (f : SentFile). IsOf f.what × IsSentAs tells history from to f) (λ (f : SentFile). IsForkFileIn put (file_of f)) sent sent_file (all_both (λ (f : SentFile). IsOf f.what) (IsSentAs tells history from to) sent all_planned are.sent))
    where
      all_files : (fs : List SentFile) → AllByRecursion (λ (f : SentFile). IsForkFileIn put (file_of f)) fs → AllByRecursion (IsForkFileIn put) (map file_of fs)
      all_files [] all = tt
      all_files (f ∷ fs) all = (all.0, all_files fs all.1)

-- ---- the law

pub increment_listed : KnownOfHeads → (tells : Type 0) (s : StoreSettings) (name : List ℕ) (when : ℕ) (history : List Entry) (start checkpoint prior end : Lsn) (count : ℕ) (files : Files) (is : IsIncrBackup tells s name when history start checkpoint prior end count (Some files)) → IsRelseg s.relseg → HasNoLineEnd name
    → IsAsListed files (incr_member s name start checkpoint prior end is.directory.begun is.directory.rows)
increment_listed known tells s name when history start checkpoint prior end count files is range line =
    directory_listed s (λ begun. incr_label start checkpoint prior begun name) when (map file_of is.sent) start end count files is.directory
    (all_sent known tells history start.0 end.0 is.basis is.list is.sent (subst IsRelseg (sym is.relseg) range) is.sorted is.listed is.are_sent)
    name (is.directory.label_read line) refl

pub increments_listed : KnownOfHeads → FinishedIncrementsAreListed
increments_listed known tells = increment_listed known (tells ≡ true)
