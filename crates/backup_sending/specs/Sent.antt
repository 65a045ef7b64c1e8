-- Which files an incremental backup has of a store's forks, and what they hold.
use Rattle.std.specs.Prelude.{◌≡◌, ℕ, ◌+◌, ◌*◌, ◌||◌, Bool, true, false, List, [], ◌∷◌, ◌++◌, map, length, Option, if◌then◌else◌}
use Rattle.std.specs.List.{AllByRecursion, flat_map, list_any, range_with_len}
use Rattle.std.specs.List.Sorted.{IsStrictlySortedBy}
use Rattle.std.specs.Str.{bytes_eq}
use Rattle.lsn_core.specs.Names.{fork_path_bytes, IsNamed}
use Rattle.lsn_core.specs.Store.{ForkPages, fork_cmp, segment_count}
use Rattle.lsn_core.specs.declared.ids.ForkId.{ForkId}
use Rattle.lsn_core.specs.declared.ids.ForkLen.{ForkLen}
use Rattle.history.specs.Apply.{is_same_fork}
use Rattle.history.specs.Entry.{Entry}
use Rattle.history.specs.fuzzy_copies.Taken.{Copying, IsListed, IsSeen}
use Rattle.wal_summary.specs.Summary.{limit_at}
use Rattle.wal_summary.specs.declared.summary.ForkSummary.{ForkSummary}
use Rattle.incr_file.specs.Form.{pages_bytes}
use Rattle.incr_file.specs.Head.{head_bytes}
use Rattle.incr_file.specs.Plan.{plan_of, planned}
use Rattle.incr_file.specs.declared.plan.FilePlan.{FilePlan}
use Rattle.incr_file.specs.declared.plan.FilePlan.TheVariants.{Whole, Incr}
use Rattle.manifest.specs.declared.listing.FileRow.{FileRow}
use Rattle.store_locks.specs.Copied.{listed_length}
use Rattle.backup_sending.specs.declared.basis.Basis.{Basis}

-- ---- what is planned

-- the blocks that a summary lists of a fork, in order
abbrev pub blocks_at : ForkId → List ForkSummary → List ℕ
blocks_at fork [] = []
blocks_at fork (s ∷ ss) = if is_same_fork fork s.fork then s.blocks else blocks_at fork ss

-- a row has this path
abbrev pub has_path : List FileRow → List ℕ → Bool
has_path rows path = list_any (λ row. bytes_eq row.path path) rows

-- rows list a segment file of a fork, in one form or the other
abbrev pub is_known : List FileRow → ForkId → ℕ → Bool
is_known rows fork seg =
    has_path rows (fork_path_bytes fork seg false)
    || has_path rows (fork_path_bytes fork seg true)

-- a segment file of a fork: at which block of the fork it begins, how many blocks of it are
-- planned, and how it is sent
pub record SegmentPlan : Type 0 where
  pub fork : ForkId
  pub seg : ℕ
  pub first : ℕ
  pub count : ℕ
  pub plan : FilePlan

-- the plan of a segment file of a fork that was listed with so many blocks, by the number of blocks
-- a file, by the summary, and by the rows of the prior backup's manifest
abbrev pub segment_plan : Basis → ForkLen → ℕ → SegmentPlan
segment_plan b l seg = record {
  fork = l.fork;
  seg = seg;
  first = seg * b.relseg;
  count = planned b.relseg l.blocks (seg * b.relseg);
  plan = plan_of b.relseg seg l.blocks (limit_at l.fork b.summary.forks)
      (blocks_at l.fork b.summary.forks) (is_known b.prior.files l.fork seg);
}

-- those of all segment files of a fork, and of all forks of a list
abbrev pub fork_plans : Basis → ForkLen → List SegmentPlan
fork_plans b l = map (segment_plan b l) (range_with_len 0 (segment_count b.relseg l.blocks))

abbrev pub list_plans : Basis → List ForkLen → List SegmentPlan
list_plans b list = flat_map (fork_plans b) list

-- ---- what is sent

-- a file as it was sent, with its pages
pub record SentFile : Type 0 where
  pub what : SegmentPlan
  pub pages : ForkPages

-- which blocks of a file with so many planned ones are sent, counted from its first one
abbrev pub blocks_sent : ℕ → FilePlan → List ℕ
blocks_sent count Whole = range_with_len 0 count
blocks_sent count (Incr head) = head.blocks

abbrev pub is_part : FilePlan → Bool
is_part Whole = false
is_part (Incr head) = true

-- what stands before the pages
abbrev pub front_bytes : FilePlan → List ℕ
front_bytes Whole = []
front_bytes (Incr head) = head_bytes head

abbrev pub sent_path : SegmentPlan → List ℕ
sent_path p = fork_path_bytes p.fork p.seg (is_part p.plan)

-- the path of a file, and its bytes
abbrev pub file_of : SentFile → List ℕ × List ℕ
file_of f = (sent_path f.what, front_bytes f.what.plan ++ pages_bytes f.pages)

-- pages stand for blocks, one for each
abbrev pub AreFor : (ℕ → List ℕ → Type 0) → List ℕ → ForkPages → Type 0
AreFor P [] [] = Unit {0}
AreFor P [] (page ∷ pages) = ⊥
AreFor P (block ∷ blocks) [] = ⊥
AreFor P (block ∷ blocks) (page ∷ pages) = P block page × AreFor P blocks pages

-- a block's page was copied at some moment, where areas tell their files; it is whole
abbrev pub IsCopyOf : Type 0 → List Entry → ℕ → ℕ → ForkId → ℕ → List ℕ → Type 0
IsCopyOf tells history from to fork block page =
    (length page ≡ 8192) × (tells → Copying history from to fork block page)

-- a file holds just the blocks that its plan sends
abbrev pub IsSentAs : Type 0 → List Entry → ℕ → ℕ → SentFile → Type 0
IsSentAs tells history from to f =
    AreFor (λ block page. IsCopyOf tells history from to f.what.fork (f.what.first + block) page)
    (blocks_sent f.what.count f.what.plan) f.pages

-- files are those of the forks of a list, each as it is planned
pub record AreSent (tells : Type 0) (history : List Entry) (from to : ℕ) (b : Basis)
    (list : List ForkLen) (files : List SentFile) : Type 0 where
  pub planned_are : map (λ f. f.what) files ≡ list_plans b list
  pub sent : AllByRecursion (IsSentAs tells history from to) files

-- ---- the listing

-- a fork's length, or its want, as it was listed at some moment
pub record IsListedOnce (history : List Entry) (from to : ℕ) (fork : ForkId) (found : Option ℕ)
    : Type 0 where
  pub seen : List Entry
  pub prefix : IsSeen seen history from to
  pub listed : IsListed seen from fork found

-- a list of forks and their lengths, in order and each once, whose numbers fit. Of every fork it
-- tells what was listed of it, also of those that it doesn't name
pub record AreListed (tells : Type 0) (history : List Entry) (from to : ℕ)
    (list : List ForkLen) : Type 0 where
  pub order : IsStrictlySortedBy fork_cmp (map (λ l. l.fork) list)
  pub named : AllByRecursion (λ l. IsNamed l.fork l.blocks) list
  pub listed : tells → (fork : ForkId)
      → IsListedOnce history from to fork (listed_length list fork)
