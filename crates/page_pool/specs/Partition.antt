-- A partition as it is held: its pages in frames over its area's files.
use Rattle.std.specs.Prelude.{ℕ, ◌-◌, ◌<◌, IsSome, vec_len, vec_capacity}
use Rattle.lsn_core.specs.Store.{Store}
use Rattle.vault.specs.declared.area.Vault.{Ghosts}
use Rattle.rel_files.specs.Shown.{HoldsStore}
use Rattle.page_frames.specs.Overlay.{pages_over, marks_over}
use Rattle.page_pool.specs.declared.partition.Partition.TheInside.{Inside}
use Rattle.page_pool.specs.Part.{Part, LacksUnwritten}
use Rattle.page_pool.specs.Calls.{AreWholePages}
use Rattle.page_pool.specs.Told.{told_page}

-- its pages
abbrev pub pages_in : {V : Type 0} {Q : ℕ} → Ghosts V → Inside V Q → Store
pages_in g p = pages_over (told_page p.disk.relseg (g.files p.disk.area)) p.frames

-- what its calls show
abbrev pub part_in : {V : Type 0} {Q : ℕ} → Ghosts V → Inside V Q → Part
part_in g p = record {
  frames = pages_in g p;
  marks = marks_over p.frames;
  works = p.works.items;
  point = p.point.0;
  flushed = p.flushed.0;
  framed = p.frames;
  work_room = vec_capacity p.works - vec_len p.works;
  relseg = p.disk.relseg;
  disk = g.files p.disk.area;
  past = g.past p.disk.area;
  faults = g.faults p.disk.area;
}

-- where the area tells its files, it holds a store that lacks what is dirty or pending, and nothing
-- else; each page has 8192 bytes
pub record HoldsLacking {V : Type 0} {Q : ℕ} (g : Ghosts V) (p : Inside V Q) : Type 0 where
  pub raw : Store
  pub held : HoldsStore g p.disk raw
  pub lacks : LacksUnwritten raw (pages_in g p) (marks_over p.frames) p.works.items
  pub whole : AreWholePages (pages_in g p)

-- a segment file has some blocks, and so it is where the area tells its files
pub record IsPartition {V : Type 0} {Q : ℕ} (g : Ghosts V) (p : Inside V Q) : Type 0 where
  pub some : 0 < p.disk.relseg
  pub holds : IsSome (g.files p.disk.area) → HoldsLacking g p
