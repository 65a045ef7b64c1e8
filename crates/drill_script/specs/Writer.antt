-- What a writer does, step by step (profile).
use Rattle.std.specs.Prelude.{ℕ, ◌+◌, ◌*◌, ◌-◌, ◌/◌, ◌==◌, ◌&&◌, nat_lt, nat_le, if◌then◌else◌}
use Rattle.drill_script.specs.declared.writer.Step.{Step}
use Rattle.drill_script.specs.declared.writer.Step.TheVariants.{Cut, Put, Patch}
use Rattle.drill_script.specs.declared.writer.Writer.{Writer}
use Rattle.drill_script.specs.Draw.{stepped, drawn}

-- a writer that draws from a number, and whose fork has so many blocks
abbrev pub writer_at : ℕ → ℕ → Writer
writer_at at len = record { at = at; len = len }

-- the fork is cut, by at most a quarter
abbrev pub cut_next : Writer → Step × Writer
cut_next w =
    let len = w.len - drawn w.at (w.len / 4 + 1) in
    (Cut len, writer_at (stepped w.at) len)

-- a page is put behind its last block
abbrev pub put_next : Writer → Step × Writer
put_next w = (Put w.len (drawn w.at 256), writer_at (stepped w.at) (w.len + 1))

-- eight bytes are written over a block, behind its header
abbrev pub patch_next : Writer → Step × Writer
patch_next w =
    let second = stepped w.at in
    let third = stepped second in (
      Patch (drawn w.at w.len) (24 + 8 * drawn second 50) (drawn third 256),
      writer_at (stepped third) w.len,
    )

-- a writer's next step, and the writer behind it: of sixteen numbers one cuts, and three put a page
-- as long as there are fewer than 200
abbrev pub next : Writer → Step × Writer
next w =
    let kind = drawn w.at 16 in
    let behind = writer_at (stepped w.at) w.len in
    if kind == 0 then cut_next behind
    else (if nat_le kind 3 && nat_lt w.len 200 then put_next behind else patch_next behind)
