use Rattle.std.proofs.Common.{◌≡◌, ◌≢◌, ◌*◌, true, false, List, ℕ, sym, ap, subst, ◌∙◌, arith}
use Rattle.backup_files.specs.Area.{Lacks}
use Rattle.backup_files.specs.Directory.{manifest_name}
use Rattle.backup_files.specs.Rows.{row_with}
use Rattle.backup_sending.proofs.Segments.{full_before, segment_put}
use Rattle.backup_sending.proofs.Texts.{never_named}
use Rattle.backup_sending.proofs.forks.copy_segment.Goals as goal

pub overflow_mul-block : goal.overflow_mul-block
overflow_mul-block g c = let room = full_before c.args.relseg c.args.fork.now.blocks c.args.seg (omega arith) c.requires.seg in omega (arith, room)

pub overflow_sub-blocks : goal.overflow_sub-blocks
overflow_sub-blocks g c = let room = full_before c.args.relseg c.args.fork.now.blocks c.args.seg (omega arith) c.requires.seg in omega (arith, room)

pub copy_file-requires-clause-within : goal.copy_file-requires-clause-within
copy_file-requires-clause-within g c = λ κs lives. let room = full_before c.args.relseg c.args.fork.now.blocks c.args.seg (omega arith) c.requires.seg in omega (arith, room)

pub copy_file-requires-clause-other : goal.copy_file-requires-clause-other
copy_file-requires-clause-other g c = λ κs lives.
    subst (λ (x : List ℕ). x ≢ manifest_name) (sym (c.as_bytes.ensures ∙ c.in_ok-path.ensures.path)) (never_named c.args.fork.now.fork c.args.seg false manifest_name (λ x. omega (arith, x)))

pub copy_file-requires-clause-missing : goal.copy_file-requires-clause-missing
copy_file-requires-clause-missing g c = λ κs lives. subst (λ (x : List ℕ). Lacks (g.V.Vault.files c.args.out.now) x) (sym (c.as_bytes.ensures ∙ c.in_ok-path.ensures.path)) c.requires.missing

pub returns-clause-put : goal.returns-clause-put
returns-clause-put g c =
    segment_put (g.J.OfStore.tells ≡ true) c.copy_file.new.pass.list c.args.from.0 c.args.relseg c.args.fork.now c.args.seg c.min-count.result c.args.modified.now c.as_bytes.result.now c.in_ok-sum.sum (g.V.Vault.files c.args.out.now)
    (g.V.Vault.files c.copy_file.new.out) c.args.rows.now.items c.push.new.self.items c.in_ok-row.row c.min-count.ensures (c.as_bytes.ensures ∙ c.in_ok-path.ensures.path) c.in_ok-sum.ensures.copied
    (c.in_ok-row.ensures
    ∙ (ap (λ (x : List ℕ). row_with x (c.from.result * 8192) c.args.modified.now c.in_ok-sum.sum) (sym c.as_bytes.ensures) ∙ ap (λ (n : ℕ). row_with c.as_bytes.result.now (n * 8192) c.args.modified.now c.in_ok-sum.sum) c.from.ensures))
    c.in_ok-push.ensures.items
