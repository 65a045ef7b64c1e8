-- The header that the fragments leave is read, and then the hole is zeroed and the LSN set.
use Rattle.std.proofs.Common.{refl, sym, ap, ◌∙◌}
use Rattle.pg_page.specs.Frags.{patched, is_good}
use Rattle.pg_page.proofs.PatchLaws.{frags_fit, told_good, told_bad}
use Rattle.pg_page.proofs.frags.patch.Goals as goal

pub write_frags-requires : goal.write_frags-requires
write_frags-requires c = frags_fit c.args.frags.now c.requires

pub returns-then-not-is_good-clause-good : goal.returns-then-not-is_good-clause-good
returns-then-not-is_good-clause-good c = sym (told_bad c.write_frags.new.page c.if-not-is_good.ensures.1) ∙ ap is_good c.write_frags.ensures

pub returns-clause-good : goal.returns-clause-good
returns-clause-good c = sym (told_good c.write_frags.new.page (c.if-not-is_good.ensures.0 refl)) ∙ ap is_good c.write_frags.ensures

pub returns-clause-bytes : goal.returns-clause-bytes
unfolding patched
returns-clause-bytes c = rw (c.set_lsn.ensures, c.zero_hole.ensures, c.write_frags.ensures) refl
