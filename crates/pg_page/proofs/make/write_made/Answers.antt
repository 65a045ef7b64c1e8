-- The header's places and the bytes outside the hole are written over zeros.
use Rattle.pg_page.specs.Header.{zero_page, made_page}
use Rattle.pg_page.proofs.MadeLaws.{written_thrice, made_places}
use Rattle.pg_page.proofs.make.write_made.Goals as goal

pub returns : goal.returns
unfolding made_page zero_page
returns c = rw (c.fill_between-2.ensures, c.fill_between.ensures, c.from.ensures, c.from-2.ensures, c.overwrite.ensures, c.made_fields.ensures, c.requires.zeros)
    (written_thrice 8192 12 4 24 c.args.lower c.args.upper c.args.fill _ (made_places c.args.lower c.args.upper) c.requires.least c.requires.order c.requires.most)
