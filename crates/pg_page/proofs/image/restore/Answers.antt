-- The two parts of the image stand where the zeros were.
use Rattle.std.proofs.Common.{refl}
use Rattle.pg_page.specs.Header.{zero_page}
use Rattle.pg_page.specs.Image.{restored}
use Rattle.pg_page.proofs.ImageLaws.{written_parts}
use Rattle.pg_page.proofs.image.restore.Goals as goal

pub returns : goal.returns
unfolding restored zero_page
returns c = rw (c.overwrite-2.ensures, c.overwrite.ensures, c.requires.zeros, c.split_at.ensures.front, c.split_at.ensures.back) (written_parts 8192 0 c.args.offset c.args.image.now refl c.requires.within c.requires.fits)
