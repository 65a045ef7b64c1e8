use Rattle.std.proofs.Common.{All, sym, subst}
use Rattle.manifest.specs.Listing.{Listing}
use Rattle.manifest.specs.Text.{IsWritableRow}
use Rattle.manifest.proofs.writing.lines_of.Goals as goal

pub add_rows-requires : goal.add_rows-requires
add_rows-requires c =
    let rows : All IsWritableRow c.m.inside.files.items = subst (λ (m : Listing). All IsWritableRow m.files) (sym c.m.view_is) c.requires.rows in
    subst (All IsWritableRow) (sym c.deref-3.ensures.value) rows
