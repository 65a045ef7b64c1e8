-- The file that was made is listed.
use Rattle.std.proofs.Common.{ℕ, List, subst, ◌++◌, ◌∷◌, [], ◌≡◌}
use Rattle.backup_files.specs.Directory.{row_of}
use Rattle.chain_files.specs.Told.{chain_told}
use Rattle.directory_files.proofs.Puts.{made_listed}
use Rattle.incr_merge.specs.Inside.{IsContent}
use Rattle.incr_merge.proofs.files.put_file.Goals as goal

pub returns-clause-put : goal.returns-clause-put
returns-clause-put g c =
    made_listed (IsContent (chain_told g.V.Vault c.args.areas.now c.args.places.now) c.args.target.now) c.args.target.now.to c.args.modified.now (g.V.Vault.files c.args.out.now) (g.V.Vault.files c.make_file.new.out) c.args.rows.now.items c.list_file.new.rows.items
    c.in_ok-file.file c.in_ok-file.ensures.made c.in_ok-list_file.ensures.fits
    (λ bytes holds. subst (λ (to : List ℕ). c.list_file.new.rows.items ≡ c.args.rows.now.items ++ (row_of c.args.modified.now (to, bytes) ∷ [])) c.as_bytes.ensures (c.in_ok-list_file.ensures.listed bytes holds))
