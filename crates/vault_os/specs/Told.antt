-- Whether the files below a folder are told.
use Rattle.std.proofs.Common.{◌≡◌, ℕ, List, Option, Some, None, is_some, refl, sym, ◌∙◌}
use Rattle.lsn_core.specs.Files.{Files}
use Rattle.vault_os.specs.Paths.{told_in}

-- they are where the system tells its files
told_below : (folder : List ℕ) (files : Option Files)
    → is_some (told_in folder files) ≡ is_some files
told_below folder None = refl
told_below folder (Some files) = refl

pub told_alike : (one other : List ℕ) (a b : Option Files) → is_some a ≡ is_some b
    → is_some (told_in one a) ≡ is_some (told_in other b)
told_alike one other a b same = told_below one a ∙ (same ∙ sym (told_below other b))
