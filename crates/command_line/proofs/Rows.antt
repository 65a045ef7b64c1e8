-- Words that are written out, and what they ask.
use Rattle.std.proofs.Common.{◌≡◌, refl, codes, List, [], ◌∷◌, Some, None, ℕ}
use Rattle.std.specs.Fmt.{digits}
use Rattle.clap.proofs.OnLiterals.{clap_on_literals}
use Rattle.command_line.specs.Words.{Restore}
use Rattle.command_line.specs.Words.{texts_ask}

attached : List (List ℕ)
attached = codes "restore" ∷ codes "--target=0/1006A0" ∷ codes "r" ∷ codes "f1" ∷ codes "i1" ∷ []

between : List (List ℕ)
between = codes "restore" ∷ codes "r" ∷ codes "f1" ∷ codes "--target" ∷ codes "0/1006A0" ∷ codes "i1" ∷ []

before : List (List ℕ)
before = codes "restore" ∷ codes "--target" ∷ codes "0/1006A0" ∷ codes "r" ∷ codes "f1" ∷ codes "i1" ∷ []

same_between : texts_ask attached ≡ texts_ask between
unfolding clap_on_literals attached between
same_between = refl

same_before : texts_ask attached ≡ texts_ask before
unfolding clap_on_literals attached before
same_before = refl

is_restore : texts_ask before ≡ Some (Restore (Some (record { 0 = 1050272 })) (codes "r") (codes "f1" ∷ codes "i1" ∷ []))
unfolding clap_on_literals before
is_restore = refl

twice : texts_ask (codes "init" ∷ codes "--segment-mib" ∷ codes "1" ∷ codes "--segment-mib" ∷ codes "2" ∷ []) ≡ None
unfolding clap_on_literals
twice = refl

help : texts_ask (codes "help" ∷ []) ≡ None
unfolding clap_on_literals
help = refl

three : texts_ask (codes "init" ∷ codes "--segment-mib" ∷ codes "3" ∷ []) ≡ None
unfolding clap_on_literals digits
three = refl

-- behind `--` a word is a name
escaped : texts_ask (codes "verify" ∷ codes "--" ∷ codes "f1" ∷ []) ≡ texts_ask (codes "verify" ∷ codes "f1" ∷ [])
unfolding clap_on_literals
escaped = refl

days : texts_ask (codes "run" ∷ codes "--keep-days" ∷ codes "36501" ∷ []) ≡ None
unfolding clap_on_literals digits
days = refl
