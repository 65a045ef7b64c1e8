-- The command is simple, and what kinds of errors say.
use Rattle.std.proofs.Common.{◌≡◌, ◌⊎◌, refl, inl, inr, true, false, [], ◌∷◌, ne_eqb, arith, length}
use Rattle.clap.specs.Walk.{is_empty}
use Rattle.clap.specs.Simple.{is_simple}
use Rattle.clap.specs.Faults.{is_simple_and_free}
use Rattle.clap.specs.Kinds.{Kinds, IsAmong}
use Rattle.clap.specs.declared.error.kind.ErrorKind.{ErrorKind}
use Rattle.clap.proofs.OnLiterals.{clap_on_literals}
use Rattle.command_line.specs.App.{app}

pub app_is_simple : is_simple app ≡ true
unfolding clap_on_literals
app_is_simple = refl

pub app_is_free : is_simple_and_free app ≡ true
unfolding clap_on_literals
app_is_free = refl

-- a kind comes that isn't want of memory
pub one_among : (kinds : Kinds) (k memory : ErrorKind) → (k ≡ memory → ⊥) → (k ≡ memory) ⊎ IsAmong k kinds → is_empty kinds ≡ false
one_among [] k memory other h = elim h [ inl e ↦ absurd (other e) | inr among ↦ absurd among ]
one_among (x ∷ kinds) k memory other h = ne_eqb (length (x ∷ kinds)) 0 (λ e. absurd (omega (arith, e)))
