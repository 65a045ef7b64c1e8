-- An LSN in the words of the command line.
use Rattle.std.proofs.Common.{◌≡◌, ℕ, List, Option, Some, None, IfSome, IfNone, refl, ap}
use Rattle.lsn_core.specs.byte_words.Numbers.{◌>>=◌}
use Rattle.lsn_core.specs.byte_words.Cuts.{cut_at}
use Rattle.lsn_core.specs.text_numbers.Numbers.{hex_number_of}
use Rattle.lsn_core.specs.Names.{IsLsnText}
use Rattle.lsn_core.specs.declared.lsn.Lsn.{Lsn}
use Rattle.lsn_core.proofs.LsnTexts.{not_cut, not_high, not_low, is_lsn, one_lsn}
use Rattle.chain_view.specs.Asked.{lsn_of, lsn_value}

-- what a reader of LSNs found of a text, or that it writes none
abbrev pub Found : List ℕ → Option Lsn → Type 0
Found text o = IfSome o (λ at. IsLsnText text at.0)

abbrev pub Lacks : List ℕ → Option Lsn → Type 0
Lacks text o = IfNone o ((at : ℕ) → IsLsnText text at → ⊥)

lsn_at : ℕ → Lsn
lsn_at at = record { 0 = at }

value_low : (text high low : List ℕ) (m : ℕ) (o : Option Lsn) (l : Option ℕ) → cut_at 47 text ≡ Some (high, low) → hex_number_of high ≡ Some m → hex_number_of low ≡ l → Found text o → Lacks text o → o ≡ (l >>= λ n. Some (lsn_of m n))
unfolding lsn_at
value_low text high low m None None cut e f found lacks = refl
value_low text high low m (Some at) None cut e f found lacks = absurd (not_low text high low cut f at.0 found)
value_low text high low m None (Some n) cut e f found lacks = absurd (lacks _ (is_lsn text high low m n cut e f))
value_low text high low m (Some at) (Some n) cut e f found lacks = ap (λ (k : ℕ). Some (lsn_at k)) (one_lsn text at.0 _ found (is_lsn text high low m n cut e f))

value_high : (text high low : List ℕ) (o : Option Lsn) (h : Option ℕ) → cut_at 47 text ≡ Some (high, low) → hex_number_of high ≡ h → Found text o → Lacks text o → o ≡ (h >>= λ m. hex_number_of low >>= λ n. Some (lsn_of m n))
value_high text high low None None cut e found lacks = refl
value_high text high low (Some at) None cut e found lacks = absurd (not_high text high low cut e at.0 found)
value_high text high low o (Some m) cut e found lacks = value_low text high low m o (hex_number_of low) cut e refl found lacks

value_by : (text : List ℕ) (o : Option Lsn) (c : Option (List ℕ × List ℕ)) → cut_at 47 text ≡ c → Found text o → Lacks text o
    → o ≡ (c >>= λ parts. hex_number_of parts.0 >>= λ m. hex_number_of parts.1 >>= λ n. Some (lsn_of m n))
value_by text None None cut found lacks = refl
value_by text (Some at) None cut found lacks = absurd (not_cut text cut at.0 found)
value_by text o (Some (high, low)) cut found lacks = value_high text high low o (hex_number_of high) cut refl found lacks

pub is_value : (text : List ℕ) (o : Option Lsn) → Found text o → Lacks text o → o ≡ lsn_value text
is_value text o found lacks = value_by text o (cut_at 47 text) refl found lacks
