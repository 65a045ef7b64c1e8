-- The prior that the label of a backup names.
use Rattle.std.specs.Prelude.{ℕ, List, [], ◌∷◌, Option, None}
use Rattle.lsn_core.specs.declared.lsn.Lsn.{Lsn}
use Rattle.backup_label.specs.declared.label.Label.{Label}
use Rattle.chain_check.specs.declared.member.Member.{Member}

-- a label with the prior of another one
abbrev pub label_with_prior : Label → Option (Lsn × ℕ) → Label
label_with_prior l prior = record {
  start = l.start;
  checkpoint = l.checkpoint;
  time = l.time;
  label = l.label;
  timeline = l.timeline;
  prior = prior;
}

abbrev pub with_prior : Member → Option (Lsn × ℕ) → Member
with_prior m prior =
    record { name = m.name; label = label_with_prior m.label prior; manifest = m.manifest }

-- that of the first of some members
abbrev pub first_prior : List Member → Option (Lsn × ℕ)
first_prior [] = None
first_prior (first ∷ later) = first.label.prior

-- the members with another one
abbrev pub with_first_prior : List Member → Option (Lsn × ℕ) → List Member
with_first_prior [] prior = []
with_first_prior (first ∷ later) prior = with_prior first prior ∷ later
