-- A script has one answer.
use Rattle.std.proofs.Common.{◌≡◌, ℕ, List, Some, None, Ok, Err, sym, ap, ◌∙◌, inl, inr}
use Rattle.std.proofs.lemmas.Bool.{cases_order}
use Rattle.scripts.specs.declared.script.Task.{Task}
use Rattle.scripts.specs.declared.why.Why.{Why}
use Rattle.scripts.specs.declared.why.ScriptFault.TheVariants as fault
use Rattle.scripts.specs.Reasons.{why_at}
use Rattle.scripts.specs.Script.{IsRefusedAt, IsScript}
use Rattle.scripts.specs.Laws.{HasOneAnswer}

-- what is taken is not refused
pub taken_not_refused : (workers : ℕ) (bytes : List ℕ) (script : List Task) (n : ℕ) (why : Why) → IsScript workers bytes script → IsRefusedAt workers bytes n why → ⊥
taken_not_refused workers bytes script n why taken refused = absurd (let e : Some why ≡ None = sym refused.here ∙ taken.taken n refused.least refused.most in cc)

pub script_unique : (workers : ℕ) (bytes : List ℕ) (a b : List Task) → IsScript workers bytes a → IsScript workers bytes b → a ≡ b
script_unique workers bytes a b p q = p.says ∙ sym q.says

-- the first refused line and its reason are one
pub refusal_line_unique : (workers : ℕ) (bytes : List ℕ) (n m : ℕ) (v w : Why) → IsRefusedAt workers bytes n v → IsRefusedAt workers bytes m w → n ≡ m
refusal_line_unique workers bytes n m v w p q =
    elim (cases_order n m) [
      | inl e ↦ e
      | inr (inl lt) ↦ absurd (let e : Some v ≡ None = sym p.here ∙ q.first n p.least lt in cc)
      | inr (inr gt) ↦ absurd (let e : Some w ≡ None = sym q.here ∙ p.first m q.least gt in cc)
    ]

pub refusal_unique : (workers : ℕ) (bytes : List ℕ) (n m : ℕ) (v w : Why) → IsRefusedAt workers bytes n v → IsRefusedAt workers bytes m w → (n ≡ m) × (v ≡ w)
refusal_unique workers bytes n m v w p q =
    let e : n ≡ m = refusal_line_unique workers bytes n m v w p q in
    (e, let s : Some v ≡ Some w = sym p.here ∙ ap (why_at workers bytes) e ∙ q.here in cc)

pub one_answer : HasOneAnswer
one_answer workers bytes (Ok a) (Ok b) p q own1 own2 = ap Ok (script_unique workers bytes a b p q)
one_answer workers bytes (Ok a) (Err (fault.Line n why)) p q own1 own2 = absurd (taken_not_refused workers bytes a n why p q)
one_answer workers bytes (Ok a) (Err fault.NoMemory) p q own1 own2 = absurd own2
one_answer workers bytes (Err (fault.Line n why)) (Ok b) p q own1 own2 = absurd (taken_not_refused workers bytes b n why q p)
one_answer workers bytes (Err (fault.Line n why)) (Err (fault.Line m why2)) p q own1 own2 =
    let both = refusal_unique workers bytes n m why why2 p q in
    ap Err (ap (λ (k : ℕ). fault.Line k why) both.0 ∙ ap (fault.Line m) both.1)
one_answer workers bytes (Err (fault.Line n why)) (Err fault.NoMemory) p q own1 own2 = absurd own2
one_answer workers bytes (Err fault.NoMemory) b p q own1 own2 = absurd own1
