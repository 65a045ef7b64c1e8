-- What a reader that has read some lines knows, and what that comes to.
use Rattle.std.proofs.Common.{◌≡◌, ℕ, ◌+◌, ◌-◌, ◌<◌, ◌≤◌, min, List, [], ◌∷◌, ◌++◌, length, get_or, take, drop, Some, None, Err, refl, sym, ap, subst, ◌∙◌, arith, append_assoc, length-append, inl, inr}
use Rattle.std.proofs.lemmas.Bool.{cases_lt}
use Rattle.std.proofs.lemmas.List.{take_at, take-append-le, drop_all, append-nil, get_or_at, get_or_append_left}
use Rattle.std.proofs.lemmas.List.Sums.{sum_by_push}
use Rattle.scripts.specs.declared.draft.Draft.{Draft}
use Rattle.scripts.specs.declared.script.Task.{Task}
use Rattle.scripts.specs.declared.why.Why.{Why}
use Rattle.scripts.specs.declared.why.ScriptFault.{ScriptFault}
use Rattle.scripts.specs.declared.why.ScriptFault.TheVariants as fault
use Rattle.scripts.specs.Cuts.{lines_of}
use Rattle.scripts.specs.Meaning.{meaning}
use Rattle.scripts.specs.Draft.{with_says, drafted}
use Rattle.scripts.specs.Reasons.{size_of, why_line, why_of}
use Rattle.scripts.specs.Script.{script_in, IsRefusedAt, IsScript, ScriptAnswer}
use Rattle.scripts.proofs.Drafts.{drafted_push}
use Rattle.scripts.specs.Inside.{IsLine, DraftAnswer}

-- the lines before a place were read, and none of them is refused
pub record SoFar (workers : ℕ) (bytes : List ℕ) (at number : ℕ) (tasks : List Task) : Type 0 where
  pub read : List (List ℕ)
  pub cut : lines_of bytes ≡ read ++ lines_of (drop at bytes)
  pub count : length read ≡ number
  pub few : number ≤ at
  pub within : at ≤ length bytes
  pub place : at ≡ min (size_of read) (length bytes)
  pub taken : (i : ℕ) → i < length read → why_of workers (length bytes) (take i read) (get_or read i []) ≡ None
  pub kept : tasks ≡ drafted [] 1 read

-- at a line that stands behind these
why_behind : (before : List (List ℕ)) (line : List ℕ) (after : List (List ℕ)) (workers total n : ℕ) → length before ≡ n → why_of workers total (take n (before ++ (line ∷ after))) (get_or (before ++ (line ∷ after)) n []) ≡ why_of workers total before line
why_behind before line after workers total n e =
    ap (λ (front : List (List ℕ)). why_of workers total front (get_or (before ++ (line ∷ after)) n [])) (take_at before (line ∷ after) n e)
    ∙ ap (why_of workers total before) (get_or_at before line after [] n e)

-- and at a line of these
why_before : (before after : List (List ℕ)) (workers total i : ℕ) → i < length before → why_of workers total (take i (before ++ after)) (get_or (before ++ after) i []) ≡ why_of workers total (take i before) (get_or before i [])
why_before before after workers total i lt =
    let le : i ≤ length before = omega arith in
    ap (λ (front : List (List ℕ)). why_of workers total front (get_or (before ++ after) i [])) (take-append-le i before after le)
    ∙ ap (why_of workers total (take i before)) (get_or_append_left before after [] i lt)

-- one more line
size_push : (lines : List (List ℕ)) (line : List ℕ) → size_of (lines ++ (line ∷ [])) ≡ size_of lines + (length line + 1)
size_push lines line = sum_by_push (λ (l : List ℕ). length l + 1) lines line

pub start : (workers : ℕ) (bytes : List ℕ) → SoFar workers bytes 0 0 []
start workers bytes = record { read = []; cut = refl; count = refl; few = omega arith; within = omega arith; place = omega arith; taken = λ i lt. absurd (omega (arith, lt)); kept = refl }

why_here : (workers : ℕ) (bytes : List ℕ) (at number : ℕ) (tasks : List Task) (s : SoFar workers bytes at number tasks) (line : List ℕ) (end : ℕ) → IsLine bytes at line end
    → why_of workers (length bytes) s.read line ≡ why_line workers end tasks line
why_here workers bytes at number tasks s line end l =
    let place : min (size_of s.read + (length line + 1)) (length bytes) ≡ end = omega (arith, s.place, l.place, l.lt) in
    ap (λ (n : ℕ). why_line workers n (drafted [] 1 s.read) line) place ∙ ap (λ (ts : List Task). why_line workers end ts line) (sym s.kept)

split_more : (workers : ℕ) (bytes : List ℕ) (at number : ℕ) (tasks : List Task) (s : SoFar workers bytes at number tasks) (line : List ℕ) (end : ℕ) → IsLine bytes at line end
    → lines_of bytes ≡ s.read ++ (line ∷ lines_of (drop end bytes))
split_more workers bytes at number tasks s line end l = s.cut ∙ ap (λ (ls : List (List ℕ)). s.read ++ ls) l.cut

taken_more : (read : List (List ℕ)) (line : List ℕ) (workers total : ℕ) → ((i : ℕ) → i < length read → why_of workers total (take i read) (get_or read i []) ≡ None) → why_of workers total read line ≡ None
    → (i : ℕ) → i < length (read ++ (line ∷ [])) → why_of workers total (take i (read ++ (line ∷ []))) (get_or (read ++ (line ∷ [])) i []) ≡ None
taken_more read line workers total taken here i lt =
    elim (cases_lt i (length read)) [
      | inl below ↦ why_before read (line ∷ []) workers total i below ∙ taken i below
      | inr above ↦ why_behind read line [] workers total i (omega (arith, length-append read (line ∷ []))) ∙ here
    ]

pub more : (workers : ℕ) (bytes : List ℕ) (at number : ℕ) (tasks : List Task) → SoFar workers bytes at number tasks → (line : List ℕ) (end : ℕ) → IsLine bytes at line end → why_line workers end tasks line ≡ None
    → (after : List Task) → after ≡ with_says tasks (number + 1) (meaning line) → SoFar workers bytes end (number + 1) after
more workers bytes at number tasks s line end l fine after k = record {
  read = s.read ++ (line ∷ []);
  cut = split_more workers bytes at number tasks s line end l ∙ sym (append_assoc s.read (line ∷ []) (lines_of (drop end bytes)));
  count = omega (arith, length-append s.read (line ∷ []), s.count);
  few = omega (arith, s.few, l.lt, l.place);
  within = omega (arith, l.place);
  place = omega (arith, size_push s.read line, s.place, l.lt, l.place);
  taken = taken_more s.read line workers (length bytes) s.taken (why_here workers bytes at number tasks s line end l ∙ fine);
  kept = k ∙ ap (λ (ts : List Task). with_says ts (number + 1) (meaning line)) s.kept ∙ sym (drafted_push [] s.read line 1 (number + 1) (omega (arith, s.count)));
}

pub refused : (workers : ℕ) (bytes : List ℕ) (at number : ℕ) (tasks : List Task) → SoFar workers bytes at number tasks → (line : List ℕ) (end : ℕ) → IsLine bytes at line end → (why : Why) → why_line workers end tasks line ≡ Some why
    → IsRefusedAt workers bytes (number + 1) why
refused workers bytes at number tasks s line end l why e =
    let all = split_more workers bytes at number tasks s line end l in
    record {
      least = omega arith;
      most = omega (arith, ap length all, length-append s.read (line ∷ lines_of (drop end bytes)), s.count);
      here = ap (λ (ls : List (List ℕ)). why_of workers (length bytes) (take (number + 1 - 1) ls) (get_or ls (number + 1 - 1) [])) all
          ∙ why_behind s.read line (lines_of (drop end bytes)) workers (length bytes) (number + 1 - 1) (omega (arith, s.count)) ∙ why_here workers bytes at number tasks s line end l ∙ e;
      first = λ m ge lt. ap (λ (ls : List (List ℕ)). why_of workers (length bytes) (take (m - 1) ls) (get_or ls (m - 1) [])) all
          ∙ why_before s.read (line ∷ lines_of (drop end bytes)) workers (length bytes) (m - 1) (omega (arith, s.count)) ∙ s.taken (m - 1) (omega (arith, s.count));
    }

pub refused_answer : (workers : ℕ) (bytes : List ℕ) (at number : ℕ) (old new : Draft) → SoFar workers bytes at number old.tasks.items → (line : List ℕ) (end : ℕ) → IsLine bytes at line end
    → (f : ScriptFault) → DraftAnswer workers old new end (number + 1) line (Err f) → ScriptAnswer workers bytes (Err f)
refused_answer workers bytes at number old new s line end l (fault.Line n why) p =
    subst (λ (m : ℕ). IsRefusedAt workers bytes m why) (sym p.0) (refused workers bytes at number old.tasks.items s line end l why p.1)
refused_answer workers bytes at number old new s line end l fault.NoMemory p = p

pub done : (workers : ℕ) (bytes : List ℕ) (at number : ℕ) (tasks : List Task) → SoFar workers bytes at number tasks → length bytes ≤ at → IsScript workers bytes tasks
done workers bytes at number tasks s end =
    let all : lines_of bytes ≡ s.read = s.cut ∙ ap (λ (ls : List (List ℕ)). s.read ++ ls) (ap lines_of (drop_all at bytes end)) ∙ append-nil s.read in
    record {
      taken = λ m ge le. ap (λ (ls : List (List ℕ)). why_of workers (length bytes) (take (m - 1) ls) (get_or ls (m - 1) [])) all ∙ s.taken (m - 1) (omega (arith, ap length all));
      says = s.kept ∙ ap script_in (sym all);
    }
