-- The moment at which a worker's line was answered, over areas that tell their files all the while.
use Rattle.std.proofs.Common.{◌≡◌, ◌≢◌, ℕ, zero, suc, ◌≤◌, ◌||◌, Bool, true, false, List, [], ◌∷◌, length, take, drop, Option, Some, None, refl, sym, subst, arith}
use Rattle.std.specs.Option.{is_some}
use Rattle.std.specs.FinMap.{empty}
use Rattle.lsn_core.specs.Files.{Files}
use Rattle.vault.specs.Site.{Areas, IsStill}
use Rattle.vault.specs.Lending.{Names, IsOneOf}
use Rattle.history.specs.Entry.{Entry}
use Rattle.scripts.specs.declared.script.Line.{Line}
use Rattle.run_answers.specs.declared.answer.Answer.{Answer}
use Rattle.run_answers.specs.declared.answer.Stop.{Stop}
use Rattle.crew.specs.Backups.{area_asked, areas_asked}
use Rattle.crew.specs.Run.{Basis, LineAnswer, Answered}
use Rattle.run_answers.specs.Stopping.{stop_of, stops_with, is_not_run}
use Rattle.crew.proofs.Kept.{area_keeps}
use Rattle.run_command.proofs.ToldLess.{one_front, one_back}
use Rattle.backup_laws.specs.Chains.{AllTell, TellBehindLines}

-- what a line was answered, and what its worker's areas held before and behind it. Nothing happens
-- behind it to a backup's area that holds a file
pub record IsMoment (tells : Type 0) (b : Basis) (worker : ℕ) (history : List Entry) (found : ℕ) (line : Line) (answer : Answer) (new : Areas) : Type 0 where
  pub from : ℕ
  pub next : ℕ
  pub made : List Entry
  pub before : Areas
  pub after : Areas
  pub late : found ≤ from
  pub up : from ≤ next
  pub within : next ≤ length history
  pub answered : LineAnswer tells b worker from (take next history) line.command answer made before after
  pub keeps : (n : List ℕ) (m : Files) → (after n).files ≡ Some m → m ≢ empty → IsStill (after n) (new n)

-- the areas of these names told their files then
pub record IsToldMoment (names : Names) (tells : Type 0) (b : Basis) (worker : ℕ) (history : List Entry) (found : ℕ) (line : Line) (answer : Answer) (new : Areas) : Type 0 where
  pub moment : IsMoment tells b worker history found line answer new
  pub told_before : AllTell names moment.before
  pub told_after : AllTell names moment.after

none_stopped : (b : Bool) (o : Option Stop) → (b || is_some o) ≡ false → (b ≡ false) × (o ≡ None)
none_stopped true o e = absurd cc
none_stopped false None e = (refl, refl)
none_stopped false (Some what) e = absurd cc

pub goes_on : (x : Answer) → stops_with x ≡ false → (is_not_run x ≡ false) × (stop_of x ≡ None)
goes_on x e = none_stopped (is_not_run x) (stop_of x) e

-- the first of lines
abbrev first_moment : (tells : Type 0) (b : Basis) (w : ℕ) (h : List Entry) (found : ℕ) (from : ℕ) (l : Line) (lines : List Line) (x : Answer) (answers : List Answer) (es : List Entry) (to : ℕ) (held new : Areas) → Answered tells b w h from (l ∷ lines) (x ∷ answers) es to held new → found ≤ from
    → (line : Line) (answer : Answer) → l ≡ line → x ≡ answer → IsMoment tells b w h found line answer new
first_moment tells b w h found from l lines x answers es to held new a le line answer first said = record {
  from = from;
  next = a.0;
  made = a.1;
  before = held;
  after = a.3;
  late = le;
  up = a.4;
  within = a.5;
  answered = subst (λ (y : Answer). LineAnswer tells b w from (take a.0 h) line.command y a.1 held a.3) said (subst (λ (y : Line). LineAnswer tells b w from (take a.0 h) y.command x a.1 held a.3) first a.7);
  keeps = λ n m is some. area_keeps tells b w h a.0 lines answers a.2 to a.3 new n m a.8 is some;
}

pub moment_of : (tells : Type 0) (b : Basis) (w : ℕ) (h : List Entry) (found : ℕ) (from : ℕ) (lines : List Line) (answers : List Answer) (es : List Entry) (to : ℕ) (held new : Areas) → Answered tells b w h from lines answers es to held new → found ≤ from
    → (number : ℕ) (line : Line) (behind : List Line) (answer : Answer) (later : List Answer) → drop number lines ≡ line ∷ behind → drop number answers ≡ answer ∷ later → IsMoment tells b w h found line answer new
moment_of tells b w h found from [] answers es to held new a le zero line behind answer later at given = absurd cc
moment_of tells b w h found from [] answers es to held new a le (suc n) line behind answer later at given = absurd cc
moment_of tells b w h found from (l ∷ lines) [] es to held new a le zero line behind answer later at given = absurd cc
moment_of tells b w h found from (l ∷ lines) [] es to held new a le (suc n) line behind answer later at given = absurd cc
moment_of tells b w h found from (l ∷ lines) (x ∷ answers) es to held new a le zero line behind answer later at given =
    let first : l ≡ line = cc in
    let said : x ≡ answer = cc in
    first_moment tells b w h found from l lines x answers es to held new a le line answer first said
moment_of tells b w h found from (l ∷ lines) (x ∷ answers) es to held new a le (suc n) line behind answer later at given =
    moment_of tells b w h found a.0 lines answers a.2 to a.3 new a.8 (omega (arith, le, a.4)) n line behind answer later at given

pub told_moment : (names : Names) (tells : Type 0) (b : Basis) (w : ℕ) (h : List Entry) (found : ℕ) (from : ℕ) (lines : List Line) (answers : List Answer) (es : List Entry) (to : ℕ) (held new : Areas) (a : Answered tells b w h from lines answers es to held new)
    → TellBehindLines names tells b w h from lines answers es to held new a → AllTell names held → found ≤ from
    → (number : ℕ) (line : Line) (behind : List Line) (answer : Answer) (later : List Answer) → drop number lines ≡ line ∷ behind → drop number answers ≡ answer ∷ later → IsToldMoment names tells b w h found line answer new
told_moment names tells b w h found from [] answers es to held new a told now le zero line behind answer later at given = absurd cc
told_moment names tells b w h found from [] answers es to held new a told now le (suc n) line behind answer later at given = absurd cc
told_moment names tells b w h found from (l ∷ lines) [] es to held new a told now le zero line behind answer later at given = absurd cc
told_moment names tells b w h found from (l ∷ lines) [] es to held new a told now le (suc n) line behind answer later at given = absurd cc
told_moment names tells b w h found from (l ∷ lines) (x ∷ answers) es to held new a told now le zero line behind answer later at given =
    let first : l ≡ line = cc in
    let said : x ≡ answer = cc in
    record {
      moment = first_moment tells b w h found from l lines x answers es to held new a le line answer first said;
      told_before = now;
      told_after = told.0;
    }
told_moment names tells b w h found from (l ∷ lines) (x ∷ answers) es to held new a told now le (suc n) line behind answer later at given =
    told_moment names tells b w h found a.0 lines answers a.2 to a.3 new a.8 told.1 told.0 (omega (arith, le, a.4)) n line behind answer later at given

-- the areas that a line asks for are asked for by all lines
pub asked_of_line : (n : List ℕ) (lines : List Line) (number : ℕ) (line : Line) (behind : List Line) → drop number lines ≡ line ∷ behind → IsOneOf n (area_asked line.command) → IsOneOf n (areas_asked lines)
asked_of_line n [] zero line behind at one = absurd cc
asked_of_line n [] (suc k) line behind at one = absurd cc
asked_of_line n (l ∷ lines) zero line behind at one =
    let first : l ≡ line = cc in
    one_front n (area_asked l.command) (areas_asked lines) (subst (λ (y : Line). IsOneOf n (area_asked y.command)) (sym first) one)
asked_of_line n (l ∷ lines) (suc k) line behind at one = one_back n (area_asked l.command) (areas_asked lines) (asked_of_line n lines k line behind at one)
