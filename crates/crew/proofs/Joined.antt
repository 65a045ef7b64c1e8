-- A worker's answers over the finished history.
use Rattle.std.proofs.Common.{◌≡◌, ℕ, ◌+◌, ◌==◌, ◌&&◌, Bool, true, false, cond, List, [], ◌∷◌, ◌++◌, length, take, drop, Option, Some, is_some, refl, ap, sym, subst, ◌∙◌, arith, inl}
use Rattle.std.proofs.lemmas.Bool.Decides.{nat_tests}
use Rattle.std.proofs.lemmas.List.{take-append-drop}
use Rattle.std.proofs.lemmas.List.Elements.{filter-append}
use mathlib.Core.List.{IsPrefix}
use Rattle.vault.specs.Site.{Areas}
use Rattle.history.specs.declared.op.Op.{Op}
use Rattle.history.specs.Entry.{Entry}
use Rattle.store_locks.specs.Seen.{Seen, is_number, is_by, accepted_by, marks_by}
use Rattle.scripts.specs.declared.script.Command.{Command}
use Rattle.scripts.specs.declared.script.Line.{Line}
use Rattle.run_answers.specs.declared.answer.Answer.{Answer}
use Rattle.run_answers.specs.declared.answer.Answer.TheVariants as answer
use Rattle.scripts.specs.Orders.{op_asked, grow_ops}
use Rattle.crew.specs.Run.{Basis, Made, LineAnswer, Answered, RunsLines, IsAnswered, CrewIsJoined}
use Rattle.crew.proofs.Lists.{prefix_length, cut_at, around, IsSublist, sub_front, sub_join, sub_whole}
use Rattle.crew.proofs.Moments.{answered_later}

-- ---- what the answers name are commands of the worker, in their order

same_number : (n : ℕ) → (n == n) ≡ true
same_number n = grind (arith, nat_tests)

counts : (w : ℕ) (b : Bool) → b ≡ true → (b && true) ≡ true
counts w true e = refl
counts w false e = e

mine_is : (w : ℕ) (e : Entry) (n : ℕ) → e.worker ≡ Some w → e.seq ≡ Some n → is_by w e ≡ true
mine_is w e n by seq =
    subst (λ (o : Option ℕ). (is_number w o && is_some e.seq) ≡ true) (sym by)
    (subst (λ (o : Option ℕ). (is_number w (Some w) && is_some o) ≡ true) (sym seq) (counts w (w == w) (same_number w)))

filter_first : (w : ℕ) (e : Entry) (rest : List Entry) → is_by w e ≡ true → accepted_by w (e ∷ rest) ≡ e ∷ accepted_by w rest
filter_first w e rest h = ap (λ (b : Bool). cond b (e ∷ accepted_by w rest) (accepted_by w rest)) h

made_among : (tells : Type 0) (mib w : ℕ) (g : List Entry) (from : ℕ) (ops : List Op) (es : List Entry) → Made tells mib w g from ops es → IsSublist es (accepted_by w (drop from g))
made_among tells mib w g from [] [] m = tt
made_among tells mib w g from [] (e ∷ es) m = absurd m
made_among tells mib w g from (op ∷ ops) [] m = absurd m
made_among tells mib w g from (op ∷ ops) (e ∷ es) m =
    let cut = around g from m.0 (m.0 + 1) e m.1 m.2.there refl in
    let mine : is_by w e ≡ true = mine_is w e (length (accepted_by w (take m.0 g))) m.2.by m.2.seq in
    let rest : IsSublist es (accepted_by w (drop (m.0 + 1) g)) = made_among tells mib w g (m.0 + 1) ops es m.3 in
    let here : IsSublist (e ∷ es) (accepted_by w (e ∷ drop (m.0 + 1) g)) = subst (λ (xs : List Entry). IsSublist (e ∷ es) xs) (sym (filter_first w e (drop (m.0 + 1) g) mine)) (inl (refl, rest)) in
    subst (λ (xs : List Entry). IsSublist (e ∷ es) (accepted_by w xs)) (sym cut.1)
    (subst (λ (xs : List Entry). IsSublist (e ∷ es) xs) (sym (filter-append (is_by w) cut.0 (e ∷ drop (m.0 + 1) g))) (sub_front (e ∷ es) (accepted_by w (e ∷ drop (m.0 + 1) g)) (accepted_by w cut.0) here))

none_among : (es xs : List Entry) → es ≡ [] → IsSublist es xs
none_among es xs e = subst (λ (ys : List Entry). IsSublist ys xs) (sym e) tt

answer_among : (tells : Type 0) (b : Basis) (w from : ℕ) (g : List Entry) (l : Command) (x : Answer) (es : List Entry) (held mid : Areas) → LineAnswer tells b w from g l x es held mid → IsSublist es (accepted_by w (drop from g))
answer_among tells b w from g l (answer.Accepted place) es held mid a = made_among tells b.settings.segment w g from (op_asked a.0 ∷ []) es a.2
answer_among tells b w from g l (answer.Grown k place) es held mid a = made_among tells b.settings.segment w g from (grow_ops a.0 a.1 k) es a.3
answer_among tells b w from g l (answer.Stopped k why) es held mid a = made_among tells b.settings.segment w g from (grow_ops a.0 a.2 k) es a.5
answer_among tells b w from g l (answer.Refused why) es held mid a = none_among es (accepted_by w (drop from g)) a.2
answer_among tells b w from g l (answer.Redo redo) es held mid a = none_among es (accepted_by w (drop from g)) a.1
answer_among tells b w from g l (answer.CheckpointRefused why) es held mid a = none_among es (accepted_by w (drop from g)) a.1
answer_among tells b w from g l (answer.Wrote k) es held mid a = none_among es (accepted_by w (drop from g)) a.2
answer_among tells b w from g l (answer.Published k) es held mid a = none_among es (accepted_by w (drop from g)) a.1
answer_among tells b w from g l (answer.CallFailed why) es held mid a = none_among es (accepted_by w (drop from g)) a.0
answer_among tells b w from g l (answer.Backup start end) es held mid a = none_among es (accepted_by w (drop from g)) a.0
answer_among tells b w from g l (answer.BackupRefused why) es held mid a = none_among es (accepted_by w (drop from g)) a.2
answer_among tells b w from g l (answer.IncrRefused why) es held mid a = none_among es (accepted_by w (drop from g)) a.3
answer_among tells b w from g l answer.NotRun es held mid a = none_among es (accepted_by w (drop from g)) a.0

answered_among : (tells : Type 0) (b : Basis) (w : ℕ) (h : List Entry) (from : ℕ) (lines : List Line) (answers : List Answer) (es : List Entry) (to : ℕ) (held new : Areas) → Answered tells b w h from lines answers es to held new → IsSublist es (accepted_by w (drop from h))
answered_among tells b w h from [] [] es to held new a = none_among es (accepted_by w (drop from h)) a.0
answered_among tells b w h from [] (x ∷ answers) es to held new a = absurd a
answered_among tells b w h from (l ∷ lines) [] es to held new a = absurd a
answered_among tells b w h from (l ∷ lines) (x ∷ answers) es to held new a =
    let cut : drop from h ≡ drop from (take a.0 h) ++ drop a.0 h = cut_at h from a.0 a.4 a.5 in
    let both : accepted_by w (drop from h) ≡ accepted_by w (drop from (take a.0 h)) ++ accepted_by w (drop a.0 h) = ap (accepted_by w) cut ∙ filter-append (is_by w) (drop from (take a.0 h)) (drop a.0 h) in
    let parts : IsSublist (a.1 ++ a.2) (accepted_by w (drop from (take a.0 h)) ++ accepted_by w (drop a.0 h)) =
    sub_join a.1 (accepted_by w (drop from (take a.0 h))) a.2 (accepted_by w (drop a.0 h)) (answer_among tells b w from (take a.0 h) l.command x a.1 held a.3 a.7) (answered_among tells b w h a.0 lines answers a.2 to a.3 new a.8) in
    subst (λ (ys : List Entry). IsSublist ys (accepted_by w (drop from h))) (sym a.6) (subst (λ (xs : List Entry). IsSublist (a.1 ++ a.2) xs) (sym both) parts)

-- ---- the finished history

-- by the ledger these are all of them
all_made : (tells : Type 0) (b : Basis) (w : ℕ) (h : List Entry) (from : ℕ) (lines : List Line) (answers : List Answer) (es : List Entry) (to : ℕ) (held new : Areas) → Answered tells b w h from lines answers es to held new → length es ≡ length (accepted_by w h) → es ≡ accepted_by w h
all_made tells b w h from lines answers es to held new a e =
    let cut : accepted_by w (take from h) ++ accepted_by w (drop from h) ≡ accepted_by w h = sym (filter-append (is_by w) (take from h) (drop from h)) ∙ ap (accepted_by w) (take-append-drop from h) in
    let among : IsSublist es (accepted_by w h) = subst (λ (xs : List Entry). IsSublist es xs) cut (sub_front es (accepted_by w (drop from h)) (accepted_by w (take from h)) (answered_among tells b w h from lines answers es to held new a)) in
    sub_whole es (accepted_by w h) among (omega (arith, e))

joins_worker : (tells : Type 0) (b : Basis) (history : List Entry) (lines : List Line) (answers : List Answer) (held kept : Areas) (old new : Seen) → RunsLines tells b lines old new held kept answers → length old.list ≡ length b.found → old.accepted ≡ 0 → old.marks ≡ 0 → IsPrefix new.list history → new.accepted ≡ length (accepted_by new.worker history) → new.marks ≡ length (marks_by new.worker history)
    → IsAnswered tells b old.worker history (length b.found) lines answers held kept
joins_worker tells b history lines answers held kept old new ran found none unmarked p all marks =
    let w = old.worker in
    let later : Answered tells b w history (length old.list) lines answers ran.made (length new.list) held kept = answered_later tells b w new.list history (length old.list) lines answers ran.made (length new.list) held kept p ran.answered in
    let mine : new.accepted ≡ length (accepted_by w history) = all ∙ ap (λ (n : ℕ). length (accepted_by n history)) ran.stays.worker in
    let counted : new.accepted ≡ old.accepted + length ran.made = ran.counted in
    let whole : ran.made ≡ accepted_by w history = all_made tells b w history (length old.list) lines answers ran.made (length new.list) held kept later (omega (arith, counted, none, mine)) in
    record {
      to = length new.list;
      within = prefix_length new.list history p;
      answered = subst (λ (n : ℕ). Answered tells b w history n lines answers (accepted_by w history) (length new.list) held kept) found
          (subst (λ (es : List Entry). Answered tells b w history (length old.list) lines answers es (length new.list) held kept) whole later);
      marked = omega (arith, ran.marked, unmarked, marks, ap (λ (n : ℕ). length (marks_by n history)) ran.stays.worker);
      order = ran.order;
    }

pub crew_joined : CrewIsJoined
crew_joined tells b history worker lines answers held kept so =
    subst (λ (n : ℕ). IsAnswered (tells ≡ true) b n history (length b.found) lines answers held kept) so.who
    (joins_worker (tells ≡ true) b history lines answers held kept so.old so.new so.ran so.found so.none so.unmarked so.seen so.all so.marks)
