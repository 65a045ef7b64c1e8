-- A growth as far as it has come, and single commands.
use Rattle.std.proofs.Common.{◌≡◌, ℕ, zero, suc, ◌+◌, ◌<◌, ◌≤◌, ◌==◌, if◌then◌else◌, false, List, [], ◌∷◌, ◌++◌, length, refl, ap, sym, subst, ◌∙◌, arith, length-append, append-nil, add-one, rules}
use Rattle.std.specs.Prelude.{Ok, Err}
use Rattle.std.proofs.lemmas.Option.{slice_get_within}
use mathlib.Core.List.{IsPrefix}
use Rattle.lsn_core.specs.Segment.{StoreSettings}
use Rattle.lsn_core.specs.declared.ids.BlockId.{BlockId}
use Rattle.lsn_core.specs.declared.lsn.Place.{Place}
use Rattle.lsn_core.specs.declared.fault.StoreArea.{StoreArea}
use Rattle.history.specs.declared.op.Op.{Op}
use Rattle.history.specs.Entry.{Entry}
use Rattle.store_faults.specs.declared.insert_fault.InsertFault.{InsertFault}
use Rattle.store_faults.specs.declared.insert_fault.InsertFault.TheVariants as insert
use Rattle.store_locks.specs.Seen.{Seen}
use Rattle.scripts.specs.declared.script.Command.TheVariants as command
use Rattle.scripts.specs.declared.order.Order.{Order}
use Rattle.run_answers.specs.declared.answer.Answer.TheVariants.{Accepted, Refused, Grown, Stopped}
use Rattle.scripts.specs.Orders.{op_asked, grow_op, grow_ops}
use Rattle.scripts.specs.Shape.{Shape}
use Rattle.crew.specs.Run.{IsMade, Made, span_end, span_of, TellsFault}
use Rattle.crew.specs.Running.{WentOn, Inserts, CommandRuns}
use Rattle.crew.proofs.Moments.{made_later, made_on}
use Rattle.crew.proofs.Shares.{rose_from}
use Rattle.crew.proofs.Steps.{went_nowhere, went_further}

-- the area that the refusal of a command tells to have failed
insert_failed : (why : InsertFault) (area : StoreArea) → TellsFault area (Refused why) → why ≡ insert.Failed area
insert_failed (insert.Failed other) area t = cc t
insert_failed (insert.NoFork n) area t = absurd cc
insert_failed (insert.ForkExists n) area t = absurd cc
insert_failed (insert.PastEnd n) area t = absurd cc
insert_failed (insert.NoBlock n) area t = absurd cc
insert_failed (insert.BadPage i n) area t = absurd cc
insert_failed (insert.BadFragment i j) area t = absurd cc
insert_failed insert.BlockCount area t = absurd cc
insert_failed insert.TwoRelations area t = absurd cc
insert_failed (insert.ForkFull n) area t = absurd cc
insert_failed (insert.StoreFull n) area t = absurd cc
insert_failed (insert.CutPastEnd n) area t = absurd cc
insert_failed insert.NoMemory area t = absurd cc
insert_failed (insert.SameBlock i) area t = absurd cc
insert_failed (insert.WalFull n) area t = absurd cc

-- ---- one command

pub accepted : (tells : Type 0) (settings : StoreSettings) (order : Order) (old new : Seen) (place : Place) → Inserts tells settings.segment (op_asked order) old new (Ok place) → CommandRuns tells settings (command.Insert order) old new (Accepted place)
accepted tells settings order old new place i = λ when found sums limit held.
    let past : i.1 < length new.list = slice_get_within new.list i.1 i.0 i.3.there in
    record {
      made = i.0 ∷ [];
      went = i.4;
      answered = (order, refl, (i.1, i.2, i.3, omega (arith, past)), i.5, refl);
      risen = λ area t. absurd cc;
      run = refl;
    }

pub refused_line : (tells : Type 0) (settings : StoreSettings) (order : Order) (old new : Seen) (why : InsertFault) → Inserts tells settings.segment (op_asked order) old new (Err why) → CommandRuns tells settings (command.Insert order) old new (Refused why)
refused_line tells settings order old new why i = λ when found sums limit held. record {
  made = [];
  went = i.0;
  answered = (order, refl, refl, i.1, refl);
  risen = λ area t. i.2 area (insert_failed why area t);
  run = refl;
}

-- ---- many

end_more : (end : ℕ) (es : List Entry) (e : Entry) → span_end end (es ++ (e ∷ [])) ≡ e.end
end_more end [] e = refl
end_more end (x ∷ es) e = end_more x.end es e

span_more : (es : List Entry) (e : Entry) (k : ℕ) → length es ≡ k
    → span_of (es ++ (e ∷ [])) ≡ (if k == 0 then span_of (e ∷ []) else record { start = (span_of es).start; end = (span_of (e ∷ [])).end })
span_more [] e zero l = refl
span_more [] e (suc k) l = absurd (omega (arith, l))
span_more (x ∷ es) e zero l = absurd (omega (arith, l))
span_more (x ∷ es) e (suc k) l =
    let no : (suc k == 0) ≡ false = search rules in
    rw no (ap (λ (n : ℕ). record { start = record { 0 = x.start }; end = record { 0 = n } }) (end_more x.end es e))

-- so many commands of a growth were accepted
pub record IsGrowing (tells : Type 0) (mib : ℕ) (old now : Seen) (at : BlockId) (shape : Shape) (k : ℕ) (span : Place) : Type 0 where
  pub made : List Entry
  pub went : WentOn 0 old now made
  pub are : Made tells mib old.worker now.list (length old.list) (grow_ops at shape k) made
  pub span_is : span ≡ span_of made
  pub count_is : length made ≡ k

pub grows_none : (tells : Type 0) (mib : ℕ) (seen : Seen) (at : BlockId) (shape : Shape) (span : Place) → span ≡ span_of [] → IsGrowing tells mib seen seen at shape 0 span
grows_none tells mib seen at shape span e = record { made = []; went = went_nowhere seen; are = omega arith; span_is = e; count_is = refl }

-- a command made behind others, with what is known of the worker before them
made_more : (tells : Type 0) (mib w v : ℕ) (g h : List Entry) (from i : ℕ) (ops : List Op) (es : List Entry) (op : Op) (e : Entry) → v ≡ w → IsPrefix g h → length g ≤ i → IsMade tells mib v h i op e → Made tells mib w g from ops es
    → Made tells mib w h from (ops ++ (op ∷ [])) (es ++ (e ∷ []))
made_more tells mib w v g h from i ops es op e who p past one made = made_on tells mib w g h from i ops es op e p past (subst (λ (n : ℕ). IsMade tells mib n h i op e) who one) made

pub grows_more : (tells : Type 0) (mib : ℕ) (old now new : Seen) (at : BlockId) (shape : Shape) (k j : ℕ) (span next place : Place) → IsGrowing tells mib old now at shape k span → Inserts tells mib (grow_op at shape k) now new (Ok place)
    → next ≡ (if k == 0 then place else record { start = span.start; end = place.end }) → j ≡ k + 1 → IsGrowing tells mib old new at shape j next
grows_more tells mib old now new at shape k j span next place g i n e =
    let one : Entry = i.0 in
    let are : Made tells mib old.worker new.list (length old.list) (grow_ops at shape k ++ (grow_op at shape k ∷ [])) (g.made ++ (one ∷ [])) =
    made_more tells mib old.worker now.worker now.list new.list (length old.list) i.1 (grow_ops at shape k) g.made (grow_op at shape k) one g.went.stays.worker i.4.stays.seen i.2 i.3 g.are in
    record {
      made = g.made ++ (one ∷ []);
      went = went_further old now new g.made (one ∷ []) g.went i.4;
      are = subst (λ (n : ℕ). Made tells mib old.worker new.list (length old.list) (grow_ops at shape n) (g.made ++ (one ∷ []))) (sym (add-one k) ∙ sym e) are;
      span_is = n ∙ ap (λ (p : Place). if k == 0 then p else record { start = span.start; end = p.end }) i.5
          ∙ ap (λ (p : Place). if k == 0 then span_of (one ∷ []) else record { start = p.start; end = (span_of (one ∷ [])).end }) g.span_is ∙ sym (span_more g.made one k g.count_is);
      count_is = omega (arith, length-append g.made (one ∷ []), g.count_is, e);
    }

pub stopped : (tells : Type 0) (settings : StoreSettings) (old now new : Seen) (at : BlockId) (shape : Shape) (k count : ℕ) (span : Place) (why : InsertFault) → IsGrowing tells settings.segment old now at shape k span
    → Inserts tells settings.segment (grow_op at shape k) now new (Err why) → k < count → CommandRuns tells settings (command.Grow at count shape) old new (Stopped k why)
stopped tells settings old now new at shape k count span why g i lt = λ when found sums limit held. record {
  made = g.made;
  went = subst (λ (es : List Entry). WentOn 0 old new es) (append-nil g.made) (went_further old now new g.made [] g.went i.0);
  answered = (
    at,
    count,
    shape,
    refl,
    lt,
    made_later tells settings.segment old.worker now.list new.list (length old.list) (grow_ops at shape k) g.made i.0.stays.seen g.are,
    i.1,
    refl,
  );
  risen = λ area t. rose_from area old now new g.went.shares (i.2 area (insert_failed why area t));
  run = refl;
}

-- all of a growth's commands were
pub grown : (tells : Type 0) (settings : StoreSettings) (old new : Seen) (at : BlockId) (shape : Shape) (count : ℕ) (span : Place) → IsGrowing tells settings.segment old new at shape count span → CommandRuns tells settings (command.Grow at count shape) old new (Grown count span)
grown tells settings old new at shape count span g = λ when found sums limit held. record {
  made = g.made;
  went = g.went;
  answered = (at, shape, refl, g.are, g.span_is, refl);
  risen = λ area t. absurd cc;
  run = refl;
}
