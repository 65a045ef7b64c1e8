-- Which line is refused, where some stand there as they have to be.
use Rattle.std.proofs.Common.{◌≡◌, ◌≢◌, ℕ, ◌+◌, List, [], ◌∷◌, ◌++◌, codes, length, Option, Some, None, Ok, Err, refl, sym, ap, subst, ◌∙◌, arith, inl, inr}
use Rattle.std.proofs.lemmas.List.{append_assoc, length-append}
use Rattle.lsn_core.specs.Names.{IsLsnText}
use Rattle.lsn_core.specs.declared.lsn.Lsn.{Lsn}
use Rattle.backup_label.specs.declared.label.Label.{Label}
use Rattle.backup_label.specs.Label.{LabelLine, Start, Checkpoint, Method, From, Time, Name, Timeline, PriorStart, PriorTimeline, full_lines, prior_lines, key_of, Lines, LineOf, SomeLine, HasKeyLine, LacksNext, MayEnd, IsKeyLine, IsStartValue, IsTimelineValue, IsLabel, IsLineRefused, IsLabelRefusedAt, LabelAnswer}
use Rattle.backup_label.specs.declared.reading.LabelFault.{LabelFault}
use Rattle.backup_label.specs.declared.reading.LabelFault.TheVariants.{Line, NoMemory}
use Rattle.backup_label.specs.Inside.{label_with, front_lines, middle_lines, FrontAnswer, MiddleAnswer, PriorAnswer}

-- ---- lines of some label

origin : Lsn
origin = record { 0 = 0 }

pub some_start : (text tail : List ℕ) (at : Lsn) → HasKeyLine (key_of Start) (λ v. IsStartValue v at.0) text tail → SomeLine Start text tail
some_start text tail at has = (label_with at origin [] [] 0 None, has)

pub some_checkpoint : (text tail : List ℕ) (at : Lsn) → HasKeyLine (key_of Checkpoint) (λ v. IsLsnText v at.0) text tail → SomeLine Checkpoint text tail
some_checkpoint text tail at has = (label_with origin at [] [] 0 None, has)

pub some_method : (text tail : List ℕ) → HasKeyLine (key_of Method) (λ v. v ≡ codes "streamed") text tail → SomeLine Method text tail
some_method text tail has = (label_with origin origin [] [] 0 None, has)

pub some_time : (value text tail : List ℕ) → IsKeyLine (key_of Time) value text tail → SomeLine Time text tail
some_time value text tail is = (label_with origin origin value [] 0 None, (value, is, refl))

pub some_name : (value text tail : List ℕ) → IsKeyLine (key_of Name) value text tail → SomeLine Name text tail
some_name value text tail is = (label_with origin origin [] value 0 None, (value, is, refl))

pub some_prior : (text tail : List ℕ) (at : Lsn) → HasKeyLine (key_of PriorStart) (λ v. IsLsnText v at.0) text tail → SomeLine PriorStart text tail
some_prior text tail at has = (label_with origin origin [] [] 0 (Some (at, 0)), (has.0, has.1, ((at, 0), refl, has.2)))

pub some_prior_timeline : (text tail : List ℕ) (n : ℕ) → HasKeyLine (key_of PriorTimeline) (λ v. IsTimelineValue v n) text tail → SomeLine PriorTimeline text tail
some_prior_timeline text tail n has = (label_with origin origin [] [] 0 (Some (origin, n)), (has.0, has.1, ((origin, n), refl, has.2)))

-- ---- lines one after another

pub join : (P : LabelLine → List ℕ → List ℕ → Type 0) (a b : List LabelLine) (x y z : List ℕ) → Lines P a x y → Lines P b y z → Lines P (a ++ b) x z
join P [] b x y z e l = subst (λ (t : List ℕ). Lines P b t z) (sym e) l
join P (line ∷ lines) b x y z l m = (l.0, l.1, join P lines b l.0 y z l.2 m)

pub some_lines : (l : Label) (lines : List LabelLine) (text rest : List ℕ) → Lines (LineOf l) lines text rest → Lines SomeLine lines text rest
some_lines l [] text rest e = e
some_lines l (line ∷ lines) text rest m = (m.0, (l, m.1), some_lines l lines m.0 rest m.2)

-- ---- the first line that is refused

pub refuse : (taken more : List LabelLine) (before : ℕ) (text rest : List ℕ) → Lines SomeLine taken text rest → LacksNext more rest → (MayEnd more → rest ≢ []) → IsLineRefused (taken ++ more) before text (before + length taken + 1)
refuse taken more before text rest read missing goes_on =
    record { taken = taken; more = more; parts = refl; rest = rest; read = read; missing = missing; goes_on = goes_on; number = refl }

-- a label may not end where a number of lines is still to come that is neither 2 nor 0
pub no_end : (more : List LabelLine) (rest : List ℕ) → (length more ≡ 2 → ⊥) → (length more ≡ 0 → ⊥) → MayEnd more → rest ≢ []
no_end more rest two none (inl e) = absurd (two (ap length e))
no_end more rest two none (inr e) = absurd (none (ap length e))

-- behind lines that are there
pub behind : (a lines : List LabelLine) (before after : ℕ) (text middle : List ℕ) (n : ℕ) → Lines SomeLine a text middle → after ≡ before + length a → IsLineRefused lines after middle n → IsLineRefused (a ++ lines) before text n
behind a lines before after text middle n read e r = record {
  taken = a ++ r.taken;
  more = r.more;
  parts = ap (λ (l : List LabelLine). a ++ l) r.parts ∙ sym (append_assoc a r.taken r.more);
  rest = r.rest;
  read = join SomeLine a r.taken text middle r.rest read r.read;
  missing = r.missing;
  goes_on = r.goes_on;
  number = omega (arith, r.number, e, length-append a r.taken);
}

-- the label that is read
pub read_whole : (start checkpoint : Lsn) (time label : List ℕ) (timeline : ℕ) (prior : Option (Lsn × ℕ)) (text second third : List ℕ)
    → FrontAnswer text (Ok (start, checkpoint, second)) → MiddleAnswer second (Ok (time, label, timeline, third)) → PriorAnswer third (Ok prior) → IsLabel text (label_with start checkpoint time label timeline prior)
read_whole start checkpoint time label timeline None text second third f m p =
    let l = label_with start checkpoint time label timeline None in
    join (LineOf l) front_lines middle_lines text second [] (f time label timeline None) (join (LineOf l) middle_lines [] second third [] (m start checkpoint None) (p start checkpoint time label timeline))
read_whole start checkpoint time label timeline (Some prior) text second third f m p =
    let l = label_with start checkpoint time label timeline (Some prior) in
    join (LineOf l) front_lines (middle_lines ++ prior_lines) text second [] (f time label timeline (Some prior)) (join (LineOf l) middle_lines prior_lines second third [] (m start checkpoint (Some prior)) (p start checkpoint time label timeline))

-- lines that are refused behind those that were read
pub front_read : (start checkpoint : Lsn) (text second : List ℕ) → FrontAnswer text (Ok (start, checkpoint, second)) → Lines SomeLine front_lines text second
front_read start checkpoint text second f = some_lines (label_with start checkpoint [] [] 0 None) front_lines text second (f [] [] 0 None)

pub middle_read : (time label : List ℕ) (timeline : ℕ) (text third : List ℕ) → MiddleAnswer text (Ok (time, label, timeline, third)) → Lines SomeLine middle_lines text third
middle_read time label timeline text third m = some_lines (label_with origin origin time label timeline None) middle_lines text third (m origin origin None)

pub behind_front : (text second : List ℕ) (n : ℕ) → Lines SomeLine front_lines text second → IsLineRefused (middle_lines ++ prior_lines) 4 second n → IsLabelRefusedAt text n
behind_front text second n read r = behind front_lines (middle_lines ++ prior_lines) 0 4 text second n read refl r

pub behind_middle : (text second third : List ℕ) (n : ℕ) → Lines SomeLine front_lines text second → Lines SomeLine middle_lines second third → IsLineRefused prior_lines 7 third n → IsLabelRefusedAt text n
behind_middle text second third n read more r = behind_front text second n read (behind middle_lines prior_lines 4 7 second third n more refl r)

-- ---- each line

pub refuse_start : (text : List ℕ) → ((at : ℕ) (tail : List ℕ) → HasKeyLine (key_of Start) (λ v. IsStartValue v at) text tail → ⊥) → IsLabelRefusedAt text 1
refuse_start text none =
    refuse [] (full_lines ++ prior_lines) 0 text text refl (λ tail some. none some.0.start.0 tail some.1) (no_end (full_lines ++ prior_lines) text (λ e. omega (arith, e)) (λ e. omega (arith, e)))

pub refuse_checkpoint : (text second : List ℕ) (start : Lsn) → HasKeyLine (key_of Start) (λ v. IsStartValue v start.0) text second
    → ((at : ℕ) (tail : List ℕ) → HasKeyLine (key_of Checkpoint) (λ v. IsLsnText v at) second tail → ⊥) → IsLabelRefusedAt text 2
refuse_checkpoint text second start first none =
    let more = Checkpoint ∷ (Method ∷ (From ∷ (middle_lines ++ prior_lines))) in
    refuse (Start ∷ []) more 0 text second (second, some_start text second start first, refl) (λ tail some. none some.0.checkpoint.0 tail some.1) (no_end more second (λ e. omega (arith, e)) (λ e. omega (arith, e)))

pub refuse_method : (text second third : List ℕ) (start checkpoint : Lsn) → HasKeyLine (key_of Start) (λ v. IsStartValue v start.0) text second → HasKeyLine (key_of Checkpoint) (λ v. IsLsnText v checkpoint.0) second third
    → ((tail : List ℕ) → HasKeyLine (key_of Method) (λ v. v ≡ codes "streamed") third tail → ⊥) → IsLabelRefusedAt text 3
refuse_method text second third start checkpoint first next none =
    let more = Method ∷ (From ∷ (middle_lines ++ prior_lines)) in
    refuse (Start ∷ (Checkpoint ∷ [])) more 0 text third (second, some_start text second start first, (third, some_checkpoint second third checkpoint next, refl)) (λ tail some. none tail some.1) (no_end more third (λ e. omega (arith, e)) (λ e. omega (arith, e)))

pub refuse_from : (text second third fourth : List ℕ) (start checkpoint : Lsn) → HasKeyLine (key_of Start) (λ v. IsStartValue v start.0) text second → HasKeyLine (key_of Checkpoint) (λ v. IsLsnText v checkpoint.0) second third
    → HasKeyLine (key_of Method) (λ v. v ≡ codes "streamed") third fourth → ((tail : List ℕ) → HasKeyLine (key_of From) (λ v. v ≡ codes "primary") fourth tail → ⊥) → IsLabelRefusedAt text 4
refuse_from text second third fourth start checkpoint first next method none =
    let more = From ∷ (middle_lines ++ prior_lines) in
    refuse (Start ∷ (Checkpoint ∷ (Method ∷ []))) more 0 text fourth (second, some_start text second start first, (third, some_checkpoint second third checkpoint next, (fourth, some_method third fourth method, refl))) (λ tail some. none tail some.1)
    (no_end more fourth (λ e. omega (arith, e)) (λ e. omega (arith, e)))

pub refuse_time : (text : List ℕ) → ((value tail : List ℕ) → IsKeyLine (key_of Time) value text tail → ⊥) → IsLineRefused (middle_lines ++ prior_lines) 4 text 5
refuse_time text none =
    refuse [] (middle_lines ++ prior_lines) 4 text text refl (λ tail some. none some.1.0 tail some.1.1) (no_end (middle_lines ++ prior_lines) text (λ e. omega (arith, e)) (λ e. omega (arith, e)))

pub refuse_name : (text second time : List ℕ) → IsKeyLine (key_of Time) time text second → ((value tail : List ℕ) → IsKeyLine (key_of Name) value second tail → ⊥) → IsLineRefused (middle_lines ++ prior_lines) 4 text 6
refuse_name text second time first none =
    let more = Name ∷ (Timeline ∷ prior_lines) in
    refuse (Time ∷ []) more 4 text second (second, some_time time text second first, refl) (λ tail some. none some.1.0 tail some.1.1) (no_end more second (λ e. omega (arith, e)) (λ e. omega (arith, e)))

pub refuse_timeline : (text second third time name : List ℕ) → IsKeyLine (key_of Time) time text second → IsKeyLine (key_of Name) name second third
    → ((n : ℕ) (tail : List ℕ) → HasKeyLine (key_of Timeline) (λ v. IsTimelineValue v n) third tail → ⊥) → IsLineRefused (middle_lines ++ prior_lines) 4 text 7
refuse_timeline text second third time name first next none =
    let more = Timeline ∷ prior_lines in
    refuse (Time ∷ (Name ∷ [])) more 4 text third (second, some_time time text second first, (third, some_name name second third next, refl)) (λ tail some. none some.0.timeline tail some.1)
    (no_end more third (λ e. omega (arith, e)) (λ e. omega (arith, e)))

pub refuse_prior : (text : List ℕ) → text ≢ [] → ((at : ℕ) (tail : List ℕ) → HasKeyLine (key_of PriorStart) (λ v. IsLsnText v at) text tail → ⊥) → IsLineRefused prior_lines 7 text 8
refuse_prior text more none = refuse [] prior_lines 7 text text refl (λ tail some. none some.1.2.0.0.0 tail (some.1.0, some.1.1, some.1.2.2)) (λ _. more)

pub refuse_prior_timeline : (text second : List ℕ) (start : Lsn) → HasKeyLine (key_of PriorStart) (λ v. IsLsnText v start.0) text second
    → ((n : ℕ) (tail : List ℕ) → HasKeyLine (key_of PriorTimeline) (λ v. IsTimelineValue v n) second tail → ⊥) → IsLineRefused prior_lines 7 text 9
refuse_prior_timeline text second start first none =
    let more = PriorTimeline ∷ [] in
    refuse (PriorStart ∷ []) more 7 text second (second, some_prior text second start first, refl) (λ tail some. none some.1.2.0.1 tail (some.1.0, some.1.1, some.1.2.2)) (no_end more second (λ e. omega (arith, e)) (λ e. omega (arith, e)))

pub refuse_more : (text second third : List ℕ) (start : Lsn) (n : ℕ) → HasKeyLine (key_of PriorStart) (λ v. IsLsnText v start.0) text second → HasKeyLine (key_of PriorTimeline) (λ v. IsTimelineValue v n) second third → third ≢ [] → IsLineRefused prior_lines 7 text 10
refuse_more text second third start n first next more =
    refuse prior_lines [] 7 text third (second, some_prior text second start first, (third, some_prior_timeline second third n next, refl)) tt (λ _. more)

-- ---- what stands there

pub front_is : (text second third fourth fifth : List ℕ) (start checkpoint : Lsn) → HasKeyLine (key_of Start) (λ v. IsStartValue v start.0) text second → HasKeyLine (key_of Checkpoint) (λ v. IsLsnText v checkpoint.0) second third
    → HasKeyLine (key_of Method) (λ v. v ≡ codes "streamed") third fourth → HasKeyLine (key_of From) (λ v. v ≡ codes "primary") fourth fifth → FrontAnswer text (Ok (start, checkpoint, fifth))
front_is text second third fourth fifth start checkpoint first next method from = λ time label timeline prior. (second, first, (third, next, (fourth, method, (fifth, from, refl))))

pub middle_is : (text second third fourth time name : List ℕ) (n : ℕ) → IsKeyLine (key_of Time) time text second → IsKeyLine (key_of Name) name second third → HasKeyLine (key_of Timeline) (λ v. IsTimelineValue v n) third fourth
    → MiddleAnswer text (Ok (time, name, n, fourth))
middle_is text second third fourth time name n first next last = λ start checkpoint prior. (second, (time, first, refl), (third, (name, next, refl), (fourth, last, refl)))

pub prior_is : (text second third : List ℕ) (at : Lsn) (n : ℕ) → HasKeyLine (key_of PriorStart) (λ v. IsLsnText v at.0) text second → HasKeyLine (key_of PriorTimeline) (λ v. IsTimelineValue v n) second third → third ≡ []
    → PriorAnswer text (Ok (Some (at, n)))
prior_is text second third at n first next e = λ start checkpoint time label timeline. (second, (first.0, first.1, ((at, n), refl, first.2)), (third, (next.0, next.1, ((at, n), refl, next.2)), e))

-- ---- what is refused behind lines that were read

pub refused_middle : (text second : List ℕ) (fault : LabelFault) → Lines SomeLine front_lines text second → MiddleAnswer second (Err fault) → LabelAnswer text (Err fault)
refused_middle text second (Line n) read r = behind_front text second n read r
refused_middle text second NoMemory read r = tt

pub refused_prior : (text second third : List ℕ) (fault : LabelFault) → Lines SomeLine front_lines text second → Lines SomeLine middle_lines second third → PriorAnswer third (Err fault) → LabelAnswer text (Err fault)
refused_prior text second third (Line n) read more r = behind_middle text second third n read more r
refused_prior text second third NoMemory read more r = tt
