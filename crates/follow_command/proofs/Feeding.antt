-- An input is fed piece by piece.
use Rattle.std.proofs.Common.{◌≡◌, ℕ, ◌+◌, ◌-◌, ◌<◌, ◌≤◌, min, inl, inr, List, [], ◌++◌, length, take, drop, Option, Some, None, IfSome, Result, Ok, Err, refl, sym, ap, subst, ◌∙◌, arith}
use Rattle.std.specs.Prelude.{IsErrAnd}
use Rattle.std.specs.Option.{option_map}
use Rattle.std.proofs.lemmas.List.{take_all, take_at, take_min, take-take, drop-drop, length-take, length-drop}
use Rattle.std.proofs.Math.Seq.{take-add}
use Rattle.lsn_core.specs.declared.lsn.Lsn.{Lsn}
use Rattle.vault.specs.Stream.{TakesFrom}
use Rattle.wal_follow.specs.declared.fault.FollowFault.{FollowFault}
use Rattle.wal_follow.specs.declared.fault.FollowFault.TheVariants as follow
use Rattle.wal_follow.specs.Following.{Following, StandsBehind, FollowsTo, FollowsOn, RefusesStream, FinishGives}
use Rattle.follow_command.specs.declared.input.InputFault.{InputFault}
use Rattle.follow_command.specs.declared.input.InputFault.TheVariants as input
use Rattle.follow_command.specs.Input.{most_input, IsInputFront, IsFed, FeedAnswer, InputAnswer, IsSizedAs, HasRead}

-- ---- a read

pub front_read : (left : Option (List ℕ)) (before now piece : List ℕ) (count : ℕ) → TakesFrom left before now count → count ≤ length now → piece ≡ take count now → IfSome left (λ bytes. IsInputFront bytes piece)
front_read None before now piece count takes few is = tt
front_read (Some bytes) before now piece count takes few is =
    let t = length-take count now in
    let p : length piece ≡ length (take count now) = ap (λ (l : List ℕ). length l) is in
    let size : length piece ≡ count = omega (arith, t, p, few) in
    let within = takes.within in
    let b = length-take count bytes in
    let same : piece ≡ take count bytes = is ∙ (ap (take count) takes.bytes ∙ take_at (take count bytes) (drop count before) count (omega (arith, b, within))) in
    record {
      front = same ∙ ap (λ (n : ℕ). take n bytes) (sym size);
      within = omega (arith, size, within);
      ended = λ none. takes.ended (omega (arith, size, none));
    }

-- ---- a piece

front_less : (bytes piece : List ℕ) (n : ℕ) → IsInputFront bytes piece → n ≤ length piece → take n piece ≡ take n bytes
front_less bytes piece n is few = ap (take n) is.front ∙ take-take n (length piece) bytes few

-- what a follower is fed, of an input that may tell its bytes
pub none_more : (f : Following) (left : Option (List ℕ)) (piece : List ℕ) (room : ℕ) → IfSome left (λ bytes. IsInputFront bytes piece) → length piece ≡ 0 → IfSome left (λ bytes. FeedAnswer f f room bytes (Ok None))
none_more f None piece room front none = tt
none_more f (Some bytes) piece room front none = (front.ended none, refl)

-- the part of a piece for which there is room
module _ (bytes piece front : List ℕ) (room : ℕ) (is : IsInputFront bytes piece) (cut : front ≡ take room piece) where
  front_size : length front ≡ min room (length piece)
  front_size = let t = length-take room piece in let e : length front ≡ length (take room piece) = ap (λ (l : List ℕ). length l) cut in omega (arith, t, e)

  front_of : front ≡ take (length front) bytes
  front_of =
      let size = front_size in
      let few : min room (length piece) ≡ length front = omega (arith, size) in
      cut ∙ (sym (take_min room piece) ∙ (ap (λ (n : ℕ). take n piece) few ∙ front_less bytes piece (length front) is (omega (arith, size))))

pub some_more : (old new : Following) (left : Option (List ℕ)) (piece front : List ℕ) (room more : ℕ) → IfSome left (λ bytes. IsInputFront bytes piece) → front ≡ take room piece → length piece ≤ length front → ((fed : List ℕ) → StandsBehind old fed → FollowsOn old new fed front more) → IfSome left (λ bytes. FeedAnswer old new room bytes (Ok (Some (length piece))))
some_more old new None piece front room more is cut all goes = tt
some_more old new (Some bytes) piece front room more is cut all goes =
    let size = front_size bytes piece front room is cut in
    let same : length front ≡ length piece = omega (arith, size, all) in
    (is.within, λ fed behind. subst (λ (n : ℕ). FollowsTo old new fed (take n bytes)) same (subst (FollowsTo old new fed) (front_of bytes piece front room is cut) (goes fed behind).goes))

pub too_long : (old new : Following) (left : Option (List ℕ)) (piece front : List ℕ) (room more : ℕ) → IfSome left (λ bytes. IsInputFront bytes piece) → front ≡ take room piece → length front < length piece → ((fed : List ℕ) → StandsBehind old fed → FollowsOn old new fed front more) → IfSome left (λ bytes. FeedAnswer old new room bytes (Err (input.Long most_input)))
too_long old new None piece front room more is cut past goes = tt
too_long old new (Some bytes) piece front room more is cut past goes =
    let within = is.within in
    let size = front_size bytes piece front room is cut in
    let same : length front ≡ room = omega (arith, size, past) in
    (refl, omega (arith, past, within, same), λ fed behind. subst (λ (n : ℕ). FollowsTo old new fed (take n bytes)) same (subst (FollowsTo old new fed) (front_of bytes piece front room is cut) (goes fed behind).goes))

pub is_refused : (old new : Following) (left : Option (List ℕ)) (piece front : List ℕ) (room : ℕ) (why : FollowFault) → IfSome left (λ bytes. IsInputFront bytes piece) → front ≡ take room piece → ((fed : List ℕ) → StandsBehind old fed → RefusesStream old.span.mib old.relseg (fed ++ front) why) → IfSome left (λ bytes. FeedAnswer old new room bytes (Err (input.Wal why)))
is_refused old new None piece front room why is cut refused = tt
is_refused old new (Some bytes) piece front room why is cut refused =
    let size = front_size bytes piece front room is cut in
    record {
      count = length front;
      within = omega (arith, size);
      refused = λ fed behind. subst (λ (l : List ℕ). RefusesStream old.span.mib old.relseg (fed ++ l) why) (front_of bytes piece front room is cut) (refused fed behind);
    }

-- an error that is passed on
pub err_is : {A : Type 0} (r : Result A InputFault) (why : InputFault) (P : Result A InputFault → Type 0) → IsErrAnd r (λ e. e ≡ why) → P (Err why) → P r
err_is (Ok x) why P is p = absurd is
err_is (Err e) why P is p = subst (λ (x : InputFault). P (Err x)) (sym is) p

-- ---- an input

-- of some bytes so many were fed
pub record FedOf (old now : Following) (bytes : List ℕ) (total : ℕ) : Type 0 where
  pub few : total ≤ length bytes
  pub stands : StandsBehind now (take total bytes)
  pub mib : now.span.mib ≡ old.span.mib
  pub relseg : now.relseg ≡ old.relseg

-- of an input so many were
pub record HasFed (old now : Following) (left rest : Option (List ℕ)) (total : ℕ) : Type 0 where
  pub within : total ≤ most_input
  pub rest_is : rest ≡ option_map (drop total) left
  pub told : IfSome left (λ bytes. FedOf old now bytes total)

pub none_fed : (f : Following) (left : Option (List ℕ)) → StandsBehind f [] → HasFed f f left left 0
none_fed f None is = record { within = omega arith; rest_is = refl; told = tt }
none_fed f (Some bytes) is = record {
  within = omega arith;
  rest_is = refl;
  told = record { few = omega arith; stands = is; mib = refl; relseg = refl };
}

some_same : (a b : List ℕ) → a ≡ b → ◌≡◌ {A = Option (List ℕ)} (Some a) (Some b)
some_same a b e = ap (λ (x : List ℕ). Some x) e

fed_on : (old now next : Following) (bytes : List ℕ) (total count : ℕ) → FedOf old now bytes total → count ≤ length (drop total bytes) → IsFed now next (take count (drop total bytes)) → FedOf old next bytes (total + count)
fed_on old now next bytes total count fed few is =
    let goes = is (take total bytes) fed.stands in
    let d = length-drop total bytes in
    let so_far = fed.few in
    record {
      few = omega (arith, d, few, so_far);
      stands = subst (StandsBehind next) (sym (take-add total count bytes)) goes.follows;
      mib = goes.mib ∙ fed.mib;
      relseg = goes.relseg ∙ fed.relseg;
    }

-- a piece more
pub more_fed : (old now next : Following) (left rest later : Option (List ℕ)) (total count : ℕ) → HasFed old now left rest total → count ≤ most_input - total → IfSome rest (λ bytes. FeedAnswer now next (most_input - total) bytes (Ok (Some count))) → later ≡ option_map (drop count) rest → HasFed old next left later (total + count)
more_fed old now next None rest later total count fed within answer left_is =
    let so_far = fed.within in
    record {
      within = omega (arith, so_far, within);
      rest_is = left_is ∙ ap (option_map (drop count)) fed.rest_is;
      told = tt;
    }
more_fed old now next (Some bytes) rest later total count fed within answer left_is =
    let so_far = fed.within in
    let here = subst (λ (r : Option (List ℕ)). IfSome r (λ b. FeedAnswer now next (most_input - total) b (Ok (Some count)))) fed.rest_is answer in
    record {
      within = omega (arith, so_far, within);
      rest_is = left_is ∙ (ap (option_map (drop count)) fed.rest_is ∙ some_same (drop count (drop total bytes)) (drop (total + count) bytes) (drop-drop count total bytes));
      told = fed_on old now next bytes total count fed.told here.0 here.1;
    }

-- the input's end
all_fed : (bytes : List ℕ) (total : ℕ) → total ≤ length bytes → drop total bytes ≡ [] → (take total bytes ≡ bytes) × (length bytes ≡ total)
all_fed bytes total few none =
    let d = length-drop total bytes in
    let e : length (drop total bytes) ≡ 0 = ap (λ (l : List ℕ). length l) none in
    (take_all total bytes (omega (arith, d, e)), omega (arith, d, e, few))

pub ended_left : (old now next : Following) (left rest later : Option (List ℕ)) (total : ℕ) → HasFed old now left rest total → IfSome rest (λ bytes. FeedAnswer now next (most_input - total) bytes (Ok None)) → later ≡ option_map (drop 0) rest → later ≡ option_map (λ bytes. []) left
ended_left old now next None rest later total fed answer left_is = left_is ∙ ap (option_map (drop 0)) fed.rest_is
ended_left old now next (Some bytes) rest later total fed answer left_is =
    let here = subst (λ (r : Option (List ℕ)). IfSome r (λ b. FeedAnswer now next (most_input - total) b (Ok None))) fed.rest_is answer in
    left_is ∙ (ap (option_map (drop 0)) fed.rest_is ∙ some_same (drop 0 (drop total bytes)) [] here.0)

-- what is told of the end of it
pub finished : (old now next last : Following) (left rest : Option (List ℕ)) (total : ℕ) (end : Lsn) → HasFed old now left rest total → IfSome rest (λ bytes. FeedAnswer now next (most_input - total) bytes (Ok None)) → last ≡ next → ((fed : List ℕ) → StandsBehind next fed → FinishGives next fed (Ok end)) → IfSome left (λ bytes. InputAnswer old last bytes (Ok end))
finished old now next last None rest total end fed answer same gives = tt
finished old now next last (Some bytes) rest total end fed answer same gives =
    let here = subst (λ (r : Option (List ℕ)). IfSome r (λ b. FeedAnswer now next (most_input - total) b (Ok None))) fed.rest_is answer in
    let all = all_fed bytes total fed.told.few here.0 in
    let within = fed.within in
    let size = all.1 in
    let stands : StandsBehind next bytes = subst (λ (f : Following). StandsBehind f bytes) (sym here.1) (subst (StandsBehind now) all.0 fed.told.stands) in
    subst (λ (f : Following). InputAnswer old f bytes (Ok end)) (sym same) (omega (arith, within, size), stands, gives bytes stands, subst (IsSizedAs old) (sym here.1) (fed.told.mib, fed.told.relseg))

pub torn : (old now next last : Following) (left rest : Option (List ℕ)) (total : ℕ) (why : FollowFault) → HasFed old now left rest total → IfSome rest (λ bytes. FeedAnswer now next (most_input - total) bytes (Ok None)) → last ≡ record next { fault = Some why } → ((fed : List ℕ) → StandsBehind next fed → FinishGives next fed (Err why)) → IfSome left (λ bytes. InputAnswer old last bytes (Err (input.Wal why)))
torn old now next last None rest total why fed answer same gives = tt
torn old now next last (Some bytes) rest total why fed answer same gives =
    let here = subst (λ (r : Option (List ℕ)). IfSome r (λ b. FeedAnswer now next (most_input - total) b (Ok None))) fed.rest_is answer in
    let all = all_fed bytes total fed.told.few here.0 in
    let within = fed.within in
    let size = all.1 in
    let stands : StandsBehind next bytes = subst (λ (f : Following). StandsBehind f bytes) (sym here.1) (subst (StandsBehind now) all.0 fed.told.stands) in
    inr (omega (arith, within, size), subst (λ (f : Following). FinishGives f bytes (Err why)) (sym same) (as_before next bytes why (gives bytes stands)), subst (IsSizedAs old) (sym same) (subst (IsSizedAs old) (sym here.1) (fed.told.mib, fed.told.relseg)), subst (λ (f : Following). HasRead f bytes) (sym same) (stands.rs, stands.followed))
  where
    as_before : (f : Following) (bytes : List ℕ) (why : FollowFault) → FinishGives f bytes (Err why) → FinishGives (record f { fault = Some why }) bytes (Err why)
    as_before f bytes (follow.Damaged d) is = is
    as_before f bytes (follow.BadDelta at) is = is
    as_before f bytes follow.NoMemory is = is

-- a piece is refused, or is too long
refused_from : (old now next : Following) (bytes : List ℕ) (total : ℕ) (why : InputFault) → total ≤ most_input → FedOf old now bytes total → FeedAnswer now next (most_input - total) (drop total bytes) (Err why) → InputAnswer old next bytes (Err why)
refused_from old now next bytes total (input.Input why) within fed is = tt
refused_from old now next bytes total (input.Long n) within fed is =
    let d = length-drop total bytes in
    let more = is.1 in
    let goes = is.2 (take total bytes) fed.stands in
    let whole : total + (most_input - total) ≡ most_input = omega (arith, within) in
    (is.0, omega (arith, d, more, within), subst (λ (n : ℕ). StandsBehind next (take n bytes)) whole (subst (StandsBehind next) (sym (take-add total (most_input - total) bytes)) goes.follows), (goes.mib ∙ fed.mib, goes.relseg ∙ fed.relseg))
refused_from old now next bytes total (input.Wal why) within fed is =
    let few = is.within in
    let refused = is.refused (take total bytes) fed.stands in
    inl (
      total + is.count,
      omega (arith, few, within),
      subst (λ (m : ℕ). RefusesStream m old.relseg (take (total + is.count) bytes) why) fed.mib
          (subst (λ (r : ℕ). RefusesStream now.span.mib r (take (total + is.count) bytes) why) fed.relseg
          (subst (λ (l : List ℕ). RefusesStream now.span.mib now.relseg l why) (sym (take-add total is.count bytes)) refused)),
    )

pub refused_input : (old now next : Following) (left rest : Option (List ℕ)) (total : ℕ) (why : InputFault) → HasFed old now left rest total → IfSome rest (λ bytes. FeedAnswer now next (most_input - total) bytes (Err why)) → IfSome left (λ bytes. InputAnswer old next bytes (Err why))
refused_input old now next None rest total why fed answer = tt
refused_input old now next (Some bytes) rest total why fed answer =
    refused_from old now next bytes total why fed.within fed.told
    (subst (λ (r : Option (List ℕ)). IfSome r (λ b. FeedAnswer now next (most_input - total) b (Err why))) fed.rest_is answer)
