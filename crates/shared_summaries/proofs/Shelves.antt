-- An area of summaries, as one finds it under its lock.
use Rattle.std.proofs.Common.{◌≡◌, inl, inr, ℕ, ◌<◌, ◌≤◌, List, [], ◌∷◌, ◌++◌, length, Option, Some, None, IsSome, IfSome, option_map, Result, Ok, Err, refl, sym, ap, subst, ◌∙◌, arith, append_assoc}
use Rattle.std.specs.Global.{Vec}
use Rattle.std.specs.FinMap.{keys}
use mathlib.Core.List.{IsPrefix}
use Rattle.lsn_core.specs.Files.{Files}
use Rattle.vault.specs.Area.{Related}
use Rattle.vault.specs.Site.{state_in}
use Rattle.vault.specs.declared.area.Vault.{Ghosts}
use Rattle.history.specs.Entry.{Entry}
use Rattle.history.specs.fuzzy_copies.Orderly.{IsOrderly}
use Rattle.wal_summary.specs.declared.summary.Summary.{Summary}
use Rattle.summary_store.specs.Kept.{AreKept, end_behind}
use Rattle.summary_store.specs.Expiry.{AreHeld, AreGone, young}
use Rattle.summary_store.specs.Honest.{IsHonest}
use Rattle.store_locks.specs.Locked.{RunsOn}
use Rattle.shared_summaries.specs.summary_publish.Entries.{first_start}
use Rattle.shared_summaries.specs.summary_publish.Published.{AreNext, Advances, IsAdvanced, AdvanceAnswers, AreListed, AreThose, GoesOnFrom}
use Rattle.store_locks.specs.Records.{IsPlaceOf}
use Rattle.shared_summaries.specs.summary_publish.Partly.{LeavesFiles, MayAdvance, AdvancesPartly}
use Rattle.shared_summaries.specs.declared.summary_publish.known.Known.{Known}
use Rattle.shared_summaries.specs.Inside.{AreKeptThere}
use Rattle.shared_summaries.specs.summary_publish.True.{IsTrue}
use Rattle.store_faults.specs.declared.advance_fault.AdvanceFault.{AdvanceFault}
use Rattle.store_faults.specs.declared.advance_fault.AdvanceFault.TheVariants.{Gap, Store}
use Rattle.shared_summaries.proofs.summary_publish.Since.{runs_begin_true, true_is_honest, true_stays, partly_true, crew_sums_up}
use Rattle.shared_summaries.proofs.summary_publish.Going.{partly_listed}
use Rattle.shared_summaries.proofs.summary_publish.Adding.{same_list}
use Rattle.shared_summaries.proofs.summary_publish.KeptFiles.{kept_once}
use Rattle.shared_summaries.proofs.summary_publish.Later.{prefix_self, prefix_trans}
use Rattle.shared_summaries.proofs.summary_publish.Ranges.{orderly_front}
use Rattle.shared_summaries.specs.Grown.{HasGrown}
use Rattle.shared_summaries.specs.Shelf.{IsTrueFor, HasGrownFor, AreShelved, AreKeptOn, states, HasPublished, HasCovered}
use Rattle.shared_summaries.specs.Laws.{AnswersSumUp, CrewsKeepHonest}
use Rattle.shared_summaries.proofs.Grown.{runs_begin_grown, publishing_grows}

tail_same : (x y : Entry) (xs ys : List Entry) → x ∷ xs ≡ y ∷ ys → xs ≡ ys
tail_same x y xs ys e = cc

cancelled : (xs ys zs : List Entry) → xs ++ ys ≡ xs ++ zs → ys ≡ zs
cancelled [] ys zs e = e
cancelled (x ∷ xs) ys zs e = cancelled xs ys zs (tail_same x x (xs ++ ys) (xs ++ zs) e)

when_some : (o : Option Files) (P Q : Files → Type 0) → ((m : Files) → P m → Q m) → IfSome o P → IfSome o Q
when_some None P Q f h = tt
when_some (Some m) P Q f h = f m h

-- what runs on begins with what was found
pub begins_so : (found list : List Entry) → RunsOn found list → IsPrefix found list
begins_so found list runs = (runs.own, sym runs.all)

-- ---- true for more

pub true_on : (found h g : List Entry) (begun files : Option Files) → IsPrefix found h → IsPrefix h g → IsTrueFor found begun h files → IsTrueFor found begun g files
true_on found h g begun files starts prefix true_h order honest own e =
    let first : List Entry = starts.0 in
    let more : List Entry = prefix.0 in
    let whole : found ++ (first ++ more) ≡ g = sym (append_assoc found first more) ∙ ap (λ l. l ++ more) starts.1 ∙ prefix.1 in
    let own_is : own ≡ first ++ more = cancelled found own (first ++ more) (sym e ∙ sym whole) in
    let front : IsOrderly 0 h = orderly_front 0 h more (subst (IsOrderly 0) (sym prefix.1) order) in
    subst (λ (l : List Entry). IfSome files (IsTrue found l)) (sym own_is)
    (when_some files (IsTrue found first) (IsTrue found (first ++ more)) (λ m t. true_stays found first more m (subst (IsOrderly 0) (sym whole) order) t) (true_h front honest first (sym starts.1)))

both_tell : (R S : Files → Files → Type 0) (old mid new : Option Files) → Related R old mid → Related S mid new → Related (λ m n. Unit {0}) old new
both_tell R S None None None r s = tt
both_tell R S None None (Some n) r s = absurd s
both_tell R S None (Some k) new r s = absurd r
both_tell R S (Some m) None new r s = absurd r
both_tell R S (Some m) (Some k) None r s = absurd s
both_tell R S (Some m) (Some k) (Some n) r s = tt

-- an area tells its files as before
told_both : (told : Type 0) (g : List Entry) (made limit : ℕ) (old new : Option Files) (kept now : List Summary) → AdvancesPartly told g made limit old new kept now → Related (λ m n. Unit {0}) old new
told_both told g made limit old new kept now p =
    both_tell (LeavesFiles told g made (end_behind (end_behind p.first kept) p.some.sums) p.some.sums) (AreGone p.expiry.gone p.expiry.at) old p.mid new p.some.left p.expiry.files

told_on : (old new : Option Files) → Related (λ m n. Unit {0}) old new → IsSome old → IsSome new
told_on None None may is = is
told_on None (Some n) may is = absurd may
told_on (Some m) None may is = absurd may
told_on (Some m) (Some n) may is = refl

published_on : (told : Type 0) (found g : List Entry) (made limit : ℕ) (begun old new : Option Files) (kept now : List Summary) → told → IsTrueFor found begun g old → IfSome old (λ m. AreHeld m kept) → AdvancesPartly told g made limit old new kept now → IsTrueFor found begun g new
published_on told found g made limit begun None None kept now t is held may order honest own e = tt
published_on told found g made limit begun (Some m) (Some n) kept now t is held may order honest own e =
    partly_true told t found own made limit m n kept now (subst (IsOrderly 0) e order) (is order honest own e) held (subst (λ (l : List Entry). AdvancesPartly told l made limit (Some m) (Some n) kept now) e may)
published_on told found g made limit begun None (Some n) kept now t is held may order honest own e = absurd (told_both told g made limit None (Some n) kept now may)
published_on told found g made limit begun (Some m) None kept now t is held may order honest own e = absurd (told_both told g made limit (Some m) None kept now may)

-- ---- grown

first_same : (found g : List Entry) → 0 < length found → IsPrefix found g → first_start found ≡ first_start g
first_same [] g some prefix = absurd (omega (arith, some))
first_same (e ∷ es) g some prefix = ap first_start prefix.1

grown_on : (told : Type 0) (found g : List Entry) (made limit : ℕ) (begun old new : Option Files) (kept now : List Summary) → told → limit ≤ made → IsPrefix found g → HasGrownFor found begun limit kept → AdvancesPartly told g made limit old new kept now → HasGrownFor found begun limit now
grown_on told found g made limit begun old new kept now t le starts was p some m first is held =
    let front : first_start found ≡ first_start g = first_same found g some starts in
    let l = p.some in
    let end : p.first ≡ first_start g = p.first_is t in
    subst (λ n. HasGrown n limit first now) (sym front)
    (publishing_grows limit g made first kept l.sums now le (subst (λ n. HasGrown n limit first kept) front (was some m first is held))
    (subst (λ n. AreNext g made (end_behind n kept) l.sums) end (l.next t))
    (p.expiry.young ∙ ap (young limit) l.now_is)
    (λ low. p.expiry.taken.end low ∙ ap (end_behind low) l.now_is))

-- what was read when nothing was done yet
grown_begin : (found : List Entry) (begun : Option Files) (limit : ℕ) (kept : List Summary) → IfSome begun (λ m. AreKept m kept) → HasGrownFor found begun limit kept
grown_begin found begun limit kept read some m first is held =
    subst (HasGrown (first_start found) limit first)
    (kept_once 0 m (keys m) first kept held (subst (λ (o : Option Files). IfSome o (λ x. AreKept x kept)) is read))
    (runs_begin_grown (first_start found) limit first)

pub keeps_read : (tells : Type 0) (found : List Entry) (begun : Option Files) (limit : ℕ) (files : Option Files) (kept : List Summary) → files ≡ begun → IfSome files (λ m. AreKept m kept) → AreListed files kept → AreKeptOn tells found begun limit files kept
keeps_read tells found begun limit files kept same read listed = record {
  listed = listed;
  grown = λ t. grown_begin found begun limit kept (subst (λ (o : Option Files). IfSome o (λ m. AreKept m kept)) same read);
}

-- ---- all of it

pub shelved_later : (told : Type 0) (found list g : List Entry) (begun files : Option Files) → IsPrefix found list → AreShelved told found begun list files → IsPrefix list g → AreShelved told found begun g files
shelved_later told found list g begun files starts s prefix = record {
  told = s.told;
  true_for = λ t. true_on found list g begun files starts prefix (s.true_for t);
}

-- behind what was known there
known_keeps : (tells : Type 0) (found : List Entry) (begun : Option Files) (limit : ℕ) (files : Option Files) (kept : List Summary) (o : Option (Vec Summary)) → AreKeptThere tells found begun limit files o → AreThose files kept o → AreListed files kept → AreKeptOn tells found begun limit files kept
known_keeps tells found begun limit files kept None there read listed = keeps_read tells found begun limit files kept there read listed
known_keeps tells found begun limit files kept (Some v) there same listed = subst (AreKeptOn tells found begun limit files) (sym same) there

no_list : (a : List Summary) → (let x : Option (List Summary) = None in x ≡ Some a) → ⊥
no_list a e = cc

now_there : (tells : Type 0) (found : List Entry) (begun : Option Files) (limit : ℕ) (files : Option Files) (now : List Summary) (o : Option (Vec Summary)) → option_map (λ v. v.items) o ≡ Some now → AreKeptOn tells found begun limit files now → AreKeptThere tells found begun limit files o
now_there tells found begun limit files now None is keeps = absurd (no_list now is)
now_there tells found begun limit files now (Some v) is keeps = subst (AreKeptOn tells found begun limit files) (same_list now v.items (sym is)) keeps

listed_there : (tells : Type 0) (found : List Entry) (begun : Option Files) (limit : ℕ) (files : Option Files) (o : Option (Vec Summary)) → AreKeptThere tells found begun limit files o → IfSome o (λ v. AreListed files v.items)
listed_there tells found begun limit files None there = tt
listed_there tells found begun limit files (Some v) there = there.listed

pub goes_there : (tells : Type 0) (found : List Entry) (begun : Option Files) (limit : ℕ) (list : List Entry) (files : Option Files) (known : Known) → (tells → IsPlaceOf list known.place.0) → AreKeptThere tells found begun limit files known.kept → GoesOnFrom tells list files known
goes_there tells found begun limit list files known at there = record { at = at; kept = listed_there tells found begun limit files known.kept there }

-- what an advance leaves of both, and what it came from
pub record IsKeptOn (tells : Type 0) (found : List Entry) (begun : Option Files) (limit : ℕ) (now : List Entry) (old new : Option Files) (kept rest : List Summary) : Type 0 where
  pub shelved : AreShelved tells found begun now old
  pub keeps : AreKeptOn tells found begun limit old kept
  pub stays : AreShelved tells found begun now new
  pub goes_on : AreKeptOn tells found begun limit new rest

pub kept_on : (told : Type 0) (found list g : List Entry) (made limit : ℕ) (begun old new : Option Files) (kept rest : List Summary) → limit ≤ made → IsPrefix found list → AreShelved told found begun list old → AreKeptOn told found begun limit old kept → IsPrefix list g
    → AdvancesPartly told g made limit old new kept rest → IsKeptOn told found begun limit g old new kept rest
kept_on told found list g made limit begun old new kept rest le starts s k prefix p = record {
  shelved = shelved_later told found list g begun old starts s prefix;
  keeps = k;
  stays = record {
    told = λ is. told_on old new (told_both told g made limit old new kept rest p) (s.told is);
    true_for = λ t. published_on told found g made limit begun old new kept rest t (true_on found list g begun old starts prefix (s.true_for t)) k.listed.held p;
  };
  goes_on = record {
    listed = partly_listed told g made limit old new kept rest p k.listed;
    grown = λ t. grown_on told found g made limit begun old new kept rest t le (prefix_trans found list g starts prefix) (k.grown t) p;
  };
}

-- the same of what is known
pub shelved_on : (told : Type 0) (found list g : List Entry) (made limit : ℕ) (begun old new : Option Files) (before known : Known) → limit ≤ made → IsPrefix found list → AreShelved told found begun list old → AreKeptThere told found begun limit old before.kept → IsPrefix list g
    → MayAdvance told g made limit old new before known → AreShelved told found begun g new × AreKeptThere told found begun limit new known.kept
shelved_on told found list g made limit begun old new before known le starts s there prefix (inl same) = (
  subst (AreShelved told found begun g) (sym same.0) (shelved_later told found list g begun old starts s prefix),
  subst (λ (k : Known). AreKeptThere told found begun limit new k.kept) (sym same.1) (subst (λ (o : Option Files). AreKeptThere told found begun limit o before.kept) (sym same.0) there),
)
shelved_on told found list g made limit begun old new before known le starts s there prefix (inr a) =
    let k = kept_on told found list g made limit begun old new a.kept a.now le starts s (known_keeps told found begun limit old a.kept before.kept there a.known_before a.listed) prefix a.advances in
    (k.stays, now_there told found begun limit new a.now known.kept a.known_now k.goes_on)

-- where the run begins
at_begin : (found own : List Entry) (files : Option Files) → IfSome files (IsHonest found) → own ≡ [] → IfSome files (IsTrue found own)
at_begin found own files honest none = subst (λ (l : List Entry). IfSome files (IsTrue found l)) (sym none) (when_some files (IsHonest found) (IsTrue found []) (λ m h. runs_begin_true found m h) honest)

none_own : (found own : List Entry) → found ≡ found ++ own → own ≡ []
none_own [] own e = sym e
none_own (x ∷ xs) own e = none_own xs own (tail_same x x xs (xs ++ own) e)

pub shelved_begin : (told : Type 0) (found list : List Entry) (begun files : Option Files) → IsPrefix found list → files ≡ begun → AreShelved told found begun list files
shelved_begin told found list begun files starts same = subst (AreShelved told found begun list) (sym same) (record {
  told = λ is. is;
  true_for = λ t. true_on found found list begun begun (prefix_self found) starts (λ order honest own e. at_begin found own begun honest (none_own found own e));
})

-- ---- answers

advances_at : {V : Type 0} (g : Ghosts V) (told : Type 0) (h : List Entry) (made limit count : ℕ) (old new : V) (kept rest : List Summary) → Advances g told h made limit old new kept rest count → Advances states told h made limit (state_in g old) (state_in g new) kept rest count
advances_at g told h made limit count old new kept rest a = record { sums = a.sums; published = a.published; counted = a.counted; kept_is = a.kept_is; files = a.files; durable = a.durable }

there_now : (tells : Type 0) (found : List Entry) (begun : Option Files) (limit : ℕ) (files : Option Files) (now : List Summary) (o : Option (Vec Summary)) → option_map (λ v. v.items) o ≡ Some now → AreKeptThere tells found begun limit files o → AreKeptOn tells found begun limit files now
there_now tells found begun limit files now None is keeps = absurd (no_list now is)
there_now tells found begun limit files now (Some v) is keeps = subst (AreKeptOn tells found begun limit files) (same_list v.items now is) keeps

pub published_so : {V : Type 0} (g : Ghosts V) (told : Type 0) (found list now : List Entry) (begun : Option Files) (when limit count : ℕ) (old new : V) (before known : Known) → limit ≤ when → IsPrefix found list → AreShelved told found begun list (g.files old) → AreKeptThere told found begun limit (g.files old) before.kept → IsPrefix list now
    → AreShelved told found begun now (g.files new) × AreKeptThere told found begun limit (g.files new) known.kept → IsAdvanced g told now when limit old new before known count → HasPublished told found begun now when limit count
published_so g told found list now begun when limit count old new before known le starts s there prefix left a = record {
  old = state_in g old;
  new = state_in g new;
  kept = a.kept;
  rest = a.now;
  shelved = shelved_later told found list now begun (g.files old) starts s prefix;
  keeps = known_keeps told found begun limit (g.files old) a.kept before.kept there a.known_before a.listed;
  advances = advances_at g told now when limit count old new a.kept a.now a.advances;
  stays = left.0;
  goes_on = there_now told found begun limit (g.files new) a.now known.kept a.known_now left.1;
}

pub covered_so : {V : Type 0} (g : Ghosts V) (told : Type 0) (found list now : List Entry) (begun : Option Files) (when limit from to : ℕ) (old new : V) (before known : Known) (r : Result Summary AdvanceFault) → limit ≤ when → IsPrefix found list → AreShelved told found begun list (g.files old)
    → AreKeptThere told found begun limit (g.files old) before.kept → IsPrefix list now → AreShelved told found begun now (g.files new) × AreKeptThere told found begun limit (g.files new) known.kept → AdvanceAnswers g told now when limit from to old new before known r
    → HasCovered told found begun now when limit from to r
unfolding published_so
covered_so g told found list now begun when limit from to old new before known (Ok sum) le starts s there prefix left a = record {
  count = a.count;
  published = published_so g told found list now begun when limit a.count old new before known le starts s there prefix left a.advanced;
  covers = a.so;
}
covered_so g told found list now begun when limit from to old new before known (Err (Gap place)) le starts s there prefix left a = record {
  count = a.count;
  published = published_so g told found list now begun when limit a.count old new before known le starts s there prefix left a.advanced;
  covers = a.so;
}
covered_so g told found list now begun when limit from to old new before known (Err (Store fault)) le starts s there prefix left a = tt

-- ---- laws

pub answers_sum_up : AnswersSumUp
answers_sum_up found own begun made limit files kept sums from to sum order honest holds redo published lt covers =
    crew_sums_up found own made limit files kept sums from to sum order redo (holds order honest own refl) published lt covers

pub crews_keep_honest : CrewsKeepHonest
crews_keep_honest tells found list history begun files t order starts s prefix honest =
    let whole : IsPrefix found history = prefix_trans found list history starts prefix in
    let own : List Entry = whole.0 in
    let all : found ++ own ≡ history = whole.1 in
    when_some files (IsTrue found own) (IsHonest history) (λ m holds. subst (λ (l : List Entry). IsHonest l m) all (true_is_honest found own m holds))
    (true_on found list history begun files starts prefix (s.true_for t) order honest own (sym all))
