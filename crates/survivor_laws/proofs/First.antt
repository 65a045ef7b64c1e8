-- The first entries survive.
use Rattle.std.proofs.Common.{◌≡◌, ◌≢◌, ℕ, true, false, true≢false, List, [], ◌∷◌, ◌++◌, Option, Some, None, Result, Ok, Err, refl, sym, ap, subst, ◌∙◌, append-nil, append_assoc}
use Rattle.lsn_core.specs.Tip.{Tip}
use Rattle.lsn_core.proofs.StoreFiles.{same_name, names_tie, name_itself}
use Rattle.wal_pages.specs.Places.{start_after}
use Rattle.wal_record.specs.Spelling.{sealed}
use Rattle.wal_record.specs.Tips.{tip_after}
use Rattle.wal_record.specs.declared.record.Record.{Record}
use Rattle.wal_record.specs.declared.record.RecordFault.{RecordFault}
use Rattle.wal_archive.specs.Archive.{Archive}
use Rattle.wal_archive.specs.declared.fault.Damage.{Damage}
use Rattle.wal_archive.specs.Rules.{Judge, Found, End, Gives, Bad, lsn, place_behind, judged, found, next_bytes, next_in, Walks}
use Rattle.wal_archive.specs.Writing.{IsNext}
use Rattle.survivor_laws.specs.Survivors.{IsStopped, PassesTests, FailsTests, MatchesByChance}
use Rattle.survivor_laws.specs.Laws.{SurvivorsAreFirst}

-- an entry that is given is one that its bytes are judged as
record IsJudged (judge : Judge) (mib system : ℕ) (a : Archive) (tip : Tip) (r : Record) : Type 0 where
  bytes : List ℕ
  stand : next_bytes a mib system tip.end ≡ Ok (Some bytes)
  judges : judge (place_behind mib tip.end bytes) (Some (lsn tip.prev)) bytes ≡ Ok r

of_judged : (start : ℕ) (x : Result Record RecordFault) (r : Record) → judged start x ≡ Gives r → x ≡ Ok r
of_judged start (Ok q) r e = cc
of_judged start (Err why) r e = absurd cc

of_found : (judge : Judge) (mib system : ℕ) (a : Archive) (tip : Tip) (r : Record) (o : Result (Option (List ℕ)) Damage) → next_bytes a mib system tip.end ≡ o → found judge mib tip.end (Some (lsn tip.prev)) o ≡ Gives r → IsJudged judge mib system a tip r
of_found judge mib system a tip r (Ok None) is e = absurd cc
of_found judge mib system a tip r (Ok (Some bytes)) is e = record {
  bytes = bytes;
  stand = is;
  judges = of_judged (start_after mib tip.end) (judge (place_behind mib tip.end bytes) (Some (lsn tip.prev)) bytes) r e;
}
of_found judge mib system a tip r (Err d) is e = absurd cc

given : (judge : Judge) (mib system : ℕ) (a : Archive) (tip : Tip) (r : Record) → next_in judge mib system a tip ≡ Gives r → IsJudged judge mib system a tip r
unfolding next_in
given judge mib system a tip r e = of_found judge mib system a tip r (next_bytes a mib system tip.end) refl e

by_name : (q name : List ℕ) {P : Type 0} → (q ≡ name → P) → (q ≢ name → P) → P
by_name q name {P = P} here there =
    elim (same_name q name) as (λ c. same_name q name ≡ c → P) [
      | true ↦ λ e. here (names_tie q name e)
      | false ↦ λ e. there (λ same. true≢false (sym (ap (λ x. same_name x name) same ∙ name_itself name) ∙ e))
    ] refl

passes : (x : Result Record RecordFault) (r : Record) → x ≡ Ok r → PassesTests x
passes x r e = subst PassesTests (sym e) tt

one_record : (x : Result Record RecordFault) (a b : Record) → x ≡ Ok a → x ≡ Ok b → a ≡ b
one_record x a b e f = cc

-- what is given behind a tip is the next entry, unless it matches by chance
is_next : (judge : Judge) (mib system : ℕ) (a : Archive) (tip : Tip) (r q : Record) → IsNext judge mib tip r → (MatchesByChance judge mib system a tip r → ⊥) → next_in judge mib system a tip ≡ Gives q → q ≡ r
is_next judge mib system a tip r q next never e =
    let g = given judge mib system a tip q e in
    by_name g.bytes (sealed r)
    (λ same. one_record (judge (place_behind mib tip.end (sealed r)) (Some (lsn tip.prev)) (sealed r)) q r (sym (ap (λ (bs : List ℕ). judge (place_behind mib tip.end bs) (Some (lsn tip.prev)) bs) same) ∙ g.judges) next.taken)
    (λ other. absurd (never (record { bytes = g.bytes; stand = g.stand; other = other; passes = passes (judge (place_behind mib tip.end g.bytes) (Some (lsn tip.prev)) g.bytes) q g.judges })))

-- where all that may stand fails its tests, no entry is given
stopped_by : (judge : Judge) (mib system : ℕ) (a : Archive) (tip : Tip) → FailsTests judge mib system a tip → IsStopped judge mib system a tip
stopped_by judge mib system a tip fails q e =
    let g = given judge mib system a tip q e in
    fails g.bytes g.stand (passes (judge (place_behind mib tip.end g.bytes) (Some (lsn tip.prev)) g.bytes) q g.judges)

-- bytes that are judged as an entry give it
gives_by : (judge : Judge) (mib system : ℕ) (a : Archive) (tip : Tip) (r : Record) (bytes : List ℕ) → next_bytes a mib system tip.end ≡ Ok (Some bytes) → judge (place_behind mib tip.end bytes) (Some (lsn tip.prev)) bytes ≡ Ok r → next_in judge mib system a tip ≡ Gives r
unfolding next_in
gives_by judge mib system a tip r bytes stand judges = ap (found judge mib tip.end (Some (lsn tip.prev))) stand ∙ ap (judged (start_after mib tip.end)) judges

-- what stands at the place of an entry that isn't given fails its tests
fails_at : (judge : Judge) (mib system : ℕ) (a : Archive) (tip : Tip) (r : Record) → IsNext judge mib tip r → (MatchesByChance judge mib system a tip r → ⊥) → IsStopped judge mib system a tip → FailsTests judge mib system a tip
fails_at judge mib system a tip r next never none bytes stand test =
    by_name bytes (sealed r)
    (λ same. none r (gives_by judge mib system a tip r bytes stand (ap (λ (bs : List ℕ). judge (place_behind mib tip.end bs) (Some (lsn tip.prev)) bs) same ∙ next.taken)))
    (λ other. never (record { bytes = bytes; stand = stand; other = other; passes = test }))

walks_more : (judge : Judge) (mib system : ℕ) (a : Archive) (start tip : Tip) (rs : List Record) (r : Record) → Walks judge mib system a start rs tip → next_in judge mib system a tip ≡ Gives r → Walks judge mib system a start (rs ++ (r ∷ [])) (tip_after tip r)
walks_more judge mib system a start tip [] r walk e = (subst (λ (t : Tip). next_in judge mib system a t ≡ Gives r) walk e, ap (λ (t : Tip). tip_after t r) walk)
walks_more judge mib system a start tip (q ∷ rs) r walk e = (walk.0, walks_more judge mib system a (tip_after start q) tip rs r walk.1 e)

decide : (x : Found) {P : Type 0} → ((r : Record) → x ≡ Gives r → P) → (((r : Record) → x ≡ Gives r → ⊥) → P) → P
decide End gives other = other (λ r e. absurd cc)
decide (Gives r) gives other = gives r refl
decide (Bad d) gives other = other (λ r e. absurd cc)

pub first : SurvivorsAreFirst
first judge mib system a start tip last rs [] walk chain never fails = record {
  done = [];
  behind = [];
  mid = tip;
  all = refl;
  walk = subst (λ (l : List Record). Walks judge mib system a start l tip) (sym (append-nil rs)) walk;
  stopped = stopped_by judge mib system a tip (subst (FailsTests judge mib system a) chain fails);
  fails = subst (FailsTests judge mib system a) chain fails;
}
first judge mib system a start tip last rs (r ∷ news) walk chain never fails =
    decide (next_in judge mib system a tip)
    (λ q e.
    let same : q ≡ r = is_next judge mib system a tip r q chain.0 (never [] news tip r refl refl) e in
    let gives : next_in judge mib system a tip ≡ Gives r = e ∙ ap Gives same in
    let rest = first judge mib system a start (tip_after tip r) last (rs ++ (r ∷ [])) news (walks_more judge mib system a start tip rs r walk gives) chain.1
    (λ done behind mid x is more. never (r ∷ done) behind mid x (ap (λ (l : List Record). r ∷ l) is) (chain.0, more)) fails in
    record {
      done = r ∷ rest.done;
      behind = rest.behind;
      mid = rest.mid;
      all = ap (λ (l : List Record). r ∷ l) rest.all;
      walk = subst (λ (l : List Record). Walks judge mib system a start l rest.mid) (append_assoc rs (r ∷ []) rest.done) rest.walk;
      stopped = rest.stopped;
      fails = rest.fails;
    })
    (λ none. record {
      done = [];
      behind = r ∷ news;
      mid = tip;
      all = refl;
      walk = subst (λ (l : List Record). Walks judge mib system a start l tip) (sym (append-nil rs)) walk;
      stopped = none;
      fails = fails_at judge mib system a tip r chain.0 (never [] news tip r refl refl) none;
    })
