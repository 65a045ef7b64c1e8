-- A backup that was taken on a prior one is an increment of the history as it went on.
use Rattle.std.proofs.Common.{◌≡◌, ℕ, ◌<◌, ◌≤◌, ◌+◌, ◌&&◌, ◌||◌, Bool, true, false, cond, List, [], ◌∷◌, ◌++◌, map, append-nil, Option, Some, IfSome, Ok, refl, sym, ap, subst, ◌∙◌, arith}
use Rattle.std.specs.Prelude.{◌==◌, nat_le}
use Rattle.std.specs.List.{list_any}
use Rattle.std.specs.Option.{option_map}
use Rattle.std.proofs.lemmas.Bool.{and_parts, eqb-true, le-ltb, or_left, or_right}
use Rattle.std.proofs.lemmas.List.Elements.{filter-append}
use Rattle.std.proofs.lemmas.List.Folds.{list_any-append}
use Rattle.lsn_core.specs.Files.{Files}
use Rattle.lsn_core.specs.declared.ids.ForkLen.{ForkLen}
use Rattle.lsn_core.proofs.AnyAll.{all_more}
use Rattle.vault.specs.declared.area.Vault.{Ghosts}
use Rattle.history.specs.Entry.{Entry}
use Rattle.history.specs.Written.{is_redo}
use Rattle.history.specs.fuzzy_copies.Orderly.{IsOrderly}
use Rattle.history.specs.fuzzy_copies.Sound.{is_in, window}
use Rattle.history.specs.fuzzy_copies.Summary.{summary_of, summed, table_of}
use Rattle.history.proofs.fuzzy_copies.Completed.{or_second}
use Rattle.history.proofs.fuzzy_copies.Ranges.{and_false}
use Rattle.history.proofs.fuzzy_copies.Taken.{Later, rest_rising, rising_front}
use Rattle.wal_summary.specs.Summary.{IsSummary}
use Rattle.wal_summary.specs.declared.summary.Summary.{Summary}
use Rattle.summary_store.specs.Honest.{IsHonest, is_redo_start}
use Rattle.summary_store.specs.Expiry.{unexpired}
use Rattle.wal_summary.specs.Kept.{IsCovering}
use Rattle.shared_summaries.specs.Laws.{AnswersSumUp}
use Rattle.shared_summaries.specs.Shelf.{IsTrueFor, HasCoveredSo}
use Rattle.shared_summaries.specs.summary_publish.Published.{ArePublished}
use Rattle.backup_sending.specs.declared.basis.Basis.{Basis}
use Rattle.backup_files.specs.Directory.{directory_with}
use Rattle.backup_sending.specs.Sent.{SentFile, AreListed, AreSent, IsCopyOf, IsSentAs, blocks_sent, file_of}
use Rattle.backup_sending.proofs.Blocks.{for_more}
use Rattle.backup_sending.proofs.Sound.{seen_on}
use Rattle.chain_laws.specs.Increment.{IsIncrementOf}

-- ---- a history that goes on

-- what was listed and copied while a beginning of it was written
pub listed_on : (tells : Type 0) → tells → (history more : List Entry) (from to : ℕ) (list : List ForkLen) → AreListed tells history from to list → AreListed (Unit {0}) (history ++ more) from to list
listed_on tells told history more from to list l = record {
  order = l.order;
  named = l.named;
  listed = λ u fork.
      let once = l.listed told fork in
      record { seen = once.seen; prefix = seen_on once.seen history more from to once.prefix; listed = once.listed };
}

file_on : (tells : Type 0) → tells → (history more : List Entry) (from to : ℕ) (f : SentFile) → IsSentAs tells history from to f → IsSentAs (Unit {0}) (history ++ more) from to f
file_on tells told history more from to f sent =
    for_more (λ block page. IsCopyOf tells history from to f.what.fork (f.what.first + block) page) (λ block page. IsCopyOf (Unit {0}) (history ++ more) from to f.what.fork (f.what.first + block) page) (blocks_sent f.what.count f.what.plan) f.pages
    (λ block page c. (
      c.0,
      λ u.
          let k = c.1 told in
          record { seen = k.seen; prefix = seen_on k.seen history more from to k.prefix; answer = k.answer; copied = k.copied; written = k.written },
    ))
    sent

pub sent_on : (tells : Type 0) → tells → (history more : List Entry) (from to : ℕ) (b : Basis) (list : List ForkLen) (files : List SentFile) → AreSent tells history from to b list files → AreSent (Unit {0}) (history ++ more) from to b list files
sent_on tells told history more from to b list files s = record {
  planned_are = s.planned_are;
  sent = all_more (IsSentAs tells history from to) (IsSentAs (Unit {0}) (history ++ more) from to) files (λ f is. file_on tells told history more from to f is) s.sent;
}

-- ---- its summaries

-- what is added behind an entry starts past the entry's start
started_late : (to last : ℕ) (history more : List Entry) → IsOrderly last (history ++ more) → list_any (λ e. e.start == to) history ≡ true → Later to more
started_late to last [] more r h = absurd cc
started_late to last (e ∷ es) more r h =
    elim (e.start == to) as (λ b. (e.start == to) ≡ b → Later to more) [
      | true ↦ λ k.
          let is : e.start ≡ to = eqb-true e.start to k in
          let l = rest_rising e.end es more r.3 in
          record { at = l.at; later = omega (arith, is, r.1, l.later); orderly = l.orderly }
      | false ↦ λ k. started_late to e.end es more r.3 (or_second (e.start == to) (list_any (λ d. d.start == to) es) h k)
    ] refl

none_within : (from to last : ℕ) (es : List Entry) → IsOrderly last es → to ≤ last → window es from to ≡ []
none_within from to last [] r le = refl
none_within from to last (e ∷ es) r le =
    let out : is_in from to e ≡ false = ap (λ b. nat_le from e.start && b) (le-ltb e.start to (omega (arith, r.0, le))) ∙ and_false (nat_le from e.start) in
    ap (λ b. cond b (e ∷ window es from to) (window es from to)) out ∙ none_within from to e.end es r.3 (omega (arith, r.0, r.1, le))

-- the entries before one of a history are those before it of what it goes on to
window_on : (history more : List Entry) (from to : ℕ) → IsOrderly 0 (history ++ more) → list_any (λ e. e.start == to) history ≡ true → window (history ++ more) from to ≡ window history from to
window_on history more from to order there =
    let late = started_late to 0 history more order there in
    filter-append (is_in from to) history more
    ∙ (ap (λ (es : List Entry). window history from to ++ es) (none_within from to late.at more late.orderly late.later) ∙ append-nil (window history from to))

starts_there : (to : ℕ) (es : List Entry) → list_any (is_redo_start to) es ≡ true → list_any (λ e. e.start == to) es ≡ true
starts_there to [] any = absurd cc
starts_there to (e ∷ es) any =
    elim (is_redo_start to e) as (λ b. is_redo_start to e ≡ b → list_any (λ d. d.start == to) (e ∷ es) ≡ true) [
      | true ↦ λ k. or_left (e.start == to) (list_any (λ d. d.start == to) es) (and_parts (is_redo e.act) (e.start == to) k).1
      | false ↦ λ k. any_second (e.start == to) (list_any (λ d. d.start == to) es) (starts_there to es (or_second (is_redo_start to e) (list_any (is_redo_start to) es) any k))
    ] refl
  where
    any_second : (a b : Bool) → b ≡ true → (a || b) ≡ true
    any_second true b e = refl
    any_second false b e = e

-- what covers a range up to a redo point of newer entries, of an area that was honest before
pub record IsSumOf (history : List Entry) (prior from : ℕ) (sum : Summary) : Type 0 where
  pub begins : sum.start.0 ≤ prior
  pub says : IsSummary (summary_of history sum.start.0 from) sum.forks

pub sum_of : AnswersSumUp → (tells : Type 0) → tells → (found own rest : List Entry) (begun : Option Files) (when limit prior from : ℕ) (files : Files) (sum : Summary) → IsOrderly 0 ((found ++ own) ++ rest) → list_any (is_redo_start from) own ≡ true → IfSome begun (IsHonest found)
    → (c : HasCoveredSo tells found begun (found ++ own) when limit prior from (Ok sum)) → c.published.old.files ≡ Some files → prior < from → IsSumOf ((found ++ own) ++ rest) prior from sum
sum_of law tells told found own rest begun when limit prior from files sum order redo was c is less =
    let p = c.published in
    let done = p.advances in
    let published : ArePublished (found ++ own) when files p.kept done.sums = subst (λ (o : Option Files). IfSome o (λ m. ArePublished (found ++ own) when m p.kept done.sums)) is (done.published told) in
    let covers : IsCovering (unexpired limit (p.kept ++ done.sums)) prior from sum = subst (λ l. IsCovering l prior from sum) done.kept_is c.covers in
    let front : IsOrderly 0 (found ++ own) = rising_front 0 (found ++ own) rest order in
    let all = law found own begun when limit files p.kept done.sums prior from sum front was (subst (IsTrueFor found begun (found ++ own)) is (p.shelved.true_for told)) redo published less covers in
    let there : list_any (λ e. e.start == from) (found ++ own) ≡ true = list_any-append (λ (e : Entry). e.start == from) found own ∙ or_right (list_any (λ (e : Entry). e.start == from) found) (list_any (λ (e : Entry). e.start == from) own) (starts_there from own redo) in
    record {
      begins = all.1;
      says = subst (λ (es : List Entry). IsSummary (summed (map table_of es)) sum.forks) (sym (window_on (found ++ own) rest sum.start.0 from order there)) all.2;
    }

-- ---- the directory

pub increment_of : (tells : Type 0) → tells → (now later : List Entry) (prior from to : ℕ) (basis : Basis) (list : List ForkLen) (sent : List SentFile) (label manifest : List ℕ) (files : Files) → IsSumOf (now ++ later) prior from basis.summary
    → AreListed tells now from to list → AreSent tells now from to basis list sent → files ≡ directory_with (map file_of sent) label manifest → IsIncrementOf (now ++ later) basis.summary.start.0 from to basis files
increment_of tells told now later prior from to basis list sent label manifest files sum listed are_sent is = record {
  summed = sum.says;
  list = list;
  listed = listed_on tells told now later from to list listed;
  sent = sent;
  are_sent = sent_on tells told now later from to basis list sent are_sent;
  label = label;
  manifest = manifest;
  are = is;
}
