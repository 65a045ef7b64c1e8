-- Of files of a WAL in which the first records of a history are read, the first ones survive, with
-- those, unless bytes match by chance.
use Rattle.std.proofs.Common.{◌≡◌, ℕ, ◌<◌, List, [], ◌∷◌, ◌++◌, refl, sym, ap, subst, ◌∙◌, append_assoc}
use Rattle.std.specs.List.{All}
use Rattle.lsn_core.specs.Files.{Files}
use Rattle.lsn_core.specs.Segment.{IsSegmentMib, StoreSettings}
use Rattle.lsn_core.specs.Tip.{Tip}
use Rattle.wal_record.specs.Decoding.{record_at}
use Rattle.wal_record.specs.Tips.{first_tip, tip_after, tip_behind}
use Rattle.wal_record.specs.declared.record.Record.{Record}
use Rattle.wal_archive.specs.Archive.{Archive, Extends, archive_of}
use Rattle.wal_archive.specs.Rules.{Judge, Walks}
use Rattle.wal_archive.specs.Writing.{IsChain}
use Rattle.wal_archive.proofs.Chain.{walks_extended}
use Rattle.wal_archive.proofs.Files.{files_archive}
use Rattle.wal_archive.proofs.Judged.{record_is_fair}
use Rattle.wal_archive.proofs.Read.{origin_end}
use Rattle.survivor_laws.specs.Laws.{FirstSurvive}
use Rattle.survivor_laws.specs.Survivors.{FailsTests, NoneByChance}
use Rattle.survivor_laws.proofs.First as survivors
use Rattle.store_restart.specs.Survivors.{SurviveIn}
use Rattle.comeback_laws.specs.Restorable.{AreFirst}
use Rattle.stop_comebacks.specs.Restarts.{IsLogTo, NothingByChance}
use Rattle.stop_comebacks.proofs.HeldWhole.{all_behind, all_front}

-- ---- records one behind the other

pub walk_tip : (judge : Judge) (mib system : ℕ) (a : Archive) (start tip : Tip) (rs : List Record) → Walks judge mib system a start rs tip → tip ≡ tip_behind start rs
walk_tip judge mib system a start tip [] walk = walk
walk_tip judge mib system a start tip (r ∷ rs) walk = walk_tip judge mib system a (tip_after start r) tip rs walk.1

chain_tip : (judge : Judge) (mib : ℕ) (start tip : Tip) (rs : List Record) → IsChain judge mib start rs tip → tip ≡ tip_behind start rs
chain_tip judge mib start tip [] chain = chain
chain_tip judge mib start tip (r ∷ rs) chain = chain_tip judge mib (tip_after start r) tip rs chain.1

chain_parts : (judge : Judge) (mib : ℕ) (start last : Tip) (xs ys : List Record) → IsChain judge mib start (xs ++ ys) last → (mid : Tip) × (IsChain judge mib start xs mid × IsChain judge mib mid ys last)
chain_parts judge mib start last [] ys chain = (start, (refl, chain))
chain_parts judge mib start last (x ∷ xs) ys chain =
    let rest = chain_parts judge mib (tip_after start x) last xs ys chain.1 in
    (rest.0, ((chain.0, rest.1.0), rest.1.1))

chain_join : (judge : Judge) (mib : ℕ) (start mid last : Tip) (xs ys : List Record) → IsChain judge mib start xs mid → IsChain judge mib mid ys last → IsChain judge mib start (xs ++ ys) last
chain_join judge mib start mid last [] ys first second = subst (λ (t : Tip). IsChain judge mib t ys last) first second
chain_join judge mib start mid last (x ∷ xs) ys first second = (first.0, chain_join judge mib (tip_after start x) mid last xs ys first.1 second)

-- ---- which survive

-- some records survive, and more of the history behind them; what stands behind those fails its tests
pub record MoreSurvive (s : StoreSettings) (history : List Record) (flushed : ℕ) (files : Files) (records : List Record) : Type 0 where
  pub more : List Record
  pub tip : Tip
  pub survive : SurviveIn s files (records ++ more) tip
  pub first : AreFirst history flushed (records ++ more)
  pub late : All (λ r. flushed < r.end.0) more
  pub fails : FailsTests record_at s.segment s.system (archive_of s.segment files) tip

module _ (s : StoreSettings) (history : List Record) (flushed : ℕ) (last : Tip) (log : IsLogTo s history last) (files : Files) (chance : NothingByChance s history files) (records : List Record) (first : AreFirst history flushed records) (tip : Tip) (walk : Walks record_at s.segment s.system (archive_of s.segment files) (first_tip s.segment) records tip) where
  abbrev start : Tip
  start = first_tip s.segment

  abbrev a : Archive
  a = archive_of s.segment files

  chains : (mid : Tip) × (IsChain record_at s.segment start records mid × IsChain record_at s.segment mid first.lost last)
  chains = chain_parts record_at s.segment start last records first.lost (subst (λ (l : List Record). IsChain record_at s.segment start l last) first.parts log)

  mid_is : chains.0 ≡ tip
  mid_is = chain_tip record_at s.segment start chains.0 records chains.1.0 ∙ sym (walk_tip record_at s.segment s.system a start tip records walk)

  chain_to : IsChain record_at s.segment start records tip
  chain_to = subst (λ (t : Tip). IsChain record_at s.segment start records t) mid_is chains.1.0

  chain_on : IsChain record_at s.segment tip first.lost last
  chain_on = subst (λ (t : Tip). IsChain record_at s.segment t first.lost last) mid_is chains.1.1

  never : NoneByChance record_at s.segment s.system a tip first.lost
  never done behind mid r is chain matches =
      chance.torn (records ++ done) behind mid r (first.parts ∙ ap (λ (l : List Record). records ++ l) is ∙ sym (append_assoc records done (r ∷ behind)))
      (chain_join record_at s.segment start tip mid records done chain_to chain) matches

  firsts : FirstSurvive record_at s.segment s.system a start records first.lost
  firsts = survivors.first record_at s.segment s.system a start tip last records first.lost walk chain_on never (chance.behind last log)

  pub more_survive : MoreSurvive s history flushed files records
  more_survive = record {
    more = firsts.done;
    tip = firsts.mid;
    survive = record { walk = firsts.walk; stopped = firsts.stopped };
    first = record {
      lost = firsts.behind;
      parts = first.parts ∙ ap (λ (l : List Record). records ++ l) firsts.all ∙ sym (append_assoc records firsts.done firsts.behind);
      late = all_behind (λ r. flushed < r.end.0) firsts.done firsts.behind (subst (All (λ r. flushed < r.end.0)) firsts.all first.late);
    };
    late = all_front (λ r. flushed < r.end.0) firsts.done firsts.behind (subst (All (λ r. flushed < r.end.0)) firsts.all first.late);
    fails = firsts.fails;
  }

-- records that are read up to a tip are read where the archive stands up to there
pub walk_on : (s : StoreSettings) (old new : Files) (records : List Record) (tip : Tip) → IsSegmentMib s.segment → Extends (archive_of s.segment old) (archive_of s.segment new) tip.end → Walks record_at s.segment s.system (archive_of s.segment old) (first_tip s.segment) records tip
    → Walks record_at s.segment s.system (archive_of s.segment new) (first_tip s.segment) records tip
walk_on s old new records tip size extends walk =
    walks_extended record_at s.segment s.system (archive_of s.segment old) (archive_of s.segment new) (first_tip s.segment) records tip size.least record_is_fair (files_archive s.segment new size.least) (origin_end s.segment) extends walk
