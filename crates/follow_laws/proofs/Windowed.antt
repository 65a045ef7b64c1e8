-- What is read through a window is read in the stream.
use Rattle.std.proofs.Common.{◌≡◌, ℕ, ◌≤◌, List, [], ◌∷◌, ◌++◌, map, refl, sym, ap, subst, ◌∙◌, arith}
use Rattle.std.specs.FinMap.{empty}
use Rattle.std.proofs.lemmas.List.{map-append}
use Rattle.lsn_core.specs.Store.{Store}
use Rattle.lsn_core.specs.Tip.{Tip}
use Rattle.wal_record.specs.declared.record.Record.{Record}
use Rattle.wal_record.specs.Decoding.{record_at}
use Rattle.wal_record.specs.Tips.{first_tip, tip_after}
use Rattle.wal_archive.specs.Archive.{archive_of}
use Rattle.wal_archive.specs.Rules.{Found, Walks, next_in}
use Rattle.wal_archive.specs.Stands.{IsEnd}
use Rattle.wal_archive.proofs.Chain.{walk_reach, walks_on}
use Rattle.wal_archive.proofs.Judged.{record_is_fair}
use Rattle.wal_archive.proofs.Read.{origin_end}
use Rattle.wal_reader.specs.Settings.{system_in}
use Rattle.history.specs.Apply.{apply_all}
use Rattle.history.specs.Whole.{entry_of}
use Rattle.history.proofs.Histories.{apply_all-behind}
use Rattle.stream_laws.specs.Streams.{stream_files}
use Rattle.stream_laws.specs.Windows.{Span, span_files, IsStreamEnd, WindowsShowTheEnd}
use Rattle.follow_laws.specs.Followed.{behind_in, AwaitsMore, IsReadSo, RefusesFound}
use Rattle.follow_laws.specs.Windows.{IsReadIn, WindowsShow, WindowsFollow, WindowsRefuse}

walk_in : WindowsShowTheEnd → (w : Span) (fed : List ℕ) (system : ℕ) (tip last : Tip) (qs : List Record) → IsStreamEnd w fed → IsEnd w.mib tip.end → w.base ≤ tip.end → Walks record_at w.mib system (archive_of w.mib (span_files w)) tip qs last → Walks record_at w.mib system (archive_of w.mib (stream_files w.mib fed)) tip qs last
walk_in shows w fed system tip last [] is end later walk = walk
walk_in shows w fed system tip last (q ∷ qs) is end later walk =
    let reach = walk_reach record_at w.mib system (archive_of w.mib (span_files w)) tip (q ∷ []) (tip_after tip q) is.some record_is_fair end (walk.0, refl) in
    let on = reach.later in
    (sym (shows w fed record_at system tip is later) ∙ walk.0, walk_in shows w fed system (tip_after tip q) last qs is reach.is_end (omega (arith, on, later)) walk.1)

module _ (shows : WindowsShowTheEnd) (w : Span) (relseg : ℕ) (fed : List ℕ) (rs qs : List Record) (tip last : Tip) (store made : Store) (is : IsReadIn w relseg fed rs qs tip last store made) where
  tip_end : IsEnd w.mib tip.end
  tip_end = (walk_reach record_at w.mib (system_in fed) (archive_of w.mib (stream_files w.mib fed)) (first_tip w.mib) rs tip is.is_end.some record_is_fair (origin_end w.mib) is.read.walk).is_end

  last_later : w.base ≤ last.end
  last_later =
      let reach = walk_reach record_at w.mib (system_in fed) (archive_of w.mib (span_files w)) tip qs last is.is_end.some record_is_fair tip_end is.walk in
      let on = reach.later in
      let before = is.before in
      omega (arith, on, before)

  read_all : IsReadSo w.mib relseg fed (rs ++ qs) last made
  read_all = record {
    walk = walks_on record_at w.mib (system_in fed) (archive_of w.mib (stream_files w.mib fed)) (first_tip w.mib) rs qs tip last is.read.walk (walk_in shows w fed (system_in fed) tip last qs is.is_end tip_end is.before is.walk);
    makes = ap (apply_all empty) (map-append entry_of rs qs) ∙ (apply_all-behind empty (map entry_of rs) (map entry_of qs) store is.read.makes ∙ is.makes);
  }

  found_same : next_in record_at w.mib (system_in fed) (archive_of w.mib (span_files w)) last ≡ behind_in w.mib relseg fed last
  found_same = shows w fed record_at (system_in fed) last is.is_end last_later

pub follows : WindowsShowTheEnd → WindowsFollow
follows shows w relseg fed rs qs tip last store made is waits = record {
  read = read_all shows w relseg fed rs qs tip last store made is;
  waits = subst AwaitsMore (found_same shows w relseg fed rs qs tip last store made is) waits;
}

pub refuses : WindowsShowTheEnd → WindowsRefuse
refuses shows w relseg fed rs qs tip last store made why is refused = record {
  rs = rs ++ qs;
  tip = last;
  store = made;
  read = read_all shows w relseg fed rs qs tip last store made is;
  refused = subst (λ (f : Found). RefusesFound made f why) (found_same shows w relseg fed rs qs tip last store made is) refused;
}

pub shows_found : WindowsShowTheEnd → WindowsShow
shows_found shows w relseg fed rs qs tip last store made is = found_same shows w relseg fed rs qs tip last store made is
