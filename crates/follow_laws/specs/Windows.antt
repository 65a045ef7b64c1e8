-- What a window on a stream's end adds to what was read of the stream.
use Rattle.std.specs.Prelude.{◌≡◌, ◌≤◌, ℕ, List, ◌++◌, map, Some}
use Rattle.lsn_core.specs.Store.{Store}
use Rattle.lsn_core.specs.Tip.{Tip}
use Rattle.wal_record.specs.declared.record.Record.{Record}
use Rattle.wal_reader.specs.Wal.{stands_behind, ReadsOn}
use Rattle.history.specs.Apply.{apply_all}
use Rattle.history.specs.Whole.{entry_of}
use Rattle.stream_laws.specs.Windows.{Span, span_files, IsStreamEnd}
use Rattle.follow_laws.specs.Followed.{stream_settings, behind_in, AwaitsMore, IsReadSo, IsFollowed, Unfollowed, RefusesFound, IsUnfollowed}

-- behind what was read of a stream a window on its end gave these entries, which were applied
pub record IsReadIn (w : Span) (relseg : ℕ) (fed : List ℕ) (rs qs : List Record) (tip last : Tip)
    (store made : Store) : Type 0 where
  pub is_end : IsStreamEnd w fed
  pub before : w.base ≤ tip.end
  pub read : IsReadSo w.mib relseg fed rs tip store
  pub walk : ReadsOn (stream_settings w.mib relseg fed) (span_files w) tip qs last
  pub makes : apply_all store (map entry_of qs) ≡ Some made

-- what stands behind them in the window stands there in the stream
abbrev pub WindowsShow : Type 0
WindowsShow =
    (w : Span) (relseg : ℕ) (fed : List ℕ) (rs qs : List Record) (tip last : Tip)
    (store made : Store)
    → IsReadIn w relseg fed rs qs tip last store made
    → stands_behind (stream_settings w.mib relseg fed) (span_files w) last
    ≡ behind_in w.mib relseg fed last

-- where it waits behind them the stream is followed
abbrev pub WindowsFollow : Type 0
WindowsFollow =
    (w : Span) (relseg : ℕ) (fed : List ℕ) (rs qs : List Record) (tip last : Tip)
    (store made : Store)
    → IsReadIn w relseg fed rs qs tip last store made
    → AwaitsMore (stands_behind (stream_settings w.mib relseg fed) (span_files w) last)
    → IsFollowed w.mib relseg fed (rs ++ qs) last made

-- and where what stands behind them is refused the stream is
abbrev pub WindowsRefuse : Type 0
WindowsRefuse =
    (w : Span) (relseg : ℕ) (fed : List ℕ) (rs qs : List Record) (tip last : Tip)
    (store made : Store) (why : Unfollowed)
    → IsReadIn w relseg fed rs qs tip last store made
    → RefusesFound made (stands_behind (stream_settings w.mib relseg fed) (span_files w) last) why
    → IsUnfollowed w.mib relseg fed why
