-- A window shows what stands behind a tip.
use Rattle.std.proofs.Common.{sym, ◌∙◌, arith}
use Rattle.wal_archive.specs.Archive.{archive_of}
use Rattle.stream_laws.specs.Waiting.{BytesDecide}
use Rattle.stream_laws.specs.Streams.{stream_files, StreamsAreArchives}
use Rattle.stream_laws.specs.Windows.{shown, span_files, WindowsShowTheEnd}

pub shows : StreamsAreArchives → BytesDecide → WindowsShowTheEnd
shows law decide w fed judge system tip is later =
    let one = law w.mib (shown w) is.some in
    let two = law w.mib fed is.some in
    let least = is.least in
    decide judge w.mib system (archive_of w.mib (span_files w)) (archive_of w.mib (stream_files w.mib fed)) tip
    (record {
      some = is.some;
      before = one.archive;
      behind = two.archive;
      solid_before = record { ends = λ x le none. one.solid.ends x (omega (arith, le, later, least)) none };
      solid_behind = record { ends = λ x le none. two.solid.ends x (omega (arith, le, later, least)) none };
      holds = λ x b le held. two.byte x ∙ (sym (is.same x (omega (arith, le, later))) ∙ (sym (one.byte x) ∙ held));
    })
    (λ x b le held. one.byte x ∙ (is.same x (omega (arith, le, later)) ∙ (sym (two.byte x) ∙ held)))
