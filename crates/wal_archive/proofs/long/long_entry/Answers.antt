use Rattle.std.proofs.Common.{rules, ◌≡◌, ℕ, ◌+◌, ◌-◌, ◌++◌, length, refl, sym, ap, subst, ◌∙◌, arith}
use Rattle.std.proofs.lemmas.List.{length-append}
use Rattle.std.specs.Global.{Vec}
use Rattle.lsn_core.specs.byte_words.Numbers.{u32_in}
use Rattle.wal_pages.proofs.Splits.{head_bounds}
use Rattle.wal_archive.specs.Rules.{entry_bytes}
use Rattle.wal_archive.specs.Reading.{page_piece}
use Rattle.wal_archive.proofs.Fronts.{says_err, number_on}
use Rattle.wal_archive.proofs.Longs.{PagesOn, on_start, on_page_read, on_page_wrong}
use Rattle.wal_archive.proofs.long.long_entry.Goals as goal

pub loop-left-init : goal.loop-left-init
loop-left-init g c =
    let n : c.len.result ≡ length c.args.first.items = search rules in
    let k : c.len-2.result ≡ length c.args.first.items = search rules in
    record {
      page = omega (arith, n, c.requires.room);
      bound = λ some. omega (arith, n, k, c.requires.room, c.requires.more);
      last = omega (arith, n, c.requires.room);
      on = on_start (g.V.Vault.files c.args.area.now) c.args.size c.args.system c.args.start
          c.args.total (c.args.start + c.len.result) (c.args.total - c.len-2.result)
          c.args.first.items c.requires.room c.requires.more (ap (λ n. c.args.start + n) n)
          (ap (λ n. c.args.total - n) k) c.requires.first;
      reads = record { files = refl; past = refl; faults = omega arith };
      whole = omega (arith, k, c.requires.more);
      four = c.requires.four;
      number = c.requires.number;
    }

pub loop-left-smaller : goal.loop-left-smaller
loop-left-smaller g c =
    let b = head_bounds c.args.size c.loop-left.page in
    omega (arith, c.len-in-loop-left.ensures, c.in-Ok.ensures.length, b.1, c.loop-left-test.true)

pub loop-left-preserved : goal.loop-left-preserved
loop-left-preserved g c =
    let i = c.loop-left.invariant in
    let b = head_bounds c.args.size c.loop-left.page in
    let some = c.loop-left-test.true in
    let size = c.in-Ok.ensures.length in
    let len : c.len-in-loop-left.result ≡ length c.in-Ok.piece.items = search rules in
    let joined : c.extend_from_slice.new.self.items ≡ c.loop-left.bytes.items
    ++ c.in-Ok.piece.items =
    c.in_ok-extend_from_slice.ensures.items
    ∙ ap (λ k. c.loop-left.bytes.items ++ k) c.deref.ensures.value in
    let more : length c.extend_from_slice.new.self.items
    ≡ length c.loop-left.bytes.items + length c.in-Ok.piece.items =
    ap length joined ∙ length-append c.loop-left.bytes.items c.in-Ok.piece.items in
    record {
      page = omega (arith, i.page);
      bound = λ still. omega (arith, i.bound some, size, len, b.1, still);
      last = omega (arith, i.bound some, some);
      on = subst (λ k. PagesOn c.args.size c.args.system c.args.start c.args.total
          (c.loop-left.page + 8192) (c.loop-left.left - c.len-in-loop-left.result) k
          (g.V.Vault.files c.args.area.now)) (sym joined)
          (on_page_read (g.V.Vault.files c.args.area.now) (g.V.Vault.files c.loop-left.area)
          c.args.size c.args.system c.args.start c.args.total c.loop-left.page c.loop-left.left
          (c.loop-left.page + 8192) (c.loop-left.left - c.len-in-loop-left.result)
          c.loop-left.bytes.items c.in-Ok.piece.items i.reads.files i.page some refl
          (ap (λ n. c.loop-left.left - n) len) size i.on c.in-Ok.ensures.piece);
      reads = record {
        files = c.in-Ok.ensures.reads.files ∙ i.reads.files;
        past = c.in-Ok.ensures.reads.past ∙ i.reads.past;
        faults = omega (arith, c.in-Ok.ensures.reads.faults, i.reads.faults);
      };
      whole = omega (arith, more, i.whole, len, size);
      four = omega (arith, more, i.four);
      number = ap (λ k. u32_in k 0) joined
          ∙ number_on c.loop-left.bytes.items c.in-Ok.piece.items i.four ∙ i.number;
    }

pub returns-in-Err-clause-bytes : goal.returns-in-Err-clause-bytes
returns-in-Err-clause-bytes g c =
    let i = c.loop-left.invariant in
    says_err (λ a. page_piece a c.args.size c.args.system c.args.start c.loop-left.page
    c.loop-left.left)
    (λ a. entry_bytes a c.args.size c.args.system c.args.start c.args.total c.args.start
    c.args.total)
    (λ (piece : Vec ℕ). piece.items) (λ (bytes : Vec ℕ). bytes.items) c.args.size
    (g.V.Vault.files c.args.area.now) (g.V.Vault.files c.loop-left.area)
    (g.V.Vault.faults c.args.area.now) (g.V.Vault.faults c.loop-left.area)
    (g.V.Vault.faults c.page_piece.new.area) c.in-Err.fault i.reads.files i.reads.faults
    (on_page_wrong (g.V.Vault.files c.args.area.now) c.args.size c.args.system c.args.start
    c.args.total c.loop-left.page c.loop-left.left c.loop-left.bytes.items i.page
    c.loop-left-test.true i.on) c.in-Err.ensures.piece

pub returns-clause-bytes : goal.returns-clause-bytes
returns-clause-bytes g c =
    c.loop-left.invariant.on.done (omega (arith, c.loop-left-test.false))
