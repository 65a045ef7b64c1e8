use Rattle.std.proofs.Common.{◌≡◌, ◌∙◌, arith}
use Rattle.std.proofs.lemmas.Result.{IfOk-weaker}
use Rattle.rel_files.specs.Inside.{ReadsPage, whole_length}
use Rattle.rel_files.specs.Shown.{HoldsStore, ReadsWhole}
use Rattle.rel_files.proofs.FileCalls.{same_held}
use Rattle.rel_files.proofs.ForkFrames.{reads_on}
use Rattle.rel_files.proofs.RawCalls.{count_or_none}
use Rattle.rel_files.proofs.raw_calls.ForksRawCalls.read.Goals as goal

pub returns-clause-whole : goal.returns-clause-whole
returns-clause-whole g c =
    let at = c.args.at.now in
    let mid = c.count.new.self in
    IfOk-weaker c.read_page.result (ReadsPage g.V.Vault mid.relseg mid.area at c.args.into.now c.read_page.new.into) (ReadsWhole (HoldsStore g.V.Vault c.args.self.now) at c.args.into.now c.read_page.new.into) (λ there read s h.
    let e : c.unwrap_or-count.result ≡ whole_length s at.fork = c.unwrap_or-count.ensures ∙ count_or_none s at.fork c.in_ok-count.field-0 (c.in_ok-count.ensures.whole s h) in
    read s (c.in_ok-count.ensures.held s h).files (omega (arith, e, c.if-at-count.false)))
    c.read_page.ensures.read

pub returns-clause-held : goal.returns-clause-held
returns-clause-held g c s h =
    let mid = c.count.new.self in
    let m = c.in_ok-count.ensures.held s h in
    record { files = same_held mid.relseg (g.V.Vault.files mid.area) (g.V.Vault.files c.read_page.new.self) s c.read_page.ensures.reads.files m.files; known = m.known }

pub returns-clause-reads : goal.returns-clause-reads
returns-clause-reads g c = reads_on g.V.Vault c.args.self.now.area c.count.new.self.area c.read_page.new.self c.in_ok-count.ensures.reads c.read_page.ensures.reads
