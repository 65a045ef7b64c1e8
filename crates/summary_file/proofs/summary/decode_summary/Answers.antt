use Rattle.std.proofs.Common.{sym, subst, ◌∙◌, arith}
use Rattle.summary_file.specs.Inside.{SummaryAnswer}
use Rattle.summary_file.proofs.NumbersTaken.{file_taken}
use Rattle.summary_file.proofs.Decoding.{refused, is_sum, is_no_sum, is_file, no_file}
use Rattle.summary_file.proofs.summary.decode_summary.Goals as goal

pub returns-in_err-numbers : goal.returns-in_err-numbers
returns-in_err-numbers c =
    refused c.args.bytes.now c.in_err-numbers.field-0.0 c.from_residual.result c.from_residual.ensures.1 c.in_err-numbers.ensures

pub returns-then-numbers-ne-FILE_MAGIC : goal.returns-then-numbers-ne-FILE_MAGIC
returns-then-numbers-ne-FILE_MAGIC c =
    let has = file_taken c.args.bytes.now c.in_ok-numbers.numbers c.in_ok-numbers.crc (λ i. omega (arith, c.type_inv.bytes i)) c.in_ok-numbers.ensures in
    (c.in_ok-numbers.numbers, c.in_ok-numbers.crc, has, c.if-numbers-ne-FILE_MAGIC.true)

pub returns-then-not-is_summed : goal.returns-then-not-is_summed
returns-then-not-is_summed c =
    let has = file_taken c.args.bytes.now c.in_ok-numbers.numbers c.in_ok-numbers.crc (λ i. omega (arith, c.type_inv.bytes i)) c.in_ok-numbers.ensures in
    let no_sum = is_no_sum c.args.bytes.now c.in_ok-numbers.numbers c.in_ok-numbers.crc has (sym c.is_summed.ensures ∙ c.if-not-is_summed.true) in
    (c.in_ok-numbers.numbers, c.in_ok-numbers.crc, has, (c.if-numbers-ne-FILE_MAGIC.false, no_sum))

pub returns-in-Some : goal.returns-in-Some
returns-in-Some c =
    let has = file_taken c.args.bytes.now c.in_ok-numbers.numbers c.in_ok-numbers.crc (λ i. omega (arith, c.type_inv.bytes i)) c.in_ok-numbers.ensures in
    let summed = is_sum c.args.bytes.now c.in_ok-numbers.numbers c.in_ok-numbers.crc has (sym c.is_summed.ensures ∙ c.if-not-is_summed.false) in
    let is = subst (SummaryAnswer c.in_ok-numbers.numbers) c.in-Some.is c.in_ok-summary.ensures in
    is_file c.args.bytes.now c.in_ok-numbers.numbers c.in_ok-numbers.crc c.in-Some.summary has c.if-numbers-ne-FILE_MAGIC.false summed is

pub returns-in-None : goal.returns-in-None
returns-in-None c =
    let has = file_taken c.args.bytes.now c.in_ok-numbers.numbers c.in_ok-numbers.crc (λ i. omega (arith, c.type_inv.bytes i)) c.in_ok-numbers.ensures in
    let summed = is_sum c.args.bytes.now c.in_ok-numbers.numbers c.in_ok-numbers.crc has (sym c.is_summed.ensures ∙ c.if-not-is_summed.false) in
    let none = subst (SummaryAnswer c.in_ok-numbers.numbers) c.in-None.is c.in_ok-summary.ensures in
    ((c.in_ok-numbers.numbers, c.in_ok-numbers.crc, has, (c.if-numbers-ne-FILE_MAGIC.false, summed)), no_file c.args.bytes.now c.in_ok-numbers.numbers c.in_ok-numbers.crc has none)
