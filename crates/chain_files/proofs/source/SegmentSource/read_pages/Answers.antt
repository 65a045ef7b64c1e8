-- The pages stand in a plain file, or each at its slot.
use Rattle.std.proofs.Common.{◌≡◌, ◌*◌, ap, List, map, take, drop, ◌∙◌}
use Rattle.lsn_core.specs.byte_words.Told.{when_told}
use Rattle.incr_file.specs.Form.{pages_bytes}
use Rattle.chain_files.specs.Segments.{chain_pages}
use Rattle.chain_files.specs.Told.{chain_told}
use Rattle.chain_files.specs.Sources.{member_bytes, bytes_at, slot_page}
use Rattle.chain_files.specs.declared.slot.Slot.{Slot}
use Rattle.chain_files.proofs.Files.{plain_given, slots_given}
use Rattle.chain_files.proofs.source.SegmentSource.read_pages.Goals as goal

pub returns-in_ok-read_plain-in-Plain-clause-pages : goal.returns-in_ok-read_plain-in-Plain-clause-pages
returns-in_ok-read_plain-in-Plain-clause-pages g c =
    when_told (chain_told g.V.Vault c.args.areas.now c.args.places.now) (λ chain. c.read_plain.new.into ≡ bytes_at (member_bytes chain c.in-Plain.member c.args.self.now.paths.plain) (c.args.number * 8192) 65536) _
    (λ chain read forms folder name gives. plain_given (chain_pages chain folder name) chain c.args.self.now c.in-Plain.member c.in-Plain.field-1 c.args.number c.args.most c.count_from-count.result c.read_plain.new.into c.in-Plain.is read c.requires.most c.count_from-count.ensures gives)
    c.in_ok-read_plain-in-Plain.ensures.read

pub returns-in_ok-read_slots-in-Mapped-clause-pages : goal.returns-in_ok-read_slots-in-Mapped-clause-pages
returns-in_ok-read_slots-in-Mapped-clause-pages g c =
    when_told (chain_told g.V.Vault c.args.areas.now c.args.places.now) (λ chain. take (c.count_from-count.result * 8192) c.read_slots.new.into ≡ pages_bytes (map (slot_page chain c.args.self.now.paths) (take c.count_from-count.result (drop c.args.number c.deref.result.now)))) _
    (λ chain read forms folder name gives. slots_given (chain_pages chain folder name) chain c.args.self.now c.in-Mapped.slots c.args.number c.args.most c.count_from-count.result c.read_slots.new.into c.in-Mapped.is
    (read ∙ ap (λ (l : List Slot). pages_bytes (map (slot_page chain c.args.self.now.paths) (take c.count_from-count.result (drop c.args.number l)))) c.deref.ensures.value) c.count_from-count.ensures gives)
    c.in_ok-read_slots-in-Mapped.ensures.read
