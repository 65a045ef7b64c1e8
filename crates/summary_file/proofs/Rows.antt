-- Worked examples of a summary's file and its name.
use Rattle.std.proofs.Common.{◌≡◌, ℕ, List, [], ◌∷◌, ◌++◌, codes, Some, None, refl}
use Rattle.std.specs.Fmt.{digits}
use Rattle.wal_crc.specs.Crc.{bit_steps, crc32c}
use Rattle.lsn_core.specs.declared.ids.ForkKind.TheVariants.{Main, Init}
use Rattle.wal_summary.specs.declared.summary.Summary.{Summary}
use Rattle.summary_file.specs.Numbers.{fork_head, file_head, numbers_bytes}
use Rattle.summary_file.specs.File.{summary_numbers}
use Rattle.summary_file.specs.Name.{summary_name_bytes}
use Rattle.summary_file.specs.Inside.{file_at, fork_at}

-- a relation that was cut to two blocks, of which block 5 was made again, and its other fork
row : Summary
row = record {
  start = record { 0 = 0x100028 };
  end = record { 0 = 0x1000A8 };
  made = 1700000000;
  forks =
      record { fork = record { rel = record { db = 5; rel = 16384 }; kind = Main }; limit = Some 2; blocks = 2 ∷ 5 ∷ [] }
      ∷ record { fork = record { rel = record { db = 5; rel = 16384 }; kind = Init }; limit = None; blocks = 0 ∷ [] }
      ∷ [];
}

-- its numbers, byte by byte
row_numbers : List ℕ
row_numbers =
    0x53 ∷ 0x55 ∷ 0x4d ∷ 0x31 ∷ 0x28 ∷ 0x00 ∷ 0x10 ∷ 0x00 ∷ 0x00 ∷ 0x00 ∷ 0x00 ∷ 0x00 ∷ 0xa8 ∷ 0x00 ∷ 0x10 ∷ 0x00 ∷ 0x00 ∷ 0x00 ∷ 0x00 ∷ 0x00 ∷ 0x00 ∷ 0xf1 ∷ 0x53 ∷ 0x65 ∷ 0x00 ∷ 0x00 ∷ 0x00 ∷ 0x00 ∷ 0x02 ∷ 0x00 ∷ 0x00 ∷ 0x00 ∷ 0x00 ∷ 0x00 ∷ 0x00 ∷ 0x00
    ∷ 0x05 ∷ 0x00 ∷ 0x00 ∷ 0x00 ∷ 0x00 ∷ 0x40 ∷ 0x00 ∷ 0x00 ∷ 0x00 ∷ 0x00 ∷ 0x00 ∷ 0x00 ∷ 0x02 ∷ 0x00 ∷ 0x00 ∷ 0x00 ∷ 0x02 ∷ 0x00 ∷ 0x00 ∷ 0x00 ∷ 0x02 ∷ 0x00 ∷ 0x00 ∷ 0x00 ∷ 0x05 ∷ 0x00 ∷ 0x00 ∷ 0x00
    ∷ 0x05 ∷ 0x00 ∷ 0x00 ∷ 0x00 ∷ 0x00 ∷ 0x40 ∷ 0x00 ∷ 0x00 ∷ 0x03 ∷ 0x00 ∷ 0x00 ∷ 0x00 ∷ 0xff ∷ 0xff ∷ 0xff ∷ 0xff ∷ 0x01 ∷ 0x00 ∷ 0x00 ∷ 0x00 ∷ 0x00 ∷ 0x00 ∷ 0x00 ∷ 0x00 ∷ []

row_spelled : numbers_bytes (summary_numbers row) ≡ row_numbers
unfolding row row_numbers file_head fork_head
row_spelled = refl

row_sum : crc32c row_numbers ≡ 0x100979e8
unfolding row_numbers bit_steps
row_sum = refl

row_read : file_at (row_numbers ++ (0xe8 ∷ 0x79 ∷ 0x09 ∷ 0x10 ∷ [])) ≡ Some (summary_numbers row, 0x100979e8)
unfolding row row_numbers file_at fork_at
row_read = refl

byte_too_many : file_at (row_numbers ++ (0xe8 ∷ 0x79 ∷ 0x09 ∷ 0x10 ∷ 0x00 ∷ [])) ≡ None
unfolding row_numbers file_at fork_at
byte_too_many = refl

row_name : summary_name_bytes 0x100028 0x1000A8 ≡ codes "00000001000000000010002800000000001000A8.summary"
unfolding digits
row_name = refl
