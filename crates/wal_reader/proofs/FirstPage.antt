-- The system identifier in the first page of a file.
use Rattle.std.proofs.Common.{◌≡◌, ℕ, ◌+◌, ◌≤◌, List, length, take, Option, Some, IfSome, refl, sym, ap, subst, ◌∙◌, arith, inl, inr}
use Rattle.std.proofs.lemmas.Bool.{cases_lt, le-leb}
use Rattle.std.proofs.lemmas.List.{get_or-take, take_all, length-take}
use Rattle.lsn_core.specs.byte_words.Numbers.{u16_in, u32_in, u64_in}
use Rattle.lsn_core.specs.byte_words.Told.{when_told}
use Rattle.lsn_core.specs.Files.{Files}
use Rattle.lsn_core.specs.Names.{segment_name_bytes}
use Rattle.vault.specs.Area.{bytes_of}
use Rattle.wal_reader.specs.Settings.{system_in, system_at}
use Rattle.wal_reader.specs.Inside.{TellsSystem}

u16_front : (k : ℕ) (bytes : List ℕ) (at : ℕ) → at + 2 ≤ k → u16_in (take k bytes) at ≡ u16_in bytes at
u16_front k bytes at within = rw (get_or-take k bytes at 0 (omega (arith, within)), get_or-take k bytes (at + 1) 0 (omega (arith, within))) refl

u32_front : (k : ℕ) (bytes : List ℕ) (at : ℕ) → at + 4 ≤ k → u32_in (take k bytes) at ≡ u32_in bytes at
u32_front k bytes at within =
    let low = u16_front k bytes at (omega (arith, within)) in
    let high = u16_front k bytes (at + 2) (omega (arith, within)) in
    omega (arith, low, high)

u64_front : (k : ℕ) (bytes : List ℕ) (at : ℕ) → at + 8 ≤ k → u64_in (take k bytes) at ≡ u64_in bytes at
u64_front k bytes at within =
    let low = u32_front k bytes at (omega (arith, within)) in
    let high = u32_front k bytes (at + 4) (omega (arith, within)) in
    omega (arith, low, high)

system_long : (bytes : List ℕ) → 32 ≤ length bytes → system_in bytes ≡ u64_in bytes 24
system_long bytes long = rw (le-leb 32 (length bytes) long) refl

system_front : (k : ℕ) (bytes : List ℕ) → 32 ≤ k → system_in (take k bytes) ≡ system_in bytes
system_front k bytes some =
    elim (cases_lt (length bytes) 32) [
      | inl short ↦ ap system_in (take_all k bytes (omega (arith, short, some)))
      | inr long ↦ system_long (take k bytes) (omega (arith, length-take k bytes, long, some)) ∙ u64_front k bytes 24 some ∙ sym (system_long bytes long)
    ]

pub tells_system : (mib number : ℕ) (files : Option Files) (segment : Option ℕ) (name page : List ℕ) (system : ℕ) → segment ≡ Some number → name ≡ segment_name_bytes number mib → system ≡ system_in page
    → IfSome files (λ m. page ≡ take 8192 (bytes_of m name)) → TellsSystem mib files segment system
tells_system mib number files segment name page system is named identifier read =
    subst (λ (o : Option ℕ). IfSome files (λ m. system ≡ system_at mib m o)) (sym is) (
    when_told files (λ m. page ≡ take 8192 (bytes_of m name)) (λ m. system ≡ system_at mib m (Some number))
    (λ m e. identifier ∙ ap system_in e ∙ system_front 8192 (bytes_of m name) (omega arith) ∙ ap (λ (n : List ℕ). system_in (bytes_of m n)) named) read
    )
