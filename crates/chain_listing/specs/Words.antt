-- Names of backups, and words that are printed.
use Rattle.std.specs.Prelude.{ℕ, Bool, List, length, nat_le, ◌==◌, ◌&&◌, ◌||◌, if◌then◌else◌}
use Rattle.std.specs.List.{list_all}

-- a name that `pgbackup` takes: 1 to 32 of a to z, 0 to 9 and _ (profile)
abbrev pub is_name_byte : ℕ → Bool
is_name_byte b = (nat_le 97 b && nat_le b 122) || ((nat_le 48 b && nat_le b 57) || (b == 95))

abbrev pub is_name : List ℕ → Bool
is_name name = nat_le 1 (length name) && (nat_le (length name) 32 && list_all is_name_byte name)

-- a byte as it is shown: a question mark for a blank and for all but printable ASCII
abbrev pub plain_byte : ℕ → ℕ
plain_byte b = if nat_le 33 b && nat_le b 126 then b else 63
