-- The options of `init`, of `run` and of `follow`, and the number of `drill` (profile).
use Rattle.std.specs.Prelude.{ℕ, ◌%◌, ◌^◌, ◌≤◌, IfSome, Bool, List, Option, Some, None, nat_le, nat_lt, ◌==◌, ◌&&◌, bytes_eq, if◌then◌else◌}
use Rattle.std.specs.Option.{option_map}
use Rattle.std.specs.Fmt.{decimal}
use Rattle.std.specs.Str.Parse.{digits_value}
use Rattle.lsn_core.specs.byte_words.Numbers.{◌>>=◌}
use Rattle.lsn_core.specs.Segment.{IsSegmentMib}
use Rattle.command_line.specs.declared.options.InitOptions.{InitOptions}

-- the number below 2^64 that a text writes in decimal without leading zeros
abbrev pub decimal_number : List ℕ → Option ℕ
decimal_number text =
    let n = digits_value 10 text in
    if bytes_eq text (decimal n) && nat_lt n (2 ^ 64) then Some n else None

-- a power of two from 1 to 1024
abbrev pub is_segment_mib : ℕ → Bool
is_segment_mib mib = nat_le 1 mib && (nat_le mib 1024 && (1024 % mib == 0))

-- so many blocks may go into a segment of a fork's files
abbrev pub is_relseg : ℕ → Bool
is_relseg blocks = nat_le 1 blocks && nat_le blocks 131072

-- the values of options, in their ranges
abbrev pub segment_value : List ℕ → Option ℕ
segment_value text = decimal_number text >>= λ mib. if is_segment_mib mib then Some mib else None

abbrev pub relseg_value : List ℕ → Option ℕ
relseg_value text = decimal_number text >>= λ blocks. if is_relseg blocks then Some blocks else None

-- so many frames a partition may have
abbrev pub is_frame_count : ℕ → Bool
is_frame_count frames = nat_le 4 frames && nat_le frames 16384

abbrev pub frames_value : List ℕ → Option ℕ
frames_value text =
    decimal_number text >>= λ frames. if is_frame_count frames then Some frames else None

abbrev pub IsFrameCount : ℕ → Type 0
IsFrameCount frames = (4 ≤ frames) × (frames ≤ 16384)

-- summaries are kept for so many days at most
abbrev pub most_days : ℕ
most_days = 36500

abbrev pub days_value : List ℕ → Option ℕ
days_value text = decimal_number text >>= λ days. if nat_le days most_days then Some days else None

-- the number of a drill, below 2^32
abbrev pub drill_number : List ℕ → Option ℕ
drill_number text = decimal_number text >>= λ n. if nat_lt n (2 ^ 32) then Some n else None

-- the value of an option, where it is given; None where it is given and isn't in its range
abbrev pub given : {A : Type 0} → (List ℕ → Option A) → Option (List ℕ) → Option (Option A)
given value None = Some None
given value (Some text) = option_map Some (value text)

-- what is given is in its range
pub record IsInRange (options : InitOptions) : Type 0 where
  pub segment : IfSome options.segment IsSegmentMib
  pub relseg : IfSome options.relseg (λ blocks. (1 ≤ blocks) × (blocks ≤ 131072))
