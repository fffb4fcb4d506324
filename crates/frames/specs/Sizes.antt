-- The sizes of a frame's parts, in bytes.
use Rattle.std.specs.Prelude.{ℕ, ◌+◌, ◌*◌}
use Rattle.clocks.specs.Clocks.{tower_limit}
use Rattle.messages.specs.Limits.{line_limit}

-- what stands before the clock
abbrev pub head_size : ℕ
head_size = 12

abbrev pub entry_size : ℕ
entry_size = 4

abbrev pub line_size : ℕ
line_size = 12

-- a frame without lines whose clock has so many entries
abbrev pub fixed_size : ℕ → ℕ
fixed_size entries = head_size + entry_size * entries

-- a frame of n lines
abbrev pub frame_size : ℕ → ℕ → ℕ
frame_size entries n = fixed_size entries + line_size * n

-- the longest frame
abbrev pub most_bytes : ℕ
most_bytes = frame_size tower_limit line_limit
