-- The sizes of the memory that a desk is lent beside that of `frames`, which src/sizes.rt names for the code.
use Rattle.std.specs.Prelude.{ℕ, ◌+◌, ◌*◌, ◌/◌}
use Rattle.rules.specs.Text.{digits_max}
use Rattle.frames.specs.Sizes.{result_max}

-- The bytes of the longest frame.
abbrev pub frame_max : ℕ
frame_max = digits_max / 2

-- The bytes that the fourth field may take at most: a space, and a number of 64 bits.
abbrev pub field_max : ℕ
field_max = 21

-- The bytes that the line for one answer may take at most: a number of 64 bits, a space, the answer and its result in hex, the fourth field,
-- and a line feed.
abbrev pub answer_max : ℕ
answer_max = 20 + 1 + (2 + 2 * result_max) + field_max + 1
