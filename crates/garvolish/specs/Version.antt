-- What a caller is compiled against: the library's version, and the block's layout.
use Rattle.std.specs.Prelude.{ℕ, ◌+◌, ◌*◌}

-- the version of the file VERSION, 0.13.0: major, then a byte each for minor and patch
abbrev pub VERSION : ℕ
VERSION = 65536 * 0 + 256 * 13 + 0

-- the bytes of a block, in layout 1
abbrev pub SIZE : ℕ
SIZE = 38696
