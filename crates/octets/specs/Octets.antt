-- Definitions. Numbers from bytes (01, "Course sheet": "Little-endian").
use Rattle.std.specs.Prelude.{ℕ, zero, suc, ◌+◌, ◌*◌, ◌^◌, List, get_or}

-- the number whose n bytes stand from o on, least first: byte k counts 256 ^ k
unfoldable pub little : ℕ → List ℕ → ℕ → ℕ
little zero s o = 0
little (suc n) s o = little n s o + 256 ^ n * get_or s (o + n) 0
