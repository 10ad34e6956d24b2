-- The files' bytes: little-endian integers, bit patterns of f64, two-byte marks, and readers of one field, which answer its value or a refusal.
-- Assumes nothing.
use Rattle.std.specs.Prelude.{ℕ, ◌+◌, ◌*◌, List, Bool, ◌&&◌, length, get_or, leb, eqb}
use Rattle.pywr.specs.Result.{Result, ◌>>=◌, need}

-- "Integers are unsigned little-endian"
abbrev pub byte : List ℕ → ℕ → ℕ
byte file at = get_or file at 0

abbrev pub le16 : List ℕ → ℕ → ℕ
le16 file at = byte file at + 256 * byte file (at + 1)

abbrev pub le32 : List ℕ → ℕ → ℕ
le32 file at = le16 file at + 65536 * le16 file (at + 2)

-- "f64 is the little-endian bit pattern": the pattern
abbrev pub le64 : List ℕ → ℕ → ℕ
le64 file at = le32 file at + 4294967296 * le32 file (at + 4)

-- so many bytes stand in the file from `at` on
abbrev pub within : List ℕ → ℕ → ℕ → Bool
within file at count = leb (at + count) (length file)

-- "A two-byte ASCII mark opens each record"
abbrev pub mark_is : List ℕ → ℕ → ℕ → ℕ → Bool
mark_is file at first second = eqb (byte file at) first && eqb (byte file (at + 1)) second

-- A field of the record at `place`, in the bytes from `at`. `short` is the refusal where the file ends inside the field: 1 in a network, 12 in a step.
module _ (file : List ℕ) (place short : ℕ) where
  unfoldable pub u8 : ℕ → Result ℕ
  u8 at = need (within file at 1) short place (byte file at)

  unfoldable pub u16 : ℕ → Result ℕ
  u16 at = need (within file at 2) short place (le16 file at)

  unfoldable pub u32 : ℕ → Result ℕ
  u32 at = need (within file at 4) short place (le32 file at)

  unfoldable pub bits64 : ℕ → Result ℕ
  bits64 at = need (within file at 8) short place (le64 file at)

-- "fields left to right (1, then 3 or 4)": the field is read, and then its value tested
unfoldable pub checked : ℕ → ℕ → (ℕ → Bool) → Result ℕ → Result ℕ
checked number place ok field = field >>= λ x. need (ok x) number place x
