-- A field of the record at `place`, in the bytes from `at`: its value or where the next bytes start, or the refusal (1 where the file ends inside it, then 3 or 4).
-- Assumes nothing.
use Rattle.std.specs.Prelude.{ℕ, ◌+◌, ◌≤◌, Bool, cond, List, nat_lt, Result, Ok, Err}
use Rattle.pywr.specs.Bytes.{byte, le16, le32, le64, within}
use Rattle.pywr.specs.Numbers.{is_small}
use Rattle.pywr.specs.NetworkFile.{between, active_fits}
use Rattle.pywr.specs.declared.Reason.{Reason}
use Rattle.pywr.specs.declared.Refusal.{Refusal}
use Rattle.pywr.specs.Answers.{refusal_at}

-- the value, or where the next bytes start; else the refusal
abbrev pub Checked : Type 0
Checked = Result ℕ Refusal

-- a flag's byte
abbrev pub flag : Bool → ℕ
flag b = cond b 1 0

-- a byte from least to most, else 3
unfoldable pub byte_field : List ℕ → ℕ → ℕ → ℕ → ℕ → Checked
byte_field file place at least most =
    cond (within file at 1)
    (cond (between least most (byte file at)) (Ok (byte file at)) (Err (refusal_at Reason.OutOfRange place)))
    (Err (refusal_at Reason.FileEnds place))

-- a node's number, else 4
unfoldable pub node_field : List ℕ → ℕ → ℕ → ℕ → Checked
node_field file place at nodes =
    cond (within file at 2)
    (cond (nat_lt (le16 file at) nodes) (Ok (le16 file at)) (Err (refusal_at Reason.NoSuchNode place)))
    (Err (refusal_at Reason.FileEnds place))

-- min_active, or max_active with min_active as least
unfoldable pub active_field : List ℕ → ℕ → ℕ → ℕ → ℕ → Checked
active_field file place at kind least =
    cond (within file at 4)
    (cond (active_fits kind least (le32 file at)) (Ok (le32 file at)) (Err (refusal_at Reason.OutOfRange place)))
    (Err (refusal_at Reason.FileEnds place))

-- the factor of a virtual storage's part
unfoldable pub check_factor : List ℕ → ℕ → ℕ → Checked
check_factor file place at =
    cond (within file at 8)
    (cond (is_small (le64 file at)) (Ok (at + 8)) (Err (refusal_at Reason.OutOfRange place)))
    (Err (refusal_at Reason.FileEnds place))

-- the first refusal ends the record
abbrev pub check_then : {A B : Type 0} → Result A Refusal → (A → Result B Refusal) → Result B Refusal
check_then (Ok x) next = next x
check_then (Err refusal) next = Err refusal

-- an offset that is answered lies within a file of n bytes
abbrev pub NextWithin : Checked → ℕ → Type 0
NextWithin (Ok at) n = at ≤ n
NextWithin (Err refusal) n = Unit {0}
