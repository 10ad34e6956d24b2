-- Records that stand one behind the other in a file. `end` says where a record ends. Assumes nothing.
use Rattle.std.specs.Prelude.{◌≡◌, ℕ, zero, suc, ◌+◌, ◌<◌, List, [], ◌∷◌, Ok}
use Rattle.fields.specs.Field.{Checked, check_then}

-- `count` records from `at`: `read` is what a record holds
unfoldable pub records_at : {A : Type 0} → (ℕ → A) → (ℕ → ℕ) → ℕ → ℕ → List A
records_at read end zero at = []
records_at read end (suc count) at = read at ∷ records_at read end count (end at)

-- where the last of them ends
unfoldable pub records_end : (ℕ → ℕ) → ℕ → ℕ → ℕ
records_end end zero at = at
records_end end (suc count) at = records_end end count (end at)

-- `count` records from `at` are checked in turn: where the last ends, or the first refusal
unfoldable pub check_each : (ℕ → Checked) → ℕ → ℕ → Checked
check_each check zero at = Ok at
check_each check (suc count) at = check_then (check at) (λ next. check_each check count next)

-- each of `count` records from `start` passed; `check i` is the check of record i
abbrev pub AllPass : (ℕ → ℕ → Checked) → (ℕ → ℕ) → ℕ → ℕ → Type 0
AllPass check end count start = (i : ℕ) → i < count → check i (records_end end i start) ≡ Ok (records_end end (i + 1) start)
