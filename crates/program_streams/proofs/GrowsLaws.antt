-- A writer that grows and grows again. Assumes nothing.
use Rattle.std.proofs.Common.{ℕ, List, [], ◌++◌, take, length, ◌<◌}
use Rattle.std.specs.Prelude.{Option, Result, Ok, Err, OnOk, OnErr}
use Rattle.std.specs.Io.KnownBytes.{Appends}
use Rattle.std.proofs.KnownBytes.{Appends-nil, Appends-trans}
use Rattle.program_streams.specs.Streams.{Grows}

pub grows_not : (a : Option (List ℕ)) → Grows a a
grows_not a = ([], Appends-nil a)

pub grows_by : (a b : Option (List ℕ)) (xs : List ℕ) → Appends a b xs → Grows a b
grows_by a b xs h = (xs, h)

pub grows_then : (a b c : Option (List ℕ)) → Grows a b → Grows b c → Grows a c
grows_then a b c g h = (g.0 ++ h.0, Appends-trans a b c g.0 h.0 g.1 h.1)

-- a write of bytes, whole or in part
pub grows_written : {E : Type 0} (r : Result (Unit {0}) E) (a b : Option (List ℕ)) (bytes : List ℕ)
    → OnOk r (Appends a b bytes) → OnErr r ((n : ℕ) × (n < length bytes) × Appends a b (take n bytes)) → Grows a b
grows_written (Ok x) a b bytes whole part = (bytes, whole)
grows_written (Err e) a b bytes whole part = (take part.0 bytes, part.2)
