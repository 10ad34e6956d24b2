-- Every network that was read has its edges the right way, and telling 19 and 20 from 5 accepts no other edge. Assumes nothing.
use mathlib.Core.Path.{◌≡◌, refl, ap}
use Prim.Native.Nat.{ℕ, ◌+◌, ◌-◌}
use native.Mathlib.Omega.{arith}
use mathlib.Core.List.{List}
use mathlib.Core.Bool.{Bool, true, false, cond, not, ◌||◌}
use lib.Dec.{eqb}
use Rattle.pywr.specs.Result.{Result, value, refused, ◌>>=◌, need}
use Rattle.pywr.specs.Bytes.{le16, within, u16, checked}
use Rattle.pywr.specs.Network.{Edge}
use Rattle.pywr.specs.NetworkFile.{Read, joins, wrong_way, read_edge}
use Rattle.pywr.specs.EdgeRefusals.{ReadRightWay, bad_edge, read_edge_with_five, told_as_five, SameEdges}
use Rattle.pywr.proofs.ListLaws.{found_mem}
use Rattle.pywr.proofs.ReadLaws.{EdgeOk, read_sound}

pub read_right_way : ReadRightWay
read_right_way file net read =
    let ok : (number : ℕ) (edge : Edge) → _ → EdgeOk net.nodes edge = λ number edge found. (read_sound file net read).good.edges edge (found_mem net.edges number edge found) in
    record {
      into_no_input = λ number edge found. (ok number edge found).into_no_input;
      out_of_no_output = λ number edge found. (ok number edge found).out_of_no_output;
    }

-- ---- the same edges

-- a refusal that is neither 5, 19 nor 20 is told as it is
told_then : {A B : Type 0} (r : Result A) (f g : A → Result B) → told_as_five r ≡ r → ((x : A) → told_as_five (f x) ≡ g x) → told_as_five (r >>= f) ≡ (r >>= g)
unfolding told_as_five ◌>>=◌
told_then (value x) f g kept same = same x
told_then {A} {B} (refused number place) f g kept same = go (eqb number 5 || eqb number 19 || eqb number 20) kept
  where
    go : (b : Bool) → cond {A = Result A} b (refused 5 (place - 2)) (refused number place) ≡ refused number place
        → cond {A = Result B} b (refused 5 (place - 2)) (refused number place) ≡ refused number place
    go true e = let n : 5 ≡ number = cc in let p : place - 2 ≡ place = cc in cc
    go false e = refl

need_kept : {A : Type 0} (ok : Bool) (number place : ℕ) (x : A) → (eqb number 5 || eqb number 19 || eqb number 20) ≡ false → told_as_five (need ok number place x) ≡ need ok number place x
unfolding told_as_five need
need_kept true number place x e = refl
need_kept false number place x e = rw e

node_kept : (file : List ℕ) (place at : ℕ) (ok : ℕ → Bool) → told_as_five (checked 4 place ok (u16 file place 1 at)) ≡ checked 4 place ok (u16 file place 1 at)
unfolding checked u16
node_kept file place at ok = told_then _ _ _ (need_kept (within file at 2) 1 place (le16 file at) refl) (λ x. need_kept (ok x) 4 place x refl)

-- the three tests in turn, and the one
three_tests : (wrong itself repeats : Bool) (at : ℕ) (edge : Edge) → told_as_five {A = Read Edge}
    (need (not wrong) 5 (at + 2) edge >>= λ right_way.
    need (not itself) 19 (at + 2) right_way >>= λ apart.
    need (not repeats) 20 (at + 2) apart >>= λ unrepeated. value (record { item = unrepeated; next = at + 6 }))
    ≡ need (not (wrong || itself || repeats)) 5 at (record { item = edge; next = at + 6 })
unfolding told_as_five need ◌>>=◌
three_tests true itself repeats at edge = ap (refused 5) (let k : at + 2 - 2 ≡ at = omega arith in k)
three_tests false true repeats at edge = ap (refused 5) (let k : at + 2 - 2 ≡ at = omega arith in k)
three_tests false false true at edge = ap (refused 5) (let k : at + 2 - 2 ≡ at = omega arith in k)
three_tests false false false at edge = refl

pub same_edges : SameEdges
unfolding read_edge read_edge_with_five bad_edge wrong_way
same_edges net file at =
    told_then _ _ _ (node_kept file at (at + 2) _) (λ from.
    told_then _ _ _ (node_kept file at (at + 4) _) (λ to.
    three_tests (wrong_way net.nodes from to) (eqb from to) (joins net.edges from to) at (record { from = from; to = to })))
