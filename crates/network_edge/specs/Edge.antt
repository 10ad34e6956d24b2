-- An `ED` record by its bytes: what it holds, and its check, which answers where the next record starts or the refusal.
-- Assumes nothing.
use Rattle.std.specs.Prelude.{ℕ, zero, suc, ◌+◌, ◌*◌, List, Bool, false, cond, ◌&&◌, ◌||◌, eqb, Ok, Err}
use Rattle.pywr.specs.Bytes.{byte, le16}
use Rattle.pywr.specs.declared.Reason.{Reason}
use Rattle.pywr.specs.Answers.{refusal_at}
use Rattle.pywr.specs.Network.{input, output, Edge, source, target}
use Rattle.fields.specs.Field.{Checked, node_field, check_then}
use Rattle.network_node.specs.Node.{kind_offset, node_place}
use Rattle.network_edge.specs.declared.End.{End}

-- its length, and where its ends stand in it
abbrev pub edge_length : ℕ
edge_length = 6

abbrev pub from_offset : ℕ
from_offset = 2

abbrev pub to_offset : ℕ
to_offset = 4

-- where edge k stands: the edges come behind the nodes
abbrev pub edge_place : ℕ → ℕ → ℕ
edge_place nodes k = node_place nodes + edge_length * k

abbrev pub edge_at : List ℕ → ℕ → Edge
edge_at file at = record { from = le16 file (at + from_offset); to = le16 file (at + to_offset) }

abbrev pub end_of : End → Edge → ℕ
end_of End.From = source
end_of End.To = target

-- one of the `count` edges from `at` has these ends
unfoldable pub pair_among : List ℕ → ℕ → ℕ → ℕ → ℕ → Bool
pair_among file zero at from to = false
pair_among file (suc count) at from to =
    let rest = pair_among file count (at + edge_length) from to in
    (eqb (le16 file (at + from_offset)) from && eqb (le16 file (at + to_offset)) to) || rest

-- 5 "an edge into an input or out of an output": the nodes' kinds are read where their records stand
unfoldable pub wrong_way_at : List ℕ → ℕ → ℕ → Bool
wrong_way_at file from to = eqb (byte file (node_place to + kind_offset)) input || eqb (byte file (node_place from + kind_offset)) output

-- an edge whose ends are nodes: 5, 19 and 20 in turn, at the `from` field of its record at `at`
unfoldable pub check_ends : List ℕ → ℕ → ℕ → ℕ → ℕ → ℕ → Checked
check_ends file nodes edges at from to =
    cond (wrong_way_at file from to) (Err (refusal_at Reason.WrongEnd (at + from_offset)))
    (cond (eqb from to) (Err (refusal_at Reason.EdgeToItself (at + from_offset)))
    (cond (pair_among file edges (node_place nodes) from to) (Err (refusal_at Reason.RepeatedEdge (at + from_offset))) (Ok (at + edge_length))))

unfoldable pub check_edge : List ℕ → ℕ → ℕ → ℕ → Checked
check_edge file nodes edges at =
    check_then (node_field file at (at + from_offset) nodes) (λ from.
    check_then (node_field file at (at + to_offset) nodes) (λ to. check_ends file nodes edges at from to))
