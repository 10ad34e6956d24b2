-- An `ND` record by its bytes: what it holds, and its check, which answers where the next record starts or the refusal. Assumes nothing.
use Rattle.std.specs.Prelude.{ℕ, ◌+◌, ◌*◌, List, cond, eqb, Ok, Err}
use Rattle.pywr.specs.Bytes.{byte, le64, within}
use Rattle.pywr.specs.Numbers.{of_pattern}
use Rattle.pywr.specs.declared.Reason.{Reason}
use Rattle.pywr.specs.Answers.{refusal_at}
use Rattle.pywr.specs.Network.{input, output, link, Node}
use Rattle.pywr.specs.NetworkFile.{most_constant, constant_fits}
use Rattle.fields.specs.Field.{Checked, byte_field, check_then}
use Rattle.network_node.specs.declared.NodeKind.{NodeKind}

-- its length, and where its fields stand in it
abbrev pub node_length : ℕ
node_length = 20

abbrev pub kind_offset : ℕ
kind_offset = 2

abbrev pub constant_offset : ℕ
constant_offset = 3

abbrev pub min_offset : ℕ
min_offset = 4

abbrev pub max_offset : ℕ
max_offset = 12

-- where node k stands: the nodes come first
abbrev pub node_place : ℕ → ℕ
node_place k = node_length * k

abbrev pub node_at : List ℕ → ℕ → Node
node_at file at =
    record {
      kind = byte file (at + kind_offset);
      constant = eqb (byte file (at + constant_offset)) 1;
      min = of_pattern (le64 file (at + min_offset));
      max = of_pattern (le64 file (at + max_offset));
    }

-- the kind that a byte names; a byte that passed is none above 3
unfoldable pub node_kind : ℕ → NodeKind
node_kind number =
    cond (eqb number input) NodeKind.Input (cond (eqb number output) NodeKind.Output (cond (eqb number link) NodeKind.Link NodeKind.Storage))

-- min or max
unfoldable pub check_bound : List ℕ → ℕ → ℕ → ℕ → Checked
check_bound file place at constant =
    cond (within file at 8)
    (cond (constant_fits constant (le64 file at)) (Ok (at + 8)) (Err (refusal_at Reason.OutOfRange place)))
    (Err (refusal_at Reason.FileEnds place))

unfoldable pub check_node : List ℕ → ℕ → Checked
check_node file at =
    check_then (byte_field file at (at + kind_offset) 0 3) (λ kind.
    check_then (byte_field file at (at + constant_offset) 0 (most_constant kind)) (λ constant.
    check_then (check_bound file at (at + min_offset) constant) (λ next.
    check_then (check_bound file at (at + max_offset) constant) (λ next.
    Ok (at + node_length)))))
