-- `build_col_edge_map::shares_with` meets its contract.
use Prim.Native.Nat.{suc}
use mathlib.Core.Path.{◌≡◌, sym, ap, ◌∙◌}
use native.Mathlib.Omega.{arith}
use Rattle.network_node.specs.Node.{node_kind}
use Rattle.network_node.proofs.KindLaws.{is_link}
use Rattle.build_col_edge_map.specs.Mapped.{number_of}
use Rattle.build_col_edge_map.proofs.Turn.{not_link, not_one_out, across}
use Rattle.build_col_edge_map.proofs.shares_with.Goals as goal

pub returns-in_err-only_edge-in-Link : goal.returns-in_err-only_edge-in-Link
returns-in_err-only_edge-in-Link c =
    rw c.from_residual.ensures
    (λ size into out i o.
    not_one_out _ into out (is_link _ (sym c.kind.ensures ∙ c.in-Link.is)) (sym (c.only_edge.ensures size out o) ∙ ap number_of c.in_err-only_edge-in-Link.was))

pub returns-in_ok-only_edge-in-Link : goal.returns-in_ok-only_edge-in-Link
returns-in_ok-only_edge-in-Link c =
    λ size into out i o.
    c.only_edge-in-Link.ensures size into i
    ∙ across _ into out (is_link _ (sym c.kind.ensures ∙ c.in-Link.is))
    (λ z. let q : suc c.in_ok-only_edge-in-Link.field-0.0 ≡ 0 = sym (ap number_of c.in_ok-only_edge-in-Link.was) ∙ c.only_edge.ensures size out o ∙ z in omega arith)

pub returns-in_default : goal.returns-in_default
unfolding node_kind
returns-in_default c = λ size into out i o. not_link _ into out (λ q. c.in_default.not-Link (c.kind.ensures ∙ ap node_kind q))
