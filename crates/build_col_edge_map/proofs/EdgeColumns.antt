-- The columns of a network's edges: as the table holds them, and as the rows take them. Assumes nothing.
use Prim.Native.Nat.{ℕ, suc, ◌<◌, ◌≤◌}
use mathlib.Core.Path.{◌≡◌, refl, ap, ◌∙◌}
use mathlib.Core.List.{List, map}
use native.Mathlib.Nat.{zero-add}
use native.Mathlib.Omega.{arith}
use lib.ListN.{length, get_or}
use Rattle.pywr.specs.Network.{Network, source, target, incoming, outgoing}
use Rattle.pywr.specs.ColEdgeMap.{columns, column_at, mapped_edges, column_of}
use Rattle.pywr.specs.Rows.{columns_into, columns_out_of}
use Rattle.pywr.proofs.LinkLaws.{NoSelf, columns_paths}
use Rattle.pywr.proofs.TurnLaws.{column_is}
use Rattle.pywr.proofs.MassLaws.{columns_with_lem}
use Rattle.pywr.proofs.FitLaws.{columns_long, columns_most}
use Rattle.build_col_edge_map.specs.Mapped.{code, Mapped}
use Rattle.build_col_edge_map.proofs.MappedLaws.{mapped_at}

-- ---- where no edge joins a node to itself, every edge has a column

module _ (net : Network) (apart : NoSelf net) (e : ℕ) (under : e < length net.edges) where
  pub column_under : column_of net e < (columns net).count
  column_under = (columns_paths net apart).below e (column_of net e) (column_is net apart e under)

  pub column_at_lem : (table : List ℕ) (count : ℕ) → Mapped (columns net) table count → get_or table e 0 ≡ suc (column_of net e)
  column_at_lem table count m = mapped_at (columns net) table count m e (omega (arith, columns_long net)) ∙ ap code (column_is net apart e under)

pub columns_few : (net : Network) (table : List ℕ) (count : ℕ) → Mapped (columns net) table count → count ≤ length net.edges
columns_few net table count m = omega (arith, m.count_is, columns_most net)

-- ---- the columns of a node's edges

module _ (net : Network) (n : ℕ) where
  pub columns_into_lem : columns_into n (mapped_edges net) ≡ map (column_of net) (incoming net n)
  unfolding columns_into mapped_edges incoming column_of column_at
  columns_into_lem =
      columns_with_lem (λ p. p.to) target (λ x k. refl) n (column_of net) net.edges (columns net).of 0 (columns_long net) (λ j. ap (column_of net) (zero-add j))

  pub columns_out_of_lem : columns_out_of n (mapped_edges net) ≡ map (column_of net) (outgoing net n)
  unfolding columns_out_of mapped_edges outgoing column_of column_at
  columns_out_of_lem =
      columns_with_lem (λ p. p.from) source (λ x k. refl) n (column_of net) net.edges (columns net).of 0 (columns_long net) (λ j. ap (column_of net) (zero-add j))
