-- The definition's checks of a whole network, by what each of them answers. Assumes nothing.
use Prim.Native.Nat.{ℕ}
use mathlib.Core.Path.{◌≡◌, refl}
use mathlib.Core.List.{List}
use mathlib.Core.Bool.{true}
use mathlib.Core.Option.{none, some}
use native.Mathlib.Omega.{arith}
use borrow.Author.Tests.{lt-ltb, le-ltb}
use lib.ListN.{length}
use lib.Dec.{ltb}
use Rattle.pywr.specs.Result.{refused, ◌>>=◌, need, first_refused, refused_if}
use Rattle.pywr.specs.Network.{Network}
use Rattle.pywr.specs.NetworkFile.{unconnected_link, bad_constant, check_network}
use Rattle.network_laws.proofs.Index.{edge_count}
use Rattle.network_record.specs.Counts.{network_of}
use Rattle.network_record.specs.declared.Counts.{Counts}
use Rattle.network_checks.specs.Refusal.{found_by, result_with}
use Rattle.std.specs.Prelude.{Ok, Err}
use Rattle.pywr.specs.Answer.{Answer}

pub edges_of_lem : (file : List ℕ) (c : Counts) → length (network_of file c).edges ≡ c.edges
edges_of_lem file c = edge_count file c.nodes c.edges c.aggregates c.virtual_storages

refused_by : (net : Network) (r : Answer) → refused_if net (found_by r) ≡ result_with net r
unfolding refused_if
refused_by net (Ok _) = refl
refused_by net (Err r) = refl

module _ (net : Network) where
  pub no_edges : length net.edges ≡ 0 → check_network net ≡ refused 7 0
  unfolding check_network need ◌>>=◌
  no_edges q = rw (le-ltb 0 (length net.edges) (omega arith))

  module _ (some_edges : length net.edges ≡ 0 → ⊥) where
    has_edges : ltb 0 (length net.edges) ≡ true
    has_edges = lt-ltb 0 (length net.edges) (omega arith)

    pub link_refused : (n p : ℕ) → first_refused (unconnected_link net) 0 net.nodes ≡ some (n, p) → check_network net ≡ refused n p
    unfolding check_network need ◌>>=◌ refused_if
    link_refused n p e = rw (has_edges, e)

    pub links_pass : (r : Answer) → first_refused (unconnected_link net) 0 net.nodes ≡ none → first_refused (bad_constant net) 0 net.nodes ≡ found_by r → check_network net ≡ result_with net r
    unfolding check_network need ◌>>=◌ refused_if
    links_pass r e f = rw (has_edges, e, f) (refused_by net r)

-- for the function that asks them all
pub ruleset checked = (edges_of_lem, no_edges, link_refused, links_pass)
