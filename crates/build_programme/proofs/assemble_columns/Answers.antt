-- `build_programme::assemble_columns` meets its contract.
use native.Mathlib.Omega.{arith}
use Rattle.build_incident_edges.proofs.PassedEdges.{from_under, to_under}
use Rattle.build_programme.proofs.Columns.{mapped_so}
use Rattle.build_programme.proofs.assemble_columns.Goals as goal

pub list_edges-requires : goal.list_edges-requires
list_edges-requires c =
    let s = c.requires.1 in
    (s.few_nodes, s.few_edges, omega (arith, s.fixed, s.inside), λ e h. to_under _ _ _ s.edges_pass e h)

pub list_edges-requires-2 : goal.list_edges-requires-2
list_edges-requires-2 c =
    let s = c.requires.1 in
    (s.few_nodes, s.few_edges, omega (arith, s.fixed, s.inside), λ e h. from_under _ _ _ s.edges_pass e h)

pub map_edges-map-requires : goal.map_edges-map-requires
map_edges-map-requires c =
    let s = c.requires.1 in
    (s.few_nodes, s.few_edges, omega (arith, s.fixed, s.inside), (λ e h. from_under _ _ _ s.edges_pass e h), c.list_edges.ensures, c.list_edges-2.ensures)

pub assemble_rows-requires : goal.assemble_rows-requires
assemble_rows-requires c =
    let c₀ = c.args.c in
    let m = c.map_edges-map.ensures c₀.aggregates c₀.virtual_storages in (
      record {
        parsed = c.requires.0;
        sections = c.requires.1;
        into = c.list_edges.ensures;
        out_of = c.list_edges-2.ensures;
        mapped = mapped_so _ _ _ m;
      },
      m.count_is,
      c.requires.2,
    )
