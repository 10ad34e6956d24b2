-- The network file: read left to right to a network, or to the one refusal of document 01's order.
-- "Order, build: .. per record its mark (1, 2), 6, then fields left to right (1, then 3 or 4), then 5; 7; 8 by node; then by node 9, 10".
-- "where 5 stood, in the order 5, 19, 20" (document 02, L1). Refusals 16 and 11 are the build's. Assumes nothing.
use Rattle.std.specs.Prelude.{ℕ, zero, suc, ◌+◌, List, [], ◌∷◌, ◌++◌, Bool, true, false, cond, not, ◌&&◌, ◌||◌, length, leb, ltb, eqb}
use Rattle.std.proofs.Math.Option.{Option, none, some}
use Rattle.std.specs.Float.{inf}
use Rattle.std.specs.Float.Ieee.{lt, eq}
use Rattle.layout.specs.Layout.{node_ceiling, edge_ceiling, aggregate_ceiling, virtual_storage_ceiling, aggregate_set_ceiling, part_ceiling, set_size_ceiling}
use Rattle.pywr.specs.Result.{value, Result, refused, ◌>>=◌, need, first_refused, refused_if}
use Rattle.pywr.specs.Bytes.{within, mark_is, u8, u16, u32, bits64, checked}
use Rattle.pywr.specs.Numbers.{is_flow, is_small, of_pattern}
use Rattle.pywr.specs.Network.{input, output, link, storage, Node, Edge, Aggregate, Part, VirtualStorage, Network, kind_of, is_exclusive, incoming, outgoing}

-- least and most included
unfoldable pub between : ℕ → ℕ → ℕ → Bool
between least most n = leb least n && leb n most

-- a record that was read, and where the next one starts
pub record Read (A : Type 0) : Type 0 where
  pub item : A
  pub next : ℕ

-- min and max: "Varying: both all zero bits."
unfoldable pub constant_fits : ℕ → ℕ → Bool
constant_fits constant bits = cond (eqb constant 1) (is_flow bits) (eqb bits 0)

-- the constant flag's most: "Storage is varying."
unfoldable pub most_constant : ℕ → ℕ
most_constant kind = cond (eqb kind storage) 0 1

-- `ND`: kind u8, constant u8, min f64, max f64
unfoldable pub read_node : List ℕ → ℕ → Result (Read Node)
read_node file at = do
  kind ← checked 3 at (between 0 3) (u8 file at 1 (at + 2))
  constant ← checked 3 at (between 0 (most_constant kind)) (u8 file at 1 (at + 3))
  min ← checked 3 at (constant_fits constant) (bits64 file at 1 (at + 4))
  max ← checked 3 at (constant_fits constant) (bits64 file at 1 (at + 12))
  value (record { item = record { kind = kind; constant = eqb constant 1; min = of_pattern min; max = of_pattern max }; next = at + 20 })

-- an edge of the list has this pair of nodes
unfoldable pub joins : List Edge → ℕ → ℕ → Bool
joins [] from to = false
joins (edge ∷ edges) from to = (eqb edge.from from && eqb edge.to to) || joins edges from to

-- "an edge into an input or out of an output"
unfoldable pub wrong_way : List Node → ℕ → ℕ → Bool
wrong_way nodes from to = eqb (kind_of nodes to) input || eqb (kind_of nodes from) output

-- `ED`: from u16, to u16. "in the order 5, 19, 20": the wrong way, "an edge from a node to itself", "a repeated pair". "The place of all these is the `from` field's byte
-- offset."
unfoldable pub read_edge : Network → List ℕ → ℕ → Result (Read Edge)
read_edge net file at = do
  from ← checked 4 at (λ n. ltb n (length net.nodes)) (u16 file at 1 (at + 2))
  to ← checked 4 at (λ n. ltb n (length net.nodes)) (u16 file at 1 (at + 4))
  right_way ← need (not (wrong_way net.nodes from to)) 5 (at + 2) (record { from = from; to = to })
  apart ← need (not (eqb from to)) 19 (at + 2) right_way
  unrepeated ← need (not (joins net.edges from to)) 20 (at + 2) apart
  value (record { item = unrepeated; next = at + 6 })

-- `count` more nodes of a set, after those read so far: the set's nodes in order
unfoldable pub read_members : List ℕ → ℕ → ℕ → ℕ → List ℕ → ℕ → Result (Read (List ℕ))
read_members file place nodes zero so_far at = value (record { item = so_far; next = at })
read_members file place nodes (suc count) so_far at = do
  n ← checked 4 place (λ n. ltb n nodes) (u16 file place 1 at)
  read_members file place nodes count (so_far ++ (n ∷ [])) (at + 2)

-- "each set: u8 1..16, then u16 nodes"
unfoldable pub read_sets : List ℕ → ℕ → ℕ → ℕ → List (List ℕ) → ℕ → Result (Read (List (List ℕ)))
read_sets file place nodes zero so_far at = value (record { item = so_far; next = at })
read_sets file place nodes (suc count) so_far at = do
  size ← checked 3 place (between 1 set_size_ceiling) (u8 file place 1 at)
  members ← read_members file place nodes size [] (at + 1)
  read_sets file place nodes count (so_far ++ (members.item ∷ [])) members.next

-- min_active and max_active: 0 if plain, and max_active at least min_active
unfoldable pub active_fits : ℕ → ℕ → ℕ → Bool
active_fits kind least n = (eqb kind 1 || eqb n 0) && leb least n

-- `AG`: kind u8 (0 plain, 1 exclusive), sets u8 1..16, min_active u32, max_active u32 (both 0 if plain), then the sets. 3 also "min_active over max_active"
unfoldable pub read_aggregate : Network → List ℕ → ℕ → Result (Read Aggregate)
read_aggregate net file at = do
  kind ← checked 3 at (between 0 1) (u8 file at 1 (at + 2))
  sets ← checked 3 at (between 1 aggregate_set_ceiling) (u8 file at 1 (at + 3))
  least ← checked 3 at (active_fits kind 0) (u32 file at 1 (at + 4))
  most ← checked 3 at (active_fits kind least) (u32 file at 1 (at + 8))
  read ← read_sets file at (length net.nodes) sets [] (at + 12)
  value (record { item = record { exclusive = eqb kind 1; min_active = least; max_active = most; sets = read.item }; next = read.next })

-- "then n of node u16, factor f64"
unfoldable pub read_parts : List ℕ → ℕ → ℕ → ℕ → List Part → ℕ → Result (Read (List Part))
read_parts file place nodes zero so_far at = value (record { item = so_far; next = at })
read_parts file place nodes (suc count) so_far at = do
  n ← checked 4 place (λ n. ltb n nodes) (u16 file place 1 at)
  factor ← checked 3 place is_small (bits64 file place 1 (at + 2))
  read_parts file place nodes count (so_far ++ (record { node = n; factor = of_pattern factor } ∷ [])) (at + 10)

-- "0 if always; else 1..12, 1..31": the least and the most that a date's byte may be
unfoldable pub least_date : ℕ → ℕ
least_date period = cond (eqb period 0) 0 1

unfoldable pub most_date : ℕ → ℕ → ℕ
most_date period most = cond (eqb period 0) 0 most

abbrev pub date_fits : ℕ → ℕ → ℕ → Bool
date_fits period most n = between (least_date period) (most_date period most) n

-- `VS`: period u8 (0 always, 1 period), start month, start day, end month, end day u8, n u8 1..64, then the parts
unfoldable pub read_virtual_storage : Network → List ℕ → ℕ → Result (Read VirtualStorage)
read_virtual_storage net file at = do
  period ← checked 3 at (between 0 1) (u8 file at 1 (at + 2))
  start_month ← checked 3 at (date_fits period 12) (u8 file at 1 (at + 3))
  start_day ← checked 3 at (date_fits period 31) (u8 file at 1 (at + 4))
  end_month ← checked 3 at (date_fits period 12) (u8 file at 1 (at + 5))
  end_day ← checked 3 at (date_fits period 31) (u8 file at 1 (at + 6))
  n ← checked 3 at (between 1 part_ceiling) (u8 file at 1 (at + 7))
  read ← read_parts file at (length net.nodes) n [] (at + 8)
  value
      (record {
        item =
            record {
              period = record { always = eqb period 0; start_month = start_month; start_day = start_day; end_month = end_month; end_day = end_day };
              parts = read.item;
            };
        next = read.next;
      })

-- the four marks, in the order in which their records stand
pub data Mark : Type 0 where
  ND ED AG VS : Mark

abbrev pub rank : Mark → ℕ
rank ND = 0
rank ED = 1
rank AG = 2
rank VS = 3

unfoldable pub mark_at : List ℕ → ℕ → Option Mark
mark_at file at =
    cond (mark_is file at 78 68) (some ND)
    (cond (mark_is file at 69 68) (some ED) (cond (mark_is file at 65 71) (some AG) (cond (mark_is file at 86 83) (some VS) none)))

-- 2 "unknown or out-of-order mark": `stage` is the rank of the record before
unfoldable pub in_order : ℕ → ℕ → Option Mark → Result Mark
in_order place stage none = refused 2 place
in_order place stage (some m) = cond (leb stage (rank m)) (value m) (refused 2 place)

-- "At most 256", "512", "64", "32": 6 where the record would be one more
unfoldable pub has_room : Network → Mark → Bool
has_room net ND = ltb (length net.nodes) node_ceiling
has_room net ED = ltb (length net.edges) edge_ceiling
has_room net AG = ltb (length net.aggregates) aggregate_ceiling
has_room net VS = ltb (length net.virtual_storages) virtual_storage_ceiling

-- the network with one record more
unfoldable pub with_node : Network → Read Node → Read Network
with_node net r =
    record {
      item = record { nodes = net.nodes ++ (r.item ∷ []); edges = net.edges; aggregates = net.aggregates; virtual_storages = net.virtual_storages };
      next = r.next;
    }

unfoldable pub with_edge : Network → Read Edge → Read Network
with_edge net r =
    record {
      item = record { nodes = net.nodes; edges = net.edges ++ (r.item ∷ []); aggregates = net.aggregates; virtual_storages = net.virtual_storages };
      next = r.next;
    }

unfoldable pub with_aggregate : Network → Read Aggregate → Read Network
with_aggregate net r =
    record {
      item = record { nodes = net.nodes; edges = net.edges; aggregates = net.aggregates ++ (r.item ∷ []); virtual_storages = net.virtual_storages };
      next = r.next;
    }

unfoldable pub with_virtual_storage : Network → Read VirtualStorage → Read Network
with_virtual_storage net r =
    record {
      item = record { nodes = net.nodes; edges = net.edges; aggregates = net.aggregates; virtual_storages = net.virtual_storages ++ (r.item ∷ []) };
      next = r.next;
    }

unfoldable pub read_body : Mark → Network → List ℕ → ℕ → Result (Read Network)
read_body ND net file at = read_node file at >>= λ r. value (with_node net r)
read_body ED net file at = read_edge net file at >>= λ r. value (with_edge net r)
read_body AG net file at = read_aggregate net file at >>= λ r. value (with_aggregate net r)
read_body VS net file at = read_virtual_storage net file at >>= λ r. value (with_virtual_storage net r)

-- how far the file is read: the network so far, the next record's offset and the rank of the record before
pub record Reading : Type 0 where
  pub network : Network
  pub at : ℕ
  pub stage : ℕ

-- one record: its mark (1, 2), 6, its fields (1, then 3 or 4), 5, 19, 20
unfoldable pub read_record : List ℕ → Reading → Result Reading
read_record file r = do
  found ← need (within file r.at 2) 1 r.at (mark_at file r.at)
  mark ← in_order r.at r.stage found
  known ← need (has_room r.network mark) 6 r.at mark
  read ← read_body known r.network file r.at
  value (record { network = read.item; at = read.next; stage = rank known })

-- The records up to the file's end, at most `left` of them. Each takes two bytes at least, so as many as the file has bytes are enough.
unfoldable pub read_records : ℕ → List ℕ → Reading → Result Network
read_records zero file r = value r.network
read_records (suc left) file r =
    elim (ltb r.at (length file)) [ true ↦ (read_record file r >>= λ next. read_records left file next) | false ↦ value r.network ]

abbrev pub empty_network : Network
empty_network = record { nodes = []; edges = []; aggregates = []; virtual_storages = [] }

-- 8 "link without incoming or outgoing"
unfoldable pub is_empty : List ℕ → Bool
is_empty [] = true
is_empty (x ∷ xs) = false

unfoldable pub unconnected_link : Network → ℕ → Node → Option ℕ
unconnected_link net index node = cond (eqb node.kind link && (is_empty (incoming net index) || is_empty (outgoing net index))) (some 8) none

-- 9 "constant min over max"; 10 "exclusive constant max −infinity or min +infinity"
unfoldable pub bad_constant : Network → ℕ → Node → Option ℕ
bad_constant net index node =
    cond (node.constant && lt node.max node.min) (some 9)
    (cond (node.constant && is_exclusive net.aggregates index && (eq node.max (inf true) || eq node.min (inf false))) (some 10) none)

-- 7 "no edges (place 0)"; 8 by node; then by node 9, 10
unfoldable pub check_network : Network → Result Network
check_network net = do
  with_edges ← need (ltb 0 (length net.edges)) 7 0 net
  connected ← refused_if with_edges (first_refused (unconnected_link with_edges) 0 with_edges.nodes)
  refused_if connected (first_refused (bad_constant connected) 0 connected.nodes)

-- the whole file
unfoldable pub parse_network : List ℕ → Result Network
parse_network file = read_records (length file) file (record { network = empty_network; at = 0; stage = 0 }) >>= check_network
