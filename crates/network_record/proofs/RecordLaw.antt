-- One record: the definition's `read_record` is the check, with the record read where it stands. Assumes nothing.
use Prim.Native.Nat.{ℕ}
use mathlib.Core.Path.{◌≡◌, refl}
use mathlib.Core.List.{List}
use mathlib.Core.Bool.{Bool, true, false, cond}
use mathlib.Core.Option.{Option, none, some}
use Rattle.std.specs.Prelude.{Ok, Err, Some, None}
use borrow.Author.Tests.{leb-true, leb-false, lt-ltb, le-ltb}
use lib.Dec.{leb, ltb}
use Rattle.pywr.specs.Result.{Result, value, refused, ◌>>=◌, need}
use Rattle.pywr.specs.Bytes.{within, mark_is}
use Rattle.pywr.specs.Network.{Network}
use Rattle.pywr.specs.NetworkFile as definition
use Rattle.pywr.specs.NetworkFile.{Reading, ND, ED, AG, VS, in_order, has_room, with_node, with_edge, with_aggregate, with_virtual_storage, read_body, read_record}
use Rattle.pywr.specs.declared.Reason.{Reason}
use Rattle.pywr.specs.Answers.{refusal_at}
use Rattle.fields.specs.Field.{Checked}
use Rattle.network_node.specs.Node.{node_at, check_node}
use Rattle.network_edge.specs.Edge.{edge_at, check_edge}
use Rattle.network_aggregate.specs.AggregatedNode.{aggregate_at, check_aggregate}
use Rattle.network_virtual_storage.specs.VirtualStorage.{virtual_storage_at, check_virtual_storage}
use Rattle.network_laws.proofs.Readers.{answer}
use Rattle.network_laws.proofs.RecordReaders.{node_law, edge_law, aggregate_law, virtual_storage_law}
use Rattle.network_laws.proofs.Index.{node_count_lem, edge_count, aggregate_count_lem, virtual_storage_count_lem}
use Rattle.network_record.specs.Counts.{network_of}
use Rattle.network_record.specs.Record.{CheckedRecord, Found, rank, mark_at, record_of, check_marked, check_found, check_record}
use Rattle.network_record.specs.declared.Mark.{Mark}
use Rattle.network_record.specs.declared.Counts.{Counts}

-- the network with the record at `at`, which has this mark
abbrev pub with_body : Mark → Network → List ℕ → ℕ → ℕ → Network
with_body Mark.Node net file at x = (with_node net (record { item = node_at file at; next = x })).item
with_body Mark.Edge net file at x = (with_edge net (record { item = edge_at file at; next = x })).item
with_body Mark.Aggregate net file at x = (with_aggregate net (record { item = aggregate_at file at; next = x })).item
with_body Mark.VirtualStorage net file at x = (with_virtual_storage net (record { item = virtual_storage_at file at; next = x })).item

-- how far the file is read after a record
abbrev pub after : Network → List ℕ → ℕ → CheckedRecord → Result Reading
after net file at (Ok r) = value (record { network = with_body r.mark net file at r.end; at = r.end; stage = rank r.mark })
after net file at (Err refusal) = refused refusal.number refusal.place

-- a mark as the definition names it
abbrev named : Found → Option definition.Mark
named None = none
named (Some Mark.Node) = some ND
named (Some Mark.Edge) = some ED
named (Some Mark.Aggregate) = some AG
named (Some Mark.VirtualStorage) = some VS

named_by : (a b c d : Bool) → cond a (some ND) (cond b (some ED) (cond c (some AG) (cond d (some VS) none)))
    ≡ named (cond a (Some Mark.Node) (cond b (Some Mark.Edge) (cond c (Some Mark.Aggregate) (cond d (Some Mark.VirtualStorage) None))))
named_by true b c d = refl
named_by false true c d = refl
named_by false false true d = refl
named_by false false false true = refl
named_by false false false false = refl

mark_law : (file : List ℕ) (at : ℕ) → definition.mark_at file at ≡ named (mark_at file at)
unfolding mark_at definition.mark_at
mark_law file at = named_by (mark_is file at 78 68) (mark_is file at 69 68) (mark_is file at 65 71) (mark_is file at 86 83)

module _ (net : Network) (file : List ℕ) (at stage : ℕ) where
  mark_then : (b : Bool) (x : Option definition.Mark) (t : CheckedRecord) (K : Option definition.Mark → Result Reading) → K x ≡ after net file at t
      → (need b 1 at x >>= K) ≡ after net file at (cond b t (Err (refusal_at Reason.FileEnds at)))
  unfolding need ◌>>=◌
  mark_then true x t K h = h
  mark_then false x t K h = refl

  room_then : (b : Bool) (m : definition.Mark) (mark : Mark) (st : Checked) (K : definition.Mark → Result Reading) → K m ≡ after net file at (record_of mark st)
      → (need b 6 at m >>= K) ≡ after net file at (record_of mark (cond b st (Err (refusal_at Reason.TooManyRecords at))))
  unfolding need ◌>>=◌
  room_then true m mark st K h = h
  room_then false m mark st K h = refl

  in_order_at : (b : Bool) (m : definition.Mark) (t : CheckedRecord) (K : definition.Mark → Result Reading) → leb stage (definition.rank m) ≡ b → K m ≡ after net file at t
      → (cond (leb stage (definition.rank m)) (value m) (refused 2 at) >>= K)
      ≡ after net file at (cond (ltb (definition.rank m) stage) (Err (refusal_at Reason.WrongMark at)) t)
  unfolding ◌>>=◌
  in_order_at true m t K e h = rw (e, le-ltb (definition.rank m) stage (leb-true stage (definition.rank m) e)) h
  in_order_at false m t K e h = rw (e, lt-ltb (definition.rank m) stage (leb-false stage (definition.rank m) e))

  in_order_lem : (m : definition.Mark) (t : CheckedRecord) (K : definition.Mark → Result Reading) → K m ≡ after net file at t
      → (in_order at stage (some m) >>= K) ≡ after net file at (cond (ltb (definition.rank m) stage) (Err (refusal_at Reason.WrongMark at)) t)
  unfolding in_order
  in_order_lem m t K h = in_order_at (leb stage (definition.rank m)) m t K refl h

  node_last : (st : Checked) → ((answer (node_at file at) st >>= λ r. value (with_node net r)) >>= λ read. value
      (record { network = read.item; at = read.next; stage = 0 })) ≡ after net file at (record_of Mark.Node st)
  unfolding ◌>>=◌ with_node
  node_last (Ok x) = refl
  node_last (Err r) = refl

  edge_last : (st : Checked) → ((answer (edge_at file at) st >>= λ r. value (with_edge net r)) >>= λ read. value
      (record { network = read.item; at = read.next; stage = 1 })) ≡ after net file at (record_of Mark.Edge st)
  unfolding ◌>>=◌ with_edge
  edge_last (Ok x) = refl
  edge_last (Err r) = refl

  aggregate_last : (st : Checked) → ((answer (aggregate_at file at) st >>= λ r. value (with_aggregate net r)) >>= λ read. value
      (record { network = read.item; at = read.next; stage = 2 })) ≡ after net file at (record_of Mark.Aggregate st)
  unfolding ◌>>=◌ with_aggregate
  aggregate_last (Ok x) = refl
  aggregate_last (Err r) = refl

  virtual_storage_last : (st : Checked) →
      ((answer (virtual_storage_at file at) st >>= λ r. value (with_virtual_storage net r)) >>= λ read. value
      (record { network = read.item; at = read.next; stage = 3 })) ≡ after net file at (record_of Mark.VirtualStorage st)
  unfolding ◌>>=◌ with_virtual_storage
  virtual_storage_last (Ok x) = refl
  virtual_storage_last (Err r) = refl

module _ (file : List ℕ) (at : ℕ) (stage : Mark) (c : Counts) where
  abbrev here : Network
  here = network_of file c

  -- what follows the mark
  abbrev rest : Option definition.Mark → Result Reading
  rest found =
      in_order at (rank stage) found >>= λ mark.
      need (has_room here mark) 6 at mark >>= λ known.
      read_body known here file at >>= λ read.
      value (record { network = read.item; at = read.next; stage = definition.rank known })

  rest_law : (found : Found) → rest (named found) ≡ after here file at (check_found file at c stage found)
  unfolding check_marked has_room read_body in_order ◌>>=◌
  rest_law None = refl
  rest_law (Some Mark.Node) =
      in_order_lem here file at (rank stage) ND _ _
      (rw (node_count_lem file c.nodes c.edges c.aggregates c.virtual_storages)
      (room_then here file at (rank stage) (ltb c.nodes 256) ND Mark.Node (check_node file at) _
      (rw (node_law file at) (node_last here file at (rank stage) (check_node file at)))))
  rest_law (Some Mark.Edge) =
      in_order_lem here file at (rank stage) ED _ _
      (rw (edge_count file c.nodes c.edges c.aggregates c.virtual_storages)
      (room_then here file at (rank stage) (ltb c.edges 512) ED Mark.Edge (check_edge file c.nodes c.edges at) _
      (rw (edge_law file c.nodes c.edges c.aggregates c.virtual_storages at) (edge_last here file at (rank stage) (check_edge file c.nodes c.edges at)))))
  rest_law (Some Mark.Aggregate) =
      in_order_lem here file at (rank stage) AG _ _
      (rw (aggregate_count_lem file c.nodes c.edges c.aggregates c.virtual_storages)
      (room_then here file at (rank stage) (ltb c.aggregates 64) AG Mark.Aggregate (check_aggregate file c.nodes at) _
      (rw (aggregate_law file here at, node_count_lem file c.nodes c.edges c.aggregates c.virtual_storages)
      (aggregate_last here file at (rank stage) (check_aggregate file c.nodes at)))))
  rest_law (Some Mark.VirtualStorage) =
      in_order_lem here file at (rank stage) VS _ _
      (rw (virtual_storage_count_lem file c.nodes c.edges c.aggregates c.virtual_storages)
      (room_then here file at (rank stage) (ltb c.virtual_storages 32) VS Mark.VirtualStorage (check_virtual_storage file c.nodes at) _
      (rw (virtual_storage_law file here at, node_count_lem file c.nodes c.edges c.aggregates c.virtual_storages)
      (virtual_storage_last here file at (rank stage) (check_virtual_storage file c.nodes at)))))

  pub record_law : read_record file (record { network = here; at = at; stage = rank stage }) ≡ after here file at (check_record file at c stage)
  unfolding read_record check_record
  record_law =
      mark_then here file at (rank stage) (within file at 2) (definition.mark_at file at) _ _ (rw (mark_law file at) (rest_law (mark_at file at)))
