-- The rows that each node of a file makes, in node order, each with its maker: one node more, a node whose rows are over the ceilings, and the end. Assumes nothing.
use mathlib.Core.Path.{◌≡◌, ap, ◌∙◌}
use Prim.Native.Nat.{ℕ, ◌+◌, ◌*◌, ◌-◌, ◌<◌, ◌≤◌}
use native.Mathlib.Numerals.{add-one}
use native.Mathlib.Omega.{arith}
use Rattle.std.specs.Prelude.{Result, Ok, Err}
use mathlib.Core.List.{List, [], ◌∷◌, ◌++◌, flat_map}
use lib.ListN.{length, drop, replicate, drop_of_length-le}
use lib.Seq.{sets}
use lib.Ieee.{Float}
use Rattle.layout.specs.Layout.{makers_at, shape_made_at, words_length}
use Rattle.laws.proofs.Runs.{drop_next}
use Rattle.laws.proofs.Tails.{tail, put_tail}
use Rattle.pywr.specs.Network.{Node, no_node}
use Rattle.pywr.specs.Programme.{Row, Maker}
use Rattle.pywr.specs.Makers.{made_by, made_in_turn}
use Rattle.pywr.specs.Written.{maker_words}
use Rattle.pywr.proofs.MakerLaws.{InTurn}
use Rattle.network_node.specs.Node.{node_at}
use Rattle.network_laws.specs.NetworkAt.{network_at}
use Rattle.network_laws.proofs.Index.{node_count_lem, node_index}
use Rattle.build_append.specs.declared.Filled.{Filled}
use Rattle.build_exclusive_sets.specs.declared.ProgrammeFull.{ProgrammeFull}
use Rattle.build_append.proofs.AddingRows.{Adds}
use Rattle.build_makers.specs.MadeRows.{AfterMade}
use Rattle.build_makers.proofs.Making.{Making, making_more, making_over, making_done, rows_rise}

module _ (kind : ℕ) (rows_from : ℕ → List Node → List Row) (turn : InTurn rows_from) (file : List ℕ) (n e a v i : ℕ) where
  abbrev nodes : List Node
  nodes = (network_at file n e a v).nodes

  abbrev makers_from : ℕ → List Node → List Maker
  makers_from m xs = made_in_turn kind (λ (k : ℕ) (x : Node). rows_from k (x ∷ [])) m xs

  next_node : i < n → drop i nodes ≡ node_at file (20 * i) ∷ drop (i + 1) nodes
  next_node h =
      drop_next nodes i no_node (omega (arith, node_count_lem file n e a v))
      ∙ ap (λ (x : Node). x ∷ drop (i + 1) nodes) (node_index file n e a v i no_node h)

  next_rows : i < n → rows_from i (drop i nodes) ≡ rows_from i (node_at file (20 * i) ∷ []) ++ rows_from (i + 1) (drop (i + 1) nodes)
  next_rows h = ap (rows_from i) (next_node h) ∙ turn.split i (node_at file (20 * i)) (drop (i + 1) nodes) ∙ rw (add-one i)

  next_makers : i < n → makers_from i (drop i nodes) ≡ made_by kind i (rows_from i (node_at file (20 * i) ∷ [])) ++ makers_from (i + 1) (drop (i + 1) nodes)
  unfolding made_in_turn
  next_makers h = ap (makers_from i) (next_node h) ∙ rw (add-one i)

  module _ (whole : List Row) (makers : List Maker) (words₀ words : List ℕ) (numbers : List Float) (f : Filled)
      (h : Making whole (rows_from i (drop i nodes)) makers (makers_from i (drop i nodes)) words₀ words numbers f) where
    -- k is the node's number as the code narrows it
    module _ (lt : i < n) (k : ℕ) (q : k ≡ i) (r : Result Filled ProgrammeFull) (words₁ : List ℕ) (numbers' : List Float)
        (added : Adds (rows_from k (node_at file (20 * k) ∷ [])) words numbers f r words₁ numbers') where
      abbrev new : List Row
      new = rows_from k (node_at file (20 * k) ∷ [])

      here : Making whole (new ++ rows_from (i + 1) (drop (i + 1) nodes)) makers (made_by kind k new ++ makers_from (i + 1) (drop (i + 1) nodes)) words₀ words numbers f
      here = rw q (rw (next_rows lt, next_makers lt) at h)

      pub node_over : (full : ProgrammeFull) → r ≡ Err full → AfterMade whole makers words₀ (Err full) words₁ numbers'
      node_over = making_over whole new _ makers _ kind k words₀ words numbers f here r words₁ numbers' added

      pub node_rise : (g : Filled) → r ≡ Ok g → (f.rows ≤ g.rows) × (g.rows ≤ 1024)
      node_rise = rows_rise whole new _ makers _ kind k words₀ words numbers f here r words₁ numbers' added

      pub node_more : (g : Filled) → r ≡ Ok g → (shape : List ℕ) → words_length ≤ length words₁
          → shape ≡ sets (tail shape_made_at words₁) (makers_at + 3 * f.rows) (flat_map maker_words (replicate (g.rows - f.rows) (record { kind = kind; index = k; shared_by = 1 })))
          → Making whole (rows_from (i + 1) (drop (i + 1) nodes)) makers (makers_from (i + 1) (drop (i + 1) nodes)) words₀ (put_tail shape_made_at words₁ shape) numbers' g
      node_more = making_more whole new _ makers _ kind k words₀ words numbers f here r words₁ numbers' added

    pub nodes_done_lem : n ≤ i → AfterMade whole makers words₀ (Ok f) words numbers
    unfolding made_in_turn
    nodes_done_lem l =
        let none : drop i nodes ≡ [] = drop_of_length-le nodes {i = i} (omega (arith, node_count_lem file n e a v)) in
        making_done whole _ makers _ words₀ words numbers f h (ap (rows_from i) none ∙ turn.none i) (ap (makers_from i) none)
