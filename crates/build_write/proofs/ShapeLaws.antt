-- The shape run's parts written one behind the other, each call keeping the run's length. Assumes nothing.
use mathlib.Core.Path.{◌≡◌}
use Prim.Native.Nat.{ℕ, ◌+◌, ◌*◌}
use mathlib.Core.List.{List}
use lib.Seq.{sets}
use Rattle.layout.specs.Layout.{aggregates_at, makers_at, counts_length, edges_at, flow_order_at, node_rows_at, nodes_at, shape_made_at, virtual_storages_at}
use Rattle.laws.specs.Part.{part}
use Rattle.laws.proofs.Tails.{tail, tail_part}
use Rattle.build_write.specs.declared.Sizes.{Sizes}
use Rattle.build_write.specs.Lp.{shape_tables, shape_written}

module _ (z : Sizes) (words old s₁ s₂ s₃ s₄ s₅ s₆ : List ℕ) where
  -- where the shape run's words are made
  abbrev made : List ℕ
  made = tail shape_made_at words

  is_made : (k n : ℕ) → part k n made ≡ part (shape_made_at + k) n words
  is_made k n = tail_part shape_made_at words k n

  pub written : s₆ ≡ sets s₅ virtual_storages_at (part virtual_storages_at (6 * z.virtual_storages) made) → s₅ ≡ sets s₄ aggregates_at (part aggregates_at z.aggregates made)
      → s₄ ≡ sets s₃ node_rows_at (part node_rows_at (4 * z.node_rows) made) → s₃ ≡ sets s₂ edges_at (part edges_at (3 * z.edges) made)
      → s₂ ≡ sets s₁ nodes_at (part nodes_at (2 * z.nodes) made) → s₁ ≡ sets old 0 (part 0 counts_length made) → s₆ ≡ shape_tables z words old
  unfolding shape_tables
  written f e d c b a =
      rw (
        f,
        e,
        d,
        c,
        b,
        a,
        is_made virtual_storages_at (6 * z.virtual_storages),
        is_made aggregates_at z.aggregates,
        is_made node_rows_at
            (4 * z.node_rows),
        is_made edges_at (3 * z.edges),
        is_made nodes_at (2 * z.nodes),
        is_made 0 counts_length,
      )

-- the tables written, and behind them the makers and the flow order
pub last_written : (z : Sizes) (words old s₁ s₂ s₃ : List ℕ) → s₃ ≡ sets s₂ flow_order_at (part flow_order_at z.edges (tail shape_made_at words))
    → s₂ ≡ sets s₁ makers_at (part makers_at (3 * z.rows) (tail shape_made_at words)) → s₁ ≡ shape_tables z words old → s₃ ≡ shape_written z words old
unfolding shape_written
last_written z words old s₁ s₂ s₃ c b a = rw (c, b, a, tail_part shape_made_at words flow_order_at z.edges, tail_part shape_made_at words makers_at (3 * z.rows))
