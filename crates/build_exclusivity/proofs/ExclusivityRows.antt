-- The exclusivity rows of a list of aggregates, one aggregate at a time. Assumes nothing.
use mathlib.Core.Path.{◌≡◌, refl, sym, ap, ◌∙◌}
use Prim.Native.Nat.{ℕ, ◌+◌, ◌*◌, ◌-◌, ◌<◌, ◌≤◌}
use native.Mathlib.Nat.{sub-zero}
use native.Mathlib.Numerals.{add-one}
use native.Mathlib.Omega.{arith}
use mathlib.Core.Bool.{true, false}
use Rattle.std.specs.Prelude.{Result, Ok, Err}
use mathlib.Core.List.{List, [], ◌∷◌, ◌++◌, flat_map}
use lib.ListN.{length, drop, replicate}
use lib.Seq.{sets}
use lib.Ieee.{Float}
use borrow.Rule.Slice.PartMut.{put_mid}
use Rattle.layout.specs.Layout.{makers_at, shape_made_at, words_length}
use Rattle.laws.proofs.Tails.{tail, put_tail}
use Rattle.pywr.specs.Numbers.{double}
use Rattle.pywr.specs.Network.{Aggregate}
use Rattle.pywr.specs.Rows.{ColumnMap, exclusivity_row}
use Rattle.pywr.specs.FixedRows.{exclusivity_rows}
use Rattle.pywr.specs.Programme.{Row, Maker, by_exclusivity}
use Rattle.pywr.specs.Makers.{made_by, made_in_turn, exclusivity_makers}
use Rattle.pywr.specs.Written.{maker_words}
use Rattle.pywr.proofs.MakerLaws.{exclusivities_in_turn}
use Rattle.fields.specs.Records.{records_at, records_end}
use Rattle.fields.proofs.RecordLaws.{end_more, records_left, records_over}
use Rattle.network_aggregate.specs.AggregatedNode.{aggregate_at, aggregate_end}
use Rattle.build_row.specs.RowBuilder.{gathered}
use Rattle.build_append.specs.declared.Filled.{Filled}
use Rattle.build_exclusive_sets.specs.declared.ProgrammeFull.{ProgrammeFull}
use Rattle.build_append.proofs.AddingRows.{Adds, adds_none}
use Rattle.build_append.proofs.LentRow.{lent_row}
use Rattle.build_makers.specs.MadeRows.{MadeHeld, AfterMade}
use Rattle.build_makers.proofs.Making.{Making, making_first, making_more, making_over, making_done, rows_rise}
use Rattle.build_exclusivity.specs.ExclusivityRow.{MapOf, ExclusivityRow}

module _ (map : ColumnMap) (a : Aggregate) where
  none : a.exclusive ≡ false → exclusivity_rows map (a ∷ []) ≡ []
  unfolding exclusivity_rows
  none x = rw x

  one : a.exclusive ≡ true → exclusivity_rows map (a ∷ []) ≡ record { lower = double a.min_active; upper = double a.max_active; elements = exclusivity_row map a } ∷ []
  unfolding exclusivity_rows
  one x = rw x

  pub no_exclusivity_row : a.exclusive ≡ false → (words : List ℕ) (numbers : List Float) (f : Filled) → Adds (exclusivity_rows map (a ∷ [])) words numbers f (Ok f) words numbers
  no_exclusivity_row x words numbers f = rw (none x) (adds_none words numbers f)

-- the row of the aggregate at `at`, gathered in the lent part of the numbers
module _ (file places : List ℕ) (count edge_columns at : ℕ) (columns : List ℕ) (elements : List Float) (n : ℕ) (g : ExclusivityRow file places count edge_columns at columns elements n)
    (x : (aggregate_at file at).exclusive ≡ true) (map : ColumnMap) (m : MapOf file places count edge_columns map)
    (words : List ℕ) (numbers : List Float) (f : Filled) (a : ℕ) (ea : a ≡ 2048 + f.elements) (ha : a ≤ length numbers) where
  abbrev lent : List Float
  lent = put_mid a (length numbers - a) numbers elements

  pub exclusivity_row_added : (lower upper : Float) (o : Result Filled ProgrammeFull) (words' : List ℕ) (numbers' : List Float)
      → lower ≡ double (aggregate_at file at).min_active → upper ≡ double (aggregate_at file at).max_active
      → Adds (record { lower = lower; upper = upper; elements = gathered columns (drop (2048 + f.elements) lent) n } ∷ []) words lent f o words' numbers'
      → Adds (exclusivity_rows map (aggregate_at file at ∷ [])) words numbers f o words' numbers'
  exclusivity_row_added lower upper o words' numbers' el eu added =
      rw (one map (aggregate_at file at) x) (lent_row words numbers elements f a ea ha columns n lower upper _ _ _ o words' numbers' el eu (g.row map m) added)

-- the rows of the first i of `count` aggregates, which stand from `start`, are held, each with its maker
pub record AddingAggregates (file : List ℕ) (MapIs : ColumnMap → Type 0) (start count : ℕ) (words₀ : List ℕ) (numbers₀ : List Float) (f₀ : Filled)
    (words : List ℕ) (numbers : List Float) (f : Filled) (at i : ℕ) : Type 0 where
  pub within : i ≤ count
  pub stands : at ≡ records_end (aggregate_end file) i start
  pub making : (map : ColumnMap) → MapIs map → (rows : List Row) (makers : List Maker) → MadeHeld rows makers words₀ numbers₀ f₀
      → Making (rows ++ exclusivity_rows map (records_at (aggregate_at file) (aggregate_end file) count start))
      (exclusivity_rows map (records_at (aggregate_at file) (aggregate_end file) (count - i) at))
      (makers ++ exclusivity_makers map 0 (records_at (aggregate_at file) (aggregate_end file) count start))
      (exclusivity_makers map i (records_at (aggregate_at file) (aggregate_end file) (count - i) at)) words₀ words numbers f

-- the makers of the first aggregate's rows, then those of the others'
next_makers : (map : ColumnMap) (i : ℕ) (a : Aggregate) (rest : List Aggregate)
    → exclusivity_makers map i (a ∷ rest) ≡ made_by by_exclusivity i (exclusivity_rows map (a ∷ [])) ++ exclusivity_makers map (i + 1) rest
unfolding exclusivity_makers made_in_turn
next_makers map i a rest = rw (add-one i)

module _ (file : List ℕ) (MapIs : ColumnMap → Type 0) (start count : ℕ) (words₀ : List ℕ) (numbers₀ : List Float) (f₀ : Filled) where
  abbrev all : List Aggregate
  all = records_at (aggregate_at file) (aggregate_end file) count start

  abbrev whole : ColumnMap → List Row → List Row
  whole map rows = rows ++ exclusivity_rows map all

  abbrev whole_makers : ColumnMap → List Maker → List Maker
  whole_makers map makers = makers ++ exclusivity_makers map 0 all

  pub aggregates_first : AddingAggregates file MapIs start count words₀ numbers₀ f₀ words₀ numbers₀ f₀ start 0
  unfolding records_end
  aggregates_first =
      record {
        within = omega arith;
        stands = refl;
        making = λ map m rows makers h. rw (sub-zero count) (making_first rows (exclusivity_rows map all) makers (exclusivity_makers map 0 all) words₀ numbers₀ f₀ h);
      }

  module _ (words : List ℕ) (numbers : List Float) (f : Filled) (at i : ℕ) (h : AddingAggregates file MapIs start count words₀ numbers₀ f₀ words numbers f at i) where
    -- k is the aggregate's number as the code narrows it
    module _ (lt : i < count) (k : ℕ) (q : k ≡ i) (r : Result Filled ProgrammeFull) (words₁ : List ℕ) (numbers' : List Float)
        (added : (map : ColumnMap) → MapIs map → Adds (exclusivity_rows map (aggregate_at file at ∷ [])) words numbers f r words₁ numbers') where
      abbrev others : List Aggregate
      others = records_at (aggregate_at file) (aggregate_end file) (count - (i + 1)) (aggregate_end file at)

      abbrev new : ColumnMap → List Row
      new map = exclusivity_rows map (aggregate_at file at ∷ [])

      here : (map : ColumnMap) → MapIs map → (rows : List Row) (makers : List Maker) → MadeHeld rows makers words₀ numbers₀ f₀
          → Making (whole map rows) (new map ++ exclusivity_rows map others) (whole_makers map makers) (made_by by_exclusivity k (new map) ++ exclusivity_makers map (i + 1) others) words₀ words numbers f
      here map m rows makers held = rw q
          (rw (
            records_left (aggregate_end file) count i at lt (aggregate_at file),
            (exclusivities_in_turn map).split i (aggregate_at file at) others,
            next_makers map i (aggregate_at file at) others,
          ) at (h.making map m rows makers held))

      pub aggregate_over : (full : ProgrammeFull) → r ≡ Err full → (map : ColumnMap) → MapIs map → (rows : List Row) (makers : List Maker) → MadeHeld rows makers words₀ numbers₀ f₀
          → AfterMade (whole map rows) (whole_makers map makers) words₀ (Err full) words₁ numbers'
      aggregate_over full e map m rows makers held =
          making_over (whole map rows) (new map) (exclusivity_rows map others) (whole_makers map makers) (exclusivity_makers map (i + 1) others) by_exclusivity k words₀ words numbers f
          (here map m rows makers held) r words₁ numbers' (added map m) full e

      module _ (g : Filled) (e : r ≡ Ok g) where
        pub aggregate_rise : (map : ColumnMap) → MapIs map → (rows : List Row) (makers : List Maker) → MadeHeld rows makers words₀ numbers₀ f₀ → (f.rows ≤ g.rows) × (g.rows ≤ 1024)
        aggregate_rise map m rows makers held =
            rows_rise (whole map rows) (new map) (exclusivity_rows map others) (whole_makers map makers) (exclusivity_makers map (i + 1) others) by_exclusivity k words₀ words numbers f
            (here map m rows makers held) r words₁ numbers' (added map m) g e

        pub aggregate_more : (shape : List ℕ) → words_length ≤ length words₁
            → shape ≡ sets (tail shape_made_at words₁) (makers_at + 3 * f.rows)
            (flat_map maker_words (replicate (g.rows - f.rows) (record { kind = by_exclusivity; index = k; shared_by = 1 })))
            → AddingAggregates file MapIs start count words₀ numbers₀ f₀ (put_tail shape_made_at words₁ shape) numbers' g (aggregate_end file at) (i + 1)
        aggregate_more shape room w =
            record {
              within = omega arith;
              stands = ap (aggregate_end file) h.stands ∙ sym (end_more (aggregate_end file) i start);
              making = λ map m rows makers held.
                  making_more (whole map rows) (new map) (exclusivity_rows map others) (whole_makers map makers) (exclusivity_makers map (i + 1) others) by_exclusivity k words₀ words numbers f
                  (here map m rows makers held) r words₁ numbers' (added map m) g e shape room w;
            }

    pub aggregates_done_lem : count ≤ i → (map : ColumnMap) → MapIs map → (rows : List Row) (makers : List Maker) → MadeHeld rows makers words₀ numbers₀ f₀
        → AfterMade (whole map rows) (whole_makers map makers) words₀ (Ok f) words numbers
    unfolding exclusivity_rows exclusivity_makers made_in_turn
    aggregates_done_lem l map m rows makers held =
        let none = records_over (aggregate_end file) count i at l (aggregate_at file) in
        making_done (whole map rows) _ (whole_makers map makers) _ words₀ words numbers f (h.making map m rows makers held) (ap (exclusivity_rows map) none) (ap (exclusivity_makers map i) none)
