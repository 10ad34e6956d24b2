-- Document 01's cases marked •, the first as document 02, L2 has it, with cases of L2 and L10, together as one table about these definitions, most of them
-- on the bytes of a file.
-- Assumes nothing.
use Rattle.std.specs.Prelude.{◌≡◌, refl, ℕ, List, [], ◌∷◌, ◌++◌, map, Bool, true, false, replicate, pos, negsuc, Float}
use Rattle.std.proofs.Math.Option.{Option, none, some}
use Rattle.std.specs.Float.{fin}
use Rattle.std.specs.Float.Ieee.{neg}
use Rattle.layout.specs.Layout.{column_ceiling, row_ceiling, element_ceiling, row_starts_length, shape_length, words_length, numbers_length, step_work_length}
use Rattle.pywr.specs.declared.Sentinel.TheVariants.{Infinity}
use Rattle.pywr.specs.declared.Interval.{Interval}
use Rattle.pywr.specs.Result.{value, Result, refused}
use Rattle.pywr.specs.Numbers.{double, zero64, one64}
use Rattle.pywr.specs.Network.{input, output, link, storage, Period, Network}
use Rattle.pywr.specs.NetworkFile.{parse_network}
use Rattle.pywr.specs.ColEdgeMap.{columns}
use Rattle.pywr.specs.FlowOrder.{flow_order}
use Rattle.pywr.specs.Rows.{Element, element}
use Rattle.pywr.specs.Programme.{Row, NodeRow, Built}
use Rattle.pywr.specs.Build.{build, programme_of}
use Rattle.pywr.specs.Interval.{interval_of, storage_bounds}
use Rattle.pywr.specs.Period.{is_active}
use Rattle.pywr.specs.Costs.{edge_cost, step_costs}
use Rattle.pywr.specs.Store.{Store, programme_in}
use Rattle.pywr.specs.Calls.{build_store, step_answer, step_store, is_accepted}
use Rattle.pywr.specs.FileBytes.{varying, constant, edge, exclusive, date, node_step}
use Rattle.pywr.specs.Compute.{computing}

-- ---- what the cases look at

unfoldable pub columns_of : Result Network → List (Option ℕ)
columns_of (value net) = (columns net).of
columns_of (refused number place) = []

unfoldable pub column_count_of : Result Network → ℕ
column_count_of (value net) = (columns net).count
column_count_of (refused number place) = 0

unfoldable pub order_of : Result Network → List ℕ
order_of (value net) = flow_order net
order_of (refused number place) = []

-- the cost of each column under these costs of the nodes
unfoldable pub costs_of : Result Network → List Float → List Float
costs_of (value net) costs = step_costs (programme_of Infinity net).shape (columns net).count (map (λ (x : Float). record { cost = x; bounds = none }) costs)
costs_of (refused number place) costs = []

unfoldable pub fixed_of : Result Built → List (List Element)
fixed_of (value b) = map (λ (r : Row). r.elements) b.programme.fixed
fixed_of (refused number place) = []

unfoldable pub varying_of : Result Built → List (List Element)
varying_of (value b) = map (λ (r : Row). r.elements) b.programme.varying
varying_of (refused number place) = []

unfoldable pub places_of : Result Built → List ℕ
places_of (value b) = map (λ (r : NodeRow). r.row) b.shape.node_rows
places_of (refused number place) = []

-- ---- the networks

-- "Nodes 0 input, 1 to 3 links, 4 output."
unfoldable pub chain_nodes : List ℕ
chain_nodes = varying input ++ varying link ++ varying link ++ varying link ++ varying output

unfoldable pub mixed_chain : List ℕ
mixed_chain = chain_nodes ++ edge 1 2 ++ edge 3 4 ++ edge 2 3 ++ edge 0 1

-- the chain keyed with two other pipes between, input 5 to output 6 and input 7 to output 8
unfoldable pub chain_and_pipes : List ℕ
chain_and_pipes =
    chain_nodes ++ varying input ++ varying output ++ varying input ++ varying output ++ edge 1 2 ++ edge 5 6 ++ edge 3 4 ++ edge 7 8 ++ edge 2 3 ++ edge 0 1

unfoldable pub ordered_chain : List ℕ
ordered_chain = chain_nodes ++ edge 0 1 ++ edge 1 2 ++ edge 2 3 ++ edge 3 4

-- "Input 0, links 1 and 2, edges 0→1, 1→2, 2→1"
unfoldable pub ring : List ℕ
ring = varying input ++ varying link ++ varying link ++ edge 0 1 ++ edge 1 2 ++ edge 2 1

-- a ring of the links 2, 3 and 4 beside a pipe from input 0 to output 1
unfoldable pub closed_ring : List ℕ
closed_ring = varying input ++ varying output ++ varying link ++ varying link ++ varying link ++ edge 3 4 ++ edge 0 1 ++ edge 2 3 ++ edge 4 2

-- two varying inputs without edges, beside a constant input and a constant output with one
unfoldable pub edgeless_inputs : List ℕ
edgeless_inputs = varying input ++ varying input ++ constant input zero64 one64 ++ constant output zero64 one64 ++ edge 2 3

-- inputs 0, 1 and 2, each alone in a set of one exclusive aggregate, all to output 3: columns 0 to 2 are the edges', 3 to 5 the sets'
unfoldable pub pumps : List ℕ
pumps =
    constant input zero64 (double 5)
    ++ constant input zero64 (double 2000000)
    ++ constant input (neg (double 3)) (double 5)
    ++ varying output
    ++ edge 0 3
    ++ edge 1 3
    ++ edge 2 3
    ++ exclusive 0 1 ((0 ∷ []) ∷ (1 ∷ []) ∷ (2 ∷ []) ∷ [])

-- a varying input and a varying output on one edge: both node rows are one row
unfoldable pub input_to_output : List ℕ
input_to_output = varying input ++ varying output ++ edge 0 1

-- a step of that network: the input's interval, then the output's
unfoldable pub input_to_output_step : ℕ → ℕ → ℕ → ℕ → List ℕ
input_to_output_step min max min' max' =
    date 6 1 one64 ++ node_step zero64 (double min) (double max) zero64 ++ node_step zero64 (double min') (double max') zero64

unfoldable pub blank : Store
blank =
    record {
      col_lower = replicate column_ceiling zero64;
      col_upper = replicate column_ceiling zero64;
      col_obj_coef = replicate column_ceiling zero64;
      row_lower = replicate row_ceiling zero64;
      row_upper = replicate row_ceiling zero64;
      elements = replicate element_ceiling zero64;
      columns = replicate element_ceiling 0;
      row_starts = replicate row_starts_length 0;
      shape = replicate shape_length 0;
    }

unfoldable pub work : List Float
work = replicate step_work_length zero64

unfoldable pub built : Store
built = build_store Infinity input_to_output blank (replicate words_length 0) (replicate numbers_length zero64)

-- the bounds of the one varying row after a step
unfoldable pub bounds_after : Store → List ℕ → List Interval
bounds_after store file = map (λ (r : Row). record { lower = r.lower; upper = r.upper }) (programme_in (step_store store file work)).varying

unfoldable pub accepted_after : Store → List ℕ → Bool
accepted_after store file = is_accepted (step_answer store file work)

unfoldable pub interval : Float → Float → Interval
interval lower upper = record { lower = lower; upper = upper }

-- doubles written out, m odd or 0: m, m * 2 ^ e and −m
abbrev pub whole : ℕ → Float
whole m = fin false m (pos 0)

abbrev pub times : ℕ → ℕ → Float
times m e = fin false m (pos e)

abbrev pub minus_whole : ℕ → Float
minus_whole m = fin true m (pos 0)

unfoldable pub season : ℕ → ℕ → ℕ → ℕ → Period
season start_month start_day end_month end_day = record { always = false; start_month = start_month; start_day = start_day; end_month = end_month; end_day = end_day }

-- −1e-6 at its nearest double, 4722366482869645 / 2 ^ 72
abbrev pub minus_millionth : Float
minus_millionth = fin true 4722366482869645 (negsuc 71)

-- ---- the table

pub record Cases : Type 0 where
  -- "Document 01's first chain becomes one column with no mass row." (document 02, L2)
  pub mixed_columns : columns_of (parse_network mixed_chain) ≡ some 0 ∷ some 0 ∷ some 0 ∷ some 0 ∷ []
  pub mixed_mass : fixed_of (build Infinity mixed_chain) ≡ []
  -- "the columns now unite under the lower number and later numbers close up" (document 02, L2)
  pub pipe_columns : columns_of (parse_network chain_and_pipes) ≡ some 0 ∷ some 1 ∷ some 0 ∷ some 2 ∷ some 0 ∷ some 0 ∷ []
  pub pipe_count : column_count_of (parse_network chain_and_pipes) ≡ 3
  -- "one column, no mass row"
  pub ordered_columns : columns_of (parse_network ordered_chain) ≡ some 0 ∷ some 0 ∷ some 0 ∷ some 0 ∷ []
  pub ordered_mass : fixed_of (build Infinity ordered_chain) ≡ []
  -- "columns 0, 1, 1; link 1's row is 1.0, 0.0"
  pub ring_columns : columns_of (parse_network ring) ≡ some 0 ∷ some 1 ∷ some 1 ∷ []
  pub ring_mass : fixed_of (build Infinity ring) ≡ (element 0 (whole 1) ∷ element 1 (whole 0) ∷ []) ∷ []
  -- "Sum each column in flow order" (document 02, L10): 0→1, 1→2, 2→3, 3→4. Edge costs 2 ^ -30, 2 ^ 37, -2 ^ 37 and 0 come to 0.0, in edge order to 2 ^ -30
  pub mixed_order : order_of (parse_network mixed_chain) ≡ 3 ∷ 0 ∷ 2 ∷ 1 ∷ []
  pub mixed_cost : costs_of (parse_network mixed_chain) (fin false 1 (negsuc 29) ∷ zero64 ∷ times 1 38 ∷ fin true 1 (pos 39) ∷ times 1 38 ∷ []) ≡ zero64 ∷ []
  -- "a closed ring starts at its lowest edge" (document 02, L10): the pipe, then 3→4, 4→2, 2→3
  pub closed_ring_order : order_of (parse_network closed_ring) ≡ 1 ∷ 0 ∷ 3 ∷ 2 ∷ []
  -- "Two varying inputs without edges share one empty row."
  pub edgeless_rows : varying_of (build Infinity edgeless_inputs) ≡ [] ∷ []
  pub edgeless_places : places_of (build Infinity edgeless_inputs) ≡ 0 ∷ 0 ∷ []
  -- "upper coefficient min(max, 1e6): 5 gives 5, 2,000,000 gives 1e6", "−3 gives −1e-6; min 0 omits the row"
  pub pump_rows : fixed_of (build Infinity pumps)
      ≡ (element 0 (minus_whole 1) ∷ element 3 (whole 5) ∷ [])
      ∷ (element 1 (minus_whole 1) ∷ element 4 (times 15625 6) ∷ [])
      ∷ (element 2 (minus_whole 1) ∷ element 5 (whole 5) ∷ [])
      ∷ (element 2 (whole 1) ∷ element 5 minus_millionth ∷ [])
      ∷ (element 3 (whole 1) ∷ element 4 (whole 1) ∷ element 5 (whole 1) ∷ [])
      ∷ []
  -- "[2, 9] and [4, 12] give [4, 9]"
  pub tightened : bounds_after built (input_to_output_step 2 9 4 12) ≡ interval (times 1 2) (whole 9) ∷ []
  -- "[0, 1] and [2, 3] give lower 2, upper 1, accepted"
  pub crossed : bounds_after built (input_to_output_step 0 1 2 3) ≡ interval (times 1 1) (whole 1) ∷ []
  pub crossed_accepted : accepted_after built (input_to_output_step 0 1 2 3) ≡ true
  -- "Storage, volume 30, range 10 to 100, 2 days: −20/2 to 70/2, [−10, 35]."
  pub storage_interval : interval_of (double 2) (storage_bounds (double 10) (double 100) (double 30)) ≡ interval (fin true 5 (pos 1)) (whole 35)
  -- "Link of cost 3 to storage of cost 4: 5.5. That storage to that link: −2.5."
  pub cost_in : edge_cost link (double 3) storage (double 4) ≡ fin false 11 (negsuc 0)
  pub cost_out : edge_cost storage (double 4) link (double 3) ≡ fin true 5 (negsuc 0)
  -- "11-01 to 02-15: active 12-31 and 02-15, not 02-16."
  pub winter_last : is_active (season 11 1 2 15) 12 31 ≡ true
  pub winter_end : is_active (season 11 1 2 15) 2 15 ≡ true
  pub winter_over : is_active (season 11 1 2 15) 2 16 ≡ false
  -- "03-10 to 03-05: active 03-05, not 03-07."
  pub wrapped_end : is_active (season 3 10 3 5) 3 5 ≡ true
  pub wrapped_over : is_active (season 3 10 3 5) 3 7 ≡ false

pub cases : Cases
unfolding computing columns_of column_count_of order_of costs_of fixed_of varying_of places_of chain_nodes mixed_chain chain_and_pipes ordered_chain ring closed_ring
    edgeless_inputs pumps input_to_output input_to_output_step blank work built bounds_after accepted_after interval season
cases =
    record {
      mixed_columns = refl;
      mixed_mass = refl;
      pipe_columns = refl;
      pipe_count = refl;
      ordered_columns = refl;
      ordered_mass = refl;
      ring_columns = refl;
      ring_mass = refl;
      mixed_order = refl;
      mixed_cost = refl;
      closed_ring_order = refl;
      edgeless_rows = refl;
      edgeless_places = refl;
      pump_rows = refl;
      tightened = refl;
      crossed = refl;
      crossed_accepted = refl;
      storage_interval = refl;
      cost_in = refl;
      cost_out = refl;
      winter_last = refl;
      winter_end = refl;
      winter_over = refl;
      wrapped_end = refl;
      wrapped_over = refl;
    }
