-- Names for groups of these definitions: under `unfolding computing` a closed file, store or plan computes. Assumes nothing.
use Rattle.std.specs.Prelude.{ℕ}
use mathlib.Core.List.{flat_map}
use Rattle.std.specs.Float.Ieee.{add, sub, div, neg, lt, le, eq, round, of_bits, to_bits, nan_bits}
use Rattle.pywr.specs.Result.{◌>>=◌, need, first_refused, refused_if}
use Rattle.pywr.specs.Bytes.{u8, u16, u32, bits64, checked}
use Rattle.pywr.specs.Numbers.{double, zero64, one64, two64, million, millionth, trillion, least_days, most_days, high, low, lesser, greater, is_flow, is_small, is_days, of_pattern}
use Rattle.pywr.specs.Network.{no_node, kind_of, keep_if, listed, any_listed, is_exclusive, edges_with, incoming, outgoing}
use Rattle.pywr.specs.NetworkFile.{constant_fits, read_node, joins, wrong_way, read_edge, read_members, read_sets, read_aggregate, read_parts, read_virtual_storage, mark_at}
use Rattle.pywr.specs.NetworkFile.{in_order, has_room, with_node, with_edge, with_aggregate, with_virtual_storage, read_body, between, most_constant, active_fits, least_date}
use Rattle.pywr.specs.NetworkFile.{most_date, read_record, read_records, is_empty, unconnected_link, bad_constant, check_network, parse_network}
use Rattle.pywr.specs.ColEdgeMap.{columns, column_at, put, put_new, add_simple_edge, united, unite_under, unite, add_equal_edges, single, shares_with, place_edge, place_edges, with_columns, mapped_edges, column_of}
use Rattle.pywr.specs.FlowOrder.{numbers_from, edge_order, next_edge, no_edge, follow, is_none, starts_path, follow_all, paths, flow_order}
use Rattle.pywr.specs.ExclusiveSets.{same_set, has_set, add_sets, sets_from, exclusive_sets, set_number, times_in, sets_with_node}
use Rattle.pywr.specs.Rows.{add_element, add_on, column_map, columns_with, columns_into, columns_out_of, add_node, node_row, mass_row}
use Rattle.pywr.specs.Rows.{add_nodes, add_sets_of, aggregate_row, add_parts, virtual_storage_row, upper_row, lower_row, add_active, exclusivity_row}
use Rattle.pywr.specs.VariableRows.{same_row, position, add_variable_rows, add_variable_row}
use Rattle.pywr.specs.VaryingRows.{exclusive_requests, requests_by_sets, requests_from, fresh_row}
use Rattle.pywr.specs.FixedRows.{mass_rows_from, upper_coefficient, lower_coefficient, exclusive_rows, constant_rows, constant_rows_from, exclusivity_rows}
use Rattle.pywr.specs.Makers.{askers_by_nodes, askers_in_turn, askers, sharers_of, first_of, maker_of, varying_makers, made_by, made_in_turn, mass_makers, constant_makers, exclusivity_makers, fixed_makers}
use Rattle.pywr.specs.Build.{edge_column, set_column, all_columns, node_shape, placed_node_rows, placed_virtual_storages}
use Rattle.pywr.specs.Build.{requested_row, assemble, programme_of, element_count, under_ceilings, build}
use Rattle.pywr.specs.Interval.{tighten, sentinels, interval_of, storage_bounds, virtual_bounds}
use Rattle.pywr.specs.Period.{is_active, virtual_interval}
use Rattle.pywr.specs.StepFile.{expect_mark, days_in, read_date, bound_fits, volume_fits, bounds_read, read_node_step}
use Rattle.pywr.specs.StepFile.{read_node_steps, read_aggregate_step, read_aggregate_steps, read_virtual_storage_step, read_virtual_storage_steps, read_step}
use Rattle.pywr.specs.StepIntervals.{intervals, node_interval, node_intervals, virtual_storage_intervals, is_crossed, is_beyond, is_binary, has_binary_row, bad_interval, ordered}
use Rattle.pywr.specs.Costs.{outgoing_cost, incoming_cost, edge_cost, kind_at, cost_at, add_costs, no_mapped_edge, edges_numbered, step_costs, edge_order_costs}
use Rattle.pywr.specs.Step.{adjust, with_bounds, apply_row_bounds, change_coefficient, with_coefficient, over_node_rows, interval_for, apply_interval, apply_node_rows}
use Rattle.pywr.specs.Step.{reset_binary_row, reset_binary_rows, apply_coefficient, apply_coefficients}
use Rattle.pywr.specs.Step.{apply_intervals, row_of, period_of, step_rows, periods, with_costs, stepped}
use Rattle.pywr.specs.Store.{store_has_room, sentinel_of, row_type_of, entries, node_entry, edge_entry, node_row_entry}
use Rattle.pywr.specs.Store.{virtual_storage_entry, maker_entry, makers_in, row_maker, shape_of, elements_of, columns_of_row, row_entry, column_entry, programme_in}
use Rattle.pywr.specs.Misshapen.{counts_fit, starts_rise, columns_rise, row_columns_rise, all_entries, well_shaped}
use Rattle.pywr.specs.Misshapen.{node_fits, edge_fits, node_row_fits, aggregate_fits, virtual_storage_fits, makers_of_kind, maker_fits, flow_order_fits}
use Rattle.pywr.specs.Written.{sentinel_word, row_type_word, flag_word, node_words, edge_words, node_row_words, virtual_storage_words, maker_words, integer_columns, count_words}
use Rattle.pywr.specs.Written.{shape_after, starts_from, columns_in, values_in, lower_of, upper_of, rows_of, built_store, stepped_store}
use Rattle.pywr.specs.Calls.{cleared, build_room, build_answer, store_of_build, build_store, build_words, build_numbers, step_room, step_read}
use Rattle.pywr.specs.Calls.{step_intervals, step_ordered, step_answer, store_of_step, step_store, step_work, is_accepted, row_answer, part_of, row_part}
use Rattle.pywr.specs.Plans.{exact, meets, units_in_one, units_in1024th, signed, is_finite, times_one, lower_met, upper_met, all_from}
use Rattle.pywr.specs.Allows.{allows, flow_with, inflow, outflow, node_amount, nodes_amount, sets_amount, parts_sum, balanced, own_interval}
use Rattle.pywr.specs.Allows.{node_meets, aggregate_meets, virtual_storage_meets, on_amount, exclusive_meets, varying_exclusive_meets, member_meets, sets_meet, on_count, exclusivity_meets}
use Rattle.pywr.specs.Admits.{admits, carried, equal_in_column, on_column, row_sum, row_met, column_met}
use Rattle.pywr.specs.Correspondence.{store_after, reports, last_accepted, periods_of, read_by, allows_read, allows_under}
use Rattle.pywr.specs.Correspondence.{network_allows, programme_admits, is_varying_exclusive, factor_limit, is_multiple_to_limit, factors_are_multiples, factors_in1024ths, factors_whole, any_accepted}
use Rattle.pywr.specs.ExactElements.{occurrences, node_times, factor_sum}
use Rattle.pywr.specs.FileBytes.{w16, w32, w64, varying, constant, edge, set_bytes, exclusive, part_bytes, virtual_storage_of, virtual_storage, date, node_step, aggregate_step, virtual_storage_step}

-- the doubles
unfoldable pub rounding : ℕ
unfolding add sub div neg lt le eq round of_bits to_bits nan_bits
rounding = 0

-- network files
unfoldable pub reading : ℕ
unfolding ◌>>=◌ need u8 u16 u32 bits64 checked double zero64 one64 two64 million millionth trillion least_days most_days high low lesser greater is_flow
    is_small is_days of_pattern no_node kind_of keep_if listed any_listed is_exclusive edges_with incoming outgoing constant_fits read_node joins wrong_way
    read_edge read_members read_sets read_aggregate between most_constant active_fits least_date most_date read_parts read_virtual_storage mark_at in_order has_room
    with_node with_edge with_aggregate with_virtual_storage read_body read_record read_records first_refused is_empty unconnected_link bad_constant refused_if
    check_network parse_network
reading = 0

-- columns, rows and programmes
unfoldable pub building : ℕ
unfolding column_at put put_new add_simple_edge united unite_under unite add_equal_edges single shares_with place_edge place_edges columns with_columns mapped_edges column_of numbers_from edge_order next_edge no_edge follow is_none
    starts_path follow_all paths flow_order same_set
    has_set add_sets sets_from exclusive_sets set_number times_in sets_with_node add_element add_on column_map columns_with columns_into columns_out_of add_node
    node_row mass_row add_nodes add_sets_of aggregate_row add_parts virtual_storage_row upper_row lower_row add_active exclusivity_row same_row position
    add_variable_row add_variable_rows exclusive_requests requests_by_sets requests_from fresh_row mass_rows_from upper_coefficient lower_coefficient exclusive_rows
    constant_rows constant_rows_from exclusivity_rows edge_column set_column all_columns node_shape placed_node_rows placed_virtual_storages requested_row assemble
    programme_of element_count under_ceilings build askers_by_nodes askers_in_turn askers sharers_of first_of maker_of varying_makers made_by made_in_turn mass_makers
    constant_makers exclusivity_makers fixed_makers
building = 0

-- step files and steps
unfoldable pub stepping : ℕ
unfolding tighten sentinels interval_of storage_bounds virtual_bounds is_active virtual_interval expect_mark days_in read_date bound_fits volume_fits bounds_read
    read_node_step read_node_steps read_aggregate_step read_aggregate_steps read_virtual_storage_step read_virtual_storage_steps read_step node_interval node_intervals
    virtual_storage_intervals intervals is_crossed is_beyond is_binary has_binary_row bad_interval ordered outgoing_cost incoming_cost edge_cost kind_at cost_at add_costs
    no_mapped_edge edges_numbered step_costs edge_order_costs adjust
    with_bounds apply_row_bounds change_coefficient with_coefficient over_node_rows interval_for apply_interval apply_node_rows reset_binary_row reset_binary_rows
    apply_coefficient apply_coefficients apply_intervals row_of period_of step_rows periods with_costs
    stepped
stepping = 0

-- stores and calls
unfoldable pub storing : ℕ
unfolding flat_map store_has_room sentinel_of row_type_of entries node_entry edge_entry node_row_entry virtual_storage_entry maker_entry makers_in row_maker shape_of elements_of columns_of_row
    row_entry column_entry programme_in counts_fit starts_rise columns_rise row_columns_rise node_fits edge_fits node_row_fits aggregate_fits virtual_storage_fits
    makers_of_kind maker_fits flow_order_fits all_entries well_shaped sentinel_word row_type_word flag_word node_words edge_words node_row_words virtual_storage_words maker_words integer_columns count_words shape_after
    starts_from columns_in values_in lower_of upper_of rows_of built_store stepped_store cleared build_room build_answer store_of_build build_store build_words
    build_numbers step_room step_read step_intervals step_ordered step_answer store_of_step step_store step_work is_accepted row_answer part_of row_part
storing = 0

-- plans and the lists of steps
unfoldable pub planning : ℕ
unfolding units_in_one units_in1024th signed exact is_finite times_one lower_met upper_met meets all_from flow_with inflow outflow node_amount nodes_amount sets_amount parts_sum
    balanced own_interval node_meets aggregate_meets virtual_storage_meets on_amount exclusive_meets varying_exclusive_meets member_meets sets_meet on_count exclusivity_meets allows
    carried equal_in_column on_column row_sum row_met column_met admits store_after reports last_accepted periods_of read_by allows_read allows_under
    network_allows programme_admits is_varying_exclusive factor_limit is_multiple_to_limit factors_are_multiples factors_in1024ths factors_whole any_accepted
    occurrences node_times factor_sum
planning = 0

-- the bytes of files
unfoldable pub writing : ℕ
unfolding flat_map w16 w32 w64 varying constant edge set_bytes exclusive part_bytes virtual_storage_of virtual_storage date node_step aggregate_step virtual_storage_step
writing = 0

unfoldable pub computing : ℕ
unfolding rounding reading building stepping storing planning writing
computing = 0
